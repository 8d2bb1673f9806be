-- The free options are settled in turn. `Turns` is the definition, `Meaning` what it means, and `Demands` the page to read. `Values` has what the code gives as a value of
-- the definition.
pub mod Turns
pub mod Values
pub mod Meaning
pub mod Handed
pub mod Demands
