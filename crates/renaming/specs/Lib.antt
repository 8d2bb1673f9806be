-- Variables under other numbers. `Renaming` is the definition, and `Demands` the page to read.
pub mod Renaming
pub mod Demands
