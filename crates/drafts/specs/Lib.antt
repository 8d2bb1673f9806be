-- A desk with drafts to come back to. `Desk` is the definition of a call, `Values` says what the code's results are there, and `Demands` is the page to read.
pub mod Desk
pub mod Values
pub mod Demands
