-- A morning's orders. `Parts` cuts the tables, `Morning` is the definition, and `Demands` the page to read.
pub mod Parts
pub mod Morning
pub mod Demands
