-- Options renumbered and reversed. `Renumbering` is the definition, and `Demands` the page to read.
pub mod Renumbering
pub mod Demands
