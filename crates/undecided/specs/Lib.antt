-- Options that a buyer has not decided. `Values` is what is answered, `Settings` lists the settings of the open options, `Undecided` is the definition, `Told` what a caller is handed, and `Demands` the page to read.
pub mod Values
pub mod Settings
pub mod Undecided
pub mod Told
pub mod Demands
