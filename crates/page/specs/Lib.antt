-- A page for the file: the outcome as lines of 40 characters. `Entries` and `Page` are the definition, `Filed` is what the exported function does, and `Demands` the page to read.
pub mod Entries
pub mod Page
pub mod Filed
pub mod Demands
