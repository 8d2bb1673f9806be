-- The worst books at the entry point. `Demands` is the page to read.
pub mod Demands
