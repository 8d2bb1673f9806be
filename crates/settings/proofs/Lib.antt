-- Laws of a cleared table.
pub mod Clearing
