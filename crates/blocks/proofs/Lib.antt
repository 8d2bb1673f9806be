-- Laws of settings that are tried side by side.
pub mod Taking
pub mod Doubling
pub mod Summing
pub mod Marking
