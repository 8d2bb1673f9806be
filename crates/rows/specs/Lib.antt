-- The rows of the work tables, and how the code's values stand for what `steps` speaks of.
pub mod Values
pub mod Rows
pub mod Index
pub mod Tally
pub mod Demands
