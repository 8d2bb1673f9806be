-- The steps as definitions that compute, in their order, and what is demanded of them. `Demands` is the page to read; docs/STEPS.md has the steps in words.
pub mod Lists
pub mod Clause
pub mod State
pub mod Sweep
pub mod Notes
pub mod Tally
pub mod Enter
pub mod Merge
pub mod Search
pub mod Run
pub mod Marked
pub mod Worst
pub mod Reached
pub mod Shape
pub mod Meaning
pub mod Demands
