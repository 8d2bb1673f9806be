-- The demands on a desk with drafts.
pub mod Calls
pub mod Runs
pub mod Back
pub mod Fitting
pub mod Demands
