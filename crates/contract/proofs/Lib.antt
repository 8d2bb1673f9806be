-- The proofs of the demands on a check.
pub mod Examples
pub mod Checking
pub mod Filling
pub mod NeverCovered
pub mod Completed
pub mod Demands
pub mod Asked
