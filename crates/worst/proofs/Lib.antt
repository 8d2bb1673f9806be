-- The proofs of the demands on a check of a worst book.
pub mod Checks
pub mod Examples
pub mod Demands
