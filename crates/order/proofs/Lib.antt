-- Laws of a completed order, and the proofs of the demands.
pub mod Completed
pub mod Demands
