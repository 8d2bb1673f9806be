-- Laws of the reply, how much of an input it depends on, and the proofs of the demands.
pub mod Reply
pub mod Input
pub mod Examples
pub mod Demands
