-- Laws for the proofs of the calls.
pub mod Laws
