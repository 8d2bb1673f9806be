-- Laws that the proofs of step 7 share.
pub mod Joined
