-- Laws that the proofs of `enter` and `swept` share.
pub mod Turns
