-- Laws of turns, and the proofs of the demands.
pub mod Listing
pub mod Judging
pub mod Turning
pub mod Rounds
pub mod Ways
pub mod Plays
mod Examples
pub mod Demands
