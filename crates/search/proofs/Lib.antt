-- Laws that the search's proofs share.
pub mod Branching
pub mod Points
pub mod Sides
pub mod Seconds
pub mod Handing
pub mod Demands
