-- The lent tables as the code passes them, and the work tables of a check: what its parts ask of them, and what they leave there.
pub mod Lent
pub mod Work
