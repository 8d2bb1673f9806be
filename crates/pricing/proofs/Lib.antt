-- Plans and what improves them, clauses that cannot be kept any more, the settings at the end of a walk, and the proofs of the functions.
pub mod Plans
pub mod Cuts
pub mod Lasts
pub mod Ends
pub mod Points
pub mod Prepared
pub mod Choices
pub mod Whole
