-- The proofs of the demands on renumbered and reversed options.
pub mod Permutations
pub mod Carrying
pub mod Choices
pub mod Books
pub mod Identity
pub mod Examples
pub mod Demands
