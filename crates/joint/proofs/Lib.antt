-- The demands on two books that are joined.
pub mod Pairs
pub mod Places
pub mod Numbers
pub mod Judging
pub mod Choices
pub mod Examples
pub mod Demands
