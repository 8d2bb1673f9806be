-- The demands on options that are left open.
pub mod Subsets
pub mod Walk
pub mod Judging
pub mod Wishes
pub mod Trying
pub mod Tables
pub mod Examples
pub mod Found
pub mod Demands
