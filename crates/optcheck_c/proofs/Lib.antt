-- The demand on the exported check.
pub mod Demands
