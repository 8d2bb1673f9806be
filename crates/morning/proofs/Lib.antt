-- The demands on a morning.
pub mod Parts
pub mod Judging
pub mod Serving
pub mod Examples
pub mod Demands
