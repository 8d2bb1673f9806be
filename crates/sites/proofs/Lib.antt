-- The demands on sites that share one allowance.
pub mod Serving
pub mod Calling
pub mod Handing
pub mod Examples
pub mod Demands
