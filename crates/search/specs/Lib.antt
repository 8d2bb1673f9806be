-- How the engine's values stand for what `steps` speaks of, and what its functions ask.
pub mod Values
pub mod Needs
pub mod Demands
