-- What the sweep's functions ask of their callers, and its answers as the values of `steps`.
pub mod Sweep
