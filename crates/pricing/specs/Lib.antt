-- What the functions under the entry point ask and promise. The definition is in crate `cheapest`.
pub mod Tables
pub mod Promises
