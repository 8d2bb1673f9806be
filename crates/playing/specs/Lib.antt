-- What the functions under the entry point promise. The definition is in crate `turns`.
pub mod Promises
