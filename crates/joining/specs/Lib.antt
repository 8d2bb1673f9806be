-- What the functions under the entry point promise.
pub mod Promises
