-- What the functions of this crate promise. The definition and the demands are in crate `morning`.
pub mod Promises
