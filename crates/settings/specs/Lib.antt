-- What the functions of this crate promise. The definition and the demands are in crate `undecided`.
pub mod Promises
