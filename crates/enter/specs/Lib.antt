-- What there is to do at a point, as a value of `steps`.
pub mod Turns
