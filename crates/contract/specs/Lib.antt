-- What a check of a book and an order gives, and the demands on it. `Check` is the definition, `Demands` the page to read, and `Asked` what it says of one answer.
pub mod Check
pub mod Filled
pub mod Demands
pub mod Asked
