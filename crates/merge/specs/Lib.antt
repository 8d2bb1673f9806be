-- How a side ends, as a value of `steps`, and what the functions of step 7 ask.
pub mod Sides
pub mod Needs
