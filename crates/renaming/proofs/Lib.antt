-- Laws of variables under other numbers.
pub mod Images
pub mod Keeping
pub mod Demands
