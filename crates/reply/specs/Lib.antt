-- What the program prints for what it reads. `Reply` is the definition, and `Demands` the page to read.
pub mod Reply
pub mod Demands
