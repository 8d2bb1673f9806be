-- Laws of writing a text into a buffer, of decimal numbers, of fields and of the lines, and the proofs of the demands.
pub mod Writing
pub mod Digits
pub mod Decimals
pub mod Printed
pub mod Unique
pub mod Widths
pub mod Parts
pub mod Length
pub mod Demands
