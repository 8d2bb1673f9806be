-- The printed outcome: decimal numbers, fields, lines and the whole text as bytes, and what it is to write a text into a buffer.
pub mod Ascii
pub mod Decimal
pub mod Fields
pub mod Write
pub mod Writer
pub mod Text
pub mod Examples
pub mod Demands
