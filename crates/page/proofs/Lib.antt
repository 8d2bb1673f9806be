-- Laws of a rule's entries and text, of the lines, and of what a page is of, and the proofs of the demands.
pub mod Entries
pub mod Text
pub mod Printable
pub mod Lines
pub mod Asked
pub mod Examples
pub mod Unique
pub mod Demands
