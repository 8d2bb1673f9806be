-- The options that are left as a word, the book in its work table, and the proofs of the functions.
pub mod Left
pub mod Kept
pub mod Opens
pub mod Played
