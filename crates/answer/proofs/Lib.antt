-- Laws of the answer that tells an outcome and of the word of an answer, and the demands on the word.
pub mod Ending
pub mod Word
pub mod Passing
pub mod Apart
pub mod Demands
