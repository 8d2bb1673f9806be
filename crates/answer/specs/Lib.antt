-- The answer to a check. `Answer` reads an outcome as an answer, `Numbers` gives refusals and stops their numbers, `Packed` is an answer as a word, and `Demands` the page to read.
pub mod Answer
pub mod Numbers
pub mod Packed
pub mod Demands
