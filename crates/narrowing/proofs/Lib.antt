-- Laws of clauses that are still open.
pub mod Opens
