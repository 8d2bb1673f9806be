-- The clauses that are still open where some options are settled.
pub mod Narrowing
