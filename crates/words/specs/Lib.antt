-- A word as a set of variables: the definitions that the clauses of every crate cite.
pub mod Words
pub mod Demands
