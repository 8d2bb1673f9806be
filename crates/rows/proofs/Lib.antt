-- Laws of the work tables, for every proof that reads or writes one.
pub mod Lists
pub mod Tables
pub mod Counts
pub mod Blocks
pub mod Both
pub mod Reading
pub mod Walks
pub mod Chains
mod Additions
mod Strikes
mod Shifts
pub mod Demands
