-- Laws of words as sets of variables, by membership.
pub mod Truth
pub mod Membership
pub mod Sets
pub mod Unions
pub mod Lowest
pub mod Count
pub mod Listing
pub mod Highest
pub mod Demands
