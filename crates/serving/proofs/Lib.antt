-- Laws of the loop over the orders, and of the places that a part has.
pub mod Lending
pub mod Going
