-- What book bytes and an order are: a book, or the number of the refusal. `Refusals` has the rows as they are tested, and
-- `Conditions` what each means.
pub mod Limits
pub mod Bytes
pub mod Refusals
pub mod Reading
pub mod Conditions
pub mod Values
pub mod Written
pub mod Units
pub mod Demands
