-- Laws of refusals, of reading and of the encoder.
pub mod Refusals
pub mod Tests
pub mod Conditions
pub mod Bytes
pub mod Eight
pub mod Readings
pub mod UnitClauses
pub mod Orders
pub mod Accepted
pub mod Placed
pub mod Putting
pub mod Encoding
pub mod RoundTrip
pub mod Demands
