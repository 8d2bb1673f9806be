-- An order and the order that it is completed to. `Order` is the definition, and `Demands` the page to read.
pub mod Order
pub mod Values
pub mod Demands
