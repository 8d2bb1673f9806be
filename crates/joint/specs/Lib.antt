-- Two books joined to one. `Pairs` has the pairs and the numbers that the second book's options get, `Join` the joint book and the refusals, `Handed` what the
-- exported function hands over; `Demands` is the page to read.
pub mod Pairs
pub mod Join
pub mod Handed
pub mod Demands
