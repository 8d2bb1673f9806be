-- Laws of the walk, of the choice from its notes and of the sweep, and under each function's name the proof that it meets its contract.
pub mod Members
pub mod Noting
pub mod Walks
pub mod Choosing
pub mod Points
pub mod Strikes
mod Turns
