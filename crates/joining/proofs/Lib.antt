-- Laws for the functions that join two books.
pub mod Judged
pub mod Renamed
pub mod Joined
