-- Laws that the entry point shares with its parts.
pub mod Written
pub mod Working
