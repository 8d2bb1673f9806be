-- Laws of cleared tables, of the refusals, and of the loop over the settings.
pub mod Clearing
pub mod Rows
pub mod Going
