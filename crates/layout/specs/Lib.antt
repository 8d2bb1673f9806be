-- What the functions between the check and the page need and give.
pub mod Layout
