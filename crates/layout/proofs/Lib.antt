-- Laws of the text of a rule and its line, and of the page of a check.
pub mod Shown
pub mod Checked
