-- What the exported check leaves behind: `Exported` is the promise, and `Demands` the page to read. What the exported morning does is said in crate `morning`, and what is
-- handed over of open options in crate `undecided` (`Told`), and of a terminal in crate `sites` (`Handed`).
pub mod Exported
pub mod Demands
