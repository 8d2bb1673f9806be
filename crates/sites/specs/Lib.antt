-- Sites that share one allowance. `Values` is what is answered, `Sites` is the definition over the whole list, `Terminal` that of a call, `Handed` what a caller is handed, and `Demands` the page to read.
pub mod Values
pub mod Sites
pub mod Terminal
pub mod Handed
pub mod Demands
