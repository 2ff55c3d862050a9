pub mod Code
pub mod Clears
pub mod Whole
pub mod Emitting
