pub mod Meaning
pub mod Registers
pub mod Code
pub mod Joint
pub mod Tight
