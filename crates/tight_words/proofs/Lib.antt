pub mod Any
pub mod Profile
pub mod Signal
pub mod Same
pub mod Canon
pub mod Find
pub mod Decide
