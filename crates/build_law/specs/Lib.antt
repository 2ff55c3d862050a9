pub mod Keeps
pub mod Law
pub mod Launched
