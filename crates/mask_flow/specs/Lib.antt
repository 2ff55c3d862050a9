pub mod Masked
pub mod Heights
