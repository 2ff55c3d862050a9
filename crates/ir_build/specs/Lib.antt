pub mod Code
pub mod Adds
pub mod Lists
pub mod Build
