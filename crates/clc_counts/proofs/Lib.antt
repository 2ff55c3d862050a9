pub mod Saturates
pub mod Within
