pub mod Touched
pub mod Tells
pub mod First
