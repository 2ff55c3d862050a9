pub mod Lists
pub mod Loops
pub mod Clearing
pub mod Operations
pub mod Pieces
pub mod Statements
pub mod Programs
