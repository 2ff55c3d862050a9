pub mod Written
pub mod Clashes
pub mod Accesses
