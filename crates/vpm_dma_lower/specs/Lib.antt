pub mod Elements
pub mod Code
pub mod Accesses
pub mod Valid
