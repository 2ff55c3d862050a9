pub mod Numbers
pub mod Vectors
pub mod Laws
