pub mod Profile
pub mod Kinds
pub mod Laws
