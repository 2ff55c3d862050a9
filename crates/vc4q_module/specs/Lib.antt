pub mod ModuleBytes
pub mod Laws
