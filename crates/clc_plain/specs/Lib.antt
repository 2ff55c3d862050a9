pub mod ArePlain
pub mod Plain
