mod Finding
pub mod Scopes
