pub mod Codes
pub mod WordFields
pub mod Operations
pub mod Laws
