pub mod Called
pub mod Chains
pub mod Numbers
pub mod NamedForms
