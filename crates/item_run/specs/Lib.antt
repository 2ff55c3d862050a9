pub mod Settings
pub mod Nodes
pub mod Lists
