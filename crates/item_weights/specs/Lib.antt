pub mod Agreement
pub mod Bodies
pub mod Law
pub mod Nodes
