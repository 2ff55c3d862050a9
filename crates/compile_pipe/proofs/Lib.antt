pub mod Violations
pub mod EmptyRun
pub mod IdleItems
mod IdleNodes
pub mod EmptyFaithful
pub mod KernelLaws
