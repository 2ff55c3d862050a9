pub mod Numbers
pub mod ModuleLaws
pub mod Faults
