pub mod Weights
pub mod LaneMeaning
pub mod Valid
pub mod Kept
pub mod Recipe
pub mod Undivided
pub mod Batch
