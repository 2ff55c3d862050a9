pub mod TestLayers
pub mod ProperPasses
pub mod PassesProper
