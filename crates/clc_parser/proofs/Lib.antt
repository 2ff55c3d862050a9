mod Handing
mod Chains
mod Parts
mod Top
pub mod OneAnswer
