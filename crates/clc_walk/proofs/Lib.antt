mod Keys
pub mod Steps
pub mod Listed
pub mod ForParts
pub mod Heads
pub mod WalkRules
