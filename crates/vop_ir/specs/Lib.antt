pub mod Around
pub mod Meaning
pub mod Runs
pub mod OneWord
pub mod Valid
pub mod Operations
