pub mod Places
pub mod Pairs
pub mod OneWord
pub mod Leads
