pub mod Turns
pub mod WordsStay
