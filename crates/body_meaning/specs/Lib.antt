pub mod BodyMeaning
pub mod Rows
