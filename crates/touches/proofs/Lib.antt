pub mod SaysLaws
pub mod MarkLaws
pub mod TellLaws
