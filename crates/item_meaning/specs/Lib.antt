pub mod ItemState
pub mod Operators
pub mod Places
pub mod NodeMeanings
pub mod StatementMeanings
pub mod ItemMeaning
pub mod Rows
