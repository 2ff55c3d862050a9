pub mod RowLaws
pub mod Access
pub mod Words
