pub mod ConflictLaws
pub mod OrderLaws
pub mod ReachLaws
pub mod SweepLaws
