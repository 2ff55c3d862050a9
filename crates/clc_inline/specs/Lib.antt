pub mod Inlines
pub mod Inlining
pub mod InSetting
pub mod Named
pub mod NamedLists
