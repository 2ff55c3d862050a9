pub mod RuleNames
pub mod Kernel
pub mod Language
pub mod Openings
pub mod Faithful
pub mod Laws
pub mod WrongModules
