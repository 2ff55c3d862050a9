pub mod Accs
pub mod Chain
pub mod Count
pub mod Early
