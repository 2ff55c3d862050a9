pub mod Memory
pub mod IrMeaning
pub mod Valid
