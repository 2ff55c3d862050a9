pub mod Uses
pub mod Restrictions
pub mod Laws
