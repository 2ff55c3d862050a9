pub mod Marks
pub mod Order
pub mod Reaches
pub mod Least
pub mod Laws
