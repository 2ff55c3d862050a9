pub mod Profile
pub mod Kernels
pub mod EmptyCode
pub mod Laws
