pub mod Bytes
pub mod Runs
pub mod Accesses
pub mod Statements
pub mod Overlaid
mod Forms
mod Small
