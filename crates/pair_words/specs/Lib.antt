pub mod Reads
pub mod Writes
pub mod PairForm
pub mod PairMeaning
pub mod PairSaid
