pub mod Piece
pub mod Words
pub mod Elements
pub mod Moves
pub mod Rules
pub mod Access
pub mod Laws
pub mod Cases
