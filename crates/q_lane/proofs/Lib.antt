pub mod VectorLaws
pub mod Rotations
pub mod WordLaws
