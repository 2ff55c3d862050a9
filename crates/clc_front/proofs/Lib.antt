pub mod Violations
pub mod SourceSteps
pub mod KindsAt
