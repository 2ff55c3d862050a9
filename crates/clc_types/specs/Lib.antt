pub mod Judged
pub mod TypeArithmetic
pub mod Rules
pub mod Words
pub mod Typing
pub mod Heights
pub mod Names
pub mod Blocks
pub mod Programs
pub mod WellTyped
-- internal: what the code that walks over a program computes step by step. No statement of `check` names these
pub mod InternalScope
pub mod InternalWalk
pub mod InternalAnswers
pub mod InternalSteps
pub mod InternalWalks
