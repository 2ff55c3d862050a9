-- what is promised: the tree of a list of tokens, or its first fault
pub mod SourceTree
-- internal: how the code goes on from token to token. No clause of `parse` needs these to be believed
pub mod ExpressionRules
pub mod StatementRules
pub mod ProgramRules
pub mod Parts
pub mod Reads
