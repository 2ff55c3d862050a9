-- The readers of functions and programs, under this crate's name.
pub use Rattle.clc_tree.specs.ProgramRules.{parameter, parameter_after, parameters, result, function_rule, program}
