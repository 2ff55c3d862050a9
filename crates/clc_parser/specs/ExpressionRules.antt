-- The readers of expressions, under this crate's name.
pub use Rattle.clc_tree.specs.ExpressionRules.{scalar, expression, comma_step, assign, bare, conditional, choice_from, chain, cast, cast_from, unary, post, post_from, post_step, paren_from, arguments, named, primary}
