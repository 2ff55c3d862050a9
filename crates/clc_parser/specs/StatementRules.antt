-- The readers of declarations and statements, under this crate's name.
pub use Rattle.clc_tree.specs.StatementRules.{optional, pointer_from, maybe, initial, array_from, item_of, item_after, values_from, named_from, declaration, block_part, block, tested, for_start, for_head, if_from, while_from, do_from, for_from, return_from, evaluated, jump, governing, statement}
