use Rattle.std.proofs.Common.{◌≡◌, ◌++◌, map, drop}
use Rattle.clc_tree.specs.Flat.{joined, block_part_tokens}
use Rattle.clc_tree_tokens.proofs.statement_tokens.+put_statements.Given as goal

abbrev pub invariant-put_block-loop-part : goal.invariant-put_block-loop-part
invariant-put_block-loop-part l =
    l.tokens.items ++ joined (map block_part_tokens (drop l.part-index l.part-items)) ≡ l.initial.tokens.items ++ joined (map block_part_tokens l.part-items)
