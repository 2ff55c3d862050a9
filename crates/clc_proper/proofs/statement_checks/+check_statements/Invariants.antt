use Rattle.std.proofs.Common.{◌≡◌, map, drop}
use Rattle.clc_proper.specs.Proper.{all, part_proper}
use Rattle.clc_proper.proofs.statement_checks.+check_statements.Given as goal

abbrev pub invariant-is_block-loop-part : goal.invariant-is_block-loop-part
invariant-is_block-loop-part l = all (map part_proper l.part-items) ≡ all (map part_proper (drop l.part-index l.part-items))
