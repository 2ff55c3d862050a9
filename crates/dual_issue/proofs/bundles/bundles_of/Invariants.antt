-- The blocks so far, and those that are left.
use Rattle.std.proofs.Common.{◌≡◌, ◌++◌, drop, map}
use Rattle.phys_ir.specs.Leads.{exit_of, pairs_exit}
use Rattle.dual_issue.proofs.bundles.bundles_of.Given as goal

abbrev pub invariant-loop-block : goal.invariant-loop-block
invariant-loop-block l = map pairs_exit l.out.items ++ map exit_of (drop l.block-index l.blocks) ≡ map exit_of l.blocks
