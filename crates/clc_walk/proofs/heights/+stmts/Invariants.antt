use Rattle.std.proofs.Common.{◌≡◌, drop}
use Rattle.std.specs.Prelude.{map, max}
use Rattle.clc_types.specs.Heights.{greatest, stmt_reach}
use Rattle.clc_walk.proofs.heights.+stmts.Given as goal

abbrev pub invariant-stmts_reach-loop-s : goal.invariant-stmts_reach-loop-s
invariant-stmts_reach-loop-s l = max l.most (greatest (map (stmt_reach l.heights) (drop l.s-index l.all))) ≡ greatest (map (stmt_reach l.heights) l.all)
