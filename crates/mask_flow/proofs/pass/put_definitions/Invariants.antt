use Rattle.std.proofs.Common.{◌≡◌, ◌++◌, drop, true}
use Rattle.lane_mapper.specs.Definitions.{are_definitions}
use Rattle.mask_flow.proofs.pass.put_definitions.Given as goal

abbrev pub invariant-loop-stmt : goal.invariant-loop-stmt
invariant-loop-stmt l = record {
  same : l.out.items ++ drop l.stmt-index l.body ≡ l.initial.out.items ++ l.body;
  definitions : are_definitions (drop l.stmt-index l.body) ≡ true;
}
