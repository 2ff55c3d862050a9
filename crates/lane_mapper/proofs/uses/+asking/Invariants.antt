use Rattle.std.proofs.Common.{◌≡◌, drop}
use Rattle.lane_mapper.specs.Asked.{asked_all}
use Rattle.lane_mapper.proofs.uses.+asking.Given as goal

abbrev pub invariant-with_body-loop-stmt : goal.invariant-with_body-loop-stmt
invariant-with_body-loop-stmt l = asked_all l.uses (drop l.stmt-index l.body) ≡ asked_all l.fn.uses l.body
