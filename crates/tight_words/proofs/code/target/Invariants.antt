use Rattle.std.proofs.Common.{◌≡◌, false}
use Rattle.tight_words.specs.Code.{any_below, branches_to}
use Rattle.tight_words.proofs.code.target.Given as goal

abbrev pub invariant-loop-b : goal.invariant-loop-b
invariant-loop-b l = any_below l.b (λ b. branches_to l.words b l.t) ≡ false
