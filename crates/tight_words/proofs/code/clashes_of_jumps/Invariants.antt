use Rattle.std.proofs.Common.{◌≡◌, ◌+◌, ◌&&◌, false}
use Rattle.tight_words.specs.Registers.{clash}
use Rattle.tight_words.specs.Code.{any_below, branches_to, form_at}
use Rattle.tight_words.proofs.code.clashes_of_jumps.Given as goal

abbrev pub invariant-loop-b : goal.invariant-loop-b
invariant-loop-b l = any_below l.b (λ b. branches_to l.words b l.i && clash (form_at l.words (b + 3)) l.f) ≡ false
