use Rattle.std.proofs.Common.{◌≡◌, ◌&&◌, false}
use Rattle.tight_words.specs.Code.{any_below}
use Rattle.tight_words.specs.Joint.{fits_some_b, is_useful_a}
use Rattle.tight_words.proofs.fitting.fit_some.Given as goal

abbrev pub invariant-loop-ra : goal.invariant-loop-ra
invariant-loop-ra l = any_below l.ra (λ ra. is_useful_a l.m ra && fits_some_b l.words l.i l.m ra) ≡ false
