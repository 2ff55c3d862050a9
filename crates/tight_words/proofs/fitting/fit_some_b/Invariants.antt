use Rattle.std.proofs.Common.{◌≡◌, false}
use Rattle.tight_words.specs.Code.{any_below}
use Rattle.tight_words.specs.Joint.{fits_b}
use Rattle.tight_words.proofs.fitting.fit_some_b.Given as goal

abbrev pub invariant-loop-rb : goal.invariant-loop-rb
invariant-loop-rb l = any_below l.rb (λ rb. fits_b l.words l.i l.m l.ra rb) ≡ false
