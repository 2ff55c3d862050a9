use Rattle.std.proofs.Common.{◌≡◌, drop}
use Rattle.clc_types.specs.Rules.{fits}
use Rattle.clc_types.specs.InternalAnswers.{first}
use Rattle.clc_walk.proofs.calls.fits.Given as goal

abbrev pub invariant-loop-i : goal.invariant-loop-i
invariant-loop-i l = first (fits (drop l.i l.params) (drop l.i l.args)) ≡ first (fits l.params l.args)
