use Rattle.std.proofs.Common.{◌≡◌, ℕ, ◌&&◌, false, sym, ap, subst, arith, ◌∙◌}
use Rattle.std.specs.Prelude.{is_some}
use Rattle.tight_words.specs.Code.{any_below}
use Rattle.tight_words.specs.Joint.{fits_some_b, is_useful_a, fits_some}
use Rattle.tight_words.proofs.Any.{found}
use Rattle.tight_words.proofs.fitting.fit_some.Goals as goal

pub returns-in-Some-clause-found : goal.returns-in-Some-clause-found
unfolding fits_some
returns-in-Some-clause-found c =
    sym (found 64 (λ ra. is_useful_a c.args.m.now ra && fits_some_b c.args.words.now c.args.i c.args.m.now ra) c.loop-ra.ra c.loop-ra-test.true (sym c.fit_useful_a.ensures.found ∙ ap is_some c.in-Some.is))

pub returns-clause-found : goal.returns-clause-found
unfolding fits_some
returns-clause-found c =
    let all : c.loop-ra.ra ≡ 64 = omega arith in
    sym (subst (λ (n : ℕ). any_below n (λ ra. is_useful_a c.args.m.now ra && fits_some_b c.args.words.now c.args.i c.args.m.now ra) ≡ false) all c.loop-ra.invariant)
