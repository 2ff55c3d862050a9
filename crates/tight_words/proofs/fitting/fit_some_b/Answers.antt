use Rattle.std.proofs.Common.{◌≡◌, ℕ, false, sym, ap, subst, arith, ◌∙◌}
use Rattle.std.specs.Prelude.{is_some}
use Rattle.tight_words.specs.Code.{any_below}
use Rattle.tight_words.specs.Joint.{fits_b, fits_some_b}
use Rattle.tight_words.proofs.Any.{found}
use Rattle.tight_words.proofs.fitting.fit_some_b.Goals as goal

pub returns-in-Some-clause-found : goal.returns-in-Some-clause-found
unfolding fits_some_b
returns-in-Some-clause-found c =
    sym (found 64 (λ rb. fits_b c.args.words.now c.args.i c.args.m.now c.args.ra rb) c.loop-rb.rb c.loop-rb-test.true (sym c.fit_b.ensures.found ∙ ap is_some c.in-Some.is))

pub returns-clause-found : goal.returns-clause-found
unfolding fits_some_b
returns-clause-found c =
    let all : c.loop-rb.rb ≡ 64 = omega arith in
    sym (subst (λ (n : ℕ). any_below n (λ rb. fits_b c.args.words.now c.args.i c.args.m.now c.args.ra rb) ≡ false) all c.loop-rb.invariant)
