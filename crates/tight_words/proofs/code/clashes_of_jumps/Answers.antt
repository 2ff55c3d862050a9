use Rattle.std.proofs.Common.{◌≡◌, ◌+◌, ◌&&◌, true, length, sym, ap, refl, ◌∙◌}
use Rattle.tight_words.specs.Registers.{clash}
use Rattle.tight_words.specs.Code.{form_at, branches_to, clash_of_jumps}
use Rattle.tight_words.proofs.Any.{found}
use Rattle.tight_words.proofs.code.clashes_of_jumps.Goals as goal

pub returns-then-clashes : goal.returns-then-clashes
unfolding clash_of_jumps
returns-then-clashes c =
    let jumps : branches_to c.args.words.now c.loop-b.b c.args.i ≡ true = sym c.jumps.ensures ∙ c.if-jumps.true in
    let clashes : clash (form_at c.args.words.now (c.loop-b.b + 3)) c.args.f.now ≡ true = ap (λ p. clash p c.args.f.now) (sym c.form.ensures) ∙ sym c.clashes.ensures ∙ c.if-clashes.true in
    sym (found (length c.args.words.now) (λ b. branches_to c.args.words.now b c.args.i && clash (form_at c.args.words.now (b + 3)) c.args.f.now) c.loop-b.b c.loop-b-test.true (rw (jumps, clashes) refl))
