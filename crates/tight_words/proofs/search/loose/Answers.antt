use Rattle.std.proofs.Common.{◌≤◌, false, length, sym, ◌∙◌, arith}
use Rattle.tight_words.proofs.Decide.{loose_sound, none_more, none_beyond}
use Rattle.tight_words.proofs.search.loose.Goals as goal

pub returns-then-loose_at-clause-some : goal.returns-then-loose_at-clause-some
returns-then-loose_at-clause-some c =
    record { loose = loose_sound c.args.words.now c.loop-i.i (sym c.loose_at.ensures ∙ c.if-loose_at.true); least = λ k l. c.loop-i.invariant k (omega arith) l }

pub returns-then-loose_at-clause-none : goal.returns-then-loose_at-clause-none
returns-then-loose_at-clause-none c =
    ((λ e. absurd (cc)), (λ t. absurd (t c.loop-i.i (loose_sound c.args.words.now c.loop-i.i (sym c.loose_at.ensures ∙ c.if-loose_at.true)))))

pub loop-i-preserved : goal.loop-i-preserved
loop-i-preserved c = none_more c.args.words.now 0 c.loop-i.i c.loop-i.invariant (sym c.loose_at.ensures ∙ c.if-loose_at.false)

pub returns-clause-none : goal.returns-clause-none
returns-clause-none c =
    let done : length c.args.words.now ≤ c.loop-i.i = omega arith in
    ((λ e i. none_beyond c.args.words.now 0 c.loop-i.i c.loop-i.invariant done i (omega arith)), (λ t. λ i. false))
