use Rattle.std.proofs.Common.{◌≤◌, length, sym, ◌∙◌, arith}
use Rattle.tight_words.proofs.Decide.{loose_sound, none_more, none_beyond}
use Rattle.tight_words.proofs.search.loose_from.Goals as goal

pub returns-then-loose_at-clause-some : goal.returns-then-loose_at-clause-some
returns-then-loose_at-clause-some c =
    (c.loop-i.auto.i, c.loop-i-test.true, loose_sound c.args.words.now c.loop-i.i (sym c.loose_at.ensures ∙ c.if-loose_at.true), c.loop-i.invariant)

pub loop-i-preserved : goal.loop-i-preserved
loop-i-preserved c = none_more c.args.words.now c.args.start c.loop-i.i c.loop-i.invariant (sym c.loose_at.ensures ∙ c.if-loose_at.false)

pub returns-clause-none : goal.returns-clause-none
returns-clause-none c =
    let done : length c.args.words.now ≤ c.loop-i.i = omega arith in
    (λ e k s. none_beyond c.args.words.now c.args.start c.loop-i.i c.loop-i.invariant done k s)
