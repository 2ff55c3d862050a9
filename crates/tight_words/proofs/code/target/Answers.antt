use Rattle.std.proofs.Common.{length, sym, ◌∙◌}
use Rattle.tight_words.specs.Code.{branches_to, is_target}
use Rattle.tight_words.proofs.Any.{found}
use Rattle.tight_words.proofs.code.target.Goals as goal

pub returns-then-jumps : goal.returns-then-jumps
unfolding is_target
returns-then-jumps c =
    sym (found (length c.args.words.now) (λ b. branches_to c.args.words.now b c.args.t) c.loop-b.b c.loop-b-test.true (sym c.jumps.ensures ∙ c.if-jumps.true))
