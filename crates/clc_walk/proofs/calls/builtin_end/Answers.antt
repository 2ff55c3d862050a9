use Rattle.std.proofs.Common.{sym, ◌∙◌}
use Rattle.clc_walk.proofs.WalkRules.{refused}
use Rattle.clc_walk.proofs.calls.builtin_end.Goals as goal

pub returns-in-Some : goal.returns-in-Some
returns-in-Some c =
    let h = rw (c.as_slice.ensures.value) at c.builtin_needs.ensures in
    refused _ _ c.in-Some.f c.broken.result c.args.at.now (sym h ∙ c.in-Some.is) c.broken.ensures
