use Rattle.std.proofs.Common.{◌∙◌}
use Rattle.footprint.proofs.ConflictLaws.{least_of}
use Rattle.footprint.proofs.conflicts.conflict.Goals as goal

pub returns : goal.returns
returns c =
    least_of c.deref.result.now c.deref-2.result.now c.args.a.now c.args.b.now c.first_of.result (c.deref.ensures.value ∙ c.a.view_is)
    (c.deref-2.ensures.value ∙ c.b.view_is) c.first_of.ensures
