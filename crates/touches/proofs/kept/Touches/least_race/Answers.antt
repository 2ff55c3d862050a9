use Rattle.std.proofs.Common.{◌∙◌, subst, List}
use Rattle.touches.specs.declared.touch.Touch.{Touch}
use Rattle.touches.specs.First.{IsFirstInTable}
use Rattle.touches.proofs.TellLaws.{least_found}
use Rattle.touches.proofs.kept.Touches.least_race.Goals as goal

pub returns : goal.returns
returns c = λ ended tells.
    least_found ended c.args.self.now c.first_race.result tells
    (subst (λ (rows : List (List Touch)). IsFirstInTable rows c.first_race.result) (c.deref.ensures.value ∙ c.self.view_is) c.first_race.ensures)
