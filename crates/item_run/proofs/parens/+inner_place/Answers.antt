use Rattle.std.proofs.Common.{sym, ap, ◌∙◌}
use Rattle.clc_types.specs.declared.typed.Node.{Node}
use Rattle.clc_types.specs.declared.typed.TExpr.{TExpr}
use Rattle.item_meaning.specs.ItemMeaning.{place_of}
use Rattle.item_run.proofs.Exprs.{place-Paren}
use Rattle.item_run.proofs.Stmts.{does-Block}
use Rattle.item_run.proofs.Spent.{while_spent}
use Rattle.item_run.proofs.Called.{no_call}
use Rattle.item_run.proofs.Marks.{plain_operator}
use Rattle.item_run.proofs.Parts.{goes}
use Rattle.item_run.proofs.Rounds.{loop_over}
use Rattle.item_run.proofs.parens.+inner_place.Goals as goal

pub returns-in-Paren-clause-same : goal.returns-in-Paren-clause-same
returns-in-Paren-clause-same t c = λ w k s.
    let e = c.args.e.now in
    ap (λ (n : Node). place_of w k e.at e.ty n s) c.in-Paren.is
    ∙ place-Paren w k e.at e.ty c.in-Paren.inner s
    ∙ ap (λ (a : TExpr). place_of w k a.at a.ty a.node s) (sym c.get.ensures)
    ∙ c.inner_place.ensures.same w k s
