use Rattle.std.proofs.Common.{true, false, sym, ap, ◌∙◌, subst}
use Rattle.clc_types.specs.declared.typed.Node.{Node}
use Rattle.clc_types.specs.declared.typed.TExpr.{TExpr}
use Rattle.item_meaning.specs.ItemMeaning.{value, value_of}
use Rattle.item_run.specs.Nodes.{IsCore}
use Rattle.item_run.proofs.Exprs.{value-Paren, value-alone, core-Chain, some_length}
use Rattle.item_run.proofs.parens.+inner_value.Goals as goal

pub returns-in-Paren-clause-same : goal.returns-in-Paren-clause-same
returns-in-Paren-clause-same t c = λ w k s.
    let e = c.args.e.now in
    ap (λ (n : Node). value_of w k e.at e.ty n s) c.in-Paren.is
    ∙ value-Paren w k e.at e.ty c.in-Paren.inner s
    ∙ ap (λ (a : TExpr). value w k a s) (sym c.get.ensures)
    ∙ c.inner_value.ensures.same w k s

pub returns-then-is_empty-clause-same : goal.returns-then-is_empty-clause-same
returns-then-is_empty-clause-same t c = λ w k s.
    let e = c.args.e.now in
    ap (λ (n : Node). value_of w k e.at e.ty n s) c.in-Chain.is
    ∙ value-alone w k e.at e.ty c.in-Chain.first c.in-Chain.rest s (c.is_empty.ensures.0 c.if-is_empty.true)
    ∙ ap (λ (a : TExpr). value w k a s) (sym c.get-then-is_empty.ensures)
    ∙ c.inner_value-then-is_empty.ensures.same w k s

pub returns-else-is_empty-clause-core : goal.returns-else-is_empty-clause-core
returns-else-is_empty-clause-core t c =
    let f = c.if-is_empty.false in
    subst IsCore (sym c.in-Chain.is) (core-Chain c.in-Chain.first c.in-Chain.rest (some_length c.in-Chain.rest (λ h. let e = c.is_empty.ensures.1 h in absurd (cc))))
