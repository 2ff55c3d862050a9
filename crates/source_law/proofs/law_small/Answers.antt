use Rattle.std.proofs.Common.{ℕ, ◌≤◌, List, sym, subst}
use Rattle.item_ir.specs.declared.form.Stmt.{Stmt}
use Rattle.ir_weights.specs.Weights.{IsAtMost, weight_of_item}
use Rattle.ir_build.specs.Build.{body_code}
use Rattle.item_weights.specs.Law.{limit, total}
use Rattle.source_law.proofs.law_small.Goals as goal

pub returns : goal.returns
returns c = λ tree functions kernel f body ir proper typed found inlined form numbers.
    let small = c.law_programs.ensures tree functions kernel f body proper typed found inlined in
    let code = body_code body.vars.items body.params body.body in (
      small.some,
      small.few,
      subst (λ (l : List Stmt). IsAtMost (weight_of_item ir.vals ir.vars l) (limit body.nodes)) (sym form.code)
          (subst (λ n. IsAtMost (weight_of_item n ir.vars code.stmts) (limit body.nodes)) (sym numbers.vals)
          (subst (λ n. IsAtMost (weight_of_item code.next n code.stmts) (limit body.nodes)) (sym numbers.vars) small.weight)),
      subst (λ (l : List ℕ). total l ≤ 1024) (sym form.arrays) small.elements,
    )
