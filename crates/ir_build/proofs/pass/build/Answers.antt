use Rattle.std.proofs.Common.{List, ◌∙◌, ap}
use Rattle.std.specs.Prelude.{map}
use Rattle.clc_types.specs.declared.typed.Var.{Var}
use Rattle.ir_build.specs.Build.{array_length, kinds_of}
use Rattle.ir_build.proofs.Whole.{whole_grows, whole_valid}
use Rattle.ir_build.proofs.pass.build.Goals as goal

pub invariant_of-result : goal.invariant_of-result
invariant_of-result c =
    let body = c.args.body.now in
    record {
      valid =
          whole_valid body.vars.items body.params c.in_ok-numbers.numbers body.body c.statement.new.out.items c.in_ok-array_lengths.field-0.items c.in_ok-first_kinds.field-0.items
          body.valid
          (whole_grows body.vars.items _ body.params _ _ _ _ body.body _ _ _ c.as_slice-vars.ensures.value c.in_ok-result.ensures c.in_ok-after.ensures c.new-stmts.ensures.items
          c.in_ok-first.ensures.code c.in_ok-first.ensures.next c.in_ok-numbers.ensures)
          (c.in_ok-array_lengths.ensures ∙ ap (map array_length) c.as_slice-vars.ensures.value)
          (c.in_ok-first_kinds.ensures ∙ ap (λ (z : List Var). kinds_of z body.params) c.as_slice-vars.ensures.value);
    }

pub returns-clause-code : goal.returns-clause-code
returns-clause-code c =
    (whole_grows c.args.body.now.vars.items _ c.args.body.now.params _ _ _ _ c.args.body.now.body _ _ _ c.as_slice-vars.ensures.value c.in_ok-result.ensures c.in_ok-after.ensures c.new-stmts.ensures.items
    c.in_ok-first.ensures.code c.in_ok-first.ensures.next c.in_ok-numbers.ensures).0

pub returns-clause-vals : goal.returns-clause-vals
returns-clause-vals c =
    (whole_grows c.args.body.now.vars.items _ c.args.body.now.params _ _ _ _ c.args.body.now.body _ _ _ c.as_slice-vars.ensures.value c.in_ok-result.ensures c.in_ok-after.ensures c.new-stmts.ensures.items
    c.in_ok-first.ensures.code c.in_ok-first.ensures.next c.in_ok-numbers.ensures).1

pub returns-clause-vars : goal.returns-clause-vars
returns-clause-vars c = returns-clause-vals c
