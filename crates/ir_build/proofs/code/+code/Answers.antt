-- The forms of the tree, by the code that each one becomes.
use Rattle.std.proofs.Common.{ℕ, List, sym, ap, ◌∙◌}
use Rattle.clc_lexer.specs.declared.marks.Mark.{Mark}
use Rattle.q_lane.specs.declared.operations.BinOp.TheVariants.{Add}
use Rattle.q_functions.specs.NumberFunctions.{bytes_of}
use Rattle.clc_inline.specs.declared.body.Node.{Node}
use Rattle.clc_inline.specs.declared.body.TExpr.{TExpr}
use Rattle.clc_inline.specs.declared.body.TStmt.{TStmt}
use Rattle.item_meaning.specs.Operators.{scalar_of}
use Rattle.item_meaning.specs.NodeMeanings.{function_of}
use Rattle.ir_build.specs.declared.places.Target.TheVariants.{Cell, Behind}
use Rattle.ir_build.specs.declared.scopes.Back.{Back}
use Rattle.ir_build.specs.Code.{Stmts, with_code, moved_code, prefix_code, converted_code, step_code, assigned_code, conditional_code, function_code, scope_code, after_place, after_args, behind, cell, code_of, place_of, stmt_code, both, nothing, if_code, loop_code, do_code}
use Rattle.ir_build.specs.Lists.{value_code, place_code, index_code, chain_list, args_list, test_of, step_of, all_list, begin_list, else_of}
use Rattle.ir_build.proofs.Forms.{code_prefix, code_step, code_cast, code_paren, code_chain, code_cond, code_assign, code_scope, code_builtin, place_index, place_element, place_deref, place_paren, stmt_block, stmt_if, stmt_while, stmt_do, stmt_for}
use Rattle.ir_build.proofs.Joins.{ok_as, found_as, grown_as, finds_as}
use Rattle.ir_build.proofs.Steps.{valued, placed, gathered, begun, held_in, inside, with_adds, place_adds, args_add, behind_finds, cell_finds, index_finds, cond_adds, then_grows, if_grows, loop_grows, do_grows}
use Rattle.ir_build.proofs.code.+code.Goals as goal

pub located-returns-in_ok-count-in-Index : goal.located-returns-in_ok-count-in-Index
located-returns-in_ok-count-in-Index t c =
    let vars = c.args.vars.now in
    let e = c.args.e.now in
    found_as _ _ c.element.result (place_code vars e c.args.k) (index_code vars e.ty c.in-Index.base c.in-Index.index c.args.k)
    (ap (λ (z : Node). place_of vars e.ty z c.args.k) c.in-Index.is ∙ place_index vars e.ty c.in-Index.base c.in-Index.index c.args.k)
    (index_finds _ _ _ _ c.in_ok-pointer-in-Index.pointer c.in_ok-count-in-Index.count c.element.result (value_code vars c.in-Index.base c.args.k) (value_code vars c.in-Index.index) (moved_code Add (bytes_of (scalar_of e.ty)))
    (valued vars _ _ c.in_ok-pointer-in-Index.pointer _ _ c.args.k c.get.ensures c.in_ok-pointer-in-Index.ensures)
    (valued vars _ _ c.in_ok-count-in-Index.count _ _ c.in_ok-pointer-in-Index.pointer.next c.get-in-Index.ensures c.in_ok-count-in-Index.ensures)
    c.element.ensures)

pub located-returns-in_ok-index-in-Element : goal.located-returns-in_ok-index-in-Element
located-returns-in_ok-index-in-Element t c =
    let vars = c.args.vars.now in
    let e = c.args.e.now in
    let x = c.in_ok-index-in-Element.index in
    finds_as _ _ (record { to = Cell c.in-Element.array x.val; next = x.next }) (place_code vars e c.args.k) (cell c.in-Element.array (value_code vars c.in-Element.index c.args.k))
    (ap (λ (z : Node). place_of vars e.ty z c.args.k) c.in-Element.is ∙ place_element vars e.ty c.in-Element.array c.in-Element.index c.args.k)
    (cell_finds c.in-Element.array _ _ x (value_code vars c.in-Element.index c.args.k) (valued vars _ _ x _ _ c.args.k c.get-in-Element.ensures c.in_ok-index-in-Element.ensures))

pub located-returns-in_ok-pointer-in-Deref : goal.located-returns-in_ok-pointer-in-Deref
located-returns-in_ok-pointer-in-Deref t c =
    let vars = c.args.vars.now in
    let e = c.args.e.now in
    let x = c.in_ok-pointer-in-Deref.pointer in
    finds_as _ _ (record { to = Behind x.val; next = x.next }) (place_code vars e c.args.k) (behind (value_code vars c.in-Deref.pointer c.args.k))
    (ap (λ (z : Node). place_of vars e.ty z c.args.k) c.in-Deref.is ∙ place_deref vars e.ty c.in-Deref.pointer c.args.k)
    (behind_finds _ _ x (value_code vars c.in-Deref.pointer c.args.k) (valued vars _ _ x _ _ c.args.k c.get-in-Deref.ensures c.in_ok-pointer-in-Deref.ensures))

pub located-returns-in-Paren : goal.located-returns-in-Paren
located-returns-in-Paren t c =
    let vars = c.args.vars.now in
    let e = c.args.e.now in
    found_as _ _ c.located.result (place_code vars e c.args.k) (place_code vars c.get-in-Paren.result.now c.args.k)
    (ap (λ (z : Node). place_of vars e.ty z c.args.k) c.in-Paren.is ∙ place_paren vars e.ty c.in-Paren.arg c.args.k ∙ sym (ap (λ (z : TExpr). place_code vars z c.args.k) c.get-in-Paren.ensures))
    c.located.ensures

pub statement-returns-in-Block : goal.statement-returns-in-Block
statement-returns-in-Block t c =
    let vars = c.args.vars.now in
    grown_as _ _ c.block.result (stmt_code vars c.args.back c.args.a.now c.args.k) (all_list vars c.args.back c.as_slice.result.now c.args.k)
    (ap (λ (z : TStmt). stmt_code vars c.args.back z c.args.k) c.in-Block.is ∙ stmt_block vars c.args.back c.in-Block.stmts c.args.k
    ∙ sym (ap (λ (z : List TStmt). all_list vars c.args.back z c.args.k) c.as_slice.ensures))
    c.block.ensures

pub statement-returns-in_ok-no-in-If : goal.statement-returns-in_ok-no-in-If
statement-returns-in_ok-no-in-If t c =
    let vars = c.args.vars.now in
    let back = c.args.back in
    grown_as _ _ c.choice.result (stmt_code vars back c.args.a.now c.args.k) (if_code (value_code vars c.in-If.cond c.args.k) (stmt_code vars back c.in-If.yes) (else_of vars back c.in-If.no))
    (ap (λ (z : TStmt). stmt_code vars back z c.args.k) c.in-If.is ∙ stmt_if vars back c.in-If.cond c.in-If.yes c.in-If.no c.args.k)
    (if_grows _ _ _ c.in_ok-cond-in-If.cond c.in_ok-yes-in-If.yes c.in_ok-no-in-If.no c.choice.result (value_code vars c.in-If.cond c.args.k) (stmt_code vars back c.in-If.yes) (else_of vars back c.in-If.no)
    c.in_ok-cond-in-If.ensures (inside vars back c.in_ok-yes-in-If.yes _ _ c.in_ok-cond-in-If.cond.next c.get.ensures c.in_ok-yes-in-If.ensures) c.in_ok-no-in-If.ensures c.choice.ensures)

pub statement-returns-in_ok-round-in-While : goal.statement-returns-in_ok-round-in-While
statement-returns-in_ok-round-in-While t c =
    let vars = c.args.vars.now in
    let back = c.args.back in
    grown_as _ _ c.repeat.result (stmt_code vars back c.args.a.now c.args.k) (loop_code (value_code vars c.in-While.cond c.args.k) (stmt_code vars back c.in-While.body) nothing)
    (ap (λ (z : TStmt). stmt_code vars back z c.args.k) c.in-While.is ∙ stmt_while vars back c.in-While.cond c.in-While.body c.args.k)
    (loop_grows _ _ c.in_ok-head-in-While.head c.in_ok-round-in-While.round c.empty-last.result c.repeat.result (value_code vars c.in-While.cond c.args.k) (stmt_code vars back c.in-While.body) nothing
    c.in_ok-head-in-While.ensures (inside vars back c.in_ok-round-in-While.round _ _ c.in_ok-head-in-While.head.next c.get-in-While.ensures c.in_ok-round-in-While.ensures)
    (c.empty-last.ensures.stmts, c.empty-last.ensures.next) c.repeat.ensures)

pub statement-returns-in_ok-last-in-Do : goal.statement-returns-in_ok-last-in-Do
statement-returns-in_ok-last-in-Do t c =
    let vars = c.args.vars.now in
    let back = c.args.back in
    grown_as _ _ c.repeat-in-Do.result (stmt_code vars back c.args.a.now c.args.k) (do_code (stmt_code vars back c.in-Do.body) (value_code vars c.in-Do.cond) c.args.k)
    (ap (λ (z : TStmt). stmt_code vars back z c.args.k) c.in-Do.is ∙ stmt_do vars back c.in-Do.body c.in-Do.cond c.args.k)
    (do_grows _ _ _ c.args.k c.in_ok-r-in-Do.r c.in_ok-head-in-Do.head c.in_ok-round-in-Do.round c.in_ok-last-in-Do.last c.repeat-in-Do.result (stmt_code vars back c.in-Do.body) (value_code vars c.in-Do.cond)
    c.in_ok-r-in-Do.ensures c.in_ok-head-in-Do.ensures (inside vars back c.in_ok-round-in-Do.round _ _ c.in_ok-head-in-Do.head.next c.get-in-Do.ensures c.in_ok-round-in-Do.ensures)
    c.in_ok-last-in-Do.ensures c.repeat-in-Do.ensures)

pub statement-returns-in_ok-last-in-For : goal.statement-returns-in_ok-last-in-For
statement-returns-in_ok-last-in-For t c =
    let vars = c.args.vars.now in
    let back = c.args.back in
    grown_as _ _ c.repeat-in-For.result (stmt_code vars back c.args.a.now c.args.k)
    (both (begin_list vars c.in-For.init c.args.k) (λ m. loop_code (test_of vars c.in-For.cond m) (stmt_code vars back c.in-For.body) (step_of vars c.in-For.step)))
    (ap (λ (z : TStmt). stmt_code vars back z c.args.k) c.in-For.is ∙ stmt_for vars back c.in-For.init c.in-For.cond c.in-For.step c.in-For.body c.args.k)
    (then_grows _ _ _ c.in_ok-next-in-For.next c.repeat-in-For.result (begin_list vars c.in-For.init c.args.k) (λ m. loop_code (test_of vars c.in-For.cond m) (stmt_code vars back c.in-For.body) (step_of vars c.in-For.step))
    (begun vars _ _ c.in_ok-next-in-For.next _ _ c.args.k c.as_slice-in-For.ensures c.in_ok-next-in-For.ensures)
    (loop_grows _ _ c.in_ok-head-in-For.head c.in_ok-round-in-For.round c.in_ok-last-in-For.last c.repeat-in-For.result (test_of vars c.in-For.cond c.in_ok-next-in-For.next) (stmt_code vars back c.in-For.body) (step_of vars c.in-For.step)
    c.in_ok-head-in-For.ensures (inside vars back c.in_ok-round-in-For.round _ _ c.in_ok-head-in-For.head.next c.get-in-For.ensures c.in_ok-round-in-For.ensures)
    c.in_ok-last-in-For.ensures c.repeat-in-For.ensures))

pub value-returns-in_ok-x-in-Prefix : goal.value-returns-in_ok-x-in-Prefix
value-returns-in_ok-x-in-Prefix t c =
    let vars = c.args.vars.now in
    let e = c.args.e.now in
    ok_as _ _ c.prefixed.result (value_code vars e c.args.k) (with_code (value_code vars c.in-Prefix.arg c.args.k) (prefix_code c.in-Prefix.op))
    (ap (λ (z : Node). code_of vars e.ty z c.args.k) c.in-Prefix.is ∙ code_prefix vars e.ty c.in-Prefix.op c.in-Prefix.arg c.args.k)
    (with_adds _ _ _ c.in_ok-x-in-Prefix.x c.prefixed.result (value_code vars c.in-Prefix.arg c.args.k) (prefix_code c.in-Prefix.op)
    (valued vars _ _ c.in_ok-x-in-Prefix.x _ _ c.args.k c.get.ensures c.in_ok-x-in-Prefix.ensures) c.prefixed.ensures)

pub value-returns-in_ok-found-in-Step : goal.value-returns-in_ok-found-in-Step
value-returns-in_ok-found-in-Step t c =
    let vars = c.args.vars.now in
    let e = c.args.e.now in
    let found = c.in_ok-found-in-Step.found in
    ok_as _ _ c.step.result (value_code vars e c.args.k) (after_place (place_code vars c.in-Step.place c.args.k) (step_code c.in-Step.place.ty c.in-Step.up c.in-Step.post))
    (ap (λ (z : Node). code_of vars e.ty z c.args.k) c.in-Step.is ∙ code_step vars e.ty c.in-Step.place c.in-Step.up c.in-Step.post c.args.k)
    (place_adds _ _ _ found c.step.result (place_code vars c.in-Step.place c.args.k) (step_code c.in-Step.place.ty c.in-Step.up c.in-Step.post)
    (placed vars _ _ found _ _ c.args.k c.get-in-Step.ensures c.in_ok-found-in-Step.ensures)
    (ok_as _ _ c.step.result (step_code c.in-Step.place.ty c.in-Step.up c.in-Step.post found.to found.next) (step_code c.get-in-Step-2.result.now.ty c.in-Step.up c.in-Step.post found.to found.next)
    (sym (ap (λ (z : TExpr). step_code z.ty c.in-Step.up c.in-Step.post found.to found.next) c.get-in-Step-2.ensures)) c.step.ensures))

pub value-returns-in_ok-x-in-Cast : goal.value-returns-in_ok-x-in-Cast
value-returns-in_ok-x-in-Cast t c =
    let vars = c.args.vars.now in
    let e = c.args.e.now in
    ok_as _ _ c.converted.result (value_code vars e c.args.k) (with_code (value_code vars c.in-Cast.arg c.args.k) (converted_code e.ty))
    (ap (λ (z : Node). code_of vars e.ty z c.args.k) c.in-Cast.is ∙ code_cast vars e.ty c.in-Cast.arg c.args.k)
    (with_adds _ _ _ c.in_ok-x-in-Cast.x c.converted.result (value_code vars c.in-Cast.arg c.args.k) (converted_code e.ty)
    (valued vars _ _ c.in_ok-x-in-Cast.x _ _ c.args.k c.get-in-Cast.ensures c.in_ok-x-in-Cast.ensures) c.converted.ensures)

pub value-returns-in-Paren : goal.value-returns-in-Paren
value-returns-in-Paren t c =
    let vars = c.args.vars.now in
    let e = c.args.e.now in
    ok_as _ _ c.value-in-Paren.result (value_code vars e c.args.k) (value_code vars c.get-in-Paren.result.now c.args.k)
    (ap (λ (z : Node). code_of vars e.ty z c.args.k) c.in-Paren.is ∙ code_paren vars e.ty c.in-Paren.arg c.args.k ∙ sym (ap (λ (z : TExpr). value_code vars z c.args.k) c.get-in-Paren.ensures))
    c.value-in-Paren.ensures

pub value-returns-in_ok-x-in-Chain : goal.value-returns-in_ok-x-in-Chain
value-returns-in_ok-x-in-Chain t c =
    let vars = c.args.vars.now in
    let e = c.args.e.now in
    let first = c.in-Chain.first in
    let x = c.in_ok-x-in-Chain.x in
    ok_as _ _ c.operators.result (value_code vars e c.args.k) (with_code (value_code vars first c.args.k) (λ y l. chain_list vars first.ty y c.in-Chain.rest l))
    (ap (λ (z : Node). code_of vars e.ty z c.args.k) c.in-Chain.is ∙ code_chain vars e.ty first c.in-Chain.rest c.args.k)
    (with_adds _ _ _ x c.operators.result (value_code vars first c.args.k) (λ y l. chain_list vars first.ty y c.in-Chain.rest l)
    (valued vars _ _ x _ _ c.args.k c.get-in-Chain.ensures c.in_ok-x-in-Chain.ensures)
    (ok_as _ _ c.operators.result (chain_list vars first.ty x.val.0 c.in-Chain.rest x.next) (chain_list vars c.get-in-Chain-2.result.now.ty x.val.0 c.as_slice.result.now x.next)
    (sym (ap (λ (z : TExpr). chain_list vars z.ty x.val.0 c.as_slice.result.now x.next) c.get-in-Chain-2.ensures ∙ ap (λ (z : List (Mark × TExpr)). chain_list vars first.ty x.val.0 z x.next) c.as_slice.ensures))
    c.operators.ensures))

pub value-returns-in_ok-no-in-Cond : goal.value-returns-in_ok-no-in-Cond
value-returns-in_ok-no-in-Cond t c =
    let vars = c.args.vars.now in
    let e = c.args.e.now in
    let x = c.in_ok-cond-in-Cond.cond in
    ok_as _ _ c.conditional.result (value_code vars e c.args.k) (conditional_code (value_code vars c.in-Cond.cond c.args.k) (value_code vars c.in-Cond.one) (value_code vars c.in-Cond.other))
    (ap (λ (z : Node). code_of vars e.ty z c.args.k) c.in-Cond.is ∙ code_cond vars e.ty c.in-Cond.cond c.in-Cond.one c.in-Cond.other c.args.k)
    (cond_adds _ _ _ _ x c.in_ok-yes-in-Cond.yes c.in_ok-no-in-Cond.no c.conditional.result (value_code vars c.in-Cond.cond c.args.k) (value_code vars c.in-Cond.one) (value_code vars c.in-Cond.other)
    (valued vars _ _ x _ _ c.args.k c.get-in-Cond.ensures c.in_ok-cond-in-Cond.ensures)
    c.in_ok-after-in-Cond.ensures
    (held_in vars x.next c.in_ok-yes-in-Cond.yes _ _ _ c.get-in-Cond-2.ensures c.in_ok-yes-in-Cond.ensures)
    (held_in vars x.next c.in_ok-no-in-Cond.no _ _ _ c.get-in-Cond-3.ensures c.in_ok-no-in-Cond.ensures)
    c.conditional.ensures)

pub value-returns-in_ok-found-in-Assign : goal.value-returns-in_ok-found-in-Assign
value-returns-in_ok-found-in-Assign t c =
    let vars = c.args.vars.now in
    let e = c.args.e.now in
    let to = c.in-Assign.place in
    let from = c.in-Assign.value in
    let op = c.in-Assign.op in
    let found = c.in_ok-found-in-Assign.found in
    ok_as _ _ c.assign.result (value_code vars e c.args.k) (after_place (place_code vars to c.args.k) (assigned_code to.ty op from.ty (value_code vars from)))
    (ap (λ (z : Node). code_of vars e.ty z c.args.k) c.in-Assign.is ∙ code_assign vars e.ty to op from c.args.k)
    (place_adds _ _ _ found c.assign.result (place_code vars to c.args.k) (assigned_code to.ty op from.ty (value_code vars from))
    (placed vars _ _ found _ _ c.args.k c.get-in-Assign.ensures c.in_ok-found-in-Assign.ensures)
    (ok_as _ _ c.assign.result (assigned_code to.ty op from.ty (value_code vars from) found.to found.next)
    (assigned_code c.get-in-Assign-2.result.now.ty op c.get-in-Assign-3.result.now.ty (value_code vars c.get-in-Assign-3.result.now) found.to found.next)
    (sym (ap (λ (z : TExpr). assigned_code z.ty op c.get-in-Assign-3.result.now.ty (value_code vars c.get-in-Assign-3.result.now) found.to found.next) c.get-in-Assign-2.ensures
    ∙ ap (λ (z : TExpr). assigned_code to.ty op z.ty (value_code vars z) found.to found.next) c.get-in-Assign-3.ensures))
    c.assign.ensures))

pub value-returns-in_ok-given-in-Scope : goal.value-returns-in_ok-given-in-Scope
value-returns-in_ok-given-in-Scope t c =
    let vars = c.args.vars.now in
    let e = c.args.e.now in
    let given = c.in_ok-given-in-Scope.given in
    let body : TStmt → Back → ℕ → Stmts = λ z back m. stmt_code vars back z m in
    ok_as _ _ c.scope.result (value_code vars e c.args.k) (after_args (args_list vars c.in-Scope.args c.args.k) (scope_code vars c.in-Scope.params c.in-Scope.result (body c.in-Scope.body)))
    (ap (λ (z : Node). code_of vars e.ty z c.args.k) c.in-Scope.is ∙ code_scope vars e.ty c.in-Scope.params c.in-Scope.args c.in-Scope.result c.in-Scope.body c.args.k)
    (args_add _ _ _ given c.scope.result (args_list vars c.in-Scope.args c.args.k) (scope_code vars c.in-Scope.params c.in-Scope.result (body c.in-Scope.body))
    (gathered vars _ _ given _ _ c.args.k c.as_slice-in-Scope.ensures c.in_ok-given-in-Scope.ensures)
    (ok_as _ _ c.scope.result (scope_code vars c.in-Scope.params c.in-Scope.result (body c.in-Scope.body) given.vals.items given.next)
    (scope_code vars c.as_slice-in-Scope-2.result.now c.in-Scope.result (body c.get-in-Scope.result.now) given.vals.items given.next)
    (sym (ap (λ (z : List ℕ). scope_code vars z c.in-Scope.result (body c.get-in-Scope.result.now) given.vals.items given.next) c.as_slice-in-Scope-2.ensures
    ∙ ap (λ (z : TStmt). scope_code vars c.in-Scope.params c.in-Scope.result (body z) given.vals.items given.next) c.get-in-Scope.ensures))
    c.scope.ensures))

pub value-returns-in_ok-given-in-Builtin : goal.value-returns-in_ok-given-in-Builtin
value-returns-in_ok-given-in-Builtin t c =
    let vars = c.args.vars.now in
    let e = c.args.e.now in
    let given = c.in_ok-given-in-Builtin.given in
    ok_as _ _ c.function.result (value_code vars e c.args.k) (after_args (args_list vars c.in-Builtin.args c.args.k) (function_code (function_of c.in-Builtin.which) c.in-Builtin.work))
    (ap (λ (z : Node). code_of vars e.ty z c.args.k) c.in-Builtin.is ∙ code_builtin vars e.ty c.in-Builtin.which c.in-Builtin.work c.in-Builtin.args c.args.k)
    (args_add _ _ _ given c.function.result (args_list vars c.in-Builtin.args c.args.k) (function_code (function_of c.in-Builtin.which) c.in-Builtin.work)
    (gathered vars _ _ given _ _ c.args.k c.as_slice-in-Builtin.ensures c.in_ok-given-in-Builtin.ensures) c.function.ensures)
