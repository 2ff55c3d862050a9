use Rattle.std.proofs.Common.{◌≡◌, ◌+◌, [], ◌∷◌, ◌++◌, map, refl, sym, ap, subst, ◌∙◌, ℕ, Bool, Err, Ok}
use Rattle.std.specs.Prelude.{is_some, Result, List}
use Rattle.clc_tree.specs.declared.statements.Declare.{Declare}
use Rattle.clc_types.specs.Words.{one_if, type_tokens, type_of}
use Rattle.clc_types.specs.InternalSteps.{Goes, and_then, Stands, View, view_of, item_walk, item_step_walk, listed, declare_walk, skipped}
use Rattle.clc_types.specs.declared.typed.TStmt.{TStmt}
use Rattle.clc_types.specs.declared.typed.TypeFault.{TypeFault}
use Rattle.clc_types.specs.declared.scope.State.{State}
use Rattle.clc_walk.proofs.Listed.{values_stop, values_later, values_done, handed}
use Rattle.clc_walk.proofs.declarations.declaration.Goals as goal

abbrev whole : List TStmt → Declare → Bool → View → Result (List TStmt) TypeFault → State → Type 0
whole done d l v r new = Stands (and_then (declare_walk d l v) (λ y u. Goes (done ++ y) u)) r new

pub returns-in_err-list-in-Values : goal.returns-in_err-list-in-Values
returns-in_err-list-in-Values c l =
    let v = view_of c.args.state.now in
    let d = c.in-Values in
    let new = c.item.new.state in
    let a = rw (c.pass.ensures, c.value_tokens.ensures, c.is_some-fixed.ensures, c.type_of-scalar.ensures) at (c.in_err-list-in-Values.ensures l) in
    handed _ c.from_residual.result c.in_err-list-in-Values.field-0.0 new c.from_residual.ensures.1
    (subst (λ d. whole c.args.done d l v (Err c.in_err-list-in-Values.field-0.0) new) (sym d.is)
    (values_stop c.args.done (item_walk (is_some d.constant) (type_of d.scalar) d.first) (map (item_step_walk (is_some d.constant) (type_of d.scalar)) d.rest) (one_if d.constant + type_tokens d.scalar) l v c.in_err-list-in-Values.field-0.0 new a))

pub returns-in_err-list-in-Values-2 : goal.returns-in_err-list-in-Values-2
returns-in_err-list-in-Values-2 c l =
    let v = view_of c.args.state.now in
    let d = c.in-Values in
    let e = c.in_err-list-in-Values-2.field-0.0 in
    let new = c.items.new.state in
    let a = rw (c.pass.ensures, c.value_tokens.ensures, c.is_some-fixed.ensures, c.type_of-scalar.ensures) at (c.in_ok-list-in-Values.ensures l) in
    let b = rw (c.is_some-fixed.ensures, c.type_of-scalar.ensures, c.as_slice.ensures) at (c.in_err-list-in-Values-2.ensures l) in
    handed _ c.from_residual-in_err-list-in-Values-2.result e new c.from_residual-in_err-list-in-Values-2.ensures.1
    (subst (λ d. whole c.args.done d l v (Err e) new) (sym d.is)
    (values_later c.args.done (item_walk (is_some d.constant) (type_of d.scalar) d.first) (map (item_step_walk (is_some d.constant) (type_of d.scalar)) d.rest) (one_if d.constant + type_tokens d.scalar) l v
    c.in_ok-list-in-Values.list c.item.new.state e new a b))

pub returns-in_ok-list-in-Values-2 : goal.returns-in_ok-list-in-Values-2
returns-in_ok-list-in-Values-2 c l =
    let v = view_of c.args.state.now in
    let d = c.in-Values in
    let ys = c.in_ok-list-in-Values-2.list in
    let new = c.pass-in-Values.new.state in
    let a = rw (c.pass.ensures, c.value_tokens.ensures, c.is_some-fixed.ensures, c.type_of-scalar.ensures) at (c.in_ok-list-in-Values.ensures l) in
    let b = rw (c.is_some-fixed.ensures, c.type_of-scalar.ensures, c.as_slice.ensures) at (c.in_ok-list-in-Values-2.ensures l) in
    subst (λ d. whole c.args.done d l v (Ok ys) new) (sym d.is)
    (values_done c.args.done (item_walk (is_some d.constant) (type_of d.scalar) d.first) (map (item_step_walk (is_some d.constant) (type_of d.scalar)) d.rest) (one_if d.constant + type_tokens d.scalar) l v
    c.in_ok-list-in-Values.list c.item.new.state ys c.items.new.state new a b c.pass-in-Values.ensures)
