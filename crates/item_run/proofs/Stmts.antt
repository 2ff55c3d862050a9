-- The meanings of statements at the forms as the code has them, after the statement's own turn.
use Rattle.std.proofs.Common.{◌≡◌, ℕ, zero, suc, List, [], ◌∷◌, Option, Some, None, refl, sym, ap, ◌∙◌, subst}
use Rattle.std.proofs.Math.Path.{fun_ext}
use Rattle.clc_types.specs.declared.typed.Var.{Var}
use Rattle.clc_types.specs.declared.typed.TExpr.{TExpr}
use Rattle.clc_types.specs.declared.typed.TStmt.{TStmt, Row_of-TStmt, end_of-TStmt, more_of-TStmt, Held-TStmt-If-2, None', Some'}
use Rattle.clc_types.specs.declared.typed.TStmt.TheVariants as f
use Rattle.clc_types.specs.declared.typed.TStmt.TheBlock.{shape-the_row-TStmt-0, hidden-the_row-TStmt-0, shape-the_row-TStmt-1, hidden-the_row-TStmt-1, items-the_row-TStmt, items_hidden-the_row-TStmt-0}
use denote.Hole.Carrier.{hidden}
use Rattle.item_meaning.specs.declared.values.Value.{Value}
use Rattle.item_meaning.specs.declared.values.Flow.{Flow}
use Rattle.item_meaning.specs.declared.values.Flow.TheVariants.{Next, Broke, Again, Returned}
use Rattle.item_meaning.specs.ItemState.{State, Run, Goes, Bounds, Spent, then_do, node, if_next}
use Rattle.item_meaning.specs.NodeMeanings.{Part}
use Rattle.item_meaning.specs.StatementMeanings.{var_at, type_of, cleared, initialised, dropped, rounds, rounds_first, no_flow, and_flow, while_flow, do_flow, for_flow, if_flow, block_flow}
use Rattle.item_meaning.specs.ItemMeaning.{value_if, does, does_all, does_in, does_else, begins, begin_with}
use Rattle.item_run.specs.declared.setting.Setting.{Setting}
use Rattle.item_run.specs.Settings.{calls_in, value_in_run, does_in_run, test_in_run, step_in_run, returned_flow, choice_flow}
use Rattle.item_run.specs.Lists.{all_in_run, begins_in_run, else_in_run, round, round_first, rounds_of}
use Rattle.item_run.proofs.Exprs.{then_same}
use Rattle.item_run.proofs.Rounds.{rounds_are, rounds_first_are}

-- ---- lists of statements

if_next_same : (x : Flow) (u : State) (f g : State → Run Flow) → ((t : State) → f t ≡ g t) → if_next x u f ≡ if_next x u g
if_next_same Next u f g h = h u
if_next_same Broke u f g h = refl
if_next_same Again u f g h = refl
if_next_same (Returned v) u f g h = refl

module _ (e : Setting) (vars : List Var) where
  all_items : {k : _} (r : Row_of-TStmt k) (s : State) → does_all e.work.now (calls_in e) vars r s ≡ all_in_run e vars (items-the_row-TStmt k r) s
  all_items end_of-TStmt s = refl
  all_items (more_of-TStmt a rest) s =
      then_same (does_in_run e vars a s) _ _ (λ x u. if_next_same x u (does_all e.work.now (calls_in e) vars rest) (all_in_run e vars (items-the_row-TStmt _ rest)) (λ t. all_items rest t))

  all_list : (l : List TStmt) (s : State) → does_all e.work.now (calls_in e) vars (hidden-the_row-TStmt-0 l) s ≡ all_in_run e vars l s
  all_list l s = all_items (hidden-the_row-TStmt-0 l) s ∙ ap (λ (z : List TStmt). all_in_run e vars z s) (items_hidden-the_row-TStmt-0 l)

  begins_items : {k : _} (r : Row_of-TStmt k) (s : State) → begins e.work.now (calls_in e) vars r s ≡ begins_in_run e vars (items-the_row-TStmt k r) s
  begins_items end_of-TStmt s = refl
  begins_items (more_of-TStmt a rest) s =
      then_same (begin_with e.work.now (calls_in e) vars a s) _ _ (λ x u. if_next_same x u (begins e.work.now (calls_in e) vars rest) (begins_in_run e vars (items-the_row-TStmt _ rest)) (λ t. begins_items rest t))

  begins_list : (l : List TStmt) (s : State) → begins e.work.now (calls_in e) vars (hidden-the_row-TStmt-0 l) s ≡ begins_in_run e vars l s
  begins_list l s = begins_items (hidden-the_row-TStmt-0 l) s ∙ ap (λ (z : List TStmt). begins_in_run e vars z s) (items_hidden-the_row-TStmt-0 l)

  -- ---- statements

  pub does-Block : (l : List TStmt) (s : State) → does_in_run e vars (f.Block l) s ≡ node s (all_in_run e vars l)
  does-Block l s = ap (λ (p : Part Flow). node s p) (fun_ext (all_list l))

  pub does-Declare : (v : ℕ) (x : Option TExpr) (s : State)
      → does_in_run e vars (f.Declare v x) s ≡ node s (λ t. initialised (type_of (var_at vars v)) v (value_if e.work.now (calls_in e) x) (cleared (var_at vars v) v t))
  does-Declare v x s = refl

  pub does-Eval : (x : TExpr) (s : State) → does_in_run e vars (f.Eval x) s ≡ node s (dropped (value_in_run e x))
  does-Eval x s = refl

  pub does-If : (x : TExpr) (a : TStmt) (o : Option TStmt) (s : State)
      → does_in_run e vars (f.If x a o) s ≡ node s (choice_flow (value_in_run e x) (does_in_run e vars a) (else_in_run e vars o))
  unfolding shape-the_row-TStmt-1 hidden-the_row-TStmt-1 hidden
  does-If x a None s = refl
  does-If x a (Some b) s = refl

  pub does-While : (x : TExpr) (a : TStmt) (s : State)
      → does_in_run e vars (f.While x a) s ≡ node s (λ t. rounds_of t.left (round (value_in_run e x) (does_in_run e vars a) no_flow) t)
  unfolding shape-the_row-TStmt-1 hidden-the_row-TStmt-1 hidden
  does-While x a s = ap (λ (p : Part Flow). node s p) (fun_ext λ t. rounds_are (value_in_run e x) (does_in_run e vars a) no_flow t.left t)

  pub does-Do : (a : TStmt) (x : TExpr) (s : State)
      → does_in_run e vars (f.Do a x) s ≡ node s (λ t. rounds_of t.left (round_first (does_in_run e vars a) (value_in_run e x)) t)
  unfolding shape-the_row-TStmt-1 hidden-the_row-TStmt-1 hidden
  does-Do a x s = ap (λ (p : Part Flow). node s p) (fun_ext λ t. rounds_first_are (does_in_run e vars a) (value_in_run e x) t.left t)

  pub does-For : (l : List TStmt) (x y : Option TExpr) (a : TStmt) (s : State)
      → does_in_run e vars (f.For l x y a) s
      ≡ node s (λ t. then_do (begins_in_run e vars l t) (λ g u. if_next g u (λ w. rounds_of w.left (round (test_in_run e x) (does_in_run e vars a) (step_in_run e y)) w)))
  unfolding shape-the_row-TStmt-1 hidden-the_row-TStmt-1 hidden
  does-For l x y a s =
      ap (λ (p : Part Flow). node s p) (fun_ext λ t.
      ap (λ (r : Run Flow). then_do r (λ g u. if_next g u (λ w. rounds w.left (test_in_run e x) (does_in_run e vars a) (step_in_run e y) w))) (begins_list l t)
      ∙ then_same (begins_in_run e vars l t) _ _ (λ g u. if_next_same g u _ _ (λ w. rounds_are (test_in_run e x) (does_in_run e vars a) (step_in_run e y) w.left w)))

  pub does-Return : (x : Option TExpr) (s : State) → does_in_run e vars (f.Return x) s ≡ node s (returned_flow (value_if e.work.now (calls_in e) x))
  does-Return None s = refl
  does-Return (Some x) s = refl

pub if_next_leaves : (x : Flow) (u : State) (go : State → Run Flow) → (x ≡ Next → ⊥) → if_next x u go ≡ Goes x u
if_next_leaves Next u go h = absurd (h refl)
if_next_leaves Broke u go h = refl
if_next_leaves Again u go h = refl
if_next_leaves (Returned v) u go h = refl
