-- Where no turn is left, no expression and no statement goes on.
use Rattle.std.proofs.Common.{◌≡◌, ℕ, zero, suc, List, Option, Some, None, refl, sym, ap, ◌∙◌}
use Rattle.q_functions.specs.declared.work.Work.{Work}
use Rattle.clc_types.specs.declared.typed.Ty.{Ty}
use Rattle.clc_types.specs.declared.typed.Var.{Var}
use Rattle.clc_types.specs.declared.typed.TExpr.{TExpr}
use Rattle.clc_types.specs.declared.typed.Node.{Node, Row_of-TExpr, end_of-TExpr, more_of-TExpr}
use Rattle.clc_types.specs.declared.typed.Node.TheVariants.{Number, Name, Index', Element', Deref', Prefix', Step', Cast', Paren', Chain', Cond', Assign', Call', Builtin'}
use Rattle.clc_types.specs.declared.typed.TStmt.{TStmt}
use Rattle.clc_types.specs.declared.typed.TStmt.TheVariants.{Block', Declare, Eval, Empty, If', While', Do', For', Break, Continue, Return}
use Rattle.item_meaning.specs.declared.values.Value.{Value}
use Rattle.item_meaning.specs.declared.values.Flow.{Flow}
use Rattle.item_meaning.specs.ItemState.{State, Run, Goes, Bounds, Spent, then_do}
use Rattle.item_meaning.specs.Places.{read}
use Rattle.item_meaning.specs.NodeMeanings.{Part, chain_value}
use Rattle.item_meaning.specs.StatementMeanings.{no_flow}
use Rattle.item_meaning.specs.ItemMeaning.{Calls, value, value_of, value_in, place_in, type_in, operators, does}
use Rattle.item_run.specs.declared.setting.Setting.{Setting}
use Rattle.item_run.specs.Settings.{calls_in, value_in_run, does_in_run, test_in_run, step_in_run}
use Rattle.item_run.specs.Lists.{round, round_first}
use Rattle.item_run.proofs.Marks.{node_spent, assigned_spent}

chain_spent : (n : ℕ) (first : Part Value) (rest : Value → Part Value) (s : State) → s.left ≡ 0 → first s ≡ Spent → chain_value n first rest s ≡ Spent
chain_spent zero first rest s h e = ap (λ (r : Run Value). then_do r rest) e
chain_spent (suc n) first rest s h e = node_spent s _ h

module _ (w : Work) (k : Calls) where
  mutual
    pub value_spent : (n : Node) (at : ℕ) (t : Ty) (s : State) → s.left ≡ 0 → value_of w k at t n s ≡ Spent
    value_spent (Number x) at t s h = node_spent s _ h
    value_spent (Name v) at t s h = ap (λ r. then_do r (read t)) (node_spent s _ h)
    value_spent (Index' b base i index) at t s h = ap (λ r. then_do r (read t)) (node_spent s _ h)
    value_spent (Element' v i index) at t s h = ap (λ r. then_do r (read t)) (node_spent s _ h)
    value_spent (Deref' p pointer) at t s h = ap (λ r. then_do r (read t)) (node_spent s _ h)
    value_spent (Prefix' o a arg) at t s h = node_spent s _ h
    value_spent (Step' p place up post) at t s h = node_spent s _ h
    value_spent (Cast' a arg) at t s h = node_spent s _ h
    value_spent (Paren' a arg) at t s h = in_spent arg s h
    value_spent (Chain' f first r rest) at t s h = chain_spent (operators rest) (value_in w k first) _ s h (in_spent first s h)
    value_spent (Cond' c cond a one b other) at t s h = node_spent s _ h
    value_spent (Assign' p place o v x) at t s h = assigned_spent (type_in place) o (type_in x) (place_in w k place) (value_in w k x) s h
    value_spent (Call' f n args) at t s h = node_spent s _ h
    value_spent (Builtin' which in_type n args) at t s h = node_spent s _ h

    in_spent : {n : _} (r : Row_of-TExpr n) (s : State) → s.left ≡ 0 → value_in w k r s ≡ Spent
    in_spent end_of-TExpr s h = refl
    in_spent (more_of-TExpr at t e rest) s h = value_spent e at t s h

  pub does_spent : (vars : List Var) (a : TStmt) (s : State) → s.left ≡ 0 → does w k vars a s ≡ Spent
  does_spent vars (Block' n stmts) s h = node_spent s _ h
  does_spent vars (Declare v init) s h = node_spent s _ h
  does_spent vars (Eval e) s h = node_spent s _ h
  does_spent vars Empty s h = node_spent s _ h
  does_spent vars (If' cond y one other) s h = node_spent s _ h
  does_spent vars (While' cond b body) s h = node_spent s _ h
  does_spent vars (Do' b body cond) s h = node_spent s _ h
  does_spent vars (For' n init cond step b body) s h = node_spent s _ h
  does_spent vars Break s h = node_spent s _ h
  does_spent vars Continue s h = node_spent s _ h
  does_spent vars (Return e) s h = return_spent e s h
    where
      return_spent : (x : Option TExpr) (u : State) → u.left ≡ 0 → does w k vars (Return x) u ≡ Spent
      return_spent None u h = node_spent u _ h
      return_spent (Some x) u h = node_spent u _ h

-- ---- rounds

then_spent : {A B : Type 0} {r : Run A} (go : A → State → Run B) → r ≡ Spent → then_do r go ≡ Spent
then_spent go h = ap (λ z. then_do z go) h

module _ (e : Setting) (vars : List Var) (a : TStmt) (s : State) (h : s.left ≡ 0) where
  pub while_spent : (x : TExpr) → round (value_in_run e x) (does_in_run e vars a) no_flow s ≡ Spent
  while_spent x = then_spent _ (value_spent e.work.now (calls_in e) x.node x.at x.ty s h)

  pub do_spent : (x : TExpr) → round_first (does_in_run e vars a) (value_in_run e x) s ≡ Spent
  do_spent x = then_spent _ (does_spent e.work.now (calls_in e) vars a s h)

  pub for_spent : (x y : Option TExpr) → round (test_in_run e x) (does_in_run e vars a) (step_in_run e y) s ≡ Spent
  for_spent None y = then_spent _ (does_spent e.work.now (calls_in e) vars a s h)
  for_spent (Some x) y = then_spent _ (value_spent e.work.now (calls_in e) x.node x.at x.ty s h)
