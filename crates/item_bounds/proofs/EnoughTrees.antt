-- With more turns a typed program does the same, if it has enough of them.
use Rattle.std.proofs.Common.{◌+◌, ◌⊎◌, inl, inr, ◌≡◌, ℕ, zero, suc, Bool, true, false, List, map, Option, Some, None, refl, ap, subst, arith, ◌-◌, ◌≤◌, ◌∙◌}
use Rattle.std.specs.Prelude.{nat_eq, if◌then◌else◌, slice_get}
use Rattle.q_functions.specs.declared.work.Work.{Work}
use Rattle.q_functions.specs.WorkFunctions.{work_of}
use Rattle.q_functions.specs.NumberFunctions.{bytes_of}
use Rattle.launch_file.specs.Launches.{LaunchOf}
use Rattle.launch_meaning.specs.declared.ends.ItemEnd.TheVariants as e
use Rattle.clc_types.specs.declared.typed.Ty.{Ty}
use Rattle.clc_types.specs.declared.typed.Var.{Var}
use Rattle.clc_types.specs.declared.typed.TExpr.{TExpr}
use Rattle.clc_types.specs.declared.typed.Node.{Node, Row_of-TExpr, end_of-TExpr, more_of-TExpr, Row_of-Node-Chain-1-2, end_of-Node-Chain-1-2, more_of-Node-Chain-1-2}
use Rattle.clc_types.specs.declared.typed.Node.TheVariants.{Number, Name, Index', Element', Deref', Prefix', Step', Cast', Paren', Chain', Cond', Assign', Call', Builtin'}
use Rattle.clc_types.specs.declared.typed.TStmt.{TStmt, Row_of-TStmt, end_of-TStmt, more_of-TStmt, Held-TStmt-If-2, None', Some'}
use Rattle.clc_types.specs.declared.typed.TStmt.TheVariants.{Block', Declare, Eval, Empty, If', While', Do', For', Break, Continue, Return}
use Rattle.clc_types.specs.declared.typed.TFunction.{TFunction}
use Rattle.item_meaning.specs.declared.values.Value.{Value}
use Rattle.item_meaning.specs.ItemState.{Run, Goes, Bounds, Spent}
use Rattle.item_meaning.specs.declared.values.Flow.TheVariants.{Next, Broke, Again}
use Rattle.item_meaning.specs.Operators.{scalar_of, type_after}
use Rattle.item_meaning.specs.NodeMeanings.{variable_place, operator_value}
use Rattle.item_meaning.specs.StatementMeanings.{var_at, call_end}
use Rattle.item_meaning.specs.ItemMeaning.{operators, type_in, Calls, value_of, value_in, chained, place_of, place_in, values_of, value, value_if, test_of, step_of, does, does_all, does_in, does_else, begins, begin_with, entered, back_in, called, calls_below, value_of_arg, opening, item_end, item}
use Rattle.item_bounds.proofs.Enough.{with_more, Same, Alike, AlikeIf, then-alike, variable-alike, index-alike, cell-alike, pointed-alike, read_from-alike, number-alike, prefix-alike, cast-alike, step-alike, assigned-alike, conditional-alike, operator-alike, chain-alike, builtin-alike, no_values-alike, and_values-alike, call-alike, declare-alike, block-alike, no_flow-alike, and_flow-alike, dropped-alike, eval-alike, leaf-alike, if-flow-alike, while-alike, do-alike, always-alike, for-alike, return-alike, end-alike}

module _ (d : ℕ) (work : Work) (calls : Calls) (called-alike : (k : ℕ) (xs : List Value) → Alike d (calls k xs)) where
  mutual
    value_of-alike : (at : ℕ) (t : Ty) (n : Node) → Alike d (value_of work calls at t n)
    value_of-alike at t (Number w) s = number-alike d w s
    value_of-alike at t (Name v) s = read_from-alike d t (variable_place v) (variable-alike d v) s
    value_of-alike at t (Index' b base i index) s =
        read_from-alike d t _ (index-alike d at (bytes_of (scalar_of t)) (value_in work calls base) (value_in work calls index) (value_in-alike base) (value_in-alike index)) s
    value_of-alike at t (Element' v i index) s = read_from-alike d t _ (cell-alike d at v (value_in work calls index) (value_in-alike index)) s
    value_of-alike at t (Deref' p pointer) s = read_from-alike d t _ (pointed-alike d at (value_in work calls pointer) (value_in-alike pointer)) s
    value_of-alike at t (Prefix' o a arg) s = prefix-alike d o (value_in work calls arg) (value_in-alike arg) s
    value_of-alike at t (Step' p place up post) s = step-alike d (type_in place) up post (place_in work calls place) (place_in-alike place) s
    value_of-alike at t (Cast' a arg) s = cast-alike d t (value_in work calls arg) (value_in-alike arg) s
    value_of-alike at t (Paren' a arg) s = value_in-alike arg s
    value_of-alike at t (Chain' f first r rest) s =
        chain-alike d (operators rest) (value_in work calls first) (chained work calls (type_in first) rest) (value_in-alike first) (chained-alike (type_in first) rest) s
    value_of-alike at t (Cond' c cond a one b other) s =
        conditional-alike d (value_in work calls cond) (value_in work calls one) (value_in work calls other) (value_in-alike cond) (value_in-alike one) (value_in-alike other) s
    value_of-alike at t (Assign' p place o v value) s =
        assigned-alike d (type_in place) o (type_in value) (place_in work calls place) (value_in work calls value) (place_in-alike place) (value_in-alike value) s
    value_of-alike at t (Call' f n args) s = call-alike d (values_of work calls args) (calls f) (values_of-alike args) (called-alike f) s
    value_of-alike at t (Builtin' which in_type n args) s = builtin-alike d work which in_type (values_of work calls args) (values_of-alike args) s

    value_in-alike : {n : _} (r : Row_of-TExpr n) → Alike d (value_in work calls r)
    value_in-alike end_of-TExpr s = tt
    value_in-alike (more_of-TExpr at t n rest) s = value_of-alike at t n s

    chained-alike : {n : _} (a : Ty) (r : Row_of-Node-Chain-1-2 n) (x : Value) → Alike d (chained work calls a r x)
    chained-alike a end_of-Node-Chain-1-2 x s = refl
    chained-alike a (more_of-Node-Chain-1-2 o at t n rest) x s =
        then-alike d (operator_value a o t x (value_of work calls at t n) s) _ (chained work calls (type_after o a t) rest) (chained work calls (type_after o a t) rest) (operator-alike d a o t x (value_of work calls at t n) (value_of-alike at t n) s) (λ y u. chained-alike (type_after o a t) rest y u)

    place_of-alike : (at : ℕ) (t : Ty) (n : Node) → Alike d (place_of work calls at t n)
    place_of-alike at t (Name v) s = variable-alike d v s
    place_of-alike at t (Index' b base i index) s =
        index-alike d at (bytes_of (scalar_of t)) (value_in work calls base) (value_in work calls index) (value_in-alike base) (value_in-alike index) s
    place_of-alike at t (Element' v i index) s = cell-alike d at v (value_in work calls index) (value_in-alike index) s
    place_of-alike at t (Deref' p pointer) s = pointed-alike d at (value_in work calls pointer) (value_in-alike pointer) s
    place_of-alike at t (Paren' a arg) s = place_in-alike arg s
    place_of-alike at t (Number w) s = tt
    place_of-alike at t (Prefix' o a arg) s = tt
    place_of-alike at t (Step' p place up post) s = tt
    place_of-alike at t (Cast' a arg) s = tt
    place_of-alike at t (Chain' f first r rest) s = tt
    place_of-alike at t (Cond' c cond a one b other) s = tt
    place_of-alike at t (Assign' p place o v value) s = tt
    place_of-alike at t (Call' f n args) s = tt
    place_of-alike at t (Builtin' which in_type n args) s = tt

    place_in-alike : {n : _} (r : Row_of-TExpr n) → Alike d (place_in work calls r)
    place_in-alike end_of-TExpr s = tt
    place_in-alike (more_of-TExpr at t n rest) s = place_of-alike at t n s

    values_of-alike : {n : _} (r : Row_of-TExpr n) → Alike d (values_of work calls r)
    values_of-alike end_of-TExpr s = no_values-alike d s
    values_of-alike (more_of-TExpr at t n rest) s = and_values-alike d (value_of work calls at t n) (values_of work calls rest) (value_of-alike at t n) (values_of-alike rest) s

  value-alike : (x : TExpr) → Alike d (value work calls x)
  value-alike x s = value_of-alike x.at x.ty x.node s

  value_if-alike : (x : Option TExpr) → AlikeIf d (value_if work calls x)
  value_if-alike None = tt
  value_if-alike (Some x) = value-alike x

  test_of-alike : (x : Option TExpr) → Alike d (test_of work calls x)
  test_of-alike None s = always-alike d s
  test_of-alike (Some x) s = value-alike x s

  step_of-alike : (x : Option TExpr) → Alike d (step_of work calls x)
  step_of-alike None s = no_flow-alike d s
  step_of-alike (Some x) s = dropped-alike d (value work calls x) (value-alike x) s

  module _ (vars : List Var) where
    mutual
      does-alike : (a : TStmt) → Alike d (does work calls vars a)
      does-alike (Block' n stmts) s = block-alike d (does_all work calls vars stmts) (does_all-alike stmts) s
      does-alike (Declare v init) s = declare-alike d (var_at vars v) v (value_if work calls init) (value_if-alike init) s
      does-alike (Eval x) s = eval-alike d (value work calls x) (value-alike x) s
      does-alike Empty s = leaf-alike d Next s
      does-alike (If' cond y one other) s = if-flow-alike d (value work calls cond) (does_in work calls vars one) (does_else work calls vars other) (value-alike cond) (does_in-alike one) (does_else-alike other) s
      does-alike (While' cond b body) s = while-alike d (value work calls cond) (does_in work calls vars body) (value-alike cond) (does_in-alike body) s
      does-alike (Do' b body cond) s = do-alike d (does_in work calls vars body) (value work calls cond) (does_in-alike body) (value-alike cond) s
      does-alike (For' n init cond step b body) s =
          for-alike d (begins work calls vars init) (test_of work calls cond) (step_of work calls step) (does_in work calls vars body) (begins-alike init) (test_of-alike cond) (step_of-alike step) (does_in-alike body) s
      does-alike Break s = leaf-alike d Broke s
      does-alike Continue s = leaf-alike d Again s
      does-alike (Return x) s = return-alike d (value_if work calls x) (value_if-alike x) s

      does_all-alike : {n : _} (r : Row_of-TStmt n) → Alike d (does_all work calls vars r)
      does_all-alike end_of-TStmt s = no_flow-alike d s
      does_all-alike (more_of-TStmt a rest) s = and_flow-alike d (does work calls vars a) (does_all work calls vars rest) (does-alike a) (does_all-alike rest) s

      does_in-alike : {n : _} (r : Row_of-TStmt n) → Alike d (does_in work calls vars r)
      does_in-alike end_of-TStmt s = tt
      does_in-alike (more_of-TStmt a rest) s = does-alike a s

      does_else-alike : (o : Held-TStmt-If-2) → Alike d (does_else work calls vars o)
      does_else-alike None' s = no_flow-alike d s
      does_else-alike (Some' b stmt) s = does_in-alike stmt s

      begins-alike : {n : _} (r : Row_of-TStmt n) → Alike d (begins work calls vars r)
      begins-alike end_of-TStmt s = no_flow-alike d s
      begins-alike (more_of-TStmt a rest) s = and_flow-alike d (begin_with work calls vars a) (begins work calls vars rest) (begin_with-alike a) (begins-alike rest) s

      begin_with-alike : (a : TStmt) → Alike d (begin_with work calls vars a)
      begin_with-alike (Eval x) s = dropped-alike d (value work calls x) (value-alike x) s
      begin_with-alike (Declare v init) s = declare-alike d (var_at vars v) v (value_if work calls init) (value_if-alike init) s
      begin_with-alike (Block' n stmts) s = tt
      begin_with-alike Empty s = tt
      begin_with-alike (If' cond y one other) s = tt
      begin_with-alike (While' cond b body) s = tt
      begin_with-alike (Do' b body cond) s = tt
      begin_with-alike (For' n init cond step b body) s = tt
      begin_with-alike Break s = tt
      begin_with-alike Continue s = tt
      begin_with-alike (Return x) s = tt

  function-alike : (f : Option TFunction) (xs : List Value) → Alike d (called work calls f xs)
  function-alike None xs s = tt
  function-alike (Some f) xs s =
      then-alike d (does work calls f.vars f.body (entered f xs s)) _ (λ flow t. call_end f.result flow (back_in s t)) (λ flow t. call_end f.result flow (back_in (with_more d s) t))
      (does-alike f.vars f.body (entered f xs s)) (λ flow t. end-alike d f.result flow (back_in s t))

either-alike : {A : Type 0} (d : ℕ) (b : Bool) (x y p q : Run A) → Same d x p → Same d y q → Same d (if b then x else y) (if b then p else q)
either-alike d true x y p q h g = h
either-alike d false x y p q h g = g

calls_below-alike : (d : ℕ) (work : Work) (functions : List TFunction) (n k : ℕ) (xs : List Value) → Alike d (calls_below work functions n k xs)
calls_below-alike d work functions zero k xs s = tt
calls_below-alike d work functions (suc n) k xs s =
    either-alike d (nat_eq k n) _ _ _ _
    (function-alike d work (calls_below work functions n) (calls_below-alike d work functions n) (slice_get functions k) xs s)
    (calls_below-alike d work functions n k xs s)

end-same : (d turns : ℕ) (r q : Run Value) → Same d r q → (item_end turns r ≡ e.Spent) ⊎ (item_end (turns + d) q ≡ item_end turns r)
end-same d turns (Goes v s) q h =
    let f : turns + d - (s.left + d) ≡ turns - s.left = omega arith in
    inr (ap (item_end (turns + d)) h ∙ ap (λ n. e.Ends (record { buffers = s.buffers; marks = s.marks; turns = n })) f)
end-same d turns (Bounds at) q h = inr (ap (item_end (turns + d)) h)
end-same d turns Spent q h = inl refl

pub enough_turns : (functions : List TFunction) (kernel : ℕ) (launch : LaunchOf) (id : ℕ) (buffers : List (List ℕ)) (turns more : ℕ) → turns ≤ more
    → (item functions kernel launch id buffers turns ≡ e.Spent) ⊎ (item functions kernel launch id buffers more ≡ item functions kernel launch id buffers turns)
unfolding item
enough_turns functions kernel launch id buffers turns more h =
    let same : turns + (more - turns) ≡ more = omega (arith, h) in
    subst (λ n. (item functions kernel launch id buffers turns ≡ e.Spent) ⊎ (item functions kernel launch id buffers n ≡ item functions kernel launch id buffers turns)) same
    (end-same (more - turns) turns _ _ (calls_below-alike (more - turns) (work_of launch.dims launch.global launch.local id) functions (suc kernel) kernel (map value_of_arg launch.args) (opening buffers turns)))
