-- A typed program keeps what its steps keep.
use Rattle.std.proofs.Common.{true≢false, ◌≡◌, ℕ, zero, suc, Bool, true, false, List, [], ◌∷◌, map, length, Option, Some, None, refl, sym, ap, subst, arith}
use Rattle.std.specs.Prelude.{nat_eq, if◌then◌else◌, slice_get}
use Rattle.std.specs.List.{All}
use Rattle.footprint.specs.declared.marks.Mark.{Mark as Marked}
use Rattle.q_functions.specs.declared.work.Work.{Work}
use Rattle.q_functions.specs.WorkFunctions.{work_of}
use Rattle.q_functions.specs.NumberFunctions.{bytes_of}
use Rattle.launch_file.specs.Launches.{LaunchOf}
use Rattle.launch_meaning.specs.declared.ends.Ended.{Ended}
use Rattle.launch_meaning.specs.declared.ends.ItemEnd.{ItemEnd}
use Rattle.launch_meaning.specs.declared.ends.ItemEnd.TheVariants as e
use Rattle.clc_types.specs.declared.typed.Ty.{Ty}
use Rattle.clc_types.specs.declared.typed.Var.{Var}
use Rattle.clc_types.specs.declared.typed.TExpr.{TExpr}
use Rattle.clc_types.specs.declared.typed.Node.{Node, Row_of-TExpr, end_of-TExpr, more_of-TExpr, Row_of-Node-Chain-1-2, end_of-Node-Chain-1-2, more_of-Node-Chain-1-2}
use Rattle.clc_types.specs.declared.typed.Node.TheVariants.{Number, Name, Index', Element', Deref', Prefix', Step', Cast', Paren', Chain', Cond', Assign', Call', Builtin'}
use Rattle.clc_types.specs.declared.typed.TStmt.{TStmt, Row_of-TStmt, end_of-TStmt, more_of-TStmt, Held-TStmt-If-2, None', Some'}
use Rattle.clc_types.specs.declared.typed.TStmt.TheVariants.{Block', Declare, Eval, Empty, If', While', Do', For', Break, Continue, Return}
use Rattle.clc_types.specs.declared.typed.TFunction.{TFunction}
use Rattle.item_meaning.specs.declared.values.Value.{Value}
use Rattle.item_meaning.specs.ItemState.{Run, Goes, Bounds, Spent}
use Rattle.item_meaning.specs.declared.values.Flow.TheVariants.{Next, Broke, Again}
use Rattle.item_meaning.specs.Operators.{scalar_of, type_after}
use Rattle.item_meaning.specs.NodeMeanings.{variable_place}
use Rattle.item_meaning.specs.StatementMeanings.{var_at}
use Rattle.item_meaning.specs.ItemMeaning.{operators, type_in, Calls, value_of, value_in, chained, place_of, place_in, values_of, value, value_if, test_of, step_of, does, does_all, does_in, does_else, begins, begin_with, entered, back_in, called, calls_below, value_of_arg, opening, item_end, item}
use Rattle.item_bounds.specs.Laws.{IsWithin, AreBytes, StaysWithin, ItemsStayWithin, ItemsKeepBytes}
use Rattle.item_bounds.proofs.Stays.{Every, Stays, Leads, then-leads}
use Rattle.item_bounds.proofs.StaysNodes.{Keeps, KeepsIf, variable-keeps, index-keeps, cell-keeps, pointed-keeps, read_from-keeps, number-keeps, prefix-keeps, cast-keeps, step-keeps, assigned-keeps, conditional-keeps, operator-keeps, chain-keeps, builtin-keeps, no_values-keep, and_values-keep, call-keeps, declare-keeps, block-keeps, no_flow-keeps, and_flow-keeps, dropped-keeps, eval-keeps, leaf-keeps, if-keeps, while-keeps, do-keeps, always-keeps, for-keeps, return-keeps, end-keeps}

module _ (given : List (List ℕ)) (most : ℕ) (work : Work) (calls : Calls) (called-keep : (k : ℕ) (xs : List Value) → Keeps given most (calls k xs)) where
  mutual
    value_of-keeps : (at : ℕ) (t : Ty) (n : Node) → Keeps given most (value_of work calls at t n)
    value_of-keeps at t (Number w) s h = number-keeps given most w s h
    value_of-keeps at t (Name v) s h = read_from-keeps given most t (variable_place v) (variable-keeps given most v) s h
    value_of-keeps at t (Index' b base i index) s h =
        read_from-keeps given most t _ (index-keeps given most at (bytes_of (scalar_of t)) (value_in work calls base) (value_in work calls index) (value_in-keeps base) (value_in-keeps index)) s h
    value_of-keeps at t (Element' v i index) s h = read_from-keeps given most t _ (cell-keeps given most at v (value_in work calls index) (value_in-keeps index)) s h
    value_of-keeps at t (Deref' p pointer) s h = read_from-keeps given most t _ (pointed-keeps given most at (value_in work calls pointer) (value_in-keeps pointer)) s h
    value_of-keeps at t (Prefix' o a arg) s h = prefix-keeps given most o (value_in work calls arg) (value_in-keeps arg) s h
    value_of-keeps at t (Step' p place up post) s h = step-keeps given most (type_in place) up post (place_in work calls place) (place_in-keeps place) s h
    value_of-keeps at t (Cast' a arg) s h = cast-keeps given most t (value_in work calls arg) (value_in-keeps arg) s h
    value_of-keeps at t (Paren' a arg) s h = value_in-keeps arg s h
    value_of-keeps at t (Chain' f first r rest) s h =
        chain-keeps given most (operators rest) (value_in work calls first) (chained work calls (type_in first) rest) (value_in-keeps first) (chained-keeps (type_in first) rest) s h
    value_of-keeps at t (Cond' c cond a one b other) s h =
        conditional-keeps given most (value_in work calls cond) (value_in work calls one) (value_in work calls other) (value_in-keeps cond) (value_in-keeps one) (value_in-keeps other) s h
    value_of-keeps at t (Assign' p place o v value) s h =
        assigned-keeps given most (type_in place) o (type_in value) (place_in work calls place) (value_in work calls value) (place_in-keeps place) (value_in-keeps value) s h
    value_of-keeps at t (Call' f n args) s h = call-keeps given most (values_of work calls args) (calls f) (values_of-keep args) (called-keep f) s h
    value_of-keeps at t (Builtin' which in_type n args) s h = builtin-keeps given most work which in_type (values_of work calls args) (values_of-keep args) s h

    value_in-keeps : {n : _} (r : Row_of-TExpr n) → Keeps given most (value_in work calls r)
    value_in-keeps end_of-TExpr s h = tt
    value_in-keeps (more_of-TExpr at t n rest) s h = value_of-keeps at t n s h

    chained-keeps : {n : _} (a : Ty) (r : Row_of-Node-Chain-1-2 n) (x : Value) → Keeps given most (chained work calls a r x)
    chained-keeps a end_of-Node-Chain-1-2 x s h = h
    chained-keeps a (more_of-Node-Chain-1-2 o at t n rest) x s h =
        then-leads given most _ (chained work calls (type_after o a t) rest) (operator-keeps given most a o t x (value_of work calls at t n) (value_of-keeps at t n) s h) (λ y u k. chained-keeps (type_after o a t) rest y u k)

    place_of-keeps : (at : ℕ) (t : Ty) (n : Node) → Keeps given most (place_of work calls at t n)
    place_of-keeps at t (Name v) s h = variable-keeps given most v s h
    place_of-keeps at t (Index' b base i index) s h =
        index-keeps given most at (bytes_of (scalar_of t)) (value_in work calls base) (value_in work calls index) (value_in-keeps base) (value_in-keeps index) s h
    place_of-keeps at t (Element' v i index) s h = cell-keeps given most at v (value_in work calls index) (value_in-keeps index) s h
    place_of-keeps at t (Deref' p pointer) s h = pointed-keeps given most at (value_in work calls pointer) (value_in-keeps pointer) s h
    place_of-keeps at t (Paren' a arg) s h = place_in-keeps arg s h
    place_of-keeps at t (Number w) s h = tt
    place_of-keeps at t (Prefix' o a arg) s h = tt
    place_of-keeps at t (Step' p place up post) s h = tt
    place_of-keeps at t (Cast' a arg) s h = tt
    place_of-keeps at t (Chain' f first r rest) s h = tt
    place_of-keeps at t (Cond' c cond a one b other) s h = tt
    place_of-keeps at t (Assign' p place o v value) s h = tt
    place_of-keeps at t (Call' f n args) s h = tt
    place_of-keeps at t (Builtin' which in_type n args) s h = tt

    place_in-keeps : {n : _} (r : Row_of-TExpr n) → Keeps given most (place_in work calls r)
    place_in-keeps end_of-TExpr s h = tt
    place_in-keeps (more_of-TExpr at t n rest) s h = place_of-keeps at t n s h

    values_of-keep : {n : _} (r : Row_of-TExpr n) → Keeps given most (values_of work calls r)
    values_of-keep end_of-TExpr s h = no_values-keep given most s h
    values_of-keep (more_of-TExpr at t n rest) s h = and_values-keep given most (value_of work calls at t n) (values_of work calls rest) (value_of-keeps at t n) (values_of-keep rest) s h

  value-keeps : (x : TExpr) → Keeps given most (value work calls x)
  value-keeps x s h = value_of-keeps x.at x.ty x.node s h

  value_if-keeps : (x : Option TExpr) → KeepsIf given most (value_if work calls x)
  value_if-keeps None = tt
  value_if-keeps (Some x) = value-keeps x

  test_of-keeps : (x : Option TExpr) → Keeps given most (test_of work calls x)
  test_of-keeps None s h = always-keeps given most s h
  test_of-keeps (Some x) s h = value-keeps x s h

  step_of-keeps : (x : Option TExpr) → Keeps given most (step_of work calls x)
  step_of-keeps None s h = no_flow-keeps given most s h
  step_of-keeps (Some x) s h = dropped-keeps given most (value work calls x) (value-keeps x) s h

  module _ (vars : List Var) where
    mutual
      does-keeps : (a : TStmt) → Keeps given most (does work calls vars a)
      does-keeps (Block' n stmts) s h = block-keeps given most (does_all work calls vars stmts) (does_all-keeps stmts) s h
      does-keeps (Declare v init) s h = declare-keeps given most (var_at vars v) v (value_if work calls init) (value_if-keeps init) s h
      does-keeps (Eval x) s h = eval-keeps given most (value work calls x) (value-keeps x) s h
      does-keeps Empty s h = leaf-keeps given most Next s h
      does-keeps (If' cond y one other) s h = if-keeps given most (value work calls cond) (does_in work calls vars one) (does_else work calls vars other) (value-keeps cond) (does_in-keeps one) (does_else-keeps other) s h
      does-keeps (While' cond b body) s h = while-keeps given most (value work calls cond) (does_in work calls vars body) (value-keeps cond) (does_in-keeps body) s h
      does-keeps (Do' b body cond) s h = do-keeps given most (does_in work calls vars body) (value work calls cond) (does_in-keeps body) (value-keeps cond) s h
      does-keeps (For' n init cond step b body) s h =
          for-keeps given most (begins work calls vars init) (test_of work calls cond) (step_of work calls step) (does_in work calls vars body) (begins-keeps init) (test_of-keeps cond) (step_of-keeps step) (does_in-keeps body) s h
      does-keeps Break s h = leaf-keeps given most Broke s h
      does-keeps Continue s h = leaf-keeps given most Again s h
      does-keeps (Return x) s h = return-keeps given most (value_if work calls x) (value_if-keeps x) s h

      does_all-keeps : {n : _} (r : Row_of-TStmt n) → Keeps given most (does_all work calls vars r)
      does_all-keeps end_of-TStmt s h = no_flow-keeps given most s h
      does_all-keeps (more_of-TStmt a rest) s h = and_flow-keeps given most (does work calls vars a) (does_all work calls vars rest) (does-keeps a) (does_all-keeps rest) s h

      does_in-keeps : {n : _} (r : Row_of-TStmt n) → Keeps given most (does_in work calls vars r)
      does_in-keeps end_of-TStmt s h = tt
      does_in-keeps (more_of-TStmt a rest) s h = does-keeps a s h

      does_else-keeps : (o : Held-TStmt-If-2) → Keeps given most (does_else work calls vars o)
      does_else-keeps None' s h = no_flow-keeps given most s h
      does_else-keeps (Some' b stmt) s h = does_in-keeps stmt s h

      begins-keeps : {n : _} (r : Row_of-TStmt n) → Keeps given most (begins work calls vars r)
      begins-keeps end_of-TStmt s h = no_flow-keeps given most s h
      begins-keeps (more_of-TStmt a rest) s h = and_flow-keeps given most (begin_with work calls vars a) (begins work calls vars rest) (begin_with-keeps a) (begins-keeps rest) s h

      begin_with-keeps : (a : TStmt) → Keeps given most (begin_with work calls vars a)
      begin_with-keeps (Eval x) s h = dropped-keeps given most (value work calls x) (value-keeps x) s h
      begin_with-keeps (Declare v init) s h = declare-keeps given most (var_at vars v) v (value_if work calls init) (value_if-keeps init) s h
      begin_with-keeps (Block' n stmts) s h = tt
      begin_with-keeps Empty s h = tt
      begin_with-keeps (If' cond y one other) s h = tt
      begin_with-keeps (While' cond b body) s h = tt
      begin_with-keeps (Do' b body cond) s h = tt
      begin_with-keeps (For' n init cond step b body) s h = tt
      begin_with-keeps Break s h = tt
      begin_with-keeps Continue s h = tt
      begin_with-keeps (Return x) s h = tt

  called-keeps : (f : Option TFunction) (xs : List Value) → Keeps given most (called work calls f xs)
  called-keeps None xs s h = tt
  called-keeps (Some f) xs s h =
      then-leads given most (does work calls f.vars f.body (entered f xs s)) _ (does-keeps f.vars f.body (entered f xs s) (record { same = h.same; within = h.within; few = h.few; bytes = h.bytes }))
      (λ flow t k. end-keeps given most f.result flow (back_in s t) (record { same = k.same; within = k.within; few = k.few; bytes = k.bytes }))

either-leads : {A : Type 0} (given : List (List ℕ)) (most : ℕ) (b : Bool) (x y : Run A) → Leads given most x → Leads given most y → Leads given most (if b then x else y)
either-leads given most true x y h g = h
either-leads given most false x y h g = g

calls_below-keep : (given : List (List ℕ)) (most : ℕ) (work : Work) (functions : List TFunction) (n k : ℕ) (xs : List Value) → Keeps given most (calls_below work functions n k xs)
calls_below-keep given most work functions zero k xs s h = tt
calls_below-keep given most work functions (suc n) k xs s h =
    either-leads given most (nat_eq k n) _ _
    (called-keeps given most work (calls_below work functions n) (calls_below-keep given most work functions n) (slice_get functions k) xs s h)
    (calls_below-keep given most work functions n k xs s h)

every-all : (P : Marked → Type 0) (xs : List Marked) → Every P xs → All P xs
every-all P [] h k d l = absurd (omega (arith, l))
every-all P (x ∷ xs) h zero d l = h.0
every-all P (x ∷ xs) h (suc k) d l = every-all P xs h.1 k d (omega (arith, l))

abbrev ended_of : Ended → ItemEnd → Ended
ended_of d (e.Ends x) = x
ended_of d (e.Bounds at) = d
ended_of d e.Spent = d

abbrev is_end : ItemEnd → Bool
is_end (e.Ends x) = true
is_end (e.Bounds at) = false
is_end e.Spent = false

end-stays : (buffers : List (List ℕ)) (turns : ℕ) (r : Run Value) (ended : Ended) → Leads buffers turns r → item_end turns r ≡ e.Ends ended → StaysWithin buffers turns ended
end-stays buffers turns (Goes v s) ended h q =
    subst (StaysWithin buffers turns) (ap (ended_of ended) q) (record { sizes = h.same; within = every-all (IsWithin (map length buffers)) s.marks h.within; few = omega arith })
end-stays buffers turns (Bounds at) ended h q = absurd (true≢false (sym (ap is_end q)))
end-stays buffers turns Spent ended h q = absurd (true≢false (sym (ap is_end q)))

end-bytes : (buffers : List (List ℕ)) (turns : ℕ) (r : Run Value) (ended : Ended) → Leads buffers turns r → AreBytes buffers → item_end turns r ≡ e.Ends ended → AreBytes ended.buffers
end-bytes buffers turns (Goes v s) ended h a q = subst (λ (x : Ended). AreBytes x.buffers) (ap (ended_of ended) q) (h.bytes a)
end-bytes buffers turns (Bounds at) ended h a q = absurd (true≢false (sym (ap is_end q)))
end-bytes buffers turns Spent ended h a q = absurd (true≢false (sym (ap is_end q)))

opening-stays : (buffers : List (List ℕ)) (turns : ℕ) → Stays buffers turns (opening buffers turns)
opening-stays buffers turns = record { same = refl; within = tt; few = omega arith; bytes = λ a. a }

item-leads : (functions : List TFunction) (kernel : ℕ) (launch : LaunchOf) (id : ℕ) (buffers : List (List ℕ)) (turns : ℕ)
    → Leads buffers turns (calls_below (work_of launch.dims launch.global launch.local id) functions (suc kernel) kernel (map value_of_arg launch.args) (opening buffers turns))
item-leads functions kernel launch id buffers turns =
    calls_below-keep buffers turns (work_of launch.dims launch.global launch.local id) functions (suc kernel) kernel (map value_of_arg launch.args) (opening buffers turns) (opening-stays buffers turns)

pub items_stay : ItemsStayWithin
unfolding item
items_stay functions kernel launch id buffers turns ended q = end-stays buffers turns _ ended (item-leads functions kernel launch id buffers turns) q

pub items_keep_bytes : ItemsKeepBytes
unfolding item
items_keep_bytes functions kernel launch id buffers turns ended a q = end-bytes buffers turns _ ended (item-leads functions kernel launch id buffers turns) a q
