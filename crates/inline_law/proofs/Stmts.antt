-- Statements: what is made of one does what it does.
use Rattle.std.proofs.Common.{◌≡◌, ℕ, ◌+◌, ◌<◌, ◌≤◌, Bool, true, List, [], ◌∷◌, ◌++◌, Option, Some, None, length, refl, sym, ap, ◌∙◌, subst}
use Rattle.std.specs.Prelude.{map, slice_get}
use Rattle.q_lane.specs.declared.kinds.Scalar.{Scalar}
use Rattle.q_functions.specs.declared.work.Work.{Work}
use Rattle.clc_types.specs.declared.typed.Var.{Var}
use Rattle.clc_types.specs.declared.typed.Var.TheVariants as var
use Rattle.clc_types.specs.declared.typed.TExpr.{TExpr}
use Rattle.clc_types.specs.declared.typed.TStmt.{TStmt, roll-TStmt}
use Rattle.clc_types.specs.declared.typed.TStmt.TheVariants as st
use Rattle.clc_types.specs.declared.typed.TStmt.TheOpen as s
use Rattle.clc_types.specs.declared.typed.TStmt.TheOpen.{TStmt-F}
use Rattle.clc_types.specs.declared.typed.TStmt.TheFolds.{fold-roll-TStmt, ind-TStmt, map-TStmt}
use Rattle.clc_types.specs.declared.typed.TFunction.{TFunction}
use Rattle.clc_types.specs.WellTyped.{Seen, maybe_condition, maybe_valid, is_declared, is_returned, all_fit, together, declared_layer, declared, stmt_fits}
use Rattle.clc_types.specs.WellTyped as wt
use Rattle.clc_inline.specs.declared.body.TExpr.{TExpr as BodyExpr}
use Rattle.clc_inline.specs.declared.body.TStmt.{TStmt as BodyStmt}
use Rattle.clc_inline.specs.declared.body.TStmt.TheVariants as bst
use Rattle.clc_inline.specs.Inlining.{Makes, just, mapped, four, Bodies, maybe_made, stmt_layer, stmt_made}
use Rattle.item_meaning.specs.declared.values.Value.TheVariants.{Num}
use Rattle.item_meaning.specs.declared.values.Flow.{Flow}
use Rattle.item_meaning.specs.declared.values.Flow.TheVariants.{Next, Broke, Again}
use Rattle.item_meaning.specs.NodeMeanings.{Part}
use Rattle.item_meaning.specs.StatementMeanings.{var_at, declare_flow}
use Rattle.item_meaning.specs.ItemMeaning.{Calls}
use Rattle.body_meaning.specs.BodyMeaning.{declared_in}
use Rattle.inline_law.proofs.Frames.{Same, SameFlow, Both}
use Rattle.inline_law.proofs.Parts.{goes_both}
use Rattle.inline_law.proofs.Accesses.{both_flow}
use Rattle.inline_law.proofs.StatementForms.{BothIf, declare_both, leaf_both, block_both, dropped_both, eval_both, if_both, while_both, do_both, for_both, return_both}
use Rattle.inline_law.proofs.TypedStatements as ts
use Rattle.inline_law.proofs.BodyStatements as bs
use Rattle.inline_law.proofs.Growing.{and_left, and_right, Begins, begins_same, begins_then, append_none, roomy, Grows, each_made, listed_each, both_by}
use Rattle.inline_law.proofs.Seen.{value_valid}
use Rattle.inline_law.proofs.Exprs as x

-- ---- numbers of variables

abbrev pub shifted : ℕ → List ℕ → List ℕ
shifted base [] = []
shifted base (u ∷ us) = (base + u) ∷ shifted base us

shifted_both : (base : ℕ) (us ws : List ℕ) → shifted base us ++ shifted base ws ≡ shifted base (us ++ ws)
shifted_both base [] ws = refl
shifted_both base (u ∷ us) ws = ap (λ z. (base + u) ∷ z) (shifted_both base us ws)

two_lists : (base : ℕ) (a b : List ℕ) (us ws : List ℕ) → a ≡ shifted base us → b ≡ shifted base ws → a ++ b ≡ shifted base (us ++ ws)
two_lists base a b us ws h i = (λ k. h k ++ i k) ∙ shifted_both base us ws

alone : (base : ℕ) (a us : List ℕ) → a ≡ shifted base us → bs.in_one a ≡ shifted base us
alone base a us h = append_none a ∙ h

-- ---- what a test says

module _ (fvars : List Var) (before : List TFunction) (result : Option Scalar) where
  declared_valid : (o : Option Var) (i : Option TExpr) → is_declared fvars before result o i ≡ true → maybe_valid fvars before result i ≡ true
  declared_valid o None h = refl
  declared_valid None (Some e) h = absurd (cc)
  declared_valid (Some (var.Value k)) (Some e) h = and_left _ _ h
  declared_valid (Some (var.Pointer k c)) (Some e) h = and_left _ _ h
  declared_valid (Some (var.Array k c)) (Some e) h = and_left _ _ h

  returned_valid : (r : Option Scalar) (i : Option TExpr) → is_returned fvars before result r i ≡ true → maybe_valid fvars before result i ≡ true
  returned_valid r None h = refl
  returned_valid None (Some e) h = absurd (cc)
  returned_valid (Some k) (Some e) h = value_valid (wt.seen fvars before result e) h

  condition_valid : (i : Option TExpr) → maybe_condition fvars before result i ≡ true → maybe_valid fvars before result i ≡ true
  condition_valid None h = refl
  condition_valid (Some e) h = value_valid (wt.seen fvars before result e) h

module _ (functions : List TFunction) (bodies : Bodies) (base n skip : ℕ) (fvars total : List Var) (before : List TFunction) (result : Option Scalar) (work : Work) (calls : Calls) where
  abbrev make : TExpr → Makes BodyExpr
  make = x.make functions bodies base n skip fvars total before result work calls

  abbrev pub make_stmt : TStmt → Makes BodyStmt
  make_stmt = stmt_made functions bodies base

  abbrev fits : TStmt → Bool → Bool
  fits = stmt_fits fvars before result

  abbrev see : TExpr → Seen
  see = wt.seen fvars before result

  abbrev pub flow : TStmt → Part Flow
  flow a = ts.flow work calls fvars a

  abbrev start : TStmt → Part Flow
  start a = ts.start work calls fvars a

  abbrev pub made_flow : BodyStmt → Part Flow
  made_flow a = bs.flow work total a

  abbrev made_start : BodyStmt → Part Flow
  made_start a = bs.start work total a

  abbrev pub Flows : Part Flow → Part Flow → Type 0
  Flows p q = Both n base skip (length total) SameFlow p q

  abbrev pub Rel : TStmt → Makes BodyStmt → (Bool → Bool) → List ℕ → Type 0
  Rel y M F D =
      Grows M × (((V : List Var) → declared_in (M V).made ≡ shifted base D) × ((looped : Bool) (V : List Var) → F looped ≡ true → base + n ≤ length V → Begins (M V).vars total
      → Flows (flow y) (made_flow (M V).made) × Flows (start y) (made_start (M V).made)))

  abbrev pub QStmt : TStmt → Type 0
  QStmt y = Rel y (make_stmt y) (fits y) (declared y)

  abbrev Sub : Type 0
  Sub = (y : TStmt) × QStmt y

  abbrev pub Declares : Type 0
  Declares = (u : ℕ) (i : Option TExpr) → is_declared fvars before result (slice_get fvars u) i ≡ true → u < n

  abbrev pub SameVars : Type 0
  SameVars = (u : ℕ) → u < n → var_at total (base + u) ≡ var_at fvars u

  spent_both : Flows (ts.spent work calls fvars) (bs.spent work total)
  spent_both a t r = tt

  flow_by : (p p2 q q2 : Part Flow) → p ≡ p2 → q ≡ q2 → Flows p2 q2 → Flows p q
  flow_by p p2 q q2 a b h = both_by n base skip (length total) SameFlow p p2 q q2 a b h

  grown : (a : Sub) (V : List Var) → base + n ≤ length V → base + n ≤ length (make_stmt a.0 V).vars
  grown a V room = roomy (base + n) V (make_stmt a.0 V).vars room (a.1.0 V)

  -- ---- lists of statements

  abbrev makes : List Sub → List (Makes BodyStmt)
  makes ys = map make_stmt (map (λ y. y.0) ys)

  all_grow : (ys : List Sub) → Grows (each_made (makes ys))
  all_grow [] V = begins_same V
  all_grow (y ∷ ys) V = begins_then V (make_stmt y.0 V).vars (each_made (makes ys) (make_stmt y.0 V).vars).vars (y.1.0 V) (all_grow ys (make_stmt y.0 V).vars)

  all_declared : (ys : List Sub) (V : List Var) → bs.each_declared (each_made (makes ys) V).made ≡ shifted base (together (map declared (map (λ y. y.0) ys)))
  all_declared [] V = refl
  all_declared (y ∷ ys) V =
      two_lists base (declared_in (make_stmt y.0 V).made) (bs.each_declared (each_made (makes ys) (make_stmt y.0 V).vars).made) (declared y.0) (together (map declared (map (λ z. z.0) ys)))
      (y.1.1.0 V) (all_declared ys (make_stmt y.0 V).vars)

  all_flows : (ys : List Sub) (looped : Bool) (V : List Var) → all_fit fvars before result (map fits (map (λ y. y.0) ys)) looped ≡ true → base + n ≤ length V → Begins (each_made (makes ys) V).vars total
      → Flows (ts.flows work calls fvars (map (λ y. y.0) ys)) (bs.flows work total (each_made (makes ys) V).made) × Flows (ts.starts work calls fvars (map (λ y. y.0) ys)) (bs.starts work total (each_made (makes ys) V).made)
  all_flows [] looped V ok room fit = (goes_both n base skip (length total) SameFlow Next Next refl, goes_both n base skip (length total) SameFlow Next Next refl)
  all_flows (y ∷ ys) looped V ok room fit =
      let W : List Var = (make_stmt y.0 V).vars in
      let Y : BodyStmt = (make_stmt y.0 V).made in
      let l : List BodyStmt = (each_made (makes ys) W).made in
      let h = y.1.1.1 looped V (and_left (fits y.0 looped) (all_fit fvars before result (map fits (map (λ z. z.0) ys)) looped) ok) room (begins_then W (each_made (makes ys) W).vars total (all_grow ys W) fit) in
      let i = all_flows ys looped W (and_right (fits y.0 looped) (all_fit fvars before result (map fits (map (λ z. z.0) ys)) looped) ok) (grown y V room) fit in (
        both_flow n base skip (length total) (flow y.0) (made_flow Y) (ts.flows work calls fvars (map (λ z. z.0) ys)) (bs.flows work total l) h.0 i.0,
        both_flow n base skip (length total) (start y.0) (made_start Y) (ts.starts work calls fvars (map (λ z. z.0) ys)) (bs.starts work total l) h.1 i.1,
      )

  form_leaf : (y : TStmt) (Y : BodyStmt) (F : Bool → Bool) → declared_in Y ≡ [] → Flows (flow y) (made_flow Y) → Flows (start y) (made_start Y) → Rel y (λ V. just Y V) F []
  form_leaf y Y F d h i = (λ V. begins_same V, (λ V. d, λ looped V ok room fit. (h, i)))

  form_block : (ys : List Sub) → Rel (st.Block (map (λ y. y.0) ys)) (λ V. mapped bst.Block (each_made (makes ys) V)) (wt.stmt_layer fvars before result (s.Block (map fits (map (λ y. y.0) ys)))) (declared_layer (s.Block (map declared (map (λ y. y.0) ys))))
  form_block ys = (
    all_grow ys,
    (
      λ V. bs.declared_block (each_made (makes ys) V).made ∙ all_declared ys V,
      λ looped V ok room fit.
          let l : List BodyStmt = (each_made (makes ys) V).made in (
            flow_by _ _ _ _ (ts.block_flows work calls fvars (map (λ y. y.0) ys)) (bs.block_flows work total l) (block_both n base skip (length total) _ _ (all_flows ys looped V ok room fit).0),
            flow_by _ _ _ _ (ts.block_start work calls fvars (map (λ y. y.0) ys)) (bs.block_start work total l) spent_both,
          ),
    ),
  )

  module _ (each : (e : TExpr) → x.QExpr functions bodies base n skip fvars total before result work calls e) (declares : Declares) (same : SameVars) where
    room_after : (e : TExpr) (V : List Var) → base + n ≤ length V → base + n ≤ length (make e V).vars
    room_after e V room = roomy (base + n) V (make e V).vars room ((each e).0 V)

    abbrev maybe : Option TExpr → Makes (Option BodyExpr)
    maybe = maybe_made functions bodies base

    maybe_grow : (i : Option TExpr) → Grows (maybe i)
    maybe_grow None V = begins_same V
    maybe_grow (Some e) V = (each e).0 V

    maybe_room : (i : Option TExpr) (V : List Var) → base + n ≤ length V → base + n ≤ length (maybe i V).vars
    maybe_room i V room = roomy (base + n) V (maybe i V).vars room (maybe_grow i V)

    maybe_if : (i : Option TExpr) (V : List Var) → maybe_valid fvars before result i ≡ true → base + n ≤ length V → Begins (maybe i V).vars total
        → BothIf n base skip (length total) (ts.if_part work calls fvars i) (bs.if_part work total (maybe i V).made)
    maybe_if None V ok room fit = tt
    maybe_if (Some e) V ok room fit = ((each e).1.1 V ok room fit).0

    maybe_test : (i : Option TExpr) (V : List Var) → maybe_valid fvars before result i ≡ true → base + n ≤ length V → Begins (maybe i V).vars total
        → Both n base skip (length total) Same (ts.test_part work calls fvars i) (bs.test_part work total (maybe i V).made)
    maybe_test None V ok room fit = goes_both n base skip (length total) Same (Num 1) (Num 1) refl
    maybe_test (Some e) V ok room fit = ((each e).1.1 V ok room fit).0

    maybe_step : (i : Option TExpr) (V : List Var) → maybe_valid fvars before result i ≡ true → base + n ≤ length V → Begins (maybe i V).vars total
        → Flows (ts.step_part work calls fvars i) (bs.step_part work total (maybe i V).made)
    maybe_step None V ok room fit = goes_both n base skip (length total) SameFlow Next Next refl
    maybe_step (Some e) V ok room fit = dropped_both n base skip (length total) _ _ ((each e).1.1 V ok room fit).0

    form_declare : (u : ℕ) (i : Option TExpr) → Rel (st.Declare u i) (stmt_layer functions bodies base (s.Declare u i)) (wt.stmt_layer fvars before result (s.Declare u i)) (declared_layer (s.Declare u i))
    form_declare u i = (
      maybe_grow i,
      (
        λ V. bs.declared_declare (base + u) (maybe i V).made,
        λ looped V ok room fit.
            let lt : u < n = declares u i ok in
            let I : Option BodyExpr = (maybe i V).made in
            let h : Flows (declare_flow (var_at fvars u) u (ts.if_part work calls fvars i)) (declare_flow (var_at total (base + u)) (base + u) (bs.if_part work total I)) =
            subst (λ d. Flows (declare_flow (var_at fvars u) u (ts.if_part work calls fvars i)) (declare_flow d (base + u) (bs.if_part work total I))) (sym (same u lt))
            (declare_both n base skip (length total) (var_at fvars u) u lt (ts.if_part work calls fvars i) (bs.if_part work total I) (maybe_if i V (declared_valid fvars before result (slice_get fvars u) i ok) room fit)) in (
              flow_by _ _ _ _ (ts.declare_flows work calls fvars u i) (bs.declare_flows work total (base + u) I) h,
              flow_by _ _ _ _ (ts.declare_start work calls fvars u i) (bs.declare_start work total (base + u) I) h,
            ),
      ),
    )

    form_eval : (e : TExpr) → Rel (st.Eval e) (stmt_layer functions bodies base (s.Eval e)) (wt.stmt_layer fvars before result (s.Eval e)) []
    form_eval e = (
      (each e).0,
      (
        λ V. refl,
        λ looped V ok room fit.
            let h = ((each e).1.1 V ok room fit).0 in (
              flow_by _ _ _ _ (ts.eval_flows work calls fvars e) (bs.eval_flows work total (make e V).made) (eval_both n base skip (length total) _ _ h),
              flow_by _ _ _ _ (ts.eval_start work calls fvars e) (bs.eval_start work total (make e V).made) (dropped_both n base skip (length total) _ _ h),
            ),
      ),
    )

    form_while : (e : TExpr) (a : Sub) → Rel (st.While e a.0) (stmt_layer functions bodies base (s.While e (make_stmt a.0))) (wt.stmt_layer fvars before result (s.While e (fits a.0))) (declared a.0)
    form_while e a = (
      λ V. begins_then V (make e V).vars (make_stmt a.0 (make e V).vars).vars ((each e).0 V) (a.1.0 (make e V).vars),
      (
        λ V. bs.declared_while (make e V).made (make_stmt a.0 (make e V).vars).made ∙ alone base _ (declared a.0) (a.1.1.0 (make e V).vars),
        λ looped V ok room fit.
            let W : List Var = (make e V).vars in
            let h = ((each e).1.1 V (value_valid (see e) (and_left _ _ ok)) room (begins_then W (make_stmt a.0 W).vars total (a.1.0 W) fit)).0 in
            let i = (a.1.1.1 true W (and_right _ _ ok) (room_after e V room) fit).0 in (
              flow_by _ _ _ _ (ts.while_flows work calls fvars e a.0) (bs.while_flows work total (make e V).made (make_stmt a.0 W).made) (while_both n base skip (length total) _ _ _ _ h i),
              flow_by _ _ _ _ (ts.while_start work calls fvars e a.0) (bs.while_start work total (make e V).made (make_stmt a.0 W).made) spent_both,
            ),
      ),
    )

    form_do : (a : Sub) (e : TExpr) → Rel (st.Do a.0 e) (stmt_layer functions bodies base (s.Do (make_stmt a.0) e)) (wt.stmt_layer fvars before result (s.Do (fits a.0) e)) (declared a.0)
    form_do a e = (
      λ V. begins_then V (make_stmt a.0 V).vars (make e (make_stmt a.0 V).vars).vars (a.1.0 V) ((each e).0 (make_stmt a.0 V).vars),
      (
        λ V. bs.declared_do (make_stmt a.0 V).made (make e (make_stmt a.0 V).vars).made ∙ alone base _ (declared a.0) (a.1.1.0 V),
        λ looped V ok room fit.
            let W : List Var = (make_stmt a.0 V).vars in
            let i = (a.1.1.1 true V (and_left _ _ ok) room (begins_then W (make e W).vars total ((each e).0 W) fit)).0 in
            let h = ((each e).1.1 W (value_valid (see e) (and_right _ _ ok)) (grown a V room) fit).0 in (
              flow_by _ _ _ _ (ts.do_flows work calls fvars a.0 e) (bs.do_flows work total (make_stmt a.0 V).made (make e W).made) (do_both n base skip (length total) _ _ _ _ i h),
              flow_by _ _ _ _ (ts.do_start work calls fvars a.0 e) (bs.do_start work total (make_stmt a.0 V).made (make e W).made) spent_both,
            ),
      ),
    )

    form_return : (i : Option TExpr) → Rel (st.Return i) (stmt_layer functions bodies base (s.Return i)) (wt.stmt_layer fvars before result (s.Return i)) []
    form_return i = (
      maybe_grow i,
      (
        λ V. bs.declared_return (maybe i V).made,
        λ looped V ok room fit. (
          flow_by _ _ _ _ (ts.return_flows work calls fvars i) (bs.return_flows work total (maybe i V).made) (return_both n base skip (length total) _ _ (maybe_if i V (returned_valid fvars before result result i ok) room fit)),
          flow_by _ _ _ _ (ts.return_start work calls fvars i) (bs.return_start work total (maybe i V).made) spent_both,
        ),
      ),
    )

    form_if : (e : TExpr) (a : Sub) → Rel (st.If e a.0 None) (stmt_layer functions bodies base (s.If e (make_stmt a.0) None)) (wt.stmt_layer fvars before result (s.If e (fits a.0) None)) (declared_layer (s.If e (declared a.0) None))
    form_if e a = (
      λ V. begins_then V (make e V).vars (make_stmt a.0 (make e V).vars).vars ((each e).0 V) (a.1.0 (make e V).vars),
      (
        λ V. bs.declared_if (make e V).made (make_stmt a.0 (make e V).vars).made None ∙ two_lists base _ _ (declared a.0) [] (alone base _ (declared a.0) (a.1.1.0 (make e V).vars)) refl,
        λ looped V ok room fit.
            let W : List Var = (make e V).vars in
            let h = ((each e).1.1 V (value_valid (see e) (and_left _ _ (and_left _ _ ok))) room (begins_then W (make_stmt a.0 W).vars total (a.1.0 W) fit)).0 in
            let i = (a.1.1.1 looped W (and_right _ _ (and_left _ _ ok)) (room_after e V room) fit).0 in (
              flow_by _ _ _ _ (ts.if_flows work calls fvars e a.0 None) (bs.if_flows work total (make e V).made (make_stmt a.0 W).made None) (if_both n base skip (length total) _ _ _ _ _ _ h i (goes_both n base skip (length total) SameFlow Next Next refl)),
              flow_by _ _ _ _ (ts.if_start work calls fvars e a.0 None) (bs.if_start work total (make e V).made (make_stmt a.0 W).made None) spent_both,
            ),
      ),
    )

    form_else : (e : TExpr) (a b : Sub) → Rel (st.If e a.0 (Some b.0)) (stmt_layer functions bodies base (s.If e (make_stmt a.0) (Some (make_stmt b.0)))) (wt.stmt_layer fvars before result (s.If e (fits a.0) (Some (fits b.0)))) (declared_layer (s.If e (declared a.0) (Some (declared b.0))))
    form_else e a b = (
      λ V. let W : List Var = (make e V).vars in let X : List Var = (make_stmt a.0 W).vars in
          begins_then V W (make_stmt b.0 X).vars ((each e).0 V) (begins_then W X (make_stmt b.0 X).vars (a.1.0 W) (b.1.0 X)),
      (
        λ V. let W : List Var = (make e V).vars in let X : List Var = (make_stmt a.0 W).vars in
            bs.declared_if (make e V).made (make_stmt a.0 W).made (Some (make_stmt b.0 X).made)
            ∙ two_lists base _ _ (declared a.0) (declared b.0) (alone base _ (declared a.0) (a.1.1.0 W)) (alone base _ (declared b.0) (b.1.1.0 X)),
        λ looped V ok room fit.
            let W : List Var = (make e V).vars in
            let X : List Var = (make_stmt a.0 W).vars in
            let fitX : Begins X total = begins_then X (make_stmt b.0 X).vars total (b.1.0 X) fit in
            let h = ((each e).1.1 V (value_valid (see e) (and_left _ _ (and_left _ _ ok))) room (begins_then W X total (a.1.0 W) fitX)).0 in
            let i = (a.1.1.1 looped W (and_right _ _ (and_left _ _ ok)) (room_after e V room) fitX).0 in
            let j = (b.1.1.1 looped X (and_right _ _ ok) (grown a W (room_after e V room)) fit).0 in (
              flow_by _ _ _ _ (ts.if_flows work calls fvars e a.0 (Some b.0)) (bs.if_flows work total (make e V).made (make_stmt a.0 W).made (Some (make_stmt b.0 X).made)) (if_both n base skip (length total) _ _ _ _ _ _ h i j),
              flow_by _ _ _ _ (ts.if_start work calls fvars e a.0 (Some b.0)) (bs.if_start work total (make e V).made (make_stmt a.0 W).made (Some (make_stmt b.0 X).made)) spent_both,
            ),
      ),
    )

    form_for : (ys : List Sub) (i j : Option TExpr) (a : Sub)
        → Rel (st.For (map (λ y. y.0) ys) i j a.0) (λ V. four bst.For (each_made (makes ys) V) (maybe i) (maybe j) (make_stmt a.0))
        (wt.stmt_layer fvars before result (s.For (map fits (map (λ y. y.0) ys)) i j (fits a.0))) (declared_layer (s.For (map declared (map (λ y. y.0) ys)) i j (declared a.0)))
    form_for ys i j a = (
      λ V. let W : List Var = (each_made (makes ys) V).vars in let X : List Var = (maybe i W).vars in let Y : List Var = (maybe j X).vars in
          begins_then V W (make_stmt a.0 Y).vars (all_grow ys V) (begins_then W X (make_stmt a.0 Y).vars (maybe_grow i W) (begins_then X Y (make_stmt a.0 Y).vars (maybe_grow j X) (a.1.0 Y))),
      (
        λ V. let W : List Var = (each_made (makes ys) V).vars in let X : List Var = (maybe i W).vars in let Y : List Var = (maybe j X).vars in
            bs.declared_for (each_made (makes ys) V).made (maybe i W).made (maybe j X).made (make_stmt a.0 Y).made
            ∙ two_lists base _ _ (together (map declared (map (λ y. y.0) ys))) (declared a.0) (all_declared ys V) (alone base _ (declared a.0) (a.1.1.0 Y)),
        λ looped V ok room fit.
            let W : List Var = (each_made (makes ys) V).vars in
            let X : List Var = (maybe i W).vars in
            let Y : List Var = (maybe j X).vars in
            let fitY : Begins Y total = begins_then Y (make_stmt a.0 Y).vars total (a.1.0 Y) fit in
            let fitX : Begins X total = begins_then X Y total (maybe_grow j X) fitY in
            let fitW : Begins W total = begins_then W X total (maybe_grow i W) fitX in
            let roomW : base + n ≤ length W = roomy (base + n) V W room (all_grow ys V) in
            let roomX : base + n ≤ length X = maybe_room i W roomW in
            let h = (all_flows ys looped V (and_left _ _ (and_left _ _ (and_left _ _ ok))) room fitW).1 in
            let k = maybe_test i W (condition_valid fvars before result i (and_right _ _ (and_left _ _ (and_left _ _ ok)))) roomW fitX in
            let l = maybe_step j X (and_right _ _ (and_left _ _ ok)) roomX fitY in
            let m = (a.1.1.1 true Y (and_right _ _ ok) (maybe_room j X roomX) fit).0 in (
              flow_by _ _ _ _ (ts.for_flows work calls fvars (map (λ y. y.0) ys) i j a.0) (bs.for_flows work total (each_made (makes ys) V).made (maybe i W).made (maybe j X).made (make_stmt a.0 Y).made) (for_both n base skip (length total) _ _ _ _ _ _ _ _ h k l m),
              flow_by _ _ _ _ (ts.for_start work calls fvars (map (λ y. y.0) ys) i j a.0) (bs.for_start work total (each_made (makes ys) V).made (maybe i W).made (maybe j X).made (make_stmt a.0 Y).made) spent_both,
            ),
      ),
    )

    at_roll : (y z : TStmt) (M : Makes BodyStmt) (F : Bool → Bool) (D : List ℕ) → y ≡ z → Rel y M F D → Rel z M F D
    at_roll y z M F D h r = subst (λ w. Rel w M F D) h r

    made_so : (y : TStmt) (M N : Makes BodyStmt) (F : Bool → Bool) (D : List ℕ) → M ≡ N → Rel y M F D → Rel y N F D
    made_so y M N F D h r = subst (λ w. Rel y w F D) h r

    layer : (y : TStmt-F Sub)
        → Rel (roll-TStmt (map-TStmt _ _ (λ z. z.0) y)) (stmt_layer functions bodies base (map-TStmt _ _ make_stmt (map-TStmt _ _ (λ z. z.0) y)))
        (wt.stmt_layer fvars before result (map-TStmt _ _ fits (map-TStmt _ _ (λ z. z.0) y))) (declared_layer (map-TStmt _ _ declared (map-TStmt _ _ (λ z. z.0) y)))
    layer (s.Block ys) =
        at_roll (st.Block (map (λ y. y.0) ys)) (roll-TStmt (s.Block (map (λ y. y.0) ys))) (stmt_layer functions bodies base (s.Block (makes ys))) (wt.stmt_layer fvars before result (s.Block (map fits (map (λ y. y.0) ys)))) (declared_layer (s.Block (map declared (map (λ y. y.0) ys)))) (sym (st.rolls-Block (map (λ y. y.0) ys))) (made_so (st.Block (map (λ y. y.0) ys)) (λ V. mapped bst.Block (each_made (makes ys) V)) (stmt_layer functions bodies base (s.Block (makes ys))) (wt.stmt_layer fvars before result (s.Block (map fits (map (λ y. y.0) ys)))) (declared_layer (s.Block (map declared (map (λ y. y.0) ys)))) (ap {B = Makes BodyStmt} (λ (z : Makes (List BodyStmt)) (V : List Var). mapped bst.Block (z V)) (sym (listed_each (makes ys)))) (form_block ys))
    layer (s.Declare u i) =
        at_roll (st.Declare u i) (roll-TStmt (s.Declare u i)) (stmt_layer functions bodies base (s.Declare u i)) (wt.stmt_layer fvars before result (s.Declare u i)) (declared_layer (s.Declare u i)) (sym (st.rolls-Declare u i)) (form_declare u i)
    layer (s.Eval e) =
        at_roll (st.Eval e) (roll-TStmt (s.Eval e)) (stmt_layer functions bodies base (s.Eval e)) (wt.stmt_layer fvars before result (s.Eval e)) (declared_layer (s.Eval e)) (sym (st.rolls-Eval e)) (form_eval e)
    layer s.Empty =
        at_roll st.Empty (roll-TStmt s.Empty) (stmt_layer functions bodies base s.Empty) (wt.stmt_layer fvars before result s.Empty) (declared_layer s.Empty) (sym st.rolls-Empty) (form_leaf st.Empty bst.Empty (wt.stmt_layer fvars before result s.Empty) refl (leaf_both n base skip (length total) Next) spent_both)
    layer (s.If e a None) =
        at_roll (st.If e a.0 None) (roll-TStmt (s.If e a.0 None)) (stmt_layer functions bodies base (s.If e (make_stmt a.0) None)) (wt.stmt_layer fvars before result (s.If e (fits a.0) None)) (declared_layer (s.If e (declared a.0) None)) (sym (st.rolls-If e a.0 None)) (form_if e a)
    layer (s.If e a (Some b)) =
        at_roll (st.If e a.0 (Some b.0)) (roll-TStmt (s.If e a.0 (Some b.0))) (stmt_layer functions bodies base (s.If e (make_stmt a.0) (Some (make_stmt b.0)))) (wt.stmt_layer fvars before result (s.If e (fits a.0) (Some (fits b.0)))) (declared_layer (s.If e (declared a.0) (Some (declared b.0)))) (sym (st.rolls-If e a.0 (Some b.0))) (form_else e a b)
    layer (s.While e a) =
        at_roll (st.While e a.0) (roll-TStmt (s.While e a.0)) (stmt_layer functions bodies base (s.While e (make_stmt a.0))) (wt.stmt_layer fvars before result (s.While e (fits a.0))) (declared_layer (s.While e (declared a.0))) (sym (st.rolls-While e a.0)) (form_while e a)
    layer (s.Do a e) =
        at_roll (st.Do a.0 e) (roll-TStmt (s.Do a.0 e)) (stmt_layer functions bodies base (s.Do (make_stmt a.0) e)) (wt.stmt_layer fvars before result (s.Do (fits a.0) e)) (declared_layer (s.Do (declared a.0) e)) (sym (st.rolls-Do a.0 e)) (form_do a e)
    layer (s.For ys i j a) =
        at_roll (st.For (map (λ y. y.0) ys) i j a.0) (roll-TStmt (s.For (map (λ y. y.0) ys) i j a.0)) (stmt_layer functions bodies base (s.For (makes ys) i j (make_stmt a.0))) (wt.stmt_layer fvars before result (s.For (map fits (map (λ y. y.0) ys)) i j (fits a.0))) (declared_layer (s.For (map declared (map (λ y. y.0) ys)) i j (declared a.0))) (sym (st.rolls-For (map (λ y. y.0) ys) i j a.0)) (made_so (st.For (map (λ y. y.0) ys) i j a.0) (λ V. four bst.For (each_made (makes ys) V) (maybe i) (maybe j) (make_stmt a.0)) (stmt_layer functions bodies base (s.For (makes ys) i j (make_stmt a.0))) (wt.stmt_layer fvars before result (s.For (map fits (map (λ y. y.0) ys)) i j (fits a.0))) (declared_layer (s.For (map declared (map (λ y. y.0) ys)) i j (declared a.0))) (ap {B = Makes BodyStmt} (λ (z : Makes (List BodyStmt)) (V : List Var). four bst.For (z V) (maybe i) (maybe j) (make_stmt a.0)) (sym (listed_each (makes ys)))) (form_for ys i j a))
    layer s.Break =
        at_roll st.Break (roll-TStmt s.Break) (stmt_layer functions bodies base s.Break) (wt.stmt_layer fvars before result s.Break) (declared_layer s.Break) (sym st.rolls-Break) (form_leaf st.Break bst.Break (wt.stmt_layer fvars before result s.Break) refl (leaf_both n base skip (length total) Broke) spent_both)
    layer s.Continue =
        at_roll st.Continue (roll-TStmt s.Continue) (stmt_layer functions bodies base s.Continue) (wt.stmt_layer fvars before result s.Continue) (declared_layer s.Continue) (sym st.rolls-Continue) (form_leaf st.Continue bst.Continue (wt.stmt_layer fvars before result s.Continue) refl (leaf_both n base skip (length total) Again) spent_both)
    layer (s.Return i) =
        at_roll (st.Return i) (roll-TStmt (s.Return i)) (stmt_layer functions bodies base (s.Return i)) (wt.stmt_layer fvars before result (s.Return i)) (declared_layer (s.Return i)) (sym (st.rolls-Return i)) (form_return i)

    rolled : (y : TStmt-F TStmt) (z : TStmt-F Sub) → map-TStmt _ _ (λ w. w.0) z ≡ y → QStmt (roll-TStmt y)
    rolled y z is =
        subst (λ w. QStmt (roll-TStmt w)) is
        (let o : TStmt-F TStmt = map-TStmt _ _ (λ w. w.0) z in
        subst (λ M. Rel (roll-TStmt o) M (fits (roll-TStmt o)) (declared (roll-TStmt o))) (sym (fold-roll-TStmt (Makes BodyStmt) (stmt_layer functions bodies base) o))
        (subst (λ F. Rel (roll-TStmt o) (stmt_layer functions bodies base (map-TStmt _ _ make_stmt o)) F (declared (roll-TStmt o))) (sym (fold-roll-TStmt (Bool → Bool) (wt.stmt_layer fvars before result) o))
        (subst (λ D. Rel (roll-TStmt o) (stmt_layer functions bodies base (map-TStmt _ _ make_stmt o)) (wt.stmt_layer fvars before result (map-TStmt _ _ fits o)) D) (sym (fold-roll-TStmt (List ℕ) declared_layer o)) (layer z))))

    -- every statement
    pub stmt_related : (y : TStmt) → QStmt y
    stmt_related = ind-TStmt QStmt rolled
