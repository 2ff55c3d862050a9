-- A function's body does what the function does: by strong induction on its number.
use Rattle.std.proofs.Common.{◌≡◌, ℕ, zero, suc, ◌+◌, ◌<◌, ◌≤◌, inl, inr, true, false, List, ◌++◌, Option, Some, None, take, length, length-append, refl, sym, ap, ◌∙◌, subst, arith}
use Rattle.std.specs.Prelude.{slice_get, slice_index_or, replicate}
use Rattle.std.proofs.lemmas.List.{get_or_append_left, get_or-append-add, length-replicate}
use Rattle.q_lane.specs.declared.kinds.Scalar.{Scalar}
use Rattle.q_functions.specs.declared.work.Work.{Work}
use Rattle.clc_types.specs.declared.typed.Ty.{Ty}
use Rattle.clc_types.specs.declared.typed.Var.{Var}
use Rattle.clc_types.specs.declared.typed.TFunction.{TFunction}
use Rattle.clc_types.specs.WellTyped.{declared, is_well_typed}
use Rattle.clc_inline.specs.declared.body.TExpr.{TExpr as BodyExpr}
use Rattle.clc_inline.specs.declared.body.TStmt.{TStmt as BodyStmt}
use Rattle.clc_inline.specs.declared.body.Node.{Node as BodyNode}
use Rattle.clc_inline.specs.declared.body.Node.TheVariants as bn
use Rattle.clc_inline.specs.declared.body.Node.TheBlock.{shape-the_row-TStmt-3, hidden-the_row-TStmt-3}
use denote.Hole.Carrier.{hidden}
use Rattle.clc_inline.specs.Inlining.{Made, mapped, numbers, scope, body_of, bodies_below, stmt_made}
use Rattle.item_meaning.specs.declared.values.Value.{Value}
use Rattle.item_meaning.specs.NodeMeanings.{Part, call_value}
use Rattle.item_meaning.specs.StatementMeanings.{var_at}
use Rattle.item_meaning.specs.ItemMeaning.{called, calls_below, does}
use Rattle.body_meaning.specs.BodyMeaning.{value_of as body_value, does as body_does, declared_in, scope_value}
use Rattle.inline_law.proofs.Frames.{Same, Both}
use Rattle.inline_law.proofs.BodyForms as bf
use Rattle.inline_law.proofs.BodyStatements as bs
use Rattle.inline_law.proofs.Growing.{Begins, begins_same, begins_then, append_none, roomy}
use Rattle.inline_law.proofs.Exprs as x
use Rattle.inline_law.proofs.Stmts as t
use Rattle.inline_law.proofs.Stmts.{shifted}
use Rattle.inline_law.proofs.Frame.{dull, le_cases}
use Rattle.inline_law.proofs.Scopes.{scope_both}
use Rattle.inline_law.proofs.Facts.{variable_below, array_below, array_behind, declared_below, params_within, params_plain, others_counted, body_fits, callee_of}
use Rattle.inline_law.proofs.Lookups.{none_made, function_made, function_called}

scope_parts : (work : Work) (vars : List Var) (at : ℕ) (t : Ty) (ps : List ℕ) (l : List BodyExpr) (r : Option Scalar) (a : BodyStmt)
    → body_value work vars at t (bn.Scope ps l r a) ≡ scope_value vars ps r (bs.in_one (declared_in a)) (bf.parts work vars l) (body_does work vars a)
unfolding shape-the_row-TStmt-3 hidden-the_row-TStmt-3 hidden
scope_parts work vars at t ps l r a = ap (λ z. scope_value vars ps r (bs.in_one (declared_in a)) z (body_does work vars a)) (bf.args_listed work vars l)

-- the variables of a function that stand behind others
pub stands_behind : (V fvars total : List Var) → Begins (V ++ fvars) total → (u : ℕ) → u < length fvars → var_at total (length V + u) ≡ var_at fvars u
stands_behind V fvars total b u lt =
    let many = length-append V fvars in
    ap (λ z. slice_index_or z (length V + u) dull) b.1
    ∙ get_or_append_left (V ++ fvars) b.0 dull (length V + u) (omega (arith, many, lt))
    ∙ get_or-append-add V fvars u dull

pub stands_after : (base : ℕ) (fvars : List Var) (u : ℕ) → u < length fvars → var_at (replicate base dull ++ fvars) (base + u) ≡ var_at fvars u
stands_after base fvars u lt =
    let h = stands_behind (replicate base dull) fvars (replicate base dull ++ fvars) (begins_same (replicate base dull ++ fvars)) u lt in
    subst (λ b. var_at (replicate base dull ++ fvars) (b + u) ≡ var_at fvars u) (length-replicate base dull) h

module _ (functions : List TFunction) (typed : is_well_typed functions ≡ true) (work : Work) where
  -- what is made of a function's body at each base, among each list of all variables, does what the body does
  abbrev pub Related : ℕ → TFunction → Type 0
  Related k f =
      (base : ℕ) (total : List Var) → ((u : ℕ) → u < length f.vars → var_at total (base + u) ≡ var_at f.vars u)
      → t.QStmt functions (bodies_below functions k) base (length f.vars) f.params f.vars total (take k functions) f.result work (calls_below work functions k) f.body

  module _ (k : ℕ) (before : (j : ℕ) → j < k → (g : TFunction) → slice_get functions j ≡ Some g → Related j g) where
    bodies_grow : (j b : ℕ) (V : List Var) → Begins V (bodies_below functions k j b V).vars
    bodies_grow j b V =
        elim (le_cases j k) [
          | inl lt ↦ by (slice_get functions j) refl lt
          | inr le ↦ subst (λ z. Begins V z) (sym (ap (λ (m : Made BodyStmt). m.vars) (none_made functions j b V k le))) (begins_same V)
        ]
      where
        by : (o : Option TFunction) → slice_get functions j ≡ o → j < k → Begins V (bodies_below functions k j b V).vars
        by o e lt =
            subst (λ z. Begins V z) (sym (ap (λ (m : Made BodyStmt). m.vars) (function_made functions j b V k o lt e))) (begun o e lt)
          where
            begun : (p : Option TFunction) → slice_get functions j ≡ p → j < k → Begins V (body_of functions (bodies_below functions j) p b V).vars
            begun None e lt = begins_same V
            begun (Some g) e lt = (before j lt g e b (replicate b dull ++ g.vars) (stands_after b g.vars)).0 V

    module _ (f : TFunction) (found : slice_get functions k ≡ Some f) (base : ℕ) (total : List Var) (same : (u : ℕ) → u < length f.vars → var_at total (base + u) ≡ var_at f.vars u) where
      abbrev Values : Part Value → Part Value → Type 0
      Values p q = Both (length f.vars) base f.params (length total) Same p q

      abbrev callee : ℕ → TFunction → List Value → Part Value
      callee j g = called work (calls_below work functions j) (Some g)

      scope_runs : (j : ℕ) (lt : j < k) (g : TFunction) (e : slice_get functions j ≡ Some g) (ty : Ty) (p : Part (List Value)) (V : List Var) (l : List BodyExpr) (at : ℕ) → base + length f.vars ≤ length V
          → Begins (stmt_made functions (bodies_below functions j) (length V) g.body (V ++ g.vars)).vars total → Both (length f.vars) base f.params (length total) (x.SameMany g.params) p (bf.parts work total l)
          → Values (call_value p (callee j g)) (body_value work total at ty (bn.Scope (numbers (length V) g.params) l g.result (stmt_made functions (bodies_below functions j) (length V) g.body (V ++ g.vars)).made))
      scope_runs j lt g e ty p V l at behind fits h =
          let M : Made BodyStmt = stmt_made functions (bodies_below functions j) (length V) g.body (V ++ g.vars) in
          let grown : Begins (V ++ g.vars) M.vars = (before j lt g e (length V) (replicate (length V) dull ++ g.vars) (stands_after (length V) g.vars)).0 (V ++ g.vars) in
          let whole : Begins (V ++ g.vars) total = begins_then (V ++ g.vars) M.vars total grown fits in
          let many = length-append V g.vars in
          let room : length V + length g.vars ≤ length (V ++ g.vars) = omega (arith, many) in
          let q = before j lt g e (length V) total (stands_behind V g.vars total whole) in
          let own : bs.in_one (declared_in M.made) ≡ shifted (length V) (declared g.body) = append_none (declared_in M.made) ∙ q.1.0 (V ++ g.vars) in
          subst (λ z. Values (call_value p (callee j g)) z) (sym (scope_parts work total at ty (numbers (length V) g.params) l g.result M.made))
          (subst (λ D. Values (call_value p (callee j g)) (scope_value total (numbers (length V) g.params) g.result D (bf.parts work total l) (body_does work total M.made))) (sym own)
          (scope_both (length f.vars) base f.params g total (length V) (declared g.body) (params_within functions j g typed e) (others_counted functions j g typed e) (stands_behind V g.vars total whole)
          (roomy (length V + length g.vars) (V ++ g.vars) total room whole) behind (does work (calls_below work functions j) g.vars g.body) (body_does work total M.made)
          (q.1.1 false (V ++ g.vars) (body_fits functions j g typed e) room fits).0 p (bf.parts work total l) h))

      runs : x.Runs functions (bodies_below functions k) base (length f.vars) f.params f.vars total (take k functions) f.result work (calls_below work functions k)
      runs j ty xs p V l at call behind fits h =
          let c = callee_of functions k j xs ty typed call in
          let g : TFunction = c.1.0 in
          let e : slice_get functions j ≡ Some g = c.1.1 in
          let made : scope (bodies_below functions k) j (slice_get functions j) l V ≡ mapped (bn.Scope (numbers (length V) g.params) l g.result) (stmt_made functions (bodies_below functions j) (length V) g.body (V ++ g.vars)) =
          ap (λ (o : Option TFunction). scope (bodies_below functions k) j o l V) e
          ∙ ap (λ (m : Made BodyStmt). mapped (bn.Scope (numbers (length V) g.params) l g.result) m) (function_made functions j (length V) (V ++ g.vars) k (Some g) c.0 e) in
          let does_so : calls_below work functions k j ≡ callee j g = λ i ys s. function_called work functions j k g ys s c.0 e i in
          subst (λ (S : Made BodyNode). Values (call_value p (calls_below work functions k j)) (body_value work total at ty S.made)) (sym made)
          (subst (λ C. Values (call_value p C) (body_value work total at ty (bn.Scope (numbers (length V) g.params) l g.result (stmt_made functions (bodies_below functions j) (length V) g.body (V ++ g.vars)).made))) (sym does_so)
          (scope_runs j c.0 g e ty p V l at behind (subst (λ (S : Made BodyNode). Begins S.vars total) made fits)
          (subst (λ m. Both (length f.vars) base f.params (length total) (x.SameMany m) p (bf.parts work total l)) c.1.2 h)))

      related_at : t.QStmt functions (bodies_below functions k) base (length f.vars) f.params f.vars total (take k functions) f.result work (calls_below work functions k) f.body
      related_at =
          t.stmt_related functions (bodies_below functions k) base (length f.vars) f.params f.vars total (take k functions) f.result work (calls_below work functions k)
          (x.expr_related functions (bodies_below functions k) base (length f.vars) f.params f.vars total (take k functions) f.result work (calls_below work functions k)
          (variable_below f.vars) (λ u ty h. (array_below f.vars u ty h, array_behind f.vars f.params u ty (params_plain functions k f typed found) h)) bodies_grow runs)
          (declared_below f.vars (take k functions) f.result) same f.body

  related_below : (m k : ℕ) → k < m → (f : TFunction) → slice_get functions k ≡ Some f → Related k f
  related_below zero k lt f found base total same = absurd (omega (arith, lt))
  related_below (suc m) k lt f found base total same = related_at k (λ j h g e. related_below m j (omega (arith, lt, h)) g e) f found base total same

  -- every function
  pub related : (k : ℕ) (f : TFunction) → slice_get functions k ≡ Some f → Related k f
  related k f found = related_below (suc k) k (omega arith) f found
