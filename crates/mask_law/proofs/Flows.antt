-- An item's flow ends at a mask that is open.
use Rattle.std.proofs.Common.{ℕ, zero, suc, ◌+◌, Bool, true, false, List, [], ◌∷◌, refl}
use Rattle.std.specs.Prelude.{if◌then◌else◌, nat_lt}
use Rattle.item_ir.specs.declared.form.Def.{Def}
use Rattle.item_ir.specs.declared.form.Def.TheVariants as d
use Rattle.item_ir.specs.declared.form.Stmt.{Stmt, Row_of-Stmt, end_of-Stmt, more_of-Stmt}
use Rattle.item_ir.specs.declared.form.Stmt.TheVariants.{Let, Set, Store, SetElement, Clear, If', Loop', Scope', Leave, Break, Continue}
use Rattle.item_ir.specs.IrMeaning.{World, State, Run, Ends, Stops, Spent, Next, Broke, Again, Gone, and_then, plainly_then, after_body, left_scope, at_zero, after_round, rounds, run, run_row, run_all, defines, is_allowed}
use Rattle.mask_law.specs.Stacks.{Entry, branch, in_scope, in_round}
use Rattle.mask_law.specs.Lanes.{Fits, FitsRow, FitsAll, known_after, known_row}
use Rattle.mask_law.specs.Flows.{FlowsTo, FlowsFit}

flow_if : (st : List Entry) (b : Bool) (s : State) → FlowsTo st (if b then Ends Next s else Stops)
flow_if st true s = refl
flow_if st false s = tt

flow_and : (st : List Entry) (r : Run) (go : State → Run) → FlowsTo st r → ((u : State) → FlowsTo st (go u)) → FlowsTo st (and_then r go)
flow_and st (Ends Next s) go h g = g s
flow_and st (Ends Broke s) go h g = h
flow_and st (Ends Again s) go h g = h
flow_and st (Ends Gone s) go h g = h
flow_and st Stops go h g = tt
flow_and st Spent go h g = tt

flow_plain : (st : List Entry) (r : Run) (go : State → Run) → ((u : State) → FlowsTo st (go u)) → FlowsTo st (plainly_then r go)
flow_plain st (Ends Next s) go g = g s
flow_plain st (Ends Broke s) go g = tt
flow_plain st (Ends Again s) go g = tt
flow_plain st (Ends Gone s) go g = tt
flow_plain st Stops go g = tt
flow_plain st Spent go g = tt

flow_body : (v : ℕ) (st : List Entry) (r : Run) (go : State → Run) → FlowsTo (in_round v st) r → ((u : State) → FlowsTo st (go u)) → FlowsTo st (after_body r go)
flow_body v st (Ends Next s) go h g = g s
flow_body v st (Ends Broke s) go h g = refl
flow_body v st (Ends Again s) go h g = g s
flow_body v st (Ends Gone s) go h g = h
flow_body v st Stops go h g = tt
flow_body v st Spent go h g = tt

flow_scope : (v : ℕ) (st : List Entry) (r : Run) → FlowsTo (in_scope v st) r → FlowsTo st (left_scope r)
flow_scope v st (Ends Next s) h = refl
flow_scope v st (Ends Broke s) h = cc
flow_scope v st (Ends Again s) h = cc
flow_scope v st (Ends Gone s) h = refl
flow_scope v st Stops h = tt
flow_scope v st Spent h = tt

flow_branch : (v : ℕ) (st : List Entry) (r : Run) → FlowsTo (branch v st) r → FlowsTo st r
flow_branch v st (Ends Next s) h = refl
flow_branch v st (Ends Broke s) h = h
flow_branch v st (Ends Again s) h = h
flow_branch v st (Ends Gone s) h = h
flow_branch v st Stops h = tt
flow_branch v st Spent h = tt

flow_zero : (st : List Entry) (x : ℕ) (a b : Run) → FlowsTo st a → FlowsTo st b → FlowsTo st (at_zero x a b)
flow_zero st zero a b h g = h
flow_zero st (suc x) a b h g = g

flow_spends : (st : List Entry) (n : ℕ) (s : State) (go : State → Run) → ((u : State) → FlowsTo st (go u)) → FlowsTo st (after_round n s go)
flow_spends st zero s go g = tt
flow_spends st (suc n) s go g = g (record s { left = n })

flow_rounds : (v : ℕ) (st : List Entry) (n : ℕ) (head : State → Run) (c : ℕ) (body step : State → Run) → ((u : State) → FlowsTo (in_round v st) (body u)) → (s : State) → FlowsTo st (rounds n head c body step s)
flow_rounds v st zero head c body step h s = tt
flow_rounds v st (suc n) head c body step h s =
    flow_plain st (head s) (λ t. at_zero (t.vals c) (Ends Next t) (after_round t.left t (λ u. after_body (body u) (λ x. plainly_then (step x) (rounds n head c body step)))))
    (λ t. flow_zero st (t.vals c) (Ends Next t) (after_round t.left t (λ u. after_body (body u) (λ x. plainly_then (step x) (rounds n head c body step)))) refl
    (flow_spends st t.left t (λ u. after_body (body u) (λ x. plainly_then (step x) (rounds n head c body step)))
    (λ u. flow_body v st (body u) (λ x. plainly_then (step x) (rounds n head c body step)) (h u)
    (λ x. flow_plain st (step x) (rounds n head c body step) (λ y. flow_rounds v st n head c body step h y)))))

flow_def : (w : World) (st : List Entry) (v : ℕ) (e : Def) (s : State) → FlowsTo st (defines w v e s)
flow_def w st v (d.Const x) s = refl
flow_def w st v (d.Param p) s = refl
flow_def w st v (d.Work which dim) s = refl
flow_def w st v (d.Get x) s = refl
flow_def w st v (d.Bin op a b) s = refl
flow_def w st v (d.One op a) s = refl
flow_def w st v (d.Built which t args) s = refl
flow_def w st v (d.Choose c a b) s = refl
flow_def w st v (d.Load t a) s = flow_if st (is_allowed w t (s.vals a.0)) _
flow_def w st v (d.Element a i) s = flow_if st (nat_lt (s.vals i.0) (w.lens a)) _
flow_def w st v d.Flat s = tt
flow_def w st v d.Items s = tt

mutual
  flows : (w : World) (nu nv v : ℕ) (st : List Entry) (D : ℕ → Type 0) (a : Stmt) (s : State) → Fits nu nv v st D a → FlowsTo st (run w a s)
  flows w nu nv v st D (Let x e) s h = flow_def w st x.0 e s
  flows w nu nv v st D (Set u x) s h = refl
  flows w nu nv v st D (Store t a x) s h = flow_if st (is_allowed w t (s.vals a.0)) _
  flows w nu nv v st D (SetElement a i x) s h = flow_if st (nat_lt (s.vals i.0) (w.lens a)) _
  flows w nu nv v st D (Clear a) s h = refl
  flows w nu nv v st D (If' c n a m b) s h =
      flow_zero st (s.vals c.0) (run_row w b s) (run_row w a s)
      (flow_branch v st (run_row w b s) (flows_row w nu nv (v + 1) (branch v st) D b s h.2))
      (flow_branch v st (run_row w a s) (flows_row w nu nv (v + 1) (branch v st) D a s h.1))
  flows w nu nv v st D (Loop' n head c m body i step) s h =
      flow_rounds v st (suc s.left) (run_row w head) c.0 (run_row w body) (run_row w step) (λ u. flows_row w nu nv (v + 2) (in_round v st) (known_row D head) body u h.2) s
  flows w nu nv v st D (Scope' n a) s h = flow_scope v st (run_row w a s) (flows_row w nu nv (v + 1) (in_scope v st) D a s h)
  flows w nu nv v st D Leave s h = h
  flows w nu nv v st D Break s h = h
  flows w nu nv v st D Continue s h = h

  pub flows_row : {k : _} (w : World) (nu nv v : ℕ) (st : List Entry) (D : ℕ → Type 0) (r : Row_of-Stmt k) (s : State) → FitsRow nu nv v st D r → FlowsTo st (run_row w r s)
  flows_row w nu nv v st D end_of-Stmt s h = refl
  flows_row w nu nv v st D (more_of-Stmt a rest) s h =
      flow_and st (run w a s) (run_row w rest) (flows w nu nv v st D a s h.0) (λ u. flows_row w nu nv v st (known_after D a) rest u h.1)

pub flows_all : (w : World) (nu nv v : ℕ) (st : List Entry) (D : ℕ → Type 0) (r : List Stmt) (s : State) → FitsAll nu nv v st D r → FlowsTo st (run_all w r s)
flows_all w nu nv v st D [] s h = refl
flows_all w nu nv v st D (a ∷ rest) s h =
    flow_and st (run w a s) (run_all w rest) (flows w nu nv v st D a s h.0) (λ u. flows_all w nu nv v st (known_after D a) rest u h.1)

pub flows_fit : FlowsFit
flows_fit w nu nv v st body s h = flows_all w nu nv v st (λ j. ⊥) body s h
