-- The rules by which code follows a meaning: a turn, one after the other, a new value, a new variable.
use Rattle.std.proofs.Common.{◌≡◌, ℕ, zero, suc, ◌+◌, ◌<◌, ◌≤◌, ◌≢◌, ◌⊎◌, inl, inr, Bool, true, false, List, [], ◌∷◌, ◌++◌, length, refl, sym, ap, ◌∙◌, subst, arith}
use Rattle.std.specs.Prelude.{slice_index_or, slice_set, ◌==◌, if◌then◌else◌}
use Rattle.std.proofs.lemmas.Bool.{eq-eqb, eqb-true, eqb-false}
use Rattle.std.proofs.lemmas.List.{get_or-set_other}
use Rattle.std.proofs.Math.ListN.{length-set}
use Rattle.item_meaning.specs.declared.values.Value.{Value}
use Rattle.item_meaning.specs.declared.values.Value.TheVariants.{Null}
use Rattle.item_meaning.specs.ItemState.{State, Run, Goes, Bounds, Spent, then_do, after_turn, node, nodes}
use Rattle.item_ir.specs.Memory.{with_at}
use Rattle.item_ir.specs.IrMeaning.{World, State as Item, Run as Ran, Ends, Stops, Spent as Unfinished, Flow, Next, Broke, Again, Gone, and_then, with_val, with_var, run, run_all}
use Rattle.item_ir.specs.declared.form.Stmt.{Stmt}
use Rattle.build_law.specs.Keeps.{Ground, Same, Related, Kept, Follows}

pub with_at-same : {A : Type 0} (f : ℕ → A) (k : ℕ) (x : A) → with_at f k x k ≡ x
with_at-same f k x = ap (λ b. if b then x else f k) (eq-eqb k k refl)

pub bool_cases : (b : Bool) → (b ≡ true) ⊎ (b ≡ false)
bool_cases true = inl refl
bool_cases false = inr refl

pub with_at-other : {A : Type 0} (f : ℕ → A) (k : ℕ) (x : A) (j : ℕ) → j ≢ k → with_at f k x j ≡ f j
with_at-other f k x j ne =
    elim (bool_cases (j == k)) [ inl t ↦ absurd (ne (eqb-true j k t)) | inr e ↦ ap (λ b. if b then x else f j) e ]

module _ (w : World) where
  append_step : (r : Ran) (a b : List Stmt) → ((n : Item) → run_all w (a ++ b) n ≡ and_then (run_all w a n) (run_all w b)) → and_then r (run_all w (a ++ b)) ≡ and_then (and_then r (run_all w a)) (run_all w b)
  append_step (Ends Next s) a b ih = ih s
  append_step (Ends Broke s) a b ih = refl
  append_step (Ends Again s) a b ih = refl
  append_step (Ends Gone s) a b ih = refl
  append_step Stops a b ih = refl
  append_step Unfinished a b ih = refl

  pub run-append : (a b : List Stmt) (m : Item) → run_all w (a ++ b) m ≡ and_then (run_all w a m) (run_all w b)
  run-append [] b m = refl
  run-append (x ∷ a) b m = append_step (run w x m) a b (run-append a b)

pub Kept-refl : (g : Ground) (k : ℕ) (m : Item) → Kept g k m m
Kept-refl g k m = record { vals = λ j h. refl; vars = λ j o h. refl }

pub Kept-trans : (g : Ground) (k l : ℕ) (a b c : Item) → k ≤ l → Kept g k a b → Kept g l b c → Kept g k a c
Kept-trans g k l a b c le h i =
    record { vals = λ j lt. i.vals j (omega (arith, lt, le)) ∙ h.vals j lt; vars = λ j o lt. i.vars j o (omega (arith, lt, le)) ∙ h.vars j o lt }

pub Kept-val : (g : Ground) (k v x : ℕ) (m : Item) → k ≤ v → Kept g k m (with_val v x m)
Kept-val g k v x m le = record { vals = λ j h. let ne : j ≢ v = omega (arith, h, le) in with_at-other m.vals v x j ne; vars = λ j o h. refl }

-- a variable of the code's own
pub Kept-var : (g : Ground) (k v x : ℕ) (m : Item) → k ≤ v → Kept g k m (with_var v x m)
Kept-var g k v x m le = record { vals = λ j h. refl; vars = λ j o h. let ne : j ≢ v = omega (arith, h, le) in with_at-other m.vars v x j ne }

-- a variable of the body's own
pub Kept-own : (g : Ground) (k v x : ℕ) (m : Item) → v < length g.vars → Kept g k m (with_var v x m)
Kept-own g k v x m lt = record { vals = λ j h. refl; vars = λ j o h. let ne : j ≢ v = omega (arith, o, lt) in with_at-other m.vars v x j ne }

module _ (g : Ground) where
  -- one after the other
  pub bind : {A B : Type 0} (d e : ℕ) (flow : B → Flow) (r : Run A) (go : A → State → Run B) (a b : List Stmt) (m : Item) (Q : A → State → Item → Type 0) (P : B → State → Item → Type 0)
      → Follows g d (λ _. Next) r Q (run_all g.world a m)
      → ((x : A) (s : State) (n : Item) → Related g d s n → Q x s n → Follows g e flow (go x s) P (run_all g.world b n))
      → Follows g e flow (then_do r go) P (run_all g.world (a ++ b) m)
  bind d e flow (Goes x s) go a b m Q P f h =
      let eq = run-append g.world a b m ∙ ap (λ r. and_then r (run_all g.world b)) f.1 in
      subst (λ r. Follows g e flow (go x s) P r) (sym eq) (h x s f.0 f.2 f.3)
  bind d e flow (Bounds at) go a b m Q P f h = tt
  bind d e flow Spent go a b m Q P f h = tt

  -- the same, where the first code gives the second part's value's place
  pub Related-less : (d e : ℕ) (s : State) (m : Item) → e ≤ d → Related g d s m → Related g e s m
  Related-less d e s m le h =
      record { vars = h.vars; count = h.count; elements = h.elements; lengths = h.lengths; bytes = h.bytes; sizes = h.sizes; touches = h.touches; left = omega arith }

  -- less said of the same
  pub weaker : {A : Type 0} (d e : ℕ) (flow : A → Flow) (r : Run A) (x : Ran) (Q P : A → State → Item → Type 0) → e ≤ d
      → ((a : A) (s : State) (n : Item) → Q a s n → P a s n) → Follows g d flow r Q x → Follows g e flow r P x
  weaker d e flow (Goes a s) x Q P le f h = (h.0, h.1, Related-less d e s h.0 le h.2, f a s h.0 h.3)
  weaker d e flow (Bounds at) x Q P le f h = tt
  weaker d e flow Spent x Q P le f h = tt

  -- a turn is taken
  turn_at : {A : Type 0} (d e : ℕ) (flow : A → Flow) (i : ℕ) (s : State) (go : State → Run A) (m : Item) (x : Ran) (Q : A → State → Item → Type 0) → i + d ≤ m.left → Related g d s m
      → ((t : State) → Related g (suc d) t m → Follows g e flow (go t) Q x) → Follows g e flow (after_turn i s go) Q x
  turn_at d e flow zero s go m x Q le h f = tt
  turn_at d e flow (suc i) s go m x Q le h f =
      f (record s { left = i }) (record { vars = h.vars; count = h.count; elements = h.elements; lengths = h.lengths; bytes = h.bytes; sizes = h.sizes; touches = h.touches; left = omega arith })

  pub turn : {A : Type 0} (d e : ℕ) (flow : A → Flow) (s : State) (go : State → Run A) (m : Item) (x : Ran) (Q : A → State → Item → Type 0) → Related g d s m
      → ((t : State) → Related g (suc d) t m → Follows g e flow (go t) Q x) → Follows g e flow (node s go) Q x
  turn d e flow s go m x Q h f = turn_at d e flow s.left s go m x Q h.left h f

  pub turns : {A : Type 0} (d e : ℕ) (flow : A → Flow) (i : ℕ) (s : State) (go : State → Run A) (m : Item) (x : Ran) (Q : A → State → Item → Type 0) → Related g d s m
      → ((t : State) → Related g d t m → Follows g e flow (go t) Q x) → Follows g e flow (nodes i s go) Q x
  turns d e flow zero s go m x Q h f = f s h
  turns d e flow (suc i) s go m x Q h f =
      turn d e flow s (λ t. nodes i t go) m x Q h (λ t ht. turns d e flow i t go m x Q (Related-less (suc d) d t m (omega arith) ht) f)

  -- a new value changes nothing else
  pub with_val-related : (d v x : ℕ) (s : State) (m : Item) → Related g d s m → Related g d s (with_val v x m)
  with_val-related d v x s m h =
      record { vars = h.vars; count = h.count; elements = h.elements; lengths = h.lengths; bytes = h.bytes; sizes = h.sizes; touches = h.touches; left = h.left }

  pub same_along : (x : Value) (a b : ℕ) → a ≡ b → Same g.base x b → Same g.base x a
  same_along x a b e h = subst (Same g.base x) (sym e) h

  set_or_null : (xs : List Value) (v : ℕ) (x : Value) → (slice_index_or (slice_set xs v x) v Null ≡ x) ⊎ (slice_index_or (slice_set xs v x) v Null ≡ Null)
  set_or_null [] v x = inr refl
  set_or_null (y ∷ xs) zero x = inl refl
  set_or_null (y ∷ xs) (suc v) x = set_or_null xs v x

  past_list : (xs : List Value) (v : ℕ) → length xs ≤ v → slice_index_or xs v Null ≡ Null
  past_list [] v h = refl
  past_list (x ∷ xs) zero h = absurd (omega (arith, h))
  past_list (x ∷ xs) (suc v) h = past_list xs v (omega (arith, h))

  -- a variable is set on both sides
  pub set_related : (d v y : ℕ) (x : Value) (s : State) (m : Item) → Related g d s m → Same g.base x y → Related g d (record s { vars = slice_set s.vars v x }) (with_var v y m)
  set_related d v y x s m h q =
      record { vars = each; count = subst (λ i. i ≤ length g.vars) (sym (length-set s.vars v x)) h.count; elements = h.elements; lengths = h.lengths; bytes = h.bytes; sizes = h.sizes; touches = h.touches; left = h.left }
    where
      here : (o : (slice_index_or (slice_set s.vars v x) v Null ≡ x) ⊎ (slice_index_or (slice_set s.vars v x) v Null ≡ Null)) → Same g.base (slice_index_or (slice_set s.vars v x) v Null) y
      here (inl e) = subst (λ a. Same g.base a y) (sym e) q
      here (inr e) = subst (λ a. Same g.base a y) (sym e) tt

      each : (u : ℕ) → Same g.base (slice_index_or (slice_set s.vars v x) u Null) (with_at m.vars v y u)
      each u =
          elim (bool_cases (u == v)) [
            | inl t ↦
                let e : u ≡ v = eqb-true u v t in
                subst (λ i. Same g.base (slice_index_or (slice_set s.vars v x) i Null) (with_at m.vars v y i)) (sym e) (same_along _ _ y (with_at-same m.vars v y) (here (set_or_null s.vars v x)))
            | inr f ↦
                let ne : u ≢ v = eqb-false u v f in
                subst (λ a. Same g.base a (with_at m.vars v y u)) (sym (get_or-set_other s.vars v u x Null ne)) (same_along _ _ (m.vars u) (with_at-other m.vars v y u ne) (h.vars u))
          ]

  -- a variable of the code's own is set
  pub own_related : (d v y : ℕ) (s : State) (m : Item) → length g.vars ≤ v → Related g d s m → Related g d s (with_var v y m)
  own_related d v y s m le h =
      record { vars = each; count = h.count; elements = h.elements; lengths = h.lengths; bytes = h.bytes; sizes = h.sizes; touches = h.touches; left = h.left }
    where
      each : (u : ℕ) → Same g.base (slice_index_or s.vars u Null) (with_at m.vars v y u)
      each u =
          elim (bool_cases (u == v)) [
            | inl t ↦
                let e : u ≡ v = eqb-true u v t in
                let c = h.count in
                subst (λ a. Same g.base a (with_at m.vars v y u)) (sym (past_list s.vars u (omega (arith, e, le, c)))) tt
            | inr f ↦ same_along _ _ (m.vars u) (with_at-other m.vars v y u (eqb-false u v f)) (h.vars u)
          ]
