-- Runs of lists, and how two runs that end alike go on.
use Rattle.std.proofs.Common.{◌≡◌, ℕ, zero, suc, ◌<◌, ◌⊎◌, inl, inr, Bool, true, false, List, [], ◌∷◌, ◌++◌, refl, sym, ap, ◌∙◌, subst}
use Rattle.std.specs.Prelude.{◌==◌, if◌then◌else◌}
use Rattle.std.proofs.lemmas.Bool.{eq-eqb, eqb-true}
use Rattle.item_ir.specs.Memory.{with_at}
use Rattle.lane_ir.specs.LaneMeaning.{World, State, Run, Ends, Stops, Spent, and_then, each, chosen, where_on, if_allowed, rounds, run, run_row, run_all}
use Rattle.lane_ir.specs.Kept.{Met, EndsAs}
use Rattle.lane_ir.specs.declared.form.LaneStmt.{LaneStmt, Row_of-LaneStmt, end_of-LaneStmt, more_of-LaneStmt, items-the_row-LaneStmt, items_hidden-the_row-LaneStmt-0}
use Rattle.lane_ir.specs.declared.form.LaneStmt.TheBlock.{hidden-the_row-LaneStmt-0}
use Rattle.lane_ir.specs.declared.form.LaneStmt.TheVariants.{WhileAny}
use Rattle.item_ir.specs.declared.form.Val.{Val}

pub bool_cases : (b : Bool) → (b ≡ true) ⊎ (b ≡ false)
bool_cases true = inl refl
bool_cases false = inr refl

pub with_at-same : {A : Type 0} (f : ℕ → A) (k : ℕ) (x : A) → with_at f k x k ≡ x
with_at-same f k x = ap (λ b. if b then x else f k) (eq-eqb k k refl)

pub with_at-other : {A : Type 0} (f : ℕ → A) (k : ℕ) (x : A) (j : ℕ) → (j ≡ k → ⊥) → with_at f k x j ≡ f j
with_at-other f k x j ne =
    elim (bool_cases (j == k)) [ inl t ↦ absurd (ne (eqb-true j k t)) | inr e ↦ ap (λ b. if b then x else f j) e ]

-- one after the other
module _ (w : World) (n i : ℕ) where
  append_step : (r : Run) (a b : List LaneStmt) → ((s : State) → run_all w n i (a ++ b) s ≡ and_then (run_all w n i a s) (run_all w n i b)) → and_then r (run_all w n i (a ++ b)) ≡ and_then (and_then r (run_all w n i a)) (run_all w n i b)
  append_step (Ends s) a b ih = ih s
  append_step Stops a b ih = refl
  append_step Spent a b ih = refl

  pub run-append : (a b : List LaneStmt) (s : State) → run_all w n i (a ++ b) s ≡ and_then (run_all w n i a s) (run_all w n i b)
  run-append [] b s = refl
  run-append (x ∷ a) b s = append_step (run w n i x s) a b (run-append a b)

  pub run_on : (a b : List LaneStmt) (s t u : State) → run_all w n i a s ≡ Ends t → run_all w n i b t ≡ Ends u → run_all w n i (a ++ b) s ≡ Ends u
  run_on a b s t u e f = run-append a b s ∙ ap (λ r. and_then r (run_all w n i b)) e ∙ f

  pub run_row-items : {k : _} (r : Row_of-LaneStmt k) (s : State) → run_row w n i r s ≡ run_all w n i (items-the_row-LaneStmt k r) s
  run_row-items end_of-LaneStmt s = refl
  run_row-items (more_of-LaneStmt a rest) s = λ x. and_then (run w n i a s) (λ t. run_row-items rest t x)

  of_list : (l : List LaneStmt) (s : State) → run_row w n i (hidden-the_row-LaneStmt-0 l) s ≡ run_all w n i l s
  of_list l s = run_row-items (hidden-the_row-LaneStmt-0 l) s ∙ ap (λ x. run_all w n i x s) (items_hidden-the_row-LaneStmt-0 l)

  pub run-WhileAny : (a : List LaneStmt) (m : Val) (b : List LaneStmt) (s : State) → run w n i (WhileAny a m b) s ≡ rounds n i (run_all w n i a) m.0 (run_all w n i b) s
  run-WhileAny a m b s = λ x. rounds n i (λ t. of_list a t x) m.0 (λ t. of_list b t x) s

  -- a list of one statement
  last_run : (r : Run) → and_then r Ends ≡ r
  last_run (Ends s) = refl
  last_run Stops = refl
  last_run Spent = refl

  pub run-one : (a : LaneStmt) (s : State) → run_all w n i (a ∷ []) s ≡ run w n i a s
  run-one a s = last_run (run w n i a s)

pub as_run : (k : ℕ) (r q p : Run) → q ≡ p → EndsAs k r p → EndsAs k r q
as_run k r q p e h = subst (EndsAs k r) (sym e) h

pub bind : (k : ℕ) (r q : Run) (g h : State → Run) → EndsAs k r q → ((s t : State) → Met k s t → EndsAs k (g s) (h t)) → EndsAs k (and_then r g) (and_then q h)
bind k (Ends s) q g h d go = as_run k (g s) (and_then q h) (h d.0) (ap (λ p. and_then p h) d.1) (go s d.0 d.2)
bind k Stops q g h d go = tt
bind k Spent q g h d go = tt

pub each_kept : (k n : ℕ) (f g : ℕ → State → Run) → ((l : ℕ) (s t : State) → Met k s t → EndsAs k (f l s) (g l t)) → (s t : State) → Met k s t → EndsAs k (each n f s) (each n g t)
each_kept k zero f g h s t m = (t, refl, m)
each_kept k (suc n) f g h s t m = bind k (each n f s) (each n g t) (f n) (g n) (each_kept k n f g h s t m) (h n)

pub where_kept : (k x : ℕ) (f g : State → Run) (s t : State) → Met k s t → EndsAs k (f s) (g t) → EndsAs k (where_on x f s) (where_on x g t)
where_kept k zero f g s t m h = (t, refl, m)
where_kept k (suc x) f g s t m h = h

pub allowed_kept : (k : ℕ) (b : Bool) (r q : Run) → EndsAs k r q → EndsAs k (if_allowed b r) (if_allowed b q)
allowed_kept k true r q h = h
allowed_kept k false r q h = tt

pub branch_kept : (k : ℕ) (b : Bool) (r q p o : Run) → EndsAs k r q → EndsAs k p o → EndsAs k (if b then r else p) (if b then q else o)
branch_kept k true r q p o h g = h
branch_kept k false r q p o h g = g

-- words stay words where one place changes
pub if_below : {m : ℕ} (b : Bool) (x y : ℕ) → x < m → y < m → (if b then x else y) < m
if_below true x y h g = h
if_below false x y h g = g

pub row_below : {m : ℕ} (b : Bool) (f g : ℕ → ℕ) (l : ℕ) → f l < m → g l < m → (if b then f else g) l < m
row_below true f g l h k = h
row_below false f g l h k = k

pub table_below : {m : ℕ} (b : Bool) (f g : ℕ → ℕ → ℕ) (e l : ℕ) → f e l < m → g e l < m → (if b then f else g) e l < m
table_below true f g e l h k = h
table_below false f g e l h k = k

pub chosen_below : {m : ℕ} (c x y : ℕ) → x < m → y < m → chosen c x y < m
chosen_below zero x y h k = k
chosen_below (suc c) x y h k = h
