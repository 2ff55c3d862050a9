-- What a work-item has while it runs, and how its run goes on.
use Rattle.std.specs.Prelude.{ℕ, zero, suc, List}
use Rattle.footprint.specs.declared.marks.Mark.{Mark}
use Rattle.item_meaning.specs.declared.values.Value.{Value}
use Rattle.item_meaning.specs.declared.values.Value.TheVariants.{Num, Null, At}
pub use Rattle.item_meaning.specs.declared.values.Flow.{Flow}
pub use Rattle.item_meaning.specs.declared.values.Flow.TheVariants.{Next, Broke, Again, Returned}

-- The function's variables by their numbers, where a variable that is no array has an empty one, and an array no value; the bytes of the
-- buffers; the bytes that were read and those that were written, newest first; and the turns that are left.
pub record State : Type 0 where
  pub vars : List Value
  pub arrays : List (List ℕ)
  pub buffers : List (List ℕ)
  pub marks : List Mark
  pub left : ℕ

-- it goes on with a result; its next access, which begins at this byte of the source, is out of bounds; or it needs more turns
pub data Run (A : Type 0) : Type 0 where
  Goes : A → State → Run A
  Bounds : (at : ℕ) → Run A
  Spent : Run A

abbrev pub then_do : {A B : Type 0} → Run A → (A → State → Run B) → Run B
then_do (Goes a s) go = go a s
then_do (Bounds at) go = Bounds at
then_do Spent go = Spent

-- one of these turns, if there is one
abbrev pub after_turn : {A : Type 0} → ℕ → State → (State → Run A) → Run A
after_turn zero s go = Spent
after_turn (suc n) s go = go (record s { left = n })

-- a node begins, which takes a turn
abbrev pub node : {A : Type 0} → State → (State → Run A) → Run A
node s go = after_turn s.left s go

-- n nodes begin
abbrev pub nodes : {A : Type 0} → ℕ → State → (State → Run A) → Run A
nodes zero s go = go s
nodes (suc n) s go = node s (λ t. nodes n t go)

-- by whether a number isn't 0. In a typed tree nothing else is asked for its truth
abbrev pub by_truth : {A : Type 0} → Value → Run A → Run A → Run A
by_truth (Num zero) one other = other
by_truth (Num (suc n)) one other = one
by_truth Null one other = Spent
by_truth (At k o) one other = Spent

-- what comes after a statement
abbrev pub if_next : Flow → State → (State → Run Flow) → Run Flow
if_next Next s go = go s
if_next Broke s go = Goes Broke s
if_next Again s go = Goes Again s
if_next (Returned v) s go = Goes (Returned v) s

-- what comes after the body of a loop
abbrev pub after_body : Flow → State → (State → Run Flow) → Run Flow
after_body Next s go = go s
after_body Broke s go = Goes Next s
after_body Again s go = go s
after_body (Returned v) s go = Goes (Returned v) s
