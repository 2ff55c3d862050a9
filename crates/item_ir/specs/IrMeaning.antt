-- IrMeaning: what the structured form of one work-item does.
use Rattle.std.specs.Prelude.{ℕ, zero, suc, ◌%◌, Bool, List, [], ◌∷◌, map, nat_lt, if◌then◌else◌, ◌&&◌, ◌==◌}
use Rattle.q_lane.specs.declared.kinds.Scalar.{Scalar}
use Rattle.q_lane.specs.Numbers.{applied, applied_one}
use Rattle.q_functions.specs.NumberFunctions.{bytes_of, number_function}
use Rattle.q_functions.specs.WorkFunctions.{work_function}
use Rattle.q_functions.specs.declared.work.Work.{Work}
use Rattle.item_ir.specs.Memory.{with_at, Region, lies, element_at, with_element}
use Rattle.item_ir.specs.declared.form.Val.{Val}
use Rattle.item_ir.specs.declared.form.Def.{Def}
use Rattle.item_ir.specs.declared.form.Def.TheVariants as d
use Rattle.item_ir.specs.declared.form.Stmt.{Stmt, Row_of-Stmt, end_of-Stmt, more_of-Stmt}
use Rattle.item_ir.specs.declared.form.Stmt.TheVariants.{Let, Set, Store, SetElement, Clear, If', Loop', Scope', Leave, Break, Continue}

-- the buffers, the words of the parameters, the lengths of the arrays, and what the item may ask of its launch
pub record World : Type 0 where
  pub regions : List Region
  pub params : ℕ → ℕ
  pub lens : ℕ → ℕ
  pub work : Work

pub data Touched : Type 0 where
  Reads : Touched
  Writes : Touched

-- an access: what is done with the `len` bytes from an address on
pub record Touch : Type 0 where
  pub how : Touched
  pub address : ℕ
  pub len : ℕ

-- the words of the values and variables, the elements of the arrays, the bytes of the memory, the accesses, newest first, and the rounds that are left
pub record State : Type 0 where
  pub vals : ℕ → ℕ
  pub vars : ℕ → ℕ
  pub arrays : ℕ → ℕ → ℕ
  pub mem : ℕ → ℕ
  pub touches : List Touch
  pub left : ℕ

-- how a list of statements is left
pub data Flow : Type 0 where
  Next : Flow
  Broke : Flow
  Again : Flow
  Gone : Flow

-- it ends so; it stops at an access or an index; or it needs more rounds
pub data Run : Type 0 where
  Ends : Flow → State → Run
  Stops : Run
  Spent : Run

abbrev pub and_then : Run → (State → Run) → Run
and_then (Ends Next s) go = go s
and_then (Ends Broke s) go = Ends Broke s
and_then (Ends Again s) go = Ends Again s
and_then (Ends Gone s) go = Ends Gone s
and_then Stops go = Stops
and_then Spent go = Spent

-- what comes after a loop's head or step, which is left in no other way than by its end
abbrev pub plainly_then : Run → (State → Run) → Run
plainly_then (Ends Next s) go = go s
plainly_then (Ends Broke s) go = Stops
plainly_then (Ends Again s) go = Stops
plainly_then (Ends Gone s) go = Stops
plainly_then Stops go = Stops
plainly_then Spent go = Spent

-- what comes after the body of a loop
abbrev pub after_body : Run → (State → Run) → Run
after_body (Ends Next s) go = go s
after_body (Ends Broke s) go = Ends Next s
after_body (Ends Again s) go = go s
after_body (Ends Gone s) go = Ends Gone s
after_body Stops go = Stops
after_body Spent go = Spent

abbrev pub left_scope : Run → Run
left_scope (Ends Next s) = Ends Next s
left_scope (Ends Broke s) = Ends Broke s
left_scope (Ends Again s) = Ends Again s
left_scope (Ends Gone s) = Ends Next s
left_scope Stops = Stops
left_scope Spent = Spent

abbrev pub at_zero : {A : Type 0} → ℕ → A → A → A
at_zero zero a b = a
at_zero (suc n) a b = b

-- the first where the word isn't 0
abbrev pub chosen : ℕ → ℕ → ℕ → ℕ
chosen zero a b = b
chosen (suc n) a b = a

abbrev pub with_val : ℕ → ℕ → State → State
with_val v x s = record s { vals = with_at s.vals v x }

abbrev pub with_var : ℕ → ℕ → State → State
with_var v x s = record s { vars = with_at s.vars v x }

abbrev pub with_word : (array index word : ℕ) → State → State
with_word a i x s = record s { arrays = with_at s.arrays a (with_at (s.arrays a) i x) }

abbrev pub cleared : ℕ → State → State
cleared a s = record s { arrays = with_at s.arrays a (λ i. 0) }

abbrev pub touched : Touched → Scalar → ℕ → State → State
touched how t a s = record s { touches = record { how = how; address = a; len = bytes_of t } ∷ s.touches }

abbrev pub is_allowed : World → Scalar → ℕ → Bool
is_allowed w t a = (a % bytes_of t == 0) && lies w.regions a (bytes_of t)

abbrev pub words_of : (ℕ → ℕ) → List Val → List ℕ
words_of vals args = map (λ x. vals x.0) args

-- a value is defined
abbrev pub defines : World → ℕ → Def → State → Run
defines w v (d.Const x) s = Ends Next (with_val v x s)
defines w v (d.Param p) s = Ends Next (with_val v (w.params p) s)
defines w v (d.Work which dim) s = Ends Next (with_val v (work_function which w.work (s.vals dim.0)) s)
defines w v (d.Get x) s = Ends Next (with_val v (s.vars x) s)
defines w v (d.Bin op a b) s = Ends Next (with_val v (applied op (s.vals a.0) (s.vals b.0)) s)
defines w v (d.One op a) s = Ends Next (with_val v (applied_one op (s.vals a.0)) s)
defines w v (d.Built which t args) s = Ends Next (with_val v (number_function which t (words_of s.vals args)) s)
defines w v (d.Choose c a b) s = Ends Next (with_val v (chosen (s.vals c.0) (s.vals a.0) (s.vals b.0)) s)
defines w v (d.Load t a) s =
    if is_allowed w t (s.vals a.0)
    then Ends Next (with_val v (element_at s.mem t (s.vals a.0)) (touched Reads t (s.vals a.0) s))
    else Stops
defines w v (d.Element a i) s = if nat_lt (s.vals i.0) (w.lens a) then Ends Next (with_val v (s.arrays a (s.vals i.0)) s) else Stops
defines w v d.Flat s = Stops
defines w v d.Items s = Stops

abbrev pub stores : World → Scalar → (address word : ℕ) → State → Run
stores w t a x s =
    if is_allowed w t a then Ends Next (touched Writes t a (record s { mem = with_element s.mem t a x })) else Stops

abbrev pub sets_element : World → (array index word : ℕ) → State → Run
sets_element w a i x s = if nat_lt i (w.lens a) then Ends Next (with_word a i x s) else Stops

-- a round begins
abbrev pub after_round : ℕ → State → (State → Run) → Run
after_round zero s go = Spent
after_round (suc n) s go = go (record s { left = n })

-- at most n tests of a loop
abbrev pub rounds : ℕ → (head : State → Run) → (cond : ℕ) → (body : State → Run) → (step : State → Run) → State → Run
rounds zero head cond body step s = Spent
rounds (suc n) head cond body step s =
    plainly_then (head s) (λ t. at_zero (t.vals cond) (Ends Next t)
    (after_round t.left t (λ u. after_body (body u) (λ x. plainly_then (step x) (rounds n head cond body step)))))

abbrev mutual
  pub run : World → Stmt → State → Run
  run w (Let v e) s = defines w v.0 e s
  run w (Set v x) s = Ends Next (with_var v (s.vals x.0) s)
  run w (Store t a x) s = stores w t (s.vals a.0) (s.vals x.0) s
  run w (SetElement a i x) s = sets_element w a (s.vals i.0) (s.vals x.0) s
  run w (Clear a) s = Ends Next (cleared a s)
  run w (If' c k a l b) s = at_zero (s.vals c.0) (run_row w b s) (run_row w a s)
  run w (Loop' h head c b body t step) s = rounds (suc s.left) (run_row w head) c.0 (run_row w body) (run_row w step) s
  run w (Scope' k body) s = left_scope (run_row w body s)
  run w Leave s = Ends Gone s
  run w Break s = Ends Broke s
  run w Continue s = Ends Again s

  pub run_row : {n : _} → World → Row_of-Stmt n → State → Run
  run_row w end_of-Stmt s = Ends Next s
  run_row w (more_of-Stmt a rest) s = and_then (run w a s) (run_row w rest)

-- a list of statements
abbrev pub run_all : World → List Stmt → State → Run
run_all w [] s = Ends Next s
run_all w (a ∷ rest) s = and_then (run w a s) (run_all w rest)
