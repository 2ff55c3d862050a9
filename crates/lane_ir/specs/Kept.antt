-- What it means that a pass keeps what a batch does, and the passes that change definitions alone.
use Rattle.std.specs.Prelude.{◌≡◌, ℕ, ◌^◌, ◌<◌, ◌≤◌, Bool, true, ◌&&◌, List, [], ◌∷◌, ◌++◌}
use Rattle.item_ir.specs.declared.form.Def.{Def}
use Rattle.lane_ir.specs.LaneMeaning.{World, State, Run, Ends, Stops, Spent, defines, run_all}
use Rattle.lane_ir.specs.Valid.{Counts, is_def, is_body}
use Rattle.lane_ir.specs.declared.form.LaneStmt.{LaneStmt, Row_of-LaneStmt, end_of-LaneStmt, more_of-LaneStmt}
use Rattle.lane_ir.specs.declared.form.LaneStmt.TheVariants.{Let, Put, Load, Store, GetElement, PutElement, Clear, WhileAny, WhileAny'}

-- the numbers of the work and of the parameters are words
pub record IsWorld (w : World) : Type 0 where
  pub params : (p : ℕ) → w.params p < 2 ^ 32
  pub dims : w.dims < 2 ^ 32
  pub global : (d : ℕ) → w.global d < 2 ^ 32
  pub local : (d : ℕ) → w.local d < 2 ^ 32
  pub items : w.items < 2 ^ 32

-- the first k values, the variables and the arrays hold words
pub record Words (k : ℕ) (s : State) : Type 0 where
  pub vals : (v l : ℕ) → v < k → s.vals v l < 2 ^ 32
  pub vars : (v l : ℕ) → s.vars v l < 2 ^ 32
  pub arrays : (r e l : ℕ) → s.arrays r e l < 2 ^ 32

-- t is s but for the values from k on, and no more was done to come to it
pub record Same (k : ℕ) (s t : State) : Type 0 where
  pub vals : (v : ℕ) → v < k → t.vals v ≡ s.vals v
  pub vars : t.vars ≡ s.vars
  pub arrays : t.arrays ≡ s.arrays
  pub mem : t.mem ≡ s.mem
  pub log : t.log ≡ s.log
  pub transfers : t.transfers ≡ s.transfers
  pub steps : t.steps ≤ s.steps

pub record Met (k : ℕ) (s t : State) : Type 0 where
  pub same : Same k s t
  pub words : Words k s

-- where the first run ends, so does the second, and in the same way
abbrev pub EndsAs : ℕ → Run → Run → Type 0
EndsAs k (Ends s) r = (t : State) × (r ≡ Ends t) × Met k s t
EndsAs k Stops r = Unit {0}
EndsAs k Spent r = Unit {0}

abbrev mutual
  -- a statement with other statements in place of each definition
  pub rewritten : (ℕ → Def → List LaneStmt) → LaneStmt → List LaneStmt
  rewritten f (Let v d) = f v.0 d
  rewritten f (Put v x m) = Put v x m ∷ []
  rewritten f (Load t d a m) = Load t d a m ∷ []
  rewritten f (Store t a x m) = Store t a x m ∷ []
  rewritten f (GetElement r d j m) = GetElement r d j m ∷ []
  rewritten f (PutElement r j x m) = PutElement r j x m ∷ []
  rewritten f (Clear r m) = Clear r m ∷ []
  rewritten f (WhileAny' h head m b body) = WhileAny (rewritten_row f head) m (rewritten_row f body) ∷ []

  pub rewritten_row : {k : _} → (ℕ → Def → List LaneStmt) → Row_of-LaneStmt k → List LaneStmt
  rewritten_row f end_of-LaneStmt = []
  rewritten_row f (more_of-LaneStmt a rest) = rewritten f a ++ rewritten_row f rest

abbrev pub rewritten_all : (ℕ → Def → List LaneStmt) → List LaneStmt → List LaneStmt
rewritten_all f [] = []
rewritten_all f (a ∷ rest) = rewritten f a ++ rewritten_all f rest

-- the statements that stand for a definition do what it does, in n lanes and with at most i tests of a loop
abbrev pub DefsKept : (ℕ → Def → List LaneStmt) → Counts → World → ℕ → ℕ → Type 0
DefsKept f c w n i =
    (v : ℕ) (d : Def) (s t : State) → v < c.vals → is_def c d ≡ true → Met c.vals s t
    → EndsAs c.vals (Ends (defines w n v d s)) (run_all w n i (f v d) t)

-- then so do the statements for all definitions of a body
abbrev pub BodiesKept : (ℕ → Def → List LaneStmt) → Counts → World → ℕ → ℕ → Type 0
BodiesKept f c w n least =
    (i j : ℕ) (body : List LaneStmt) (s t : State) → i ≤ j → least ≤ j → is_body c body ≡ true → Met c.vals s t
    → EndsAs c.vals (run_all w n i body s) (run_all w n j (rewritten_all f body) t)

abbrev mutual
  -- a test holds of each definition in a statement
  pub each_def : (Def → Bool) → LaneStmt → Bool
  each_def p (Let v d) = p d
  each_def p (Put v x m) = true
  each_def p (Load t d a m) = true
  each_def p (Store t a x m) = true
  each_def p (GetElement r d j m) = true
  each_def p (PutElement r j x m) = true
  each_def p (Clear r m) = true
  each_def p (WhileAny' h head m b body) = each_def_row p head && each_def_row p body

  pub each_def_row : {k : _} → (Def → Bool) → Row_of-LaneStmt k → Bool
  each_def_row p end_of-LaneStmt = true
  each_def_row p (more_of-LaneStmt a rest) = each_def p a && each_def_row p rest

abbrev pub each_def_all : (Def → Bool) → List LaneStmt → Bool
each_def_all p [] = true
each_def_all p (a ∷ rest) = each_def p a && each_def_all p rest

-- the second body does what the first does, where at least so many tests of a loop are allowed
abbrev pub RunsAs : Counts → List LaneStmt → List LaneStmt → ℕ → Type 0
RunsAs c a b least =
    (w : World) (n i j : ℕ) (s t : State) → IsWorld w → i ≤ j → least ≤ j → Met c.vals s t
    → EndsAs c.vals (run_all w n i a s) (run_all w n j b t)
