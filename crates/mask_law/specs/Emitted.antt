-- What the code that is emitted at a way to leave, at a settling and at a new mask does to the masks of each lane.
use Rattle.std.specs.Prelude.{◌≡◌, ℕ, ◌+◌, ◌<◌, ◌≤◌, ◌≢◌, Bool, true, false, List, ◌∷◌}
use Rattle.lane_ir.specs.LaneMeaning.{World, State, Ends, is_on, chosen, run_all}
use Rattle.mask_flow.specs.Masked.{leaves_to, settles, opens, chooses, tests}
use Rattle.mask_law.specs.Stacks.{Kind, Entry, top, var_at, place, val}
use Rattle.mask_law.specs.Masks.{Mask, column, settle, left_to, has}
use Rattle.mask_law.specs.Lanes.{Stacked, row_of}

-- only values from k on and variables from nu up to v may have changed, and so many operations were done
pub record Kept (n nu k v ops : ℕ) (t t' : State) : Type 0 where
  pub vals : (j : ℕ) → j < k → t'.vals j ≡ t.vals j
  pub low : (u : ℕ) → u < nu → t'.vars u ≡ t.vars u
  pub high : (u : ℕ) → v ≤ u → t'.vars u ≡ t.vars u
  pub arrays : t'.arrays ≡ t.arrays
  pub mem : t'.mem ≡ t.mem
  pub log : t'.log ≡ t.log
  pub steps : t'.steps ≡ t.steps + ops

abbrev pub left_where : Bool → Kind → List Mask → List Mask
left_where true k ms = left_to k ms
left_where false k ms = ms

pub record HasLeft (n nu k v : ℕ) (e : Kind) (st : List Entry) (t t' : State) : Type 0 where
  pub kept : Kept n nu k v 4 t t'
  pub masks : (l : ℕ) → l < n → column st (row_of t' l) ≡ left_where (is_on (t.vars (top st) l)) e (column st (row_of t l))
  pub still : (l : ℕ) → l < n → is_on (t.vars (top st) l) ≡ false → (u : ℕ) → t'.vars u l ≡ t.vars u l

pub record HasSettled (n nu k v : ℕ) (st : List Entry) (t t' : State) : Type 0 where
  pub kept : Kept n nu k v 7 t t'
  pub masks : (l : ℕ) → l < n → column st (row_of t' l) ≡ settle (column st (row_of t l))
  pub still : (l : ℕ) → l < n → is_on (t.vars (top st) l) ≡ false → (u : ℕ) → t'.vars u l ≡ t.vars u l

abbrev pub Leaves : Type 0
Leaves = (w : World) (n nu i k v : ℕ) (kind : Kind) (e : Entry) (st : List Entry) (t : State) → Stacked nu (e ∷ st) v → has kind (e ∷ st) ≡ true
    → (t' : State) × (run_all w n i (leaves_to (var_at kind (e ∷ st)) (place k v (e ∷ st))) t ≡ Ends t') × HasLeft n nu k v kind (e ∷ st) t t'

abbrev pub Settles : Type 0
Settles = (w : World) (n nu i k v : ℕ) (e : Entry) (st : List Entry) (t : State) → Stacked nu (e ∷ st) v
    → (t' : State) × (run_all w n i (settles (place k v (e ∷ st))) t ≡ Ends t') × HasSettled n nu k v (e ∷ st) t t'

-- only variable v and values from k on may have changed
pub record OnlyVar (k v ops : ℕ) (t t' : State) : Type 0 where
  pub vals : (j : ℕ) → j < k → t'.vals j ≡ t.vals j
  pub vars : (u : ℕ) → u ≢ v → t'.vars u ≡ t.vars u
  pub arrays : t'.arrays ≡ t.arrays
  pub mem : t'.mem ≡ t.mem
  pub log : t'.log ≡ t.log
  pub steps : t'.steps ≡ t.steps + ops

-- the new mask is the top one's, and the others are as they were
pub record HasOpened (n k v : ℕ) (st : List Entry) (t t' : State) : Type 0 where
  pub kept : OnlyVar k v 3 t t'
  pub masks : (kind : Kind) (l : ℕ) → l < n → column (record { kind = kind; var = v } ∷ st) (row_of t' l) ≡ record { kind = kind; on = is_on (t.vars (top st) l) } ∷ column st (row_of t l)

abbrev pub Opens : Type 0
Opens = (w : World) (n nu i k v : ℕ) (e : Entry) (st : List Entry) (t : State) → Stacked nu (e ∷ st) v
    → (t' : State) × (run_all w n i (opens k v (top (e ∷ st))) t ≡ Ends t') × HasOpened n k v (e ∷ st) t t'

-- both branches' masks: value k + 4 is the second one's, and k + 2 is on
pub record HasChosen (n k v c : ℕ) (st : List Entry) (t t' : State) : Type 0 where
  pub kept : OnlyVar k v 6 t t'
  pub masks : (kind : Kind) (l : ℕ) → l < n
      → column (record { kind = kind; var = v } ∷ st) (row_of t' l) ≡ record { kind = kind; on = is_on (chosen (t.vals c l) (t.vars (top st) l) 0) } ∷ column st (row_of t l)
  pub other : (l : ℕ) → l < n → t'.vals (k + 4) l ≡ chosen (t.vals c l) 0 (t.vars (top st) l)
  pub ones : (l : ℕ) → l < n → t'.vals (k + 2) l ≡ 1

abbrev pub Chooses : Type 0
Chooses = (w : World) (n nu i k v c : ℕ) (e : Entry) (st : List Entry) (t : State) → Stacked nu (e ∷ st) v → c < k
    → (t' : State) × (run_all w n i (chooses (place k v (e ∷ st)) (val c)) t ≡ Ends t') × HasChosen n k v c (e ∷ st) t t'

-- the loop's mask v after its test, which value k + 2 holds too
pub record HasTested (n k v c : ℕ) (st : List Entry) (t t' : State) : Type 0 where
  pub kept : OnlyVar k v 4 t t'
  pub masks : (kind : Kind) (l : ℕ) → l < n
      → column (record { kind = kind; var = v } ∷ st) (row_of t' l) ≡ record { kind = kind; on = is_on (chosen (t.vals c l) (t.vars v l) 0) } ∷ column st (row_of t l)
  pub mask : (l : ℕ) → l < n → t'.vals (k + 2) l ≡ chosen (t.vals c l) (t.vars v l) 0

abbrev pub Tests : Type 0
Tests = (w : World) (n nu i k v c : ℕ) (st : List Entry) (t : State) → Stacked nu st v → c < k
    → (t' : State) × (run_all w n i (tests (place k v st) (val c)) t ≡ Ends t') × HasTested n k v c st t t'
