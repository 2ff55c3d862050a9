-- Parts of a function in a frame of its own, and the same parts with the frame's variables at `base` among all others.
use Rattle.std.specs.Prelude.{◌≡◌, ℕ, ◌+◌, ◌<◌, ◌≤◌, List, [], length, slice_index_or}
use Rattle.item_meaning.specs.declared.values.Value.{Value}
use Rattle.item_meaning.specs.declared.values.Value.TheVariants.{Null}
use Rattle.item_meaning.specs.ItemState.{State, Run, Goes, Bounds, Spent}
use Rattle.item_meaning.specs.declared.values.Flow.{Flow}
use Rattle.item_meaning.specs.declared.values.Place.{Place}
use Rattle.item_meaning.specs.declared.values.Place.TheVariants.{Variable, Cell, Behind, Nowhere}
use Rattle.item_meaning.specs.NodeMeanings.{Part}

abbrev pub Same : Value → Value → Type 0
Same x y = x ≡ y

abbrev pub SameFlow : Flow → Flow → Type 0
SameFlow f g = f ≡ g

abbrev pub SameList : List Value → List Value → Type 0
SameList x y = x ≡ y

module _ (n base skip whole : ℕ) where
  -- a frame of n variables stands at `base`. The arrays of its first variables, which are parameters, are never asked for
  pub record Framed (s t : State) : Type 0 where
    pub vars : (u : ℕ) → u < n → slice_index_or s.vars u Null ≡ slice_index_or t.vars (base + u) Null
    pub arrays : (u : ℕ) → skip ≤ u → u < n → slice_index_or s.arrays u [] ≡ slice_index_or t.arrays (base + u) []
    pub own : length s.vars ≡ n
    pub own_arrays : length s.arrays ≡ n
    pub room : base + n ≤ length t.vars
    pub room_arrays : base + n ≤ length t.arrays
    pub all : length t.vars ≡ whole
    pub all_arrays : length t.arrays ≡ whole
    pub buffers : s.buffers ≡ t.buffers
    pub marks : s.marks ≡ t.marks
    pub left : s.left ≡ t.left

  -- what stands below the frame stays
  pub record Kept (t u : State) : Type 0 where
    pub vars : (j : ℕ) → j < base → slice_index_or u.vars j Null ≡ slice_index_or t.vars j Null
    pub arrays : (j : ℕ) → j < base → slice_index_or u.arrays j [] ≡ slice_index_or t.arrays j []
    pub many : length u.vars ≡ length t.vars
    pub many_arrays : length u.arrays ≡ length t.arrays

  abbrev pub Follows : {A B : Type 0} → (A → B → Type 0) → State → Run A → Run B → Type 0
  Follows R t (Goes a s) (Goes c u) = R a c × Framed s u × Kept t u
  Follows R t (Goes a s) (Bounds q) = ⊥
  Follows R t (Goes a s) Spent = ⊥
  Follows R t (Bounds p) (Goes c u) = ⊥
  Follows R t (Bounds p) (Bounds q) = p ≡ q
  Follows R t (Bounds p) Spent = ⊥
  Follows R t Spent (Goes c u) = ⊥
  Follows R t Spent (Bounds q) = ⊥
  Follows R t Spent Spent = Unit {0}

  abbrev pub Both : {A B : Type 0} → (A → B → Type 0) → Part A → Part B → Type 0
  Both R f g = (s t : State) → Framed s t → Follows R t (f s) (g t)

  -- places: a variable of the frame stands `base` further
  abbrev pub Moved : Place → Place → Type 0
  Moved (Variable u) (Variable w) = (w ≡ base + u) × (u < n)
  Moved (Cell p u i) (Cell q w j) = (p ≡ q) × (w ≡ base + u) × (u < n) × (skip ≤ u) × (i ≡ j)
  Moved (Behind p x) (Behind q y) = (p ≡ q) × (x ≡ y)
  Moved Nowhere Nowhere = Unit {0}
  Moved _ _ = ⊥
