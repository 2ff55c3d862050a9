-- How a batch's state and the states of its items belong together.
use Rattle.std.specs.Prelude.{◌≡◌, ℕ, zero, suc, ◌+◌, ◌*◌, ◌<◌, ◌≤◌, ◌≢◌, ◌⊎◌, Bool, true, false, ◌&&◌, ◌||◌, nat_lt, nat_le, List, [], ◌∷◌, ◌==◌, if◌then◌else◌}
use Rattle.item_ir.specs.declared.form.Val.{Val}
use Rattle.item_ir.specs.declared.form.Def.{Def}
use Rattle.item_ir.specs.declared.form.Def.TheVariants as d
use Rattle.item_ir.specs.declared.form.Stmt.{Stmt, Row_of-Stmt, end_of-Stmt, more_of-Stmt}
use Rattle.item_ir.specs.declared.form.Stmt.TheVariants.{Let, Set, Store, SetElement, Clear, If', Loop', Scope', Leave, Break, Continue}
use Rattle.item_ir.specs.Valid.{Around}
use Rattle.mask_law.specs.Worlds.{Ids, HasIds, BelowIds}
use Rattle.item_ir.specs.IrMeaning.{World as ItemWorld, State as Item, Touch as Access, Touched, Reads, Writes, Run as Ran, Ends as Done, Flow, Next}
use Rattle.lane_ir.specs.LaneMeaning.{State, Touch}
use Rattle.mask_law.specs.Stacks.{Entry, Round, In_loop, In_scope, branch, in_scope, in_loop, in_round}
use Rattle.mask_law.specs.Masks.{column, top_on, all_on, after, has}

abbrev pub is_write : Touched → Bool
is_write Reads = false
is_write Writes = true

-- the accesses of one lane, as an item's
abbrev pub as_how : Bool → Touched
as_how false = Reads
as_how true = Writes

abbrev pub lane_log : ℕ → List Touch → List Access
lane_log l [] = []
lane_log l (x ∷ xs) = if x.lane == l then record { how = as_how x.writes; address = x.address; len = x.len } ∷ lane_log l xs else lane_log l xs

abbrev pub in_access : Access → ℕ → Bool
in_access x a = nat_le x.address a && nat_lt a (x.address + x.len)

abbrev pub touches : List Access → ℕ → Bool
touches [] a = false
touches (x ∷ xs) a = in_access x a || touches xs a

abbrev pub writes : List Access → ℕ → Bool
writes [] a = false
writes (x ∷ xs) a = (is_write x.how && in_access x a) || writes xs a

-- which bytes each lane's whole item touches, and which it writes
pub record Bytes (n : ℕ) : Type 0 where
  pub touched : ℕ → ℕ → Bool
  pub written : ℕ → ℕ → Bool
  pub within : (l a : ℕ) → written l a ≡ true → touched l a ≡ true
  pub apart : (l m a : ℕ) → l < n → m < n → l ≢ m → written l a ≡ true → touched m a ≡ true → ⊥

-- a lane and its item: the values that D names, the variables below nu, the arrays, the lane's bytes and its accesses
pub record LaneRel {n : ℕ} (b : Bytes n) (nu l : ℕ) (D : ℕ → Type 0) (t : State) (x : Item) : Type 0 where
  pub vals : (j : ℕ) → D j → t.vals j l ≡ x.vals j
  pub vars : (u : ℕ) → u < nu → t.vars u l ≡ x.vars u
  pub arrays : (r e : ℕ) → t.arrays r e l ≡ x.arrays r e
  pub mem : (a : ℕ) → b.touched l a ≡ true → t.mem a ≡ x.mem a
  pub log : lane_log l t.log ≡ x.touches

-- the rounds that are left to the items of the lanes below n
abbrev pub total : ℕ → (ℕ → Item) → ℕ
total zero s = 0
total (suc l) s = total l s + (s l).left

-- the masks' variables fall, from below v to nu
abbrev pub Stacked : ℕ → List Entry → ℕ → Type 0
Stacked nu [] v = Unit {0}
Stacked nu (e ∷ st) v = (nu ≤ e.var) × (e.var < v) × Stacked nu st e.var

-- ---- which statements of an item name what is there

abbrev pub AllIn : (ℕ → Type 0) → List Val → Type 0
AllIn D [] = Unit {0}
AllIn D (a ∷ rest) = D a.0 × AllIn D rest

abbrev pub Names : ℕ → (ℕ → Type 0) → Def → Type 0
Names nu D (d.Const x) = Unit {0}
Names nu D (d.Param p) = Unit {0}
Names nu D (d.Work which dim) = D dim.0
Names nu D (d.Get u) = u < nu
Names nu D (d.Bin op a b) = D a.0 × D b.0
Names nu D (d.One op a) = D a.0
Names nu D (d.Built which t args) = AllIn D args
Names nu D (d.Choose c a b) = D c.0 × D a.0 × D b.0
Names nu D (d.Load t a) = D a.0
Names nu D (d.Element r j) = D j.0
Names nu D d.Flat = ⊥
Names nu D d.Items = ⊥

-- the values that are there after a statement
abbrev pub known_after : (ℕ → Type 0) → Stmt → ℕ → Type 0
known_after D (Let x e) j = D j ⊎ (j ≡ x.0)
known_after D (Set u x) j = D j
known_after D (Store t a x) j = D j
known_after D (SetElement a i x) j = D j
known_after D (Clear a) j = D j
known_after D (If' c n a m b) j = D j
known_after D (Loop' n h c m b i s) j = D j
known_after D (Scope' n a) j = D j
known_after D Leave j = D j
known_after D Break j = D j
known_after D Continue j = D j

abbrev pub known_row : {k : _} → (ℕ → Type 0) → Row_of-Stmt k → ℕ → Type 0
known_row D end_of-Stmt j = D j
known_row D (more_of-Stmt a rest) j = known_row (known_after D a) rest j

-- each number names something that exists at its place, a value is defined once, and each way to leave ends at a mask that is open in its scope
abbrev mutual
  pub Fits : (nu nv v : ℕ) → List Entry → (ℕ → Type 0) → Stmt → Type 0
  Fits nu nv v st D (Let x e) = (x.0 < nv) × (D x.0 → ⊥) × Names nu D e
  Fits nu nv v st D (Set u x) = (u < nu) × D x.0
  Fits nu nv v st D (Store t a x) = D a.0 × D x.0
  Fits nu nv v st D (SetElement a i x) = D i.0 × D x.0
  Fits nu nv v st D (Clear a) = Unit {0}
  Fits nu nv v st D (If' c n a m b) = D c.0 × FitsRow nu nv (v + 1) (branch v st) D a × FitsRow nu nv (v + 1) (branch v st) D b
  Fits nu nv v st D (Loop' n head c m body i step) =
      FitsRow nu nv (v + 2) (in_loop v st) D head × known_row D head c.0
      × FitsRow nu nv (v + 2) (in_round v st) (known_row D head) body × FitsRow nu nv (v + 2) (in_loop v st) (known_row D head) step
  Fits nu nv v st D (Scope' n a) = FitsRow nu nv (v + 1) (in_scope v st) D a
  Fits nu nv v st D Leave = has In_scope st ≡ true
  Fits nu nv v st D Break = has In_loop st ≡ true
  Fits nu nv v st D Continue = has Round st ≡ true

  pub FitsRow : {k : _} → (nu nv v : ℕ) → List Entry → (ℕ → Type 0) → Row_of-Stmt k → Type 0
  FitsRow nu nv v st D end_of-Stmt = Unit {0}
  FitsRow nu nv v st D (more_of-Stmt a rest) = Fits nu nv v st D a × FitsRow nu nv v st (known_after D a) rest

-- what may be left has its masks
pub record Open (r : Around) (st : List Entry) : Type 0 where
  pub loop : r.loop ≡ true → has In_loop st ≡ true
  pub round : r.loop ≡ true → has Round st ≡ true
  pub scope : r.scope ≡ true → has In_scope st ≡ true

abbrev pub FitsAll : (nu nv v : ℕ) → List Entry → (ℕ → Type 0) → List Stmt → Type 0
FitsAll nu nv v st D [] = Unit {0}
FitsAll nu nv v st D (a ∷ rest) = Fits nu nv v st D a × FitsAll nu nv v st (known_after D a) rest

-- ---- before and after a statement

-- the words of lane l in each variable
abbrev pub row_of : State → ℕ → ℕ → ℕ
row_of t l u = t.vars u l

-- act says which lanes are on. Lane l's item has the values K l; those that are on have all of D. No loop may be tested more than i times
pub record Before (n nu nv i : ℕ) (b : Bytes n) (ids : Ids) (xs : ℕ → ItemWorld) (act : ℕ → Bool) (K : ℕ → ℕ → Type 0) (D : ℕ → Type 0) (k v : ℕ) (st : List Entry) (t : State) (s : ℕ → Item) : Type 0 where
  pub rel : (l : ℕ) → l < n → LaneRel b nu l (K l) t (s l)
  pub masks : (l : ℕ) → l < n → top_on (column st (row_of t l)) ≡ act l
  pub exact : (l : ℕ) → l < n → act l ≡ true → all_on (column st (row_of t l)) ≡ true
  pub sub : (l j : ℕ) → K l j → D j
  pub all : (l j : ℕ) → l < n → act l ≡ true → D j → K l j
  pub high : nv ≤ k
  pub known_low : (j : ℕ) → D j → j < nv
  pub stacked : Stacked nu st v
  -- a scope is always open
  pub scoped : has In_scope st ≡ true
  pub has_ids : (l : ℕ) → l < n → act l ≡ true → HasIds ids (xs l) t l
  pub below : BelowIds ids.vals nv k
  pub rounds : total n s < i

-- what the items of the lanes that are on do
pub record Items (n : ℕ) (b : Bytes n) (act : ℕ → Bool) (x : ℕ → Item → Ran) (s : ℕ → Item) (f : ℕ → Flow) (s' : ℕ → Item) : Type 0 where
  pub on : (l : ℕ) → l < n → act l ≡ true → x l (s l) ≡ Done (f l) (s' l)
  pub off : (l : ℕ) → l < n → act l ≡ false → s' l ≡ s l
  pub touched : (l a : ℕ) → l < n → act l ≡ true → touches (s' l).touches a ≡ true → b.touched l a ≡ true
  pub written : (l a : ℕ) → l < n → act l ≡ true → writes (s' l).touches a ≡ true → b.written l a ≡ true

-- weight is the steps of the statement's text
pub record After (n nu nv weight : ℕ) (b : Bytes n) (act : ℕ → Bool) (K : ℕ → ℕ → Type 0) (E : ℕ → Type 0) (k v : ℕ) (st : List Entry) (t t' : State) (s s' : ℕ → Item) (f : ℕ → Flow) : Type 0 where
  pub rel : (l : ℕ) → l < n → LaneRel b nu l (K l) t' (s' l)
  pub more : (l : ℕ) → l < n → act l ≡ true → f l ≡ Next → (j : ℕ) → E j → t'.vals j l ≡ (s' l).vals j
  pub temps : (j l : ℕ) → nv ≤ j → j < k → t'.vals j l ≡ t.vals j l
  pub still : (l : ℕ) → l < n → act l ≡ false → (u : ℕ) → nu ≤ u → u < v → t'.vars u l ≡ t.vars u l
  pub masks : (l : ℕ) → l < n → act l ≡ true → column st (row_of t' l) ≡ after (f l) (column st (row_of t l))
  pub mem : (a : ℕ) → ((l : ℕ) → l < n → b.written l a ≡ false) → t'.mem a ≡ t.mem a
  -- the rounds fall, and the steps are at most the text's, once and for each round
  pub falls : total n s' ≤ total n s
  pub steps : t'.steps + weight * total n s' ≤ t.steps + weight * suc (total n s)
