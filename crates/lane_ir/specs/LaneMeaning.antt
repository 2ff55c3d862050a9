-- What the form of a batch does, in n lanes. Each value and each variable has a word for each lane.
use Rattle.std.specs.Prelude.{ℕ, zero, suc, ◌+◌, ◌*◌, ◌/◌, ◌%◌, ◌^◌, Bool, true, false, not, List, [], ◌∷◌, map, ◌&&◌, ◌||◌, ◌==◌, nat_lt, if◌then◌else◌}
use Rattle.q_lane.specs.declared.kinds.Scalar.{Scalar}
use Rattle.q_lane.specs.Numbers.{applied, applied_one}
use Rattle.q_functions.specs.NumberFunctions.{bytes_of, number_function}
use Rattle.q_functions.specs.declared.functions.WorkFunction.{WorkFunction}
use Rattle.q_functions.specs.declared.functions.WorkFunction.TheVariants.{WorkDim, GlobalId, GlobalSize, LocalId, LocalSize, GroupId, NumGroups}
use Rattle.item_ir.specs.declared.form.Def.{Def}
use Rattle.item_ir.specs.declared.form.Def.TheVariants.{Const, Param, Work, Get, Bin, One, Built, Choose, Load as Loads, Element, Flat, Items}
use Rattle.item_ir.specs.Memory.{with_at, Region, lies, element_at, with_element}
use Rattle.lane_ir.specs.Weights.{done, test_done}
use Rattle.lane_ir.specs.declared.form.LaneStmt.{LaneStmt, Row_of-LaneStmt, end_of-LaneStmt, more_of-LaneStmt}
use Rattle.lane_ir.specs.declared.form.LaneStmt.TheVariants.{Let, Put, Load, Store, GetElement, PutElement, Clear, WhileAny'}

-- what a batch stands in: the buffers, the words of the parameters, the lengths of the private arrays, the numbers of the work, and which
-- batch it is
pub record World : Type 0 where
  pub regions : List Region
  pub params : ℕ → ℕ
  pub lens : ℕ → ℕ
  pub dims : ℕ
  pub global : ℕ → ℕ
  pub local : ℕ → ℕ
  pub items : ℕ
  pub batch : ℕ

-- bytes that a lane reads or writes
pub record Touch : Type 0 where
  pub lane : ℕ
  pub writes : Bool
  pub address : ℕ
  pub len : ℕ

-- values and variables by number and lane, private arrays by number, element and lane, the memory, the accesses so far with the newest
-- first, the transfers that the accesses may take, and the operations done
pub record State : Type 0 where
  pub vals : ℕ → ℕ → ℕ
  pub vars : ℕ → ℕ → ℕ
  pub arrays : ℕ → ℕ → ℕ → ℕ
  pub mem : ℕ → ℕ
  pub log : List Touch
  pub transfers : ℕ
  pub steps : ℕ

-- a run ends, stops at an access or an index out of bounds, or needs a loop to go round more often than it may
pub data Run : Type 0 where
  Ends : State → Run
  Stops : Run
  Spent : Run

abbrev pub and_then : Run → (State → Run) → Run
and_then (Ends s) go = go s
and_then Stops go = Stops
and_then Spent go = Spent

abbrev pub is_on : ℕ → Bool
is_on zero = false
is_on (suc x) = true

-- a where the word isn't 0, else b
abbrev pub chosen : {A : Type 0} → ℕ → A → A → A
chosen zero a b = b
chosen (suc n) a b = a

-- a word of one of the lanes below n isn't 0
abbrev pub any_on : ℕ → (ℕ → ℕ) → Bool
any_on zero f = false
any_on (suc n) f = any_on n f || is_on (f n)

-- how many of them aren't 0
abbrev pub count_on : ℕ → (ℕ → ℕ) → ℕ
count_on zero f = 0
count_on (suc n) f = chosen (f n) (suc (count_on n f)) (count_on n f)

-- a number of the work that isn't an id, in dimension d; past 2 a size and a count are 1
abbrev pub work : World → WorkFunction → ℕ → ℕ
work w WorkDim d = w.dims
work w GlobalSize d = if nat_lt d 3 then w.global d else 1
work w LocalSize d = if nat_lt d 3 then w.local d else 1
work w NumGroups d = if nat_lt d 3 then w.global d / w.local d else 1
work w GlobalId d = 0
work w LocalId d = 0
work w GroupId d = 0

-- what a definition gives in lane l. The ids, an access and an element of an array define no value of a batch
abbrev pub value : World → State → ℕ → Def → ℕ
value w s l (Const x) = x
value w s l (Param p) = w.params p
value w s l (Work which d) = work w which (s.vals d.0 l)
value w s l (Get x) = s.vars x l
value w s l (Bin op a b) = applied op (s.vals a.0 l) (s.vals b.0 l)
value w s l (One op a) = applied_one op (s.vals a.0 l)
value w s l (Built f t args) = number_function f t (map (λ a. s.vals a.0 l) args)
value w s l (Choose c a b) = chosen (s.vals c.0 l) (s.vals a.0 l) (s.vals b.0 l)
value w s l (Loads t a) = 0
value w s l (Element a i) = 0
value w s l Flat = (16 * w.batch + l) % 2 ^ 32
value w s l Items = w.items

abbrev pub costs : ℕ → State → State
costs n s = record s { steps = s.steps + n }

-- defines value v in all n lanes. Past them a value is 0
abbrev pub defines : World → ℕ → ℕ → Def → State → State
defines w n v d s = record s { vals = with_at s.vals v (λ l. if nat_lt l n then value w s l d else 0); steps = s.steps + done d }

-- one lane after another, those below n
abbrev pub each : ℕ → (ℕ → State → Run) → State → Run
each zero f s = Ends s
each (suc n) f s = and_then (each n f s) (f n)

-- what a lane does where its mask word isn't 0
abbrev pub where_on : ℕ → (State → Run) → State → Run
where_on m f s = chosen m (f s) (Ends s)

abbrev pub if_allowed : Bool → Run → Run
if_allowed true r = r
if_allowed false r = Stops

-- an element may be accessed at this address
abbrev pub is_allowed : World → Scalar → ℕ → Bool
is_allowed w t a = (a % bytes_of t == 0) && lies w.regions a (bytes_of t)

abbrev pub noted : ℕ → Bool → Scalar → ℕ → State → State
noted l b t a s = record s { log = record { lane = l; writes = b; address = a; len = bytes_of t } ∷ s.log }

abbrev pub with_lane : ℕ → ℕ → ℕ → State → State
with_lane v l x s = record s { vals = with_at s.vals v (with_at (s.vals v) l x) }

-- lane l loads
abbrev pub loads : World → Scalar → ℕ → ℕ → ℕ → State → Run
loads w t d a l s = if_allowed (is_allowed w t (s.vals a l)) (Ends (noted l false t (s.vals a l) (with_lane d l (element_at s.mem t (s.vals a l)) s)))

-- lane l stores
abbrev pub stores : World → Scalar → ℕ → ℕ → ℕ → State → Run
stores w t a x l s = if_allowed (is_allowed w t (s.vals a l)) (Ends (noted l true t (s.vals a l) (record s { mem = with_element s.mem t (s.vals a l) (s.vals x l) })))

-- lane l takes an element of a private array
abbrev pub takes : World → ℕ → ℕ → ℕ → ℕ → State → Run
takes w r d i l s = if_allowed (nat_lt (s.vals i l) (w.lens r)) (Ends (with_lane d l (s.arrays r (s.vals i l) l) s))

-- lane l sets one
abbrev pub sets : World → ℕ → ℕ → ℕ → ℕ → State → Run
sets w r i x l s =
    if_allowed (nat_lt (s.vals i l) (w.lens r))
    (Ends (record s { arrays = with_at s.arrays r (with_at (s.arrays r) (s.vals i l) (with_at (s.arrays r (s.vals i l)) l (s.vals x l))) }))

-- lane l sets all elements of an array to 0
abbrev pub clears : ℕ → ℕ → State → Run
clears r l s = Ends (record s { arrays = with_at s.arrays r (λ e. with_at (s.arrays r e) l 0) })

-- the lanes of a mask are the first m lanes, and lane l's address is lane 0's and l times the size of an element: for the lanes below n
abbrev pub is_row : ℕ → ℕ → ℕ → (ℕ → ℕ) → (ℕ → ℕ) → Bool
is_row zero m bytes mask addr = true
is_row (suc l) m bytes mask addr = is_row l m bytes mask addr && (if nat_lt l m then is_on (mask l) && (addr l == (addr 0 + l * bytes) % 2 ^ 32) else not (is_on (mask l)))

-- the transfers that an access of n lanes may take: one for a row of lanes and addresses, else one for each masked lane
abbrev pub allowed : ℕ → Scalar → (ℕ → ℕ) → (ℕ → ℕ) → ℕ
allowed n t mask addr = if nat_lt 0 (count_on n mask) && is_row n (count_on n mask) (bytes_of t) mask addr then 1 else count_on n mask

abbrev pub starts : ℕ → State → State
starts n s = record s { transfers = s.transfers + n }

-- a loop of at most i tests. A test comes after the head, and where it holds the body follows
abbrev pub rounds : ℕ → ℕ → (State → Run) → ℕ → (State → Run) → State → Run
rounds n zero head mask body s = Spent
rounds n (suc i) head mask body s =
    and_then (head s) (λ t. if any_on n (t.vals mask) then and_then (body (costs test_done t)) (rounds n i head mask body) else Ends (costs test_done t))

abbrev mutual
  -- a statement, where no loop may be tested more than i times each time that it is entered
  pub run : World → ℕ → ℕ → LaneStmt → State → Run
  run w n i (Let v d) s = Ends (defines w n v.0 d s)
  run w n i (Put v x m) s = Ends (record s { vars = with_at s.vars v (λ l. chosen (s.vals m.0 l) (s.vals x.0 l) (s.vars v l)); steps = s.steps + 1 })
  run w n i (Load t d a m) s = each n (λ l. where_on (s.vals m.0 l) (loads w t d.0 a.0 l)) (starts (allowed n t (s.vals m.0) (s.vals a.0)) s)
  run w n i (Store t a x m) s = each n (λ l. where_on (s.vals m.0 l) (stores w t a.0 x.0 l)) (starts (allowed n t (s.vals m.0) (s.vals a.0)) s)
  run w n i (GetElement r d j m) s = each n (λ l. where_on (s.vals m.0 l) (takes w r d.0 j.0 l)) (starts (count_on n (s.vals m.0)) s)
  run w n i (PutElement r j x m) s = each n (λ l. where_on (s.vals m.0 l) (sets w r j.0 x.0 l)) (starts (count_on n (s.vals m.0)) s)
  run w n i (Clear r m) s = each n (λ l. where_on (s.vals m.0 l) (clears r l)) (starts (count_on n (s.vals m.0) * w.lens r) s)
  run w n i (WhileAny' h head m b body) s = rounds n i (run_row w n i head) m.0 (run_row w n i body) s

  pub run_row : {k : _} → World → ℕ → ℕ → Row_of-LaneStmt k → State → Run
  run_row w n i end_of-LaneStmt s = Ends s
  run_row w n i (more_of-LaneStmt a rest) s = and_then (run w n i a s) (run_row w n i rest)

-- a list of statements
abbrev pub run_all : World → ℕ → ℕ → List LaneStmt → State → Run
run_all w n i [] s = Ends s
run_all w n i (a ∷ rest) s = and_then (run w n i a s) (run_all w n i rest)
