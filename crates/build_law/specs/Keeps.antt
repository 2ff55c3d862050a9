-- How a state of the body's meaning and one of the structured form belong together.
use Rattle.std.specs.Prelude.{◌≡◌, ◌≢◌, ℕ, [], ◌+◌, ◌-◌, ◌%◌, ◌^◌, ◌<◌, ◌≤◌, true, List, length, map, slice_index, slice_index_or}
use Rattle.footprint.specs.declared.marks.Mark.{Mark}
use Rattle.footprint.specs.declared.marks.Use.{Use}
use Rattle.footprint.specs.declared.marks.Use.TheVariants.{Read, Write}
use Rattle.clc_types.specs.declared.typed.Var.{Var}
use Rattle.item_meaning.specs.declared.values.Value.{Value}
use Rattle.item_meaning.specs.declared.values.Value.TheVariants.{Num, Null, At}
use Rattle.item_meaning.specs.ItemState.{State, Run, Goes, Bounds, Spent}
use Rattle.item_meaning.specs.declared.values.Flow.{Flow}
use Rattle.item_meaning.specs.declared.values.Flow.TheVariants.{Next, Broke, Again, Returned}
use Rattle.item_meaning.specs.Places.{buffer_of, array_of}
use Rattle.item_meaning.specs.StatementMeanings.{var_at, returned_as}
use Rattle.item_ir.specs.Memory.{lies}
use Rattle.item_ir.specs.IrMeaning.{World, Touched, Reads, Writes, Touch, State as Item, Flow as Left, Next as Falls, Broke as Breaks, Again as Continues, Gone, Run as Ran, Ends}
use Rattle.ir_build.specs.Build.{array_length}
use Rattle.ir_build.specs.Code.{stmt_code}

-- what a function is given
abbrev pub Given : {A B : Type 0} → (A → B) → Type 0
Given {A = A} f = A

-- where a `return` stores, and in which type
abbrev pub Back : Type 0
Back = Given (stmt_code [])

-- what an item's form runs on, where the buffers begin and how long they are, and the variables of the body
pub record Ground : Type 0 where
  pub world : World
  pub base : ℕ → ℕ
  pub size : ℕ → ℕ
  pub vars : List Var

-- the buffers begin at multiples of 4, end within 2^32, stand apart and may be accessed; each array variable has an array of its number
pub record Laid (g : Ground) : Type 0 where
  pub aligned : (k : ℕ) → g.base k % 4 ≡ 0
  pub below : (k : ℕ) → g.base k + g.size k ≤ 2 ^ 32
  pub apart : (k l i j : ℕ) → i < g.size k → j < g.size l → g.base k + i ≡ g.base l + j → (k ≡ l) × (i ≡ j)
  pub allowed : (k o n : ℕ) → 1 ≤ n → o + n ≤ g.size k → lies g.world.regions (g.base k + o) n ≡ true
  pub arrays : (u : ℕ) → array_length (var_at g.vars u) ≤ g.world.lens u

-- a value as a word: a pointer is its address, and a null pointer any word
abbrev pub Same : (ℕ → ℕ) → Value → ℕ → Type 0
Same base (Num w) x = x ≡ w
Same base Null x = Unit {0}
Same base (At k o) x = x ≡ (base k + o) % 2 ^ 32

abbrev pub use_of : Use → Touched
use_of Read = Reads
use_of Write = Writes

-- the bytes of a buffer as bytes of the memory
abbrev pub placed : (ℕ → ℕ) → Mark → Touch
placed base a = record { how = use_of a.how; address = base a.buffer + a.from; len = a.to - a.from }

-- the states belong together, where at least d rounds more are left than turns
pub record Related (g : Ground) (d : ℕ) (s : State) (n : Item) : Type 0 where
  pub vars : (u : ℕ) → Same g.base (slice_index_or s.vars u Null) (n.vars u)
  pub count : length s.vars ≤ length g.vars
  pub elements : (u i : ℕ) → i < length (array_of s.arrays u) → n.arrays u i ≡ slice_index (array_of s.arrays u) i
  pub lengths : (u : ℕ) → length (array_of s.arrays u) ≤ g.world.lens u
  pub bytes : (k o : ℕ) → o < g.size k → n.mem (g.base k + o) ≡ slice_index (buffer_of s.buffers k) o
  pub sizes : (k : ℕ) → length (buffer_of s.buffers k) ≡ g.size k
  pub touches : n.touches ≡ map (placed g.base) s.marks
  pub left : s.left + d ≤ n.left

-- the values below k stay, and so do the variables below k that aren't the body's own, u aside
pub record Kept (g : Ground) (k : ℕ) (old new : Item) : Type 0 where
  pub vals : (j : ℕ) → j < k → new.vals j ≡ old.vals j
  pub vars : (j : ℕ) → length g.vars ≤ j → j < k → new.vars j ≡ old.vars j

abbrev pub same_flow : Flow → Left
same_flow Next = Falls
same_flow Broke = Breaks
same_flow Again = Continues
same_flow (Returned x) = Gone

-- where the one goes on, the other ends so, in states that belong together and have Q
abbrev pub Follows : {A : Type 0} → Ground → ℕ → (A → Left) → Run A → (A → State → Item → Type 0) → Ran → Type 0
Follows g d flow (Goes a s) Q r = (n : Item) × (r ≡ Ends (flow a) n) × Related g d s n × Q a s n
Follows g d flow (Bounds at) Q r = Unit {0}
Follows g d flow Spent Q r = Unit {0}

-- what a statement keeps: the values below k, the variables below k that aren't the body's own, those of the result aside; and in the
-- variable of the result is what was returned, or what was there
abbrev pub Result : Ground → Back → Flow → (old new : Item) → Type 0
Result g back Next old new = new.vars back.var ≡ old.vars back.var
Result g back Broke old new = new.vars back.var ≡ old.vars back.var
Result g back Again old new = new.vars back.var ≡ old.vars back.var
Result g back (Returned x) old new = Same g.base (returned_as back.result x) (new.vars back.var)

pub record Left_by (g : Ground) (back : Back) (k : ℕ) (old : Item) (f : Flow) (new : Item) : Type 0 where
  pub vals : (j : ℕ) → j < k → new.vals j ≡ old.vals j
  pub vars : (j : ℕ) → length g.vars ≤ j → j < k → j ≢ back.var → new.vars j ≡ old.vars j
  pub result : Result g back f old new
