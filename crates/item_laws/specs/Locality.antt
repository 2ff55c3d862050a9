-- What a run of one item's form leaves alone, and which bytes it depends on.
use Rattle.std.specs.Prelude.{◌≡◌, ℕ, ◌+◌, ◌≤◌, ◌%◌, Bool, true, false, ◌&&◌, ◌||◌, ◌==◌, nat_le, nat_lt, List, [], ◌∷◌, ◌++◌, if◌then◌else◌}
use Rattle.item_ir.specs.Memory.{lies}
use Rattle.item_ir.specs.IrMeaning.{World, Touched, Reads, Writes, Touch, State, Flow, Run, Ends, run_all}
use Rattle.item_ir.specs.declared.form.Stmt.{Stmt}

-- an access includes the byte at an address
abbrev pub covers : Touch → ℕ → Bool
covers x a = nat_le x.address a && nat_lt a (x.address + x.len)

abbrev pub is_write : Touched → Bool
is_write Reads = false
is_write Writes = true

-- one of the accesses writes the byte
abbrev pub writes : List Touch → ℕ → Bool
writes [] a = false
writes (x ∷ rest) a = (is_write x.how && covers x a) || writes rest a

-- one of the accesses reads or writes the byte
abbrev pub uses : List Touch → ℕ → Bool
uses [] a = false
uses (x ∷ rest) a = covers x a || uses rest a

abbrev pub is_size : ℕ → Bool
is_size n = n == 1 || (n == 2 || n == 4)

-- an access of the size of a number is at a multiple of it, and lies in a buffer
abbrev pub allows : World → Touch → Bool
allows w x = is_size x.len && (x.address % x.len == 0 && lies w.regions x.address x.len)

abbrev pub are_allowed : World → List Touch → Bool
are_allowed w [] = true
are_allowed w (x ∷ rest) = allows w x && are_allowed w rest

-- a run from s to t makes these accesses, all allowed, changes only the bytes that they write, and gains no rounds
pub record IsKept (w : World) (s t : State) (new : List Touch) : Type 0 where
  pub touches : t.touches ≡ new ++ s.touches
  pub allowed : are_allowed w new ≡ true
  pub bytes : (a : ℕ) → writes new a ≡ false → t.mem a ≡ s.mem a
  pub left : t.left ≤ s.left

-- another memory has the same bytes where these accesses read or write
abbrev pub IsSame : List Touch → (mem other : ℕ → ℕ) → Type 0
IsSame new mem other = (a : ℕ) → uses new a ≡ true → other a ≡ mem a

-- over another memory the run ends as from s to t in all but the memory, in which it writes the same bytes and leaves the others
pub record IsRerun (go : State → Run) (f : Flow) (s t : State) (new : List Touch) (other : ℕ → ℕ) : Type 0 where
  pub mem : ℕ → ℕ
  pub ends : go (record s { mem = other }) ≡ Ends f (record t { mem = mem })
  pub written : (a : ℕ) → writes new a ≡ true → mem a ≡ t.mem a
  pub rest : (a : ℕ) → writes new a ≡ false → mem a ≡ other a

-- what holds of a run that ends
pub record IsLocal (w : World) (go : State → Run) (f : Flow) (s t : State) : Type 0 where
  pub new : List Touch
  pub kept : IsKept w s t new
  pub again : (other : ℕ → ℕ) → IsSame new s.mem other → IsRerun go f s t new other

abbrev pub RunsAreLocal : Type 0
RunsAreLocal = (w : World) (body : List Stmt) (s : State) (f : Flow) (t : State) → run_all w body s ≡ Ends f t → IsLocal w (run_all w body) f s t

-- the bytes that the accesses write from one memory, the others from another
abbrev pub overlaid : List Touch → (written other : ℕ → ℕ) → ℕ → ℕ
overlaid new written other a = if writes new a then written a else other a

-- the same of accesses that are given, in one equation
abbrev pub RerunsAreOverlaid : Type 0
RerunsAreOverlaid =
    (w : World) (body : List Stmt) (s : State) (f : Flow) (t : State) (new : List Touch) (other : ℕ → ℕ)
    → run_all w body s ≡ Ends f t → t.touches ≡ new ++ s.touches → IsSame new s.mem other
    → run_all w body (record s { mem = other }) ≡ Ends f (record t { mem = overlaid new t.mem other })
