-- Words of the memory that the QPUs of one run share, and the changes that their sections make of them. A section is what a QPU does from an
-- acquire of the mutex to its release. All of it is this project's own.
use Rattle.std.specs.Prelude.{◌≡◌, ℕ, ◌^◌, ◌<◌, ◌≤◌, List, [], ◌∷◌, Bool, true, false, if◌then◌else◌, ◌==◌, IfSome}
use Rattle.std.specs.declared.option.Option.{Option}
use Rattle.std.specs.declared.option.Option.TheVariants.{None}
use Rattle.q_lane.specs.declared.operations.BinOp.{BinOp}
use Rattle.q_lane.specs.declared.operations.BinOp.TheVariants as op
use Rattle.qpu_machine.specs.SoloRun.{Sharing, Change, changed, Made}

-- the bytes of the shared words, and the change that section n of QPU k makes, if it is one that changes a word
pub record Shares : Type 0 where
  pub is_shared : ℕ → Bool
  pub change : ℕ → ℕ → Option Change

-- no word is shared, and no section changes one
abbrev pub no_shares : Shares
no_shares = record { is_shared = λ a. false; change = λ k n. None }

-- what QPU k alone is told of it
abbrev pub of_qpu : Shares → ℕ → Sharing
of_qpu x k = record { is_shared = x.is_shared; change = x.change k }

-- operands are words
abbrev pub AreOperands : Shares → Type 0
AreOperands x = (k n : ℕ) → IfSome (x.change k n) (λ c. c.operand < 2 ^ 32)

-- ---- what changes make of a word

-- the word at an address after these changes of words; the list has the last change first
abbrev pub changed_by : ℕ → List Made → ℕ → ℕ
changed_by at [] word = word
changed_by at (m ∷ ms) word = if m.address == at then changed m.change (changed_by at ms word) else changed_by at ms word

-- the changes of QPU k among those of many, each with the number of its QPU
abbrev pub own : ℕ → List (ℕ × Made) → List Made
own k [] = []
own k (m ∷ ms) = if m.0 == k then m.1 ∷ own k ms else own k ms

abbrev pub without_numbers : List (ℕ × Made) → List Made
without_numbers [] = []
without_numbers (m ∷ ms) = m.1 ∷ without_numbers ms

-- some order of the changes of QPUs 0 to n - 1, in which those of each QPU stand in their order
pub record IsOrder (n : ℕ) (made : ℕ → List Made) (ms : List (ℕ × Made)) : Type 0 where
  pub there : (k : ℕ) → n ≤ k → own k ms ≡ []
  pub each : (k : ℕ) → k < n → own k ms ≡ made k

-- either may be made first
abbrev pub Commute : Change → Change → Type 0
Commute c d = (word : ℕ) → word < 2 ^ 32 → changed c (changed d word) ≡ changed d (changed c word)

-- what goes on in whatever order: sums and differences, and, or, exclusive or, and the lesser or the greater of two words in one reading
pub data Group : Type 0 where
  Sum : Group
  And : Group
  Or : Group
  Xor : Group
  MinInt : Group
  MaxInt : Group
  MinUint : Group
  MaxUint : Group

-- the operations of each group
pub data IsOf : BinOp → Group → Type 0 where
  Adds : IsOf op.Add Sum
  Subs : IsOf op.Sub Sum
  Ands : IsOf op.And And
  Ors : IsOf op.Or Or
  Xors : IsOf op.Xor Xor
  MinInts : IsOf (op.Min true) MinInt
  MaxInts : IsOf (op.Max true) MaxInt
  MinUints : IsOf (op.Min false) MinUint
  MaxUints : IsOf (op.Max false) MaxUint

-- two changes of one group commute, their operations may differ
abbrev pub GroupsCommute : Type 0
GroupsCommute =
    (g : Group) (c d : Change) → IsOf c.op g → IsOf d.op g → c.operand < 2 ^ 32 → d.operand < 2 ^ 32 → Commute c d
