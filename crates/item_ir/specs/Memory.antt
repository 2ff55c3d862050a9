-- A memory of bytes, and elements in it.
use Rattle.std.specs.Prelude.{ℕ, zero, suc, ◌+◌, ◌*◌, ◌/◌, ◌%◌, ◌^◌, Bool, false, ◌&&◌, ◌||◌, ◌==◌, nat_le, List, [], ◌∷◌, if◌then◌else◌}
use Rattle.q_lane.specs.declared.kinds.Scalar.{Scalar}
use Rattle.q_lane.specs.Numbers.{narrowed}
use Rattle.q_functions.specs.NumberFunctions.{bytes_of}

-- a function with one place changed
abbrev pub with_at : {A : Type 0} → (ℕ → A) → ℕ → A → ℕ → A
with_at f k x j = if j == k then x else f j

-- bytes that an item may touch: a buffer
pub record Region : Type 0 where
  pub start : ℕ
  pub len : ℕ

-- n bytes from this address on lie in one region
abbrev pub lies : List Region → ℕ → ℕ → Bool
lies [] a n = false
lies (r ∷ rs) a n = (nat_le r.start a && nat_le (a + n) (r.start + r.len)) || lies rs a n

-- the number that n bytes from this address on spell, the lowest first
abbrev pub bytes_at : (ℕ → ℕ) → ℕ → ℕ → ℕ
bytes_at mem zero a = 0
bytes_at mem (suc n) a = mem a + 2 ^ 8 * bytes_at mem n (suc a)

-- a memory in which n bytes from this address on spell a number
abbrev pub with_bytes : (ℕ → ℕ) → ℕ → ℕ → ℕ → ℕ → ℕ
with_bytes mem zero a x = mem
with_bytes mem (suc n) a x = with_bytes (with_at mem a (x % 2 ^ 8)) n (suc a) (x / 2 ^ 8)

-- the element of a type at an address, as a word
abbrev pub element_at : (ℕ → ℕ) → Scalar → ℕ → ℕ
element_at mem t a = narrowed t (bytes_at mem (bytes_of t) a)

abbrev pub with_element : (ℕ → ℕ) → Scalar → ℕ → ℕ → ℕ → ℕ
with_element mem t a x = with_bytes mem (bytes_of t) a x
