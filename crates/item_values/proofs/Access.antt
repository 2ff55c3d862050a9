-- Accesses within and out of bounds.
use Rattle.std.proofs.Common.{◌≡◌, ℕ, ◌+◌, ◌%◌, ◌<◌, ◌≤◌, Bool, true, false, ◌&&◌, ◌==◌, nat_le, nat_lt, List, [], ◌∷◌, length, Ok, Err, refl, sym, ap, ◌∙◌, subst, arith}
use Rattle.std.specs.Prelude.{if◌then◌else◌, slice_index}
use Rattle.std.proofs.lemmas.Bool.Decides.{nat_tests}
use Rattle.footprint.specs.declared.marks.Use.TheVariants.{Read, Write}
use Rattle.q_lane.specs.declared.kinds.Scalar.{Scalar}
use Rattle.q_lane.specs.declared.kinds.Scalar.TheVariants.{Char, Uchar, Short, Ushort, Int, Uint}
use Rattle.q_lane.specs.Numbers.{narrowed}
use Rattle.q_functions.specs.NumberFunctions.{bytes_of}
use Rattle.item_meaning.specs.declared.values.Value.{Value}
use Rattle.item_meaning.specs.declared.values.Value.TheVariants.{Num, Null, At}
use Rattle.item_meaning.specs.ItemState.{State, Run, Goes, Bounds}
use Rattle.item_meaning.specs.Places.{number_at, buffer_of, array_of, in_bounds, mark, load, store, with_bytes, get_element, set_element}

pub some_bytes : (t : Scalar) → 0 < bytes_of t
some_bytes Char = omega arith
some_bytes Uchar = omega arith
some_bytes Short = omega arith
some_bytes Ushort = omega arith
some_bytes Int = omega arith
some_bytes Uint = omega arith

and_second : (a b : Bool) → (a && b) ≡ true → b ≡ true
and_second true b h = h
and_second false b h = absurd (cc)

-- within bounds
pub fits_in : (t : Scalar) (o n : ℕ) → (o % bytes_of t == 0 && nat_le (o + bytes_of t) n) ≡ true → o + bytes_of t ≤ n
fits_in t o n h = let l = and_second (o % bytes_of t == 0) (nat_le (o + bytes_of t) n) h in grind (arith, nat_tests)

module _ (at : ℕ) (t : Scalar) (k o : ℕ) (s : State) where
  pub loads : in_bounds t s.buffers k o ≡ true
      → load at t (At k o) s ≡ Goes (Num (narrowed t (number_at (bytes_of t) (buffer_of s.buffers k) o))) (record s { marks = mark Read t k o ∷ s.marks })
  loads h = ap (λ b. if b then Goes (Num (narrowed t (number_at (bytes_of t) (buffer_of s.buffers k) o))) (record s { marks = mark Read t k o ∷ s.marks }) else Bounds at) h

  pub loads_not : in_bounds t s.buffers k o ≡ false → load at t (At k o) s ≡ Bounds at
  loads_not h = ap (λ b. if b then Goes (Num (narrowed t (number_at (bytes_of t) (buffer_of s.buffers k) o))) (record s { marks = mark Read t k o ∷ s.marks }) else Bounds at) h

  pub stores : (x : ℕ) → in_bounds t s.buffers k o ≡ true
      → store at t (At k o) x s ≡ Goes (Num x) (record s { buffers = with_bytes (bytes_of t) s.buffers k o x; marks = mark Write t k o ∷ s.marks })
  stores x h = ap (λ b. if b then Goes (Num x) (record s { buffers = with_bytes (bytes_of t) s.buffers k o x; marks = mark Write t k o ∷ s.marks }) else Bounds at) h

  pub stores_not : (x : ℕ) → in_bounds t s.buffers k o ≡ false → store at t (At k o) x s ≡ Bounds at
  stores_not x h = ap (λ b. if b then Goes (Num x) (record s { buffers = with_bytes (bytes_of t) s.buffers k o x; marks = mark Write t k o ∷ s.marks }) else Bounds at) h
