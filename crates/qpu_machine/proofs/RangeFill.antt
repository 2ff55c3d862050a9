-- What an opening is filled with is in range: zeros, and the numbers of a seed, each of which is the upper half of 64 bits.
use Rattle.std.proofs.Common.{arith, ◌≡◌, ℕ, zero, suc, ◌+◌, ◌*◌, ◌/◌, ◌%◌, ◌^◌, ◌<◌, ◌≤◌, false, ◌==◌, List, [], length, get_or, map, replicate, sym, subst, inl, inr}
use Rattle.std.proofs.lemmas.Bool.{cases_lt}
use Rattle.std.proofs.lemmas.List.{get_or_past, length-replicate, get_or-replicate}
use Rattle.std.proofs.lemmas.List.FromFn.{length-map-range_with_len, get_or-map-range_with_len}
use Rattle.std.proofs.lemmas.Nat.{mod_below, div_below}
use Rattle.std.specs.List.{range_with_len}
use Rattle.std.specs.Prelude.{IfSome, slice_get}
use Rattle.q_lane.specs.declared.lanes.Lanes.{Lanes}
use Rattle.q_lane.specs.Vectors.{lanes}
use Rattle.q_lane.proofs.VectorLaws.{length-lanes}
use Rattle.vpm_words.specs.Laws.{IsVpm}
use Rattle.vpm_words.specs.Moves.{cell}
use Rattle.qpu_machine.specs.declared.plan.Fill.TheVariants.{Zero, Seed}
use Rattle.qpu_machine.specs.Opening.{zeros, zero_regs, drawn_lanes, drawn_file, flags_in, drawn_regs, drawn_vpm, numbers_each}
use Rattle.qpu_machine.specs.Reachable.{IsVector, AreRegisters, AreRegs, FillInRange}
use Rattle.qpu_machine.specs.Schedules.{next_seed, seed_after, draw}
use Rattle.qpu_machine.proofs.RangeRegs.{vector-of}

none-below : 0 < 2 ^ 32
none-below = omega arith

-- ---- numbers from a seed

next_seed-below : (x : ℕ) → next_seed x < 2 ^ 32 * 2 ^ 32
unfolding next_seed
next_seed-below x = mod_below (6364136223846793005 * x + 1442695040888963407) (2 ^ 64) (omega arith)

-- the generator has taken at least one step
after-below : (n x : ℕ) → seed_after x (suc n) < 2 ^ 32 * 2 ^ 32
unfolding seed_after
after-below zero x = next_seed-below x
after-below (suc n) x = after-below n (next_seed x)

draw-below : (seed n : ℕ) → draw seed n < 2 ^ 32
draw-below seed n =
    let more : suc n ≡ n + 1 = omega arith in
    div_below (seed_after seed (n + 1)) (2 ^ 32) (2 ^ 32) (omega arith) (subst (λ m. seed_after seed m < 2 ^ 32 * 2 ^ 32) more (after-below n seed))

-- ---- lists of which each element is in range

-- what holds of the element holds of each of its copies
each-copy : {A : Type 0} (P : A → Type 0) (n : ℕ) (x : A) → P x → (k : ℕ) → IfSome (slice_get (replicate n x) k) P
each-copy P zero x h k = tt
each-copy P (suc n) x h zero = h
each-copy P (suc n) x h (suc k) = each-copy P n x h k

-- and what holds of each value of a function holds of each of a range of its values
each-value : {A : Type 0} (P : A → Type 0) (f : ℕ → A) → ((x : ℕ) → P (f x)) → (a n k : ℕ) → IfSome (slice_get (map f (range_with_len a n)) k) P
each-value P f h a zero k = tt
each-value P f h a (suc n) zero = h a
each-value P f h a (suc n) (suc k) = each-value P f h (a + 1) n k

-- rows that are vectors make a VPM
vpm-of : (vpm : List (List ℕ)) → length vpm ≡ 64 → ((y : ℕ) → y < 64 → IsVector (get_or vpm y [])) → IsVpm vpm
vpm-of vpm many h = record { rows = many; row = λ y l. (h y l).many; word = word }
  where
    word : (y x : ℕ) → cell vpm y x < 2 ^ 32
    word y x = elim (cases_lt y 64) [
      | inl l ↦ (h y l).words x
      | inr g ↦ subst (λ (row : List ℕ). get_or row x 0 < 2 ^ 32) (sym (get_or_past vpm y [] (omega (arith, many, g)))) none-below
    ]

-- ---- zeros

abbrev zero_row : List ℕ
zero_row = replicate 16 0

zeros-vector : IsVector zero_row
zeros-vector = record { many = length-replicate {A = ℕ} 16 0; words = each }
  where
    each : (i : ℕ) → get_or zero_row i 0 < 2 ^ 32
    each i = elim (cases_lt i 16) [
      | inl l ↦ subst (λ n. n < 2 ^ 32) (sym (get_or-replicate 16 i 0 0 l)) none-below
      | inr g ↦ subst (λ n. n < 2 ^ 32) (sym (get_or_past zero_row i 0 (subst (λ n. n ≤ i) (sym (length-replicate {A = ℕ} 16 0)) g))) none-below
    ]

zero-file : (count : ℕ) → AreRegisters count (replicate count zeros)
zero-file count =
    record {
      many = length-replicate count zeros;
      each = λ x l. subst (λ (r : Lanes 16). IsVector r.words) (sym (get_or-replicate count x zeros (record { words = [] }) l)) zeros-vector;
    }

zero_regs-are : AreRegs zero_regs
unfolding zero_regs
zero_regs-are =
    record {
      a = zero-file 32;
      b = zero-file 32;
      acc = zero-file 4;
      five = zeros-vector;
      zero = length-replicate 16 false;
      neg = length-replicate 16 false;
    }

zero-vpm : IsVpm (replicate 64 zero_row)
zero-vpm =
    vpm-of (replicate 64 zero_row) (length-replicate 64 zero_row)
    (λ y l. subst IsVector (sym (get_or-replicate 64 y zero_row [] l)) zeros-vector)

-- ---- numbers of a seed

drawn-vector : (seed n : ℕ) → IsVector (drawn_lanes seed n).words
drawn-vector seed n = vector-of (λ i. draw seed (n + i)) (λ i _. draw-below seed (n + i))

drawn_file-is : (seed n count : ℕ) → AreRegisters count (drawn_file seed n count)
drawn_file-is seed n count =
    record {
      many = length-map-range_with_len (λ r. drawn_lanes seed (n + 16 * r)) 0 count;
      each = λ x l. subst (λ (r : Lanes 16). IsVector r.words)
          (sym (get_or-map-range_with_len (λ r. drawn_lanes seed (n + 16 * r)) 0 count x x (record { words = [] }) l (omega arith)))
          (drawn-vector seed (n + 16 * x));
    }

flags-many : (word : ℕ) → length (flags_in word) ≡ 16
flags-many word = length-lanes 16 (λ i. word / 2 ^ i % 2 == 1)

drawn_regs-are : (seed n : ℕ) → AreRegs (drawn_regs seed n)
unfolding drawn_regs
drawn_regs-are seed n =
    record {
      a = drawn_file-is seed n 32;
      b = drawn_file-is seed (n + 512) 32;
      acc = drawn_file-is seed (n + 1024) 4;
      five = drawn-vector seed (n + 1088);
      zero = flags-many (draw seed (n + 1104));
      neg = flags-many (draw seed (n + 1105));
    }

drawn-row : (seed n y : ℕ) → IsVector (lanes 16 (λ i. draw seed (n + 16 * y + i)))
drawn-row seed n y = vector-of (λ i. draw seed (n + 16 * y + i)) (λ i _. draw-below seed (n + 16 * y + i))

drawn_vpm-is : (seed n : ℕ) → IsVpm (drawn_vpm seed n)
unfolding drawn_vpm
drawn_vpm-is seed n =
    vpm-of (map (λ y. lanes 16 (λ i. draw seed (n + 16 * y + i))) (range_with_len 0 64))
    (length-map-range_with_len (λ y. lanes 16 (λ i. draw seed (n + 16 * y + i))) 0 64)
    (λ y l. subst IsVector (sym (get_or-map-range_with_len (λ y. lanes 16 (λ i. draw seed (n + 16 * y + i))) 0 64 y y [] l (omega arith))) (drawn-row seed n y))

-- ---- both fills

pub fill_in_range : FillInRange
fill_in_range Zero qpus = record { many = length-replicate qpus zero_regs; regs = each-copy AreRegs qpus zero_regs zero_regs-are; vpm = zero-vpm }
fill_in_range (Seed seed) qpus =
    record {
      many = length-map-range_with_len (λ k. drawn_regs seed (numbers_each * k)) 0 qpus;
      regs = each-value AreRegs (λ k. drawn_regs seed (numbers_each * k)) (λ k. drawn_regs-are seed (numbers_each * k)) 0 qpus;
      vpm = drawn_vpm-is seed (numbers_each * qpus);
    }
