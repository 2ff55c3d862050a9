-- Bytes of an access.
use Rattle.std.proofs.Common.{◌≡◌, ℕ, zero, suc, ◌+◌, ◌*◌, ◌/◌, ◌%◌, ◌^◌, ◌<◌, ◌≤◌, ◌⊎◌, inl, inr, true, List, ◌∷◌, refl, sym, ap, ◌∙◌, arith}
use Rattle.std.specs.Prelude.{if◌then◌else◌, nat_lt, nat_le, ◌==◌, ◌&&◌, ◌||◌}
use Rattle.std.proofs.lemmas.Bool.{lt-ltb, le-leb, cases_eq, and_parts, leb-true, ltb-true, eq-eqb, ne_eqb}
use Rattle.q_lane.specs.declared.kinds.Scalar.{Scalar}
use Rattle.q_lane.specs.Numbers.{narrowed}
use Rattle.q_functions.specs.NumberFunctions.{bytes_of}
use Rattle.item_ir.specs.Memory.{with_at, bytes_at, with_bytes, element_at}
use Rattle.item_ir.specs.IrMeaning.{Touch as Access}
use Rattle.lane_ir.specs.LaneMeaning.{Touch}
use Rattle.lane_ir.proofs.Steps.{with_at-other}
use Rattle.mask_law.specs.Lanes.{in_access, touches, lane_log, as_how}

-- ---- what is read

bytes_same : (m o : ℕ → ℕ) (n a : ℕ) → ((c : ℕ) → a ≤ c → c < a + n → m c ≡ o c) → bytes_at m n a ≡ bytes_at o n a
bytes_same m o zero a h = refl
bytes_same m o (suc n) a h =
    ap (λ z. z + 2 ^ 8 * bytes_at m n (suc a)) (h a (omega arith) (omega arith)) ∙ ap (λ z. o a + 2 ^ 8 * z) (bytes_same m o n (suc a) (λ c lo hi. h c (omega (arith, lo)) (omega (arith, hi))))

pub element_same : (m o : ℕ → ℕ) (t : Scalar) (a : ℕ) → ((c : ℕ) → a ≤ c → c < a + bytes_of t → m c ≡ o c) → element_at m t a ≡ element_at o t a
element_same m o t a h = ap (narrowed t) (bytes_same m o (bytes_of t) a h)

-- ---- what is written

with_at_here : (m o : ℕ → ℕ) (a v c : ℕ) → m c ≡ o c → with_at m a v c ≡ with_at o a v c
with_at_here m o a v c h = ap (λ z. if c == a then v else z) h

pub bytes_here : (n : ℕ) (m o : ℕ → ℕ) (a x c : ℕ) → m c ≡ o c → with_bytes m n a x c ≡ with_bytes o n a x c
bytes_here zero m o a x c h = h
bytes_here (suc n) m o a x c h = bytes_here n (with_at m a (x % 2 ^ 8)) (with_at o a (x % 2 ^ 8)) (suc a) (x / 2 ^ 8) c (with_at_here m o a (x % 2 ^ 8) c h)

-- an access has this byte
pub has_byte : (a n c : ℕ) → a ≤ c → c < a + n → (nat_le a c && nat_lt c (a + n)) ≡ true
has_byte a n c lo hi = ap (λ z. z && nat_lt c (a + n)) (le-leb a c lo) ∙ lt-ltb c (a + n) hi

-- a byte of the access, or one that stays
pub within_or_stays : (n : ℕ) (m : ℕ → ℕ) (a x c : ℕ) → ((nat_le a c && nat_lt c (a + n)) ≡ true) ⊎ (with_bytes m n a x c ≡ m c)
within_or_stays zero m a x c = inr refl
within_or_stays (suc n) m a x c =
    elim (cases_eq c a) [
      | inl q ↦ inl (has_byte a (suc n) c (omega (arith, q)) (omega (arith, q)))
      | inr ne ↦
          elim (within_or_stays n (with_at m a (x % 2 ^ 8)) (suc a) (x / 2 ^ 8) c) [
            | inl w ↦ inl (wider w)
            | inr s ↦ inr (s ∙ with_at-other m a (x % 2 ^ 8) c ne)
          ]
    ]
  where
    wider : (nat_le (suc a) c && nat_lt c (suc a + n)) ≡ true → (nat_le a c && nat_lt c (a + suc n)) ≡ true
    wider w = let p = and_parts (nat_le (suc a) c) (nat_lt c (suc a + n)) w in has_byte a (suc n) c (let q = leb-true (suc a) c p.0 in omega (arith, q)) (let q = ltb-true c (suc a + n) p.1 in omega (arith, q))

-- ---- the accesses of a lane

pub first_touches : (x : Access) (l : List Access) (c : ℕ) → in_access x c ≡ true → touches (x ∷ l) c ≡ true
first_touches x l c h = ap (λ z. z || touches l c) h

pub own_log : (y : Touch) (l : List Touch) (m : ℕ) → y.lane ≡ m → lane_log m (y ∷ l) ≡ record { how = as_how y.writes; address = y.address; len = y.len } ∷ lane_log m l
own_log y l m h = ap (λ z. if z then record { how = as_how y.writes; address = y.address; len = y.len } ∷ lane_log m l else lane_log m l) (eq-eqb y.lane m h)

pub other_log : (y : Touch) (l : List Touch) (m : ℕ) → (m ≡ y.lane → ⊥) → lane_log m (y ∷ l) ≡ lane_log m l
other_log y l m h = ap (λ z. if z then record { how = as_how y.writes; address = y.address; len = y.len } ∷ lane_log m l else lane_log m l) (ne_eqb y.lane m (λ q. h (sym q)))
