-- Compares and unsigned orders by the signed least and greatest.
use Rattle.std.proofs.Common.{◌≡◌, ℕ, zero, suc, ◌+◌, ◌-◌, ◌%◌, ◌^◌, ◌<◌, inl, inr, Bool, true, false, refl, sym, ap, ◌∙◌, arith}
use Rattle.std.specs.Prelude.{◌==◌, if◌then◌else◌}
use Rattle.std.proofs.lemmas.Bool.{le-ltb, eqb-true, eqb-false}
use Rattle.q_lane.specs.declared.operations.BinOp.TheVariants as op
use Rattle.q_lane.specs.Numbers.{applied, is_less, flag}
use Rattle.q_lane.proofs.WordLaws.{is_less-shifted}
use Rattle.lane_ir.specs.LaneMeaning.{chosen}
use Rattle.lane_ir.proofs.Steps.{bool_cases}

pub copied : (a : ℕ) → applied (op.Min true) a a ≡ a
unfolding applied
copied a = same (is_less true a a)
  where
    same : (b : Bool) → (if b then a else a) ≡ a
    same true = refl
    same false = refl

sub-same : (a : ℕ) → a < 2 ^ 32 → applied op.Sub a a ≡ 0
unfolding applied
sub-same a h = omega (arith, h)

sub-differs : (a b : ℕ) → a < 2 ^ 32 → b < 2 ^ 32 → (a ≡ b → ⊥) → (m : ℕ) × (applied op.Sub a b ≡ suc m)
unfolding applied
sub-differs a b h g ne = nonzero ((a + (2 ^ 32 - b)) % 2 ^ 32) (λ e. ne (omega (arith, h, g, e)))
  where
    nonzero : (x : ℕ) → (x ≡ 0 → ⊥) → (m : ℕ) × (x ≡ suc m)
    nonzero zero f = absurd (f refl)
    nonzero (suc m) f = (m, refl)

-- signed less isn't of equal words
less-not_same : (a : ℕ) → is_less false a a ≡ false
unfolding is_less
less-not_same a = le-ltb a a (omega arith)

shifted-same : (a b : ℕ) → a < 2 ^ 32 → is_less true a a ≡ false
shifted-same a b h = is_less-shifted a a h h ∙ less-not_same ((a + 2 ^ 31) % 2 ^ 32)

pub less_by_min : (a b : ℕ) → a < 2 ^ 32 → b < 2 ^ 32 → chosen (applied op.Sub (applied (op.Min true) a b) b) 1 0 ≡ applied (op.Less true) a b
unfolding applied
less_by_min a b h g = elim (bool_cases (is_less true a b)) [
  | inl e ↦
      let d = sub-differs a b h g (λ q. both (is_less true a b) e (ap (λ x. is_less true x b) q ∙ shifted-same b b g)) in
      ap (λ t. chosen (applied op.Sub (if t then a else b) b) 1 0) e ∙ ap (λ x. chosen x 1 0) d.1 ∙ sym (ap flag e)
  | inr e ↦ ap (λ t. chosen (applied op.Sub (if t then a else b) b) 1 0) e ∙ ap (λ x. chosen x 1 0) (sub-same b g) ∙ sym (ap flag e)
]
  where
    both : (t : Bool) → t ≡ true → t ≡ false → ⊥
    both t p q = cc

-- to add 2^31
abbrev pub flip : ℕ → ℕ
flip a = applied op.Add a 2147483648

flip-is : (a : ℕ) → flip a ≡ (a + 2 ^ 31) % 2 ^ 32
unfolding applied
flip-is a = refl

pub flip-below : (a : ℕ) → flip a < 2 ^ 32
unfolding applied
flip-below a = omega arith

pub flip-back : (a : ℕ) → a < 2 ^ 32 → flip (flip a) ≡ a
unfolding applied
flip-back a h = omega (arith, h)

pub less-flipped : (a b : ℕ) → a < 2 ^ 32 → b < 2 ^ 32 → is_less true (flip a) (flip b) ≡ is_less false a b
less-flipped a b h g =
    is_less-shifted (flip a) (flip b) (flip-below a) (flip-below b)
    ∙ (λ i. is_less false (sym (flip-is (flip a)) i) (sym (flip-is (flip b)) i)) ∙ (λ i. is_less false (flip-back a h i) (flip-back b g i))

pub less_by_flipped_min : (a b : ℕ) → a < 2 ^ 32 → b < 2 ^ 32 → chosen (applied op.Sub (applied (op.Min true) (flip a) (flip b)) (flip b)) 1 0 ≡ applied (op.Less false) a b
unfolding applied
less_by_flipped_min a b h g = less_by_min (flip a) (flip b) (flip-below a) (flip-below b) ∙ ap flag (less-flipped a b h g)

pub min_by_flipped : (a b : ℕ) → a < 2 ^ 32 → b < 2 ^ 32 → flip (applied (op.Min true) (flip a) (flip b)) ≡ applied (op.Min false) a b
unfolding applied
min_by_flipped a b h g = ap (λ t. flip (if t then flip a else flip b)) (less-flipped a b h g) ∙ pick (is_less false a b)
  where
    pick : (t : Bool) → flip (if t then flip a else flip b) ≡ (if t then a else b)
    pick true = flip-back a h
    pick false = flip-back b g

pub max_by_flipped : (a b : ℕ) → a < 2 ^ 32 → b < 2 ^ 32 → flip (applied (op.Max true) (flip a) (flip b)) ≡ applied (op.Max false) a b
unfolding applied
max_by_flipped a b h g = ap (λ t. flip (if t then flip b else flip a)) (less-flipped a b h g) ∙ pick (is_less false a b)
  where
    pick : (t : Bool) → flip (if t then flip b else flip a) ≡ (if t then b else a)
    pick true = flip-back b g
    pick false = flip-back a h

pub equal_by_sub : (a b : ℕ) → a < 2 ^ 32 → b < 2 ^ 32 → chosen (applied op.Sub a b) 0 1 ≡ applied op.Equal a b
unfolding applied
equal_by_sub a b h g = elim (bool_cases (a == b)) [
  | inl e ↦ ap (λ x. chosen (applied op.Sub x b) 0 1) (eqb-true a b e) ∙ ap (λ x. chosen x 0 1) (sub-same b g) ∙ sym (ap flag e)
  | inr e ↦ let d = sub-differs a b h g (eqb-false a b e) in ap (λ x. chosen x 0 1) d.1 ∙ sym (ap flag e)
]
