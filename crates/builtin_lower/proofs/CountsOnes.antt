-- The ones of a word: the word less all its halvings.
use Rattle.std.proofs.Common.{◌≡◌, ℕ, zero, suc, ◌+◌, ◌*◌, ◌-◌, ◌/◌, ◌%◌, ◌^◌, ◌<◌, ◌≤◌, refl, sym, ap, ◌∙◌, arith}
use Rattle.std.specs.Prelude.{count_ones}
use lib.Count.{ones}
use Rattle.std.proofs.lemmas.Nat.{ones_cat}
use Rattle.std.proofs.Math.Nat.{pow-suc}
use Rattle.q_lane.specs.declared.operations.BinOp.TheVariants as op
use Rattle.q_lane.specs.Numbers.{applied}
use Rattle.lane_ir.specs.LaneMeaning.{World}
use Rattle.lane_ir.specs.Recipe.{after}
use Rattle.item_ir.specs.Memory.{with_at}
use Rattle.builtin_lower.specs.Lower.{halvings}

ones-bit : (b : ℕ) → b < 2 → count_ones b ≡ b
unfolding ones
ones-bit zero h = refl
ones-bit (suc zero) h = refl
ones-bit (suc (suc b)) h = absurd (omega (arith, h))

ones-step : (x : ℕ) → count_ones x ≡ count_ones (x / 2) + x % 2
ones-step x = ap count_ones split ∙ ones_cat 1 (x / 2) (x % 2) (omega arith) ∙ ap (λ z. count_ones (x / 2) + z) (ones-bit (x % 2) (omega arith))
  where
    split : x ≡ x / 2 * 2 ^ 1 + x % 2
    split = omega arith

half-is : (a one : ℕ) → one ≡ 1 → applied op.Shr a one ≡ a / 2
unfolding applied
half-is a one e = ap (λ z. a / 2 ^ (z % 32)) e ∙ omega arith

sub-is : (a b : ℕ) → b ≤ a → a < 2 ^ 32 → applied op.Sub a b ≡ a - b
unfolding applied
sub-is a b h g = omega (arith, h, g)

half-few : (t n : ℕ) → t < 2 ^ suc (suc n) → t / 2 < 2 ^ suc n
half-few t n h = let e : 2 ^ suc (suc n) ≡ 2 ^ suc n * 2 = pow-suc 2 (suc n) in omega (arith, e, h)

-- t is halved n times and each half is taken from s
pub halved : (w : World) (l n : ℕ) (x y : ℕ → ℕ) → y 6 ≡ 1 → y 4 < 2 ^ suc n → y 4 ≤ y 5 → y 5 < 2 ^ 32 → after w l x y (halvings n) 5 + y 4 ≡ y 5 + count_ones (y 4)
halved w l zero x y one few le small = ap (λ z. y 5 + z) (sym (ones-bit (y 4) (omega (arith, few))))
halved w l (suc n) x y one few le small =
    let t = applied op.Shr (y 4) (y 6) in
    let s = applied op.Sub (y 5) t in
    let et : t ≡ y 4 / 2 = half-is (y 4) (y 6) one in
    let es : s ≡ y 5 - t = sub-is (y 5) t (omega (arith, et, le)) small in
    let few' : t < 2 ^ suc n = let z = half-few (y 4) n few in omega (arith, et, z) in
    let r = halved w l n x (with_at (with_at y 4 t) 5 s) one few' (omega (arith, et, es, le)) (omega (arith, es, small)) in
    let o : count_ones (y 4) ≡ count_ones t + y 4 % 2 = ones-step (y 4) ∙ ap (λ z. count_ones z + y 4 % 2) (sym et) in
    total (after w l x (with_at (with_at y 4 t) 5 s) (halvings n) 5) t s (y 4) (y 5) (count_ones t) (count_ones (y 4)) r et es o le
  where
    total : (r t s a b o p : ℕ) → r + t ≡ s + o → t ≡ a / 2 → s ≡ b - t → p ≡ o + a % 2 → a ≤ b → r + a ≡ b + p
    total r t s a b o p e f g h le = omega (arith, e, f, g, h, le)

-- the ones of a word
pub ones_by_halves : (w : World) (l : ℕ) (x y : ℕ → ℕ) (a : ℕ) → a < 2 ^ 32 → y 6 ≡ 1 → y 4 ≡ a → y 5 ≡ a → after w l x y (halvings 31) 5 ≡ count_ones a
ones_by_halves w l x y a h one e f =
    let r = halved w l 31 x y one (omega (arith, e, h)) (omega (arith, e, f)) (omega (arith, f, h)) in
    let o : count_ones (y 4) ≡ count_ones a = ap count_ones e in
    omega (arith, r, e, f, o)
