-- Sizes of at most 65,536.
use Rattle.std.proofs.Common.{◌≡◌, ℕ, ◌≤◌, Bool, true, false, List, [], ◌∷◌, refl, arith}
use Rattle.std.specs.Prelude.{nat_le, not, ◌&&◌, ◌||◌}
use Rattle.std.specs.List.{list_any}
use Rattle.std.proofs.lemmas.Bool.{leb-true}
use Rattle.launch_file.specs.Rules.{is_bad_size}
use Rattle.launch_file.specs.HeadReading.{AreGood}

good_size : (a b : Bool) → not (a && b) ≡ false → (a ≡ true) × (b ≡ true)
good_size true true e = (refl, refl)
good_size true false e = absurd (cc)
good_size false b e = absurd (cc)

neither : (a b : Bool) → (a || b) ≡ false → (a ≡ false) × (b ≡ false)
neither true b e = absurd (cc)
neither false b e = (refl, e)

pub good : (x : ℕ) → is_bad_size x ≡ false → (1 ≤ x) × (x ≤ 65536)
good x e = let b = good_size _ _ e in (leb-true 1 x b.0, leb-true x 65536 b.1)

pub good_one : (x : ℕ) → AreGood (x ∷ []) → (1 ≤ x) × (x ≤ 65536)
good_one x e = good x (neither _ _ e).0

pub good_two : (x y : ℕ) → AreGood (x ∷ y ∷ []) → (1 ≤ x) × (x ≤ 65536) × (1 ≤ y) × (y ≤ 65536)
good_two x y e = let a = neither _ _ e in let b = good x a.0 in let d = good_one y a.1 in (b.0, b.1, d.0, d.1)

pub good_three : (x y z : ℕ) → AreGood (x ∷ y ∷ z ∷ []) → (1 ≤ x) × (x ≤ 65536) × (1 ≤ y) × (y ≤ 65536) × (1 ≤ z) × (z ≤ 65536)
good_three x y z e = let a = neither _ _ e in let b = good x a.0 in let d = good_two y z a.1 in (b.0, b.1, d.0, d.1, d.2, d.3)
