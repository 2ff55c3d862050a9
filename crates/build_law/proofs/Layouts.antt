-- The buffers of a valid launch lie apart.
use Rattle.std.proofs.Common.{◌≡◌, ℕ, zero, suc, ◌+◌, ◌%◌, ◌^◌, ◌<◌, ◌≤◌, ◌⊎◌, inl, inr, List, [], ◌∷◌, ◌++◌, length, get_or, true, false, refl, sym, subst, arith, length-append}
use Rattle.std.specs.Prelude.{nat_le}
use Rattle.std.proofs.lemmas.Bool.Decides.{leb_tells}
use Rattle.launch_file.specs.declared.places.Region2.{Region2}
use Rattle.launch_file.specs.Launches.{LaunchOf}
use Rattle.launch_file.specs.Layout.{PlacesOf, layout_of}
use Rattle.launch_file.specs.Laws.{ArePlaced}
use Rattle.launch_file.specs.Uniforms.{no_region, address}
use Rattle.launch_file.proofs.LayoutLaws.{layout_is_good}
use Rattle.build_law.specs.Launched.{AreApart, len_at, BuffersLieApart}

in_front : (xs ys : List Region2) (k : ℕ) → k < length xs → get_or (xs ++ ys) k no_region ≡ get_or xs k no_region
in_front [] ys k h = absurd (omega (arith, h))
in_front (x ∷ xs) ys zero h = refl
in_front (x ∷ xs) ys (suc k) h = in_front xs ys k (omega (arith, h))

past_all : (xs : List Region2) (k : ℕ) → length xs ≤ k → get_or xs k no_region ≡ no_region
past_all [] k h = refl
past_all (x ∷ xs) zero h = absurd (omega (arith, h))
past_all (x ∷ xs) (suc k) h = past_all xs k (omega (arith, h))

-- one of the buffers, or none
there_or_none : (xs : List Region2) (k : ℕ) → (k < length xs) ⊎ (get_or xs k no_region ≡ no_region)
there_or_none xs k = by (leb_tells (length xs) k)
  where
    by : ((nat_le (length xs) k ≡ true) × (length xs ≤ k)) ⊎ ((nat_le (length xs) k ≡ false) × (k < length xs)) → (k < length xs) ⊎ (get_or xs k no_region ≡ no_region)
    by (inl (a, b)) = inr (past_all xs k b)
    by (inr (a, b)) = inl b

module _ (launch : LaunchOf) (rows : ℕ) (places : PlacesOf) (p : ArePlaced launch rows places) where
  -- what is said of each region, of the buffers
  of_each : (P : Region2 → Type 0) → ((k : ℕ) (d : Region2) → k < length (places.buffers ++ places.scratch) → P (get_or (places.buffers ++ places.scratch) k d)) → P no_region → (k : ℕ) → P (get_or places.buffers k no_region)
  of_each P all none k = by (there_or_none places.buffers k)
    where
      by : (k < length places.buffers) ⊎ (get_or places.buffers k no_region ≡ no_region) → P (get_or places.buffers k no_region)
      by (inl h) = subst P (in_front places.buffers places.scratch k h) (all k no_region (let e = length-append places.buffers places.scratch in omega (arith, h, e)))
      by (inr e) = subst P (sym e) none

  behind : (k l : ℕ) → k < l → l < length places.buffers → address places.buffers k + len_at places.buffers k + 64 ≤ address places.buffers l
  behind k l lt h =
      let e = length-append places.buffers places.scratch in
      subst (λ x. x.start + x.len + 64 ≤ address places.buffers l) (in_front places.buffers places.scratch k (omega (arith, lt, h)))
      (subst (λ x. (get_or (places.buffers ++ places.scratch) k no_region).start + (get_or (places.buffers ++ places.scratch) k no_region).len + 64 ≤ x.start) (in_front places.buffers places.scratch l h)
      (p.apart k l no_region lt (omega (arith, h, e))))

  there : (k i : ℕ) → i < len_at places.buffers k → k < length places.buffers
  there k i h = by (there_or_none places.buffers k)
    where
      by : (k < length places.buffers) ⊎ (get_or places.buffers k no_region ≡ no_region) → k < length places.buffers
      by (inl t) = t
      by (inr e) = absurd (let z : i < 0 = subst (λ x. i < x.len) e h in omega (arith, z))

  same_buffer : (k l i j : ℕ) → i < len_at places.buffers k → j < len_at places.buffers l → address places.buffers k + i ≡ address places.buffers l + j → k ≡ l
  same_buffer k l i j hi hj e = by (leb_tells (suc k) l) (leb_tells (suc l) k)
    where
      by : ((nat_le (suc k) l ≡ true) × (suc k ≤ l)) ⊎ ((nat_le (suc k) l ≡ false) × (l < suc k)) → ((nat_le (suc l) k ≡ true) × (suc l ≤ k)) ⊎ ((nat_le (suc l) k ≡ false) × (k < suc l)) → k ≡ l
      by (inl (a, b)) y = absurd (let z = behind k l b (there l j hj) in omega (arith, z, hi, hj, e))
      by (inr (a, b)) (inl (c, d)) = absurd (let z = behind l k d (there k i hi) in omega (arith, z, hi, hj, e))
      by (inr (a, b)) (inr (c, d)) = omega (arith, b, d)

  apart_of : AreApart places.buffers
  apart_of =
      record {
        aligned = of_each (λ x. x.start % 4 ≡ 0) (λ k d h. let a = p.aligned k d h in omega (arith, a)) refl;
        begun = of_each (λ x. x.start < 2 ^ 32) (λ k d h. let a = p.inside k d h in let b = p.small in omega (arith, a, b)) (omega arith);
        below = of_each (λ x. x.start + x.len ≤ 2 ^ 32) (λ k d h. let a = p.inside k d h in let b = p.small in omega (arith, a, b)) (omega arith);
        apart = same_buffer;
      }

pub lie_apart : BuffersLieApart
lie_apart launch places valid are =
    subst (λ q. AreApart q.buffers) (sym are.2) (apart_of launch are.0 (layout_of launch are.0) (layout_is_good launch are.0 valid are.1))
