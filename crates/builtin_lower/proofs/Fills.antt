-- The arguments of a built-in function, read in its type.
use Rattle.std.proofs.Common.{◌≡◌, ℕ, zero, suc, ◌^◌, ◌<◌, ◌≤◌, Bool, true, false, List, [], ◌∷◌, ◌++◌, refl, sym, ap, ◌∙◌, arith, get_or, length}
use Rattle.std.specs.Prelude.{nat_lt, map}
use Rattle.std.proofs.lemmas.Bool.{ltb-true, ltb-false}
use Rattle.q_lane.specs.declared.kinds.Scalar.{Scalar}
use Rattle.q_lane.specs.declared.kinds.Scalar.TheVariants.{Char, Uchar, Short, Ushort, Int, Uint}
use Rattle.q_lane.specs.Numbers.{narrowed}
use Rattle.q_functions.specs.NumberFunctions.{argument}
use Rattle.item_ir.specs.declared.form.Val.{Val}
use Rattle.lane_ir.specs.LaneMeaning.{World}
use Rattle.item_ir.specs.Memory.{with_at}
use Rattle.lane_ir.specs.Recipe.{no_val, after, gives}
use Rattle.lane_ir.specs.declared.recipe.Source.TheVariants.{Argument}
use Rattle.lane_ir.specs.declared.recipe.Step.{Step}
use Rattle.builtin_lower.specs.Lower.{narrow_into, filled}
use Rattle.builtin_lower.proofs.Narrows.{char_word, uchar_word, short_word, ushort_word, whole_word}

pub after-append : (w : World) (l : ℕ) (x y : ℕ → ℕ) (a b : List Step) → after w l x y (a ++ b) ≡ after w l x (after w l x y a) b
after-append w l x y [] b = refl
after-append w l x y (s ∷ a) b = after-append w l x (with_at y s.to (gives w l x y s.act)) a b

narrowed-zero : (t : Scalar) → narrowed t 0 ≡ 0
unfolding narrowed
narrowed-zero Char = refl
narrowed-zero Uchar = refl
narrowed-zero Short = refl
narrowed-zero Ushort = refl
narrowed-zero Int = refl
narrowed-zero Uint = refl

-- an element of a mapped list, and none past its end
mapped-in : (f : Val → ℕ) (args : List Val) (i : ℕ) → i < length args → get_or (map f args) i 0 ≡ f (get_or args i no_val)
mapped-in f [] i h = absurd (omega (arith, h))
mapped-in f (a ∷ rest) zero h = refl
mapped-in f (a ∷ rest) (suc i) h = mapped-in f rest i (omega (arith, h))

mapped-past : (f : Val → ℕ) (args : List Val) (i : ℕ) → length args ≤ i → get_or (map f args) i 0 ≡ 0
mapped-past f [] i h = refl
mapped-past f (a ∷ rest) zero h = absurd (omega (arith, h))
mapped-past f (a ∷ rest) (suc i) h = mapped-past f rest i (omega (arith, h))

module _ (w : World) (l : ℕ) (f : Val → ℕ) (args : List Val) (t : Scalar) (words : (i : ℕ) → f (get_or args i no_val) < 2 ^ 32) where
  abbrev xs : ℕ → ℕ
  xs i = f (get_or args i no_val)

  pub narrowed-0 : (u : Scalar) (y : ℕ → ℕ) → (after w l xs y (narrow_into u 0 (Argument 0)) 0 ≡ narrowed u (xs 0)) × (after w l xs y (narrow_into u 0 (Argument 0)) 1 ≡ y 1) × (after w l xs y (narrow_into u 0 (Argument 0)) 2 ≡ y 2)
  narrowed-0 Char y = (char_word (xs 0), refl, refl)
  narrowed-0 Uchar y = (uchar_word (xs 0), refl, refl)
  narrowed-0 Short y = (short_word (xs 0), refl, refl)
  narrowed-0 Ushort y = (ushort_word (xs 0), refl, refl)
  narrowed-0 Int y = ((whole_word (xs 0) (words 0)).0, refl, refl)
  narrowed-0 Uint y = ((whole_word (xs 0) (words 0)).1, refl, refl)

  pub filled-0 : (y : ℕ → ℕ) (b : Bool) → nat_lt 0 (length args) ≡ b → (after w l xs y (filled t (length args) 0) 0 ≡ argument t (map f args) 0) × (after w l xs y (filled t (length args) 0) 1 ≡ y 1) × (after w l xs y (filled t (length args) 0) 2 ≡ y 2)
  filled-0 y true e =
      let r = narrowed-0 t y in
      rw e (r.0 ∙ ap (narrowed t) (sym (mapped-in f args 0 (ltb-true 0 (length args) e))), r.1, r.2)
  filled-0 y false e = rw e (sym (ap (narrowed t) (mapped-past f args 0 (ltb-false 0 (length args) e)) ∙ narrowed-zero t), refl, refl)

  pub narrowed-1 : (u : Scalar) (y : ℕ → ℕ) → (after w l xs y (narrow_into u 1 (Argument 1)) 1 ≡ narrowed u (xs 1)) × (after w l xs y (narrow_into u 1 (Argument 1)) 0 ≡ y 0) × (after w l xs y (narrow_into u 1 (Argument 1)) 2 ≡ y 2)
  narrowed-1 Char y = (char_word (xs 1), refl, refl)
  narrowed-1 Uchar y = (uchar_word (xs 1), refl, refl)
  narrowed-1 Short y = (short_word (xs 1), refl, refl)
  narrowed-1 Ushort y = (ushort_word (xs 1), refl, refl)
  narrowed-1 Int y = ((whole_word (xs 1) (words 1)).0, refl, refl)
  narrowed-1 Uint y = ((whole_word (xs 1) (words 1)).1, refl, refl)

  pub filled-1 : (y : ℕ → ℕ) (b : Bool) → nat_lt 1 (length args) ≡ b → (after w l xs y (filled t (length args) 1) 1 ≡ argument t (map f args) 1) × (after w l xs y (filled t (length args) 1) 0 ≡ y 0) × (after w l xs y (filled t (length args) 1) 2 ≡ y 2)
  filled-1 y true e =
      let r = narrowed-1 t y in
      rw e (r.0 ∙ ap (narrowed t) (sym (mapped-in f args 1 (ltb-true 1 (length args) e))), r.1, r.2)
  filled-1 y false e = rw e (sym (ap (narrowed t) (mapped-past f args 1 (ltb-false 1 (length args) e)) ∙ narrowed-zero t), refl, refl)

  pub narrowed-2 : (u : Scalar) (y : ℕ → ℕ) → (after w l xs y (narrow_into u 2 (Argument 2)) 2 ≡ narrowed u (xs 2)) × (after w l xs y (narrow_into u 2 (Argument 2)) 0 ≡ y 0) × (after w l xs y (narrow_into u 2 (Argument 2)) 1 ≡ y 1)
  narrowed-2 Char y = (char_word (xs 2), refl, refl)
  narrowed-2 Uchar y = (uchar_word (xs 2), refl, refl)
  narrowed-2 Short y = (short_word (xs 2), refl, refl)
  narrowed-2 Ushort y = (ushort_word (xs 2), refl, refl)
  narrowed-2 Int y = ((whole_word (xs 2) (words 2)).0, refl, refl)
  narrowed-2 Uint y = ((whole_word (xs 2) (words 2)).1, refl, refl)

  pub filled-2 : (y : ℕ → ℕ) (b : Bool) → nat_lt 2 (length args) ≡ b → (after w l xs y (filled t (length args) 2) 2 ≡ argument t (map f args) 2) × (after w l xs y (filled t (length args) 2) 0 ≡ y 0) × (after w l xs y (filled t (length args) 2) 1 ≡ y 1)
  filled-2 y true e =
      let r = narrowed-2 t y in
      rw e (r.0 ∙ ap (narrowed t) (sym (mapped-in f args 2 (ltb-true 2 (length args) e))), r.1, r.2)
  filled-2 y false e = rw e (sym (ap (narrowed t) (mapped-past f args 2 (ltb-false 2 (length args) e)) ∙ narrowed-zero t), refl, refl)

  pub all_filled : (y : ℕ → ℕ) (rest : List Step) → (z : ℕ → ℕ) × (after w l xs y (filled t (length args) 0 ++ (filled t (length args) 1 ++ (filled t (length args) 2 ++ rest))) ≡ after w l xs z rest)
      × (z 0 ≡ argument t (map f args) 0) × (z 1 ≡ argument t (map f args) 1) × (z 2 ≡ argument t (map f args) 2)
  all_filled y rest =
      let n = length args in
      let y0 = after w l xs y (filled t n 0) in
      let y1 = after w l xs y0 (filled t n 1) in
      let y2 = after w l xs y1 (filled t n 2) in
      let a = filled-0 y (nat_lt 0 n) refl in
      let b = filled-1 y0 (nat_lt 1 n) refl in
      let c = filled-2 y1 (nat_lt 2 n) refl in (
        y2,
        after-append w l xs y (filled t n 0) (filled t n 1 ++ (filled t n 2 ++ rest)) ∙ after-append w l xs y0 (filled t n 1) (filled t n 2 ++ rest) ∙ after-append w l xs y1 (filled t n 2) rest,
        c.1 ∙ b.1 ∙ a.0,
        c.2 ∙ b.0,
        c.0,
      )
