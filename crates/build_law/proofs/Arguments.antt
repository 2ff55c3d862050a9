-- The words of a launch's arguments are the values of the parameters.
use Rattle.std.proofs.Common.{◌≡◌, ℕ, zero, suc, ◌+◌, ◌-◌, ◌%◌, ◌^◌, ◌<◌, ◌≤◌, ℤ, pos, negsuc, ◌≤ℤ◌, List, [], ◌∷◌, take, map, get_or, slice_get, IfSome, sym, ap, ◌∙◌, arith, lt-ltb, le-ltb}
use Rattle.std.specs.Prelude.{slice_index_or, if◌then◌else◌}
use Rattle.std.proofs.lemmas.Int.{ints}
use Rattle.q_lane.specs.declared.kinds.Scalar.{Scalar}
use Rattle.q_lane.specs.declared.kinds.Scalar.TheVariants.{Char, Uchar, Short, Ushort, Int, Uint}
use Rattle.q_lane.specs.Numbers.{word_of, extended, narrowed}
use Rattle.launch_file.specs.declared.launch.Arg.{Arg}
use Rattle.launch_file.specs.declared.launch.Arg.TheVariants as arg
use Rattle.launch_file.specs.declared.places.Region2.{Region2}
use Rattle.launch_file.specs.Fit.{least, greatest}
use Rattle.launch_file.specs.Laws.{Suits}
use Rattle.launch_file.specs.Uniforms.{address, arg_word}
use Rattle.clc_types.specs.declared.typed.Var.{Var}
use Rattle.clc_types.specs.declared.typed.Var.TheVariants as var
use Rattle.item_meaning.specs.declared.values.Value.TheVariants.{Null}
use Rattle.item_meaning.specs.Operators.{converted}
use Rattle.item_meaning.specs.StatementMeanings.{type_of}
use Rattle.item_meaning.specs.ItemMeaning.{as_params, value_of_arg}
use Rattle.ir_build.specs.Build.{kind_of}
use Rattle.build_law.specs.Keeps.{Same}

-- ---- a number in the range of its type

no_more : (n m : ℕ) → pos n ≤ℤ pos m → n ≤ m
no_more n m h = grind (arith, ints)

no_less : (n m : ℕ) → negsuc m ≤ℤ negsuc n → n ≤ m
no_less n m h = grind (arith, ints)

not_below : (n : ℕ) → pos 0 ≤ℤ negsuc n → ⊥
not_below n h = grind (arith, ints)

low_stays : (w low : ℕ) → low < 2 ^ (w - 1) → extended w low ≡ low
low_stays w low h = ap (λ b. if b then low else low + (2 ^ 32 - 2 ^ w)) (lt-ltb low (2 ^ (w - 1)) h)

high_grows : (w low : ℕ) → 2 ^ (w - 1) ≤ low → extended w low ≡ low + (2 ^ 32 - 2 ^ w)
high_grows w low h = ap (λ b. if b then low else low + (2 ^ 32 - 2 ^ w)) (le-ltb low (2 ^ (w - 1)) h)

from_zero : (t : Scalar) (n : ℕ) → pos n ≤ℤ greatest t → n % 2 ^ 32 ≡ narrowed t (n % 2 ^ 32)
unfolding narrowed
from_zero Char n h =
    let l = no_more n 127 h in
    let e : n % 2 ^ 32 % 2 ^ 8 ≡ n % 2 ^ 32 = omega (arith, l) in
    sym (low_stays 8 (n % 2 ^ 32 % 2 ^ 8) (omega (arith, l)) ∙ e)
from_zero Uchar n h = let l = no_more n 255 h in omega (arith, l)
from_zero Short n h =
    let l = no_more n 32767 h in
    let e : n % 2 ^ 32 % 2 ^ 16 ≡ n % 2 ^ 32 = omega (arith, l) in
    sym (low_stays 16 (n % 2 ^ 32 % 2 ^ 16) (omega (arith, l)) ∙ e)
from_zero Ushort n h = let l = no_more n 65535 h in omega (arith, l)
from_zero Int n h = let l = no_more n 2147483647 h in omega (arith, l)
from_zero Uint n h = let l = no_more n 4294967295 h in omega (arith, l)

below_zero : (t : Scalar) (n : ℕ) → least t ≤ℤ negsuc n → 2 ^ 32 - 1 - n % 2 ^ 32 ≡ narrowed t (2 ^ 32 - 1 - n % 2 ^ 32)
unfolding narrowed
below_zero Char n h =
    let l = no_less n 127 h in
    let e : (2 ^ 32 - 1 - n % 2 ^ 32) % 2 ^ 8 + (2 ^ 32 - 2 ^ 8) ≡ 2 ^ 32 - 1 - n % 2 ^ 32 = omega (arith, l) in
    sym (high_grows 8 ((2 ^ 32 - 1 - n % 2 ^ 32) % 2 ^ 8) (omega (arith, l)) ∙ e)
below_zero Uchar n h = absurd (not_below n h)
below_zero Short n h =
    let l = no_less n 32767 h in
    let e : (2 ^ 32 - 1 - n % 2 ^ 32) % 2 ^ 16 + (2 ^ 32 - 2 ^ 16) ≡ 2 ^ 32 - 1 - n % 2 ^ 32 = omega (arith, l) in
    sym (high_grows 16 ((2 ^ 32 - 1 - n % 2 ^ 32) % 2 ^ 16) (omega (arith, l)) ∙ e)
below_zero Ushort n h = absurd (not_below n h)
below_zero Int n h = let l = no_less n 2147483647 h in omega (arith, l)
below_zero Uint n h = absurd (not_below n h)

in_range : (t : Scalar) (z : ℤ) → least t ≤ℤ z → z ≤ℤ greatest t → word_of z ≡ narrowed t (word_of z)
in_range t (pos n) l h = from_zero t n h
in_range t (negsuc n) l h = below_zero t n l

-- ---- the parameters

module _ (places : List Region2) (begun : (k : ℕ) → address places k < 2 ^ 32) where
  argument_same : (p : Var) (a : Arg) → Suits a (kind_of p) → Same (address places) (converted (type_of p) (value_of_arg a)) (arg_word places a)
  unfolding arg_word
  argument_same (var.Value s) (arg.Value z) h = in_range s z h.0 h.1
  argument_same (var.Value s) (arg.Buffer k) h = tt
  argument_same (var.Pointer e c) (arg.Value z) h = tt
  argument_same (var.Pointer e c) (arg.Buffer k) h = let b = begun k in omega (arith, b)
  argument_same (var.Array e n) (arg.Value z) h = tt
  argument_same (var.Array e n) (arg.Buffer k) h = tt

  pub arguments_same : (vars : List Var) (params : ℕ) (args : List Arg) → ((i : ℕ) → IfSome (slice_get args i) (λ a. IfSome (slice_get (map kind_of (take params vars)) i) (Suits a)))
      → (u : ℕ) → Same (address places) (slice_index_or (as_params (take params vars) (map value_of_arg args)) u Null) (get_or (map (arg_word places) args) u 0)
  arguments_same vars zero args h u = tt
  arguments_same [] (suc c) args h u = tt
  arguments_same (p ∷ vars) (suc c) [] h u = tt
  arguments_same (p ∷ vars) (suc c) (a ∷ args) h zero = argument_same p a (h zero)
  arguments_same (p ∷ vars) (suc c) (a ∷ args) h (suc u) = arguments_same vars c args (λ i. h (suc i)) u
