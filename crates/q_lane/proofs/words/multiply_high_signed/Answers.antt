use Rattle.std.proofs.Common.{rules, arith, ap, ◌∙◌, ◌≡◌, ◌/◌, ◌^◌, w32, w64, ℤ, ℕ, pos, negsuc, ◌≤◌, ◌<◌, lit<, refl}
use Rattle.std.specs.Prelude.{◌*ℤ◌, nat_abs}
use mir.Val.{of_z, to_z, SFits}
use lib.Signed.{mag}
use Rattle.std.proofs.lemmas.Int.{to_z-of_z, of_z-to_z, ints, fits_signed_mul}
use Rattle.q_lane.specs.Numbers.{word_of, shifted_down}
use Rattle.q_lane.proofs.words.multiply_high_signed.Goals as goal

-- the high half of the 64 bits of a number is its 2^32nd part mod 2^32
high_half : (p : ℤ) → mag p < 2 ^ 63 → of_z w64 p / 2 ^ 32 ≡ word_of (shifted_down p 32)
high_half (pos n) h = omega arith
high_half (negsuc n) h = omega arith

pub returns : goal.returns
returns c =
    let sa : SFits w64 c.from.result = search rules in
    let sb : SFits w64 c.from-2.result = search rules in
    let a : c.from.result ≡ to_z w32 c.args.a = c.from.ensures ∙ ap (to_z w32) (ap (of_z w32) c.cast_signed.ensures ∙ of_z-to_z w32 c.args.a (search rules)) in
    let b : c.from-2.result ≡ to_z w32 c.args.b = c.from-2.ensures ∙ ap (to_z w32) (ap (of_z w32) c.cast_signed-2.ensures ∙ of_z-to_z w32 c.args.b (search rules)) in
    let ba : nat_abs (to_z w32 c.args.a) ≤ 2 ^ 31 = omega (arith, ints) in
    let bb : nat_abs (to_z w32 c.args.b) ≤ 2 ^ 31 = omega (arith, ints) in
    let sp : SFits w64 (to_z w32 c.args.a *ℤ to_z w32 c.args.b) = fits_signed_mul w64 (to_z w32 c.args.a) (to_z w32 c.args.b) (2 ^ 31) (2 ^ 31) ba bb (lit< tt) in
    let u : c.cast_unsigned.result ≡ of_z w64 (to_z w32 c.args.a *ℤ to_z w32 c.args.b) =
    c.cast_unsigned.ensures ∙ rw (to_z-of_z w64 c.from.result sa, to_z-of_z w64 c.from-2.result sb, a, b, to_z-of_z w64 (to_z w32 c.args.a *ℤ to_z w32 c.args.b) sp) refl in
    ap (λ (n : ℕ). n / 2 ^ 32) u ∙ high_half (to_z w32 c.args.a *ℤ to_z w32 c.args.b) sp.sfits
