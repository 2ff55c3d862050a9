-- Turns of bits and leading zeros, as 64- and 32-bit words have them.
use Rattle.std.proofs.Common.{◌≡◌, ℕ, ◌+◌, ◌-◌, ◌*◌, ◌/◌, ◌%◌, ◌^◌, ◌<◌, ◌≤◌, arith, pow_mono}
use Rattle.std.specs.Int.Count.{count_leading_zeros, leading_unique}
use Rattle.q_lane.specs.declared.kinds.Scalar.{Scalar}
use Rattle.q_lane.specs.declared.kinds.Scalar.TheVariants.{Char, Uchar, Short, Ushort, Int, Uint}
use Rattle.q_lane.specs.Numbers.{width}
use Rattle.q_functions.specs.NumberFunctions.{turned}
use Rattle.std.proofs.lemmas.Nat.{leading_length, shr_le, mul-le, shl_whole, one_shl}

power-small : (n : ℕ) → n < 32 → 2 ^ n ≤ 2 ^ 31
power-small n h = pow_mono {i = n} {j = 31} (omega (arith, h))

-- the bits that are turned have 64 bits at most
pub turn-fits : (bits w n : ℕ) → bits < 2 ^ 32 → n < 32 → bits * 2 ^ n + bits / 2 ^ (w - n) < 2 ^ 64
turn-fits bits w n h k =
    let a : bits * 2 ^ n ≤ 2 ^ 32 * 2 ^ 31 = mul-le bits (2 ^ n) (2 ^ 32) (2 ^ 31) (omega (arith, h)) (power-small n k) in
    let b : bits / 2 ^ (w - n) ≤ bits = shr_le bits (w - n) in
    omega (arith, a, b, h)

-- the leading zeros of w bits are those of the word less the bits above
pub leading-narrow : (w v : ℕ) → w ≤ 32 → v < 2 ^ w → count_leading_zeros w v + (32 - w) ≡ count_leading_zeros 32 v
leading-narrow w v h g =
    let r = leading_length w v g in
    leading_unique 32 v (count_leading_zeros w v + (32 - w)) r.0 (let e = r.1 in omega (arith, e, h)) r.2 r.3

-- a turn in 64 bits is a turn
pub turned-is : (bits w n : ℕ) → bits < 2 ^ 32 → w ≤ 32 → n < w → (bits * 2 ^ n % 2 ^ 64 + bits / 2 ^ (w - n)) % (1 * 2 ^ w % 2 ^ 64) ≡ turned w bits n
turned-is bits w n h k l =
    let a : bits * 2 ^ n % 2 ^ 64 ≡ bits * 2 ^ n = shl_whole bits 32 n 64 h (omega (arith, k, l)) in
    let b : 1 * 2 ^ w % 2 ^ 64 ≡ 2 ^ w = one_shl w 64 (omega (arith, k)) in
    λ i. (a i + bits / 2 ^ (w - n)) % b i

pub width-few : (t : Scalar) → width t ≤ 32
width-few Char = omega arith
width-few Uchar = omega arith
width-few Short = omega arith
width-few Ushort = omega arith
width-few Int = omega arith
width-few Uint = omega arith
