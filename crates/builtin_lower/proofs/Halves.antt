-- High halves of narrow products without a sign.
use Rattle.std.proofs.Common.{◌≡◌, ℕ, ◌*◌, ◌/◌, ◌%◌, ◌^◌, ◌<◌, ◌∙◌, arith}
use Rattle.std.proofs.lemmas.Nat.{mul-lt}
use Rattle.q_lane.specs.declared.kinds.Scalar.TheVariants.{Uchar, Ushort}
use Rattle.q_lane.specs.declared.operations.BinOp.TheVariants as op
use Rattle.q_lane.specs.Numbers.{applied, narrowed}
use Rattle.q_functions.specs.declared.functions.NumberFunction.TheVariants.{MulHi}
use Rattle.builtin_lower.proofs.Functions.{Right}

uchar_below : (a : ℕ) → narrowed Uchar a < 2 ^ 16
unfolding narrowed
uchar_below a = omega arith

ushort_below : (a : ℕ) → narrowed Ushort a < 2 ^ 16
unfolding narrowed
ushort_below a = omega arith

half_8 : (a b : ℕ) → a < 2 ^ 16 → b < 2 ^ 16 → applied op.Shr (applied op.Mul a b) 8 ≡ a * b / 2 ^ 8 % 2 ^ 32
unfolding applied
half_8 a b h g = let p : a * b < 2 ^ 16 * 2 ^ 16 = mul-lt a b (2 ^ 16) (2 ^ 16) h g in omega (arith, p)

half_16 : (a b : ℕ) → a < 2 ^ 16 → b < 2 ^ 16 → applied op.Shr (applied op.Mul a b) 16 ≡ a * b / 2 ^ 16 % 2 ^ 32
unfolding applied
half_16 a b h g = let p : a * b < 2 ^ 16 * 2 ^ 16 = mul-lt a b (2 ^ 16) (2 ^ 16) h g in omega (arith, p)

pub mul_hi_uchar : Right MulHi Uchar
mul_hi_uchar w l x y a b c e f g = (λ i. applied op.Shr (applied op.Mul (e i) (f i)) 8) ∙ half_8 (narrowed Uchar a) (narrowed Uchar b) (uchar_below a) (uchar_below b)

pub mul_hi_ushort : Right MulHi Ushort
mul_hi_ushort w l x y a b c e f g = (λ i. applied op.Shr (applied op.Mul (e i) (f i)) 16) ∙ half_16 (narrowed Ushort a) (narrowed Ushort b) (ushort_below a) (ushort_below b)
