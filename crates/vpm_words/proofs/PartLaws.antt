-- A word with a part replaced fits a word.
use Rattle.std.proofs.Common.{arith, ◌≡◌, ℕ, ◌+◌, ◌-◌, ◌*◌, ◌/◌, ◌%◌, ◌^◌, ◌<◌, ◌≤◌, ap, ◌∙◌, sym, subst}
use Rattle.std.proofs.Math.Pow.{pow_mono}
use Rattle.std.proofs.lemmas.Nat.{pow-add, pow_pos, mod_below, div_below, mul-le}

-- three parts, one above the other: a below A, b below B, c below C
sum_below : (a b c A B C : ℕ) → a < A → b < B → c < C → a + b * A + c * (A * B) < C * (A * B)
sum_below a b c A B C h k l =
    let p : (b + 1) * A ≤ B * A = mul-le (b + 1) A B A (omega (arith, k)) (omega arith) in
    let q : (c + 1) * (A * B) ≤ C * (A * B) = mul-le (c + 1) (A * B) C (A * B) (omega (arith, l)) (omega arith) in
    omega (arith, p, q, h)

pub part_below : (low width word part : ℕ) → low + width ≤ 32 → word < 2 ^ 32 → part < 2 ^ width
    → word % 2 ^ low + part * 2 ^ low + word / 2 ^ (low + width) * 2 ^ (low + width) < 2 ^ 32
part_below low width word part h k l =
    let rest : ℕ = 32 - (low + width) in
    let high : 2 ^ (low + width) ≡ 2 ^ low * 2 ^ width = pow-add 2 low width in
    let bits : 32 ≡ rest + (low + width) = omega arith in
    let all : 2 ^ 32 ≡ 2 ^ rest * 2 ^ (low + width) = ap (λ n. 2 ^ n) bits ∙ pow-add 2 rest (low + width) in
    let top : word / 2 ^ (low + width) < 2 ^ rest = div_below word (2 ^ (low + width)) (2 ^ rest) (pow_pos (low + width)) (subst (λ n. word < n) all k) in
    let s = sum_below (word % 2 ^ low) part (word / 2 ^ (low + width)) (2 ^ low) (2 ^ width) (2 ^ rest) (mod_below word (2 ^ low) (pow_pos low)) l top in
    subst (λ n. word % 2 ^ low + part * 2 ^ low + word / 2 ^ (low + width) * 2 ^ (low + width) < n) (sym all)
    (subst (λ n. word % 2 ^ low + part * 2 ^ low + word / 2 ^ (low + width) * n < 2 ^ rest * n) (sym high) s)

-- the same as shifts of 64 bits
pub shifted_below : (low width word part : ℕ) → low + width ≤ 32 → word < 2 ^ 32 → part < 2 ^ width
    → word % (1 * 2 ^ low % 2 ^ 64) + part * 2 ^ low % 2 ^ 64 + word / 2 ^ (low + width) * 2 ^ (low + width) % 2 ^ 64 < 2 ^ 32
shifted_below low width word part h k l =
    let b = part_below low width word part h k l in
    let m : 2 ^ low ≤ 2 ^ 32 = pow_mono {j = 32} (omega (arith, h)) in
    let one : 1 * 2 ^ low % 2 ^ 64 ≡ 2 ^ low = omega (arith, m) in
    rw one (omega (arith, b))
