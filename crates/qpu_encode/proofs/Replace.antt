-- A number with one field replaced.
use Rattle.std.specs.Prelude.{◌≡◌, ℕ, ◌+◌, ◌-◌, ◌*◌, ◌/◌, ◌%◌, ◌^◌, ◌<◌, ◌≤◌}
use Rattle.std.proofs.Common.{arith, sym, ap, subst, ◌∙◌}
use Rattle.std.proofs.lemmas.Nat.{shr-shr, shr_high, mod_low, shr_split, pow_pos, shr_below, pow-add, mul-add-lt}
use Rattle.std.proofs.Math.Nat.{mod-lt}
use Rattle.qpu_encode.specs.WordFields.{field}

-- the number with the field of width w at bit lo replaced by v
abbrev pub replaced : ℕ → ℕ → ℕ → ℕ → ℕ
replaced lo w n v = n - field lo w n * 2 ^ lo + v * 2 ^ lo

-- what stands above the field, the new field, and what stands below it
pub replaced_parts : (lo w n v : ℕ) → replaced lo w n v ≡ (n / 2 ^ (lo + w) * 2 ^ w + v) * 2 ^ lo + n % 2 ^ lo
replaced_parts lo w n v =
    let whole : n / 2 ^ lo * 2 ^ lo + n % 2 ^ lo ≡ n = shr_split n lo in
    let upper : n / 2 ^ (lo + w) * 2 ^ w + field lo w n ≡ n / 2 ^ lo = rw (← shr-shr n lo w) (shr_split (n / 2 ^ lo) w) in
    let high : (n / 2 ^ (lo + w) * 2 ^ w + field lo w n) * 2 ^ lo ≡ n / 2 ^ lo * 2 ^ lo = ap (λ k. k * 2 ^ lo) upper in
    omega arith

-- the field is the new value
pub replaced_here : (lo w n v : ℕ) → v < 2 ^ w → field lo w (replaced lo w n v) ≡ v
replaced_here lo w n v fits =
    let low : n % 2 ^ lo < 2 ^ lo = mod-lt n (pow_pos lo) in
    let shifted : replaced lo w n v / 2 ^ lo ≡ n / 2 ^ (lo + w) * 2 ^ w + v = ap (λ k. k / 2 ^ lo) (replaced_parts lo w n v) ∙ shr_high (n / 2 ^ (lo + w) * 2 ^ w + v) lo (n % 2 ^ lo) low in
    ap (λ k. k % 2 ^ w) shifted ∙ mod_low (n / 2 ^ (lo + w)) w v fits

-- the bits below it stay
pub replaced_below : (lo w n v : ℕ) → replaced lo w n v % 2 ^ lo ≡ n % 2 ^ lo
replaced_below lo w n v =
    let low : n % 2 ^ lo < 2 ^ lo = mod-lt n (pow_pos lo) in
    ap (λ k. k % 2 ^ lo) (replaced_parts lo w n v) ∙ mod_low (n / 2 ^ (lo + w) * 2 ^ w + v) lo (n % 2 ^ lo) low

-- the bits above it stay
pub replaced_above : (lo w n v : ℕ) → v < 2 ^ w → replaced lo w n v / 2 ^ (lo + w) ≡ n / 2 ^ (lo + w)
replaced_above lo w n v fits =
    let low : n % 2 ^ lo < 2 ^ lo = mod-lt n (pow_pos lo) in
    let shifted : replaced lo w n v / 2 ^ lo ≡ n / 2 ^ (lo + w) * 2 ^ w + v = ap (λ k. k / 2 ^ lo) (replaced_parts lo w n v) ∙ shr_high (n / 2 ^ (lo + w) * 2 ^ w + v) lo (n % 2 ^ lo) low in
    sym (shr-shr (replaced lo w n v) lo w) ∙ ap (λ k. k / 2 ^ w) shifted ∙ shr_high (n / 2 ^ (lo + w)) w v fits

-- the number stays below its bound
pub replaced_fits : (lo w k n v : ℕ) → n < 2 ^ k → lo + w ≤ k → v < 2 ^ w → replaced lo w n v < 2 ^ k
replaced_fits lo w k n v small within fits =
    let e : k ≡ (k - (lo + w)) + (lo + w) = omega arith in
    let small2 : n < 2 ^ ((k - (lo + w)) + (lo + w)) = subst (λ (j : ℕ). n < 2 ^ j) e small in
    let top : n / 2 ^ (lo + w) < 2 ^ (k - (lo + w)) = shr_below n (k - (lo + w)) (lo + w) small2 in
    let low : n % 2 ^ lo < 2 ^ lo = mod-lt n (pow_pos lo) in
    let upper : n / 2 ^ (lo + w) * 2 ^ w + v < 2 ^ w * 2 ^ (k - (lo + w)) = mul-add-lt (n / 2 ^ (lo + w)) (2 ^ w) v (2 ^ (k - (lo + w))) top fits in
    let all : (n / 2 ^ (lo + w) * 2 ^ w + v) * 2 ^ lo + n % 2 ^ lo < 2 ^ lo * (2 ^ w * 2 ^ (k - (lo + w))) =
    mul-add-lt (n / 2 ^ (lo + w) * 2 ^ w + v) (2 ^ lo) (n % 2 ^ lo) (2 ^ w * 2 ^ (k - (lo + w))) upper low in
    let power : 2 ^ k ≡ 2 ^ (k - (lo + w)) * 2 ^ (lo + w) = ap (λ j. 2 ^ j) e ∙ pow-add 2 (k - (lo + w)) (lo + w) in
    let inner : 2 ^ (lo + w) ≡ 2 ^ lo * 2 ^ w = pow-add 2 lo w in
    let product : 2 ^ (k - (lo + w)) * 2 ^ (lo + w) ≡ 2 ^ (k - (lo + w)) * (2 ^ lo * 2 ^ w) = ap (λ j. 2 ^ (k - (lo + w)) * j) inner in
    rw (replaced_parts lo w n v) (omega arith)
