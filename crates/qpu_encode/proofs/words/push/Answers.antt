use Rattle.std.proofs.Common.{rules, arith, ap, sym, refl, ◌%◌, ◌≡◌, ◌+◌, ◌-◌, ◌*◌, ◌^◌, ◌<◌, ◌≤◌, ℕ}
use Rattle.std.proofs.lemmas.Nat.{shl_whole, mul-add-lt, pow-add}
use Rattle.qpu_encode.proofs.words.push.Goals as goal

same : (w high : ℕ) → w ≤ 32 → high < 2 ^ (64 - w) → high * 2 ^ w % 2 ^ 64 ≡ high * 2 ^ w
same w high h r = shl_whole high (64 - w) w 64 r (omega arith)

below : (w high low : ℕ) → w ≤ 32 → high < 2 ^ (64 - w) → low < 2 ^ w → high * 2 ^ w + low < 2 ^ 64
below w high low h r f =
    let e : 2 ^ w * 2 ^ (64 - w) ≡ 2 ^ (w + (64 - w)) = sym (pow-add 2 w (64 - w)) in
    let e2 : 2 ^ (w + (64 - w)) ≡ 2 ^ 64 = ap (λ k. 2 ^ k) (let k : w + (64 - w) ≡ 64 = omega arith in k) in
    let m : high * 2 ^ w + low < 2 ^ w * 2 ^ (64 - w) = mul-add-lt high (2 ^ w) low (2 ^ (64 - w)) r f in
    omega arith

pub overflow_add-result : goal.overflow_add-result
overflow_add-result g c =
    rw (same g.row.W c.args.high c.requires.width c.requires.room)
    (search (rules, below g.row.W c.args.high c.args.low c.requires.width c.requires.room c.requires.fits))

pub returns : goal.returns
returns g c = rw (same g.row.W c.args.high c.requires.width c.requires.room) refl
