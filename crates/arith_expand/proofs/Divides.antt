-- Division by shifts, comparisons, sums and differences: one word by another.
use Rattle.std.proofs.Common.{◌≡◌, ℕ, zero, suc, ◌+◌, ◌*◌, ◌-◌, ◌/◌, ◌%◌, ◌^◌, ◌<◌, ◌≤◌, inl, inr, true, false, refl, sym, ap, ◌∙◌, arith}
use Rattle.std.specs.Prelude.{if◌then◌else◌}
use Rattle.std.specs.Int.Count.{count_leading_zeros, leading_of_zero}
use Rattle.std.proofs.lemmas.Bool.{cases_lt, lt-ltb, le-ltb, ne_eqb}
use Rattle.std.proofs.lemmas.Nat.{leading_top, leading_le, pow_pos, pow-add, mul-le, div-mul-add, mod-mul-add}
use Rattle.q_lane.proofs.WordLaws.{is_less-shifted}
use Rattle.std.proofs.Math.Nat.{pow-suc, pow-le-pow_right}
use Rattle.q_lane.specs.declared.operations.BinOp.TheVariants.{Add, Sub, Shl, Less, Max}
use Rattle.q_lane.specs.declared.operations.UnOp.TheVariants.{Clz}
use Rattle.q_lane.specs.Numbers.{applied, applied_one, is_less, flag, quotient, remainder}
use Rattle.lane_ir.specs.LaneMeaning.{chosen}

-- r is left of n once d was taken q times, and at most k bits of the quotient are open
pub record Divided (n d q r k : ℕ) : Type 0 where
  pub sum : n ≡ q * d + r
  pub rest : 0 < d → r < d * 2 ^ k
  pub fits : (m : ℕ) → k ≡ suc m → d * 2 ^ m < 2 ^ 32
  pub few : k ≤ 32
  pub none : d ≡ 0 → (k ≡ 0) × (q ≡ 0)

-- what a round makes of the rest and of the quotient
abbrev pub tried : ℕ → ℕ → ℕ
tried d k = applied Shl d (applied Sub k 1)

abbrev pub taken : ℕ → ℕ → ℕ → ℕ
taken d r k = chosen (applied (Less false) r (tried d k)) 0 k

abbrev pub next_rest : ℕ → ℕ → ℕ → ℕ
next_rest d r k = chosen (taken d r k) (applied Sub r (tried d k)) r

abbrev pub next_quotient : ℕ → ℕ → ℕ → ℕ → ℕ
next_quotient d q r k = chosen (taken d r k) (applied Add q (applied Shl 1 (applied Sub k 1))) q

abbrev pub next_count : ℕ → ℕ
next_count k = chosen k (applied Sub k 1) k

-- the numbers of a round in which k is not 0
minus : (m : ℕ) → suc m ≤ 32 → applied Sub (suc m) 1 ≡ m
unfolding applied
minus m h = omega arith

shifted : (d m : ℕ) → m < 32 → d * 2 ^ m < 2 ^ 32 → applied Shl d m ≡ d * 2 ^ m
unfolding applied
shifted d m h f = let e : m % 32 ≡ m = omega arith in rw e (omega (arith, f))

one_shifted : (m : ℕ) → m < 32 → applied Shl 1 m ≡ 2 ^ m
unfolding applied
one_shifted m h = let e : m % 32 ≡ m = omega arith in let p : 2 ^ m < 2 ^ 32 = grind (arith, pow-le-pow_right) in rw e (omega (arith, p))

less-is : (a b : ℕ) → a < b → applied (Less false) a b ≡ 1
unfolding applied is_less
less-is a b h = ap flag (lt-ltb a b h)

less-not : (a b : ℕ) → b ≤ a → applied (Less false) a b ≡ 0
unfolding applied is_less
less-not a b h = ap flag (le-ltb a b h)

sub-is : (a b : ℕ) → b ≤ a → a < 2 ^ 32 → applied Sub a b ≡ a - b
unfolding applied
sub-is a b h g = omega arith

add-is : (a b : ℕ) → a + b < 2 ^ 32 → applied Add a b ≡ a + b
unfolding applied
add-is a b h = omega arith

chosen-zero : (x : ℕ) → ◌≡◌ {A = ℕ} (chosen x 0 0) 0
chosen-zero zero = refl
chosen-zero (suc x) = refl

pub record Round (n d q r k : ℕ) : Type 0 where
  pub divided : Divided n d (next_quotient d q r k) (next_rest d r k) (next_count k)
  pub counted : next_count k ≡ k - 1

pub as_divided : (n d q r k q' r' k' : ℕ) → q' ≡ q → r' ≡ r → k' ≡ k → Divided n d q r k → Divided n d q' r' k'
as_divided n d q r k q' r' k' e f g h = record {
  sum = rw (e, f) h.sum;
  rest = rw (f, g) h.rest;
  fits = rw g h.fits;
  few = rw g h.few;
  none = rw (e, g) h.none;
}

-- a round that takes nothing
less_left : (n d q r m : ℕ) → 0 < d → r < d * 2 ^ m → Divided n d q r (suc m) → Divided n d q r m
less_left n d q r m p h o = record {
  sum = o.sum;
  rest = λ _. h;
  fits = λ j e. let f = o.fits m refl in let z : 2 ^ m ≡ 2 ^ j * 2 = ap (λ x. 2 ^ x) e ∙ pow-suc 2 j in below (d * 2 ^ j) (d * 2 ^ m) (2 ^ 32) (ap (λ x. d * x) z ∙ twice d (2 ^ j)) f;
  few = omega (arith, o.few);
  none = λ e. absurd (omega (arith, p, e));
}
  where
    twice : (d x : ℕ) → d * (x * 2) ≡ d * x + d * x
    twice d x = grind arith

    below : (a b c : ℕ) → b ≡ a + a → b < c → a < c
    below a b c e h = omega (arith, e, h)

-- a round that takes d shifted by m
more_left : (n d q r m : ℕ) → 0 < d → d * 2 ^ m ≤ r → r < d * 2 ^ suc m → Divided n d q r (suc m) → Divided n d (q + 2 ^ m) (r - d * 2 ^ m) m
more_left n d q r m p h g o = record {
  sum = moved q (2 ^ m) d r (d * 2 ^ m) n o.sum refl h;
  rest = λ _. halved r (d * 2 ^ m) (d * 2 ^ suc m) (doubled d m) h g;
  fits = λ j e. let f = o.fits m refl in let z : 2 ^ m ≡ 2 ^ j * 2 = ap (λ x. 2 ^ x) e ∙ pow-suc 2 j in below (d * 2 ^ j) (d * 2 ^ m) (2 ^ 32) (ap (λ x. d * x) z ∙ twice d (2 ^ j)) f;
  few = omega (arith, o.few);
  none = λ e. absurd (omega (arith, p, e));
}
  where
    twice : (d x : ℕ) → d * (x * 2) ≡ d * x + d * x
    twice d x = grind arith

    below : (a b c : ℕ) → b ≡ a + a → b < c → a < c
    below a b c e h = omega (arith, e, h)

    doubled : (d m : ℕ) → d * 2 ^ suc m ≡ d * 2 ^ m + d * 2 ^ m
    doubled d m = ap (λ x. d * x) (pow-suc 2 m) ∙ twice d (2 ^ m)

    halved : (r x y : ℕ) → y ≡ x + x → x ≤ r → r < y → r - x < x
    halved r x y e h g = omega (arith, e, h, g)

    spread : (q x d : ℕ) → (q + x) * d ≡ q * d + d * x
    spread q x d = grind arith

    moved : (q x d r y n : ℕ) → n ≡ q * d + r → y ≡ d * x → y ≤ r → n ≡ (q + x) * d + (r - y)
    moved q x d r y n e f h = rw (spread q x d) (omega (arith, e, f, h))

-- the quotient so far is no more than the dividend
pub quotient_below : (n d q r : ℕ) → 0 < d → n ≡ q * d + r → q ≤ n
quotient_below n d q r p e = let l : q ≤ q * d = grow q d p in omega (arith, l, e)
  where
    grow : (q d : ℕ) → 0 < d → q ≤ q * d
    grow q d h = grind arith

pub rest_below : (n d q r : ℕ) → n ≡ q * d + r → r ≤ n
rest_below n d q r e = omega (arith, e)

-- a round keeps what is left, and one bit less is open
pub rounded : (n d q r k : ℕ) → n < 2 ^ 32 → Divided n d q r k → Round n d q r k
rounded n d q r zero h o =
    let z : taken d r 0 ≡ 0 = chosen-zero _ in
    record {
      divided = as_divided n d q r 0 _ _ _ (ap (λ x. chosen x (applied Add q (applied Shl 1 (applied Sub 0 1))) q) z) (ap (λ x. chosen x (applied Sub r (tried d 0)) r) z) refl o;
      counted = omega arith;
    }
rounded n d q r (suc m) h o =
    let few : m < 32 = let f = o.few in omega (arith, f) in
    let p : 0 < d = elim (cases_lt 0 d) [ inl x ↦ x | inr x ↦ absurd (let e = o.none (omega (arith, x)) in omega (arith, e.0)) ] in
    let k1 = minus m (omega (arith, few)) in
    let t : tried d (suc m) ≡ d * 2 ^ m = ap (applied Shl d) k1 ∙ shifted d m few (o.fits m refl) in
    let b : applied Shl 1 (applied Sub (suc m) 1) ≡ 2 ^ m = ap (applied Shl 1) k1 ∙ one_shifted m few in
    elim (cases_lt r (d * 2 ^ m)) [
      | inl l ↦
          let z : taken d r (suc m) ≡ 0 = ap (λ x. chosen x 0 (suc m)) (ap (applied (Less false) r) t ∙ less-is r (d * 2 ^ m) l) in
          record {
            divided = as_divided n d q r m _ _ _ (ap (λ x. chosen x (applied Add q (applied Shl 1 (applied Sub (suc m) 1))) q) z) (ap (λ x. chosen x (applied Sub r (tried d (suc m))) r) z) k1 (less_left n d q r m p l o);
            counted = omega (arith, k1);
          }
      | inr l ↦
          let z : taken d r (suc m) ≡ suc m = ap (λ x. chosen x 0 (suc m)) (ap (applied (Less false) r) t ∙ less-not r (d * 2 ^ m) l) in
          let o' = more_left n d q r m p l (o.rest p) o in
          let small : r < 2 ^ 32 = let x = rest_below n d q r o.sum in omega (arith, x, h) in
          let fits : q + 2 ^ m < 2 ^ 32 = let x = quotient_below n d (q + 2 ^ m) (r - d * 2 ^ m) p o'.sum in omega (arith, x, h) in
          record {
            divided = as_divided n d (q + 2 ^ m) (r - d * 2 ^ m) m _ _ _
                (ap (λ x. chosen x (applied Add q (applied Shl 1 (applied Sub (suc m) 1))) q) z ∙ ap (applied Add q) b ∙ add-is q (2 ^ m) fits)
                (ap (λ x. chosen x (applied Sub r (tried d (suc m))) r) z ∙ ap (applied Sub r) t ∙ sub-is r (d * 2 ^ m) l small) k1 o';
            counted = omega (arith, k1);
          }
    ]

-- ---- how a division begins

-- how many bits of the quotient are open at first: by how many bits the divisor is shorter, and one more; none where the divisor is 0
abbrev pub first_count : ℕ → ℕ → ℕ
first_count n d = chosen d (applied (Max true) (applied Add (applied Sub (applied_one Clz d) (applied_one Clz n)) 1) 0) 0

not_less : (a b : ℕ) → b ≤ a → is_less false a b ≡ false
unfolding is_less
not_less a b h = le-ltb a b h

is_below : (a b : ℕ) → a < b → is_less false a b ≡ true
unfolding is_less
is_below a b h = lt-ltb a b h

max_zero-small : (x : ℕ) → x < 2 ^ 31 → applied (Max true) x 0 ≡ x
unfolding applied
max_zero-small x h =
    let e : is_less true x 0 ≡ false = is_less-shifted x 0 (omega (arith, h)) (omega arith) ∙ not_less ((x + 2 ^ 31) % 2 ^ 32) ((0 + 2 ^ 31) % 2 ^ 32) (omega (arith, h)) in
    ap (λ b. if b then 0 else x) e

max_zero-large : (x : ℕ) → 2 ^ 31 ≤ x → x < 2 ^ 32 → applied (Max true) x 0 ≡ 0
unfolding applied
max_zero-large x h g =
    let e : is_less true x 0 ≡ true = is_less-shifted x 0 g (omega arith) ∙ is_below ((x + 2 ^ 31) % 2 ^ 32) ((0 + 2 ^ 31) % 2 ^ 32) (omega (arith, h, g)) in
    ap (λ b. if b then 0 else x) e

sum_up : (a b k : ℕ) → a ≤ 32 → b ≤ 32 → a + 1 ≡ b + k → applied Add (applied Sub a b) 1 ≡ k
unfolding applied
sum_up a b k ha hb e = omega (arith, ha, hb, e)

sum_down : (a b : ℕ) → b ≤ 32 → a + 1 < b → applied Add (applied Sub a b) 1 ≡ 2 ^ 32 + (a + 1) - b
unfolding applied
sum_down a b hb e = omega (arith, hb, e)

-- the count of bits, from the leading zeros of both
count_up : (a b k : ℕ) → a ≤ 32 → b ≤ 32 → a + 1 ≡ b + k → applied (Max true) (applied Add (applied Sub a b) 1) 0 ≡ k
count_up a b k ha hb e = ap (λ x. applied (Max true) x 0) (sum_up a b k ha hb e) ∙ max_zero-small k (omega (arith, ha, hb, e))

count_none : (a b : ℕ) → b ≤ 32 → a + 1 ≤ b → applied (Max true) (applied Add (applied Sub a b) 1) 0 ≡ 0
count_none a b hb e = elim (cases_lt (a + 1) b) [
  | inr q ↦ count_up a b 0 (omega (arith, hb, e)) hb (omega (arith, q, e))
  | inl q ↦ ap (λ x. applied (Max true) x 0) (sum_down a b hb q) ∙ max_zero-large (2 ^ 32 + (a + 1) - b) (omega (arith, hb)) (omega (arith, q))
]

clz-is : (x : ℕ) → applied_one Clz x ≡ count_leading_zeros 32 x
unfolding applied_one
clz-is x = refl

nothing_open : (n d : ℕ) → n < d → Divided n d 0 n 0
nothing_open n d h = record {
  sum = omega arith;
  rest = λ p. small n d h;
  fits = λ m e. absurd (omega (arith, e));
  few = omega arith;
  none = λ e. (refl, refl);
}
  where
    small : (n d : ℕ) → n < d → n < d * 2 ^ 0
    small n d h = omega (arith, h)

power_up : (a b : ℕ) → a ≤ b → 2 ^ a ≤ 2 ^ b
power_up a b h = grind (arith, pow-le-pow_right)

product_up : (a b x : ℕ) → a < b → 0 < x → a * x < b * x
product_up a b x h p = grind arith

-- a dividend of i + 1 bits and a divisor of j + 1 bits
bits_open : (n d i j k : ℕ) → n < 2 ^ suc i → 2 ^ j ≤ d → d < 2 ^ suc j → i < 32 → suc i ≡ j + k → Divided n d 0 n k
bits_open n d i j k hn hd hd' hi e = record {
  sum = omega arith;
  rest = λ p. upper;
  fits = λ m q. fit m q;
  few = omega (arith, hi, e);
  none = λ z. absurd (let p = pow_pos j in omega (arith, hd, z, p));
}
  where
    upper : n < d * 2 ^ k
    upper = let a : 2 ^ suc i ≡ 2 ^ j * 2 ^ k = ap (λ x. 2 ^ x) e ∙ pow-add 2 j k in let b : 2 ^ j * 2 ^ k ≤ d * 2 ^ k = mul-le (2 ^ j) (2 ^ k) d (2 ^ k) hd (omega arith) in omega (arith, hn, a, b)

    fit : (m : ℕ) → k ≡ suc m → d * 2 ^ m < 2 ^ 32
    fit m q =
        let a : 2 ^ (suc j + m) ≡ 2 ^ suc j * 2 ^ m = pow-add 2 (suc j) m in
        let b : d * 2 ^ m < 2 ^ suc j * 2 ^ m = product_up d (2 ^ suc j) (2 ^ m) hd' (pow_pos m) in
        let c : 2 ^ (suc j + m) ≤ 2 ^ 32 = power_up (suc j + m) 32 (omega (arith, e, q, hi)) in
        omega (arith, a, b, c)

-- at the beginning nothing is taken
pub opened : (n d : ℕ) → n < 2 ^ 32 → d < 2 ^ 32 → Divided n d 0 n (first_count n d)
opened n zero hn hd = record {
  sum = omega arith;
  rest = λ p. absurd (omega (arith, p));
  fits = λ m e. absurd (zero_suc m e);
  few = omega arith;
  none = λ e. (refl, refl);
}
  where
    zero_suc : (m : ℕ) → 0 ≡ suc m → ⊥
    zero_suc m e = omega (arith, e)
opened n (suc d) hn hd =
    let cd = clz-is (suc d) in
    let cn = clz-is n in
    let td = leading_top 32 (suc d) (omega arith) hd in
    let top = leading_le 32 n in
    let topd = leading_le 32 (suc d) in
    elim (cases_lt 0 n) [
      | inl p ↦
          let tn = leading_top 32 n p hn in
          elim (cases_lt tn.0 td.0) [
            | inl l ↦
                let q : count_leading_zeros 32 (suc d) + 1 ≤ count_leading_zeros 32 n = let a = td.1 in let b = tn.1 in omega (arith, a, b, l) in
                let small : n < suc d = let a = tn.3 in let b = td.2 in let c : 2 ^ suc tn.0 ≤ 2 ^ td.0 = power_up (suc tn.0) td.0 l in omega (arith, a, b, c) in
                as_divided n (suc d) 0 n 0 0 n (first_count n (suc d)) refl refl (ap (λ x. applied (Max true) (applied Add (applied Sub x (applied_one Clz n)) 1) 0) cd ∙ ap (λ x. applied (Max true) (applied Add (applied Sub (count_leading_zeros 32 (suc d)) x) 1) 0) cn ∙ count_none _ _ top q) (nothing_open n (suc d) small)
            | inr l ↦
                let k = suc tn.0 - td.0 in
                let q : count_leading_zeros 32 (suc d) + 1 ≡ count_leading_zeros 32 n + k = let a = td.1 in let b = tn.1 in omega (arith, a, b, l) in
                let hi : tn.0 < 32 = let b = tn.1 in omega (arith, b) in
                as_divided n (suc d) 0 n k 0 n (first_count n (suc d)) refl refl (ap (λ x. applied (Max true) (applied Add (applied Sub x (applied_one Clz n)) 1) 0) cd ∙ ap (λ x. applied (Max true) (applied Add (applied Sub (count_leading_zeros 32 (suc d)) x) 1) 0) cn ∙ count_up _ _ k topd top q)
                (bits_open n (suc d) tn.0 td.0 k tn.3 td.2 td.3 hi (omega (arith, l)))
          ]
      | inr p ↦
          let z : n ≡ 0 = omega (arith, p) in
          let q : count_leading_zeros 32 (suc d) + 1 ≤ count_leading_zeros 32 n = let a = td.1 in let b : count_leading_zeros 32 n ≡ 32 = ap (count_leading_zeros 32) z ∙ leading_of_zero 32 in omega (arith, a, b) in
          as_divided n (suc d) 0 n 0 0 n (first_count n (suc d)) refl refl (ap (λ x. applied (Max true) (applied Add (applied Sub x (applied_one Clz n)) 1) 0) cd ∙ ap (λ x. applied (Max true) (applied Add (applied Sub (count_leading_zeros 32 (suc d)) x) 1) 0) cn ∙ count_none _ _ top q) (nothing_open n (suc d) (omega (arith, z)))
    ]

-- ---- how it ends

pub closes_quotient : (n d q r : ℕ) → Divided n d q r 0 → quotient false n d ≡ q
unfolding quotient
closes_quotient n zero q r h = let e = h.none refl in sym e.1
closes_quotient n (suc d) q r h =
    let l : r < suc d = let x = h.rest (omega arith) in plain r (suc d) x in
    ap (λ b. if b then 0 else n / suc d) (ne_eqb (suc d) 0 (λ e. omega (arith, e))) ∙ ap (λ x. x / suc d) h.sum ∙ div-mul-add q (suc d) r l
  where
    plain : (r d : ℕ) → r < d * 2 ^ 0 → r < d
    plain r d h = omega (arith, h)

pub closes_remainder : (n d q r : ℕ) → Divided n d q r 0 → remainder false n d ≡ r
unfolding remainder
closes_remainder n zero q r h = let e = h.sum in omega (arith, e)
closes_remainder n (suc d) q r h =
    let l : r < suc d = let x = h.rest (omega arith) in plain r (suc d) x in
    ap (λ b. if b then n else n % suc d) (ne_eqb (suc d) 0 (λ e. omega (arith, e))) ∙ ap (λ x. x % suc d) h.sum ∙ mod-mul-add q (suc d) r l
  where
    plain : (r d : ℕ) → r < d * 2 ^ 0 → r < d
    plain r d h = omega (arith, h)
