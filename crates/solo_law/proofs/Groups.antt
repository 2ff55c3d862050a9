-- The operations that change shared words go on in whatever order.
use Rattle.std.proofs.Common.{arith, ◌≡◌, ℕ, ◌+◌, ◌/◌, ◌%◌, ◌^◌, ◌<◌, Bool, true, false, sym, ap, ◌∙◌, nat_lt}
use Rattle.std.specs.Prelude.{if◌then◌else◌, bit_and, bit_or, bit_xor}
use Rattle.std.proofs.lemmas.Nat.{and_comm, and_assoc, or_comm, or_shr, xor_comm}
use lib.Arith.{bin_ind}
use lib.Bits.{or_step, or_zero_r}
use Rattle.std.specs.Int.Bits.{xor_assoc}
use Rattle.std.proofs.lemmas.Bool.Decides.{nat_tests}
use Rattle.q_lane.specs.Numbers.{is_less, applied}
use Rattle.q_lane.proofs.WordLaws.{is_less-shifted}
use Rattle.q_lane.specs.declared.operations.BinOp.{BinOp}
use Rattle.solo_law.specs.Sharing.{Group, IsOf, Adds, Subs, Ands, Ors, Xors, MinInts, MaxInts, MinUints, MaxUints, Commute, GroupsCommute}

or_assoc : (c a b : ℕ) → bit_or (bit_or a b) c ≡ bit_or a (bit_or b c)
or_assoc =
    bin_ind (λ (c : ℕ). (a b : ℕ) → bit_or (bit_or a b) c ≡ bit_or a (bit_or b c)) (λ a b. or_zero_r (bit_or a b) ∙ sym (ap (bit_or a) (or_zero_r b)))
    (λ c ih a b.
    let p : bit_or (bit_or a b / 2) (c / 2) ≡ bit_or (a / 2) (bit_or b c / 2) =
    ap (λ x. bit_or x (c / 2)) (or_shr a b 1) ∙ ih (a / 2) (b / 2) ∙ sym (ap (bit_or (a / 2)) (or_shr b c 1)) in
    omega (arith, or_step (bit_or a b) c, or_step a (bit_or b c), or_step a b, or_step b c))

-- the order of three goes on where the middle two change places
swapped : (f : ℕ → ℕ → ℕ) → ((x y : ℕ) → f x y ≡ f y x) → ((x y z : ℕ) → f (f x y) z ≡ f x (f y z)) → (a b w : ℕ) → f (f w b) a ≡ f (f w a) b
swapped f c s a b w = s w b a ∙ ap (f w) (c b a) ∙ sym (s w a b)

-- a key of each word, no two words with the same one
abbrev lesser : (ℕ → ℕ) → ℕ → ℕ → ℕ
lesser key x y = if nat_lt (key x) (key y) then x else y

abbrev greater : (ℕ → ℕ) → ℕ → ℕ → ℕ
greater key x y = if nat_lt (key x) (key y) then y else x

abbrev AreKeys : (ℕ → ℕ) → Type 0
AreKeys key = (x y : ℕ) → x < 2 ^ 32 → y < 2 ^ 32 → key x ≡ key y → x ≡ y

lessers : (key : ℕ → ℕ) → AreKeys key → (a b w : ℕ) → a < 2 ^ 32 → b < 2 ^ 32 → w < 2 ^ 32 → lesser key (lesser key w b) a ≡ lesser key (lesser key w a) b
lessers key same a b w ha hb hw =
    let e = same a b ha hb in
    grind (arith, nat_tests)

greaters : (key : ℕ → ℕ) → AreKeys key → (a b w : ℕ) → a < 2 ^ 32 → b < 2 ^ 32 → w < 2 ^ 32 → greater key (greater key w b) a ≡ greater key (greater key w a) b
greaters key same a b w ha hb hw =
    let e = same a b ha hb in
    grind (arith, nat_tests)

-- what a signed word is compared by
abbrev shifted : ℕ → ℕ
shifted x = (x + 2 ^ 31) % 2 ^ 32

shifted_keys : AreKeys shifted
shifted_keys x y hx hy e = omega arith

chosen_below : (t : Bool) (x y : ℕ) → x < 2 ^ 32 → y < 2 ^ 32 → (if t then x else y) < 2 ^ 32
chosen_below true x y hx hy = hx
chosen_below false x y hx hy = hy

min_is : (x y : ℕ) → x < 2 ^ 32 → y < 2 ^ 32 → (if is_less true x y then x else y) ≡ lesser shifted x y
unfolding is_less
min_is x y hx hy = ap (λ t. if t then x else y) (is_less-shifted x y hx hy)

max_is : (x y : ℕ) → x < 2 ^ 32 → y < 2 ^ 32 → (if is_less true x y then y else x) ≡ greater shifted x y
unfolding is_less
max_is x y hx hy = ap (λ t. if t then y else x) (is_less-shifted x y hx hy)

two_mins : (a b w : ℕ) → a < 2 ^ 32 → b < 2 ^ 32 → w < 2 ^ 32
    → (if is_less true (if is_less true w b then w else b) a then (if is_less true w b then w else b) else a) ≡ lesser shifted (lesser shifted w b) a
two_mins a b w ha hb hw =
    ap (λ m. if is_less true m a then m else a) (min_is w b hw hb)
    ∙ min_is (lesser shifted w b) a (chosen_below (nat_lt (shifted w) (shifted b)) w b hw hb) ha

two_maxes : (a b w : ℕ) → a < 2 ^ 32 → b < 2 ^ 32 → w < 2 ^ 32
    → (if is_less true (if is_less true w b then b else w) a then a else (if is_less true w b then b else w)) ≡ greater shifted (greater shifted w b) a
two_maxes a b w ha hb hw =
    ap (λ m. if is_less true m a then a else m) (max_is w b hw hb)
    ∙ max_is (greater shifted w b) a (chosen_below (nat_lt (shifted w) (shifted b)) b w hb hw) ha

by_group : (g : Group) (o p : BinOp) → IsOf o g → IsOf p g → (a b : ℕ) → a < 2 ^ 32 → b < 2 ^ 32 → Commute (record { op = o; operand = a }) (record { op = p; operand = b })
unfolding applied is_less
by_group _ _ _ Adds Adds a b ha hb w hw = omega arith
by_group _ _ _ Adds Subs a b ha hb w hw = omega arith
by_group _ _ _ Subs Adds a b ha hb w hw = omega arith
by_group _ _ _ Subs Subs a b ha hb w hw = omega arith
by_group _ _ _ Ands Ands a b ha hb w hw = swapped bit_and and_comm (λ x y z. and_assoc z x y) a b w
by_group _ _ _ Ors Ors a b ha hb w hw = swapped bit_or or_comm (λ x y z. or_assoc z x y) a b w
by_group _ _ _ Xors Xors a b ha hb w hw = swapped bit_xor xor_comm xor_assoc a b w
by_group _ _ _ MinUints MinUints a b ha hb w hw = lessers (λ x. x) (λ x y hx hy e. e) a b w ha hb hw
by_group _ _ _ MinInts MinInts a b ha hb w hw = two_mins a b w ha hb hw ∙ lessers shifted shifted_keys a b w ha hb hw ∙ sym (two_mins b a w hb ha hw)
by_group _ _ _ MaxUints MaxUints a b ha hb w hw = greaters (λ x. x) (λ x y hx hy e. e) a b w ha hb hw
by_group _ _ _ MaxInts MaxInts a b ha hb w hw = two_maxes a b w ha hb hw ∙ greaters shifted shifted_keys a b w ha hb hw ∙ sym (two_maxes b a w hb ha hw)

pub groups_commute : GroupsCommute
groups_commute g c d hc hd ha hb = by_group g c.op d.op hc hd c.operand d.operand ha hb
