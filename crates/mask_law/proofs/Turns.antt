-- One turn of an item's loop: the head, the test, the body and the step.
use Rattle.std.proofs.Common.{◌≡◌, ℕ, zero, suc, ◌+◌, ◌*◌, ◌<◌, ◌≤◌, ◌⊎◌, inl, inr, Bool, true, false, refl, sym, ap, ◌∙◌, subst, arith}
use Rattle.std.specs.Prelude.{pred, ◌||◌}
use Rattle.item_ir.specs.IrMeaning.{State as Item, Run as Ran, Ends as Done, Stops, Spent, Flow, Next, Broke, Again, Gone, at_zero, plainly_then, after_body, after_round, rounds}
use Rattle.lane_ir.specs.LaneMeaning.{is_on, any_on}
use Rattle.lane_ir.proofs.Steps.{bool_cases}
use Rattle.mask_law.specs.Lanes.{total}
use Rattle.mask_law.proofs.Growth.{Grown, Grows, stays, grows_plainly, grows_body, grows_choice, grows_round, grows_rounds}
use Rattle.mask_law.proofs.Sequence.{flow_in, item_in}

-- a body after which the loop goes on
abbrev pub goes_on : Flow → Bool
goes_on Next = true
goes_on Again = true
goes_on Broke = false
goes_on Gone = false

-- what ends by its end alone
pub plain_first : (y : Item) (r : Ran) (go : Item → Ran) (f : Flow) (z : Item) → plainly_then r go ≡ Done f z → r ≡ Done Next (item_in y r)
plain_first y (Done Next s) go f z h = refl
plain_first y (Done Broke s) go f z h = cc
plain_first y (Done Again s) go f z h = cc
plain_first y (Done Gone s) go f z h = cc
plain_first y Stops go f z h = cc
plain_first y Spent go f z h = cc

pub plain_rest : (y : Item) (r : Ran) (go : Item → Ran) (f : Flow) (z : Item) → plainly_then r go ≡ Done f z → go (item_in y r) ≡ Done f z
plain_rest y (Done Next s) go f z h = h
plain_rest y (Done Broke s) go f z h = cc
plain_rest y (Done Again s) go f z h = cc
plain_rest y (Done Gone s) go f z h = cc
plain_rest y Stops go f z h = cc
plain_rest y Spent go f z h = cc

-- a test
pub test_off : (x : ℕ) (t : Item) (r : Ran) (f : Flow) (z : Item) → at_zero x (Done Next t) r ≡ Done f z → is_on x ≡ false → (f ≡ Next) × (z ≡ t)
test_off zero t r f z h q = (cc, cc)
test_off (suc x) t r f z h q = cc

pub test_on : (x : ℕ) (p r : Ran) (f : Flow) (z : Item) → at_zero x p r ≡ Done f z → is_on x ≡ true → r ≡ Done f z
test_on zero p r f z h q = cc
test_on (suc x) p r f z h q = h

-- a round that begins
abbrev pub begun : Item → Item
begun t = record t { left = pred t.left }

pub round_begins : (m : ℕ) (t : Item) (go : Item → Ran) (f : Flow) (z : Item) → after_round m t go ≡ Done f z → (m ≡ suc (pred m)) × (go (record t { left = pred m }) ≡ Done f z)
round_begins zero t go f z h = cc
round_begins (suc m) t go f z h = (refl, h)

-- a body
pub body_ends : (y : Item) (r : Ran) (go : Item → Ran) (f : Flow) (z : Item) → after_body r go ≡ Done f z → r ≡ Done (flow_in r) (item_in y r)
body_ends y (Done g s) go f z h = refl
body_ends y Stops go f z h = cc
body_ends y Spent go f z h = cc

pub body_goes : (y : Item) (r : Ran) (go : Item → Ran) (f : Flow) (z : Item) → after_body r go ≡ Done f z → goes_on (flow_in r) ≡ true → go (item_in y r) ≡ Done f z
body_goes y (Done Next s) go f z h q = h
body_goes y (Done Broke s) go f z h q = cc
body_goes y (Done Again s) go f z h q = h
body_goes y (Done Gone s) go f z h q = cc
body_goes y Stops go f z h q = cc
body_goes y Spent go f z h q = cc

-- the loop is left by `break`, or with its scope
pub body_leaves : (y : Item) (r : Ran) (go : Item → Ran) (f : Flow) (z : Item) → after_body r go ≡ Done f z → goes_on (flow_in r) ≡ false
    → (z ≡ item_in y r) × (((flow_in r ≡ Broke) × (f ≡ Next)) ⊎ ((flow_in r ≡ Gone) × (f ≡ Gone)))
body_leaves y (Done Next s) go f z h q = cc
body_leaves y (Done Broke s) go f z h q = (cc, inl (refl, cc))
body_leaves y (Done Again s) go f z h q = cc
body_leaves y (Done Gone s) go f z h q = (cc, inr (refl, cc))
body_leaves y Stops go f z h q = cc
body_leaves y Spent go f z h q = cc

-- ---- all of a turn

module _ (head : Item → Ran) (x : ℕ) (body step : Item → Ran) where
  abbrev pub after_test : ℕ → Item → Ran
  after_test m t = at_zero (t.vals x) (Done Next t) (after_round t.left t (λ u. after_body (body u) (λ q. plainly_then (step q) (rounds m head x body step))))

  abbrev pub after_all : ℕ → Item → Ran
  after_all m q = plainly_then (step q) (rounds m head x body step)

  pub one_more : (m : ℕ) (y : Item) (f : Flow) (z : Item) → rounds m head x body step y ≡ Done f z → m ≡ suc (pred m)
  one_more zero y f z h = cc
  one_more (suc m) y f z h = refl

  pub turn_of : (m : ℕ) (y : Item) (f : Flow) (z : Item) → rounds m head x body step y ≡ Done f z → plainly_then (head y) (after_test (pred m)) ≡ Done f z
  turn_of zero y f z h = cc
  turn_of (suc m) y f z h = h

  module _ (growh : (t : Item) → Grows t (head t)) (growb : (t : Item) → Grows t (body t)) (grows : (t : Item) → Grows t (step t)) where
    all_grow : (m : ℕ) (q : Item) → Grows q (after_all m q)
    all_grow m q = grows_plainly q (step q) (rounds m head x body step) (grows q) (grows_rounds m head x body step growh growb grows)

    body_grows : (m : ℕ) (u : Item) → Grows u (after_body (body u) (after_all m))
    body_grows m u = grows_body u (body u) (after_all m) (growb u) (all_grow m)

    test_grows : (m : ℕ) (t : Item) → Grows t (after_test m t)
    test_grows m t = grows_choice t (t.vals x) (Done Next t) _ (stays t t refl) (grows_round t t.left (λ u. after_body (body u) (after_all m)) (body_grows m))

    pub grown_from_head : (m : ℕ) (t : Item) (f : Flow) (z : Item) → after_test m t ≡ Done f z → Grown t z
    grown_from_head m t f z h = subst (λ (r : Ran). Grows t r) h (test_grows m t)

    pub grown_from_body : (m : ℕ) (q : Item) (f : Flow) (z : Item) → after_all m q ≡ Done f z → Grown q z
    grown_from_body m q f z h = subst (λ (r : Ran). Grows q r) h (all_grow m q)

    pub grown_from_step : (m : ℕ) (q : Item) (f : Flow) (z : Item) → rounds m head x body step q ≡ Done f z → Grown q z
    grown_from_step m q f z h = subst (λ (r : Ran). Grows q r) h (grows_rounds m head x body step growh growb grows q)

pub no_growth : (s t : Item) → t ≡ s → Grown s t
no_growth s t h = subst (λ z. Grown s z) (sym h) (stays s s refl)

-- ---- lanes

eq_cases : (l n : ℕ) → l < suc n → (l ≡ n) ⊎ (l < n)
eq_cases zero zero lt = inl refl
eq_cases zero (suc n) lt = inr (omega arith)
eq_cases (suc l) zero lt = absurd (omega (arith, lt))
eq_cases (suc l) (suc n) lt = elim (eq_cases l n (omega (arith, lt))) [ inl i ↦ inl (ap suc i) | inr i ↦ inr (omega (arith, i)) ]

neither : (a b : Bool) → (a || b) ≡ false → (a ≡ false) × (b ≡ false)
neither true b h = cc
neither false b h = (refl, h)

second_of : (a b : Bool) → (a || b) ≡ true → a ≡ false → b ≡ true
second_of true b h q = cc
second_of false b h q = h

pub none_on : (n : ℕ) (g : ℕ → ℕ) → any_on n g ≡ false → (l : ℕ) → l < n → is_on (g l) ≡ false
none_on zero g h l lt = absurd (omega (arith, lt))
none_on (suc n) g h l lt =
    let p = neither (any_on n g) (is_on (g n)) h in
    elim (eq_cases l n lt) [ inl i ↦ ap (λ z. is_on (g z)) i ∙ p.1 | inr i ↦ none_on n g p.0 l i ]

pub some_on : (n : ℕ) (g : ℕ → ℕ) → any_on n g ≡ true → (l : ℕ) × (l < n) × (is_on (g l) ≡ true)
some_on zero g h = cc
some_on (suc n) g h =
    elim (bool_cases (any_on n g)) [
      | inl e ↦ (let r = some_on n g e in let lt = r.1 in (r.0, omega (arith, lt), r.2))
      | inr e ↦ (n, omega arith, second_of (any_on n g) (is_on (g n)) h e)
    ]

pub total_most : (n : ℕ) (a c : ℕ → Item) → ((l : ℕ) → l < n → (a l).left ≤ (c l).left) → total n a ≤ total n c
total_most zero a c h = omega arith
total_most (suc n) a c h = let p = total_most n a c (λ l lt. h l (omega (arith, lt))) in let q = h n (omega arith) in omega (arith, p, q)

pub total_less : (n : ℕ) (a c : ℕ → Item) (l : ℕ) → l < n → ((m : ℕ) → m < n → (a m).left ≤ (c m).left) → (a l).left < (c l).left → total n a < total n c
total_less zero a c l lt h s = absurd (omega (arith, lt))
total_less (suc n) a c l lt h s =
    elim (eq_cases l n lt) [
      | inl i ↦ (let p = total_most n a c (λ m lm. h m (omega (arith, lm))) in let q = subst (λ z. (a z).left < (c z).left) i s in omega (arith, p, q))
      | inr i ↦ (let p = total_less n a c l i (λ m lm. h m (omega (arith, lm))) s in let q = h n (omega arith) in omega (arith, p, q))
    ]

pub total_same : (n : ℕ) (a c : ℕ → Item) → ((l : ℕ) → l < n → a l ≡ c l) → total n a ≡ total n c
total_same zero a c h = refl
total_same (suc n) a c h = ap (λ z. z + (a n).left) (total_same n a c (λ l lt. h l (omega (arith, lt)))) ∙ ap (λ (y : Item). total n c + y.left) (h n (omega arith))

-- ---- steps: of a turn that is the last, and of one after which others come

pub last_turn : (w1 w2 a h x z : ℕ) → h ≤ a → z + w1 * h ≤ x + w1 * suc a → z + (w1 + w2) * h ≤ x + (w1 + w2) * suc a
last_turn w1 w2 a h x z i j = grind (arith, i, j)

pub more_turns : (w1 w2 a h u q c x y z r : ℕ) → h ≤ a → u < h → q ≤ u → y + w1 * h ≤ x + w1 * suc a → z + w2 * q ≤ y + w2 * suc u → r + (w1 + w2) * c ≤ z + (w1 + w2) * suc q
    → r + (w1 + w2) * c ≤ x + (w1 + w2) * suc a
more_turns w1 w2 a h u q c x y z r i j k l m o = grind (arith, i, j, k, l, m, o)
