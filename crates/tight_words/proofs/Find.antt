-- The tests of the search against the definitions.
use Rattle.std.specs.Prelude.{◌≡◌, ◌⊎◌, ℕ, zero, suc, ◌+◌, ◌-◌, ◌<◌, List, length, Bool, true, false, not, ◌&&◌, ◌||◌, ◌==◌, nat_le, if◌then◌else◌, slice_get, refl}
use Rattle.std.specs.declared.option.Option.{Option}
use Rattle.std.specs.declared.option.Option.TheVariants.{Some, None}
use Rattle.std.proofs.Common.{arith, sym, subst, ◌∙◌, inl, inr}
use Rattle.std.proofs.lemmas.Bool.Decides.{nat_tests}
use Rattle.std.proofs.lemmas.Option.{slice_get_within}
use Rattle.qpu_encode.specs.declared.form.AddPart.{AddPart}
use Rattle.qpu_encode.specs.declared.form.MulPart.{MulPart}
use Rattle.qpu_encode.specs.declared.form.Head.{Head}
use Rattle.qpu_encode.specs.declared.form.Head.TheVariants.{Plain, End, Small}
use Rattle.qpu_encode.specs.declared.form.Form.{Form}
use Rattle.qpu_encode.specs.declared.form.Form.TheVariants.{Alu, Ldi, Bra}
use Rattle.qpu_encode.specs.Codes.{head_code, mul_code}
use Rattle.qpu_encode.specs.WordFields.{is_in_profile, is_source, is_small as is_small_ok}
use Rattle.tight_words.specs.declared.meaning.Meaning.{Meaning}
use Rattle.tight_words.specs.declared.meaning.Reads.{Reads}
use Rattle.tight_words.specs.Meaning.{same, read_a, read_b, operand, is_small, meaning, same_meaning, both, count, reads_of, turn}
use Rattle.tight_words.specs.Registers.{clash, goes_on, is_end_head, other, is_free}
use Rattle.tight_words.specs.Code.{form_at, form_in, back, branches_to, leads, clash_of_jumps, is_target}
use Rattle.tight_words.specs.Joint.{pick, word_for, is_wanted, is_common, is_read_a, is_read_b, is_useful_a, is_useful_b, stands, fits, fits_b, fits_some_b, fits_some, fit_together, fit_other, fit_second, fit_first, fit_forms}
use Rattle.tight_words.specs.Tight.{IsForm, IsJoint, IsClear}
use Rattle.tight_words.proofs.Any.{found, none_of, none_below, some_below}
use Rattle.tight_words.proofs.Same.{parts, same_self, eq_is, eq_self, meaning_is, meaning_self}
use Rattle.tight_words.proofs.Profile.{profile}
use Rattle.tight_words.proofs.Canon.{Alike, alike_moved, alike_no_a, alike_no_b, picked, part_selectors, unselected, selects, quiet, QuietB}

both_true : (a b : Bool) → a ≡ true → b ≡ true → (a && b) ≡ true
both_true a b h i = rw (h, i) refl

or_left : (a b : Bool) → a ≡ true → (a || b) ≡ true
or_left a b h = rw h refl

or_right : (a b : Bool) → b ≡ true → (a || b) ≡ true
or_right true b h = refl
or_right false b h = h

not_false : (a : Bool) → a ≡ false → not a ≡ true
not_false a h = rw h refl

false_of_not : (a : Bool) → not a ≡ true → a ≡ false
false_of_not true h = absurd (cc)
false_of_not false h = refl

or_cases : (a b : Bool) → (a || b) ≡ true → (a ≡ true) ⊎ (b ≡ true)
or_cases true b h = inl refl
or_cases false b h = inr h

-- ---- what comes before

pub back_clear : (code : List ℕ) (i : ℕ) (f : Option Form) → IsClear code i f → clash (back code i 1) f ≡ false
unfolding back
back_clear code zero f h = refl
back_clear code (suc i) f h =
    let e : suc i - 1 ≡ i = omega arith in
    let n : nat_le 1 (suc i) ≡ true = grind (arith, nat_tests) in
    let p : i + 1 ≡ suc i = omega arith in
    rw (n, e) (h i (inl p))

jump_clear : (code : List ℕ) (i : ℕ) (f : Option Form) (b : ℕ) (t : Bool) → branches_to code b i ≡ t → IsClear code i f → (t && clash (form_at code (b + 3)) f) ≡ false
jump_clear code i f b true e h = h (b + 3) (inr (b, refl, e))
jump_clear code i f b false e h = refl

pub jumps_clear : (code : List ℕ) (i : ℕ) (f : Option Form) → IsClear code i f → clash_of_jumps code i f ≡ false
unfolding clash_of_jumps
jumps_clear code i f h = none_of (length code) (λ b. branches_to code b i && clash (form_at code (b + 3)) f) (λ k l. jump_clear code i f k (branches_to code k i) refl h)

leads_none : (o : Option Form) (b t : ℕ) → leads o b t ≡ true → (f : Form) × (o ≡ Some f)
leads_none None b t h = absurd (cc)
leads_none (Some f) b t h = (f, refl)

form_there : (o : Option ℕ) (f : Form) → form_in o ≡ Some f → (w : ℕ) × (o ≡ Some w)
form_there None f h = absurd (cc)
form_there (Some w) f h = (w, refl)

-- a branch stands in the code
branch_within : (code : List ℕ) (b t : ℕ) → branches_to code b t ≡ true → b < length code
unfolding branches_to form_at
branch_within code b t h =
    let f = leads_none (form_in (slice_get code b)) b t h in
    let w = form_there (slice_get code b) f.0 f.1 in
    slice_get_within code b w.0 w.1

pub clear_of : (code : List ℕ) (i : ℕ) (f : Option Form) → clash (back code i 1) f ≡ false → clash_of_jumps code i f ≡ false → IsClear code i f
unfolding back clash_of_jumps
clear_of code i f h j p (inl e) =
    let n : nat_le 1 i ≡ true = grind (arith, nat_tests) in
    let q : i - 1 ≡ p = omega arith in
    let g : clash (form_at code (i - 1)) f ≡ false = rw n at h in
    subst (λ (k : ℕ). clash (form_at code k) f ≡ false) q g
clear_of code i f h j p (inr e) =
    let test : (branches_to code e.0 i && clash (form_at code (e.0 + 3)) f) ≡ false =
    none_below (length code) (λ b. branches_to code b i && clash (form_at code (b + 3)) f) j e.0 (branch_within code e.0 i e.2) in
    let g : clash (form_at code (e.0 + 3)) f ≡ false = rw e.2 at test in
    subst (λ (k : ℕ). clash (form_at code k) f ≡ false) (sym e.1) g

pub target_none : (code : List ℕ) (t : ℕ) → ((b : ℕ) → branches_to code b t ≡ false) → is_target code t ≡ false
unfolding is_target
target_none code t h = none_of (length code) (λ b. branches_to code b t) (λ k l. h k)

pub either : (b : Bool) → (b ≡ true) ⊎ (b ≡ false)
either true = inl refl
either false = inr refl

pub none_target : (code : List ℕ) (t : ℕ) → is_target code t ≡ false → (b : ℕ) → branches_to code b t ≡ false
unfolding is_target
none_target code t h b =
    elim (either (branches_to code b t)) [
      | inl e ↦ none_below (length code) (λ b. branches_to code b t) h b (branch_within code b t e)
      | inr e ↦ e
    ]

-- ---- a word that is found

pub record Stands (code : List ℕ) (i : ℕ) (m : Meaning) (j : Form) : Type 0 where
  pub fine : is_in_profile j ≡ true
  pub means : meaning j ≡ m
  pub clear : IsClear code i (Some j)
  pub next : clash (Some j) (form_at code (i + 2)) ≡ false

pub stands_is : (code : List ℕ) (i : ℕ) (m : Meaning) (j : Form) → stands code i m j ≡ true → Stands code i m j
unfolding stands
stands_is code i m j h =
    let p = parts _ _ h in
    let q = parts _ _ p.0 in
    let r = parts _ _ q.0 in
    let s = parts _ _ q.1 in
    record {
      fine = r.1;
      means = meaning_is (meaning j) m r.0;
      clear = clear_of code i (Some j) (false_of_not _ s.0) (false_of_not _ p.1);
      next = false_of_not _ s.1;
    }

pub is_standing : (code : List ℕ) (i : ℕ) (m : Meaning) (j : Form) → Stands code i m j → stands code i m j ≡ true
unfolding stands
is_standing code i m j s =
    both_true _ _ (both_true _ _ (both_true _ _ (subst (λ (n : Meaning). same_meaning n m ≡ true) (sym s.means) (meaning_self m)) s.fine)
    (both_true _ _ (not_false _ (back_clear code i (Some j) s.clear)) (not_false _ s.next)))
    (not_false _ (jumps_clear code i (Some j) s.clear))

pub stands_alike : (code : List ℕ) (i : ℕ) (m : Meaning) (j c : Form) → Stands code i m j → Alike j c → Stands code i m c
stands_alike code i m j c s a =
    record { fine = a.fine; means = a.means ∙ s.means; clear = λ p b. a.before (form_at code p) (s.clear p b); next = a.after (form_at code (i + 2)) ∙ s.next }

-- ---- all that the search tries

word_is : (head : Head) (unpack : ℕ) (add : AddPart) (mul : MulPart) (flags swap : Bool) (ra rb : ℕ) → is_end_head head ≡ false
    → word_for (meaning (Alu head unpack add mul flags swap ra rb)) (is_small head) ra rb swap
    ≡ Alu head unpack (record add { a = pick ra (operand (is_small head) ra rb add.a); b = pick ra (operand (is_small head) ra rb add.b) })
    (record mul { a = pick ra (operand (is_small head) ra rb mul.a); b = pick ra (operand (is_small head) ra rb mul.b) }) flags swap ra rb
unfolding word_for meaning
word_is Plain unpack add mul flags swap ra rb h = refl
word_is Small unpack add mul flags swap ra rb h = refl
word_is End unpack add mul flags swap ra rb h = absurd (cc)

source_small : (x : ℕ) → is_source x ≡ true → x < 64
unfolding is_source
source_small x h = grind (arith, nat_tests)

b_small : (s : Bool) (rb m : ℕ) (f : Bool) (a b d e : ℕ) → is_small_ok s rb m f a b d e ≡ true → rb < 64
unfolding is_small_ok is_source
b_small true rb m f a b d e h = grind (arith, nat_tests)
b_small false rb m f a b d e h = grind (arith, nat_tests)

swap_fits : (code : List ℕ) (i : ℕ) (m : Meaning) (small : Bool) (ra rb : ℕ) (swap : Bool) → stands code i m (word_for m small ra rb swap) ≡ true → fits code i m small ra rb ≡ true
unfolding fits
swap_fits code i m small ra rb false h = or_left _ _ h
swap_fits code i m small ra rb true h = or_right _ _ h

b_fits : (code : List ℕ) (i : ℕ) (m : Meaning) (small : Bool) (ra rb : ℕ) → is_useful_b m small rb ≡ true → fits code i m small ra rb ≡ true → fits_b code i m ra rb ≡ true
unfolding fits_b
b_fits code i m false ra rb u h = or_left _ _ (both_true _ _ u h)
b_fits code i m true ra rb u h = or_right _ _ (both_true _ _ u h)

pub some_fits : (code : List ℕ) (i : ℕ) (m : Meaning) (small : Bool) (ra rb : ℕ) (swap : Bool) → ra < 64 → rb < 64 → is_useful_a m ra ≡ true → is_useful_b m small rb ≡ true
    → stands code i m (word_for m small ra rb swap) ≡ true → fits_some code i m ≡ true
unfolding fits_some fits_some_b
some_fits code i m small ra rb swap a b u v h =
    found 64 (λ ra. is_useful_a m ra && fits_some_b code i m ra) ra a
    (both_true _ _ u (found 64 (λ rb. fits_b code i m ra rb) rb b (b_fits code i m small ra rb v (swap_fits code i m small ra rb swap h))))

abbrev IsUsefulA : Form → ℕ → Type 0
IsUsefulA j ra = is_useful_a (meaning j) ra ≡ true

-- a word whose addresses are worth trying is tried
tried : (code : List ℕ) (i : ℕ) (head : Head) (unpack : ℕ) (add : AddPart) (mul : MulPart) (flags swap : Bool) (ra rb : ℕ) → is_end_head head ≡ false
    → is_useful_a (meaning (Alu head unpack add mul flags swap ra rb)) ra ≡ true → is_useful_b (meaning (Alu head unpack add mul flags swap ra rb)) (is_small head) rb ≡ true
    → Stands code i (meaning (Alu head unpack add mul flags swap ra rb)) (Alu head unpack add mul flags swap ra rb)
    → fits_some code i (meaning (Alu head unpack add mul flags swap ra rb)) ≡ true
tried code i head unpack add mul flags swap ra rb e u v s =
    let p = profile head unpack add mul flags swap ra rb s.fine in
    let a = part_selectors _ _ _ add.a add.b p.add_part in
    let m = part_selectors _ _ _ mul.a mul.b p.mul_part in
    let alike = alike_moved head unpack add mul flags swap ra rb _ _ _ _ (picked (is_small head) ra rb add.a a.0) (picked (is_small head) ra rb add.b a.1)
    (picked (is_small head) ra rb mul.a m.0) (picked (is_small head) ra rb mul.b m.1) s.fine in
    some_fits code i (meaning (Alu head unpack add mul flags swap ra rb)) (is_small head) ra rb swap (source_small ra p.source)
    (b_small (head_code head == 13) rb (mul_code mul.op) flags add.a add.b mul.a mul.b p.small) u v
    (subst (λ (w : Form). stands code i (meaning (Alu head unpack add mul flags swap ra rb)) w ≡ true) (sym (word_is head unpack add mul flags swap ra rb e))
    (is_standing code i (meaning (Alu head unpack add mul flags swap ra rb)) _ (stands_alike code i (meaning (Alu head unpack add mul flags swap ra rb)) _ _ s alike)))

tried_m : (code : List ℕ) (i : ℕ) (m : Meaning) (head : Head) (unpack : ℕ) (add : AddPart) (mul : MulPart) (flags swap : Bool) (ra rb : ℕ) → is_end_head head ≡ false
    → meaning (Alu head unpack add mul flags swap ra rb) ≡ m
    → is_useful_a m ra ≡ true → is_useful_b m (is_small head) rb ≡ true → Stands code i m (Alu head unpack add mul flags swap ra rb) → fits_some code i m ≡ true
tried_m code i m head unpack add mul flags swap ra rb e means =
    subst (λ (m : Meaning). is_useful_a m ra ≡ true → is_useful_b m (is_small head) rb ≡ true → Stands code i m (Alu head unpack add mul flags swap ra rb) → fits_some code i m ≡ true)
    means (tried code i head unpack add mul flags swap ra rb e)

-- ---- an operand that is read through a port is wanted

or_map : (a b c d p q r s : Bool) → (a ≡ true → p ≡ true) → (b ≡ true → q ≡ true) → (c ≡ true → r ≡ true) → (d ≡ true → s ≡ true)
    → ((a || b) || (c || d)) ≡ true → ((p || q) || (r || s)) ≡ true
or_map true b c d p q r s f g h k e = or_left (p || q) _ (or_left p q (f refl))
or_map false true c d p q r s f g h k e = or_left (p || q) _ (or_right p q (g refl))
or_map false false true d p q r s f g h k e = or_right (p || q) _ (or_left r s (h refl))
or_map false false false true p q r s f g h k e = or_right (p || q) _ (or_right r s (k refl))
or_map false false false false p q r s f g h k e = absurd (cc)

by_six : (small : Bool) (ra rb s : ℕ) → (s == 6) ≡ true → same (read_a ra) (operand small ra rb s) ≡ true
by_six small ra rb s h = rw (eq_is s 6 h) (same_self (read_a ra))

by_seven : (small : Bool) (ra rb s : ℕ) → (s == 7) ≡ true → same (read_b small rb) (operand small ra rb s) ≡ true
by_seven small ra rb s h = rw (eq_is s 7 h) (same_self (read_b small rb))

wanted_a : (head : Head) (unpack : ℕ) (add : AddPart) (mul : MulPart) (flags swap : Bool) (ra rb : ℕ) → selects 6 add mul ≡ true
    → is_wanted (meaning (Alu head unpack add mul flags swap ra rb)) (read_a ra) ≡ true
unfolding meaning
wanted_a head unpack add mul flags swap ra rb h =
    or_map (add.a == 6) (add.b == 6) (mul.a == 6) (mul.b == 6) _ _ _ _ (by_six (is_small head) ra rb add.a) (by_six (is_small head) ra rb add.b)
    (by_six (is_small head) ra rb mul.a) (by_six (is_small head) ra rb mul.b) h

wanted_b : (head : Head) (unpack : ℕ) (add : AddPart) (mul : MulPart) (flags swap : Bool) (ra rb : ℕ) → selects 7 add mul ≡ true
    → is_wanted (meaning (Alu head unpack add mul flags swap ra rb)) (read_b (is_small head) rb) ≡ true
unfolding meaning
wanted_b head unpack add mul flags swap ra rb h =
    or_map (add.a == 7) (add.b == 7) (mul.a == 7) (mul.b == 7) _ _ _ _ (by_seven (is_small head) ra rb add.a) (by_seven (is_small head) ra rb add.b)
    (by_seven (is_small head) ra rb mul.a) (by_seven (is_small head) ra rb mul.b) h

useful_a_of : (m : Meaning) (ra : ℕ) → (is_read_a m.reads ra || is_wanted m (read_a ra)) ≡ true → is_useful_a m ra ≡ true
unfolding is_useful_a
useful_a_of m ra h = h

useful_b_of : (m : Meaning) (small : Bool) (rb : ℕ) → ((if small then nat_le 48 rb && (m.mul.turn == rb) else is_read_b m.reads rb) || is_wanted m (read_b small rb)) ≡ true → is_useful_b m small rb ≡ true
unfolding is_useful_b
useful_b_of m small rb h = h

-- an address that reads a peripheral is worth trying, since the meaning says so

one_and : (b : Bool) → (1 + count b == 0) ≡ false
one_and true = refl
one_and false = refl

and_one : (b : Bool) → (count b + 1 == 0) ≡ false
and_one true = refl
and_one false = refl

read_a_of : (small : Bool) (rb : ℕ) (ra : ℕ) → is_common ra ≡ true → is_read_a (reads_of small ra rb) ra ≡ true
read_a_of small rb ra h =
    elim (or_cases (((ra == 39) || (ra == 32)) || (ra == 48)) ((ra == 50) || (ra == 51)) h) [
      | inl p ↦ elim (or_cases ((ra == 39) || (ra == 32)) (ra == 48) p) [
        | inl q ↦ elim (or_cases (ra == 39) (ra == 32) q) [
          | inl e ↦ rw (eq_is ra 39 e) refl
          | inr e ↦ rw (eq_is ra 32 e, one_and (not small && (rb == 32))) refl
        ]
        | inr e ↦ rw (eq_is ra 48 e, one_and (not small && (rb == 48))) refl
      ]
      | inr p ↦ elim (or_cases (ra == 50) (ra == 51) p) [
        | inl e ↦ rw (eq_is ra 50 e) refl
        | inr e ↦ rw (eq_is ra 51 e, one_and (not small && (rb == 51))) refl
      ]
    ]

read_b_of : (ra rb : ℕ) → is_common rb ≡ true → is_read_b (reads_of false ra rb) rb ≡ true
read_b_of ra rb h =
    elim (or_cases (((rb == 39) || (rb == 32)) || (rb == 48)) ((rb == 50) || (rb == 51)) h) [
      | inl p ↦ elim (or_cases ((rb == 39) || (rb == 32)) (rb == 48) p) [
        | inl q ↦ elim (or_cases (rb == 39) (rb == 32) q) [
          | inl e ↦ rw (eq_is rb 39 e) refl
          | inr e ↦ rw (eq_is rb 32 e, and_one (ra == 32)) refl
        ]
        | inr e ↦ rw (eq_is rb 48 e, and_one (ra == 48)) refl
      ]
      | inr p ↦ elim (or_cases (rb == 50) (rb == 51) p) [
        | inl e ↦ rw (eq_is rb 50 e) refl
        | inr e ↦ rw (eq_is rb 51 e, and_one (ra == 51)) refl
      ]
    ]

useful_by_reads_a : (m : Meaning) (small : Bool) (ra rb : ℕ) → m.reads ≡ reads_of small ra rb → is_common ra ≡ true → is_useful_a m ra ≡ true
useful_by_reads_a m small ra rb r h = useful_a_of m ra (or_left _ _ (subst (λ (x : Reads). is_read_a x ra ≡ true) (sym r) (read_a_of small rb ra h)))

useful_by_reads_b : (m : Meaning) (small : Bool) (ra rb : ℕ) → m.reads ≡ reads_of small ra rb → m.mul.turn ≡ turn small rb
    → (if small then nat_le 48 rb else is_common rb) ≡ true → is_useful_b m small rb ≡ true
useful_by_reads_b m true ra rb r t h =
    let same_turn : (m.mul.turn == rb) ≡ true = rw (t, h) (eq_self rb) in
    useful_b_of m true rb (or_left _ _ (both_true _ _ h same_turn))
useful_by_reads_b m false ra rb r t h =
    useful_b_of m false rb (or_left _ _ (subst (λ (x : Reads). is_read_b x rb ≡ true) (sym r) (read_b_of ra rb h)))

useful_common_a : (head : Head) (unpack : ℕ) (add : AddPart) (mul : MulPart) (flags swap : Bool) (ra rb : ℕ) → is_common ra ≡ true
    → is_useful_a (meaning (Alu head unpack add mul flags swap ra rb)) ra ≡ true
unfolding meaning
useful_common_a head unpack add mul flags swap ra rb h = useful_by_reads_a (meaning (Alu head unpack add mul flags swap ra rb)) (is_small head) ra rb refl h

useful_common_b : (head : Head) (unpack : ℕ) (add : AddPart) (mul : MulPart) (flags swap : Bool) (ra rb : ℕ)
    → (if is_small head then nat_le 48 rb else is_common rb) ≡ true → is_useful_b (meaning (Alu head unpack add mul flags swap ra rb)) (is_small head) rb ≡ true
unfolding meaning
useful_common_b head unpack add mul flags swap ra rb h = useful_by_reads_b (meaning (Alu head unpack add mul flags swap ra rb)) (is_small head) ra rb refl refl h

quiet_b : (small : Bool) (rb : ℕ) → (if small then nat_le 48 rb else is_common rb) ≡ false → QuietB small rb
quiet_b true rb h = record { turn = rw h refl; uniform = refl; row = refl; wait = refl; lock = refl }
quiet_b false rb h =
    let q = quiet rb h in
    record { turn = refl; uniform = q.thirty_two; row = q.forty_eight; wait = q.fifty; lock = q.fifty_one }

-- with an address of A that is worth trying
with_a : (code : List ℕ) (i : ℕ) (m : Meaning) (head : Head) (unpack : ℕ) (add : AddPart) (mul : MulPart) (flags swap : Bool) (ra rb : ℕ) → is_end_head head ≡ false
    → is_useful_a m ra ≡ true → Stands code i m (Alu head unpack add mul flags swap ra rb) → fits_some code i m ≡ true
with_a code i m head unpack add mul flags swap ra rb e u s =
    elim (either (if is_small head then nat_le 48 rb else is_common rb)) [
      | inl g ↦ tried_m code i m head unpack add mul flags swap ra rb e s.means u (subst (λ (m : Meaning). is_useful_b m (is_small head) rb ≡ true) s.means (useful_common_b head unpack add mul flags swap ra rb g)) s
      | inr g ↦ elim (either (selects 7 add mul)) [
        | inl w ↦ tried_m code i m head unpack add mul flags swap ra rb e s.means u
            (useful_b_of m (is_small head) rb (or_right _ _ (subst (λ (m : Meaning). is_wanted m (read_b (is_small head) rb) ≡ true) s.means (wanted_b head unpack add mul flags swap ra rb w)))) s
        | inr w ↦
            let c = stands_alike code i m _ _ s (alike_no_b head unpack add mul flags swap ra rb (unselected 7 add mul w) (quiet_b (is_small head) rb g) s.fine) in
            tried_m code i m Plain unpack add mul flags swap ra 39 refl c.means u (useful_b_of m false 39 refl) c
      ]
    ]

-- any word that stands is found in some form
pub complete : (code : List ℕ) (i : ℕ) (m : Meaning) (j : Form) → goes_on j ≡ true → Stands code i m j → fits_some code i m ≡ true
complete code i m (Ldi a b c d e f) g s = absurd (cc)
complete code i m (Bra a b) g s = absurd (cc)
complete code i m (Alu head unpack add mul flags swap ra rb) g s =
    let e : is_end_head head ≡ false = false_of_not (is_end_head head) g in
    elim (either (is_common ra)) [
      | inl k ↦ with_a code i m head unpack add mul flags swap ra rb e (subst (λ (m : Meaning). is_useful_a m ra ≡ true) s.means (useful_common_a head unpack add mul flags swap ra rb k)) s
      | inr k ↦ elim (either (selects 6 add mul)) [
        | inl w ↦ with_a code i m head unpack add mul flags swap ra rb e
            (useful_a_of m ra (or_right _ _ (subst (λ (m : Meaning). is_wanted m (read_a ra) ≡ true) s.means (wanted_a head unpack add mul flags swap ra rb w)))) s
        | inr w ↦
            let c = stands_alike code i m _ _ s (alike_no_a head unpack add mul flags swap ra rb (unselected 6 add mul w) (quiet ra k) s.fine) in
            with_a code i m head unpack add mul flags swap 39 rb e (useful_a_of m 39 refl) c
      ]
    ]

word_goes_on : (m : Meaning) (small : Bool) (ra rb : ℕ) (swap : Bool) → goes_on (word_for m small ra rb swap) ≡ true
unfolding word_for
word_goes_on m true ra rb swap = refl
word_goes_on m false ra rb swap = refl

pub record Found (code : List ℕ) (i : ℕ) (m : Meaning) : Type 0 where
  pub j : Form
  pub plain : goes_on j ≡ true
  pub stands : Stands code i m j

fits_sound : (code : List ℕ) (i : ℕ) (m : Meaning) (small : Bool) (ra rb : ℕ) → fits code i m small ra rb ≡ true → Found code i m
unfolding fits
fits_sound code i m small ra rb h =
    elim (or_cases _ _ h) [
      | inl e ↦ record { j = word_for m small ra rb false; plain = word_goes_on m small ra rb false; stands = stands_is code i m _ e }
      | inr e ↦ record { j = word_for m small ra rb true; plain = word_goes_on m small ra rb true; stands = stands_is code i m _ e }
    ]

fits_b_sound : (code : List ℕ) (i : ℕ) (m : Meaning) (ra rb : ℕ) → fits_b code i m ra rb ≡ true → Found code i m
unfolding fits_b
fits_b_sound code i m ra rb h =
    elim (or_cases (is_useful_b m false rb && fits code i m false ra rb) (is_useful_b m true rb && fits code i m true ra rb) h) [
      | inl e ↦ fits_sound code i m false ra rb (parts (is_useful_b m false rb) _ e).1
      | inr e ↦ fits_sound code i m true ra rb (parts (is_useful_b m true rb) _ e).1
    ]

pub sound : (code : List ℕ) (i : ℕ) (m : Meaning) → fits_some code i m ≡ true → Found code i m
unfolding fits_some fits_some_b
sound code i m h =
    let a = some_below 64 (λ ra. is_useful_a m ra && fits_some_b code i m ra) h in
    let b = some_below 64 (λ rb. fits_b code i m a.0 rb) (parts _ _ a.2).1 in
    fits_b_sound code i m a.0 b.0 b.2

-- ---- in some forms

pub record Together (code : List ℕ) (i : ℕ) (x y : Form) : Type 0 where
  pub free : is_free x y ≡ true
  pub j : Form
  pub joint : IsJoint x y j
  pub clear : IsClear code i (Some j)
  pub next : clash (Some j) (form_at code (i + 2)) ≡ false

pub together_sound : (code : List ℕ) (i : ℕ) (x y : Form) → fit_together code i x y ≡ true → Together code i x y
unfolding fit_together
together_sound code i x y h =
    let p = parts _ _ h in
    let q = parts _ _ p.1 in
    let f = sound code i (both (meaning x) (meaning y)) q.1 in
    record { free = p.0; j = f.j; joint = record { fine = f.stands.fine; plain = f.plain; apart = q.0; means = f.stands.means }; clear = f.stands.clear; next = f.stands.next }

pub together_complete : (code : List ℕ) (i : ℕ) (x y : Form) → Together code i x y → fit_together code i x y ≡ true
unfolding fit_together
together_complete code i x y t =
    both_true _ _ t.free (both_true _ _ t.joint.apart
    (complete code i (both (meaning x) (meaning y)) t.j t.joint.plain (record { fine = t.joint.fine; means = t.joint.means; clear = t.clear; next = t.next })))

pub record TogetherInForms (code : List ℕ) (i : ℕ) (u v : Form) : Type 0 where
  pub x : Form
  pub y : Form
  pub first_form : IsForm u x
  pub second_form : IsForm v y
  pub together : Together code i x y

second_sound : (code : List ℕ) (i : ℕ) (u v x : Form) → IsForm u x → (o : Option Form) → other v ≡ o → (fit_together code i x v || fit_other code i x o) ≡ true → TogetherInForms code i u v
second_sound code i u v x f None e h =
    elim (or_cases _ _ h) [
      | inl t ↦ record { x = x; y = v; first_form = f; second_form = inl refl; together = together_sound code i x v t }
      | inr t ↦ absurd (cc)
    ]
second_sound code i u v x f (Some y) e h =
    elim (or_cases _ _ h) [
      | inl t ↦ record { x = x; y = v; first_form = f; second_form = inl refl; together = together_sound code i x v t }
      | inr t ↦ record { x = x; y = y; first_form = f; second_form = inr e; together = together_sound code i x y t }
    ]

second_is : (code : List ℕ) (i : ℕ) (u v x : Form) → IsForm u x → fit_second code i x v ≡ true → TogetherInForms code i u v
unfolding fit_second
second_is code i u v x f h = second_sound code i u v x f (other v) refl h

first_sound : (code : List ℕ) (i : ℕ) (u v : Form) (o : Option Form) → other u ≡ o → (fit_second code i u v || fit_first code i o v) ≡ true → TogetherInForms code i u v
first_sound code i u v None e h =
    elim (or_cases _ _ h) [ inl t ↦ second_is code i u v u (inl refl) t | inr t ↦ absurd (cc) ]
first_sound code i u v (Some x) e h =
    elim (or_cases _ _ h) [ inl t ↦ second_is code i u v u (inl refl) t | inr t ↦ second_is code i u v x (inr e) t ]

pub forms_sound : (code : List ℕ) (i : ℕ) (u v : Form) → fit_forms code i u v ≡ true → TogetherInForms code i u v
unfolding fit_forms
forms_sound code i u v h = first_sound code i u v (other u) refl h

second_complete : (code : List ℕ) (i : ℕ) (x v y : Form) → IsForm v y → Together code i x y → fit_second code i x v ≡ true
unfolding fit_second
second_complete code i x v y (inl e) t = or_left _ _ (together_complete code i x v (subst (λ (y : Form). Together code i x y) e t))
second_complete code i x v y (inr e) t = or_right (fit_together code i x v) (fit_other code i x (other v)) (rw e (together_complete code i x y t))

first_complete : (code : List ℕ) (i : ℕ) (u v x : Form) → IsForm u x → fit_second code i x v ≡ true → fit_forms code i u v ≡ true
unfolding fit_forms
first_complete code i u v x (inl e) h = or_left _ _ (subst (λ (x : Form). fit_second code i x v ≡ true) e h)
first_complete code i u v x (inr e) h = or_right (fit_second code i u v) (fit_first code i (other u) v) (rw e h)

pub forms_complete : (code : List ℕ) (i : ℕ) (u v : Form) → TogetherInForms code i u v → fit_forms code i u v ≡ true
forms_complete code i u v t = first_complete code i u v t.x t.first_form (second_complete code i t.x v t.y t.second_form t.together)
