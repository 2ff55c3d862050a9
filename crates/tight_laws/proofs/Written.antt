-- What a word writes: the same by both definitions.
use Rattle.std.proofs.Common.{◌≡◌, ℕ, zero, suc, ◌+◌, ◌-◌, ◌≤◌, Bool, true, false, refl, sym, ap, ◌∙◌, arith, inl, inr}
use Rattle.std.specs.Prelude.{◌⊎◌, ◌||◌, ◌&&◌, not, nat_le, nat_lt, ◌==◌, Option, Some, None, if◌then◌else◌}
use Rattle.std.proofs.lemmas.Bool.Decides.{nat_tests}
use Rattle.qpu_encode.specs.declared.form.Cond.{Cond}
use Rattle.qpu_encode.specs.declared.form.Cond.TheVariants.{Never, Always, Zs, Zc, Ns, Nc}
use Rattle.qpu_encode.specs.declared.form.Form.{Form}
use Rattle.qpu_encode.specs.declared.form.Form.TheVariants.{Alu, Ldi, Bra}
use Rattle.tight_words.specs.Meaning.{same, read_a, read_b}
use Rattle.tight_words.specs.Registers.{register_at, written, is_this, writes, first_target, second_target}
use Rattle.tight_words.specs.declared.meaning.Source.{Source}
use Rattle.tight_words.specs.declared.meaning.Source.TheVariants.{Acc, Five, FileA, FileB, Element, Qpu, Uniform, Row, Constant}
use Rattle.tight_words.specs.declared.registers.Target.{Target}
use Rattle.qpu_rules.specs.Uses.{register, written_in, or_else, file_written, add_target, mul_target, is_written_at, writes_acc, five_written, accs_written}
use Rattle.qpu_rules.specs.Restrictions.{is_same, has_acc}
use Rattle.qpu_rules.proofs.Accs.{accs_are_bits}

-- ---- by a unit: through a file, with a condition, to an address

abbrev Told : Source → Bool → Bool → Cond → ℕ → Type 0
Told s value b c dst = is_this (written (record { through_b = b; dst = dst; cond = c })) s ≡ value

-- a condition is never, or none
by_cond : (s : Source) (b : Bool) (dst : ℕ) (value : Cond → Bool) → value Never ≡ false → (on : Bool) → value Always ≡ on → value Zs ≡ on → value Zc ≡ on → value Ns ≡ on → value Nc ≡ on
    → is_this (register_at b dst) s ≡ on → (c : Cond) → Told s (value c) b c dst
unfolding written
by_cond s b dst value never on always zs zc ns nc is Never = sym never
by_cond s b dst value never on always zs zc ns nc is Always = is ∙ sym always
by_cond s b dst value never on always zs zc ns nc is Zs = is ∙ sym zs
by_cond s b dst value never on always zs zc ns nc is Zc = is ∙ sym zc
by_cond s b dst value never on always zs zc ns nc is Ns = is ∙ sym ns
by_cond s b dst value never on always zs zc ns nc is Nc = is ∙ sym nc

at_a : (dst x : ℕ) → is_this (register_at false dst) (FileA x) ≡ is_same (register dst) (Some x)
at_a dst x = grind (arith, nat_tests)

past_a : (dst x : ℕ) → is_this (register_at true dst) (FileA x) ≡ false
past_a dst x = grind (arith, nat_tests)

at_b : (dst x : ℕ) → is_this (register_at true dst) (FileB x) ≡ is_same (register dst) (Some x)
at_b dst x = grind (arith, nat_tests)

past_b : (dst x : ℕ) → is_this (register_at false dst) (FileB x) ≡ false
past_b dst x = grind (arith, nat_tests)

in_a : (b : Bool) (c : Cond) (dst x : ℕ) → Told (FileA x) (is_same (written_in false (record { cond = c; through_b = b; dst = dst })) (Some x)) b c dst
in_a false c dst x =
    by_cond (FileA x) false dst (λ d. is_same (written_in false (record { cond = d; through_b = false; dst = dst })) (Some x)) refl (is_same (register dst) (Some x)) refl refl refl refl refl (at_a dst x) c
in_a true c dst x =
    by_cond (FileA x) true dst (λ d. is_same (written_in false (record { cond = d; through_b = true; dst = dst })) (Some x)) refl false refl refl refl refl refl (past_a dst x) c

in_b : (b : Bool) (c : Cond) (dst x : ℕ) → Told (FileB x) (is_same (written_in true (record { cond = c; through_b = b; dst = dst })) (Some x)) b c dst
in_b true c dst x =
    by_cond (FileB x) true dst (λ d. is_same (written_in true (record { cond = d; through_b = true; dst = dst })) (Some x)) refl (is_same (register dst) (Some x)) refl refl refl refl refl (at_b dst x) c
in_b false c dst x =
    by_cond (FileB x) false dst (λ d. is_same (written_in true (record { cond = d; through_b = false; dst = dst })) (Some x)) refl false refl refl refl refl refl (past_b dst x) c

at_acc : (b : Bool) (dst i : ℕ) → i ≤ 3 → is_this (register_at b dst) (Acc i) ≡ (dst == 32 + i)
at_acc false dst i h = grind (arith, nat_tests, h)
at_acc true dst i h = grind (arith, nat_tests, h)

in_acc : (b : Bool) (c : Cond) (dst i : ℕ) → i ≤ 3 → Told (Acc i) (is_written_at (32 + i) (record { cond = c; through_b = b; dst = dst })) b c dst
in_acc b c dst i h =
    by_cond (Acc i) b dst (λ d. is_written_at (32 + i) (record { cond = d; through_b = b; dst = dst })) refl (dst == 32 + i) refl refl refl refl refl (at_acc b dst i h) c

at_five : (b : Bool) (dst : ℕ) → is_this (register_at b dst) Five ≡ (dst == 37)
at_five false dst = grind (arith, nat_tests)
at_five true dst = grind (arith, nat_tests)

in_five : (b : Bool) (c : Cond) (dst : ℕ) → Told Five (is_written_at 37 (record { cond = c; through_b = b; dst = dst })) b c dst
in_five b c dst = by_cond Five b dst (λ d. is_written_at 37 (record { cond = d; through_b = b; dst = dst })) refl (dst == 37) refl refl refl refl refl (at_five b dst) c

-- ---- by a word

-- one of the two units goes through the file
parted : (a b : Bool) (o q : Option ℕ) (y : Option ℕ) → a ≡ is_same o y → b ≡ is_same q y → (o ≡ None) ⊎ (q ≡ None) → (a || b) ≡ is_same (or_else o q) y
parted a b None q y e d h = ap (λ c. c || b) e ∙ d
parted a b (Some x) None y e d h = ap (λ c. a || c) d ∙ or_false a ∙ e
  where
    or_false : (c : Bool) → (c || false) ≡ c
    or_false true = refl
    or_false false = refl
parted a b (Some x) (Some z) y e d (inl h) = absurd cc
parted a b (Some x) (Some z) y e d (inr h) = absurd cc

pub writes_a : (p : Form) (x : ℕ) → writes p (FileA x) ≡ is_same (file_written false p) (Some x)
unfolding writes file_written
writes_a (Alu head unpack add mul flags false ra rb) x = parted _ _ _ _ (Some x) (in_a false add.cond add.dst x) (in_a true mul.cond mul.dst x) (inr refl)
writes_a (Alu head unpack add mul flags true ra rb) x = parted _ _ _ _ (Some x) (in_a true add.cond add.dst x) (in_a false mul.cond mul.dst x) (inl refl)
writes_a (Ldi add_cond mul_cond false add_dst mul_dst value) x = parted _ _ _ _ (Some x) (in_a false add_cond add_dst x) (in_a true mul_cond mul_dst x) (inr refl)
writes_a (Ldi add_cond mul_cond true add_dst mul_dst value) x = parted _ _ _ _ (Some x) (in_a true add_cond add_dst x) (in_a false mul_cond mul_dst x) (inl refl)
writes_a (Bra c words) x = parted _ _ None None (Some x) (in_a false Never 39 x) (in_a true Never 39 x) (inl refl)

pub writes_b : (p : Form) (x : ℕ) → writes p (FileB x) ≡ is_same (file_written true p) (Some x)
unfolding writes file_written
writes_b (Alu head unpack add mul flags false ra rb) x = parted _ _ _ _ (Some x) (in_b false add.cond add.dst x) (in_b true mul.cond mul.dst x) (inl refl)
writes_b (Alu head unpack add mul flags true ra rb) x = parted _ _ _ _ (Some x) (in_b true add.cond add.dst x) (in_b false mul.cond mul.dst x) (inr refl)
writes_b (Ldi add_cond mul_cond false add_dst mul_dst value) x = parted _ _ _ _ (Some x) (in_b false add_cond add_dst x) (in_b true mul_cond mul_dst x) (inl refl)
writes_b (Ldi add_cond mul_cond true add_dst mul_dst value) x = parted _ _ _ _ (Some x) (in_b true add_cond add_dst x) (in_b false mul_cond mul_dst x) (inr refl)
writes_b (Bra c words) x = parted _ _ None None (Some x) (in_b false Never 39 x) (in_b true Never 39 x) (inl refl)

pub or_both : (a b c d : Bool) → a ≡ c → b ≡ d → (a || b) ≡ (c || d)
or_both a b c d e h = ap (λ x. x || b) e ∙ ap (λ x. c || x) h

pub writes_accumulator : (p : Form) (i : ℕ) → i ≤ 3 → writes p (Acc i) ≡ writes_acc i p
unfolding writes writes_acc
writes_accumulator (Alu head unpack add mul flags swap ra rb) i h = or_both _ _ _ _ (in_acc swap add.cond add.dst i h) (in_acc (not swap) mul.cond mul.dst i h)
writes_accumulator (Ldi add_cond mul_cond swap add_dst mul_dst value) i h = or_both _ _ _ _ (in_acc swap add_cond add_dst i h) (in_acc (not swap) mul_cond mul_dst i h)
writes_accumulator (Bra c words) i h = or_both _ _ _ _ (in_acc false Never 39 i h) (in_acc true Never 39 i h)

pub writes_five : (p : Form) → writes p Five ≡ five_written p
unfolding writes five_written
writes_five (Alu head unpack add mul flags swap ra rb) = or_both _ _ _ _ (in_five swap add.cond add.dst) (in_five (not swap) mul.cond mul.dst)
writes_five (Ldi add_cond mul_cond swap add_dst mul_dst value) = or_both _ _ _ _ (in_five swap add_cond add_dst) (in_five (not swap) mul_cond mul_dst)
writes_five (Bra c words) = or_both _ _ _ _ (in_five false Never 39) (in_five true Never 39)

-- ---- what is no register is never written

abbrev pub is_port : Source → Bool
is_port Uniform = true
is_port Element = true
is_port Qpu = true
is_port Row = true
is_port (Constant w) = true
is_port _ = false

at_port : (b : Bool) (dst : ℕ) (s : Source) → is_port s ≡ true → is_this (register_at b dst) s ≡ false
at_port false dst Uniform h = grind (arith, nat_tests)
at_port false dst Element h = grind (arith, nat_tests)
at_port false dst Qpu h = grind (arith, nat_tests)
at_port false dst Row h = grind (arith, nat_tests)
at_port false dst (Constant w) h = grind (arith, nat_tests)
at_port true dst Uniform h = grind (arith, nat_tests)
at_port true dst Element h = grind (arith, nat_tests)
at_port true dst Qpu h = grind (arith, nat_tests)
at_port true dst Row h = grind (arith, nat_tests)
at_port true dst (Constant w) h = grind (arith, nat_tests)
at_port b dst (Acc n) h = absurd cc
at_port b dst Five h = absurd cc
at_port b dst (FileA n) h = absurd cc
at_port b dst (FileB n) h = absurd cc

in_port : (b : Bool) (c : Cond) (dst : ℕ) (s : Source) → is_port s ≡ true → Told s false b c dst
in_port b c dst s h = by_cond s b dst (λ d. false) refl false refl refl refl refl refl (at_port b dst s h) c

pub writes_port : (p : Form) (s : Source) → is_port s ≡ true → writes p s ≡ false
unfolding writes
writes_port (Alu head unpack add mul flags swap ra rb) s h = or_both _ _ false false (in_port swap add.cond add.dst s h) (in_port (not swap) mul.cond mul.dst s h)
writes_port (Ldi add_cond mul_cond swap add_dst mul_dst value) s h = or_both _ _ false false (in_port swap add_cond add_dst s h) (in_port (not swap) mul_cond mul_dst s h)
writes_port (Bra c words) s h = or_both _ _ false false (in_port false Never 39 s h) (in_port true Never 39 s h)
