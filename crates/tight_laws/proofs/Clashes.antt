-- Clashes are breaches of H1 to H3.
use Rattle.std.proofs.Common.{◌≡◌, ℕ, zero, suc, ◌+◌, ◌≤◌, Bool, true, false, refl, sym, ap, ◌∙◌, arith}
use Rattle.std.specs.Prelude.{◌||◌, ◌&&◌, not, nat_le, nat_lt, ◌==◌, Option, Some, None, if◌then◌else◌}
use Rattle.std.proofs.lemmas.Bool.Decides.{nat_tests}
use Rattle.qpu_encode.specs.declared.form.Head.TheVariants.{Plain, End, Small}
use Rattle.qpu_encode.specs.declared.form.Form.{Form}
use Rattle.qpu_encode.specs.declared.form.Form.TheVariants.{Alu, Ldi, Bra}
use Rattle.qpu_encode.specs.WordFields.{is_in_profile, is_small}
use Rattle.tight_words.specs.Meaning.{read_a, read_b, turn}
use Rattle.tight_words.specs.Registers.{writes, reads_fresh, turns_fresh, is_old}
use Rattle.tight_words.specs.declared.meaning.Source.TheVariants.{Acc, Five, FileA, FileB, Element, Qpu, Uniform, Row, Constant}
use Rattle.qpu_rules.specs.declared.recent.Recent.{Recent}
use Rattle.qpu_rules.specs.Uses.{register, file_written, accs_written, five_written, is_rotation}
use Rattle.qpu_rules.specs.Restrictions.{is_same, is_settled, breaks_h1, breaks_h2, breaks_h3}
use Rattle.qpu_rules.proofs.Accs.{accs_are_bits}
use Rattle.tight_laws.specs.Agreement.{IsAfter, ClashesBreak}
use Rattle.tight_laws.proofs.Written.{or_both, writes_a, writes_b, writes_accumulator, writes_five, writes_port}

-- ---- H1

same_none : (o : Option ℕ) → is_same o None ≡ false
same_none None = refl
same_none (Some x) = refl

reads_a : (p : Form) (x : ℕ) → writes p (read_a x) ≡ is_same (file_written false p) (register x)
reads_a p x =
    let file = writes_a p x in
    let none = same_none (file_written false p) in
    let uniform = writes_port p Uniform refl in
    let element = writes_port p Element refl in
    let row = writes_port p Row refl in
    let zero_word = writes_port p (Constant 0) refl in
    grind (arith, nat_tests, file, none, uniform, element, row, zero_word)

reads_b : (p : Form) (x : ℕ) → writes p (read_b false x) ≡ is_same (file_written true p) (register x)
reads_b p x =
    let file = writes_b p x in
    let none = same_none (file_written true p) in
    let uniform = writes_port p Uniform refl in
    let qpu = writes_port p Qpu refl in
    let row = writes_port p Row refl in
    let zero_word = writes_port p (Constant 0) refl in
    grind (arith, nat_tests, file, none, uniform, qpu, row, zero_word)

h1 : (p f : Form) (r : Recent) → IsAfter p r → reads_fresh p f ≡ breaks_h1 f r
unfolding reads_fresh breaks_h1
h1 p (Alu Plain unpack add mul flags swap ra rb) r h =
    or_both _ _ _ _ (reads_a p ra ∙ ap (λ o. is_same o (register ra)) (sym h.file_a)) (reads_b p rb ∙ ap (λ o. is_same o (register rb)) (sym h.file_b))
h1 p (Alu End unpack add mul flags swap ra rb) r h =
    or_both _ _ _ _ (reads_a p ra ∙ ap (λ o. is_same o (register ra)) (sym h.file_a)) (reads_b p rb ∙ ap (λ o. is_same o (register rb)) (sym h.file_b))
h1 p (Alu Small unpack add mul flags swap ra rb) r h =
    or_both _ _ _ _ (reads_a p ra ∙ ap (λ o. is_same o (register ra)) (sym h.file_a)) (writes_port p (read_b true rb) refl ∙ sym (same_none r.file_b))
h1 p (Ldi add_cond mul_cond swap add_dst mul_dst value) r h = sym (or_both _ _ false false (same_none r.file_a) (same_none r.file_b))
h1 p (Bra c words) r h = sym (or_both _ _ false false (same_none r.file_a) (same_none r.file_b))

-- ---- H2 and H3

settled : (p : Form) (s : ℕ) → is_old p s ≡ is_settled (accs_written p) s
settled p zero = ap not (writes_accumulator p 0 (omega arith) ∙ sym (accs_are_bits p).0)
settled p (suc zero) = ap not (writes_accumulator p 1 (omega arith) ∙ sym (accs_are_bits p).1)
settled p (suc (suc zero)) = ap not (writes_accumulator p 2 (omega arith) ∙ sym (accs_are_bits p).2)
settled p (suc (suc (suc zero))) = ap not (writes_accumulator p 3 (omega arith) ∙ sym (accs_are_bits p).3)
settled p (suc (suc (suc (suc s)))) = grind (arith, nat_tests)

and_left : (a b : Bool) → (a && b) ≡ true → a ≡ true
and_left true b h = refl
and_left false b h = absurd cc

and_right : (a b : Bool) → (a && b) ≡ true → b ≡ true
and_right true b h = h
and_right false b h = absurd cc

turned : (t g n m a b c d v w : Bool) → t ≡ g → n ≡ m → a ≡ c → b ≡ d → v ≡ w → ((t && not (a && b)) || (n && v)) ≡ ((g && not (c && (d && true))) || (m && w))
turned t g n m a b c d v w e h i j k = grind (arith, e, h, i, j, k)

code : (rb : ℕ) (rest : Bool) → (nat_le rb 31 || ((nat_le 48 rb && nat_le rb 63) && rest)) ≡ true → (not (turn true rb == 0) ≡ is_rotation rb) × ((turn true rb == 48) ≡ (rb == 48))
code rb rest h = (grind (arith, nat_tests, h), grind (arith, nat_tests, h))

h23 : (p f : Form) (r : Recent) → IsAfter p r → is_in_profile f ≡ true → turns_fresh p f ≡ (breaks_h2 f r || breaks_h3 f r)
unfolding turns_fresh breaks_h2 breaks_h3 is_in_profile is_small
h23 p (Alu Plain unpack add mul flags swap ra rb) r h fine = refl
h23 p (Alu End unpack add mul flags swap ra rb) r h fine = refl
h23 p (Alu Small unpack add mul flags swap ra rb) r h fine =
    let codes = code rb _ (and_left _ _ (and_right _ _ (and_right _ _ fine))) in
    turned _ _ _ _ _ _ _ _ _ _ codes.0 codes.1
    (settled p mul.a ∙ ap (λ accs. is_settled accs mul.a) (sym h.accs)) (settled p mul.b ∙ ap (λ accs. is_settled accs mul.b) (sym h.accs))
    (writes_five p ∙ sym h.five)
h23 p (Ldi add_cond mul_cond swap add_dst mul_dst value) r h fine = refl
h23 p (Bra c words) r h fine = refl

pub clashes_break : ClashesBreak
clashes_break before f r after fine = or_both _ _ _ _ (h1 before f r after) (h23 before f r after fine)
