-- If any word does what two do, one of those that are tried does.
use Rattle.std.specs.Prelude.{◌≡◌, ◌⊎◌, ℕ, zero, suc, Bool, true, false, not, ◌&&◌, ◌||◌, ◌==◌, nat_le, if◌then◌else◌, refl}
use Rattle.std.specs.declared.option.Option.{Option}
use Rattle.std.specs.declared.option.Option.TheVariants.{Some, None}
use Rattle.std.proofs.Common.{arith, sym, ap, subst, ◌∙◌, inl, inr}
use Rattle.std.proofs.lemmas.Bool.Decides.{nat_tests}
use Rattle.qpu_encode.specs.declared.form.AddPart.{AddPart}
use Rattle.qpu_encode.specs.declared.form.MulPart.{MulPart}
use Rattle.qpu_encode.specs.declared.form.Head.{Head}
use Rattle.qpu_encode.specs.declared.form.Head.TheVariants.{Plain}
use Rattle.qpu_encode.specs.declared.form.Form.{Form}
use Rattle.qpu_encode.specs.declared.form.Form.TheVariants.{Alu, Ldi, Bra}
use Rattle.qpu_encode.specs.Codes.{add_code, mul_code, cond_code}
use Rattle.qpu_encode.specs.WordFields.{is_in_profile, is_part, is_small as is_small_ok, is_unpack, is_selector, is_source}
use Rattle.tight_words.specs.declared.meaning.Source.{Source}
use Rattle.tight_words.specs.declared.meaning.Source.TheVariants.{Acc, Five, FileA, FileB, Element, Qpu, Uniform, Row, Constant}
use Rattle.tight_words.specs.Meaning.{same, read_a, read_b, operand, is_small, meaning, turn}
use Rattle.tight_words.specs.Joint.{pick}
use Rattle.tight_words.specs.Registers.{clash, reads_fresh, turns_fresh, is_old, writes, written, is_this, register_at, first_target, second_target}
use Rattle.tight_words.specs.declared.registers.Target.{Target}
use Rattle.tight_words.specs.Joint.{is_common}
use Rattle.tight_words.proofs.Any.{or_false}
use Rattle.tight_words.proofs.Profile.{profile, of_profile, head_small}
use Rattle.tight_words.proofs.Same.{parts, same_is, same_self, eq_is}

pub if_either : {A : Type 0} (P : A → Type 0) (b : Bool) (x y : A) → P x → P y → P (if b then x else y)
if_either P true x y p q = p
if_either P false x y p q = q

-- sources of ports, and of file A
is_port : Source → Bool
is_port (Acc n) = false
is_port Five = false
is_port _ = true

is_file_a : Source → Bool
is_file_a (FileA n) = true
is_file_a _ = false

port_a : (x : ℕ) → is_port (read_a x) ≡ true
unfolding is_port
port_a x =
    if_either (λ s. is_port s ≡ true) (nat_le x 31) _ _ refl (if_either (λ s. is_port s ≡ true) (x == 32) _ _ refl
    (if_either (λ s. is_port s ≡ true) (x == 38) _ _ refl (if_either (λ s. is_port s ≡ true) (x == 48) _ _ refl refl)))

port_b : (small : Bool) (x : ℕ) → is_port (read_b small x) ≡ true
unfolding is_port
port_b small x =
    if_either (λ s. is_port s ≡ true) small _ _ refl (if_either (λ s. is_port s ≡ true) (nat_le x 31) _ _ refl (if_either (λ s. is_port s ≡ true) (x == 32) _ _ refl
    (if_either (λ s. is_port s ≡ true) (x == 38) _ _ refl (if_either (λ s. is_port s ≡ true) (x == 48) _ _ refl refl))))

b_no_file_a : (small : Bool) (x : ℕ) → is_file_a (read_b small x) ≡ false
unfolding is_file_a
b_no_file_a small x =
    if_either (λ s. is_file_a s ≡ false) small _ _ refl (if_either (λ s. is_file_a s ≡ false) (nat_le x 31) _ _ refl (if_either (λ s. is_file_a s ≡ false) (x == 32) _ _ refl
    (if_either (λ s. is_file_a s ≡ false) (x == 38) _ _ refl (if_either (λ s. is_file_a s ≡ false) (x == 48) _ _ refl refl))))

file_apart : (small : Bool) (ra rb : ℕ) → nat_le ra 31 ≡ true → read_a ra ≡ read_b small rb → ⊥
unfolding is_file_a
file_apart small ra rb h e =
    let one : is_file_a (read_a ra) ≡ true = rw h refl in
    let two : is_file_a (read_a ra) ≡ false = ap is_file_a e ∙ b_no_file_a small rb in
    let no : true ≡ false = sym one ∙ two in
    absurd (cc)

pick_port : (ra : ℕ) (s : Source) → is_port s ≡ true → pick ra s ≡ (if same (read_a ra) s then 6 else 7)
unfolding is_port
pick_port ra (Acc n) h = absurd (cc)
pick_port ra Five h = absurd (cc)
pick_port ra (FileA n) h = refl
pick_port ra (FileB n) h = refl
pick_port ra Element h = refl
pick_port ra Qpu h = refl
pick_port ra Uniform h = refl
pick_port ra Row h = refl
pick_port ra (Constant n) h = refl

-- the selector stays, or goes from B to A where both give the same
abbrev pub Moved : Bool → ℕ → ℕ → ℕ → ℕ → Type 0
Moved small ra rb s t = (t ≡ s) ⊎ ((s ≡ 7) × (t ≡ 6) × (read_a ra ≡ read_b small rb))

seven_picked : (small : Bool) (ra rb : ℕ) (b : Bool) → same (read_a ra) (read_b small rb) ≡ b → Moved small ra rb 7 (if b then 6 else 7)
seven_picked small ra rb true e = inr (refl, refl, same_is (read_a ra) (read_b small rb) e)
seven_picked small ra rb false e = inl refl

pub picked : (small : Bool) (ra rb s : ℕ) → is_selector s ≡ true → Moved small ra rb s (pick ra (operand small ra rb s))
picked small ra rb zero h = inl refl
picked small ra rb (suc zero) h = inl refl
picked small ra rb (suc (suc zero)) h = inl refl
picked small ra rb (suc (suc (suc zero))) h = inl refl
picked small ra rb (suc (suc (suc (suc zero)))) h = absurd (cc)
picked small ra rb (suc (suc (suc (suc (suc zero))))) h = inl refl
picked small ra rb (suc (suc (suc (suc (suc (suc zero)))))) h = inl (pick_port ra (read_a ra) (port_a ra) ∙ ap (λ b. if b then 6 else 7) (same_self (read_a ra)))
picked small ra rb (suc (suc (suc (suc (suc (suc (suc zero))))))) h =
    subst (λ (n : ℕ). Moved small ra rb 7 n) (sym (pick_port ra (read_b small rb) (port_b small rb))) (seven_picked small ra rb (same (read_a ra) (read_b small rb)) refl)
picked small ra rb (suc (suc (suc (suc (suc (suc (suc (suc n)))))))) h = absurd (let no : ⊥ = grind (arith, nat_tests) in no)

pub moved_operand : (small : Bool) (ra rb s t : ℕ) → Moved small ra rb s t → operand small ra rb t ≡ operand small ra rb s
moved_operand small ra rb s t (inl e) = rw e refl
moved_operand small ra rb s t (inr e) = rw (e.0, e.1) e.2

-- ---- the tests of the profile

selector_kept : (small : Bool) (ra rb s t : ℕ) → Moved small ra rb s t → is_selector s ≡ true → is_selector t ≡ true
selector_kept small ra rb s t (inl e) h = rw e h
selector_kept small ra rb s t (inr e) h = rw e.1 refl

zero_kept : (small : Bool) (ra rb s t : ℕ) → Moved small ra rb s t → (s == 0) ≡ true → (t == 0) ≡ true
zero_kept small ra rb s t (inl e) h = rw e h
zero_kept small ra rb s t (inr e) h = let z : s ≡ 0 = eq_is s 0 h in let s7 : s ≡ 7 = e.0 in absurd (let no : ⊥ = omega arith in no)

pub not_seven_kept : (small : Bool) (ra rb s t : ℕ) → Moved small ra rb s t → not (s == 7) ≡ true → t ≡ s
not_seven_kept small ra rb s t (inl e) h = e
not_seven_kept small ra rb s t (inr e) h = let no : not (7 == 7) ≡ true = subst (λ (n : ℕ). not (n == 7) ≡ true) e.0 h in absurd (cc)

pub not_file_kept : (small : Bool) (ra rb s t : ℕ) → Moved small ra rb s t → nat_le ra 31 ≡ true → t ≡ s
not_file_kept small ra rb s t (inl e) h = e
not_file_kept small ra rb s t (inr e) h = absurd (file_apart small ra rb h e.2)

both_true : (a b : Bool) → a ≡ true → b ≡ true → (a && b) ≡ true
both_true a b h i = rw (h, i) refl

part_kept : (small : Bool) (ra rb op cond dst a b s t : ℕ) → Moved small ra rb a s → Moved small ra rb b t → is_part op cond dst a b ≡ true → is_part op cond dst s t ≡ true
unfolding is_part
part_kept small ra rb op cond dst a b s t m n h =
    elim (op == 0) as (λ z. (if z then ((cond == 0) && (dst == 39)) && ((a == 0) && (b == 0)) else is_selector a && is_selector b) ≡ true
    → (if z then ((cond == 0) && (dst == 39)) && ((s == 0) && (t == 0)) else is_selector s && is_selector t) ≡ true) [
      | true ↦ λ h.
          let p = parts ((cond == 0) && (dst == 39)) ((a == 0) && (b == 0)) h in
          let q = parts (a == 0) (b == 0) p.1 in
          both_true _ _ p.0 (both_true _ _ (zero_kept small ra rb a s m q.0) (zero_kept small ra rb b t n q.1))
      | false ↦ λ h.
          let p = parts (is_selector a) (is_selector b) h in
          both_true _ _ (selector_kept small ra rb a s m p.0) (selector_kept small ra rb b t n p.1)
    ] h

small_kept : (small : Bool) (ra rb m : ℕ) (f : Bool) (a b d e s t u v : ℕ)
    → Moved small ra rb a s → Moved small ra rb b t → Moved small ra rb d u → Moved small ra rb e v
    → is_small_ok small rb m f a b d e ≡ true → is_small_ok small rb m f s t u v ≡ true
unfolding is_small_ok
small_kept false ra rb m f a b d e s t u v ma mb md me h = h
small_kept true ra rb m f a b d e s t u v ma mb md me h =
    elim (nat_le rb 31) as (λ z. (z || ((nat_le 48 rb && nat_le rb 63)
    && ((not (m == 0) && not f) && ((not (a == 7) && not (b == 7)) && (not (d == 7) && not (e == 7)))))) ≡ true
    → (z || ((nat_le 48 rb && nat_le rb 63)
    && ((not (m == 0) && not f) && ((not (s == 7) && not (t == 7)) && (not (u == 7) && not (v == 7)))))) ≡ true) [
      | true ↦ λ h. refl
      | false ↦ λ h.
          let p = parts (nat_le 48 rb && nat_le rb 63) ((not (m == 0) && not f) && ((not (a == 7) && not (b == 7)) && (not (d == 7) && not (e == 7)))) h in
          let q = parts (not (m == 0) && not f) ((not (a == 7) && not (b == 7)) && (not (d == 7) && not (e == 7))) p.1 in
          let r = parts (not (a == 7) && not (b == 7)) (not (d == 7) && not (e == 7)) q.1 in
          let x = parts (not (a == 7)) (not (b == 7)) r.0 in
          let y = parts (not (d == 7)) (not (e == 7)) r.1 in
          rw (not_seven_kept true ra rb a s ma x.0, not_seven_kept true ra rb b t mb x.1, not_seven_kept true ra rb d u md y.0, not_seven_kept true ra rb e v me y.1) h
    ] h

unpack_kept : (small : Bool) (ra rb k o : ℕ) (a b d e s t u v : ℕ)
    → Moved small ra rb a s → Moved small ra rb b t → Moved small ra rb d u → Moved small ra rb e v
    → is_unpack k o a b ra d e ≡ true → is_unpack k o s t ra u v ≡ true
unfolding is_unpack
unpack_kept small ra rb k o a b d e s t u v ma mb md me h =
    elim (k == 0) as (λ z. (z || (((nat_le k 7 && not (k == 3)) && (o == 21)) && (((a == 6) && (b == 6)) && (nat_le ra 31 && (not (d == 6) && not (e == 6)))))) ≡ true
    → (z || (((nat_le k 7 && not (k == 3)) && (o == 21)) && (((s == 6) && (t == 6)) && (nat_le ra 31 && (not (u == 6) && not (v == 6)))))) ≡ true) [
      | true ↦ λ h. refl
      | false ↦ λ h.
          let p = parts ((nat_le k 7 && not (k == 3)) && (o == 21)) (((a == 6) && (b == 6)) && (nat_le ra 31 && (not (d == 6) && not (e == 6)))) h in
          let q = parts ((a == 6) && (b == 6)) (nat_le ra 31 && (not (d == 6) && not (e == 6))) p.1 in
          let r = parts (nat_le ra 31) (not (d == 6) && not (e == 6)) q.1 in
          rw (not_file_kept small ra rb a s ma r.0, not_file_kept small ra rb b t mb r.0, not_file_kept small ra rb d u md r.0, not_file_kept small ra rb e v me r.0) h
    ] h

-- selectors moved from B to A keep the word in the profile
pub fine_moved : (head : Head) (unpack : ℕ) (add : AddPart) (mul : MulPart) (flags swap : Bool) (ra rb s t u v : ℕ)
    → Moved (is_small head) ra rb add.a s → Moved (is_small head) ra rb add.b t → Moved (is_small head) ra rb mul.a u → Moved (is_small head) ra rb mul.b v
    → is_in_profile (Alu head unpack add mul flags swap ra rb) ≡ true → is_in_profile (Alu head unpack (record add { a = s; b = t }) (record mul { a = u; b = v }) flags swap ra rb) ≡ true
fine_moved head unpack add mul flags swap ra rb s t u v ma mb md me h =
    let p = profile head unpack add mul flags swap ra rb h in
    of_profile head unpack (record add { a = s; b = t }) (record mul { a = u; b = v }) flags swap ra rb (record {
      add_part = part_kept (is_small head) ra rb (add_code add.op) (cond_code add.cond) add.dst add.a add.b s t ma mb p.add_part;
      mul_part = part_kept (is_small head) ra rb (mul_code mul.op) (cond_code mul.cond) mul.dst mul.a mul.b u v md me p.mul_part;
      targets = p.targets;
      accs = p.accs;
      source = p.source;
      small = subst (λ (b : Bool). is_small_ok b rb (mul_code mul.op) flags s t u v ≡ true) (sym (head_small head))
          (small_kept (is_small head) ra rb (mul_code mul.op) flags add.a add.b mul.a mul.b s t u v ma mb md me
          (subst (λ (b : Bool). is_small_ok b rb (mul_code mul.op) flags add.a add.b mul.a mul.b ≡ true) (head_small head) p.small));
      unpacks = unpack_kept (is_small head) ra rb unpack (add_code add.op) add.a add.b mul.a mul.b s t u v ma mb md me p.unpacks;
      flagged = p.flagged;
    })

-- ---- two words that may stand for one another

pub record Alike (j c : Form) : Type 0 where
  pub fine : is_in_profile c ≡ true
  pub means : meaning c ≡ meaning j
  pub before : (p : Option Form) → clash p (Some j) ≡ false → clash p (Some c) ≡ false
  pub after : (n : Option Form) → clash (Some c) n ≡ clash (Some j) n

pub alike_then : (j c d : Form) → Alike j c → Alike c d → Alike j d
alike_then j c d a b =
    record { fine = b.fine; means = b.means ∙ a.means; before = λ p h. b.before p (a.before p h); after = λ n. b.after n ∙ a.after n }

no_this : (o : Option Source) → Type 0
no_this o = is_this o (Constant 0) ≡ false

register_no_constant : (b : Bool) (dst : ℕ) → is_this (register_at b dst) (Constant 0) ≡ false
register_no_constant b dst =
    if_either (λ o. is_this o (Constant 0) ≡ false) (nat_le dst 31) _ _ (if_either (λ s. same s (Constant 0) ≡ false) b _ _ refl refl)
    (if_either (λ o. is_this o (Constant 0) ≡ false) (nat_le dst 35 && nat_le 32 dst) _ _ refl
    (if_either (λ o. is_this o (Constant 0) ≡ false) (dst == 37) _ _ refl refl))

written_no_constant : (t : Target) → is_this (written t) (Constant 0) ≡ false
unfolding written
written_no_constant t = if_either (λ o. is_this o (Constant 0) ≡ false) (cond_code t.cond == 0) _ _ refl (register_no_constant t.through_b t.dst)

pub writes_no_constant : (p : Form) → writes p (Constant 0) ≡ false
unfolding writes
writes_no_constant p = rw (written_no_constant (first_target p), written_no_constant (second_target p)) refl

or_both : (a b : Bool) → a ≡ false → b ≡ false → (a || b) ≡ false
or_both a b h i = rw (h, i) refl

-- ---- the selectors

old_moved : (small : Bool) (ra rb s t : ℕ) (p : Form) → Moved small ra rb s t → is_old p t ≡ is_old p s
old_moved small ra rb s t p (inl e) = rw e refl
old_moved small ra rb s t p (inr e) = rw (e.0, e.1) refl

before_moved : (head : Head) (unpack : ℕ) (add : AddPart) (mul : MulPart) (flags swap : Bool) (ra rb s t u v : ℕ) (p : Option Form)
    → Moved (is_small head) ra rb mul.a u → Moved (is_small head) ra rb mul.b v
    → clash p (Some (Alu head unpack (record add { a = s; b = t }) (record mul { a = u; b = v }) flags swap ra rb)) ≡ clash p (Some (Alu head unpack add mul flags swap ra rb))
unfolding reads_fresh turns_fresh
before_moved head unpack add mul flags swap ra rb s t u v None md me = refl
before_moved head unpack add mul flags swap ra rb s t u v (Some p) md me = rw (old_moved (is_small head) ra rb mul.a u p md, old_moved (is_small head) ra rb mul.b v p me) refl

after_moved : (head : Head) (unpack : ℕ) (add : AddPart) (mul : MulPart) (flags swap : Bool) (ra rb s t u v x y : ℕ) (h : Head) (n : Option Form)
    → clash (Some (Alu h unpack (record add { a = s; b = t }) (record mul { a = u; b = v }) flags swap x y)) n ≡ clash (Some (Alu head unpack add mul flags swap ra rb)) n
unfolding reads_fresh turns_fresh writes
after_moved head unpack add mul flags swap ra rb s t u v x y h None = refl
after_moved head unpack add mul flags swap ra rb s t u v x y h (Some (Alu a b c d e f g i)) = refl
after_moved head unpack add mul flags swap ra rb s t u v x y h (Some (Ldi a b c d e f)) = refl
after_moved head unpack add mul flags swap ra rb s t u v x y h (Some (Bra a b)) = refl

means_moved : (head : Head) (unpack : ℕ) (add : AddPart) (mul : MulPart) (flags swap : Bool) (ra rb s t u v : ℕ)
    → Moved (is_small head) ra rb add.a s → Moved (is_small head) ra rb add.b t → Moved (is_small head) ra rb mul.a u → Moved (is_small head) ra rb mul.b v
    → meaning (Alu head unpack (record add { a = s; b = t }) (record mul { a = u; b = v }) flags swap ra rb) ≡ meaning (Alu head unpack add mul flags swap ra rb)
unfolding meaning
means_moved head unpack add mul flags swap ra rb s t u v ma mb md me =
    rw (moved_operand (is_small head) ra rb add.a s ma, moved_operand (is_small head) ra rb add.b t mb, moved_operand (is_small head) ra rb mul.a u md, moved_operand (is_small head) ra rb mul.b v me) refl

pub alike_moved : (head : Head) (unpack : ℕ) (add : AddPart) (mul : MulPart) (flags swap : Bool) (ra rb s t u v : ℕ)
    → Moved (is_small head) ra rb add.a s → Moved (is_small head) ra rb add.b t → Moved (is_small head) ra rb mul.a u → Moved (is_small head) ra rb mul.b v
    → is_in_profile (Alu head unpack add mul flags swap ra rb) ≡ true
    → Alike (Alu head unpack add mul flags swap ra rb) (Alu head unpack (record add { a = s; b = t }) (record mul { a = u; b = v }) flags swap ra rb)
alike_moved head unpack add mul flags swap ra rb s t u v ma mb md me h = record {
  fine = fine_moved head unpack add mul flags swap ra rb s t u v ma mb md me h;
  means = means_moved head unpack add mul flags swap ra rb s t u v ma mb md me;
  before = λ p f. before_moved head unpack add mul flags swap ra rb s t u v p md me ∙ f;
  after = λ n. after_moved head unpack add mul flags swap ra rb s t u v ra rb head n;
}

-- the selectors of a word in the profile
pub part_selectors : (op cond dst a b : ℕ) → is_part op cond dst a b ≡ true → (is_selector a ≡ true) × (is_selector b ≡ true)
unfolding is_part
part_selectors op cond dst a b h =
    elim (op == 0) as (λ z. (if z then ((cond == 0) && (dst == 39)) && ((a == 0) && (b == 0)) else is_selector a && is_selector b) ≡ true → (is_selector a ≡ true) × (is_selector b ≡ true)) [
      | true ↦ λ h.
          let p = parts ((cond == 0) && (dst == 39)) ((a == 0) && (b == 0)) h in
          let q = parts (a == 0) (b == 0) p.1 in
          (rw (eq_is a 0 q.0) refl, rw (eq_is b 0 q.1) refl)
      | false ↦ λ h. parts (is_selector a) (is_selector b) h
    ] h

-- ---- an address that isn't selected

abbrev pub selects : ℕ → AddPart → MulPart → Bool
selects n add mul = ((add.a == n) || (add.b == n)) || ((mul.a == n) || (mul.b == n))

operand_no_a : (small : Bool) (ra rb s : ℕ) → (s == 6) ≡ false → operand small 39 rb s ≡ operand small ra rb s
operand_no_a small ra rb s h = rw h refl

unpack_no_a : (ra k o a b d e : ℕ) → (a == 6) ≡ false → is_unpack k o a b ra d e ≡ true → is_unpack k o a b 39 d e ≡ true
unfolding is_unpack
unpack_no_a ra k o a b d e n h =
    elim (k == 0) as (λ z. (z || (((nat_le k 7 && not (k == 3)) && (o == 21)) && (((a == 6) && (b == 6)) && (nat_le ra 31 && (not (d == 6) && not (e == 6)))))) ≡ true
    → (z || (((nat_le k 7 && not (k == 3)) && (o == 21)) && (((a == 6) && (b == 6)) && (nat_le 39 31 && (not (d == 6) && not (e == 6)))))) ≡ true) [
      | true ↦ λ h. refl
      | false ↦ λ h.
          let p = parts ((nat_le k 7 && not (k == 3)) && (o == 21)) (((a == 6) && (b == 6)) && (nat_le ra 31 && (not (d == 6) && not (e == 6)))) h in
          let q = parts ((a == 6) && (b == 6)) (nat_le ra 31 && (not (d == 6) && not (e == 6))) p.1 in
          let r = parts (a == 6) (b == 6) q.0 in
          let no : true ≡ false = sym r.0 ∙ n in
          absurd (cc)
    ] h

pub record Quiet (x : ℕ) : Type 0 where
  pub thirty_two : (x == 32) ≡ false
  pub forty_eight : (x == 48) ≡ false
  pub fifty : (x == 50) ≡ false
  pub fifty_one : (x == 51) ≡ false

pub quiet : (x : ℕ) → is_common x ≡ false → Quiet x
quiet x h =
    let p = or_false _ _ h in
    let q = or_false _ _ p.0 in
    let r = or_false _ _ q.0 in
    let s = or_false _ _ p.1 in
    record { thirty_two = r.1; forty_eight = q.1; fifty = s.0; fifty_one = s.1 }

pub record Unselected (n : ℕ) (add : AddPart) (mul : MulPart) : Type 0 where
  pub add_a : (add.a == n) ≡ false
  pub add_b : (add.b == n) ≡ false
  pub mul_a : (mul.a == n) ≡ false
  pub mul_b : (mul.b == n) ≡ false

pub unselected : (n : ℕ) (add : AddPart) (mul : MulPart) → selects n add mul ≡ false → Unselected n add mul
unselected n add mul h =
    let p = or_false _ _ h in
    let q = or_false _ _ p.0 in
    let r = or_false _ _ p.1 in
    record { add_a = q.0; add_b = q.1; mul_a = r.0; mul_b = r.1 }

means_no_a : (head : Head) (unpack : ℕ) (add : AddPart) (mul : MulPart) (flags swap : Bool) (ra rb : ℕ) → Unselected 6 add mul → Quiet ra
    → meaning (Alu head unpack add mul flags swap 39 rb) ≡ meaning (Alu head unpack add mul flags swap ra rb)
unfolding meaning
means_no_a head unpack add mul flags swap ra rb n q =
    rw (n.add_a, n.add_b, n.mul_a, n.mul_b, q.thirty_two, q.forty_eight, q.fifty, q.fifty_one) refl

fresh_no_a : (head : Head) (unpack : ℕ) (add : AddPart) (mul : MulPart) (flags swap : Bool) (ra rb : ℕ) (p : Option Form)
    → clash p (Some (Alu head unpack add mul flags swap ra rb)) ≡ false → clash p (Some (Alu head unpack add mul flags swap 39 rb)) ≡ false
unfolding reads_fresh turns_fresh
fresh_no_a head unpack add mul flags swap ra rb None h = refl
fresh_no_a head unpack add mul flags swap ra rb (Some p) h =
    let q = or_false _ _ h in
    let r = or_false _ _ q.0 in
    or_both _ _ (or_both _ _ (writes_no_constant p) r.1) q.1

pub alike_no_a : (head : Head) (unpack : ℕ) (add : AddPart) (mul : MulPart) (flags swap : Bool) (ra rb : ℕ) → Unselected 6 add mul → Quiet ra
    → is_in_profile (Alu head unpack add mul flags swap ra rb) ≡ true → Alike (Alu head unpack add mul flags swap ra rb) (Alu head unpack add mul flags swap 39 rb)
unfolding is_source
alike_no_a head unpack add mul flags swap ra rb n q h =
    let p = profile head unpack add mul flags swap ra rb h in
    record {
      fine = of_profile head unpack add mul flags swap 39 rb (record {
        add_part = p.add_part;
        mul_part = p.mul_part;
        targets = p.targets;
        accs = p.accs;
        source = refl;
        small = p.small;
        unpacks = unpack_no_a ra unpack (add_code add.op) add.a add.b mul.a mul.b n.add_a p.unpacks;
        flagged = p.flagged;
      });
      means = means_no_a head unpack add mul flags swap ra rb n q;
      before = fresh_no_a head unpack add mul flags swap ra rb;
      after = λ m. after_moved head unpack add mul flags swap ra rb add.a add.b mul.a mul.b 39 rb head m;
    }

operand_no_b : (small : Bool) (ra rb s : ℕ) → (s == 7) ≡ false → is_selector s ≡ true → operand false ra 39 s ≡ operand small ra rb s
operand_no_b small ra rb zero n h = refl
operand_no_b small ra rb (suc zero) n h = refl
operand_no_b small ra rb (suc (suc zero)) n h = refl
operand_no_b small ra rb (suc (suc (suc zero))) n h = refl
operand_no_b small ra rb (suc (suc (suc (suc zero)))) n h = absurd (cc)
operand_no_b small ra rb (suc (suc (suc (suc (suc zero))))) n h = refl
operand_no_b small ra rb (suc (suc (suc (suc (suc (suc zero)))))) n h = refl
operand_no_b small ra rb (suc (suc (suc (suc (suc (suc (suc zero))))))) n h = absurd (cc)
operand_no_b small ra rb (suc (suc (suc (suc (suc (suc (suc (suc k)))))))) n h = absurd (let no : ⊥ = grind (arith, nat_tests) in no)

-- the other port isn't a peripheral, and no rotation
pub record QuietB (small : Bool) (rb : ℕ) : Type 0 where
  pub turn : turn small rb ≡ 0
  pub uniform : (not small && (rb == 32)) ≡ false
  pub row : (not small && (rb == 48)) ≡ false
  pub wait : (not small && (rb == 50)) ≡ false
  pub lock : (not small && (rb == 51)) ≡ false

means_no_b : (head : Head) (unpack : ℕ) (add : AddPart) (mul : MulPart) (flags swap : Bool) (ra rb : ℕ) → Unselected 7 add mul → QuietB (is_small head) rb
    → is_selector add.a ≡ true → is_selector add.b ≡ true → is_selector mul.a ≡ true → is_selector mul.b ≡ true
    → meaning (Alu Plain unpack add mul flags swap ra 39) ≡ meaning (Alu head unpack add mul flags swap ra rb)
unfolding meaning
means_no_b head unpack add mul flags swap ra rb n q aa ab ma mb =
    rw (
      operand_no_b (is_small head) ra rb add.a n.add_a aa,
      operand_no_b (is_small head) ra rb add.b n.add_b ab,
      operand_no_b (is_small head) ra rb mul.a n.mul_a ma,
      operand_no_b (is_small head) ra rb mul.b n.mul_b mb,
      q.turn,
      q.uniform,
      q.row,
      q.wait,
      q.lock,
    ) refl

and_false : (b : Bool) → (b && false) ≡ false
and_false true = refl
and_false false = refl

fresh_no_b : (head : Head) (unpack : ℕ) (add : AddPart) (mul : MulPart) (flags swap : Bool) (ra rb : ℕ) (p : Option Form) → QuietB (is_small head) rb
    → clash p (Some (Alu head unpack add mul flags swap ra rb)) ≡ false → clash p (Some (Alu Plain unpack add mul flags swap ra 39)) ≡ false
unfolding reads_fresh turns_fresh
fresh_no_b head unpack add mul flags swap ra rb None k h = refl
fresh_no_b head unpack add mul flags swap ra rb (Some p) k h =
    let q = or_false _ _ h in
    let r = or_false _ _ q.0 in
    or_both _ _ (or_both _ _ r.0 (writes_no_constant p)) refl

pub alike_no_b : (head : Head) (unpack : ℕ) (add : AddPart) (mul : MulPart) (flags swap : Bool) (ra rb : ℕ) → Unselected 7 add mul → QuietB (is_small head) rb
    → is_in_profile (Alu head unpack add mul flags swap ra rb) ≡ true → Alike (Alu head unpack add mul flags swap ra rb) (Alu Plain unpack add mul flags swap ra 39)
unfolding is_source is_small_ok
alike_no_b head unpack add mul flags swap ra rb n q h =
    let p = profile head unpack add mul flags swap ra rb h in
    let a = part_selectors _ _ _ add.a add.b p.add_part in
    let m = part_selectors _ _ _ mul.a mul.b p.mul_part in
    record {
      fine = of_profile Plain unpack add mul flags swap ra 39 (record {
        add_part = p.add_part;
        mul_part = p.mul_part;
        targets = p.targets;
        accs = p.accs;
        source = p.source;
        small = refl;
        unpacks = p.unpacks;
        flagged = p.flagged;
      });
      means = means_no_b head unpack add mul flags swap ra rb n q a.0 a.1 m.0 m.1;
      before = λ o. fresh_no_b head unpack add mul flags swap ra rb o q;
      after = λ o. after_moved head unpack add mul flags swap ra rb add.a add.b mul.a mul.b ra 39 Plain o;
    }
