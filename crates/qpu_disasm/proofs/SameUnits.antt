-- What is said of a unit tells what it does.
use Rattle.std.proofs.Common.{◌≡◌, ◌∙◌, ℕ, Bool, true, false, List, [], ◌∷◌, ◌++◌, refl, sym, ap, subst, arith, append_assoc}
use Rattle.std.specs.Prelude.{Some, ◌==◌, if◌then◌else◌}
use Rattle.std.proofs.lemmas.Bool.Decides.{nat_tests}
use Rattle.qpu_encode.specs.declared.form.AddPart.{AddPart}
use Rattle.qpu_encode.specs.declared.form.MulPart.{MulPart}
use Rattle.qpu_encode.specs.declared.form.Cond.{Cond}
use Rattle.qpu_encode.specs.Codes.{add_code, mul_code, cond_code, cond_at}
use Rattle.qpu_encode.specs.WordFields.{is_part, is_selector}
use Rattle.qpu_encode.proofs.RoundTrip.{cond_again}
use Rattle.qpu_disasm.specs.Listing.{add_name, mul_name, cond_name, target_text, selector_text, operands_text, add_text, mul_text, write_text}
use Rattle.qpu_disasm.proofs.Cuts.{opens, cut, rest_of}
use Rattle.qpu_disasm.proofs.SameNames.{add_whole, mul_whole, cond_whole, same_add, same_mul, same_cond}
use Rattle.qpu_disasm.proofs.Places.{is_place, target_whole, selector_whole, same_selector}

-- the fields of a unit but for its operation, and the file that it writes
pub record Fields : Type 0 where
  pub cond : Cond
  pub through_b : Bool
  pub dst : ℕ
  pub a : ℕ
  pub b : ℕ

-- with an operation of this number they are in the profile
pub record Fine (op : ℕ) (f : Fields) : Type 0 where
  pub part : is_part op (cond_code f.cond) f.dst f.a f.b ≡ true
  pub place : is_place f.dst ≡ true

-- they are the same, but for the file
pub record Same (f g : Fields) : Type 0 where
  pub cond : f.cond ≡ g.cond
  pub target : target_text f.through_b f.dst ≡ target_text g.through_b g.dst
  pub a : f.a ≡ g.a
  pub b : f.b ≡ g.b

abbrev pub said : Fields → List ℕ
said f = operands_text f.cond f.through_b f.dst f.a f.b

-- what follows the name of an operation of this number, up to what follows the unit
abbrev pub after_name : ℕ → Fields → List ℕ → List ℕ
after_name op f more = (if op == 0 then [] else said f) ++ 32 ∷ more

same_operands : (f g : Fields) (r s : List ℕ) → is_place f.dst ≡ true → is_place g.dst ≡ true
    → is_selector f.a ≡ true → is_selector g.a ≡ true → is_selector f.b ≡ true → is_selector g.b ≡ true
    → said f ++ 32 ∷ r ≡ said g ++ 32 ∷ s → Same f g × (r ≡ s)
unfolding operands_text write_text
same_operands f g r s pf pg af ag bf bg e =
    let e1 = rest_of (simp append_assoc at e) in
    let c1 = cut (cond_name f.cond) (cond_name g.cond) _ _ e1 (cond_whole f.cond) (cond_whole g.cond) refl refl in
    let c2 = cut (target_text f.through_b f.dst) (target_text g.through_b g.dst) _ _ (rest_of c1.1) (target_whole f.through_b f.dst pf) (target_whole g.through_b g.dst pg) refl refl in
    let c3 = cut (selector_text f.a) (selector_text g.a) _ _ (rest_of (rest_of c2.1)) (selector_whole f.a af) (selector_whole g.a ag) refl refl in
    let c4 = cut (selector_text f.b) (selector_text g.b) _ _ (rest_of (rest_of c3.1)) (selector_whole f.b bf) (selector_whole g.b bg) refl refl in
    let same : Same f g = record {
      cond = same_cond f.cond g.cond c1.0;
      target = c2.0;
      a = same_selector f.a g.a af ag c3.0;
      b = same_selector f.b g.b bf bg c4.0;
    } in
    (same, rest_of c4.1)

-- without an operation a unit writes nowhere, never, and has both selectors 0
idle : (f : Fields) → is_part 0 (cond_code f.cond) f.dst f.a f.b ≡ true → (cond_code f.cond ≡ 0) × (f.dst ≡ 39) × (f.a ≡ 0) × (f.b ≡ 0)
unfolding is_part
idle f h = (grind (arith, nat_tests), grind (arith, nat_tests), grind (arith, nat_tests), grind (arith, nat_tests))

nowhere : (through_b : Bool) (dst : ℕ) → dst ≡ 39 → target_text through_b dst ≡ 45 ∷ []
unfolding target_text
nowhere through_b dst e = rw e refl

same_code : (c d : Cond) → cond_code c ≡ cond_code d → c ≡ d
same_code c d e = let r : Some c ≡ Some d = sym (cond_again c) ∙ ap cond_at e ∙ cond_again d in cc

same_idle : (f g : Fields) → is_part 0 (cond_code f.cond) f.dst f.a f.b ≡ true → is_part 0 (cond_code g.cond) g.dst g.a g.b ≡ true → Same f g
same_idle f g h k =
    let p = idle f h in
    let q = idle g k in
    record {
      cond = same_code f.cond g.cond (p.0 ∙ sym q.0);
      target = nowhere f.through_b f.dst p.1 ∙ sym (nowhere g.through_b g.dst q.1);
      a = p.2 ∙ sym q.2;
      b = p.3 ∙ sym q.3;
    }

selectors_of : (op cond dst a b : ℕ) → (op == 0) ≡ false → is_part op cond dst a b ≡ true → (is_selector a ≡ true) × (is_selector b ≡ true)
unfolding is_part
selectors_of op cond dst a b z h = (grind (arith, nat_tests), grind (arith, nat_tests))

pub same_after : (op : ℕ) (f g : Fields) (r s : List ℕ) → Fine op f → Fine op g → after_name op f r ≡ after_name op g s → Same f g × (r ≡ s)
same_after op f g r s h k e =
    elim (op == 0) as (λ v. (op == 0) ≡ v → (if v then [] else said f) ++ 32 ∷ r ≡ (if v then [] else said g) ++ 32 ∷ s → Same f g × (r ≡ s)) [
      | true ↦ λ z t.
          let zero : op ≡ 0 = grind (arith, nat_tests) in
          (same_idle f g (rw zero at h.part) (rw zero at k.part), rest_of t)
      | false ↦ λ z t.
          let p = selectors_of op (cond_code f.cond) f.dst f.a f.b z h.part in
          let q = selectors_of op (cond_code g.cond) g.dst g.a g.b z k.part in
          same_operands f g r s h.place k.place p.0 q.0 p.1 q.1 t
    ] refl e

after_opens : (op : ℕ) (f : Fields) (r : List ℕ) → opens (after_name op f r) ≡ true
unfolding operands_text
after_opens op f r = elim (op == 0) as (λ v. opens ((if v then [] else said f) ++ 32 ∷ r) ≡ true) [ true ↦ refl | false ↦ refl ]

-- ---- the two units

abbrev pub add_fields : Bool → AddPart → Fields
add_fields through_b add = record { cond = add.cond; through_b = through_b; dst = add.dst; a = add.a; b = add.b }

abbrev pub mul_fields : Bool → MulPart → Fields
mul_fields through_b mul = record { cond = mul.cond; through_b = through_b; dst = mul.dst; a = mul.a; b = mul.b }

pub same_add_unit : (s t : Bool) (p q : AddPart) (more others : List ℕ) → Fine (add_code p.op) (add_fields s p) → Fine (add_code q.op) (add_fields t q)
    → add_text s p ++ 32 ∷ more ≡ add_text t q ++ 32 ∷ others → (p.op ≡ q.op) × Same (add_fields s p) (add_fields t q) × (more ≡ others)
unfolding add_text
same_add_unit s t p q more others h k e =
    let f = add_fields s p in
    let g = add_fields t q in
    let c = cut (add_name p.op) (add_name q.op) (after_name (add_code p.op) f more) (after_name (add_code q.op) g others) (simp append_assoc at e)
    (add_whole p.op) (add_whole q.op) (after_opens (add_code p.op) f more) (after_opens (add_code q.op) g others) in
    let op : p.op ≡ q.op = same_add p.op q.op c.0 in
    let r = same_after (add_code q.op) f g more others (subst (λ o. Fine (add_code o) f) op h) k (subst (λ o. after_name (add_code o) f more ≡ after_name (add_code q.op) g others) op c.1) in
    (op, r.0, r.1)

pub same_mul_unit : (s t : Bool) (p q : MulPart) (more others : List ℕ) → Fine (mul_code p.op) (mul_fields s p) → Fine (mul_code q.op) (mul_fields t q)
    → mul_text s p ++ 32 ∷ more ≡ mul_text t q ++ 32 ∷ others → (p.op ≡ q.op) × Same (mul_fields s p) (mul_fields t q) × (more ≡ others)
unfolding mul_text
same_mul_unit s t p q more others h k e =
    let f = mul_fields s p in
    let g = mul_fields t q in
    let c = cut (mul_name p.op) (mul_name q.op) (after_name (mul_code p.op) f more) (after_name (mul_code q.op) g others) (simp append_assoc at e)
    (mul_whole p.op) (mul_whole q.op) (after_opens (mul_code p.op) f more) (after_opens (mul_code q.op) g others) in
    let op : p.op ≡ q.op = same_mul p.op q.op c.0 in
    let r = same_after (mul_code q.op) f g more others (subst (λ o. Fine (mul_code o) f) op h) k (subst (λ o. after_name (mul_code o) f more ≡ after_name (mul_code q.op) g others) op c.1) in
    (op, r.0, r.1)

-- a condition and a write address
pub same_write : (c d : Cond) (s t : Bool) (dst to : ℕ) (more others : List ℕ) → is_place dst ≡ true → is_place to ≡ true
    → write_text c s dst ++ 32 ∷ more ≡ write_text d t to ++ 32 ∷ others → (c ≡ d) × (target_text s dst ≡ target_text t to) × (more ≡ others)
unfolding write_text
same_write c d s t dst to more others h k e =
    let e1 = simp append_assoc at e in
    let c1 = cut (cond_name c) (cond_name d) _ _ e1 (cond_whole c) (cond_whole d) refl refl in
    let c2 = cut (target_text s dst) (target_text t to) _ _ (rest_of c1.1) (target_whole s dst h) (target_whole t to k) refl refl in
    (same_cond c d c1.0, c2.0, rest_of c2.1)
