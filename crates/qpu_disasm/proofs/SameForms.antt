-- Forms in the profile with the same text have the same word.
use Rattle.std.proofs.Common.{◌≡◌, ◌∙◌, ℕ, ℤ, pos, negsuc, ◌<◌, ◌^◌, Bool, true, false, List, ◌++◌, get_or, refl, sym, ap, subst, arith}
use Rattle.std.specs.Prelude.{◌==◌, not, nat_lt, if◌then◌else◌, codes}
use Rattle.std.specs.Int.{w32, to_be_bytes}
use Rattle.std.specs.Int.Signed.{mag}
use Rattle.std.proofs.lemmas.Bool.Decides.{nat_tests}
use Rattle.std.proofs.lemmas.Fmt.{signed_decimal_injective}
use Rattle.hex.specs.Hex.{encode_lower}
use Rattle.qpu_encode.specs.declared.form.AddPart.{AddPart}
use Rattle.qpu_encode.specs.declared.form.MulPart.{MulPart}
use Rattle.qpu_encode.specs.declared.form.Cond.{Cond}
use Rattle.qpu_encode.specs.declared.form.BraCond.{BraCond}
use Rattle.qpu_encode.specs.declared.form.Head.{Head}
use Rattle.qpu_encode.specs.declared.form.Head.TheVariants.{Plain}
use Rattle.qpu_encode.specs.declared.form.Form.{Form}
use Rattle.qpu_encode.specs.declared.form.Form.TheVariants.{Alu, Ldi, Bra}
use Rattle.qpu_encode.specs.Codes.{add_code, mul_code, cond_code, head_code}
use Rattle.qpu_encode.specs.WordFields.{is_part, is_target, is_source, is_small, is_unpack, is_distance, is_in_profile, word_of}
use Rattle.qpu_encode.proofs.RoundTrip.{unpack_fits, small_fits}
use Rattle.qpu_disasm.specs.Listing.{target_text, source_text, b_text, tail_text, head_name, bra_name, form_text}
use Rattle.qpu_disasm.proofs.Cuts.{cut, rest_of}
use Rattle.qpu_disasm.proofs.SameNames.{head_whole, bra_whole, same_head, same_bra}
use Rattle.qpu_disasm.proofs.Digits.{same_eight, cut_after, eight_long}
use Rattle.qpu_disasm.proofs.Places.{is_place, is_b, place_of_target, same_target, source_whole, same_source, b_whole, same_b, tail_opens, same_tail}
use Rattle.qpu_disasm.proofs.SameUnits.{Fine, add_fields, mul_fields, same_add_unit, same_mul_unit, same_write}

-- ---- ALU words

b_of_small : (small : Bool) (rb m : ℕ) (f : Bool) (aa ab ma mb : ℕ) → is_small small rb m f aa ab ma mb ≡ true → is_b small rb ≡ true
unfolding is_small is_b
b_of_small true rb m f aa ab ma mb h = let fits : rb < 64 = small_fits true rb m f aa ab ma mb h in grind (arith, nat_tests)
b_of_small false rb m f aa ab ma mb h = h

-- what the profile says of the fields of an ALU word
record AluFine (head : Head) (unpack : ℕ) (add : AddPart) (mul : MulPart) (swap : Bool) (ra rb : ℕ) : Type 0 where
  add_fine : Fine (add_code add.op) (add_fields swap add)
  mul_fine : Fine (mul_code mul.op) (mul_fields (not swap) mul)
  ra_fine : is_source ra ≡ true
  rb_fine : is_b (head_code head == 13) rb ≡ true
  unpack_fine : unpack < 8

alu_fine : (head : Head) (unpack : ℕ) (add : AddPart) (mul : MulPart) (flags swap : Bool) (ra rb : ℕ)
    → is_in_profile (Alu head unpack add mul flags swap ra rb) ≡ true → AluFine head unpack add mul swap ra rb
unfolding is_in_profile
alu_fine head unpack add mul flags swap ra rb h =
    let p1 : is_part (add_code add.op) (cond_code add.cond) add.dst add.a add.b ≡ true = grind (arith, nat_tests) in
    let p2 : is_part (mul_code mul.op) (cond_code mul.cond) mul.dst mul.a mul.b ≡ true = grind (arith, nat_tests) in
    let t1 : is_target swap add.dst (cond_code add.cond) ≡ true = grind (arith, nat_tests) in
    let t2 : is_target (not swap) mul.dst (cond_code mul.cond) ≡ true = grind (arith, nat_tests) in
    let s1 : is_source ra ≡ true = grind (arith, nat_tests) in
    let s2 : is_small (head_code head == 13) rb (mul_code mul.op) flags add.a add.b mul.a mul.b ≡ true = grind (arith, nat_tests) in
    let u : is_unpack unpack (add_code add.op) add.a add.b ra mul.a mul.b ≡ true = grind (arith, nat_tests) in
    record {
      add_fine = record { part = p1; place = place_of_target swap add.dst (cond_code add.cond) t1 };
      mul_fine = record { part = p2; place = place_of_target (not swap) mul.dst (cond_code mul.cond) t2 };
      ra_fine = s1;
      rb_fine = b_of_small (head_code head == 13) rb (mul_code mul.op) flags add.a add.b mul.a mul.b s2;
      unpack_fine = unpack_fits unpack (add_code add.op) add.a add.b ra mul.a mul.b u;
    }

-- a target's text tells it where the file is the same
target_of : (s t : Bool) (dst to : ℕ) → s ≡ t → is_place dst ≡ true → is_place to ≡ true → target_text s dst ≡ target_text t to → dst ≡ to
target_of s t dst to e h k same = same_target t dst to h k (subst (λ x. target_text x dst ≡ target_text t to) e same)

b_of : (s t : Bool) (rb to : ℕ) → s ≡ t → is_b s rb ≡ true → is_b t to ≡ true → b_text s rb ≡ b_text t to → rb ≡ to
b_of s t rb to e h k same = same_b t rb to (subst (λ x. is_b x rb ≡ true) e h) k (subst (λ x. b_text x rb ≡ b_text t to) e same)

pub same_alu : (head top : Head) (u v : ℕ) (p q : AddPart) (m n : MulPart) (f g s t : Bool) (ra sa rb sb : ℕ)
    → is_in_profile (Alu head u p m f s ra rb) ≡ true → is_in_profile (Alu top v q n g t sa sb) ≡ true
    → form_text (Alu head u p m f s ra rb) ≡ form_text (Alu top v q n g t sa sb) → word_of (Alu head u p m f s ra rb) ≡ word_of (Alu top v q n g t sa sb)
unfolding form_text word_of
same_alu head top u v p q m n f g s t ra sa rb sb h k e =
    let a = alu_fine head u p m f s ra rb h in
    let b = alu_fine top v q n g t sa sb k in
    let c1 = cut (head_name head) (head_name top) _ _ e (head_whole head) (head_whole top) refl refl in
    let same_top : head ≡ top = same_head head top c1.0 in
    let r1 = same_add_unit s t p q _ _ a.add_fine b.add_fine (rest_of (rest_of c1.1)) in
    let r2 = same_mul_unit (not s) (not t) m n _ _ a.mul_fine b.mul_fine (rest_of (rest_of r1.2)) in
    let c3 = cut (source_text false ra) (source_text false sa) _ _ (rest_of (rest_of (rest_of (rest_of r2.2)))) (source_whole false ra a.ra_fine) (source_whole false sa b.ra_fine) refl refl in
    let c4 = cut (b_text (head_code head == 13) rb) (b_text (head_code top == 13) sb) (tail_text u f s) (tail_text v g t) (rest_of (rest_of (rest_of c3.1)))
    (b_whole (head_code head == 13) rb a.rb_fine) (b_whole (head_code top == 13) sb b.rb_fine) (tail_opens u f s a.unpack_fine) (tail_opens v g t b.unpack_fine) in
    let ends = same_tail u v f g s t a.unpack_fine b.unpack_fine c4.1 in
    let eu : u ≡ v = ends.0 in
    let ef : f ≡ g = ends.1 in
    let es : s ≡ t = ends.2 in
    let ea : ra ≡ sa = same_source false ra sa a.ra_fine b.ra_fine c3.0 in
    let eb : rb ≡ sb = b_of (head_code head == 13) (head_code top == 13) rb sb (ap (λ x. head_code x == 13) same_top) a.rb_fine b.rb_fine c4.0 in
    let ad : p.dst ≡ q.dst = target_of s t p.dst q.dst es a.add_fine.place b.add_fine.place r1.1.target in
    let md : m.dst ≡ n.dst = target_of (not s) (not t) m.dst n.dst (ap not es) a.mul_fine.place b.mul_fine.place r2.1.target in
    let ao : p.op ≡ q.op = r1.0 in
    let mo : m.op ≡ n.op = r2.0 in
    let ac : p.cond ≡ q.cond = r1.1.cond in
    let mc : m.cond ≡ n.cond = r2.1.cond in
    let aa : p.a ≡ q.a = r1.1.a in
    let ab : p.b ≡ q.b = r1.1.b in
    let ma : m.a ≡ n.a = r2.1.a in
    let mb : m.b ≡ n.b = r2.1.b in
    rw (same_top, eu, ef, es, ea, eb, ad, md, ao, mo, ac, mc, aa, ab, ma, mb) refl

-- ---- load immediates

record LoadFine (add_cond mul_cond : Cond) (swap : Bool) (add_dst mul_dst value : ℕ) : Type 0 where
  add_fine : is_place add_dst ≡ true
  mul_fine : is_place mul_dst ≡ true
  value_fine : value < 2 ^ 32

load_fine : (add_cond mul_cond : Cond) (swap : Bool) (add_dst mul_dst value : ℕ)
    → is_in_profile (Ldi add_cond mul_cond swap add_dst mul_dst value) ≡ true → LoadFine add_cond mul_cond swap add_dst mul_dst value
unfolding is_in_profile
load_fine add_cond mul_cond swap add_dst mul_dst value h =
    let t1 : is_target swap add_dst (cond_code add_cond) ≡ true = grind (arith, nat_tests) in
    let t2 : is_target (not swap) mul_dst (cond_code mul_cond) ≡ true = grind (arith, nat_tests) in
    let v : nat_lt value (2 ^ 32) ≡ true = grind (arith, nat_tests) in
    record {
      add_fine = place_of_target swap add_dst (cond_code add_cond) t1;
      mul_fine = place_of_target (not swap) mul_dst (cond_code mul_cond) t2;
      value_fine = grind (arith, nat_tests, v);
    }

pub same_ldi : (ac bc mc nc : Cond) (s t : Bool) (ad bd md nd v w : ℕ)
    → is_in_profile (Ldi ac mc s ad md v) ≡ true → is_in_profile (Ldi bc nc t bd nd w) ≡ true
    → form_text (Ldi ac mc s ad md v) ≡ form_text (Ldi bc nc t bd nd w) → word_of (Ldi ac mc s ad md v) ≡ word_of (Ldi bc nc t bd nd w)
unfolding form_text word_of
same_ldi ac bc mc nc s t ad bd md nd v w h k e =
    let a = load_fine ac mc s ad md v h in
    let b = load_fine bc nc t bd nd w k in
    let r1 = same_write ac bc s t ad bd _ _ a.add_fine b.add_fine (rest_of (rest_of (rest_of (rest_of (rest_of e))))) in
    let r2 = same_write mc nc (not s) (not t) md nd _ _ a.mul_fine b.mul_fine (rest_of (rest_of r1.2)) in
    let c3 = cut_after 8 (encode_lower (to_be_bytes w32 v)) (encode_lower (to_be_bytes w32 w)) (tail_text 0 false s) (tail_text 0 false t)
    (eight_long v) (eight_long w) (rest_of (rest_of r2.2)) in
    let es : s ≡ t = (same_tail 0 0 false false s t (omega arith) (omega arith) c3.1).2 in
    let ec : ac ≡ bc = r1.0 in
    let ed : ad ≡ bd = target_of s t ad bd es a.add_fine b.add_fine r1.1 in
    let em : mc ≡ nc = r2.0 in
    let en : md ≡ nd = target_of (not s) (not t) md nd (ap not es) a.mul_fine b.mul_fine r2.1 in
    let ev : v ≡ w = same_eight v w a.value_fine b.value_fine c3.0 in
    rw (es, ec, ed, em, en, ev) refl

-- ---- branches

distance_small : (z : ℤ) → is_distance z ≡ true → mag z < 2 ^ 63
unfolding is_distance
distance_small (pos n) h = let fits : n < 2 ^ 28 = grind (arith, nat_tests, h) in omega arith
distance_small (negsuc n) h = let fits : n < 2 ^ 28 = grind (arith, nat_tests, h) in omega arith

pub same_branch : (c d : BraCond) (x y : ℤ) → is_in_profile (Bra c x) ≡ true → is_in_profile (Bra d y) ≡ true
    → form_text (Bra c x) ≡ form_text (Bra d y) → word_of (Bra c x) ≡ word_of (Bra d y)
unfolding form_text word_of is_in_profile
same_branch c d x y h k e =
    let c1 = cut (bra_name c) (bra_name d) _ _ (rest_of (rest_of (rest_of (rest_of (rest_of e))))) (bra_whole c) (bra_whole d) refl refl in
    let ec : c ≡ d = same_bra c d c1.0 in
    let ex : x ≡ y = signed_decimal_injective x y (distance_small x h) (distance_small y k) (rest_of c1.1) in
    rw (ec, ex) refl

-- ---- any form

-- which kind of word a text is of, by its third letter: 1 for `ldi`, 2 for `bra`, 3 for `.word` and 0 for an ALU word
kind : List ℕ → ℕ
kind t = if get_or t 2 0 == 105 then 1 else if get_or t 2 0 == 97 then 2 else if get_or t 2 0 == 111 then 3 else 0

head_kind : (head : Head) (rest : List ℕ) → kind (head_name head ++ rest) ≡ 0
unfolding kind
head_kind head rest = elim head as (λ h. kind (head_name h ++ rest) ≡ 0) [ Plain ↦ refl | _ ↦ refl ]

-- the kind of a form's text
kind_of : Form → ℕ
kind_of (Alu head unpack add mul flags swap ra rb) = 0
kind_of (Ldi add_cond mul_cond swap add_dst mul_dst value) = 1
kind_of (Bra cond words) = 2

form_kind : (f : Form) → kind (form_text f) ≡ kind_of f
unfolding form_text kind kind_of
form_kind (Alu head unpack add mul flags swap ra rb) = head_kind head _
form_kind (Ldi add_cond mul_cond swap add_dst mul_dst value) = refl
form_kind (Bra cond words) = refl

same_kind : (f g : Form) → form_text f ≡ form_text g → kind_of f ≡ kind_of g
same_kind f g e = sym (form_kind f) ∙ ap kind e ∙ form_kind g

differ : (f g : Form) → (kind_of f == kind_of g) ≡ false → form_text f ≡ form_text g → ⊥
differ f g other e = let same : kind_of f ≡ kind_of g = same_kind f g e in absurd (grind (arith, nat_tests))

pub same_form : (f g : Form) → is_in_profile f ≡ true → is_in_profile g ≡ true → form_text f ≡ form_text g → word_of f ≡ word_of g
unfolding kind_of
same_form (Alu head u p m a s ra rb) (Alu top v q n b t sa sb) h k e = same_alu head top u v p q m n a b s t ra sa rb sb h k e
same_form (Ldi ac mc s ad md v) (Ldi bc nc t bd nd w) h k e = same_ldi ac bc mc nc s t ad bd md nd v w h k e
same_form (Bra c x) (Bra d y) h k e = same_branch c d x y h k e
same_form (Alu head u p m a s ra rb) (Ldi bc nc t bd nd w) h k e = absurd (differ (Alu head u p m a s ra rb) (Ldi bc nc t bd nd w) refl e)
same_form (Alu head u p m a s ra rb) (Bra d y) h k e = absurd (differ (Alu head u p m a s ra rb) (Bra d y) refl e)
same_form (Ldi ac mc s ad md v) (Alu top u q n b t sa sb) h k e = absurd (differ (Ldi ac mc s ad md v) (Alu top u q n b t sa sb) refl e)
same_form (Bra c x) (Alu top u q n b t sa sb) h k e = absurd (differ (Bra c x) (Alu top u q n b t sa sb) refl e)
same_form (Ldi ac mc s ad md v) (Bra d y) h k e = absurd (differ (Ldi ac mc s ad md v) (Bra d y) refl e)
same_form (Bra c x) (Ldi bc nc t bd nd w) h k e = absurd (differ (Bra c x) (Ldi bc nc t bd nd w) refl e)

not_other : (f : Form) → kind_of f ≡ 3 → ⊥
unfolding kind_of
not_other (Alu head unpack add mul flags swap ra rb) e = absurd (omega arith)
not_other (Ldi add_cond mul_cond swap add_dst mul_dst value) e = absurd (omega arith)
not_other (Bra cond words) e = absurd (omega arith)

-- the text of a form is that of no word outside the profile
pub no_word : (f : Form) (rest : List ℕ) → form_text f ≡ codes ".word " ++ rest → ⊥
unfolding kind
no_word f rest e = not_other f (sym (form_kind f) ∙ ap kind e)
