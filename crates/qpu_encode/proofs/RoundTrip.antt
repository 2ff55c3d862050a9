-- A form is its word.
use Rattle.std.specs.Prelude.{◌≢◌, IfSome, IfNone, ◌≡◌, ℕ, ◌/◌, ◌<◌, ◌≤◌, ◌^◌, List, [], ◌∷◌, Bool, true, false, not, cond, ◌&&◌, ◌==◌, nat_lt, nat_eq, if◌then◌else◌, refl}
use Rattle.std.specs.declared.option.Option.{Option}
use Rattle.std.specs.declared.option.Option.TheVariants.{Some, None}
use Rattle.std.proofs.Common.{arith, sym, ap, ◌∙◌, lit<, get_or, add-one}
use Rattle.std.proofs.lemmas.Bool.Decides.{nat_tests}
use Rattle.qpu_encode.specs.declared.form.AddOp.{AddOp}
use Rattle.qpu_encode.specs.declared.form.AddOp.TheVariants as add_op
use Rattle.qpu_encode.specs.declared.form.MulOp.{MulOp}
use Rattle.qpu_encode.specs.declared.form.MulOp.TheVariants as mul_op
use Rattle.qpu_encode.specs.declared.form.AddPart.{AddPart}
use Rattle.qpu_encode.specs.declared.form.MulPart.{MulPart}
use Rattle.qpu_encode.specs.declared.form.Cond.{Cond}
use Rattle.qpu_encode.specs.declared.form.Cond.TheVariants.{Never, Always, Zs, Zc, Ns, Nc}
use Rattle.qpu_encode.specs.declared.form.BraCond.{BraCond}
use Rattle.std.specs.Prelude.{ℤ, pos, negsuc, ◌-◌, nat_abs}
use Rattle.std.proofs.Math.Nat.{mod-lt, div-one}
use Rattle.std.proofs.lemmas.Nat.{pow_pos}
use Rattle.qpu_encode.specs.declared.form.Head.{Head}
use Rattle.qpu_encode.specs.declared.form.Head.TheVariants.{Plain, End, Small}
use Rattle.qpu_encode.specs.declared.form.Form.{Form}
use Rattle.qpu_encode.specs.declared.form.Form.TheVariants.{Alu, Ldi, Bra}
use Rattle.qpu_encode.specs.Codes.{with_code, add_code, mul_code, cond_code, head_code, add_ops, mul_ops, conds, heads, add_op_at, mul_op_at, cond_at, head_at, bra_code, bra_conds, bra_at}
use Rattle.qpu_encode.specs.declared.form.BraCond.TheVariants as bra
use Rattle.qpu_encode.specs.WordFields.{FitEach, field, join, fields_from}
use Rattle.qpu_encode.proofs.JoinedFields.{fields_of_join, join_of_fields}
use Rattle.qpu_encode.specs.WordFields.{bit, alu_widths, ldi_widths, alu_values, ldi_values, word_of, form_of, alu_from, ldi_from, ◌>>=◌, kept, is_in_profile, is_target, is_source, is_part, is_small, is_unpack, bra_widths, bra_values, bra_from, distance_bits, distance_of, is_distance, by_signal}

-- ---- tables

pub with_code-is : {A : Type 0} (code : A → ℕ) (xs : List A) (n : ℕ) (x : A) → with_code code xs n ≡ Some x → code x ≡ n
with_code-is code [] n x e = cc
with_code-is code (y ∷ ys) n x e =
    elim (nat_eq n (code y)) as (λ v. nat_eq n (code y) ≡ v → cond v (Some y) (with_code code ys n) ≡ Some x → code x ≡ n) [
      | true ↦ λ t s. let same : y ≡ x = cc in let m : n ≡ code y = grind (arith, nat_tests) in rw (← same) (sym m)
      | false ↦ λ t s. with_code-is code ys n x s
    ] refl e

pub add_again : (o : AddOp) → add_op_at (add_code o) ≡ Some o
unfolding add_op_at
add_again add_op.Nop = refl
add_again add_op.Add = refl
add_again add_op.Sub = refl
add_again add_op.Shr = refl
add_again add_op.Asr = refl
add_again add_op.Ror = refl
add_again add_op.Shl = refl
add_again add_op.Min = refl
add_again add_op.Max = refl
add_again add_op.And = refl
add_again add_op.Or = refl
add_again add_op.Xor = refl
add_again add_op.Not = refl
add_again add_op.Clz = refl
add_again add_op.Mul32 = refl
add_again add_op.MulHs = refl
add_again add_op.MulHu = refl

pub mul_again : (o : MulOp) → mul_op_at (mul_code o) ≡ Some o
unfolding mul_op_at
mul_again mul_op.Nop = refl
mul_again mul_op.Mul24 = refl
mul_again mul_op.V8Min = refl

pub cond_again : (o : Cond) → cond_at (cond_code o) ≡ Some o
unfolding cond_at
cond_again Never = refl
cond_again Always = refl
cond_again Zs = refl
cond_again Zc = refl
cond_again Ns = refl
cond_again Nc = refl

pub head_again : (o : Head) → head_at (head_code o) ≡ Some o
unfolding head_at
head_again Plain = refl
head_again End = refl
head_again Small = refl

pub add_sound : (n : ℕ) (o : AddOp) → add_op_at n ≡ Some o → add_code o ≡ n
unfolding add_op_at
add_sound n o e = with_code-is add_code add_ops n o e

pub mul_sound : (n : ℕ) (o : MulOp) → mul_op_at n ≡ Some o → mul_code o ≡ n
unfolding mul_op_at
mul_sound n o e = with_code-is mul_code mul_ops n o e

pub cond_sound : (n : ℕ) (o : Cond) → cond_at n ≡ Some o → cond_code o ≡ n
unfolding cond_at
cond_sound n o e = with_code-is cond_code conds n o e

pub head_sound : (n : ℕ) (o : Head) → head_at n ≡ Some o → head_code o ≡ n
unfolding head_at
head_sound n o e = with_code-is head_code heads n o e

-- ---- bounds

pub add_fits : (o : AddOp) → add_code o < 32
add_fits o = elim o as (λ k. add_code k < 32) [ add_op.Nop ↦ lit< tt | _ ↦ lit< tt ]

pub mul_fits : (o : MulOp) → mul_code o < 8
mul_fits o = elim o as (λ k. mul_code k < 8) [ mul_op.Nop ↦ lit< tt | _ ↦ lit< tt ]

pub cond_fits : (o : Cond) → cond_code o < 8
cond_fits o = elim o as (λ k. cond_code k < 8) [ Never ↦ lit< tt | _ ↦ lit< tt ]

pub head_fits : (o : Head) → head_code o < 16
head_fits o = elim o as (λ k. head_code k < 16) [ Plain ↦ lit< tt | _ ↦ lit< tt ]

pub bit_fits : (b : Bool) → bit b < 2
bit_fits true = omega arith
bit_fits false = omega arith

pub bit_again : (b : Bool) → nat_eq (bit b) 1 ≡ b
bit_again true = refl
bit_again false = refl

pub bit_is : (n : ℕ) → n < 2 → bit (nat_eq n 1) ≡ n
bit_is n h = grind (arith, nat_tests, bit)

pub target_fits : (t : Bool) (dst cond : ℕ) → is_target t dst cond ≡ true → dst < 64
unfolding is_target
target_fits t dst cond e = grind (arith, nat_tests)

pub source_fits : (x : ℕ) → is_source x ≡ true → x < 64
unfolding is_source
source_fits x e = grind (arith, nat_tests)

pub part_fits : (op cond dst a b : ℕ) → is_part op cond dst a b ≡ true → (a < 8) × (b < 8)
unfolding is_part
part_fits op cond dst a b e = grind (arith, nat_tests)

pub small_fits : (s : Bool) (rb m : ℕ) (f : Bool) (aa ab ma mb : ℕ) → is_small s rb m f aa ab ma mb ≡ true → rb < 64
unfolding is_small
small_fits s rb m f aa ab ma mb e = grind (arith, nat_tests, source_fits)

pub unpack_fits : (u o aa ab ra ma mb : ℕ) → is_unpack u o aa ab ra ma mb ≡ true → u < 8
unfolding is_unpack
unpack_fits u o aa ab ra ma mb e = grind (arith, nat_tests)

-- ---- words of a form

pub bind_some : {A B : Type 0} (r : Option A) (f : A → Option B) (y : B) → (r >>= f) ≡ Some y → (x : A) × (r ≡ Some x) × (f x ≡ Some y)
bind_some (Some x) f y e = (x, refl, e)
bind_some None f y e = cc

pub kept_some : (test : Bool) (form f : Form) → kept test form ≡ Some f → (test ≡ true) × (is_in_profile form ≡ true) × (form ≡ f)
kept_some true form f e =
    elim (is_in_profile form) as (λ v. is_in_profile form ≡ v → (if v then Some form else None) ≡ Some f → (true ≡ true) × (is_in_profile form ≡ true) × (form ≡ f)) [
      | true ↦ λ t s. (refl, t, cc)
      | false ↦ λ t s. cc
    ] refl e
kept_some false form f e = cc

-- what an ALU word's fields give has these fields again
pub alu_sound : (mul_b mul_a add_b add_a rb ra op_add op_mul waddr_mul waddr_add ws sf cond_mul cond_add pack pm unpack sig : ℕ) (f : Form)
    → ws < 2 → sf < 2
    → alu_from (mul_b ∷ mul_a ∷ add_b ∷ add_a ∷ rb ∷ ra ∷ op_add ∷ op_mul ∷ waddr_mul ∷ waddr_add ∷ ws ∷ sf ∷ cond_mul ∷ cond_add ∷ pack ∷ pm ∷ unpack ∷ sig ∷ []) ≡ Some f
    → (word_of f ≡ join alu_widths (mul_b ∷ mul_a ∷ add_b ∷ add_a ∷ rb ∷ ra ∷ op_add ∷ op_mul ∷ waddr_mul ∷ waddr_add ∷ ws ∷ sf ∷ cond_mul ∷ cond_add ∷ pack ∷ pm ∷ unpack ∷ sig ∷ []))
    × (is_in_profile f ≡ true)
unfolding alu_from word_of
alu_sound mul_b mul_a add_b add_a rb ra op_add op_mul waddr_mul waddr_add ws sf cond_mul cond_add pack pm unpack sig f h1 h2 e =
    let s1 = bind_some (head_at sig) _ f e in
    let s2 = bind_some (add_op_at op_add) _ f s1.2 in
    let s3 = bind_some (mul_op_at op_mul) _ f s2.2 in
    let s4 = bind_some (cond_at cond_add) _ f s3.2 in
    let s5 = bind_some (cond_at cond_mul) _ f s4.2 in
    let k = kept_some _ _ f s5.2 in
    let zeros : ((pm == 0) && (pack == 0)) ≡ true = k.0 in
    let e0 : pm ≡ 0 = grind (arith, nat_tests, zeros) in
    let e00 : pack ≡ 0 = grind (arith, nat_tests, zeros) in
    let fine : is_in_profile f ≡ true = rw k.2 at k.1 in
    (rw (← k.2, head_sound sig s1.0 s1.1, add_sound op_add s2.0 s2.1, mul_sound op_mul s3.0 s3.1, cond_sound cond_add s4.0 s4.1, cond_sound cond_mul s5.0 s5.1, bit_is ws h1, bit_is sf h2, e0, e00) refl, fine)

pub alu_complete : (head : Head) (unpack : ℕ) (add : AddPart) (mul : MulPart) (flags swap : Bool) (ra rb : ℕ)
    → is_in_profile (Alu head unpack add mul flags swap ra rb) ≡ true
    → alu_from (alu_values head unpack add mul flags swap ra rb) ≡ Some (Alu head unpack add mul flags swap ra rb)
unfolding alu_from
alu_complete head unpack add mul flags swap ra rb h =
    rw (head_again head, add_again add.op, mul_again mul.op, cond_again add.cond, cond_again mul.cond, bit_again flags, bit_again swap, h) refl

pub alu_fits : (head : Head) (unpack : ℕ) (add : AddPart) (mul : MulPart) (flags swap : Bool) (ra rb : ℕ)
    → is_in_profile (Alu head unpack add mul flags swap ra rb) ≡ true
    → FitEach alu_widths (alu_values head unpack add mul flags swap ra rb)
unfolding is_in_profile
alu_fits head unpack add mul flags swap ra rb h =
    let p1 : is_part (add_code add.op) (cond_code add.cond) add.dst add.a add.b ≡ true = grind (arith, nat_tests) in
    let p2 : is_part (mul_code mul.op) (cond_code mul.cond) mul.dst mul.a mul.b ≡ true = grind (arith, nat_tests) in
    let t1 : is_target swap add.dst (cond_code add.cond) ≡ true = grind (arith, nat_tests) in
    let t2 : is_target (not swap) mul.dst (cond_code mul.cond) ≡ true = grind (arith, nat_tests) in
    let s1 : is_source ra ≡ true = grind (arith, nat_tests) in
    let s2 : is_small (head_code head == 13) rb (mul_code mul.op) flags add.a add.b mul.a mul.b ≡ true = grind (arith, nat_tests) in
    let u : is_unpack unpack (add_code add.op) add.a add.b ra mul.a mul.b ≡ true = grind (arith, nat_tests) in
    let a = part_fits (add_code add.op) (cond_code add.cond) add.dst add.a add.b p1 in
    let m = part_fits (mul_code mul.op) (cond_code mul.cond) mul.dst mul.a mul.b p2 in
    let fb : rb < 64 = small_fits (head_code head == 13) rb (mul_code mul.op) flags add.a add.b mul.a mul.b s2 in
    let fm : mul.dst < 64 = target_fits (not swap) mul.dst (cond_code mul.cond) t2 in
    let fa : add.dst < 64 = target_fits swap add.dst (cond_code add.cond) t1 in
    let fu : unpack < 8 = unpack_fits unpack (add_code add.op) add.a add.b ra mul.a mul.b u in
    (m.1, (m.0, (a.1, (a.0, (fb, (source_fits ra s1, (add_fits add.op, (mul_fits mul.op, (fm, (fa, (bit_fits swap, (bit_fits flags, (cond_fits mul.cond, (cond_fits add.cond, (lit< tt, (lit< tt, (fu, (head_fits head, tt))))))))))))))))))

pub ldi_sound : (value waddr_mul waddr_add ws sf cond_mul cond_add zeros sig : ℕ) (f : Form)
    → ws < 2
    → ldi_from (value ∷ waddr_mul ∷ waddr_add ∷ ws ∷ sf ∷ cond_mul ∷ cond_add ∷ zeros ∷ sig ∷ []) ≡ Some f
    → (word_of f ≡ join ldi_widths (value ∷ waddr_mul ∷ waddr_add ∷ ws ∷ sf ∷ cond_mul ∷ cond_add ∷ zeros ∷ sig ∷ [])) × (is_in_profile f ≡ true)
unfolding ldi_from word_of
ldi_sound value waddr_mul waddr_add ws sf cond_mul cond_add zeros sig f h1 e =
    let s4 = bind_some (cond_at cond_add) _ f e in
    let s5 = bind_some (cond_at cond_mul) _ f s4.2 in
    let k = kept_some _ _ f s5.2 in
    let tests : (((sig == 14) && (zeros == 0)) && (sf == 0)) ≡ true = k.0 in
    let e1 : sig ≡ 14 = grind (arith, nat_tests, tests) in
    let e2 : zeros ≡ 0 = grind (arith, nat_tests, tests) in
    let e3 : sf ≡ 0 = grind (arith, nat_tests, tests) in
    let fine : is_in_profile f ≡ true = rw k.2 at k.1 in
    (rw (← k.2, cond_sound cond_add s4.0 s4.1, cond_sound cond_mul s5.0 s5.1, bit_is ws h1, e1, e2, e3) refl, fine)

pub ldi_complete : (add_cond mul_cond : Cond) (swap : Bool) (add_dst mul_dst value : ℕ)
    → is_in_profile (Ldi add_cond mul_cond swap add_dst mul_dst value) ≡ true
    → ldi_from (ldi_values add_cond mul_cond swap add_dst mul_dst value) ≡ Some (Ldi add_cond mul_cond swap add_dst mul_dst value)
unfolding ldi_from
ldi_complete add_cond mul_cond swap add_dst mul_dst value h = rw (cond_again add_cond, cond_again mul_cond, bit_again swap, h) refl

pub ldi_fits : (add_cond mul_cond : Cond) (swap : Bool) (add_dst mul_dst value : ℕ)
    → is_in_profile (Ldi add_cond mul_cond swap add_dst mul_dst value) ≡ true
    → FitEach ldi_widths (ldi_values add_cond mul_cond swap add_dst mul_dst value)
unfolding is_in_profile
ldi_fits add_cond mul_cond swap add_dst mul_dst value h =
    let t1 : is_target swap add_dst (cond_code add_cond) ≡ true = grind (arith, nat_tests) in
    let t2 : is_target (not swap) mul_dst (cond_code mul_cond) ≡ true = grind (arith, nat_tests) in
    let v : nat_lt value (2 ^ 32) ≡ true = grind (arith, nat_tests) in
    let v2 : value < 2 ^ 32 = grind (arith, nat_tests, v) in
    (v2, (target_fits (not swap) mul_dst (cond_code mul_cond) t2, (target_fits swap add_dst (cond_code add_cond) t1, (bit_fits swap, (lit< tt, (cond_fits mul_cond, (cond_fits add_cond, (lit< tt, (lit< tt, tt)))))))))

pub bra_again : (o : BraCond) → bra_at (bra_code o) ≡ Some o
unfolding bra_at
bra_again bra.AllZ = refl
bra_again bra.AllNz = refl
bra_again bra.AnyZ = refl
bra_again bra.AnyNz = refl
bra_again bra.AllN = refl
bra_again bra.AllNn = refl
bra_again bra.AnyN = refl
bra_again bra.AnyNn = refl
bra_again bra.Always = refl

pub bra_sound_code : (n : ℕ) (o : BraCond) → bra_at n ≡ Some o → bra_code o ≡ n
unfolding bra_at
bra_sound_code n o e = with_code-is bra_code bra_conds n o e

pub bra_code_fits : (o : BraCond) → bra_code o < 16
bra_code_fits o = elim o as (λ k. bra_code k < 16) [ bra.AllZ ↦ lit< tt | _ ↦ lit< tt ]

pub distance_again : (z : ℤ) → is_distance z ≡ true → distance_of (distance_bits z) ≡ z
unfolding is_distance distance_of distance_bits
distance_again (pos n) h = rw h refl
distance_again (negsuc n) h =
    let b : n < 2 ^ 28 = grind (arith, nat_tests, h) in
    let t : nat_lt (2 ^ 29 - 1 - n) (2 ^ 28) ≡ false = grind (arith, nat_tests) in
    let e : 2 ^ 29 - 1 - (2 ^ 29 - 1 - n) ≡ n = omega arith in
    rw (t, e) refl

pub distance_fits : (z : ℤ) → is_distance z ≡ true → distance_bits z < 2 ^ 29
unfolding is_distance distance_bits
distance_fits (pos n) h = let b : n < 2 ^ 28 = grind (arith, nat_tests, h) in omega arith
distance_fits (negsuc n) h = omega arith

pub bits_of_distance : (n : ℕ) → n < 2 ^ 29 → distance_bits (distance_of n) ≡ n
unfolding distance_of distance_bits
bits_of_distance n h =
    elim (nat_lt n (2 ^ 28)) as (λ v. nat_lt n (2 ^ 28) ≡ v → distance_bits (if v then pos n else negsuc (2 ^ 29 - 1 - n)) ≡ n) [
      | true ↦ λ t. refl
      | false ↦ λ t. let e : 2 ^ 29 - 1 - (2 ^ 29 - 1 - n) ≡ n = omega arith in e
    ] refl

pub bra_sound : (low words waddr_mul waddr_add ws raddr_a reg rel cond_br zeros sig : ℕ) (f : Form)
    → words < 2 ^ 29
    → bra_from (low ∷ words ∷ waddr_mul ∷ waddr_add ∷ ws ∷ raddr_a ∷ reg ∷ rel ∷ cond_br ∷ zeros ∷ sig ∷ []) ≡ Some f
    → (word_of f ≡ join bra_widths (low ∷ words ∷ waddr_mul ∷ waddr_add ∷ ws ∷ raddr_a ∷ reg ∷ rel ∷ cond_br ∷ zeros ∷ sig ∷ [])) × (is_in_profile f ≡ true)
unfolding bra_from word_of
bra_sound low words waddr_mul waddr_add ws raddr_a reg rel cond_br zeros sig f h e =
    let s1 = bind_some (bra_at cond_br) _ f e in
    let k = kept_some _ _ f s1.2 in
    let tests : ((((low == 0) && (waddr_mul == 39)) && ((waddr_add == 39) && (ws == 0))) && (((raddr_a == 0) && (reg == 0)) && ((rel == 1) && ((zeros == 0) && (sig == 15))))) ≡ true = k.0 in
    let e1 : low ≡ 0 = grind (arith, nat_tests, tests) in
    let e2 : waddr_mul ≡ 39 = grind (arith, nat_tests, tests) in
    let e3 : waddr_add ≡ 39 = grind (arith, nat_tests, tests) in
    let e4 : ws ≡ 0 = grind (arith, nat_tests, tests) in
    let e5 : raddr_a ≡ 0 = grind (arith, nat_tests, tests) in
    let e6 : reg ≡ 0 = grind (arith, nat_tests, tests) in
    let e7 : rel ≡ 1 = grind (arith, nat_tests, tests) in
    let e8 : zeros ≡ 0 = grind (arith, nat_tests, tests) in
    let e9 : sig ≡ 15 = grind (arith, nat_tests, tests) in
    let fine : is_in_profile f ≡ true = rw k.2 at k.1 in
    (rw (← k.2, bra_sound_code cond_br s1.0 s1.1, bits_of_distance words h, e1, e2, e3, e4, e5, e6, e7, e8, e9) refl, fine)

pub bra_complete : (c : BraCond) (words : ℤ) → is_in_profile (Bra c words) ≡ true → bra_from (bra_values c words) ≡ Some (Bra c words)
unfolding bra_from is_in_profile
bra_complete c words h = rw (bra_again c, distance_again words h, h) refl

pub bra_fits : (c : BraCond) (words : ℤ) → is_in_profile (Bra c words) ≡ true → FitEach bra_widths (bra_values c words)
unfolding is_in_profile
bra_fits c words h = (lit< tt, (distance_fits words h, (lit< tt, (lit< tt, (lit< tt, (lit< tt, (lit< tt, (lit< tt, (bra_code_fits c, (lit< tt, (lit< tt, tt)))))))))))

-- what a word by its signal gives, each way
pub by_signal-is : (sig : ℕ) (l b a : Option Form) (f : Form) (P : Type 0)
    → by_signal sig l b a ≡ Some f → (l ≡ Some f → P) → (b ≡ Some f → P) → (a ≡ Some f → P) → P
by_signal-is sig l b a f P e pl pb pa =
    elim (sig == 14) as (λ v. (if v then l else (if sig == 15 then b else a)) ≡ Some f → P) [
      | true ↦ λ t. pl t
      | false ↦ λ t. elim (sig == 15) as (λ v. (if v then b else a) ≡ Some f → P) [ true ↦ λ u. pb u | false ↦ λ u. pa u ] t
    ] e

-- a word that has a form is the word of that form
pub form_sound : (word : ℕ) (f : Form) → word < 2 ^ 64 → form_of word ≡ Some f → (word_of f ≡ word) × (is_in_profile f ≡ true)
unfolding form_of
form_sound word f h e =
    let one : word / 1 ≡ word = omega arith in
    let ldi_whole : join ldi_widths (fields_from 0 ldi_widths word) ≡ word = join_of_fields ldi_widths 0 word h ∙ one in
    let bra_whole : join bra_widths (fields_from 0 bra_widths word) ≡ word = join_of_fields bra_widths 0 word h ∙ one in
    let alu_whole : join alu_widths (fields_from 0 alu_widths word) ≡ word = join_of_fields alu_widths 0 word h ∙ one in
    let b44 : field 44 1 word < 2 = mod-lt (word / 2 ^ 44) (pow_pos 1) in
    let b45 : field 45 1 word < 2 = mod-lt (word / 2 ^ 45) (pow_pos 1) in
    let b3 : field 3 29 word < 2 ^ 29 = mod-lt (word / 2 ^ 3) (pow_pos 29) in
    by_signal-is (field 60 4 word) _ _ _ f ((word_of f ≡ word) × (is_in_profile f ≡ true)) e
    (λ t. let r = ldi_sound _ _ _ _ _ _ _ _ _ f b44 t in (r.0 ∙ ldi_whole, r.1))
    (λ t. let r = bra_sound _ _ _ _ _ _ _ _ _ _ _ f b3 t in (r.0 ∙ bra_whole, r.1))
    (λ t. let r = alu_sound _ _ _ _ _ _ _ _ _ _ _ _ _ _ _ _ _ _ f b44 b45 t in (r.0 ∙ alu_whole, r.1))

-- no head is the signal of another kind of word
pub by_head : (head : Head) (l b a : Option Form) → by_signal (head_code head) l b a ≡ a
by_head Plain l b a = refl
by_head End l b a = refl
by_head Small l b a = refl

-- a word with the fields of a form has that form
alu_form : (n : ℕ) (head : Head) (unpack : ℕ) (add : AddPart) (mul : MulPart) (flags swap : Bool) (ra rb : ℕ)
    → is_in_profile (Alu head unpack add mul flags swap ra rb) ≡ true
    → fields_from 0 alu_widths n ≡ alu_values head unpack add mul flags swap ra rb
    → form_of n ≡ Some (Alu head unpack add mul flags swap ra rb)
unfolding form_of
alu_form n head unpack add mul flags swap ra rb h e =
    let s : field 60 4 n ≡ head_code head = ap (λ xs. get_or xs 17 0) e in
    ap (λ (x : ℕ). by_signal x (ldi_from (fields_from 0 ldi_widths n)) (bra_from (fields_from 0 bra_widths n)) (alu_from (fields_from 0 alu_widths n))) s
    ∙ by_head head _ _ _
    ∙ ap alu_from e
    ∙ alu_complete head unpack add mul flags swap ra rb h

ldi_form : (n : ℕ) (add_cond mul_cond : Cond) (swap : Bool) (add_dst mul_dst value : ℕ)
    → is_in_profile (Ldi add_cond mul_cond swap add_dst mul_dst value) ≡ true
    → fields_from 0 ldi_widths n ≡ ldi_values add_cond mul_cond swap add_dst mul_dst value
    → form_of n ≡ Some (Ldi add_cond mul_cond swap add_dst mul_dst value)
unfolding form_of
ldi_form n add_cond mul_cond swap add_dst mul_dst value h e =
    let s : field 60 4 n ≡ 14 = ap (λ xs. get_or xs 8 0) e in
    ap (λ (x : ℕ). by_signal x (ldi_from (fields_from 0 ldi_widths n)) (bra_from (fields_from 0 bra_widths n)) (alu_from (fields_from 0 alu_widths n))) s
    ∙ ap ldi_from e
    ∙ ldi_complete add_cond mul_cond swap add_dst mul_dst value h

bra_form : (n : ℕ) (c : BraCond) (words : ℤ)
    → is_in_profile (Bra c words) ≡ true → fields_from 0 bra_widths n ≡ bra_values c words → form_of n ≡ Some (Bra c words)
unfolding form_of
bra_form n c words h e =
    let s : field 60 4 n ≡ 15 = ap (λ xs. get_or xs 10 0) e in
    ap (λ (x : ℕ). by_signal x (ldi_from (fields_from 0 ldi_widths n)) (bra_from (fields_from 0 bra_widths n)) (alu_from (fields_from 0 alu_widths n))) s
    ∙ ap bra_from e
    ∙ bra_complete c words h

-- the form of a form's word is that form
pub form_complete : (f : Form) → is_in_profile f ≡ true → form_of (word_of f) ≡ Some f
unfolding word_of
form_complete (Alu head unpack add mul flags swap ra rb) h =
    let vs : List ℕ = alu_values head unpack add mul flags swap ra rb in
    alu_form (join alu_widths vs) head unpack add mul flags swap ra rb h
    (fields_of_join alu_widths vs (alu_fits head unpack add mul flags swap ra rb h) 0 (join alu_widths vs) (div-one (join alu_widths vs)))
form_complete (Ldi add_cond mul_cond swap add_dst mul_dst value) h =
    let vs : List ℕ = ldi_values add_cond mul_cond swap add_dst mul_dst value in
    ldi_form (join ldi_widths vs) add_cond mul_cond swap add_dst mul_dst value h
    (fields_of_join ldi_widths vs (ldi_fits add_cond mul_cond swap add_dst mul_dst value h) 0 (join ldi_widths vs) (div-one (join ldi_widths vs)))
form_complete (Bra c words) h =
    let vs : List ℕ = bra_values c words in
    bra_form (join bra_widths vs) c words h (fields_of_join bra_widths vs (bra_fits c words h) 0 (join bra_widths vs) (div-one (join bra_widths vs)))

-- a word without a form is the word of no form in the profile
pub no_form : (word : ℕ) → form_of word ≡ None → (f : Form) → is_in_profile f ≡ true → word_of f ≢ word
no_form word e f h same =
    let some : form_of word ≡ Some f = ap form_of (sym same) ∙ form_complete f h in
    cc

-- a form is that of its word
pub form_back : (word : ℕ) (r : Option Form) → word < 2 ^ 64 → r ≡ form_of word → IfSome r (λ form. word_of form ≡ word)
form_back word (Some f) h e = (form_sound word f h (sym e)).0
form_back word None h e = tt

-- no form means no form in the profile with that word
pub form_none : (word : ℕ) (r : Option Form) → r ≡ form_of word → IfNone r ((form : Form) → is_in_profile form ≡ true → word_of form ≢ word)
form_none word (Some f) e = tt
form_none word None e = no_form word (sym e)

-- a distance in the profile is no larger than 2^28
pub distance_size : (z : ℤ) → is_distance z ≡ true → nat_abs z ≤ 2 ^ 28
unfolding is_distance
distance_size (pos n) h = let b : n < 2 ^ 28 = grind (arith, nat_tests, h) in omega arith
distance_size (negsuc n) h = let b : n < 2 ^ 28 = grind (arith, nat_tests, h) in omega (arith, add-one n)
