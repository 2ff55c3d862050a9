-- What a word gives and writes is sixteen words, whatever it reads: the registers stay in range.
use Rattle.std.proofs.Common.{arith, ◌≡◌, ℕ, ◌+◌, ◌-◌, ◌%◌, ◌^◌, ◌<◌, ◌≤◌, Bool, true, false, if◌then◌else◌, ◌==◌, List, [], get_or, refl, ap, sym, ◌∙◌, subst, inl, inr}
use Rattle.std.proofs.lemmas.Bool.{cases_eq, cases_lt}
use Rattle.std.proofs.lemmas.Bool.Decides.{nat_tests}
use Rattle.std.proofs.lemmas.List.{length-set, get_or-set_same, get_or-set_other, get_or_past}
use Rattle.std.specs.Prelude.{nat_le, slice_set, is_some}
use Rattle.q_lane.specs.declared.lanes.Lanes.{Lanes}
use Rattle.q_lane.specs.Vectors.{lanes, lane, rotated}
use Rattle.q_lane.proofs.VectorLaws.{length-lanes, get_or-lanes}
use Rattle.qpu_encode.specs.declared.form.AddPart.{AddPart}
use Rattle.qpu_encode.specs.declared.form.MulPart.{MulPart}
use Rattle.qpu_encode.specs.declared.form.Cond.{Cond}
use Rattle.qpu_encode.specs.declared.form.Form.{Form}
use Rattle.qpu_encode.specs.declared.form.Form.TheVariants.{Alu, Ldi, Bra}
use Rattle.qpu_encode.specs.Operations.{add_value, mul_value, unpacked, small_word, rotation, passes}
use Rattle.qpu_encode.specs.WordFields.{is_in_profile}
use Rattle.qpu_encode.proofs.WordBounds.{add_value-below, mul_value-below, unpacked-below, small_word-below, form_in_range}
use Rattle.qpu_rules.specs.declared.registers.Target.{Target}
use Rattle.qpu_rules.specs.Uses.{is_small, rotates, add_target, mul_target, write_access}
use Rattle.qpu_machine.specs.declared.registers.Results.{Results}
use Rattle.qpu_machine.specs.declared.state.Regs.{Regs}
use Rattle.qpu_machine.specs.Operations.{register, splat, read_a, read_b, operand, unpacked_each, add_result, mul_result, turned, results, outgoing, written, write_register, after_write, after_flags, sets_flags, flagged, regs_after}
use Rattle.qpu_machine.specs.Reachable.{AreWords, IsVector, AreRegisters, AreRegs}

-- what holds of both choices holds of the choice
pub chosen : {A : Type 0} (P : A → Type 0) (b : Bool) (x y : A) → (b ≡ true → P x) → (b ≡ false → P y) → P (if b then x else y)
chosen P true x y f g = f refl
chosen P false x y f g = g refl

-- ---- vectors

none-below : 0 < 2 ^ 32
none-below = omega arith

pub vector-of : (f : ℕ → ℕ) → ((i : ℕ) → i < 16 → f i < 2 ^ 32) → IsVector (lanes 16 f)
vector-of f p = record { many = length-lanes 16 f; words = each }
  where
    each : (i : ℕ) → get_or (lanes 16 f) i 0 < 2 ^ 32
    each i = elim (cases_lt i 16) [
      | inl h ↦ subst (λ n. n < 2 ^ 32) (sym (get_or-lanes 16 f i 0 h)) (p i h)
      | inr g ↦ subst (λ n. n < 2 ^ 32) (sym (get_or_past (lanes 16 f) i 0 (subst (λ n. n ≤ i) (sym (length-lanes 16 f)) g))) none-below
    ]

pub splat-vector : (word : ℕ) → word < 2 ^ 32 → IsVector (splat word)
splat-vector word h = vector-of (λ _. word) (λ i l. h)

-- ---- registers

pub register-words : (count : ℕ) (file : List (Lanes 16)) → AreRegisters count file → (x : ℕ) → AreWords (register file x)
register-words count file h x i = elim (cases_lt x count) [
  | inl l ↦ (h.each x l).words i
  | inr g ↦ subst (λ (r : Lanes 16). get_or r.words i 0 < 2 ^ 32) (sym (get_or_past file x (record { words = [] }) (let many = h.many in omega (arith, many, g)))) none-below
]

pub set-registers : (count : ℕ) (file : List (Lanes 16)) (x : ℕ) (new : List ℕ) → AreRegisters count file → IsVector new → AreRegisters count (slice_set file x (record { words = new }))
set-registers count file x new h v = record { many = length-set file x (record { words = new }) ∙ h.many; each = each }
  where
    each : (y : ℕ) → y < count → IsVector (register (slice_set file x (record { words = new })) y)
    each y l = elim (cases_eq y x) [
      | inl e ↦ subst (λ (r : Lanes 16). IsVector r.words) (sym (ap (λ i. get_or (slice_set file x (record { words = new })) i (record { words = [] })) e ∙ get_or-set_same file x (record { words = new }) (record { words = [] }) (let many = h.many in omega (arith, many, e, l)))) v
      | inr d ↦ subst (λ (r : Lanes 16). IsVector r.words) (sym (get_or-set_other file x y (record { words = new }) (record { words = [] }) d)) (h.each y l)
    ]

-- ---- operands

below-32 : (x : ℕ) → nat_le x 31 ≡ true → x < 32
below-32 x h = grind (arith, nat_tests)

below-4 : (x : ℕ) → nat_le x 3 ≡ true → x < 4
below-4 x h = grind (arith, nat_tests)

read_a-vector : (regs : Regs) (incoming : List ℕ) (x : ℕ) → AreRegs regs → IsVector incoming → IsVector (read_a regs incoming x)
unfolding read_a
read_a-vector regs incoming x r v =
    chosen IsVector (nat_le x 31) (register regs.a x) (if x == 38 then lanes 16 (λ i. i) else (if x == 39 then splat 0 else incoming)) (λ e. r.a.each x (below-32 x e))
    (λ _. chosen IsVector (x == 38) (lanes 16 (λ i. i)) (if x == 39 then splat 0 else incoming) (λ _. vector-of (λ i. i) (λ i l. omega (arith, l)))
    (λ _. chosen IsVector (x == 39) (splat 0) incoming (λ _. splat-vector 0 none-below) (λ _. v)))

read_b-vector : (regs : Regs) (number : ℕ) (incoming : List ℕ) (small : Bool) (x : ℕ) → AreRegs regs → number < 2 ^ 32 → IsVector incoming → IsVector (read_b regs number incoming small x)
unfolding read_b
read_b-vector regs number incoming small x r n v =
    chosen IsVector small (splat (small_word x)) (if nat_le x 31 then register regs.b x else (if x == 38 then splat number else (if x == 39 then splat 0 else incoming)))
    (λ _. splat-vector (small_word x) (small_word-below x))
    (λ _. chosen IsVector (nat_le x 31) (register regs.b x) (if x == 38 then splat number else (if x == 39 then splat 0 else incoming)) (λ e. r.b.each x (below-32 x e))
    (λ _. chosen IsVector (x == 38) (splat number) (if x == 39 then splat 0 else incoming) (λ _. splat-vector number n)
    (λ _. chosen IsVector (x == 39) (splat 0) incoming (λ _. splat-vector 0 none-below) (λ _. v))))

operand-vector : (regs : Regs) (a b : List ℕ) (x : ℕ) → AreRegs regs → IsVector a → IsVector b → IsVector (operand regs a b x)
unfolding operand
operand-vector regs a b x r v w =
    chosen IsVector (nat_le x 3) (register regs.acc x) (if x == 5 then regs.five.words else (if x == 6 then a else b)) (λ e. r.acc.each x (below-4 x e))
    (λ _. chosen IsVector (x == 5) regs.five.words (if x == 6 then a else b) (λ _. r.five)
    (λ _. chosen IsVector (x == 6) a b (λ _. v) (λ _. w)))

-- ---- results

unpacked-vector : (unpack : ℕ) (xs : List ℕ) → IsVector xs → IsVector (unpacked_each unpack xs)
unfolding unpacked_each
unpacked-vector unpack xs v =
    chosen IsVector (unpack == 0) xs (lanes 16 (λ i. unpacked unpack (lane xs i))) (λ _. v) (λ _. vector-of (λ i. unpacked unpack (lane xs i)) (λ i l. unpacked-below unpack (lane xs i) (v.words i)))

add_result-vector : (regs : Regs) (a b : List ℕ) (part : AddPart) → AreRegs regs → IsVector a → IsVector b → IsVector (add_result regs a b part)
unfolding add_result
add_result-vector regs a b part r v w =
    vector-of (λ i. add_value part.op (lane (operand regs a b part.a) i) (lane (operand regs a b part.b) i))
    (λ i l. add_value-below part.op (lane (operand regs a b part.a) i) (lane (operand regs a b part.b) i)
    ((operand-vector regs a b part.a r v w).words i) ((operand-vector regs a b part.b r v w).words i))

mul_result-vector : (regs : Regs) (a b : List ℕ) (part : MulPart) → AreRegs regs → IsVector a → IsVector b → IsVector (mul_result regs a b part)
unfolding mul_result
mul_result-vector regs a b part r v w =
    vector-of (λ i. mul_value part.op (lane (operand regs a b part.a) i) (lane (operand regs a b part.b) i))
    (λ i l. mul_value-below part.op (lane (operand regs a b part.a) i) (lane (operand regs a b part.b) i)
    ((operand-vector regs a b part.a r v w).words i) ((operand-vector regs a b part.b r v w).words i))

rotated-vector : (xs : List ℕ) (k : ℕ) → IsVector xs → IsVector (rotated 16 xs k)
rotated-vector xs k v = vector-of (λ i. lane xs ((i + (16 - k % 16)) % 16)) (λ i l. v.words ((i + (16 - k % 16)) % 16))

turned-vector : (b : Bool) (code : ℕ) (regs : Regs) (xs : List ℕ) → IsVector xs → IsVector (turned b code regs xs)
unfolding turned
turned-vector true code regs xs v = rotated-vector xs (rotation code (lane regs.five.words 0)) v
turned-vector false code regs xs v = v

pub record AreResults (r : Results) : Type 0 where
  pub add : IsVector r.add
  pub mul : IsVector r.mul

-- both units of a word of the profile give vectors
pub results-are : (f : Form) (regs : Regs) (number : ℕ) (incoming : List ℕ) → is_in_profile f ≡ true → AreRegs regs → number < 2 ^ 32 → IsVector incoming
    → AreResults (results f regs number incoming)
unfolding results
results-are (Alu head unpack add mul flags swap ra rb) regs number incoming p r n v =
    let a = read_a-vector regs incoming ra r v in
    let b = read_b-vector regs number incoming (is_small head) rb r n v in
    record {
      add = add_result-vector regs (unpacked_each unpack (read_a regs incoming ra)) (read_b regs number incoming (is_small head) rb) add r (unpacked-vector unpack (read_a regs incoming ra) a) b;
      mul = turned-vector (rotates (Alu head unpack add mul flags swap ra rb)) rb regs _ (mul_result-vector regs (read_a regs incoming ra) (read_b regs number incoming (is_small head) rb) mul r a b);
    }
results-are (Ldi add_cond mul_cond swap add_dst mul_dst value) regs number incoming p r n v =
    let small = (form_in_range (Ldi add_cond mul_cond swap add_dst mul_dst value) p).value_fits in
    record { add = splat-vector value small; mul = splat-vector value small }
results-are (Bra c words) regs number incoming p r n v = record { add = splat-vector 0 none-below; mul = splat-vector 0 none-below }

pub outgoing-vector : (f : Form) (r : Results) → AreResults r → IsVector (outgoing f r)
unfolding outgoing
outgoing-vector f r h =
    chosen IsVector (is_some (write_access (add_target f))) r.add (if is_some (write_access (mul_target f)) then r.mul else splat 0) (λ _. h.add)
    (λ _. chosen IsVector (is_some (write_access (mul_target f))) r.mul (splat 0) (λ _. h.mul) (λ _. splat-vector 0 none-below))

-- ---- writes

written-vector : (cond : Cond) (zero neg : List Bool) (old new : List ℕ) → AreWords old → IsVector new → IsVector (written cond zero neg old new)
unfolding written
written-vector cond zero neg old new o v =
    vector-of (λ i. if passes cond (get_or zero i false) (get_or neg i false) then lane new i else lane old i)
    (λ i l. chosen (λ n. n < 2 ^ 32) (passes cond (get_or zero i false) (get_or neg i false)) (lane new i) (lane old i) (λ _. v.words i) (λ _. o i))

write_register-keeps : (count : ℕ) (cond : Cond) (regs : Regs) (file : List (Lanes 16)) (x : ℕ) (new : List ℕ) → AreRegisters count file → IsVector new
    → AreRegisters count (write_register cond regs file x new)
unfolding write_register
write_register-keeps count cond regs file x new h v =
    set-registers count file x (written cond regs.zero regs.neg (register file x) new) h (written-vector cond regs.zero regs.neg (register file x) new (register-words count file h x) v)

-- a register of a file, by the file that the unit goes through
file-keeps : (t : Target) (new : List ℕ) (regs : Regs) → AreRegs regs → IsVector new
    → AreRegs (if t.through_b then record regs { b = write_register t.cond regs regs.b t.dst new } else record regs { a = write_register t.cond regs regs.a t.dst new })
file-keeps t new regs r v =
    chosen AreRegs t.through_b (record regs { b = write_register t.cond regs regs.b t.dst new }) (record regs { a = write_register t.cond regs regs.a t.dst new })
    (λ _. record { a = r.a; b = write_register-keeps 32 t.cond regs regs.b t.dst new r.b v; acc = r.acc; five = r.five; zero = r.zero; neg = r.neg })
    (λ _. record { a = write_register-keeps 32 t.cond regs regs.a t.dst new r.a v; b = r.b; acc = r.acc; five = r.five; zero = r.zero; neg = r.neg })

-- an accumulator, or r5, or nothing
other-keeps : (t : Target) (new : List ℕ) (regs : Regs) → AreRegs regs → IsVector new
    → AreRegs (if nat_le t.dst 35 then record regs { acc = write_register t.cond regs regs.acc (t.dst - 32) new } else (if t.dst == 37 then record regs { five = record { words = splat (lane new 0) } } else regs))
other-keeps t new regs r v =
    chosen AreRegs (nat_le t.dst 35) (record regs { acc = write_register t.cond regs regs.acc (t.dst - 32) new }) (if t.dst == 37 then record regs { five = record { words = splat (lane new 0) } } else regs)
    (λ _. record { a = r.a; b = r.b; acc = write_register-keeps 4 t.cond regs regs.acc (t.dst - 32) new r.acc v; five = r.five; zero = r.zero; neg = r.neg })
    (λ _. chosen AreRegs (t.dst == 37) (record regs { five = record { words = splat (lane new 0) } }) regs
    (λ _. record { a = r.a; b = r.b; acc = r.acc; five = splat-vector (lane new 0) (v.words 0); zero = r.zero; neg = r.neg })
    (λ _. r))

after_write-keeps : (t : Target) (new : List ℕ) (regs : Regs) → AreRegs regs → IsVector new → AreRegs (after_write t new regs)
unfolding after_write
after_write-keeps t new regs r v =
    chosen AreRegs (nat_le t.dst 31)
    (if t.through_b then record regs { b = write_register t.cond regs regs.b t.dst new } else record regs { a = write_register t.cond regs regs.a t.dst new })
    (if nat_le t.dst 35 then record regs { acc = write_register t.cond regs regs.acc (t.dst - 32) new } else (if t.dst == 37 then record regs { five = record { words = splat (lane new 0) } } else regs))
    (λ _. file-keeps t new regs r v) (λ _. other-keeps t new regs r v)

after_flags-keeps : (flags : Bool) (result : List ℕ) (regs : Regs) → AreRegs regs → AreRegs (after_flags flags result regs)
unfolding after_flags
after_flags-keeps true result regs r = record { a = r.a; b = r.b; acc = r.acc; five = r.five; zero = length-lanes 16 _; neg = length-lanes 16 _ }
after_flags-keeps false result regs r = r

pub regs_after-keeps : (f : Form) (r : Results) (regs : Regs) → AreRegs regs → AreResults r → AreRegs (regs_after f r regs)
unfolding regs_after
regs_after-keeps f r regs h v =
    after_flags-keeps (sets_flags f) (flagged f r) (after_write (mul_target f) r.mul (after_write (add_target f) r.add regs))
    (after_write-keeps (mul_target f) r.mul (after_write (add_target f) r.add regs) (after_write-keeps (add_target f) r.add regs h v.add) v.mul)
