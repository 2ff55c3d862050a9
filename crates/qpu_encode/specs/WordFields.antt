-- Words and their fields: which words are in the profile, and the typed form of each (Broadcom, VideoCore IV 3D Architecture Reference
-- Guide, QPU chapter: ALU instructions, load immediate instructions, branch instructions).
use Rattle.std.specs.Prelude.{ℤ, pos, negsuc, ◌-◌, ℕ, ◌^◌, List, [], ◌∷◌, Bool, true, false, not, ◌&&◌, ◌||◌, ◌==◌, nat_le, nat_lt, if◌then◌else◌, ◌+◌, ◌*◌, ◌/◌, ◌%◌, ◌<◌}
use Rattle.std.specs.declared.option.Option.{Option}
use Rattle.std.specs.declared.option.Option.TheVariants.{Some, None}
use Rattle.qpu_encode.specs.declared.form.AddPart.{AddPart}
use Rattle.qpu_encode.specs.declared.form.MulPart.{MulPart}
use Rattle.qpu_encode.specs.declared.form.Cond.{Cond}
use Rattle.qpu_encode.specs.declared.form.BraCond.{BraCond}
use Rattle.qpu_encode.specs.declared.form.Head.{Head}
use Rattle.qpu_encode.specs.declared.form.Form.{Form}
use Rattle.qpu_encode.specs.declared.form.Form.TheVariants.{Alu, Ldi, Bra}
use Rattle.qpu_encode.specs.Codes.{add_code, mul_code, cond_code, head_code, bra_code, add_op_at, mul_op_at, cond_at, head_at, bra_at}

-- ---- fields of a number, by div and mod

-- the field of this width whose lowest bit is bit lo
abbrev pub field : ℕ → ℕ → ℕ → ℕ
field lo width word = word / 2 ^ lo % 2 ^ width

-- the number whose fields from the low end on have these widths and values
abbrev pub join : List ℕ → List ℕ → ℕ
join [] vs = 0
join (w ∷ ws) [] = 0
join (w ∷ ws) (v ∷ vs) = join ws vs * 2 ^ w + v

-- the fields of these widths of a number, one after the other from bit lo on
abbrev pub fields_from : ℕ → List ℕ → ℕ → List ℕ
fields_from lo [] word = []
fields_from lo (w ∷ ws) word = field lo w word ∷ fields_from (lo + w) ws word

-- how many bits fields of these widths have together
abbrev pub bits_of : List ℕ → ℕ
bits_of [] = 0
bits_of (w ∷ ws) = w + bits_of ws

-- there are as many values as widths, and each value fits its width
abbrev pub FitEach : List ℕ → List ℕ → Type 0
FitEach [] [] = Unit {0}
FitEach [] (v ∷ vs) = ⊥
FitEach (w ∷ ws) [] = ⊥
FitEach (w ∷ ws) (v ∷ vs) = (v < 2 ^ w) × FitEach ws vs

-- ---- forms

-- the bit of a flag
abbrev pub bit : Bool → ℕ
bit false = 0
bit true = 1

-- the widths of an ALU word's fields from the low end on:
-- mul_b mul_a add_b add_a raddr_b raddr_a op_add op_mul waddr_mul waddr_add ws sf cond_mul cond_add pack pm unpack sig
abbrev pub alu_widths : List ℕ
alu_widths = 3 ∷ 3 ∷ 3 ∷ 3 ∷ 6 ∷ 6 ∷ 5 ∷ 3 ∷ 6 ∷ 6 ∷ 1 ∷ 1 ∷ 3 ∷ 3 ∷ 4 ∷ 1 ∷ 3 ∷ 4 ∷ []

-- the widths of a load immediate's fields from the low end on:
-- value waddr_mul waddr_add ws sf cond_mul cond_add zero sig
abbrev pub ldi_widths : List ℕ
ldi_widths = 32 ∷ 6 ∷ 6 ∷ 1 ∷ 1 ∷ 3 ∷ 3 ∷ 8 ∷ 4 ∷ []

-- what a form has in these fields; pack and pm are 0
abbrev pub alu_values : Head → ℕ → AddPart → MulPart → Bool → Bool → ℕ → ℕ → List ℕ
alu_values head unpack add mul flags swap ra rb =
    mul.b ∷ mul.a ∷ add.b ∷ add.a ∷ rb ∷ ra ∷ add_code add.op ∷ mul_code mul.op ∷ mul.dst ∷ add.dst ∷ bit swap ∷ bit flags
    ∷ cond_code mul.cond ∷ cond_code add.cond ∷ 0 ∷ 0 ∷ unpack ∷ head_code head ∷ []

-- what a load immediate has in its fields; sf is 0
abbrev pub ldi_values : Cond → Cond → Bool → ℕ → ℕ → ℕ → List ℕ
ldi_values add_cond mul_cond swap add_dst mul_dst value =
    value ∷ mul_dst ∷ add_dst ∷ bit swap ∷ 0 ∷ cond_code mul_cond ∷ cond_code add_cond ∷ 0 ∷ 14 ∷ []

-- the widths of a branch's fields from the low end on; its immediate is 8 times a number of words:
-- zero words waddr_mul waddr_add ws raddr_a reg rel cond_br zero sig
abbrev pub bra_widths : List ℕ
bra_widths = 3 ∷ 29 ∷ 6 ∷ 6 ∷ 1 ∷ 5 ∷ 1 ∷ 1 ∷ 4 ∷ 4 ∷ 4 ∷ []

-- a distance in words as 29 bits of two's complement
unfoldable pub distance_bits : ℤ → ℕ
distance_bits (pos n) = n
distance_bits (negsuc n) = 2 ^ 29 - 1 - n

-- and back
unfoldable pub distance_of : ℕ → ℤ
distance_of n = if nat_lt n (2 ^ 28) then pos n else negsuc (2 ^ 29 - 1 - n)

-- the distance fits 29 bits: it is from -2^28 to 2^28 - 1 (negsuc n is -1 - n)
unfoldable pub is_distance : ℤ → Bool
is_distance (pos n) = nat_lt n (2 ^ 28)
is_distance (negsuc n) = nat_lt n (2 ^ 28)

-- what a branch has in its fields
abbrev pub bra_values : BraCond → ℤ → List ℕ
bra_values c words = 0 ∷ distance_bits words ∷ 39 ∷ 39 ∷ 0 ∷ 0 ∷ 0 ∷ 1 ∷ bra_code c ∷ 0 ∷ 15 ∷ []

-- the word of a form
unfoldable pub word_of : Form → ℕ
word_of (Alu head unpack add mul flags swap ra rb) = join alu_widths (alu_values head unpack add mul flags swap ra rb)
word_of (Ldi add_cond mul_cond swap add_dst mul_dst value) = join ldi_widths (ldi_values add_cond mul_cond swap add_dst mul_dst value)
word_of (Bra c words) = join bra_widths (bra_values c words)

-- 0 to 3 and 5 are r0 to r3 and r5, 6 is what is read as A and 7 what is read as B, or the small immediate
abbrev pub is_selector : ℕ → Bool
is_selector x = nat_le x 3 || (nat_le 5 x && nat_le x 7)

-- a write address of the VPM, of a setup, of a DMA address or of the mutex
abbrev pub is_port : ℕ → Bool
is_port dst = nat_le 48 dst && nat_le dst 51

-- a write address of r0 to r3
abbrev pub is_acc : ℕ → Bool
is_acc dst = nat_le 32 dst && nat_le dst 35

-- an address that a unit may write with this condition: both files, r0 to r3 and nowhere with each condition, peripherals and r5
-- only always, and r5 only through file B
unfoldable pub is_target : Bool → ℕ → ℕ → Bool
is_target through_b dst cond =
    (nat_le dst 35 || (dst == 39)) || ((is_port dst || ((dst == 37) && through_b)) && (cond == 1))

-- an address that may be read: a file, uniforms, an element's or the QPU's number, nothing, VPM data, waits and the mutex
unfoldable pub is_source : ℕ → Bool
is_source x = nat_le x 32 || ((x == 38) || ((x == 39) || ((x == 48) || ((x == 50) || (x == 51)))))

-- what stands in the fields of a unit: without an operation it writes nowhere, never, and has both selectors 0
unfoldable pub is_part : ℕ → ℕ → ℕ → ℕ → ℕ → Bool
is_part op cond dst a b =
    if op == 0 then ((cond == 0) && (dst == 39)) && ((a == 0) && (b == 0)) else is_selector a && is_selector b

-- what stands in raddr_b: under a small immediate a value, or the code of a rotation, which goes with a mul operation, no flags and
-- no selector 7; otherwise a read address
unfoldable pub is_small : Bool → ℕ → ℕ → Bool → ℕ → ℕ → ℕ → ℕ → Bool
is_small small rb op_mul flags add_a add_b mul_a mul_b =
    if small
    then nat_le rb 31 || ((nat_le 48 rb && nat_le rb 63)
    && ((not (op_mul == 0) && not flags) && ((not (add_a == 7) && not (add_b == 7)) && (not (mul_a == 7) && not (mul_b == 7)))))
    else is_source rb

-- what stands in unpack: nothing, or one that `or` takes to a value of file A, the only read of A
unfoldable pub is_unpack : ℕ → ℕ → ℕ → ℕ → ℕ → ℕ → ℕ → Bool
is_unpack unpack op_add add_a add_b ra mul_a mul_b =
    (unpack == 0)
    || (((nat_le unpack 7 && not (unpack == 3)) && (op_add == 21))
    && (((add_a == 6) && (add_b == 6)) && (nat_le ra 31 && (not (mul_a == 6) && not (mul_b == 6)))))

-- flags are set by the unit that has an operation, the add unit first, and in all elements
unfoldable pub is_flagged : Bool → ℕ → ℕ → ℕ → ℕ → Bool
is_flagged flags op_add cond_add op_mul cond_mul =
    not flags || (if op_add == 0 then not (op_mul == 0) && (cond_mul == 1) else cond_add == 1)

-- the form is in the profile
unfoldable pub is_in_profile : Form → Bool
is_in_profile (Alu head unpack add mul flags swap ra rb) =
    ((is_part (add_code add.op) (cond_code add.cond) add.dst add.a add.b && is_part (mul_code mul.op) (cond_code mul.cond) mul.dst mul.a mul.b)
    && (is_target swap add.dst (cond_code add.cond) && is_target (not swap) mul.dst (cond_code mul.cond)))
    && ((not ((add.dst == mul.dst) && is_acc add.dst) && is_source ra)
    && (is_small (head_code head == 13) rb (mul_code mul.op) flags add.a add.b mul.a mul.b
    && (is_unpack unpack (add_code add.op) add.a add.b ra mul.a mul.b
    && is_flagged flags (add_code add.op) (cond_code add.cond) (mul_code mul.op) (cond_code mul.cond))))
is_in_profile (Ldi add_cond mul_cond swap add_dst mul_dst value) =
    (is_target swap add_dst (cond_code add_cond) && is_target (not swap) mul_dst (cond_code mul_cond))
    && (not ((add_dst == mul_dst) && is_acc add_dst) && nat_lt value (2 ^ 32))
is_in_profile (Bra c words) = is_distance words

-- a step that needs the value before it
infixl 10 ◌>>=◌
abbrev pub ◌>>=◌ : {A B : Type 0} → Option A → (A → Option B) → Option B
(Some x) >>= f = f x
None >>= f = None

-- the form, if the test holds and the form is in the profile
abbrev pub kept : Bool → Form → Option Form
kept test form = if test && is_in_profile form then Some form else None

-- the form of an ALU word, of its fields from the low end on
unfoldable pub alu_from : List ℕ → Option Form
alu_from
    (mul_b ∷ mul_a ∷ add_b ∷ add_a ∷ rb ∷ ra ∷ op_add ∷ op_mul ∷ waddr_mul ∷ waddr_add ∷ ws ∷ sf ∷ cond_mul ∷ cond_add ∷ pack ∷ pm ∷ unpack ∷ sig ∷ []) =
    head_at sig >>= λ head.
    add_op_at op_add >>= λ aop.
    mul_op_at op_mul >>= λ mop.
    cond_at cond_add >>= λ acond.
    cond_at cond_mul >>= λ mcond.
    kept ((pm == 0) && (pack == 0))
    (Alu head unpack
    (record { op = aop; cond = acond; dst = waddr_add; a = add_a; b = add_b })
    (record { op = mop; cond = mcond; dst = waddr_mul; a = mul_a; b = mul_b })
    (sf == 1) (ws == 1) ra rb)
alu_from _ = None

-- the form of a load immediate, of its fields from the low end on
unfoldable pub ldi_from : List ℕ → Option Form
ldi_from (value ∷ waddr_mul ∷ waddr_add ∷ ws ∷ sf ∷ cond_mul ∷ cond_add ∷ zeros ∷ sig ∷ []) =
    cond_at cond_add >>= λ acond.
    cond_at cond_mul >>= λ mcond.
    kept (((sig == 14) && (zeros == 0)) && (sf == 0)) (Ldi acond mcond (ws == 1) waddr_add waddr_mul value)
ldi_from _ = None

-- the form of a branch, of its fields from the low end on
unfoldable pub bra_from : List ℕ → Option Form
bra_from (low ∷ words ∷ waddr_mul ∷ waddr_add ∷ ws ∷ raddr_a ∷ reg ∷ rel ∷ cond_br ∷ zeros ∷ sig ∷ []) =
    bra_at cond_br >>= λ c.
    kept ((((low == 0) && (waddr_mul == 39)) && ((waddr_add == 39) && (ws == 0))) && (((raddr_a == 0) && (reg == 0)) && ((rel == 1) && ((zeros == 0) && (sig == 15)))))
    (Bra c (distance_of words))
bra_from _ = None

-- sig 14 is a load immediate and 15 a branch
abbrev pub by_signal : ℕ → Option Form → Option Form → Option Form → Option Form
by_signal sig ldi bra alu = if sig == 14 then ldi else (if sig == 15 then bra else alu)

-- the form of a word, None outside the profile
unfoldable pub form_of : ℕ → Option Form
form_of word =
    by_signal (field 60 4 word) (ldi_from (fields_from 0 ldi_widths word)) (bra_from (fields_from 0 bra_widths word)) (alu_from (fields_from 0 alu_widths word))
