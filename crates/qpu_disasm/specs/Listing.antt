-- The text of an instruction word, this project's own. The fields that it tells are those of Broadcom, VideoCore IV 3D Architecture Reference
-- Guide, QPU chapter (instruction encoding, signaling bits, condition codes, ALU input muxes, register address map).
use Rattle.std.specs.Prelude.{ℕ, ◌-◌, Bool, true, false, not, List, [], ◌∷◌, ◌++◌, codes, decimal, ◌==◌, nat_lt, if◌then◌else◌}
use Rattle.std.specs.declared.option.Option.{Option}
use Rattle.std.specs.declared.option.Option.TheVariants.{Some, None}
use Rattle.std.specs.Fmt.{signed_decimal}
use Rattle.std.specs.Int.{to_be_bytes, w32, w64}
use Rattle.hex.specs.Hex.{encode_lower}
use Rattle.qpu_encode.specs.declared.form.AddOp.{AddOp}
use Rattle.qpu_encode.specs.declared.form.AddOp.TheVariants as add_op
use Rattle.qpu_encode.specs.declared.form.MulOp.{MulOp}
use Rattle.qpu_encode.specs.declared.form.MulOp.TheVariants as mul_op
use Rattle.qpu_encode.specs.declared.form.AddPart.{AddPart}
use Rattle.qpu_encode.specs.declared.form.MulPart.{MulPart}
use Rattle.qpu_encode.specs.declared.form.Cond.{Cond}
use Rattle.qpu_encode.specs.declared.form.Cond.TheVariants.{Never, Always, Zs, Zc, Ns, Nc}
use Rattle.qpu_encode.specs.declared.form.BraCond.{BraCond}
use Rattle.qpu_encode.specs.declared.form.BraCond.TheVariants as bra
use Rattle.qpu_encode.specs.declared.form.Head.{Head}
use Rattle.qpu_encode.specs.declared.form.Head.TheVariants.{Plain, End, Small}
use Rattle.qpu_encode.specs.declared.form.Form.{Form}
use Rattle.qpu_encode.specs.declared.form.Form.TheVariants.{Alu, Ldi, Bra}
use Rattle.qpu_encode.specs.Codes.{add_code, mul_code, head_code}
use Rattle.qpu_encode.specs.WordFields.{form_of}

-- ---- names

-- operations of the add unit
abbrev pub add_name : AddOp → List ℕ
add_name add_op.Nop = codes "nop"
add_name add_op.Add = codes "add"
add_name add_op.Sub = codes "sub"
add_name add_op.Shr = codes "shr"
add_name add_op.Asr = codes "asr"
add_name add_op.Ror = codes "ror"
add_name add_op.Shl = codes "shl"
add_name add_op.Min = codes "min"
add_name add_op.Max = codes "max"
add_name add_op.And = codes "and"
add_name add_op.Or = codes "or"
add_name add_op.Xor = codes "xor"
add_name add_op.Not = codes "not"
add_name add_op.Clz = codes "clz"
add_name add_op.Mul32 = codes "mul32"
add_name add_op.MulHs = codes "mulhs"
add_name add_op.MulHu = codes "mulhu"

-- operations of the mul unit
abbrev pub mul_name : MulOp → List ℕ
mul_name mul_op.Nop = codes "nop"
mul_name mul_op.Mul24 = codes "mul24"
mul_name mul_op.V8Min = codes "v8min"

-- conditions on an element
abbrev pub cond_name : Cond → List ℕ
cond_name Never = codes "never"
cond_name Always = codes "always"
cond_name Zs = codes "zs"
cond_name Zc = codes "zc"
cond_name Ns = codes "ns"
cond_name Nc = codes "nc"

-- conditions of a branch
abbrev pub bra_name : BraCond → List ℕ
bra_name bra.AllZ = codes "allz"
bra_name bra.AllNz = codes "allnz"
bra_name bra.AnyZ = codes "anyz"
bra_name bra.AnyNz = codes "anynz"
bra_name bra.AllN = codes "alln"
bra_name bra.AllNn = codes "allnn"
bra_name bra.AnyN = codes "anyn"
bra_name bra.AnyNn = codes "anynn"
bra_name bra.Always = codes "always"

-- signals of an ALU word
abbrev pub head_name : Head → List ℕ
head_name Plain = codes "alu"
head_name End = codes "end"
head_name Small = codes "imm"

-- ---- operands

-- the letter of a file
abbrev pub file_letter : Bool → ℕ
file_letter through_b = if through_b then 98 else 97

-- a write address of the unit that writes through this file: 0 to 31 are the file's, 32 to 35 are r0 to r3 and 37 is r5
unfoldable pub target_text : Bool → ℕ → List ℕ
target_text through_b dst =
    if nat_lt dst 32 then file_letter through_b ∷ decimal dst
    else if nat_lt dst 38 then codes "r" ++ decimal (dst - 32)
    else if dst == 39 then codes "-"
    else if dst == 48 then codes "vpm"
    else if dst == 49 then (if through_b then codes "wrset" else codes "rdset")
    else if dst == 50 then (if through_b then codes "staddr" else codes "ldaddr")
    else codes "unlock"

-- a read address: 0 to 31 are the file's, 32 is the next uniform, 38 the element's number through A and the QPU's through B, 39 is no read,
-- 48 is the VPM, 50 the end of a transfer and 51 the mutex. No unit reads through 49
unfoldable pub source_text : Bool → ℕ → List ℕ
source_text through_b src =
    if nat_lt src 32 then file_letter through_b ∷ decimal src
    else if src == 32 then codes "uniform"
    else if src == 38 then (if through_b then codes "qpu" else codes "elem")
    else if src == 39 then codes "-"
    else if src == 48 then codes "vpm"
    else if src == 50 then codes "wait"
    else codes "lock"

-- what stands in raddr_b: under a small immediate its code, otherwise a read address
unfoldable pub b_text : Bool → ℕ → List ℕ
b_text small rb = if small then codes "#" ++ decimal rb else source_text true rb

-- a selector: 0 to 3 and 5 are r0 to r3 and r5, 6 is what is read as A and 7 what is read as B
unfoldable pub selector_text : ℕ → List ℕ
selector_text x = if nat_lt x 6 then codes "r" ++ decimal x else if x == 6 then codes "A" else codes "B"

-- ---- units and words

-- the condition of a unit and where it writes
unfoldable pub write_text : Cond → Bool → ℕ → List ℕ
write_text cond through_b dst = cond_name cond ++ (codes " " ++ target_text through_b dst)

-- what follows the name of an operation
unfoldable pub operands_text : Cond → Bool → ℕ → ℕ → ℕ → List ℕ
operands_text cond through_b dst a b = codes "." ++ (write_text cond through_b dst ++ (codes ", " ++ (selector_text a ++ (codes ", " ++ selector_text b))))

-- what the add unit does, and whether it writes through file B; without an operation only its name
unfoldable pub add_text : Bool → AddPart → List ℕ
add_text through_b add =
    add_name add.op ++ (if add_code add.op == 0 then [] else operands_text add.cond through_b add.dst add.a add.b)

-- what the mul unit does
unfoldable pub mul_text : Bool → MulPart → List ℕ
mul_text through_b mul =
    mul_name mul.op ++ (if mul_code mul.op == 0 then [] else operands_text mul.cond through_b mul.dst mul.a mul.b)

-- what stands at the end where it holds: an unpack, sf and ws
unfoldable pub tail_text : ℕ → Bool → Bool → List ℕ
tail_text unpack flags swap =
    (if unpack == 0 then [] else codes " un=" ++ decimal unpack) ++ ((if flags then codes " sf" else []) ++ (if swap then codes " ws" else []))

-- the add unit writes through file A and the mul unit through file B, and with ws the other way round
unfoldable pub form_text : Form → List ℕ
form_text (Alu head unpack add mul flags swap ra rb) =
    head_name head ++ (codes ": " ++ (add_text swap add ++ (codes " | " ++ (mul_text (not swap) mul
    ++ (codes " | A=" ++ (source_text false ra ++ (codes " B=" ++ (b_text (head_code head == 13) rb ++ tail_text unpack flags swap))))))))
form_text (Ldi add_cond mul_cond swap add_dst mul_dst value) =
    codes "ldi: " ++ (write_text add_cond swap add_dst ++ (codes " | " ++ (write_text mul_cond (not swap) mul_dst
    ++ (codes " | " ++ (encode_lower (to_be_bytes w32 value) ++ tail_text 0 false swap)))))
form_text (Bra cond words) = codes "bra: " ++ (bra_name cond ++ (codes " " ++ signed_decimal words))

-- the text of a word with this form; a word outside the profile is its sixteen digits
unfoldable pub text_by : Option Form → ℕ → List ℕ
text_by (Some form) word = form_text form
text_by None word = codes ".word " ++ encode_lower (to_be_bytes w64 word)

-- the text of a word
unfoldable pub text : ℕ → List ℕ
text word = text_by (form_of word) word
