-- What a word does to the registers of its QPU, over sixteen elements (Broadcom, VideoCore IV 3D Architecture Reference Guide, QPU
-- chapter: register address map, ALU input muxes, condition codes, vector rotation). What an operation gives of one element stands in
-- qpu_encode. The 0 that is read from address 39, a wait and the mutex is this project's own.
use Rattle.std.specs.Prelude.{ℕ, ◌-◌, ◌^◌, List, [], Bool, false, if◌then◌else◌, nat_le, ◌==◌, get_or, slice_set, is_some}
use Rattle.q_lane.specs.declared.lanes.Lanes.{Lanes}
use Rattle.q_lane.specs.Vectors.{lanes, lane, rotated}
use Rattle.qpu_encode.specs.declared.form.AddPart.{AddPart}
use Rattle.qpu_encode.specs.declared.form.MulPart.{MulPart}
use Rattle.qpu_encode.specs.declared.form.Cond.{Cond}
use Rattle.qpu_encode.specs.declared.form.Form.{Form}
use Rattle.qpu_encode.specs.declared.form.Form.TheVariants.{Alu, Ldi, Bra}
use Rattle.qpu_encode.specs.Codes.{add_code}
use Rattle.qpu_encode.specs.Operations.{add_value, mul_value, passes, unpacked, small_word, rotation}
use Rattle.qpu_rules.specs.declared.registers.Target.{Target}
use Rattle.qpu_rules.specs.Uses.{is_small, rotates, add_target, mul_target, write_access}
use Rattle.qpu_machine.specs.declared.registers.Results.{Results}
use Rattle.qpu_machine.specs.declared.state.Regs.{Regs}

-- ---- operands

-- the words of register x of a file
abbrev pub register : List (Lanes 16) → ℕ → List ℕ
register file x = (get_or file x (record { words = [] })).words

-- the same word in all elements
abbrev pub splat : ℕ → List ℕ
splat word = lanes 16 (λ _. word)

-- what is read as A: a register of the file, the element's number, nothing, or what a peripheral gives
unfoldable pub read_a : Regs → List ℕ → ℕ → List ℕ
read_a regs incoming x =
    if nat_le x 31 then register regs.a x
    else (if x == 38 then lanes 16 (λ i. i)
    else (if x == 39 then splat 0 else incoming))

-- what is read as B: the small immediate where there is one, a register of the file, the QPU's number, nothing, or what a peripheral gives
unfoldable pub read_b : Regs → ℕ → List ℕ → Bool → ℕ → List ℕ
read_b regs number incoming small x =
    if small then splat (small_word x)
    else (if nat_le x 31 then register regs.b x
    else (if x == 38 then splat number
    else (if x == 39 then splat 0 else incoming)))

-- selectors 0 to 3 and 5 are r0 to r3 and r5, 6 is the read of A, 7 that of B
unfoldable pub operand : Regs → List ℕ → List ℕ → ℕ → List ℕ
operand regs read_as_a read_as_b x =
    if nat_le x 3 then register regs.acc x
    else (if x == 5 then regs.five.words
    else (if x == 6 then read_as_a else read_as_b))

-- ---- results of both units

-- what the add unit takes of A: a part of each word, or all of it
unfoldable pub unpacked_each : ℕ → List ℕ → List ℕ
unpacked_each unpack xs = if unpack == 0 then xs else lanes 16 (λ i. unpacked unpack (lane xs i))

unfoldable pub add_result : Regs → List ℕ → List ℕ → AddPart → List ℕ
add_result regs read_as_a read_as_b part =
    lanes 16 (λ i. add_value part.op (lane (operand regs read_as_a read_as_b part.a) i) (lane (operand regs read_as_a read_as_b part.b) i))

unfoldable pub mul_result : Regs → List ℕ → List ℕ → MulPart → List ℕ
mul_result regs read_as_a read_as_b part =
    lanes 16 (λ i. mul_value part.op (lane (operand regs read_as_a read_as_b part.a) i) (lane (operand regs read_as_a read_as_b part.b) i))

-- the mul unit's result after the rotation, where the word rotates: element i goes to element (i + n) mod 16
unfoldable pub turned : Bool → ℕ → Regs → List ℕ → List ℕ
turned is_turned code regs xs = if is_turned then rotated 16 xs (rotation code (lane regs.five.words 0)) else xs

-- both units compute from the old registers; a load immediate gives its value in both, and a branch gives nothing
unfoldable pub results : Form → Regs → ℕ → List ℕ → Results
results (Alu head unpack add mul flags swap ra rb) regs number incoming =
    record {
      add = add_result regs (unpacked_each unpack (read_a regs incoming ra)) (read_b regs number incoming (is_small head) rb) add;
      mul = turned (rotates (Alu head unpack add mul flags swap ra rb)) rb regs (mul_result regs (read_a regs incoming ra) (read_b regs number incoming (is_small head) rb) mul);
    }
results (Ldi add_cond mul_cond swap add_dst mul_dst value) regs number incoming = record { add = splat value; mul = splat value }
results (Bra c words) regs number incoming = record { add = splat 0; mul = splat 0 }

-- what goes to a peripheral address: the result of the unit that writes one
unfoldable pub outgoing : Form → Results → List ℕ
outgoing f r =
    if is_some (write_access (add_target f)) then r.add
    else (if is_some (write_access (mul_target f)) then r.mul else splat 0)

-- ---- writes

-- the new word in the elements whose flags meet the condition, and the old one in the others
unfoldable pub written : Cond → List Bool → List Bool → List ℕ → List ℕ → List ℕ
written cond zero neg old new = lanes 16 (λ i. if passes cond (get_or zero i false) (get_or neg i false) then lane new i else lane old i)

-- register x of a file, or of the accumulators, written
unfoldable pub write_register : Cond → Regs → List (Lanes 16) → ℕ → List ℕ → List (Lanes 16)
write_register cond regs file x new = slice_set file x (record { words = written cond regs.zero regs.neg (register file x) new })

-- the registers after one unit's write: a register of its file, an accumulator at 32 to 35, and at 37 element 0 to all of r5. Other
-- addresses are peripherals, or nothing
unfoldable pub after_write : Target → List ℕ → Regs → Regs
after_write t new regs =
    if nat_le t.dst 31
    then (if t.through_b then record regs { b = write_register t.cond regs regs.b t.dst new } else record regs { a = write_register t.cond regs regs.a t.dst new })
    else (if nat_le t.dst 35 then record regs { acc = write_register t.cond regs regs.acc (t.dst - 32) new }
    else (if t.dst == 37 then record regs { five = record { words = splat (lane new 0) } } else regs))

-- the flags of a result: Z where the word is 0, and N where its bit 31 is set
unfoldable pub after_flags : Bool → List ℕ → Regs → Regs
after_flags flags result regs =
    if flags then record regs { zero = lanes 16 (λ i. lane result i == 0); neg = lanes 16 (λ i. nat_le (2 ^ 31) (lane result i)) } else regs

abbrev pub sets_flags : Form → Bool
sets_flags (Alu head unpack add mul flags swap ra rb) = flags
sets_flags (Ldi add_cond mul_cond swap add_dst mul_dst value) = false
sets_flags (Bra c words) = false

-- the flags are those of the add unit's result, or of the mul unit's where the add unit has no operation
abbrev pub flagged : Form → Results → List ℕ
flagged (Alu head unpack add mul flags swap ra rb) r = if add_code add.op == 0 then r.mul else r.add
flagged (Ldi add_cond mul_cond swap add_dst mul_dst value) r = r.add
flagged (Bra c words) r = r.add

-- the registers after a word: both units write, on the old flags, and then the flags are set
unfoldable pub regs_after : Form → Results → Regs → Regs
regs_after f r regs = after_flags (sets_flags f) (flagged f r) (after_write (mul_target f) r.mul (after_write (add_target f) r.add regs))
