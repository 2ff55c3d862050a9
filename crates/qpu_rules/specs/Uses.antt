-- What a word does to registers and peripherals (Broadcom, VideoCore IV 3D Architecture Reference Guide, QPU chapter: register address map).
use Rattle.std.specs.Prelude.{ℕ, ◌+◌, ◌*◌, Bool, true, false, not, if◌then◌else◌, nat_le, nat_lt, ◌==◌, ◌||◌, ◌&&◌, List, [], ◌∷◌, is_some, Option, Some, None}
use Rattle.qpu_encode.specs.declared.form.Cond.{Cond}
use Rattle.qpu_encode.specs.declared.form.Cond.TheVariants.{Never, Always, Zs, Zc, Ns, Nc}
use Rattle.qpu_encode.specs.declared.form.Head.{Head}
use Rattle.qpu_encode.specs.declared.form.Head.TheVariants.{Plain, End, Small}
use Rattle.qpu_encode.specs.declared.form.Form.{Form}
use Rattle.qpu_encode.specs.declared.form.Form.TheVariants.{Alu, Ldi, Bra}
use Rattle.vpm_words.specs.declared.state.Access.{Access}
use Rattle.vpm_words.specs.declared.state.Access.TheVariants.{Uniform, ReadVpm, WaitLoad, WaitStore, Lock, WriteVpm, ReadSet, WriteSet, LoadAddr, StoreAddr, Unlock}
use Rattle.qpu_rules.specs.declared.access.Accesses.{Accesses}
use Rattle.qpu_rules.specs.declared.access.Accesses.TheVariants as accessing
use Rattle.qpu_rules.specs.declared.recent.Written.{Written}
use Rattle.qpu_rules.specs.declared.registers.Target.{Target}

abbrev pub is_small : Head → Bool
is_small Plain = false
is_small End = false
is_small Small = true

abbrev pub is_end : Form → Bool
is_end (Alu End unpack add mul flags swap ra rb) = true
is_end (Alu Plain unpack add mul flags swap ra rb) = false
is_end (Alu Small unpack add mul flags swap ra rb) = false
is_end (Ldi add_cond mul_cond swap add_dst mul_dst value) = false
is_end (Bra c words) = false

abbrev pub is_branch : Form → Bool
is_branch (Alu head unpack add mul flags swap ra rb) = false
is_branch (Ldi add_cond mul_cond swap add_dst mul_dst value) = false
is_branch (Bra c words) = true

abbrev pub is_never : Cond → Bool
is_never Never = true
is_never Always = false
is_never Zs = false
is_never Zc = false
is_never Ns = false
is_never Nc = false

-- ---- where the two units write

-- the address of a write that goes nowhere
abbrev pub nowhere : ℕ
nowhere = 39

-- the add unit writes through file A, and with ws through B
abbrev pub add_target : Form → Target
add_target (Alu head unpack add mul flags swap ra rb) = record { cond = add.cond; through_b = swap; dst = add.dst }
add_target (Ldi add_cond mul_cond swap add_dst mul_dst value) = record { cond = add_cond; through_b = swap; dst = add_dst }
add_target (Bra c words) = record { cond = Never; through_b = false; dst = nowhere }

-- the mul unit writes through file B, and with ws through A
abbrev pub mul_target : Form → Target
mul_target (Alu head unpack add mul flags swap ra rb) = record { cond = mul.cond; through_b = not swap; dst = mul.dst }
mul_target (Ldi add_cond mul_cond swap add_dst mul_dst value) = record { cond = mul_cond; through_b = not swap; dst = mul_dst }
mul_target (Bra c words) = record { cond = Never; through_b = true; dst = nowhere }

-- the unit writes, whatever the flags of the elements are
abbrev pub is_written : Target → Bool
is_written t = not (is_never t.cond)

-- the unit writes this address
abbrev pub is_written_at : ℕ → Target → Bool
is_written_at x t = is_written t && (t.dst == x)

-- ---- registers

-- the address that is read as A, or as B, whether it is selected or not; under a small immediate, B is not read
abbrev pub read_as : Bool → Form → Option ℕ
read_as false (Alu head unpack add mul flags swap ra rb) = Some ra
read_as true (Alu head unpack add mul flags swap ra rb) = if is_small head then None else Some rb
read_as through_b (Ldi add_cond mul_cond swap add_dst mul_dst value) = None
read_as through_b (Bra c words) = None

-- addresses below 32 are the registers of a file
abbrev pub register : ℕ → Option ℕ
register x = if nat_lt x 32 then Some x else None

abbrev pub register_of : Option ℕ → Option ℕ
register_of None = None
register_of (Some x) = register x

-- the register of file A, or of B, that a word reads
abbrev pub file_read : Bool → Form → Option ℕ
file_read through_b f = register_of (read_as through_b f)

-- a unit goes through file A, or B
abbrev pub goes_through : Bool → Target → Bool
goes_through false t = not t.through_b
goes_through true t = t.through_b

-- the register of file A, or of B, that a unit writes
abbrev pub written_in : Bool → Target → Option ℕ
written_in through_b t = if goes_through through_b t && is_written t then register t.dst else None

abbrev pub or_else : Option ℕ → Option ℕ → Option ℕ
or_else None other = other
or_else (Some x) other = Some x

-- the register of file A, or of B, that a word writes: one of the units goes through it
unfoldable pub file_written : Bool → Form → Option ℕ
file_written through_b f = or_else (written_in through_b (add_target f)) (written_in through_b (mul_target f))

-- a register of one of the files is written
abbrev pub writes_file : Form → Bool
writes_file f = is_some (file_written false f) || is_some (file_written true f)

-- accumulator i, of r0 to r3, stands at address 32 + i
unfoldable pub writes_acc : ℕ → Form → Bool
writes_acc i f = is_written_at (32 + i) (add_target f) || is_written_at (32 + i) (mul_target f)

abbrev pub bit : Bool → ℕ
bit false = 0
bit true = 1

-- the accumulators that a word writes, bit i for accumulator i
unfoldable pub accs_written : Form → ℕ
accs_written f = bit (writes_acc 0 f) + 2 * bit (writes_acc 1 f) + 4 * bit (writes_acc 2 f) + 8 * bit (writes_acc 3 f)

-- r5 stands at address 37
unfoldable pub five_written : Form → Bool
five_written f = is_written_at 37 (add_target f) || is_written_at 37 (mul_target f)

-- what a word writes, as far as the next one must watch for it
unfoldable pub written_by : Form → Written
written_by f = record { file_a = file_written false f; file_b = file_written true f; accs = accs_written f; five = five_written f }

-- ---- rotation

-- the codes of a rotation are 48 to 63 in a small immediate
abbrev pub is_rotation : ℕ → Bool
is_rotation code = nat_le 48 code && nat_le code 63

-- the mul result is rotated
abbrev pub rotates : Form → Bool
rotates (Alu head unpack add mul flags swap ra rb) = is_small head && is_rotation rb
rotates (Ldi add_cond mul_cond swap add_dst mul_dst value) = false
rotates (Bra c words) = false

-- by element 0 of r5, which is code 48
abbrev pub rotates_by_five : Form → Bool
rotates_by_five (Alu head unpack add mul flags swap ra rb) = is_small head && (rb == 48)
rotates_by_five (Ldi add_cond mul_cond swap add_dst mul_dst value) = false
rotates_by_five (Bra c words) = false

-- the selectors of the mul unit's operands
abbrev pub mul_selectors : Form → List ℕ
mul_selectors (Alu head unpack add mul flags swap ra rb) = mul.a ∷ mul.b ∷ []
mul_selectors (Ldi add_cond mul_cond swap add_dst mul_dst value) = []
mul_selectors (Bra c words) = []

-- ---- peripheral accesses

-- an address that is read as A, or as B: 32 is a uniform, 48 the VPM, 50 a wait and 51 the mutex
unfoldable pub access_of_read : Bool → ℕ → Option Access
access_of_read through_b x =
    if x == 32 then Some Uniform
    else (if x == 48 then Some ReadVpm
    else (if x == 50 then Some (if through_b then WaitStore else WaitLoad)
    else (if x == 51 then Some Lock else None)))

abbrev pub read_access : Bool → Option ℕ → Option Access
read_access through_b None = None
read_access through_b (Some x) = access_of_read through_b x

-- an address that is written through A, or B: 48 is the VPM, 49 a setup, 50 the address of a transfer, which starts, and 51 the mutex
unfoldable pub access_of_write : Bool → ℕ → Option Access
access_of_write through_b x =
    if x == 48 then Some WriteVpm
    else (if x == 49 then Some (if through_b then WriteSet else ReadSet)
    else (if x == 50 then Some (if through_b then StoreAddr else LoadAddr)
    else (if x == 51 then Some Unlock else None)))

abbrev pub write_access : Target → Option Access
write_access t = if is_written t then access_of_write t.through_b t.dst else None

abbrev pub listed : Option Access → List Access → List Access
listed None others = others
listed (Some a) others = a ∷ others

-- the accesses of a word, one for each read and each unit that has one
unfoldable pub accesses : Form → List Access
accesses f =
    listed (read_access false (read_as false f)) (listed (read_access true (read_as true f))
    (listed (write_access (add_target f)) (listed (write_access (mul_target f)) [])))

-- the one element of a list: None where it has none or several
abbrev pub only : List Access → Option Access
only [] = None
only (a ∷ []) = Some a
only (a ∷ (b ∷ others)) = None

-- the one access of a word
unfoldable pub access_of : Form → Option Access
access_of f = only (accesses f)

-- none, one, or more
abbrev pub count_of : List Access → Accesses
count_of [] = accessing.Nothing
count_of (a ∷ []) = accessing.One a
count_of (a ∷ (b ∷ others)) = accessing.Several

-- the one that is counted
abbrev pub sole : Accesses → Option Access
sole accessing.Nothing = None
sole (accessing.One a) = Some a
sole accessing.Several = None

-- with one access more
abbrev pub added : Option Access → Accesses → Accesses
added None n = n
added (Some a) accessing.Nothing = accessing.One a
added (Some a) (accessing.One b) = accessing.Several
added (Some a) accessing.Several = accessing.Several

-- a uniform is read, as A or B; both take the same one
abbrev pub is_at : ℕ → Option ℕ → Bool
is_at x None = false
is_at x (Some y) = y == x

abbrev pub reads_uniform : Form → Bool
reads_uniform f = is_at 32 (read_as false f) || is_at 32 (read_as true f)
