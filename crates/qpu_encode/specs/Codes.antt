-- The numbers of operations, conditions and signals (Broadcom, VideoCore IV 3D Architecture Reference Guide, QPU chapter: instruction encoding).
-- The operations 25 to 27 of the add unit are this project's own.
use Rattle.std.specs.Prelude.{ℕ, List, [], ◌∷◌, ◌==◌, if◌then◌else◌}
use Rattle.std.specs.declared.option.Option.{Option}
use Rattle.std.specs.declared.option.Option.TheVariants.{Some, None}
use Rattle.qpu_encode.specs.declared.form.AddOp.{AddOp}
use Rattle.qpu_encode.specs.declared.form.AddOp.TheVariants as add_op
use Rattle.qpu_encode.specs.declared.form.MulOp.{MulOp}
use Rattle.qpu_encode.specs.declared.form.MulOp.TheVariants as mul_op
use Rattle.qpu_encode.specs.declared.form.Cond.{Cond}
use Rattle.qpu_encode.specs.declared.form.Cond.TheVariants.{Never, Always, Zs, Zc, Ns, Nc}
use Rattle.qpu_encode.specs.declared.form.BraCond.{BraCond}
use Rattle.qpu_encode.specs.declared.form.BraCond.TheVariants as bra
use Rattle.qpu_encode.specs.declared.form.Head.{Head}
use Rattle.qpu_encode.specs.declared.form.Head.TheVariants.{Plain, End, Small}

-- the first of these that has this number
abbrev pub with_code : {A : Type 0} → (A → ℕ) → List A → ℕ → Option A
with_code code [] n = None
with_code code (x ∷ xs) n = if n == code x then Some x else with_code code xs n

-- op_add of an operation of the add unit
abbrev pub add_code : AddOp → ℕ
add_code add_op.Nop = 0
add_code add_op.Add = 12
add_code add_op.Sub = 13
add_code add_op.Shr = 14
add_code add_op.Asr = 15
add_code add_op.Ror = 16
add_code add_op.Shl = 17
add_code add_op.Min = 18
add_code add_op.Max = 19
add_code add_op.And = 20
add_code add_op.Or = 21
add_code add_op.Xor = 22
add_code add_op.Not = 23
add_code add_op.Clz = 24
add_code add_op.Mul32 = 25
add_code add_op.MulHs = 26
add_code add_op.MulHu = 27

-- the operations of the add unit
abbrev pub add_ops : List AddOp
add_ops =
    add_op.Nop ∷ add_op.Add ∷ add_op.Sub ∷ add_op.Shr ∷ add_op.Asr ∷ add_op.Ror ∷ add_op.Shl ∷ add_op.Min ∷ add_op.Max ∷ add_op.And
    ∷ add_op.Or ∷ add_op.Xor ∷ add_op.Not ∷ add_op.Clz ∷ add_op.Mul32 ∷ add_op.MulHs ∷ add_op.MulHu ∷ []

-- op_mul of an operation of the mul unit
abbrev pub mul_code : MulOp → ℕ
mul_code mul_op.Nop = 0
mul_code mul_op.Mul24 = 2
mul_code mul_op.V8Min = 4

-- the operations of the mul unit
abbrev pub mul_ops : List MulOp
mul_ops = mul_op.Nop ∷ mul_op.Mul24 ∷ mul_op.V8Min ∷ []

-- cond_add or cond_mul of a condition
abbrev pub cond_code : Cond → ℕ
cond_code Never = 0
cond_code Always = 1
cond_code Zs = 2
cond_code Zc = 3
cond_code Ns = 4
cond_code Nc = 5

-- the conditions on an element
abbrev pub conds : List Cond
conds = Never ∷ Always ∷ Zs ∷ Zc ∷ Ns ∷ Nc ∷ []

-- sig of a signal: 1 is no signal, 3 is program end, 13 is a small immediate
abbrev pub head_code : Head → ℕ
head_code Plain = 1
head_code End = 3
head_code Small = 13

-- the signals of an ALU word
abbrev pub heads : List Head
heads = Plain ∷ End ∷ Small ∷ []

-- the operation of the add unit that has this number
unfoldable pub add_op_at : ℕ → Option AddOp
add_op_at n = with_code add_code add_ops n

-- the operation of the mul unit that has this number
unfoldable pub mul_op_at : ℕ → Option MulOp
mul_op_at n = with_code mul_code mul_ops n

-- the condition that has this number
unfoldable pub cond_at : ℕ → Option Cond
cond_at n = with_code cond_code conds n

-- the signal that has this number
unfoldable pub head_at : ℕ → Option Head
head_at n = with_code head_code heads n

-- cond_br of a condition of a branch
abbrev pub bra_code : BraCond → ℕ
bra_code bra.AllZ = 0
bra_code bra.AllNz = 1
bra_code bra.AnyZ = 2
bra_code bra.AnyNz = 3
bra_code bra.AllN = 4
bra_code bra.AllNn = 5
bra_code bra.AnyN = 6
bra_code bra.AnyNn = 7
bra_code bra.Always = 15

-- the conditions of a branch
abbrev pub bra_conds : List BraCond
bra_conds = bra.AllZ ∷ bra.AllNz ∷ bra.AnyZ ∷ bra.AnyNz ∷ bra.AllN ∷ bra.AllNn ∷ bra.AnyN ∷ bra.AnyNn ∷ bra.Always ∷ []

-- the condition of a branch that has this number
unfoldable pub bra_at : ℕ → Option BraCond
bra_at n = with_code bra_code bra_conds n
