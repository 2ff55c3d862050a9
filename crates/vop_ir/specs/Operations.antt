-- Operations as code is made of them.
use Rattle.std.specs.Prelude.{ℕ, true, false, pos}
use Rattle.qpu_encode.specs.declared.form.AddOp.TheVariants as add_op
use Rattle.qpu_encode.specs.declared.form.Cond.TheVariants.{Always, Zs, Zc}
use Rattle.vop_ir.specs.declared.form.Op.{Op}
use Rattle.vop_ir.specs.declared.form.Op.TheVariants as op
use Rattle.vop_ir.specs.declared.form.Src.{Src}
use Rattle.vop_ir.specs.declared.form.Src.TheVariants as src
use Rattle.vop_ir.specs.declared.form.Dst.{Dst}
use Rattle.vop_ir.specs.declared.form.Turn.TheVariants as turn
use Rattle.vop_ir.specs.declared.form.Vop.{Vop}

abbrev pub plain : Op → Dst → Src → Src → Vop
plain x d a b = record { op = x; cond = Always; flags = false; dst = d; a = a; b = b; turn = turn.Not; unpack = 0 }

abbrev pub flagged : Op → Dst → Src → Src → Vop
flagged x d a b = record { op = x; cond = Always; flags = true; dst = d; a = a; b = b; turn = turn.Not; unpack = 0 }

-- in the elements where Z stands
abbrev pub where_zero : Op → Dst → Src → Src → Vop
where_zero x d a b = record { op = x; cond = Zs; flags = false; dst = d; a = a; b = b; turn = turn.Not; unpack = 0 }

-- in the others
abbrev pub where_set : Op → Dst → Src → Src → Vop
where_set x d a b = record { op = x; cond = Zc; flags = false; dst = d; a = a; b = b; turn = turn.Not; unpack = 0 }

abbrev pub copy : Dst → Src → Vop
copy d a = plain (op.Add add_op.Or) d a a

abbrev pub small : ℕ → Src
small n = src.Small (pos n)
