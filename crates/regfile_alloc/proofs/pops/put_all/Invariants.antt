-- The operations so far, and those that are left.
use Rattle.std.proofs.Common.{◌≡◌, ◌++◌, drop, map}
use Rattle.phys_ir.specs.Places.{vop_of}
use Rattle.regfile_alloc.proofs.pops.put_all.Given as goal

abbrev pub invariant-loop-op : goal.invariant-loop-op
invariant-loop-op l = map vop_of l.out.items ++ drop l.op-index l.ops ≡ map vop_of l.initial.out.items ++ l.ops
