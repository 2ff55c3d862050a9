use Rattle.std.proofs.Common.{◌≡◌, ◌++◌, map, take}
use Rattle.vc4q_module.specs.ModuleBytes.{kind_byte}
use Rattle.vc4q_module.proofs.writing.put_kinds.Given as goal

abbrev pub invariant-loop-kind : goal.invariant-loop-kind
invariant-loop-kind l = l.out.items ≡ l.fn.out.items ++ map kind_byte (take l.kind-index l.kinds)
