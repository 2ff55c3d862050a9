use Rattle.std.proofs.Common.{◌≡◌, map, take}
use Rattle.vc4q_module.specs.ModuleBytes.{kind_of}
use Rattle.vc4q_module.proofs.reading.read_kinds.Given as goal

abbrev pub invariant-loop-byte : goal.invariant-loop-byte
invariant-loop-byte l = l.kinds.items ≡ map kind_of (take l.byte-index l.bytes)
