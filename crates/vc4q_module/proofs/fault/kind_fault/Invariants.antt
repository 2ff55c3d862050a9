use Rattle.std.proofs.Common.{◌≡◌, ◌+◌, drop}
use Rattle.vc4q_module.specs.ModuleBytes.{kind_fault}
use Rattle.vc4q_module.proofs.fault.kind_fault.Given as goal

abbrev pub invariant-loop-byte : goal.invariant-loop-byte
invariant-loop-byte l = record {
  rest : kind_fault l.left l.place (drop l.byte-index l.kinds) ≡ kind_fault l.fn.count 20 l.kinds;
  place : l.place ≡ 20 + l.byte-index;
}
