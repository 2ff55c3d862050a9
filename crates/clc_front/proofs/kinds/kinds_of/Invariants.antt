use Rattle.std.proofs.Common.{◌≡◌, map, take}
use Rattle.clc_front.specs.Kinds.{kind_of}
use Rattle.clc_front.proofs.kinds.kinds_of.Given as goal

abbrev pub invariant-loop-var : goal.invariant-loop-var
invariant-loop-var l = l.kinds.items ≡ map kind_of (take l.var-index l.var-items)
