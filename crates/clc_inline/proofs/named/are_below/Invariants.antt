use Rattle.std.proofs.Common.{◌≡◌, drop}
use Rattle.clc_inline.specs.Named.{all_below}
use Rattle.clc_inline.proofs.named.are_below.Given as goal

abbrev pub invariant-loop-param : goal.invariant-loop-param
invariant-loop-param l = all_below l.n (drop l.param-index l.params) ≡ all_below l.n l.params
