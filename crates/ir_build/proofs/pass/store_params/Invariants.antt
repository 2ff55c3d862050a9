use Rattle.std.proofs.Common.{◌≡◌, ◌+◌, ◌-◌, ◌++◌}
use Rattle.ir_build.specs.Build.{params_code}
use Rattle.ir_build.proofs.pass.store_params.Given as goal

abbrev pub invariant-loop-param : goal.invariant-loop-param
invariant-loop-param l = record {
  stmts : l.out.items ++ params_code (l.params - l.param) l.param l.next ≡ l.initial.out.items ++ params_code l.params 0 l.k;
  next : l.next ≡ l.k + l.param;
}
