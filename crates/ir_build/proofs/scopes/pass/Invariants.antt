use Rattle.std.proofs.Common.{◌≡◌, ◌++◌, drop}
use Rattle.ir_build.specs.Code.{pass_code}
use Rattle.ir_build.proofs.scopes.pass.Given as goal

abbrev pub invariant-loop-i : goal.invariant-loop-i
invariant-loop-i l = record {
  stmts : l.out.items ++ (pass_code l.vars (drop l.i l.params) (drop l.i l.args) l.next).stmts ≡ l.initial.out.items ++ (pass_code l.vars l.params l.args l.k).stmts;
  next : (pass_code l.vars (drop l.i l.params) (drop l.i l.args) l.next).next ≡ (pass_code l.vars l.params l.args l.k).next;
}
