-- What is left of a row of parts adds what the whole row adds.
use Rattle.std.proofs.Common.{◌≡◌, ◌++◌, drop}
use Rattle.ir_build.specs.Lists.{chain_list, args_list, all_list, begin_list}
use Rattle.ir_build.proofs.code.+code.Given as goal

abbrev pub invariant-operators-loop-op : goal.invariant-operators-loop-op
invariant-operators-loop-op l = record {
  stmts : l.out.items ++ (chain_list l.vars l.ty l.x.val.0 (drop l.op-index l.rest) l.x.next).stmts ≡ l.initial.out.items ++ (chain_list l.vars l.initial.ty l.initial.x.val.0 l.rest l.initial.x.next).stmts;
  val : (chain_list l.vars l.ty l.x.val.0 (drop l.op-index l.rest) l.x.next).val ≡ (chain_list l.vars l.initial.ty l.initial.x.val.0 l.rest l.initial.x.next).val;
  next : (chain_list l.vars l.ty l.x.val.0 (drop l.op-index l.rest) l.x.next).next ≡ (chain_list l.vars l.initial.ty l.initial.x.val.0 l.rest l.initial.x.next).next;
}

abbrev pub invariant-arguments-loop-e : goal.invariant-arguments-loop-e
invariant-arguments-loop-e l = record {
  stmts : l.out.items ++ (args_list l.vars (drop l.e-index l.args) l.next).stmts ≡ l.initial.out.items ++ (args_list l.vars l.args l.initial.next).stmts;
  vals : l.vals.items ++ (args_list l.vars (drop l.e-index l.args) l.next).vals ≡ (args_list l.vars l.args l.initial.next).vals;
  next : (args_list l.vars (drop l.e-index l.args) l.next).next ≡ (args_list l.vars l.args l.initial.next).next;
}

abbrev pub invariant-block-loop-a : goal.invariant-block-loop-a
invariant-block-loop-a l = record {
  stmts : l.out.items ++ (all_list l.vars l.back (drop l.a-index l.all) l.next).stmts ≡ l.initial.out.items ++ (all_list l.vars l.back l.all l.initial.next).stmts;
  next : (all_list l.vars l.back (drop l.a-index l.all) l.next).next ≡ (all_list l.vars l.back l.all l.initial.next).next;
}

abbrev pub invariant-beginnings-loop-a : goal.invariant-beginnings-loop-a
invariant-beginnings-loop-a l = record {
  stmts : l.out.items ++ (begin_list l.vars (drop l.a-index l.all) l.next).stmts ≡ l.initial.out.items ++ (begin_list l.vars l.all l.initial.next).stmts;
  next : (begin_list l.vars (drop l.a-index l.all) l.next).next ≡ (begin_list l.vars l.all l.initial.next).next;
}
