use Rattle.std.proofs.Common.{◌≡◌, ◌+◌, length}
use Rattle.std.specs.Iterator.Adapters.{zip_first, zip_second}
use Rattle.std.specs.Slice.Iter.{iter_rest}
use Rattle.launch_file.specs.Fit.{arg_rules, first_fault}
use Rattle.launch_file.proofs.fitting.fit_args.Given as goal

abbrev pub invariant-loop-arg : goal.invariant-loop-arg
invariant-loop-arg l = record {
  next : (goal.iterator-loop-arg).can_next l.arg-iterator;
  finite : (goal.iterator-loop-arg).is_finite l.arg-iterator;
  line : l.line + length (iter_rest (zip_first l.arg-iterator)) ≡ l.first + length l.args;
  rest : first_fault l.line (arg_rules (iter_rest (zip_first l.arg-iterator)) (iter_rest (zip_second l.arg-iterator))) ≡ first_fault l.first (arg_rules l.args l.kinds);
}
