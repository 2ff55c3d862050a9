use Rattle.std.proofs.Common.{◌≡◌, refl, arith, ap, sym, ◌∙◌, rules, Some, None, length, suc}
use Rattle.std.specs.Iterator.Adapters.{zip_first}
use Rattle.std.specs.Slice.Iter.{iter_rest}
use Rattle.std.proofs.lemmas.Slice.Zip.{Zip-more, either_empty_from_Zip}
use Rattle.launch_file.specs.Fit.{arg_rule, answer_of}
use Rattle.launch_file.proofs.FitFaults.{moved_past, found_here, arg_rules-next, no_pair_left}
use Rattle.launch_file.proofs.fitting.fit_args.Goals as goal

pub returns-in-Some-rule_of_arg : goal.returns-in-Some-rule_of_arg
returns-in-Some-rule_of_arg c =
    let more = Zip-more c.loop-arg.arg-iterator c.next.new.self c.next.result (c.in-Some.arg, c.in-Some.kind) c.in-Some.is c.next.ensures.steps in
    let at = arg_rules-next _ _ _ _ _ _ more.0 more.1 in
    let rule : arg_rule c.in-Some.arg.now c.in-Some.kind.now ≡ Some c.in-Some-rule_of_arg.rule = sym c.rule_of_arg.ensures ∙ c.in-Some-rule_of_arg.is in
    sym (ap answer_of (found_here _ _ _ _ _ _ at rule c.loop-arg.invariant.rest))

pub loop-arg-preserved : goal.loop-arg-preserved
loop-arg-preserved c =
    let more = Zip-more c.loop-arg.arg-iterator c.next.new.self c.next.result (c.in-Some.arg, c.in-Some.kind) c.in-Some.is c.next.ensures.steps in
    let at = arg_rules-next _ _ _ _ _ _ more.0 more.1 in
    let rule : arg_rule c.in-Some.arg.now c.in-Some.kind.now ≡ None = sym c.rule_of_arg.ensures ∙ c.in_default.is in
    let one : length (iter_rest (zip_first c.loop-arg.arg-iterator)) ≡ suc (length (iter_rest (zip_first c.next.new.self))) = ap length more.0 in
    record {
      next = search rules;
      finite = tt;
      line = omega arith;
      rest = moved_past _ _ _ _ _ _ at rule refl c.loop-arg.invariant.rest;
    }

pub returns : goal.returns
returns c =
    let empty = either_empty_from_Zip c.loop-arg.arg-iterator c.next.new.self c.next.result c.in-None.is c.next.ensures.steps in
    ap answer_of (sym (no_pair_left _ _ _ empty) ∙ c.loop-arg.invariant.rest)
