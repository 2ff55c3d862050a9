use Rattle.std.proofs.Common.{◌≡◌, ap, ◌∙◌, ◌+◌, arith, List}
use Rattle.std.specs.Prelude.{◌&&◌}
use Rattle.lane_ir.specs.Valid.{counted, is_body, is_val, are_vals}
use Rattle.std.proofs.lemmas.Grind.{common_steps}
use Rattle.lane_ir.specs.declared.form.LaneStmt.{LaneStmt}
use Rattle.lane_mapper.specs.Definitions.{are_definitions, define_within}
use Rattle.lane_mapper.specs.Prolog.{prolog, val}
use Rattle.lane_mapper.proofs.Parts.{prolog_defines, prolog_own, prolog_named, ids_named}
use Rattle.lane_mapper.proofs.pass.map_ids.Goals as goal

pub invariant_of-result : goal.invariant_of-result
invariant_of-result c =
    let body : c.put_ids.new.out.items ≡ prolog c.args.ir.now.vals c.with_body-uses.result = grind (arith, common_steps) in
    let k = c.args.ir.now.vals in
    let vals : c.in_ok-vals.vals ≡ k + 21 = c.in_ok-vals.ensures.0 in
    record {
      definitions = ap are_definitions body ∙ prolog_defines k c.with_body-uses.result;
      named = (λ i. is_body (counted (vals i) 0 0 0) (body i)) ∙ prolog_named k c.with_body-uses.result;
      below = (λ i. is_val (counted (vals i) 0 0 0) (val (k + 2)) && are_vals (counted (vals i) 0 0 0) (c.in_ok-ids.ensures i)) ∙ ids_named k;
    }

pub returns-clause-own : goal.returns-clause-own
returns-clause-own c =
    let body : c.put_ids.new.out.items ≡ prolog c.args.ir.now.vals c.with_body-uses.result = grind (arith, common_steps) in
    (λ i. define_within c.args.ir.now.vals (c.in_ok-vals.ensures.0 i) (body i)) ∙ prolog_own c.args.ir.now.vals c.with_body-uses.result
