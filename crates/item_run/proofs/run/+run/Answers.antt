use Rattle.std.proofs.Common.{◌≡◌, pred, ◌<◌, Some, List, length, sym, ap, ◌∙◌, subst, arith}
use Rattle.clc_types.specs.declared.typed.Node.{Node}
use Rattle.clc_types.specs.declared.typed.TExpr.{TExpr}
use Rattle.clc_types.specs.declared.typed.TStmt.{TStmt}
use Rattle.item_meaning.specs.declared.values.Value.TheVariants.{Num}
use Rattle.item_meaning.specs.declared.values.Flow.{Flow}
use Rattle.item_meaning.specs.ItemState.{State, Goes, if_next}
use Rattle.item_meaning.specs.Operators.{scalar_of}
use Rattle.item_meaning.specs.NodeMeanings.{index_place, cell_place, pointed_place, number_value, prefix_value, cast_value, step_value, compound_value, assigned_value, conditional_value, chain_value, builtin_value, call_value, read_from, with_words, applied_to, function_of}
use Rattle.item_meaning.specs.StatementMeanings.{no_flow, call_end}
use Rattle.item_meaning.specs.ItemMeaning.{value_of, place_of, does, calls_below}
use Rattle.q_functions.specs.NumberFunctions.{bytes_of}
use Rattle.clc_lexer.specs.declared.marks.Mark.{Mark}
use Rattle.item_run.specs.Settings.{value_in_run, place_in_run, does_in_run, calls_in, test_in_run, step_in_run, choice_flow}
use Rattle.item_run.specs.Nodes.{IsCore}
use Rattle.item_run.specs.Lists.{operators_in_run, values_in_run, all_in_run, else_in_run, round, round_first, rounds_of}
use Rattle.item_values.specs.Answers.{Stops}
use Rattle.item_run.proofs.Parts.{goes, stops, along, same, handed, turned, all_turned, too_few_turns}
use Rattle.item_run.proofs.Builtins.{gives_value}
use Rattle.item_run.proofs.Exprs.{value-Name, value-Index, value-Element, value-Deref, place-Index, place-Element, place-Deref, value-Prefix, value-Step, value-Cast, value-Cond, value-Assign, value-Chain, value-Call, value-Builtin, some_operators}
use Rattle.item_run.proofs.Marks.{compound_assignment}
use Rattle.item_run.proofs.Stmts.{does-Block, does-If, does-While, does-Do, does-For, if_next_leaves}
use Rattle.item_run.proofs.Rounds.{loop_over, loop_goes, loop_stops, some_left, below_pred}
use Rattle.item_run.proofs.Spent.{while_spent, do_spent, for_spent}
use Rattle.item_run.proofs.Called.{no_call, the_body, no_function, get_none, get_some}
use Rattle.item_run.proofs.run.+run.Goals as goal

pub assign-returns-in_default : goal.assign-returns-in_default
assign-returns-in_default t c =
    record {
      gives = same (assigned_value c.args.target.now.ty c.args.op c.args.e.now.ty (place_in_run c.args.setting.now c.args.target.now) (value_in_run c.args.setting.now c.args.e.now) c.args.running.now) (compound_value c.args.target.now.ty c.args.op c.args.e.now.ty (place_in_run c.args.setting.now c.args.target.now) (value_in_run c.args.setting.now c.args.e.now) c.args.running.now) c.assign_compound.result c.assign_compound.new.running
          (compound_assignment c.args.target.now.ty c.args.op c.args.e.now.ty (place_in_run c.args.setting.now c.args.target.now) (value_in_run c.args.setting.now c.args.e.now) c.args.running.now c.in_default.not-Assign) c.assign_compound.ensures.gives;
      falls = c.assign_compound.ensures.falls;
    }

pub chain-returns-in_err-turns-clause-gives : goal.chain-returns-in_err-turns-clause-gives
chain-returns-in_err-turns-clause-gives t c =
    handed (chain_value (length c.args.rest.now) (value_in_run c.args.setting.now c.args.first.now) (operators_in_run c.args.setting.now c.args.first.now.ty c.args.rest.now) c.args.running.now) c.from_residual.result c.in_err-turns.field-0.0 _ c.from_residual.ensures.1
    (too_few_turns (length c.args.rest.now) c.args.running.now c.in_err-turns.field-0.0 _ c.in_err-turns.ensures)

pub chain-returns-in_err-x-clause-gives : goal.chain-returns-in_err-x-clause-gives
chain-returns-in_err-x-clause-gives t c =
    handed (chain_value (length c.args.rest.now) (value_in_run c.args.setting.now c.args.first.now) (operators_in_run c.args.setting.now c.args.first.now.ty c.args.rest.now) c.args.running.now) c.from_residual-in_err-x.result c.in_err-x.field-0.0 _ c.from_residual-in_err-x.ensures.1
    (along (all_turned (length c.args.rest.now) c.args.running.now c.turns.new.self _ c.in_ok-turns.ensures)
    (stops _ c.in_err-x.ensures.gives))

pub chain-returns-clause-gives : goal.chain-returns-clause-gives
chain-returns-clause-gives t c =
    same (chain_value (length c.args.rest.now) (value_in_run c.args.setting.now c.args.first.now) (operators_in_run c.args.setting.now c.args.first.now.ty c.args.rest.now) c.args.running.now)
    (operators_in_run c.args.setting.now c.args.first.now.ty c.args.rest.now c.in_ok-x.x c.value.new.running) c.operators.result c.operators.new.running
    (all_turned (length c.args.rest.now) c.args.running.now c.turns.new.self _ c.in_ok-turns.ensures ∙ goes _ c.in_ok-x.ensures.gives) c.operators.ensures.gives

pub place_of-returns-clause-gives : goal.place_of-returns-clause-gives
place_of-returns-clause-gives t c =
    same (place_in_run c.args.setting.now c.args.e.now c.args.running.now) (place_in_run c.args.setting.now c.inner_place.result.now c.args.running.now) c.located.result c.located.new.running
    (c.inner_place.ensures.same c.args.setting.now.work.now (calls_in c.args.setting.now) c.args.running.now) c.located.ensures.gives

pub located-returns-in-Index-clause-gives : goal.located-returns-in-Index-clause-gives
located-returns-in-Index-clause-gives t c =
    same (place_in_run c.args.setting.now c.args.e.now c.args.running.now) (index_place c.args.e.now.at (bytes_of (scalar_of c.args.e.now.ty)) (value_in_run c.args.setting.now c.in-Index.base) (value_in_run c.args.setting.now c.in-Index.index) c.args.running.now) c.indexed.result c.indexed.new.running
    (ap (λ (z : Node). place_of c.args.setting.now.work.now (calls_in c.args.setting.now) c.args.e.now.at c.args.e.now.ty z c.args.running.now) c.in-Index.is ∙ place-Index c.args.setting.now c.args.e.now.at c.args.e.now.ty c.in-Index.base c.in-Index.index c.args.running.now) (rw (c.get.ensures, c.get-in-Index.ensures, c.bytes_of-size.ensures, c.scalar_of.ensures) at c.indexed.ensures.gives)

pub located-returns-in-Element-clause-gives : goal.located-returns-in-Element-clause-gives
located-returns-in-Element-clause-gives t c =
    same (place_in_run c.args.setting.now c.args.e.now c.args.running.now) (cell_place c.args.e.now.at c.in-Element.array (value_in_run c.args.setting.now c.in-Element.index) c.args.running.now) c.cell.result c.cell.new.running
    (ap (λ (z : Node). place_of c.args.setting.now.work.now (calls_in c.args.setting.now) c.args.e.now.at c.args.e.now.ty z c.args.running.now) c.in-Element.is ∙ place-Element c.args.setting.now c.args.e.now.at c.args.e.now.ty c.in-Element.array c.in-Element.index c.args.running.now) (rw c.get-in-Element.ensures at c.cell.ensures.gives)

pub located-returns-in-Deref-clause-gives : goal.located-returns-in-Deref-clause-gives
located-returns-in-Deref-clause-gives t c =
    same (place_in_run c.args.setting.now c.args.e.now c.args.running.now) (pointed_place c.args.e.now.at (value_in_run c.args.setting.now c.in-Deref.pointer) c.args.running.now) c.pointed.result c.pointed.new.running
    (ap (λ (z : Node). place_of c.args.setting.now.work.now (calls_in c.args.setting.now) c.args.e.now.at c.args.e.now.ty z c.args.running.now) c.in-Deref.is ∙ place-Deref c.args.setting.now c.args.e.now.at c.args.e.now.ty c.in-Deref.pointer c.args.running.now) (rw c.get-in-Deref.ensures at c.pointed.ensures.gives)

pub value-returns-in-Name-clause-gives : goal.value-returns-in-Name-clause-gives
value-returns-in-Name-clause-gives t c =
    same (value_in_run c.args.setting.now c.args.e.now c.args.running.now) (read_from c.inner_value-e.result.now.ty (place_in_run c.args.setting.now c.inner_value-e.result.now) c.args.running.now) c.placed.result c.placed.new.running
    (c.inner_value-e.ensures.same c.args.setting.now.work.now (calls_in c.args.setting.now) c.args.running.now ∙ ap (λ (z : Node). value_of c.args.setting.now.work.now (calls_in c.args.setting.now) c.inner_value-e.result.now.at c.inner_value-e.result.now.ty z c.args.running.now) c.in-Name.is ∙ value-Name c.args.setting.now c.inner_value-e.result.now.at c.inner_value-e.result.now.ty c.in-Name.field-0 c.args.running.now ∙ ap (λ (z : Node). read_from c.inner_value-e.result.now.ty (place_of c.args.setting.now.work.now (calls_in c.args.setting.now) c.inner_value-e.result.now.at c.inner_value-e.result.now.ty z) c.args.running.now) (sym c.in-Name.is))
    c.placed.ensures.gives

pub value-returns-in-Index-clause-gives : goal.value-returns-in-Index-clause-gives
value-returns-in-Index-clause-gives t c =
    same (value_in_run c.args.setting.now c.args.e.now c.args.running.now) (read_from c.inner_value-e.result.now.ty (place_in_run c.args.setting.now c.inner_value-e.result.now) c.args.running.now) c.placed-in-Index.result c.placed-in-Index.new.running
    (c.inner_value-e.ensures.same c.args.setting.now.work.now (calls_in c.args.setting.now) c.args.running.now ∙ ap (λ (z : Node). value_of c.args.setting.now.work.now (calls_in c.args.setting.now) c.inner_value-e.result.now.at c.inner_value-e.result.now.ty z c.args.running.now) c.in-Index.is ∙ value-Index c.args.setting.now c.inner_value-e.result.now.at c.inner_value-e.result.now.ty c.in-Index.base c.in-Index.index c.args.running.now ∙ ap (λ (z : Node). read_from c.inner_value-e.result.now.ty (place_of c.args.setting.now.work.now (calls_in c.args.setting.now) c.inner_value-e.result.now.at c.inner_value-e.result.now.ty z) c.args.running.now) (sym c.in-Index.is))
    c.placed-in-Index.ensures.gives

pub value-returns-in-Element-clause-gives : goal.value-returns-in-Element-clause-gives
value-returns-in-Element-clause-gives t c =
    same (value_in_run c.args.setting.now c.args.e.now c.args.running.now) (read_from c.inner_value-e.result.now.ty (place_in_run c.args.setting.now c.inner_value-e.result.now) c.args.running.now) c.placed-in-Element.result c.placed-in-Element.new.running
    (c.inner_value-e.ensures.same c.args.setting.now.work.now (calls_in c.args.setting.now) c.args.running.now ∙ ap (λ (z : Node). value_of c.args.setting.now.work.now (calls_in c.args.setting.now) c.inner_value-e.result.now.at c.inner_value-e.result.now.ty z c.args.running.now) c.in-Element.is ∙ value-Element c.args.setting.now c.inner_value-e.result.now.at c.inner_value-e.result.now.ty c.in-Element.array c.in-Element.index c.args.running.now ∙ ap (λ (z : Node). read_from c.inner_value-e.result.now.ty (place_of c.args.setting.now.work.now (calls_in c.args.setting.now) c.inner_value-e.result.now.at c.inner_value-e.result.now.ty z) c.args.running.now) (sym c.in-Element.is))
    c.placed-in-Element.ensures.gives

pub value-returns-in-Deref-clause-gives : goal.value-returns-in-Deref-clause-gives
value-returns-in-Deref-clause-gives t c =
    same (value_in_run c.args.setting.now c.args.e.now c.args.running.now) (read_from c.inner_value-e.result.now.ty (place_in_run c.args.setting.now c.inner_value-e.result.now) c.args.running.now) c.placed-in-Deref.result c.placed-in-Deref.new.running
    (c.inner_value-e.ensures.same c.args.setting.now.work.now (calls_in c.args.setting.now) c.args.running.now ∙ ap (λ (z : Node). value_of c.args.setting.now.work.now (calls_in c.args.setting.now) c.inner_value-e.result.now.at c.inner_value-e.result.now.ty z c.args.running.now) c.in-Deref.is ∙ value-Deref c.args.setting.now c.inner_value-e.result.now.at c.inner_value-e.result.now.ty c.in-Deref.field-0 c.args.running.now ∙ ap (λ (z : Node). read_from c.inner_value-e.result.now.ty (place_of c.args.setting.now.work.now (calls_in c.args.setting.now) c.inner_value-e.result.now.at c.inner_value-e.result.now.ty z) c.args.running.now) (sym c.in-Deref.is))
    c.placed-in-Deref.ensures.gives

pub value-returns-in-Prefix-clause-gives : goal.value-returns-in-Prefix-clause-gives
value-returns-in-Prefix-clause-gives t c =
    same (value_in_run c.args.setting.now c.args.e.now c.args.running.now) (prefix_value c.in-Prefix.op (value_in_run c.args.setting.now c.in-Prefix.arg) c.args.running.now) c.prefix.result c.prefix.new.running
    (c.inner_value-e.ensures.same c.args.setting.now.work.now (calls_in c.args.setting.now) c.args.running.now ∙ ap (λ (z : Node). value_of c.args.setting.now.work.now (calls_in c.args.setting.now) c.inner_value-e.result.now.at c.inner_value-e.result.now.ty z c.args.running.now) c.in-Prefix.is ∙ value-Prefix c.args.setting.now c.inner_value-e.result.now.at c.inner_value-e.result.now.ty c.in-Prefix.op c.in-Prefix.arg c.args.running.now)
    (rw c.get.ensures at c.prefix.ensures.gives)

pub value-returns-in-Step-clause-gives : goal.value-returns-in-Step-clause-gives
value-returns-in-Step-clause-gives t c =
    same (value_in_run c.args.setting.now c.args.e.now c.args.running.now) (step_value c.in-Step.place.ty c.in-Step.up c.in-Step.post (place_in_run c.args.setting.now c.in-Step.place) c.args.running.now) c.step.result c.step.new.running
    (c.inner_value-e.ensures.same c.args.setting.now.work.now (calls_in c.args.setting.now) c.args.running.now ∙ ap (λ (z : Node). value_of c.args.setting.now.work.now (calls_in c.args.setting.now) c.inner_value-e.result.now.at c.inner_value-e.result.now.ty z c.args.running.now) c.in-Step.is ∙ value-Step c.args.setting.now c.inner_value-e.result.now.at c.inner_value-e.result.now.ty c.in-Step.place c.in-Step.up c.in-Step.post c.args.running.now)
    (rw c.get-in-Step.ensures at c.step.ensures.gives)

pub value-returns-in-Cast-clause-gives : goal.value-returns-in-Cast-clause-gives
value-returns-in-Cast-clause-gives t c =
    same (value_in_run c.args.setting.now c.args.e.now c.args.running.now) (cast_value c.inner_value-e.result.now.ty (value_in_run c.args.setting.now c.in-Cast.arg) c.args.running.now) c.cast.result c.cast.new.running
    (c.inner_value-e.ensures.same c.args.setting.now.work.now (calls_in c.args.setting.now) c.args.running.now ∙ ap (λ (z : Node). value_of c.args.setting.now.work.now (calls_in c.args.setting.now) c.inner_value-e.result.now.at c.inner_value-e.result.now.ty z c.args.running.now) c.in-Cast.is ∙ value-Cast c.args.setting.now c.inner_value-e.result.now.at c.inner_value-e.result.now.ty c.in-Cast.arg c.args.running.now)
    (rw c.get-in-Cast.ensures at c.cast.ensures.gives)

pub value-returns-in-Chain-clause-gives : goal.value-returns-in-Chain-clause-gives
value-returns-in-Chain-clause-gives t c =
    same (value_in_run c.args.setting.now c.args.e.now c.args.running.now) (chain_value (length c.in-Chain.rest) (value_in_run c.args.setting.now c.in-Chain.first) (operators_in_run c.args.setting.now c.in-Chain.first.ty c.in-Chain.rest) c.args.running.now) c.chain.result c.chain.new.running
    (c.inner_value-e.ensures.same c.args.setting.now.work.now (calls_in c.args.setting.now) c.args.running.now ∙ ap (λ (z : Node). value_of c.args.setting.now.work.now (calls_in c.args.setting.now) c.inner_value-e.result.now.at c.inner_value-e.result.now.ty z c.args.running.now) c.in-Chain.is ∙ value-Chain c.args.setting.now c.inner_value-e.result.now.at c.inner_value-e.result.now.ty c.in-Chain.first c.in-Chain.rest c.args.running.now)
    (rw (c.get-in-Chain.ensures, c.as_slice.ensures) at c.chain.ensures.gives)

pub value-returns-in-Cond-clause-gives : goal.value-returns-in-Cond-clause-gives
value-returns-in-Cond-clause-gives t c =
    same (value_in_run c.args.setting.now c.args.e.now c.args.running.now) (conditional_value (value_in_run c.args.setting.now c.in-Cond.cond) (value_in_run c.args.setting.now c.in-Cond.one) (value_in_run c.args.setting.now c.in-Cond.other) c.args.running.now) c.conditional.result c.conditional.new.running
    (c.inner_value-e.ensures.same c.args.setting.now.work.now (calls_in c.args.setting.now) c.args.running.now ∙ ap (λ (z : Node). value_of c.args.setting.now.work.now (calls_in c.args.setting.now) c.inner_value-e.result.now.at c.inner_value-e.result.now.ty z c.args.running.now) c.in-Cond.is ∙ value-Cond c.args.setting.now c.inner_value-e.result.now.at c.inner_value-e.result.now.ty c.in-Cond.cond c.in-Cond.one c.in-Cond.other c.args.running.now)
    (rw (c.get-in-Cond.ensures, c.get-in-Cond-2.ensures, c.get-in-Cond-3.ensures) at c.conditional.ensures.gives)

pub value-returns-in-Assign-clause-gives : goal.value-returns-in-Assign-clause-gives
value-returns-in-Assign-clause-gives t c =
    same (value_in_run c.args.setting.now c.args.e.now c.args.running.now) (assigned_value c.in-Assign.place.ty c.in-Assign.op c.in-Assign.value.ty (place_in_run c.args.setting.now c.in-Assign.place) (value_in_run c.args.setting.now c.in-Assign.value) c.args.running.now) c.assign.result c.assign.new.running
    (c.inner_value-e.ensures.same c.args.setting.now.work.now (calls_in c.args.setting.now) c.args.running.now ∙ ap (λ (z : Node). value_of c.args.setting.now.work.now (calls_in c.args.setting.now) c.inner_value-e.result.now.at c.inner_value-e.result.now.ty z c.args.running.now) c.in-Assign.is ∙ value-Assign c.args.setting.now c.inner_value-e.result.now.at c.inner_value-e.result.now.ty c.in-Assign.place c.in-Assign.op c.in-Assign.value c.args.running.now)
    (rw (c.get-in-Assign.ensures, c.get-in-Assign-2.ensures) at c.assign.ensures.gives)

pub value-returns-in-Call-clause-gives : goal.value-returns-in-Call-clause-gives
value-returns-in-Call-clause-gives t c =
    same (value_in_run c.args.setting.now c.args.e.now c.args.running.now) (call_value (values_in_run c.args.setting.now c.in-Call.args) (calls_in c.args.setting.now c.in-Call.function) c.args.running.now) c.call.result c.call.new.running
    (c.inner_value-e.ensures.same c.args.setting.now.work.now (calls_in c.args.setting.now) c.args.running.now ∙ ap (λ (z : Node). value_of c.args.setting.now.work.now (calls_in c.args.setting.now) c.inner_value-e.result.now.at c.inner_value-e.result.now.ty z c.args.running.now) c.in-Call.is ∙ value-Call c.args.setting.now c.inner_value-e.result.now.at c.inner_value-e.result.now.ty c.in-Call.function c.in-Call.args c.args.running.now)
    (rw c.as_slice-in-Call.ensures at c.call.ensures.gives)

pub value-returns-in-Builtin-clause-gives : goal.value-returns-in-Builtin-clause-gives
value-returns-in-Builtin-clause-gives t c =
    same (value_in_run c.args.setting.now c.args.e.now c.args.running.now) (builtin_value c.args.setting.now.work.now c.in-Builtin.which c.in-Builtin.work (values_in_run c.args.setting.now c.in-Builtin.args) c.args.running.now) c.asked.result c.asked.new.running
    (c.inner_value-e.ensures.same c.args.setting.now.work.now (calls_in c.args.setting.now) c.args.running.now ∙ ap (λ (z : Node). value_of c.args.setting.now.work.now (calls_in c.args.setting.now) c.inner_value-e.result.now.at c.inner_value-e.result.now.ty z c.args.running.now) c.in-Builtin.is ∙ value-Builtin c.args.setting.now c.inner_value-e.result.now.at c.inner_value-e.result.now.ty c.in-Builtin.which c.in-Builtin.work c.in-Builtin.args c.args.running.now)
    (rw c.as_slice-in-Builtin.ensures at c.asked.ensures.gives)

pub statement-returns-in-Block-clause-gives : goal.statement-returns-in-Block-clause-gives
statement-returns-in-Block-clause-gives t c =
    same (does_in_run c.args.setting.now c.args.vars.now c.args.a.now c.args.running.now) (all_in_run c.args.setting.now c.args.vars.now c.in-Block.all c.turn.new.self) c.block.result c.block.new.running
    (ap (λ (z : TStmt). does_in_run c.args.setting.now c.args.vars.now z c.args.running.now) c.in-Block.is ∙ does-Block c.args.setting.now c.args.vars.now c.in-Block.all c.args.running.now ∙ turned c.args.running.now c.turn.new.self _ c.in_ok-turn.ensures)
    (rw c.as_slice.ensures at c.block.ensures.gives)

pub statement-returns-in-If-clause-gives : goal.statement-returns-in-If-clause-gives
statement-returns-in-If-clause-gives t c =
    same (does_in_run c.args.setting.now c.args.vars.now c.args.a.now c.args.running.now) (choice_flow (value_in_run c.args.setting.now c.in-If.cond) (does_in_run c.args.setting.now c.args.vars.now c.in-If.yes) (else_in_run c.args.setting.now c.args.vars.now c.in-If.no) c.turn.new.self) c.choice.result c.choice.new.running
    (ap (λ (z : TStmt). does_in_run c.args.setting.now c.args.vars.now z c.args.running.now) c.in-If.is ∙ does-If c.args.setting.now c.args.vars.now c.in-If.cond c.in-If.yes c.in-If.no c.args.running.now ∙ turned c.args.running.now c.turn.new.self _ c.in_ok-turn.ensures)
    (rw c.get.ensures at c.choice.ensures.gives)

pub statement-returns-in-While-clause-gives : goal.statement-returns-in-While-clause-gives
statement-returns-in-While-clause-gives t c =
    same (does_in_run c.args.setting.now c.args.vars.now c.args.a.now c.args.running.now) (rounds_of c.turn.new.self.left (round (value_in_run c.args.setting.now c.in-While.cond) (does_in_run c.args.setting.now c.args.vars.now c.in-While.body) no_flow) c.turn.new.self) c.while_loop.result c.while_loop.new.running
    (ap (λ (z : TStmt). does_in_run c.args.setting.now c.args.vars.now z c.args.running.now) c.in-While.is ∙ does-While c.args.setting.now c.args.vars.now c.in-While.cond c.in-While.body c.args.running.now ∙ turned c.args.running.now c.turn.new.self _ c.in_ok-turn.ensures)
    (rw c.get-in-While.ensures at c.while_loop.ensures.gives)

pub statement-returns-in-Do-clause-gives : goal.statement-returns-in-Do-clause-gives
statement-returns-in-Do-clause-gives t c =
    same (does_in_run c.args.setting.now c.args.vars.now c.args.a.now c.args.running.now) (rounds_of c.turn.new.self.left (round_first (does_in_run c.args.setting.now c.args.vars.now c.in-Do.body) (value_in_run c.args.setting.now c.in-Do.cond)) c.turn.new.self) c.do_loop.result c.do_loop.new.running
    (ap (λ (z : TStmt). does_in_run c.args.setting.now c.args.vars.now z c.args.running.now) c.in-Do.is ∙ does-Do c.args.setting.now c.args.vars.now c.in-Do.body c.in-Do.cond c.args.running.now ∙ turned c.args.running.now c.turn.new.self _ c.in_ok-turn.ensures)
    (rw c.get-in-Do.ensures at c.do_loop.ensures.gives)

pub value-returns-in-Number-clause-gives : goal.value-returns-in-Number-clause-gives
value-returns-in-Number-clause-gives t c =
    same (value_in_run c.args.setting.now c.args.e.now c.args.running.now) (number_value c.in-Number.word c.args.running.now) c.number.result c.number.new.running (c.inner_value-e.ensures.same c.args.setting.now.work.now (calls_in c.args.setting.now) c.args.running.now ∙ ap (λ (z : Node). value_of c.args.setting.now.work.now (calls_in c.args.setting.now) c.inner_value-e.result.now.at c.inner_value-e.result.now.ty z c.args.running.now) c.in-Number.is) c.number.ensures.gives

pub value-chain-requires : goal.value-chain-requires
value-chain-requires t c =
    (omega (arith, c.decreases), subst (λ (l : List (Mark × TExpr)). 0 < length l) (sym c.as_slice.ensures) (some_operators c.in-Chain.first c.in-Chain.rest (subst IsCore c.in-Chain.is c.inner_value-e.ensures.core)))

pub statement-returns-in_err-flow-in-For-clause-gives : goal.statement-returns-in_err-flow-in-For-clause-gives
statement-returns-in_err-flow-in-For-clause-gives t c =
    handed (does_in_run c.args.setting.now c.args.vars.now c.args.a.now c.args.running.now) c.from_residual-in_err-flow-in-For.result c.in_err-flow-in-For.field-0.0 _ c.from_residual-in_err-flow-in-For.ensures.1
    (along (ap (λ (z : TStmt). does_in_run c.args.setting.now c.args.vars.now z c.args.running.now) c.in-For.is ∙ does-For c.args.setting.now c.args.vars.now c.in-For.init c.in-For.cond c.in-For.step c.in-For.body c.args.running.now ∙ turned c.args.running.now c.turn.new.self _ c.in_ok-turn.ensures)
    (stops _ (rw c.as_slice-in-For.ensures at c.in_err-flow-in-For.ensures.gives)))

pub statement-returns-in-Next-clause-gives : goal.statement-returns-in-Next-clause-gives
statement-returns-in-Next-clause-gives t c =
    same (does_in_run c.args.setting.now c.args.vars.now c.args.a.now c.args.running.now) (rounds_of c.beginnings.new.running.left (round (test_in_run c.args.setting.now c.in-For.cond) (does_in_run c.args.setting.now c.args.vars.now c.in-For.body) (step_in_run c.args.setting.now c.in-For.step)) c.beginnings.new.running) c.for_loop.result c.for_loop.new.running
    (ap (λ (z : TStmt). does_in_run c.args.setting.now c.args.vars.now z c.args.running.now) c.in-For.is ∙ does-For c.args.setting.now c.args.vars.now c.in-For.init c.in-For.cond c.in-For.step c.in-For.body c.args.running.now ∙ turned c.args.running.now c.turn.new.self _ c.in_ok-turn.ensures ∙ goes _ (rw c.as_slice-in-For.ensures at c.in_ok-flow-in-For.ensures.gives) ∙ ap (λ (g : Flow). if_next g c.beginnings.new.running (λ w. rounds_of w.left (round (test_in_run c.args.setting.now c.in-For.cond) (does_in_run c.args.setting.now c.args.vars.now c.in-For.body) (step_in_run c.args.setting.now c.in-For.step)) w)) c.in-Next.is)
    (rw c.get-in-Next.ensures at c.for_loop.ensures.gives)

pub statement-returns-in_default : goal.statement-returns-in_default
statement-returns-in_default t c =
    record {
      gives = ap (λ (z : TStmt). does_in_run c.args.setting.now c.args.vars.now z c.args.running.now) c.in-For.is ∙ does-For c.args.setting.now c.args.vars.now c.in-For.init c.in-For.cond c.in-For.step c.in-For.body c.args.running.now ∙ turned c.args.running.now c.turn.new.self _ c.in_ok-turn.ensures ∙ goes _ (rw c.as_slice-in-For.ensures at c.in_ok-flow-in-For.ensures.gives) ∙ if_next_leaves c.in_ok-flow-in-For.flow c.beginnings.new.running _ c.in_default.not-Next;
      falls = omega (arith, c.in_ok-flow-in-For.ensures.falls, c.in_ok-turn.ensures.0);
    }

pub while_loop-returns-in_err-flow-clause-gives : goal.while_loop-returns-in_err-flow-clause-gives
while_loop-returns-in_err-flow-clause-gives t c =
    handed (rounds_of c.args.running.now.left (round (value_in_run c.args.setting.now c.args.cond.now) (does_in_run c.args.setting.now c.args.vars.now c.args.body.now) no_flow) c.args.running.now) c.from_residual.result c.in_err-flow.field-0.0 _ c.from_residual.ensures.1
    (loop_stops (round (value_in_run c.args.setting.now c.args.cond.now) (does_in_run c.args.setting.now c.args.vars.now c.args.body.now) no_flow) c.rounds.running c.rounds.invariant.0 c.in_err-flow.field-0.0 (rounds_of c.args.running.now.left (round (value_in_run c.args.setting.now c.args.cond.now) (does_in_run c.args.setting.now c.args.vars.now c.args.body.now) no_flow) c.args.running.now) c.rounds.invariant.3 (λ h. let l : c.rounds.running.left ≡ 0 = omega (arith, h, c.rounds.invariant.1) in while_spent c.args.setting.now c.args.vars.now c.args.body.now c.rounds.running l c.args.cond.now) c.in_err-flow.ensures.gives)

pub while_loop-rounds-preserved : goal.while_loop-rounds-preserved
while_loop-rounds-preserved t c =
    let g = rw c.in_default.is at c.in_ok-flow.ensures.gives in
    let l : c.while_round.new.running.left < c.rounds.running.left = c.in_ok-flow.ensures.falls in
    let p : 0 < c.rounds.invariant.0 = omega (arith, l, c.rounds.invariant.1) in
    (pred c.rounds.invariant.0, below_pred _ _ _ l c.rounds.invariant.1, omega (arith, l, c.rounds.invariant.2), loop_goes (round (value_in_run c.args.setting.now c.args.cond.now) (does_in_run c.args.setting.now c.args.vars.now c.args.body.now) no_flow) c.rounds.running c.rounds.invariant.0 c.while_round.new.running (rounds_of c.args.running.now.left (round (value_in_run c.args.setting.now c.args.cond.now) (does_in_run c.args.setting.now c.args.vars.now c.args.body.now) no_flow) c.args.running.now) c.rounds.invariant.3 p g)

pub do_loop-returns-in_err-flow-clause-gives : goal.do_loop-returns-in_err-flow-clause-gives
do_loop-returns-in_err-flow-clause-gives t c =
    handed (rounds_of c.args.running.now.left (round_first (does_in_run c.args.setting.now c.args.vars.now c.args.body.now) (value_in_run c.args.setting.now c.args.cond.now)) c.args.running.now) c.from_residual.result c.in_err-flow.field-0.0 _ c.from_residual.ensures.1
    (loop_stops (round_first (does_in_run c.args.setting.now c.args.vars.now c.args.body.now) (value_in_run c.args.setting.now c.args.cond.now)) c.rounds.running c.rounds.invariant.0 c.in_err-flow.field-0.0 (rounds_of c.args.running.now.left (round_first (does_in_run c.args.setting.now c.args.vars.now c.args.body.now) (value_in_run c.args.setting.now c.args.cond.now)) c.args.running.now) c.rounds.invariant.3 (λ h. let l : c.rounds.running.left ≡ 0 = omega (arith, h, c.rounds.invariant.1) in do_spent c.args.setting.now c.args.vars.now c.args.body.now c.rounds.running l c.args.cond.now) c.in_err-flow.ensures.gives)

pub do_loop-rounds-preserved : goal.do_loop-rounds-preserved
do_loop-rounds-preserved t c =
    let g = rw c.in_default.is at c.in_ok-flow.ensures.gives in
    let l : c.do_round.new.running.left < c.rounds.running.left = c.in_ok-flow.ensures.falls in
    let p : 0 < c.rounds.invariant.0 = omega (arith, l, c.rounds.invariant.1) in
    (pred c.rounds.invariant.0, below_pred _ _ _ l c.rounds.invariant.1, omega (arith, l, c.rounds.invariant.2), loop_goes (round_first (does_in_run c.args.setting.now c.args.vars.now c.args.body.now) (value_in_run c.args.setting.now c.args.cond.now)) c.rounds.running c.rounds.invariant.0 c.do_round.new.running (rounds_of c.args.running.now.left (round_first (does_in_run c.args.setting.now c.args.vars.now c.args.body.now) (value_in_run c.args.setting.now c.args.cond.now)) c.args.running.now) c.rounds.invariant.3 p g)

pub for_loop-returns-in_err-flow-clause-gives : goal.for_loop-returns-in_err-flow-clause-gives
for_loop-returns-in_err-flow-clause-gives t c =
    handed (rounds_of c.args.running.now.left (round (test_in_run c.args.setting.now c.args.cond.now) (does_in_run c.args.setting.now c.args.vars.now c.args.body.now) (step_in_run c.args.setting.now c.args.step.now)) c.args.running.now) c.from_residual.result c.in_err-flow.field-0.0 _ c.from_residual.ensures.1
    (loop_stops (round (test_in_run c.args.setting.now c.args.cond.now) (does_in_run c.args.setting.now c.args.vars.now c.args.body.now) (step_in_run c.args.setting.now c.args.step.now)) c.rounds.running c.rounds.invariant.0 c.in_err-flow.field-0.0 (rounds_of c.args.running.now.left (round (test_in_run c.args.setting.now c.args.cond.now) (does_in_run c.args.setting.now c.args.vars.now c.args.body.now) (step_in_run c.args.setting.now c.args.step.now)) c.args.running.now) c.rounds.invariant.3 (λ h. let l : c.rounds.running.left ≡ 0 = omega (arith, h, c.rounds.invariant.1) in for_spent c.args.setting.now c.args.vars.now c.args.body.now c.rounds.running l c.args.cond.now c.args.step.now) c.in_err-flow.ensures.gives)

pub for_loop-returns-in-Some-clause-gives : goal.for_loop-returns-in-Some-clause-gives
for_loop-returns-in-Some-clause-gives t c =
    let g = rw c.in-Some.is at c.in_ok-flow.ensures.gives in loop_over (round (test_in_run c.args.setting.now c.args.cond.now) (does_in_run c.args.setting.now c.args.vars.now c.args.body.now) (step_in_run c.args.setting.now c.args.step.now)) c.rounds.running c.rounds.invariant.0 c.in-Some.flow c.for_round.new.running (rounds_of c.args.running.now.left (round (test_in_run c.args.setting.now c.args.cond.now) (does_in_run c.args.setting.now c.args.vars.now c.args.body.now) (step_in_run c.args.setting.now c.args.step.now)) c.args.running.now) c.rounds.invariant.3 (some_left (round (test_in_run c.args.setting.now c.args.cond.now) (does_in_run c.args.setting.now c.args.vars.now c.args.body.now) (step_in_run c.args.setting.now c.args.step.now)) c.rounds.running c.rounds.invariant.0 (Some c.in-Some.flow) c.for_round.new.running (λ h. let l : c.rounds.running.left ≡ 0 = omega (arith, h, c.rounds.invariant.1) in for_spent c.args.setting.now c.args.vars.now c.args.body.now c.rounds.running l c.args.cond.now c.args.step.now) g) g

pub for_loop-rounds-preserved : goal.for_loop-rounds-preserved
for_loop-rounds-preserved t c =
    let g = rw c.in_default.is at c.in_ok-flow.ensures.gives in
    let l : c.for_round.new.running.left < c.rounds.running.left = (rw c.in_default.is at c.in_ok-flow.ensures.shorter) in
    let p : 0 < c.rounds.invariant.0 = omega (arith, l, c.rounds.invariant.1) in
    (pred c.rounds.invariant.0, below_pred _ _ _ l c.rounds.invariant.1, omega (arith, l, c.rounds.invariant.2), loop_goes (round (test_in_run c.args.setting.now c.args.cond.now) (does_in_run c.args.setting.now c.args.vars.now c.args.body.now) (step_in_run c.args.setting.now c.args.step.now)) c.rounds.running c.rounds.invariant.0 c.for_round.new.running (rounds_of c.args.running.now.left (round (test_in_run c.args.setting.now c.args.cond.now) (does_in_run c.args.setting.now c.args.vars.now c.args.body.now) (step_in_run c.args.setting.now c.args.step.now)) c.args.running.now) c.rounds.invariant.3 p g)

pub call_with-returns-then-function-setting-clause-gives : goal.call_with-returns-then-function-setting-clause-gives
call_with-returns-then-function-setting-clause-gives t c =
    record { is = no_call c.args.setting.now.work.now c.args.setting.now.functions.now c.args.function c.args.args c.args.running.now c.args.setting.now.callable (omega arith) }

pub call_with-returns-in_default-clause-gives : goal.call_with-returns-in_default-clause-gives
call_with-returns-in_default-clause-gives t c =
    record { is = no_function c.args.setting.now.work.now c.args.setting.now.functions.now c.args.function c.args.args c.args.running.now c.args.setting.now.callable (omega arith) (get_none c.args.setting.now.functions.now c.args.function c.in_default.ensures.lookup.3) }

pub call_with-returns-in_err-flow-clause-gives : goal.call_with-returns-in_err-flow-clause-gives
call_with-returns-in_err-flow-clause-gives t c =
    let h : Stops (does c.args.setting.now.work.now (calls_below c.args.setting.now.work.now c.args.setting.now.functions.now c.args.function) c.as_slice-2.result.now c.in-Some.called.now.body c.enter.new.running) c.in_err-flow.field-0.0 = c.in_err-flow.ensures.gives in
    handed (calls_in c.args.setting.now c.args.function c.args.args c.args.running.now) c.from_residual-in_err-flow.result c.in_err-flow.field-0.0 c.statement.new.running c.from_residual-in_err-flow.ensures.1
    (along (the_body c.args.setting.now.work.now c.args.setting.now.functions.now c.args.function c.args.args c.args.running.now c.args.setting.now.callable c.in-Some.called.now (omega arith) (get_some c.args.setting.now.functions.now c.args.function c.in-Some.called.now c.in-Some.ensures.lookup.3.0 c.in-Some.ensures.lookup.1))
    (stops _ (rw (c.as_slice-2.ensures, c.in_ok-caller.ensures.0, c.as_slice.ensures) at h)))

pub call_with-returns-clause-gives : goal.call_with-returns-clause-gives
call_with-returns-clause-gives t c =
    let h : (does c.args.setting.now.work.now (calls_below c.args.setting.now.work.now c.args.setting.now.functions.now c.args.function) c.as_slice-2.result.now c.in-Some.called.now.body c.enter.new.running) ≡ Goes c.in_ok-flow.flow c.statement.new.running = c.in_ok-flow.ensures.gives in
    same (calls_in c.args.setting.now c.args.function c.args.args c.args.running.now) (call_end c.in-Some.called.now.result c.in_ok-flow.flow c.leave.new.running) c.call_end.result c.leave.new.running
    (the_body c.args.setting.now.work.now c.args.setting.now.functions.now c.args.function c.args.args c.args.running.now c.args.setting.now.callable c.in-Some.called.now (omega arith) (get_some c.args.setting.now.functions.now c.args.function c.in-Some.called.now c.in-Some.ensures.lookup.3.0 c.in-Some.ensures.lookup.1)
    ∙ goes _ (rw (c.as_slice-2.ensures, c.in_ok-caller.ensures.0, c.as_slice.ensures) at h)
    ∙ ap (λ (s : State). call_end c.in-Some.called.now.result c.in_ok-flow.flow s) (sym (rw (c.in_ok-caller.ensures.1, c.in_ok-caller.ensures.2) at c.leave.ensures)))
    (c.call_end.ensures c.leave.new.running)

pub asked-returns-clause-gives : goal.asked-returns-clause-gives
asked-returns-clause-gives t c =
    gives_value (builtin_value c.args.setting.now.work.now c.args.which c.args.scalar (values_in_run c.args.setting.now c.args.args.now) c.args.running.now) c.builtin.result (with_words c.in_ok-values.values (λ ws. Num (applied_to c.args.setting.now.work.now (function_of c.args.which) c.args.scalar ws))) c.arguments.new.running
    (turned c.args.running.now c.turn.new.self _ c.in_ok-turn.ensures ∙ goes _ c.in_ok-values.ensures.gives) (rw c.as_slice.ensures at c.builtin.ensures)
