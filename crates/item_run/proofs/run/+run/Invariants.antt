-- A part is entered with fewer turns, or stands before what enters it.
use Rattle.std.proofs.Common.{◌≡◌, ℕ, ◌+◌, ◌*◌, ◌≤◌, ◌++◌, drop, Option}
use Rattle.item_meaning.specs.declared.values.Flow.{Flow}
use Rattle.item_meaning.specs.ItemState.{Goes, then_do}
use Rattle.item_meaning.specs.StatementMeanings.{no_flow}
use Rattle.item_run.specs.Settings.{value_in_run, does_in_run, test_in_run, step_in_run}
use Rattle.item_run.specs.Lists.{operators_in_run, values_in_run, all_in_run, begins_in_run, round, round_first, rounds_of}
use Rattle.item_run.proofs.run.+run.Given as goal

abbrev pub decreases-value : goal.decreases-value
decreases-value l = 8 * l.running.now.left + 3

abbrev pub decreases-placed : goal.decreases-placed
decreases-placed l = 8 * l.running.now.left + 2

abbrev pub decreases-place_of : goal.decreases-place_of
decreases-place_of l = 8 * l.running.now.left + 2

abbrev pub decreases-located : goal.decreases-located
decreases-located l = 8 * l.running.now.left + 1

abbrev pub decreases-indexed : goal.decreases-indexed
decreases-indexed l = 8 * l.running.now.left + 0

abbrev pub decreases-cell : goal.decreases-cell
decreases-cell l = 8 * l.running.now.left + 0

abbrev pub decreases-pointed : goal.decreases-pointed
decreases-pointed l = 8 * l.running.now.left + 0

abbrev pub decreases-prefix : goal.decreases-prefix
decreases-prefix l = 8 * l.running.now.left + 0

abbrev pub decreases-cast : goal.decreases-cast
decreases-cast l = 8 * l.running.now.left + 0

abbrev pub decreases-step : goal.decreases-step
decreases-step l = 8 * l.running.now.left + 0

abbrev pub decreases-assign : goal.decreases-assign
decreases-assign l = 8 * l.running.now.left + 1

abbrev pub decreases-assign_plainly : goal.decreases-assign_plainly
decreases-assign_plainly l = 8 * l.running.now.left + 0

abbrev pub decreases-assign_compound : goal.decreases-assign_compound
decreases-assign_compound l = 8 * l.running.now.left + 0

abbrev pub decreases-conditional : goal.decreases-conditional
decreases-conditional l = 8 * l.running.now.left + 0

abbrev pub decreases-chain : goal.decreases-chain
decreases-chain l = 8 * l.running.now.left + 0

abbrev pub decreases-operators : goal.decreases-operators
decreases-operators l = 8 * l.running.now.left + 5

abbrev pub decreases-operated : goal.decreases-operated
decreases-operated l = 8 * l.running.now.left + 4

abbrev pub decreases-arguments : goal.decreases-arguments
decreases-arguments l = 8 * l.running.now.left + 4

abbrev pub decreases-asked : goal.decreases-asked
decreases-asked l = 8 * l.running.now.left + 0

abbrev pub decreases-call : goal.decreases-call
decreases-call l = 8 * l.running.now.left + 0

abbrev pub decreases-call_with : goal.decreases-call_with
decreases-call_with l = 8 * l.running.now.left + 5

abbrev pub decreases-statement : goal.decreases-statement
decreases-statement l = 8 * l.running.now.left + 3

abbrev pub decreases-block : goal.decreases-block
decreases-block l = 8 * l.running.now.left + 5

abbrev pub decreases-beginnings : goal.decreases-beginnings
decreases-beginnings l = 8 * l.running.now.left + 6

abbrev pub decreases-beginning : goal.decreases-beginning
decreases-beginning l = 8 * l.running.now.left + 5

abbrev pub decreases-evaluated : goal.decreases-evaluated
decreases-evaluated l = 8 * l.running.now.left + 4

abbrev pub decreases-declared : goal.decreases-declared
decreases-declared l = 8 * l.running.now.left + 4

abbrev pub decreases-returned : goal.decreases-returned
decreases-returned l = 8 * l.running.now.left + 4

abbrev pub decreases-choice : goal.decreases-choice
decreases-choice l = 8 * l.running.now.left + 5

abbrev pub decreases-while_loop : goal.decreases-while_loop
decreases-while_loop l = 8 * l.running.now.left + 6

abbrev pub decreases-while_round : goal.decreases-while_round
decreases-while_round l = 8 * l.running.now.left + 5

abbrev pub decreases-do_loop : goal.decreases-do_loop
decreases-do_loop l = 8 * l.running.now.left + 6

abbrev pub decreases-do_round : goal.decreases-do_round
decreases-do_round l = 8 * l.running.now.left + 5

abbrev pub decreases-tested_last : goal.decreases-tested_last
decreases-tested_last l = 8 * l.running.now.left + 4

abbrev pub decreases-for_loop : goal.decreases-for_loop
decreases-for_loop l = 8 * l.running.now.left + 6

abbrev pub decreases-for_round : goal.decreases-for_round
decreases-for_round l = 8 * l.running.now.left + 5

abbrev pub decreases-tested : goal.decreases-tested
decreases-tested l = 8 * l.running.now.left + 4

abbrev pub decreases-stepped_on : goal.decreases-stepped_on
decreases-stepped_on l = 8 * l.running.now.left + 4

-- ---- rows: what is left of them is what they were

abbrev pub invariant-operators-loop-op : goal.invariant-operators-loop-op
invariant-operators-loop-op l = record {
  left : l.running.left ≤ l.initial.running.left;
  is : operators_in_run l.setting l.ty (drop l.op-index l.rest) l.x l.running ≡ operators_in_run l.setting l.initial.ty l.rest l.initial.x l.initial.running;
}

abbrev pub invariant-arguments-loop-e : goal.invariant-arguments-loop-e
invariant-arguments-loop-e l = record {
  left : l.running.left ≤ l.initial.running.left;
  is : then_do (values_in_run l.setting (drop l.e-index l.args) l.running) (λ xs u. Goes (l.values ++ xs) u) ≡ values_in_run l.setting l.args l.initial.running;
}

abbrev pub invariant-block-loop-a : goal.invariant-block-loop-a
invariant-block-loop-a l = record {
  left : l.running.left ≤ l.initial.running.left;
  is : all_in_run l.setting l.vars (drop l.a-index l.all) l.running ≡ all_in_run l.setting l.vars l.all l.initial.running;
}

abbrev pub invariant-beginnings-loop-a : goal.invariant-beginnings-loop-a
invariant-beginnings-loop-a l = record {
  left : l.running.left ≤ l.initial.running.left;
  is : begins_in_run l.setting l.vars (drop l.a-index l.all) l.running ≡ begins_in_run l.setting l.vars l.all l.initial.running;
}

-- ---- loops: rounds that are left are at least the turns that are left

abbrev pub invariant-while_loop-rounds : goal.invariant-while_loop-rounds
invariant-while_loop-rounds l =
    (i : ℕ) × (l.running.left ≤ i) × (l.running.left ≤ l.initial.running.left)
    × (rounds_of i (round (value_in_run l.setting l.cond) (does_in_run l.setting l.vars l.body) no_flow) l.running ≡ rounds_of l.initial.running.left (round (value_in_run l.setting l.cond) (does_in_run l.setting l.vars l.body) no_flow) l.initial.running)

abbrev pub decreases-while_loop-rounds : goal.decreases-while_loop-rounds
decreases-while_loop-rounds l = l.running.left

abbrev pub invariant-do_loop-rounds : goal.invariant-do_loop-rounds
invariant-do_loop-rounds l =
    (i : ℕ) × (l.running.left ≤ i) × (l.running.left ≤ l.initial.running.left)
    × (rounds_of i (round_first (does_in_run l.setting l.vars l.body) (value_in_run l.setting l.cond)) l.running ≡ rounds_of l.initial.running.left (round_first (does_in_run l.setting l.vars l.body) (value_in_run l.setting l.cond)) l.initial.running)

abbrev pub decreases-do_loop-rounds : goal.decreases-do_loop-rounds
decreases-do_loop-rounds l = l.running.left

abbrev pub invariant-for_loop-rounds : goal.invariant-for_loop-rounds
invariant-for_loop-rounds l =
    (i : ℕ) × (l.running.left ≤ i) × (l.running.left ≤ l.initial.running.left)
    × (rounds_of i (round (test_in_run l.setting l.cond) (does_in_run l.setting l.vars l.body) (step_in_run l.setting l.step)) l.running ≡ rounds_of l.initial.running.left (round (test_in_run l.setting l.cond) (does_in_run l.setting l.vars l.body) (step_in_run l.setting l.step)) l.initial.running)

abbrev pub decreases-for_loop-rounds : goal.decreases-for_loop-rounds
decreases-for_loop-rounds l = l.running.left
