-- The meanings of expressions and statements in a work-item's run.
use Rattle.std.specs.Prelude.{◌≡◌, ℕ, zero, suc, Bool, true, false, List, Option, Some, None, Result, Ok, Err, MatchResult}
use Rattle.clc_types.specs.declared.typed.Var.{Var}
use Rattle.clc_types.specs.declared.typed.TExpr.{TExpr}
use Rattle.clc_types.specs.declared.typed.TStmt.{TStmt}
use Rattle.item_run.specs.declared.setting.Setting.{Setting}
use Rattle.item_meaning.specs.declared.values.Value.{Value}
use Rattle.item_meaning.specs.declared.values.Value.TheVariants.{Num, Null, At}
use Rattle.item_meaning.specs.declared.values.Place.{Place}
use Rattle.item_meaning.specs.declared.values.Flow.{Flow}
use Rattle.item_meaning.specs.declared.values.Flow.TheVariants.{Returned}
use Rattle.item_meaning.specs.ItemState.{State, Goes, then_do, by_truth}
use Rattle.item_meaning.specs.NodeMeanings.{Part}
use Rattle.item_meaning.specs.ItemMeaning.{Calls, value, place_of, does, calls_below, test_of, step_of}
use Rattle.item_values.specs.declared.stop.Stop.{Stop}
use Rattle.item_values.specs.declared.stop.Stop.TheVariants as st

abbrev pub calls_in : Setting → Calls
calls_in e = calls_below e.work.now e.functions.now e.callable

abbrev pub value_in_run : Setting → TExpr → Part Value
value_in_run e x = value e.work.now (calls_in e) x

abbrev pub place_in_run : Setting → TExpr → Part Place
place_in_run e x s = place_of e.work.now (calls_in e) x.at x.ty x.node s

abbrev pub does_in_run : Setting → List Var → TStmt → Part Flow
does_in_run e vars a = does e.work.now (calls_in e) vars a

abbrev pub test_in_run : Setting → Option TExpr → Part Value
test_in_run e x s = test_of e.work.now (calls_in e) x s

abbrev pub step_in_run : Setting → Option TExpr → Part Flow
step_in_run e x s = step_of e.work.now (calls_in e) x s

-- what stands in a `return`, and in an `if`, after the statement's own turn
abbrev pub returned_flow : Option (Part Value) → Part Flow
returned_flow None s = Goes (Returned Null) s
returned_flow (Some part) s = then_do (part s) (λ x t. Goes (Returned x) t)

abbrev pub choice_flow : Part Value → Part Flow → Part Flow → Part Flow
choice_flow cond one other s = then_do (cond s) (λ x t. by_truth x (one t) (other t))

-- a number's truth; nothing else has one
abbrev pub truth_in : Value → Option Bool
truth_in (Num zero) = Some false
truth_in (Num (suc n)) = Some true
truth_in Null = None
truth_in (At k o) = None

abbrev pub HasTruth : Value → Result Bool Stop → Type 0
HasTruth v x = MatchResult x (λ b. truth_in v ≡ Some b) (λ e. (truth_in v ≡ None) × (e ≡ st.Spent))

-- where a round ends without leaving the loop
abbrev pub OnNone : {A : Type 0} → Result (Option A) Stop → Type 0 → Type 0
OnNone (Ok None) P = P
OnNone (Ok (Some x)) P = Unit {0}
OnNone (Err e) P = Unit {0}
