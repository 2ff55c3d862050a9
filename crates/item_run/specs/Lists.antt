-- The meanings of rows of expressions and of statements, over lists; and of one round of a loop.
use Rattle.std.specs.Prelude.{ℕ, zero, suc, List, [], ◌∷◌, Option, Some, None}
use Rattle.clc_lexer.specs.declared.marks.Mark.{Mark}
use Rattle.clc_types.specs.declared.typed.Ty.{Ty}
use Rattle.clc_types.specs.declared.typed.Var.{Var}
use Rattle.clc_types.specs.declared.typed.TExpr.{TExpr}
use Rattle.clc_types.specs.declared.typed.TStmt.{TStmt}
use Rattle.item_meaning.specs.declared.values.Value.{Value}
use Rattle.item_meaning.specs.declared.values.Flow.{Flow}
use Rattle.item_meaning.specs.declared.values.Flow.TheVariants.{Next, Broke, Again, Returned}
use Rattle.item_meaning.specs.ItemState.{State, Run, Goes, Bounds, Spent, then_do, by_truth}
use Rattle.item_meaning.specs.Operators.{type_after}
use Rattle.item_meaning.specs.NodeMeanings.{Part, operator_value, no_values, and_values}
use Rattle.item_meaning.specs.StatementMeanings.{no_flow, and_flow}
use Rattle.item_meaning.specs.ItemMeaning.{begin_with}
use Rattle.item_run.specs.declared.setting.Setting.{Setting}
use Rattle.item_run.specs.Settings.{calls_in, value_in_run, does_in_run}

module _ (e : Setting) where
  abbrev pub operators_in_run : Ty → List (Mark × TExpr) → Value → Part Value
  operators_in_run a [] x s = Goes x s
  operators_in_run a (p ∷ rest) x s = then_do (operator_value a p.0 p.1.ty x (value_in_run e p.1) s) (operators_in_run (type_after p.0 a p.1.ty) rest)

  abbrev pub values_in_run : List TExpr → Part (List Value)
  values_in_run [] s = no_values s
  values_in_run (x ∷ rest) s = and_values (value_in_run e x) (values_in_run rest) s

  module _ (vars : List Var) where
    abbrev pub all_in_run : List TStmt → Part Flow
    all_in_run [] s = no_flow s
    all_in_run (a ∷ rest) s = and_flow (does_in_run e vars a) (all_in_run rest) s

    abbrev pub begins_in_run : List TStmt → Part Flow
    begins_in_run [] s = no_flow s
    begins_in_run (a ∷ rest) s = and_flow (begin_with e.work.now (calls_in e) vars a) (begins_in_run rest) s

    abbrev pub else_in_run : Option TStmt → Part Flow
    else_in_run None s = no_flow s
    else_in_run (Some a) s = does_in_run e vars a s

-- ---- rounds

-- what comes after a body: another round, or the loop is left so
abbrev pub after_round : Flow → State → Part Flow → Run (Option Flow)
after_round Next s step = then_do (step s) (λ g t. Goes None t)
after_round Broke s step = Goes (Some Next) s
after_round Again s step = then_do (step s) (λ g t. Goes None t)
after_round (Returned v) s step = Goes (Some (Returned v)) s

abbrev pub round : (test : Part Value) → (body step : Part Flow) → Part (Option Flow)
round test body step s = then_do (test s) (λ x t. by_truth x (then_do (body t) (λ f u. after_round f u step)) (Goes (Some Next) t))

-- the same where the body stands before the test
abbrev pub after_first : Flow → State → Part Value → Run (Option Flow)
after_first Next s test = then_do (test s) (λ x t. by_truth x (Goes None t) (Goes (Some Next) t))
after_first Broke s test = Goes (Some Next) s
after_first Again s test = then_do (test s) (λ x t. by_truth x (Goes None t) (Goes (Some Next) t))
after_first (Returned v) s test = Goes (Some (Returned v)) s

abbrev pub round_first : (body : Part Flow) → (test : Part Value) → Part (Option Flow)
round_first body test s = then_do (body s) (λ f t. after_first f t test)

abbrev pub ended_by : Option Flow → State → Part Flow → Run Flow
ended_by None s go = go s
ended_by (Some f) s go = Goes f s

abbrev pub rounds_of : ℕ → Part (Option Flow) → Part Flow
rounds_of zero one s = Spent
rounds_of (suc n) one s = then_do (one s) (λ o t. ended_by o t (rounds_of n one))
