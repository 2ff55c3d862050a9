-- What each form of statement does with what its parts do.
use Rattle.std.specs.Prelude.{ℕ, zero, suc, ◌+◌, List, [], ◌∷◌, Option, Some, None, slice_set, slice_index_or, replicate}
use Rattle.q_lane.specs.declared.kinds.Scalar.{Scalar}
use Rattle.clc_types.specs.declared.typed.Ty.{Ty}
use Rattle.clc_types.specs.declared.typed.Ty.TheVariants as ty
use Rattle.clc_types.specs.declared.typed.Var.{Var}
use Rattle.clc_types.specs.declared.typed.Var.TheVariants as var
use Rattle.item_meaning.specs.declared.values.Value.{Value}
use Rattle.item_meaning.specs.declared.values.Value.TheVariants.{Num, Null, At}
use Rattle.item_meaning.specs.ItemState.{State, Run, Goes, Bounds, Spent, then_do, node, by_truth, Flow, Next, Broke, Again, Returned, if_next, after_body}
use Rattle.item_meaning.specs.Operators.{converted}
use Rattle.item_meaning.specs.Places.{Variable, write}
use Rattle.item_meaning.specs.NodeMeanings.{Part}

-- ---- declarations

-- the type of a variable's value; an array has none
abbrev pub type_of : Var → Ty
type_of (var.Value s) = ty.Value s
type_of (var.Pointer e c) = ty.Pointer e c
type_of (var.Array e n) = ty.Void

abbrev pub var_at : List Var → ℕ → Var
var_at vars v = slice_index_or vars v (var.Value Rattle.q_lane.specs.declared.kinds.Scalar.TheVariants.Int)

-- a declared variable is 0, or null, or all its elements are 0
abbrev pub cleared : Var → ℕ → State → State
cleared (var.Value s) v t = record t { vars = slice_set t.vars v (Num 0) }
cleared (var.Pointer e c) v t = record t { vars = slice_set t.vars v Null }
cleared (var.Array e n) v t = record t { arrays = slice_set t.arrays v (replicate n 0) }

-- then its initial value, if there is one, is stored
abbrev pub initialised : Ty → ℕ → Option (Part Value) → Part Flow
initialised t v None s = Goes Next s
initialised t v (Some value) s = then_do (value s) (λ x u. then_do (write t (Variable v) x u) (λ y w. Goes Next w))

abbrev pub declare_flow : Var → ℕ → Option (Part Value) → Part Flow
declare_flow d v init s = node s (λ t. initialised (type_of d) v init (cleared d v t))

-- ---- statements

abbrev pub block_flow : Part Flow → Part Flow
block_flow stmts s = node s stmts

abbrev pub no_flow : Part Flow
no_flow s = Goes Next s

abbrev pub and_flow : Part Flow → Part Flow → Part Flow
and_flow first rest s = then_do (first s) (λ f t. if_next f t rest)

abbrev pub dropped : Part Value → Part Flow
dropped e s = then_do (e s) (λ x t. Goes Next t)

abbrev pub eval_flow : Part Value → Part Flow
eval_flow e s = node s (dropped e)

abbrev pub leaf_flow : Flow → Part Flow
leaf_flow f s = node s (λ t. Goes f t)

abbrev pub if_flow : Part Value → Part Flow → Part Flow → Part Flow
if_flow cond one other s = node s (λ t. then_do (cond t) (λ x u. by_truth x (one u) (other u)))

-- at most n rounds. Each takes a turn at least, so n is the number of turns that are left where a loop begins
abbrev pub rounds : ℕ → (test : Part Value) → (body : Part Flow) → (step : Part Flow) → Part Flow
rounds zero test body step s = Spent
rounds (suc n) test body step s =
    then_do (test s) (λ x t. by_truth x
    (then_do (body t) (λ f u. after_body f u (λ w. then_do (step w) (λ g y. rounds n test body step y))))
    (Goes Next t))

-- the body first, and then the test
abbrev pub rounds_first : ℕ → (body : Part Flow) → (test : Part Value) → Part Flow
rounds_first zero body test s = Spent
rounds_first (suc n) body test s =
    then_do (body s) (λ f t. after_body f t (λ u. then_do (test u) (λ x w. by_truth x (rounds_first n body test w) (Goes Next w))))

abbrev pub while_flow : Part Value → Part Flow → Part Flow
while_flow cond body s = node s (λ t. rounds t.left cond body no_flow t)

abbrev pub do_flow : Part Flow → Part Value → Part Flow
do_flow body cond s = node s (λ t. rounds_first t.left body cond t)

-- without a condition it goes on
abbrev pub always : Part Value
always s = Goes (Num 1) s

abbrev pub part_or : {A : Type 0} → Option A → (A → Part Flow) → Part Flow
part_or None f = no_flow
part_or (Some x) f = f x

abbrev pub for_flow : Part Flow → Part Value → Part Flow → Part Flow → Part Flow
for_flow init cond step body s = node s (λ t. then_do (init t) (λ f u. if_next f u (λ w. rounds w.left cond body step w)))

abbrev pub return_flow : Option (Part Value) → Part Flow
return_flow None s = node s (λ t. Goes (Returned Null) t)
return_flow (Some e) s = node s (λ t. then_do (e t) (λ x u. Goes (Returned x) u))

-- ---- functions

-- the returned value in the function's type; a function that gives nothing gives null
abbrev pub returned_as : Option Scalar → Value → Value
returned_as None v = Null
returned_as (Some s) v = converted (ty.Value s) v

-- a value function that falls off its end gives 0
abbrev pub fallen_off : Option Scalar → Value
fallen_off None = Null
fallen_off (Some s) = Num 0

-- what a call gives where the body is left so. In a typed tree no break or continue leaves a function
abbrev pub call_end : Option Scalar → Flow → Part Value
call_end result Next s = Goes (fallen_off result) s
call_end result Broke s = Spent
call_end result Again s = Spent
call_end result (Returned v) s = Goes (returned_as result v) s
