-- ItemMeaning: what a typed program does for one work-item (OpenCL C 1.2, section 6; the order of evaluation, the turns and the values where the
-- standard leaves them open are this project's own). It walks one tree, calls included, and knows neither masks nor registers nor addresses.
use Rattle.std.specs.Prelude.{ℕ, zero, suc, ◌+◌, ◌-◌, Bool, true, false, nat_eq, if◌then◌else◌, List, [], ◌∷◌, ◌++◌, map, length, Option, Some, None, slice_get, slice_index_or, replicate, take}
use Rattle.clc_lexer.specs.declared.marks.Mark.{Mark}
use Rattle.q_lane.specs.declared.kinds.Scalar.{Scalar}
use Rattle.q_lane.specs.Numbers.{narrowed, word_of}
use Rattle.q_functions.specs.WorkFunctions.{work_of}
use Rattle.q_functions.specs.declared.work.Work.{Work}
use Rattle.launch_file.specs.declared.launch.Arg.{Arg}
use Rattle.launch_file.specs.declared.launch.Arg.TheVariants as arg
use Rattle.launch_file.specs.Launches.{LaunchOf}
use Rattle.clc_types.specs.declared.typed.Ty.{Ty}
use Rattle.clc_types.specs.declared.typed.Ty.TheVariants as ty
use Rattle.clc_types.specs.declared.typed.Var.{Var}
use Rattle.clc_types.specs.declared.typed.Var.TheVariants as var
use Rattle.clc_types.specs.declared.typed.TExpr.{TExpr}
use Rattle.clc_types.specs.declared.typed.Node.{Node, Row_of-TExpr, end_of-TExpr, more_of-TExpr, Row_of-Node-Chain-1-2, end_of-Node-Chain-1-2, more_of-Node-Chain-1-2}
use Rattle.clc_types.specs.declared.typed.Node.TheVariants.{Number, Name, Index', Element', Deref', Prefix', Step', Cast', Paren', Chain', Cond', Assign', Call', Builtin'}
use Rattle.clc_types.specs.declared.typed.TStmt.{TStmt, Row_of-TStmt, end_of-TStmt, more_of-TStmt, Held-TStmt-If-2, None', Some'}
use Rattle.clc_types.specs.declared.typed.TStmt.TheVariants.{Block', Declare, Eval, Empty, If', While', Do', For', Break, Continue, Return}
use Rattle.clc_types.specs.declared.typed.TFunction.{TFunction}
use Rattle.clc_types.specs.declared.typed.Typed.{Typed}
use Rattle.item_meaning.specs.declared.values.Value.{Value}
use Rattle.item_meaning.specs.declared.values.Value.TheVariants.{Num, Null, At}
use Rattle.item_meaning.specs.ItemState.{State, Run, Goes, Bounds, Spent, then_do, node, nodes, Flow, Next, Broke, Again, Returned}
use Rattle.q_functions.specs.NumberFunctions.{bytes_of}
use Rattle.item_meaning.specs.Operators.{scalar_of, type_after, converted}
use Rattle.item_meaning.specs.Places.{Place, Nowhere}
use Rattle.launch_meaning.specs.declared.ends.ItemEnd.{ItemEnd}
use Rattle.launch_meaning.specs.declared.ends.ItemEnd.TheVariants as e
use Rattle.item_meaning.specs.NodeMeanings.{Part, variable_place, index_place, cell_place, pointed_place, read_from, number_value, prefix_value, cast_value, step_value, assigned_value, conditional_value, operator_value, chain_value, builtin_value, no_values, and_values, call_value}
use Rattle.item_meaning.specs.StatementMeanings.{var_at, type_of, declare_flow, block_flow, no_flow, and_flow, dropped, eval_flow, leaf_flow, if_flow, while_flow, do_flow, always, for_flow, return_flow, call_end}

-- how many operators a chain has
abbrev pub operators : {n : _} → Row_of-Node-Chain-1-2 n → ℕ
operators end_of-Node-Chain-1-2 = 0
operators (more_of-Node-Chain-1-2 o at t e rest) = suc (operators rest)

-- the type of the expression in a box
abbrev pub type_in : {n : _} → Row_of-TExpr n → Ty
type_in end_of-TExpr = ty.Void
type_in (more_of-TExpr at t e rest) = t

-- what a call of a function does, by its number and its arguments
abbrev pub Calls : Type 0
Calls = ℕ → List Value → Part Value

module _ (work : Work) (calls : Calls) where
  abbrev mutual
    -- an expression that begins at byte `at` and has type t. An element and what a pointer points to are places, and are read
    pub value_of : (at : ℕ) (t : Ty) → Node → Part Value
    value_of at t (Number w) s = number_value w s
    value_of at t (Name v) s = read_from t (variable_place v) s
    value_of at t (Index' b base i index) s = read_from t (index_place at (bytes_of (scalar_of t)) (value_in base) (value_in index)) s
    value_of at t (Element' v i index) s = read_from t (cell_place at v (value_in index)) s
    value_of at t (Deref' p pointer) s = read_from t (pointed_place at (value_in pointer)) s
    value_of at t (Prefix' o a arg) s = prefix_value o (value_in arg) s
    value_of at t (Step' p place up post) s = step_value (type_in place) up post (place_in place) s
    value_of at t (Cast' a arg) s = cast_value t (value_in arg) s
    value_of at t (Paren' a arg) s = value_in arg s
    value_of at t (Chain' f first r rest) s = chain_value (operators rest) (value_in first) (chained (type_in first) rest) s
    value_of at t (Cond' c cond a one b other) s = conditional_value (value_in cond) (value_in one) (value_in other) s
    value_of at t (Assign' p place o v value) s = assigned_value (type_in place) o (type_in value) (place_in place) (value_in value) s
    value_of at t (Call' f n args) s = call_value (values_of args) (calls f) s
    value_of at t (Builtin' which in_type n args) s = builtin_value work which in_type (values_of args) s

    -- the expression in a box
    pub value_in : {n : _} → Row_of-TExpr n → Part Value
    value_in end_of-TExpr s = Spent
    value_in (more_of-TExpr at t e rest) s = value_of at t e s

    -- the operators of a chain from the left, each with the type of all that stands before it
    pub chained : {n : _} → Ty → Row_of-Node-Chain-1-2 n → Value → Part Value
    chained a end_of-Node-Chain-1-2 x s = Goes x s
    chained a (more_of-Node-Chain-1-2 o at t e rest) x s =
        then_do (operator_value a o t x (value_of at t e) s) (chained (type_after o a t) rest)

    -- an expression as a place; parentheses are none
    pub place_of : (at : ℕ) (t : Ty) → Node → Part Place
    place_of at t (Name v) s = variable_place v s
    place_of at t (Index' b base i index) s = index_place at (bytes_of (scalar_of t)) (value_in base) (value_in index) s
    place_of at t (Element' v i index) s = cell_place at v (value_in index) s
    place_of at t (Deref' p pointer) s = pointed_place at (value_in pointer) s
    place_of at t (Paren' a arg) s = place_in arg s
    place_of at t _ s = Spent

    pub place_in : {n : _} → Row_of-TExpr n → Part Place
    place_in end_of-TExpr s = Spent
    place_in (more_of-TExpr at t e rest) s = place_of at t e s

    -- arguments
    pub values_of : {n : _} → Row_of-TExpr n → Part (List Value)
    values_of end_of-TExpr s = no_values s
    values_of (more_of-TExpr at t e rest) s = and_values (value_of at t e) (values_of rest) s

  abbrev pub value : TExpr → Part Value
  value e s = value_of e.at e.ty e.node s

  abbrev pub value_if : Option TExpr → Option (Part Value)
  value_if None = None
  value_if (Some e) = Some (value e)

  abbrev pub test_of : Option TExpr → Part Value
  test_of None = always
  test_of (Some e) = value e

  abbrev pub step_of : Option TExpr → Part Flow
  step_of None = no_flow
  step_of (Some e) = dropped (value e)

  module _ (vars : List Var) where
    abbrev mutual
      -- a statement of a function with these variables
      pub does : TStmt → Part Flow
      does (Block' n stmts) s = block_flow (does_all stmts) s
      does (Declare v init) s = declare_flow (var_at vars v) v (value_if init) s
      does (Eval e) s = eval_flow (value e) s
      does Empty s = leaf_flow Next s
      does (If' cond y one other) s = if_flow (value cond) (does_in one) (does_else other) s
      does (While' cond b body) s = while_flow (value cond) (does_in body) s
      does (Do' b body cond) s = do_flow (does_in body) (value cond) s
      does (For' n init cond step b body) s = for_flow (begins init) (test_of cond) (step_of step) (does_in body) s
      does Break s = leaf_flow Broke s
      does Continue s = leaf_flow Again s
      does (Return e) s = return_flow (value_if e) s

      pub does_all : {n : _} → Row_of-TStmt n → Part Flow
      does_all end_of-TStmt s = no_flow s
      does_all (more_of-TStmt a rest) s = and_flow (does a) (does_all rest) s

      -- the statement in a box
      pub does_in : {n : _} → Row_of-TStmt n → Part Flow
      does_in end_of-TStmt s = Spent
      does_in (more_of-TStmt a rest) s = does a s

      pub does_else : Held-TStmt-If-2 → Part Flow
      does_else None' s = no_flow s
      does_else (Some' b stmt) s = does_in stmt s

      -- what stands first in a `for`: declared items; or an expression, which is no expression statement and so no node of its own
      pub begins : {n : _} → Row_of-TStmt n → Part Flow
      begins end_of-TStmt s = no_flow s
      begins (more_of-TStmt a rest) s = and_flow (begin_with a) (begins rest) s

      pub begin_with : TStmt → Part Flow
      begin_with (Eval e) s = dropped (value e) s
      begin_with (Declare v init) s = declare_flow (var_at vars v) v (value_if init) s
      begin_with _ s = Spent

-- ---- functions

-- the arguments as values of the first variables
abbrev pub as_params : List Var → List Value → List Value
as_params [] xs = []
as_params (p ∷ ps) [] = []
as_params (p ∷ ps) (x ∷ xs) = converted (type_of p) x ∷ as_params ps xs

-- a function's variables where its body begins: its parameters, and nothing in the others until they are declared
abbrev pub frame : TFunction → List Value → List Value
frame f xs = as_params (take f.params f.vars) xs ++ replicate (length f.vars - f.params) Null

-- the body runs on variables of its own
abbrev pub entered : TFunction → List Value → State → State
entered f xs s = record s { vars = frame f xs; arrays = replicate (length f.vars) [] }

-- what it leaves, with the caller's variables
abbrev pub back_in : State → State → State
back_in s t = record t { vars = s.vars; arrays = s.arrays }

abbrev pub called : Work → Calls → Option TFunction → List Value → Part Value
called work calls None xs s = Spent
called work calls (Some f) xs s = then_do (does work calls f.vars f.body (entered f xs s)) (λ flow t. call_end f.result flow (back_in s t))

-- a function calls earlier ones alone: what those below number n do
abbrev pub calls_below : Work → List TFunction → (n : ℕ) → Calls
calls_below work functions zero k xs s = Spent
calls_below work functions (suc n) k xs s =
    if nat_eq k n then called work (calls_below work functions n) (slice_get functions k) xs s else calls_below work functions n k xs s

-- ---- a work-item

-- an argument as a value: a number of the launch file modulo 2^32, or the start of a buffer
abbrev pub value_of_arg : Arg → Value
value_of_arg (arg.Value z) = Num (word_of z)
value_of_arg (arg.Buffer k) = At k 0

abbrev pub opening : List (List ℕ) → (turns : ℕ) → State
opening buffers turns = record { vars = []; arrays = []; buffers = buffers; marks = []; left = turns }

abbrev pub item_end : (turns : ℕ) → Run Value → ItemEnd
item_end turns (Goes v s) = e.Ends (record { buffers = s.buffers; marks = s.marks; turns = turns - s.left })
item_end turns (Bounds at) = e.Bounds at
item_end turns Spent = e.Spent

-- one work-item of a launch of a kernel: its flat id, the buffers that it finds, and the turns that it is given
unfoldable pub item : List TFunction → (kernel : ℕ) → LaunchOf → (id : ℕ) (buffers : List (List ℕ)) (turns : ℕ) → ItemEnd
item functions kernel launch id buffers turns =
    item_end turns (calls_below (work_of launch.dims launch.global launch.local id) functions (suc kernel) kernel (map value_of_arg launch.args) (opening buffers turns))
