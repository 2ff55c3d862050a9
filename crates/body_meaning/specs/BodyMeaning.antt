-- BodyMeaning: what a body without calls does for one work-item. Its forms mean what they mean in a typed program; a scope stands in place of a call.
use Rattle.std.specs.Prelude.{ℕ, suc, ◌-◌, List, [], ◌∷◌, ◌++◌, map, length, Option, Some, None, slice_set, replicate, take}
use Rattle.q_lane.specs.declared.kinds.Scalar.{Scalar}
use Rattle.q_functions.specs.WorkFunctions.{work_of}
use Rattle.q_functions.specs.declared.work.Work.{Work}
use Rattle.launch_file.specs.Launches.{LaunchOf}
use Rattle.clc_types.specs.declared.typed.Ty.{Ty}
use Rattle.clc_types.specs.declared.typed.Ty.TheVariants as ty
use Rattle.clc_types.specs.declared.typed.Var.{Var}
use Rattle.item_meaning.specs.declared.values.Value.{Value}
use Rattle.item_meaning.specs.declared.values.Value.TheVariants.{Null}
use Rattle.item_meaning.specs.ItemState.{State, Run, Goes, Spent, then_do}
use Rattle.item_meaning.specs.declared.values.Flow.{Flow}
use Rattle.item_meaning.specs.declared.values.Flow.TheVariants.{Next, Broke, Again}
use Rattle.launch_meaning.specs.declared.ends.ItemEnd.{ItemEnd}
use Rattle.q_functions.specs.NumberFunctions.{bytes_of}
use Rattle.item_meaning.specs.Operators.{scalar_of, type_after, converted}
use Rattle.item_meaning.specs.declared.values.Place.{Place}
use Rattle.item_meaning.specs.NodeMeanings.{Part, variable_place, index_place, cell_place, pointed_place, read_from, number_value, prefix_value, cast_value, step_value, assigned_value, conditional_value, operator_value, chain_value, builtin_value, no_values, and_values, call_value}
use Rattle.item_meaning.specs.StatementMeanings.{var_at, type_of, declare_flow, block_flow, no_flow, and_flow, dropped, eval_flow, leaf_flow, if_flow, while_flow, do_flow, always, for_flow, return_flow, call_end}
use Rattle.item_meaning.specs.ItemMeaning.{as_params, value_of_arg, item_end}
use Rattle.clc_inline.specs.declared.whole.Body.{Body}
use Rattle.clc_inline.specs.declared.body.Node.{Node, Row_of-TExpr, end_of-TExpr, more_of-TExpr, Row_of-Node-Chain-1-2, end_of-Node-Chain-1-2, more_of-Node-Chain-1-2}
use Rattle.clc_inline.specs.declared.body.Node.TheVariants.{Number, Name, Index', Element', Deref', Prefix', Step', Cast', Paren', Chain', Cond', Assign', Scope', Builtin'}
use Rattle.clc_inline.specs.declared.body.TStmt.{TStmt, Row_of-TStmt, end_of-TStmt, more_of-TStmt, Held-TStmt-If-2, TStmt-If-2-None', TStmt-If-2-Some', Held-TStmt-Declare-1, TStmt-Declare-1-None', TStmt-Declare-1-Some'}
use Rattle.clc_inline.specs.declared.body.TStmt.TheVariants.{Block', Declare', Eval', Empty, If', While', Do', For', Break, Continue, Return'}

abbrev pub operators : {n : _} → Row_of-Node-Chain-1-2 n → ℕ
operators end_of-Node-Chain-1-2 = 0
operators (more_of-Node-Chain-1-2 o at t e rest) = suc (operators rest)

abbrev pub type_in : {n : _} → Row_of-TExpr n → Ty
type_in end_of-TExpr = ty.Void
type_in (more_of-TExpr at t e rest) = t

-- ---- scopes

abbrev mutual
  -- the variables that a statement declares, those of scopes in its expressions left out
  pub declared_in : TStmt → List ℕ
  declared_in (Block' n stmts) = declared_all stmts
  declared_in (Declare' v init) = v ∷ []
  declared_in (Eval' at t e) = []
  declared_in Empty = []
  declared_in (If' at t e y one other) = declared_all one ++ declared_else other
  declared_in (While' at t e b body) = declared_all body
  declared_in (Do' b body at t e) = declared_all body
  declared_in (For' n init cond step b body) = declared_all init ++ declared_all body
  declared_in Break = []
  declared_in Continue = []
  declared_in (Return' e) = []

  pub declared_all : {n : _} → Row_of-TStmt n → List ℕ
  declared_all end_of-TStmt = []
  declared_all (more_of-TStmt a rest) = declared_in a ++ declared_all rest

  pub declared_else : Held-TStmt-If-2 → List ℕ
  declared_else TStmt-If-2-None' = []
  declared_else (TStmt-If-2-Some' b stmt) = declared_all stmt

-- these variables hold nothing, until they are declared again
abbrev pub emptied : List ℕ → State → State
emptied [] s = s
emptied (v ∷ vs) s = emptied vs (record s { vars = slice_set s.vars v Null; arrays = slice_set s.arrays v [] })

-- the arguments are converted to the types of the parameters, and stored there
abbrev pub passed : List Var → List ℕ → List Value → State → State
passed vars [] xs s = s
passed vars (p ∷ ps) [] s = s
passed vars (p ∷ ps) (x ∷ xs) s = passed vars ps xs (record s { vars = slice_set s.vars p (converted (type_of (var_at vars p)) x) })

-- a scope begins with its own variables empty, as a called function's frame does
abbrev pub scope_value : List Var → List ℕ → Option Scalar → List ℕ → Part (List Value) → Part Flow → Part Value
scope_value vars params result own args body s =
    call_value args (λ xs t. then_do (body (passed vars params xs (emptied own t))) (call_end result)) s

module _ (work : Work) (vars : List Var) where
  abbrev mutual
    pub value_of : (at : ℕ) (t : Ty) → Node → Part Value
    value_of at t (Number w) s = number_value w s
    value_of at t (Name v) s = read_from t (variable_place v) s
    value_of at t (Index' b base i index) s = read_from t (index_place at (bytes_of (scalar_of t)) (value_in base) (value_in index)) s
    value_of at t (Element' v i index) s = read_from t (cell_place at v (value_in index)) s
    value_of at t (Deref' p pointer) s = read_from t (pointed_place at (value_in pointer)) s
    value_of at t (Prefix' o a arg) s = prefix_value o (value_in arg) s
    value_of at t (Step' p place up post) s = step_value (type_in place) up post (place_in place) s
    value_of at t (Cast' a arg) s = cast_value t (value_in arg) s
    value_of at t (Paren' a arg) s = value_in arg s
    value_of at t (Chain' f first r rest) s = chain_value (operators rest) (value_in first) (chained (type_in first) rest) s
    value_of at t (Cond' c cond a one b other) s = conditional_value (value_in cond) (value_in one) (value_in other) s
    value_of at t (Assign' p place o v value) s = assigned_value (type_in place) o (type_in value) (place_in place) (value_in value) s
    value_of at t (Scope' params n args result b body) s = scope_value vars params result (declared_all body) (values_of args) (does_in body) s
    value_of at t (Builtin' which in_type n args) s = builtin_value work which in_type (values_of args) s

    pub value_in : {n : _} → Row_of-TExpr n → Part Value
    value_in end_of-TExpr s = Spent
    value_in (more_of-TExpr at t e rest) s = value_of at t e s

    pub chained : {n : _} → Ty → Row_of-Node-Chain-1-2 n → Value → Part Value
    chained a end_of-Node-Chain-1-2 x s = Goes x s
    chained a (more_of-Node-Chain-1-2 o at t e rest) x s =
        then_do (operator_value a o t x (value_of at t e) s) (chained (type_after o a t) rest)

    pub place_of : (at : ℕ) (t : Ty) → Node → Part Place
    place_of at t (Name v) s = variable_place v s
    place_of at t (Index' b base i index) s = index_place at (bytes_of (scalar_of t)) (value_in base) (value_in index) s
    place_of at t (Element' v i index) s = cell_place at v (value_in index) s
    place_of at t (Deref' p pointer) s = pointed_place at (value_in pointer) s
    place_of at t (Paren' a arg) s = place_in arg s
    place_of at t _ s = Spent

    pub place_in : {n : _} → Row_of-TExpr n → Part Place
    place_in end_of-TExpr s = Spent
    place_in (more_of-TExpr at t e rest) s = place_of at t e s

    pub values_of : {n : _} → Row_of-TExpr n → Part (List Value)
    values_of end_of-TExpr s = no_values s
    values_of (more_of-TExpr at t e rest) s = and_values (value_of at t e) (values_of rest) s

    pub does : TStmt → Part Flow
    does (Block' n stmts) s = block_flow (does_all stmts) s
    does (Declare' v init) s = declare_flow (var_at vars v) v (value_if init) s
    does (Eval' at t e) s = eval_flow (value_of at t e) s
    does Empty s = leaf_flow Next s
    does (If' at t e y one other) s = if_flow (value_of at t e) (does_in one) (does_else other) s
    does (While' at t e b body) s = while_flow (value_of at t e) (does_in body) s
    does (Do' b body at t e) s = do_flow (does_in body) (value_of at t e) s
    does (For' n init cond step b body) s = for_flow (begins init) (test_of cond) (step_of step) (does_in body) s
    does Break s = leaf_flow Broke s
    does Continue s = leaf_flow Again s
    does (Return' e) s = return_flow (value_if e) s

    pub value_if : Held-TStmt-Declare-1 → Option (Part Value)
    value_if TStmt-Declare-1-None' = None
    value_if (TStmt-Declare-1-Some' at t e) = Some (value_of at t e)

    pub test_of : Held-TStmt-Declare-1 → Part Value
    test_of TStmt-Declare-1-None' s = always s
    test_of (TStmt-Declare-1-Some' at t e) s = value_of at t e s

    pub step_of : Held-TStmt-Declare-1 → Part Flow
    step_of TStmt-Declare-1-None' s = no_flow s
    step_of (TStmt-Declare-1-Some' at t e) s = dropped (value_of at t e) s

    pub does_all : {n : _} → Row_of-TStmt n → Part Flow
    does_all end_of-TStmt s = no_flow s
    does_all (more_of-TStmt a rest) s = and_flow (does a) (does_all rest) s

    pub does_in : {n : _} → Row_of-TStmt n → Part Flow
    does_in end_of-TStmt s = Spent
    does_in (more_of-TStmt a rest) s = does a s

    pub does_else : Held-TStmt-If-2 → Part Flow
    does_else TStmt-If-2-None' s = no_flow s
    does_else (TStmt-If-2-Some' b stmt) s = does_in stmt s

    pub begins : {n : _} → Row_of-TStmt n → Part Flow
    begins end_of-TStmt s = no_flow s
    begins (more_of-TStmt a rest) s = and_flow (begin_with a) (begins rest) s

    pub begin_with : TStmt → Part Flow
    begin_with (Eval' at t e) s = dropped (value_of at t e) s
    begin_with (Declare' v init) s = declare_flow (var_at vars v) v (value_if init) s
    begin_with _ s = Spent

-- the body's variables where it begins
abbrev pub opening : Body → List Value → List (List ℕ) → (turns : ℕ) → State
opening body xs buffers turns =
    record {
      vars = as_params (take body.params body.vars.items) xs ++ replicate (length body.vars.items - body.params) Null;
      arrays = replicate (length body.vars.items) [];
      buffers = buffers;
      marks = [];
      left = turns;
    }

abbrev pub body_run : Body → Work → List Value → List (List ℕ) → (turns : ℕ) → Run Flow
body_run body work xs buffers turns = does work body.vars.items body.body (opening body xs buffers turns)

-- one work-item of a launch of the body
unfoldable pub item : Body → LaunchOf → (id : ℕ) (buffers : List (List ℕ)) (turns : ℕ) → ItemEnd
item body launch id buffers turns =
    item_end turns (then_do (body_run body (work_of launch.dims launch.global launch.local id) (map value_of_arg launch.args) buffers turns) (call_end None))
