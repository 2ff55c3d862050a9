-- Which bodies name only what is there: a number is a word, a variable is one of n, a box is full, and a way out of a loop stands in one.
use Rattle.std.specs.Prelude.{ℕ, ◌^◌, Bool, true, false, ◌&&◌, not, nat_lt, List, [], ◌∷◌, length}
use Rattle.clc_types.specs.declared.typed.Var.{Var}
use Rattle.clc_inline.specs.declared.body.Node.{Node, Row_of-TExpr, end_of-TExpr, more_of-TExpr, Row_of-Node-Chain-1-2, end_of-Node-Chain-1-2, more_of-Node-Chain-1-2}
use Rattle.clc_inline.specs.declared.body.Node.TheVariants.{Number, Name, Index', Element', Deref', Prefix', Step', Cast', Paren', Chain', Cond', Assign', Scope', Builtin'}
use Rattle.clc_inline.specs.declared.body.TStmt.{TStmt, Row_of-TStmt, end_of-TStmt, more_of-TStmt, Held-TStmt-If-2, TStmt-If-2-None', TStmt-If-2-Some', Held-TStmt-Declare-1, TStmt-Declare-1-None', TStmt-Declare-1-Some'}
use Rattle.clc_inline.specs.declared.body.TStmt.TheVariants.{Block', Declare', Eval', Empty, If', While', Do', For', Break, Continue, Return'}

module _ (n : ℕ) where
  abbrev pub all_below : List ℕ → Bool
  all_below [] = true
  all_below (p ∷ ps) = nat_lt p n && all_below ps

  abbrev mutual
    pub is_node : Node → Bool
    is_node (Number x) = nat_lt x (2 ^ 32)
    is_node (Name u) = nat_lt u n
    is_node (Index' i base j index) = in_box base && in_box index
    is_node (Element' u i index) = nat_lt u n && in_box index
    is_node (Deref' i pointer) = in_box pointer
    is_node (Prefix' o i arg) = in_box arg
    is_node (Step' i place up post) = in_box place
    is_node (Cast' i arg) = in_box arg
    is_node (Paren' i arg) = in_box arg
    is_node (Chain' i first j rest) = in_box first && in_chain rest
    is_node (Cond' i cond j one' l other) = in_box cond && (in_box one' && in_box other)
    is_node (Assign' i place o j value) = in_box place && in_box value
    is_node (Scope' params m args result i body) = all_below params && (in_args args && in_body false body)
    is_node (Builtin' which work m args) = in_args args

    pub in_box : {m : _} → Row_of-TExpr m → Bool
    in_box end_of-TExpr = false
    in_box (more_of-TExpr at t e rest) = is_node e

    pub in_chain : {m : _} → Row_of-Node-Chain-1-2 m → Bool
    in_chain end_of-Node-Chain-1-2 = true
    in_chain (more_of-Node-Chain-1-2 o at t e rest) = is_node e && in_chain rest

    pub in_args : {m : _} → Row_of-TExpr m → Bool
    in_args end_of-TExpr = true
    in_args (more_of-TExpr at t e rest) = is_node e && in_args rest

    -- in a loop or not
    pub is_statement : Bool → TStmt → Bool
    is_statement looped (Block' m stmts) = in_block looped stmts
    is_statement looped (Declare' u init) = nat_lt u n && if_there init
    is_statement looped (Eval' at t e) = is_node e
    is_statement looped Empty = true
    is_statement looped (If' at t e i one' other) = is_node e && (in_body looped one' && in_else looped other)
    is_statement looped (While' at t e i body) = is_node e && in_body true body
    is_statement looped (Do' i body at t e) = is_node e && in_body true body
    is_statement looped (For' m init cond step i body) = in_beginnings init && (if_there cond && (if_there step && in_body true body))
    is_statement looped Break = looped
    is_statement looped Continue = looped
    is_statement looped (Return' e) = if_there e

    pub if_there : Held-TStmt-Declare-1 → Bool
    if_there TStmt-Declare-1-None' = true
    if_there (TStmt-Declare-1-Some' at t e) = is_node e

    pub in_block : {m : _} → Bool → Row_of-TStmt m → Bool
    in_block looped end_of-TStmt = true
    in_block looped (more_of-TStmt a rest) = is_statement looped a && in_block looped rest

    pub in_body : {m : _} → Bool → Row_of-TStmt m → Bool
    in_body looped end_of-TStmt = true
    in_body looped (more_of-TStmt a rest) = is_statement looped a

    pub in_else : Bool → Held-TStmt-If-2 → Bool
    in_else looped TStmt-If-2-None' = true
    in_else looped (TStmt-If-2-Some' i a) = in_body looped a

    pub in_beginnings : {m : _} → Row_of-TStmt m → Bool
    in_beginnings end_of-TStmt = true
    in_beginnings (more_of-TStmt a rest) = is_beginning a && in_beginnings rest

    pub is_beginning : TStmt → Bool
    is_beginning (Eval' at t e) = is_node e
    is_beginning (Declare' u init) = nat_lt u n && if_there init
    is_beginning _ = true

-- a whole body, with so many parameters
abbrev pub is_named : (vars : List Var) → (params : ℕ) → TStmt → Bool
is_named vars params body = not (nat_lt (length vars) params) && is_statement (length vars) false body
