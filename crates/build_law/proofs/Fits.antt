-- What the code needs of a body: the variables that it names are below n. The test of a body says so.
use Rattle.std.proofs.Common.{◌≡◌, ℕ, ◌<◌, Bool, true, false, List, [], ◌∷◌, arith}
use Rattle.std.specs.Prelude.{◌&&◌, nat_lt}
use Rattle.std.proofs.lemmas.Bool.{and_parts}
use Rattle.std.proofs.lemmas.Bool.Decides.{nat_tests}
use Rattle.clc_inline.specs.declared.body.Node.{Node, Row_of-TExpr, end_of-TExpr, more_of-TExpr, Row_of-Node-Chain-1-2, end_of-Node-Chain-1-2, more_of-Node-Chain-1-2}
use Rattle.clc_inline.specs.declared.body.Node.TheVariants.{Number, Name, Index', Element', Deref', Prefix', Step', Cast', Paren', Chain', Cond', Assign', Scope', Builtin'}
use Rattle.clc_inline.specs.declared.body.TStmt.{TStmt, Row_of-TStmt, end_of-TStmt, more_of-TStmt, Held-TStmt-If-2, TStmt-If-2-None', TStmt-If-2-Some', Held-TStmt-Declare-1, TStmt-Declare-1-None', TStmt-Declare-1-Some'}
use Rattle.clc_inline.specs.declared.body.TStmt.TheVariants.{Block', Declare', Eval', Empty, If', While', Do', For', Break, Continue, Return'}
use Rattle.clc_inline.specs.Named.{all_below, is_node, in_box, in_chain, in_args, is_statement, if_there, in_block, in_body, in_else, in_beginnings, is_beginning}

abbrev pub AllBelow : ℕ → List ℕ → Type 0
AllBelow n [] = Unit {0}
AllBelow n (u ∷ us) = (u < n) × AllBelow n us

module _ (n : ℕ) where
  abbrev mutual
    pub Fits : Node → Type 0
    Fits (Number x) = Unit {0}
    Fits (Name u) = u < n
    Fits (Index' i base j index) = FitsBox base × FitsBox index
    Fits (Element' u i index) = FitsBox index
    Fits (Deref' i pointer) = FitsBox pointer
    Fits (Prefix' o i arg) = FitsBox arg
    Fits (Step' i place up post) = FitsBox place
    Fits (Cast' i arg) = FitsBox arg
    Fits (Paren' i arg) = FitsBox arg
    Fits (Chain' i first j rest) = FitsBox first × FitChain rest
    Fits (Cond' i cond j one' l other) = FitsBox cond × FitsBox one' × FitsBox other
    Fits (Assign' i place o j value) = FitsBox place × FitsBox value
    Fits (Scope' params i args result j body) = AllBelow n params × FitArgs args × FitBody body
    Fits (Builtin' which work i args) = FitArgs args

    pub FitsBox : {k : _} → Row_of-TExpr k → Type 0
    FitsBox end_of-TExpr = Unit {0}
    FitsBox (more_of-TExpr at t e rest) = Fits e

    pub FitArgs : {k : _} → Row_of-TExpr k → Type 0
    FitArgs end_of-TExpr = Unit {0}
    FitArgs (more_of-TExpr at t e rest) = Fits e × FitArgs rest

    pub FitChain : {k : _} → Row_of-Node-Chain-1-2 k → Type 0
    FitChain end_of-Node-Chain-1-2 = Unit {0}
    FitChain (more_of-Node-Chain-1-2 o at t e rest) = Fits e × FitChain rest

    pub Fit : TStmt → Type 0
    Fit (Block' k stmts) = FitAll stmts
    Fit (Declare' u init) = (u < n) × FitsIf init
    Fit (Eval' at t e) = Fits e
    Fit Empty = Unit {0}
    Fit (If' at t e i one' other) = Fits e × FitBody one' × FitElse other
    Fit (While' at t e i body) = Fits e × FitBody body
    Fit (Do' i body at t e) = FitBody body × Fits e
    Fit (For' k init cond step i body) = FitBegins init × FitsIf cond × FitsIf step × FitBody body
    Fit Break = Unit {0}
    Fit Continue = Unit {0}
    Fit (Return' e) = FitsIf e

    pub FitsIf : Held-TStmt-Declare-1 → Type 0
    FitsIf TStmt-Declare-1-None' = Unit {0}
    FitsIf (TStmt-Declare-1-Some' at t e) = Fits e

    pub FitAll : {k : _} → Row_of-TStmt k → Type 0
    FitAll end_of-TStmt = Unit {0}
    FitAll (more_of-TStmt a rest) = Fit a × FitAll rest

    pub FitBody : {k : _} → Row_of-TStmt k → Type 0
    FitBody end_of-TStmt = Unit {0}
    FitBody (more_of-TStmt a rest) = Fit a

    pub FitElse : Held-TStmt-If-2 → Type 0
    FitElse TStmt-If-2-None' = Unit {0}
    FitElse (TStmt-If-2-Some' i stmt) = FitBody stmt

    pub FitBegins : {k : _} → Row_of-TStmt k → Type 0
    FitBegins end_of-TStmt = Unit {0}
    FitBegins (more_of-TStmt a rest) = FitBegin a × FitBegins rest

    pub FitBegin : TStmt → Type 0
    FitBegin (Block' k stmts) = Unit {0}
    FitBegin (Declare' u init) = (u < n) × FitsIf init
    FitBegin (Eval' at t e) = Fits e
    FitBegin Empty = Unit {0}
    FitBegin (If' at t e i one' other) = Unit {0}
    FitBegin (While' at t e i body) = Unit {0}
    FitBegin (Do' i body at t e) = Unit {0}
    FitBegin (For' k init cond step i body) = Unit {0}
    FitBegin Break = Unit {0}
    FitBegin Continue = Unit {0}
    FitBegin (Return' e) = Unit {0}

first_of : (a b : Bool) → (a && b) ≡ true → a ≡ true
first_of a b h = (and_parts a b h).0

second_of : (a b : Bool) → (a && b) ≡ true → b ≡ true
second_of a b h = (and_parts a b h).1

below : (u n : ℕ) → nat_lt u n ≡ true → u < n
below u n h = grind (arith, nat_tests)

module _ (n : ℕ) where
  params_fit : (ps : List ℕ) → all_below n ps ≡ true → AllBelow n ps
  params_fit [] h = tt
  params_fit (p ∷ ps) h = (below p n (first_of (nat_lt p n) (all_below n ps) h), params_fit ps (second_of (nat_lt p n) (all_below n ps) h))

  mutual
    node_fits : (e : Node) → is_node n e ≡ true → Fits n e
    node_fits (Number x) h = tt
    node_fits (Name u) h = below u n h
    node_fits (Index' i base j index) h = (box_fits base (first_of (in_box n base) (in_box n index) h), box_fits index (second_of (in_box n base) (in_box n index) h))
    node_fits (Element' u i index) h = box_fits index (second_of (nat_lt u n) (in_box n index) h)
    node_fits (Deref' i pointer) h = box_fits pointer h
    node_fits (Prefix' o i arg) h = box_fits arg h
    node_fits (Step' i place up post) h = box_fits place h
    node_fits (Cast' i arg) h = box_fits arg h
    node_fits (Paren' i arg) h = box_fits arg h
    node_fits (Chain' i first j rest) h = (box_fits first (first_of (in_box n first) (in_chain n rest) h), chain_fits rest (second_of (in_box n first) (in_chain n rest) h))
    node_fits (Cond' i cond j one' l other) h =
        let r = second_of (in_box n cond) (in_box n one' && in_box n other) h in
        (box_fits cond (first_of (in_box n cond) (in_box n one' && in_box n other) h), box_fits one' (first_of (in_box n one') (in_box n other) r), box_fits other (second_of (in_box n one') (in_box n other) r))
    node_fits (Assign' i place o j value) h = (box_fits place (first_of (in_box n place) (in_box n value) h), box_fits value (second_of (in_box n place) (in_box n value) h))
    node_fits (Scope' params m args result i body) h =
        let r = second_of (all_below n params) (in_args n args && in_body n false body) h in
        (params_fit params (first_of (all_below n params) (in_args n args && in_body n false body) h), args_fit args (first_of (in_args n args) (in_body n false body) r), body_fits false body (second_of (in_args n args) (in_body n false body) r))
    node_fits (Builtin' which work m args) h = args_fit args h

    box_fits : {m : _} (e : Row_of-TExpr m) → in_box n e ≡ true → FitsBox n e
    box_fits end_of-TExpr h = tt
    box_fits (more_of-TExpr at t e rest) h = node_fits e h

    chain_fits : {m : _} (e : Row_of-Node-Chain-1-2 m) → in_chain n e ≡ true → FitChain n e
    chain_fits end_of-Node-Chain-1-2 h = tt
    chain_fits (more_of-Node-Chain-1-2 o at t e rest) h = (node_fits e (first_of (is_node n e) (in_chain n rest) h), chain_fits rest (second_of (is_node n e) (in_chain n rest) h))

    args_fit : {m : _} (e : Row_of-TExpr m) → in_args n e ≡ true → FitArgs n e
    args_fit end_of-TExpr h = tt
    args_fit (more_of-TExpr at t e rest) h = (node_fits e (first_of (is_node n e) (in_args n rest) h), args_fit rest (second_of (is_node n e) (in_args n rest) h))

    pub statement_fits : (looped : Bool) (a : TStmt) → is_statement n looped a ≡ true → Fit n a
    statement_fits looped (Block' m stmts) h = block_fits looped stmts h
    statement_fits looped (Declare' u init) h = (below u n (first_of (nat_lt u n) (if_there n init) h), there_fits init (second_of (nat_lt u n) (if_there n init) h))
    statement_fits looped (Eval' at t e) h = node_fits e h
    statement_fits looped Empty h = tt
    statement_fits looped (If' at t e i one' other) h =
        let r = second_of (is_node n e) (in_body n looped one' && in_else n looped other) h in
        (node_fits e (first_of (is_node n e) (in_body n looped one' && in_else n looped other) h), body_fits looped one' (first_of (in_body n looped one') (in_else n looped other) r), else_fits looped other (second_of (in_body n looped one') (in_else n looped other) r))
    statement_fits looped (While' at t e i body) h = (node_fits e (first_of (is_node n e) (in_body n true body) h), body_fits true body (second_of (is_node n e) (in_body n true body) h))
    statement_fits looped (Do' i body at t e) h = (body_fits true body (second_of (is_node n e) (in_body n true body) h), node_fits e (first_of (is_node n e) (in_body n true body) h))
    statement_fits looped (For' m init cond step i body) h =
        let r = second_of (in_beginnings n init) (if_there n cond && (if_there n step && in_body n true body)) h in
        let q = second_of (if_there n cond) (if_there n step && in_body n true body) r in (
          beginnings_fit init (first_of (in_beginnings n init) (if_there n cond && (if_there n step && in_body n true body)) h),
          there_fits cond (first_of (if_there n cond) (if_there n step && in_body n true body) r),
          there_fits step (first_of (if_there n step) (in_body n true body) q),
          body_fits true body (second_of (if_there n step) (in_body n true body) q),
        )
    statement_fits looped Break h = tt
    statement_fits looped Continue h = tt
    statement_fits looped (Return' e) h = there_fits e h

    there_fits : (e : Held-TStmt-Declare-1) → if_there n e ≡ true → FitsIf n e
    there_fits TStmt-Declare-1-None' h = tt
    there_fits (TStmt-Declare-1-Some' at t e) h = node_fits e h

    block_fits : {m : _} (looped : Bool) (r : Row_of-TStmt m) → in_block n looped r ≡ true → FitAll n r
    block_fits looped end_of-TStmt h = tt
    block_fits looped (more_of-TStmt a rest) h = (statement_fits looped a (first_of (is_statement n looped a) (in_block n looped rest) h), block_fits looped rest (second_of (is_statement n looped a) (in_block n looped rest) h))

    body_fits : {m : _} (looped : Bool) (r : Row_of-TStmt m) → in_body n looped r ≡ true → FitBody n r
    body_fits looped end_of-TStmt h = tt
    body_fits looped (more_of-TStmt a rest) h = statement_fits looped a h

    else_fits : (looped : Bool) (r : Held-TStmt-If-2) → in_else n looped r ≡ true → FitElse n r
    else_fits looped TStmt-If-2-None' h = tt
    else_fits looped (TStmt-If-2-Some' i a) h = body_fits looped a h

    beginnings_fit : {m : _} (r : Row_of-TStmt m) → in_beginnings n r ≡ true → FitBegins n r
    beginnings_fit end_of-TStmt h = tt
    beginnings_fit (more_of-TStmt a rest) h = (beginning_fits a (first_of (is_beginning n a) (in_beginnings n rest) h), beginnings_fit rest (second_of (is_beginning n a) (in_beginnings n rest) h))

    beginning_fits : (a : TStmt) → is_beginning n a ≡ true → FitBegin n a
    beginning_fits (Block' m stmts) h = tt
    beginning_fits (Declare' u init) h = (below u n (first_of (nat_lt u n) (if_there n init) h), there_fits init (second_of (nat_lt u n) (if_there n init) h))
    beginning_fits (Eval' at t e) h = node_fits e h
    beginning_fits Empty h = tt
    beginning_fits (If' at t e i one' other) h = tt
    beginning_fits (While' at t e i body) h = tt
    beginning_fits (Do' i body at t e) h = tt
    beginning_fits (For' m init cond step i body) h = tt
    beginning_fits Break h = tt
    beginning_fits Continue h = tt
    beginning_fits (Return' e) h = tt
