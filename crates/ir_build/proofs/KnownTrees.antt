-- The code of a body that names only what is there does so too.
use Rattle.std.proofs.Common.{◌≡◌, ℕ, zero, suc, ◌+◌, ◌≤◌, Bool, true, false, List, [], ◌∷◌, Some, None, length, refl, subst, arith}
use Rattle.std.specs.Prelude.{◌&&◌, ◌==◌, nat_lt, not}
use Rattle.std.proofs.lemmas.Bool.{false≢true, and_parts, or_left, lt-ltb, ltb-false, eq-eqb, not-true}
use Rattle.q_lane.specs.declared.operations.BinOp.TheVariants.{Add}
use Rattle.q_functions.specs.NumberFunctions.{bytes_of}
use Rattle.clc_types.specs.declared.typed.Ty.{Ty}
use Rattle.clc_types.specs.declared.typed.Var.{Var}
use Rattle.clc_inline.specs.declared.body.Node.{Node, Row_of-TExpr, end_of-TExpr, more_of-TExpr, Row_of-Node-Chain-1-2, end_of-Node-Chain-1-2, more_of-Node-Chain-1-2}
use Rattle.clc_inline.specs.declared.body.Node.TheVariants.{Number, Name, Index', Element', Deref', Prefix', Step', Cast', Paren', Chain', Cond', Assign', Scope', Builtin'}
use Rattle.clc_inline.specs.declared.body.TStmt.{TStmt, Row_of-TStmt, end_of-TStmt, more_of-TStmt, Held-TStmt-If-2, TStmt-If-2-None', TStmt-If-2-Some', Held-TStmt-Declare-1, TStmt-Declare-1-None', TStmt-Declare-1-Some'}
use Rattle.clc_inline.specs.declared.body.TStmt.TheVariants.{Block', Declare', Eval', Empty, If', While', Do', For', Break, Continue, Return'}
use Rattle.item_meaning.specs.Operators.{scalar_of, type_after}
use Rattle.item_meaning.specs.NodeMeanings.{function_of}
use Rattle.item_meaning.specs.StatementMeanings.{var_at, type_of}
use Rattle.item_ir.specs.Valid.{counted, Around, in_scope, in_loop, at_edge, Known, none_known, with_known, is_item}
use Rattle.item_ir.specs.declared.form.Def.TheVariants as d
use Rattle.item_ir.specs.declared.form.Stmt.TheVariants.{Let, Set, Break as Breaks, Continue as Goes_on}
use Rattle.ir_build.specs.declared.scopes.Back.{Back}
use Rattle.ir_build.specs.Code.{v, Code, Stmts, with_code, prefix_code, moved_code, converted_code, into, behind, cell, step_code, assigned_code, operator_code, function_code, scope_code, nothing, cleared_code, init_code, declare_code, loop_code, type_in, code_of, code_in, chain_code, place_of, place_in, args_code, stmt_code, code_if, test_code, step_stmts, return_code, all_code, in_code, else_code, begin_code, begin_with_code}
use Rattle.ir_build.specs.Build.{params_code, body_code}
use Rattle.clc_inline.specs.Named.{all_below, is_node, in_box, in_chain, in_args, is_statement, if_there, in_block, in_body, in_else, in_beginnings, is_beginning, is_named}
use Rattle.ir_build.proofs.Known.{Low, known_in, Bounds, Fine, fine_nil, fine_append, fine_let, fine_only, Good, good_none, good_with, good_after_place, good_after_args, fine_both}
use Rattle.ir_build.proofs.KnownPieces.{Makes, Finds, Lists, Does, DoesFrom, good_const, good_prefix, good_converted, good_read, finds_into, finds_behind, finds_cell, finds_none, makes_moved, good_step, good_assigned, good_operator, makes_conditional, lists_none, lists_more, good_function, good_scope, does_nothing, does_both, does_clear, does_init, does_back, does_leave, does_if, does_loop, does_do, fine_stored}

module _ (on : Bounds) (vars : List Var) where
  mutual
    makes_node : (t : Ty) (e : Node) → is_node on.n e ≡ true → Makes on (code_of vars t e)
    makes_node t (Number x) h r known k low = good_const on r known x k low h
    makes_node t (Name u) h r known k low = good_read on t (into u) (finds_into on u h) r known k low
    makes_node t (Index' i base j index) h r known k low =
        let p = and_parts (in_box on.n base) (in_box on.n index) h in
        let f : ℕ → Code = λ z. with_code (code_in vars base z) (λ x l. with_code (code_in vars index l) (λ y m. moved_code Add (bytes_of (scalar_of t)) x y m)) in
        good_read on t (λ z. behind (f z)) (finds_behind on f (makes_moved on Add (scalar_of t) (code_in vars base) (code_in vars index) (makes_box base p.0) (makes_box index p.1))) r known k low
    makes_node t (Element' u i index) h r known k low =
        let p = and_parts (nat_lt u on.n) (in_box on.n index) h in
        good_read on t (λ z. cell u (code_in vars index z)) (finds_cell on u (code_in vars index) p.0 (makes_box index p.1)) r known k low
    makes_node t (Deref' i pointer) h r known k low = good_read on t (λ z. behind (code_in vars pointer z)) (finds_behind on (code_in vars pointer) (makes_box pointer h)) r known k low
    makes_node t (Prefix' o i arg) h r known k low =
        let c : Code = code_in vars arg k in
        good_with on r known k c (prefix_code o) (makes_box arg h r known k low) (λ w lw kw ew. good_prefix on o r w c.val c.next lw ew)
    makes_node t (Step' i place up post) h r known k low =
        let p = place_in vars place k in
        good_after_place on r known k p (step_code (type_in place) up post) (finds_box place h r known k low) (λ w lw kw ew. good_step on (type_in place) up post p.to r w p.next lw ew)
    makes_node t (Cast' i arg) h r known k low =
        let c : Code = code_in vars arg k in
        good_with on r known k c (converted_code t) (makes_box arg h r known k low) (λ w lw kw ew. good_converted on t r w c.val c.next lw ew)
    makes_node t (Paren' i arg) h r known k low = makes_box arg h r known k low
    makes_node t (Chain' i first j rest) h r known k low =
        let p = and_parts (in_box on.n first) (in_chain on.n rest) h in
        let c : Code = code_in vars first k in
        good_with on r known k c (λ x l. chain_code vars (type_in first) x rest l) (makes_box first p.0 r known k low) (λ w lw kw ew. makes_chain (type_in first) rest p.1 r w c.val c.next lw ew)
    makes_node t (Cond' i cond j one' l other) h r known k low =
        let p = and_parts (in_box on.n cond) (in_box on.n one' && in_box on.n other) h in
        let q = and_parts (in_box on.n one') (in_box on.n other) p.1 in
        makes_conditional on (code_in vars cond) (code_in vars one') (code_in vars other) (makes_box cond p.0) (makes_box one' q.0) (makes_box other q.1) r known k low
    makes_node t (Assign' i place o j value) h r known k low =
        let p = and_parts (in_box on.n place) (in_box on.n value) h in
        let a = place_in vars place k in
        good_after_place on r known k a (assigned_code (type_in place) o (type_in value) (code_in vars value)) (finds_box place p.0 r known k low)
        (λ w lw kw ew. good_assigned on (type_in place) o (type_in value) (code_in vars value) (makes_box value p.1) a.to r w a.next lw ew)
    makes_node t (Scope' params m args result i body) h r known k low =
        let p = and_parts (all_below on.n params) (in_args on.n args && in_body on.n false body) h in
        let q = and_parts (in_args on.n args) (in_body on.n false body) p.1 in
        let a = args_code vars args k in
        good_after_args on r known k a (scope_code vars params result (λ back l. in_code vars back body l)) (lists_row args q.0 r known k low)
        (λ w lw kw ew. good_scope on vars params result (λ back l. in_code vars back body l) p.0
        (λ u known l lt low. does_body in_scope (record { result = result; var = u }) false refl (λ z. absurd (false≢true z)) body q.1 known l lt low) r w a.vals a.next lw ew)
    makes_node t (Builtin' which work m args) h r known k low =
        let a = args_code vars args k in
        good_after_args on r known k a (function_code (function_of which) work) (lists_row args h r known k low) (λ w lw kw ew. good_function on (function_of which) work r w a.vals a.next lw ew)

    makes_box : {m : _} (a : Row_of-TExpr m) → in_box on.n a ≡ true → Makes on (code_in vars a)
    makes_box end_of-TExpr h r known k low = absurd (false≢true h)
    makes_box (more_of-TExpr at t e rest) h r known k low = makes_node t e h r known k low

    makes_chain : {m : _} (a : Ty) (row : Row_of-Node-Chain-1-2 m) → in_chain on.n row ≡ true → (r : Around) (known : Known) (x k : ℕ) → Low k known → known x ≡ true
        → Good on r known k (chain_code vars a x row k)
    makes_chain a end_of-Node-Chain-1-2 h r known x k low g = good_none on r known x k low g
    makes_chain a (more_of-Node-Chain-1-2 o at t e rest) h r known x k low g =
        let p = and_parts (is_node on.n e) (in_chain on.n rest) h in
        let c : Code = operator_code a o t x k (code_of vars t e) in
        good_with on r known k c (λ y l. chain_code vars (type_after o a t) y rest l) (good_operator on a o t (code_of vars t e) (makes_node t e p.0) r known x k low g)
        (λ w lw kw ew. makes_chain (type_after o a t) rest p.1 r w c.val c.next lw ew)

    finds_node : (t : Ty) (e : Node) → is_node on.n e ≡ true → Finds on (place_of vars t e)
    finds_node t (Name u) h r known k low = finds_into on u h r known k low
    finds_node t (Index' i base j index) h r known k low =
        let p = and_parts (in_box on.n base) (in_box on.n index) h in
        let f : ℕ → Code = λ z. with_code (code_in vars base z) (λ x l. with_code (code_in vars index l) (λ y m. moved_code Add (bytes_of (scalar_of t)) x y m)) in
        finds_behind on f (makes_moved on Add (scalar_of t) (code_in vars base) (code_in vars index) (makes_box base p.0) (makes_box index p.1)) r known k low
    finds_node t (Element' u i index) h r known k low =
        let p = and_parts (nat_lt u on.n) (in_box on.n index) h in
        finds_cell on u (code_in vars index) p.0 (makes_box index p.1) r known k low
    finds_node t (Deref' i pointer) h r known k low = finds_behind on (code_in vars pointer) (makes_box pointer h) r known k low
    finds_node t (Paren' i arg) h r known k low = finds_box arg h r known k low
    finds_node t (Number x) h r known k low = finds_none on r known k low
    finds_node t (Prefix' o i arg) h r known k low = finds_none on r known k low
    finds_node t (Step' i place up post) h r known k low = finds_none on r known k low
    finds_node t (Cast' i arg) h r known k low = finds_none on r known k low
    finds_node t (Chain' i first j rest) h r known k low = finds_none on r known k low
    finds_node t (Cond' i cond j one' l other) h r known k low = finds_none on r known k low
    finds_node t (Assign' i place o j value) h r known k low = finds_none on r known k low
    finds_node t (Scope' params m args result i body) h r known k low = finds_none on r known k low
    finds_node t (Builtin' which work m args) h r known k low = finds_none on r known k low

    finds_box : {m : _} (a : Row_of-TExpr m) → in_box on.n a ≡ true → Finds on (place_in vars a)
    finds_box end_of-TExpr h r known k low = finds_none on r known k low
    finds_box (more_of-TExpr at t e rest) h r known k low = finds_node t e h r known k low

    lists_row : {m : _} (a : Row_of-TExpr m) → in_args on.n a ≡ true → Lists on (args_code vars a)
    lists_row end_of-TExpr h r known k low = lists_none on r known k low
    lists_row (more_of-TExpr at t e rest) h r known k low =
        let p = and_parts (is_node on.n e) (in_args on.n rest) h in
        lists_more on (code_of vars t e) (args_code vars rest) (makes_node t e p.0) (lists_row rest p.1) r known k low

    does_statement : (r : Around) (back : Back) (looped : Bool) → r.scope ≡ true → (looped ≡ true → r.loop ≡ true) → (a : TStmt) → is_statement on.n looped a ≡ true
        → DoesFrom on r back.var (stmt_code vars back a)
    does_statement r back looped hs hl (Block' m stmts) h known k lt low = does_block r back looped hs hl stmts h known k lt low
    does_statement r back looped hs hl (Declare' u init) h known k lt low =
        let p = and_parts (nat_lt u on.n) (if_there on.n init) h in
        does_declare r u init p.0 p.1 known k low
    does_statement r back looped hs hl (Eval' at t e) h known k lt low = (makes_node t e h r known k low).0
    does_statement r back looped hs hl Empty h known k lt low = does_nothing on r known k low
    does_statement r back looped hs hl (If' at t e i one' other) h known k lt low =
        let p = and_parts (is_node on.n e) (in_body on.n looped one' && in_else on.n looped other) h in
        let q = and_parts (in_body on.n looped one') (in_else on.n looped other) p.1 in
        does_if on r back.var (code_of vars t e) (in_code vars back one') (else_code vars back other) (makes_node t e p.0) (does_body r back looped hs hl one' q.0) (does_else r back looped hs hl other q.1) known k lt low
    does_statement r back looped hs hl (While' at t e i body) h known k lt low =
        let p = and_parts (is_node on.n e) (in_body on.n true body) h in
        does_loop on r back.var (code_of vars t e) (in_code vars back body) nothing (makes_node t e p.0) (does_body (in_loop r) back true hs (λ z. refl) body p.1) (does_nothing on at_edge) known k lt low
    does_statement r back looped hs hl (Do' i body at t e) h known k lt low =
        let p = and_parts (is_node on.n e) (in_body on.n true body) h in
        does_do on r back.var (in_code vars back body) (code_of vars t e) (does_body (in_loop r) back true hs (λ z. refl) body p.1) (makes_node t e p.0) known k lt low
    does_statement r back looped hs hl (For' m init cond step i body) h known k lt low =
        let p = and_parts (in_beginnings on.n init) (if_there on.n cond && (if_there on.n step && in_body on.n true body)) h in
        let q = and_parts (if_there on.n cond) (if_there on.n step && in_body on.n true body) p.1 in
        let s = and_parts (if_there on.n step) (in_body on.n true body) q.1 in
        let a : Stmts = begin_code vars init k in
        let first = does_beginnings r init p.0 known k low in
        let up = first.up in
        fine_both on r known k a (λ l. loop_code (test_code vars cond l) (in_code vars back body) (step_stmts vars step)) first (λ w lw kw.
        does_loop on r back.var (test_code vars cond) (in_code vars back body) (step_stmts vars step) (makes_test cond q.0) (does_body (in_loop r) back true hs (λ z. refl) body s.1) (does_step at_edge step s.0) w a.next (omega (arith, lt, up)) lw)
    does_statement r back looped hs hl Break h known k lt low = fine_only on r known k k Breaks (omega arith) low refl (λ q. hl h)
    does_statement r back looped hs hl Continue h known k lt low = fine_only on r known k k Goes_on (omega arith) low refl (λ q. hl h)
    does_statement r back looped hs hl (Return' e) h known k lt low = does_return r back hs e h known k lt low

    does_block : {m : _} (r : Around) (back : Back) (looped : Bool) → r.scope ≡ true → (looped ≡ true → r.loop ≡ true) → (a : Row_of-TStmt m) → in_block on.n looped a ≡ true
        → DoesFrom on r back.var (all_code vars back a)
    does_block r back looped hs hl end_of-TStmt h known k lt low = does_nothing on r known k low
    does_block r back looped hs hl (more_of-TStmt a rest) h known k lt low =
        let p = and_parts (is_statement on.n looped a) (in_block on.n looped rest) h in
        let c : Stmts = stmt_code vars back a k in
        let first = does_statement r back looped hs hl a p.0 known k lt low in
        let up = first.up in
        fine_both on r known k c (all_code vars back rest) first (λ w lw kw. does_block r back looped hs hl rest p.1 w c.next (omega (arith, lt, up)) lw)

    does_body : {m : _} (r : Around) (back : Back) (looped : Bool) → r.scope ≡ true → (looped ≡ true → r.loop ≡ true) → (a : Row_of-TStmt m) → in_body on.n looped a ≡ true
        → DoesFrom on r back.var (in_code vars back a)
    does_body r back looped hs hl end_of-TStmt h known k lt low = does_nothing on r known k low
    does_body r back looped hs hl (more_of-TStmt a rest) h known k lt low = does_statement r back looped hs hl a h known k lt low

    does_else : (r : Around) (back : Back) (looped : Bool) → r.scope ≡ true → (looped ≡ true → r.loop ≡ true) → (a : Held-TStmt-If-2) → in_else on.n looped a ≡ true
        → DoesFrom on r back.var (else_code vars back a)
    does_else r back looped hs hl TStmt-If-2-None' h known k lt low = does_nothing on r known k low
    does_else r back looped hs hl (TStmt-If-2-Some' i a) h known k lt low = does_body r back looped hs hl a h known k lt low

    does_beginnings : {m : _} (r : Around) (a : Row_of-TStmt m) → in_beginnings on.n a ≡ true → Does on r (begin_code vars a)
    does_beginnings r end_of-TStmt h known k low = does_nothing on r known k low
    does_beginnings r (more_of-TStmt a rest) h known k low =
        let p = and_parts (is_beginning on.n a) (in_beginnings on.n rest) h in
        does_both on r (begin_with_code vars a) (begin_code vars rest) (does_beginning r a p.0) (does_beginnings r rest p.1) known k low

    does_beginning : (r : Around) (a : TStmt) → is_beginning on.n a ≡ true → Does on r (begin_with_code vars a)
    does_beginning r (Eval' at t e) h known k low = (makes_node t e h r known k low).0
    does_beginning r (Declare' u init) h known k low =
        let p = and_parts (nat_lt u on.n) (if_there on.n init) h in
        does_declare r u init p.0 p.1 known k low
    does_beginning r (Block' m stmts) h known k low = does_nothing on r known k low
    does_beginning r Empty h known k low = does_nothing on r known k low
    does_beginning r (If' at t e i one' other) h known k low = does_nothing on r known k low
    does_beginning r (While' at t e i body) h known k low = does_nothing on r known k low
    does_beginning r (Do' i body at t e) h known k low = does_nothing on r known k low
    does_beginning r (For' m init cond step i body) h known k low = does_nothing on r known k low
    does_beginning r Break h known k low = does_nothing on r known k low
    does_beginning r Continue h known k low = does_nothing on r known k low
    does_beginning r (Return' e) h known k low = does_nothing on r known k low

    does_declare : (r : Around) (u : ℕ) (init : Held-TStmt-Declare-1) → nat_lt u on.n ≡ true → if_there on.n init ≡ true → Does on r (declare_code (var_at vars u) u (code_if vars init))
    does_declare r u TStmt-Declare-1-None' h g known k low =
        let a : Var = var_at vars u in
        does_both on r (cleared_code a u) (init_code (type_of a) u None) (does_clear on r a u h) (does_nothing on r) known k low
    does_declare r u (TStmt-Declare-1-Some' at t e) h g known k low =
        let a : Var = var_at vars u in
        does_both on r (cleared_code a u) (init_code (type_of a) u (Some (code_of vars t e))) (does_clear on r a u h) (does_init on r (type_of a) u (code_of vars t e) h (makes_node t e g)) known k low

    makes_test : (a : Held-TStmt-Declare-1) → if_there on.n a ≡ true → Makes on (test_code vars a)
    makes_test TStmt-Declare-1-None' h r known k low = good_const on r known 1 k low refl
    makes_test (TStmt-Declare-1-Some' at t e) h r known k low = makes_node t e h r known k low

    does_step : (r : Around) (a : Held-TStmt-Declare-1) → if_there on.n a ≡ true → Does on r (step_stmts vars a)
    does_step r TStmt-Declare-1-None' h known k low = does_nothing on r known k low
    does_step r (TStmt-Declare-1-Some' at t e) h known k low = (makes_node t e h r known k low).0

    does_return : (r : Around) (back : Back) → r.scope ≡ true → (a : Held-TStmt-Declare-1) → if_there on.n a ≡ true → DoesFrom on r back.var (return_code vars back a)
    does_return r back hs TStmt-Declare-1-None' h known k lt low = does_leave on r hs known k low
    does_return r back hs (TStmt-Declare-1-Some' at t e) h known k lt low = does_back on r back (code_of vars t e) hs (makes_node t e h) known k lt low

  -- parameters are stored in their variables
  fine_params : (r : Around) (c i k : ℕ) (known : Known) → i + c ≤ on.params → i + c ≤ on.n → Low k known → Fine on r known k (params_code c i k) (k + c)
  fine_params r zero i k known le all low = fine_nil on r known k (k + 0) (omega arith) low
  fine_params r (suc c) i k known le all low =
      let w : Known = with_known k known in
      let first = fine_let on r known k (d.Param i) low (λ q. lt-ltb i on.params (omega (arith, le))) in
      let stored = fine_stored on r w i k (suc k) (lt-ltb i on.n (omega (arith, all))) first.low (known_self k known) in
      let rest = fine_params r c (suc i) (suc k) w (omega (arith, le)) (omega (arith, all)) first.low in
      let e : suc k + c ≡ k + suc c = omega arith in
      subst (λ z. Fine on r known k (params_code (suc c) i k) z) e
      (fine_append on r known k (suc k) (suc k + c) (Let (v k) (d.Param i) ∷ []) (Set i (v k) ∷ params_code c (suc i) (suc k)) first
      (fine_append on r w (suc k) (suc k) (suc k + c) (Set i (v k) ∷ []) (params_code c (suc i) (suc k)) stored rest))
    where
      known_self : (x : ℕ) (y : Known) → with_known x y x ≡ true
      known_self x y = or_left (x == x) (y x) (eq-eqb x x refl)

  fine_body : (params : ℕ) (a : TStmt) → is_statement on.n false a ≡ true → params ≤ on.params → params ≤ on.n → on.n ≡ length vars
      → Fine on in_scope none_known (suc (length vars)) (body_code vars params a).stmts (body_code vars params a).next
  fine_body params a h le all e =
      let n : ℕ = length vars in
      let low : Low (suc n) none_known = λ j q. absurd (false≢true q) in
      let first = fine_params in_scope params 0 (suc n) none_known (omega (arith, le)) (omega (arith, all)) low in
      let up = first.up in
      let back : Back = record { result = None; var = n } in
      let c : Stmts = stmt_code vars back a (suc n + params) in
      fine_append on in_scope none_known (suc n) (suc n + params) c.next (params_code params 0 (suc n)) c.stmts first
      (does_statement in_scope back false refl (λ z. absurd (false≢true z)) a h (known_in none_known (params_code params 0 (suc n))) (suc n + params) (omega arith) first.low)

-- no more parameters than variables
pub few_params : (vars : List Var) (params : ℕ) (a : TStmt) → is_named vars params a ≡ true → params ≤ length vars
few_params vars params a h =
    let n : ℕ = length vars in
    ltb-false n params (not-true (nat_lt n params) (and_parts (not (nat_lt n params)) (is_statement n false a) h).0)

-- numbers that are given out one after the other
body_up : (vars : List Var) (params : ℕ) (a : TStmt) → is_named vars params a ≡ true → suc (length vars) ≤ (body_code vars params a).next
body_up vars params a h =
    let n : ℕ = length vars in
    let p = and_parts (not (nat_lt n params)) (is_statement n false a) h in
    let le : params ≤ n = few_params vars params a h in
    let on : Bounds = record { vals = n; arrays = n; params = n; n = n; all = omega arith; cells = omega arith } in
    (fine_body on vars params a p.1 le le refl).up

-- the code of a body that names only what is there
pub body_valid : (vars : List Var) (params : ℕ) (a : TStmt) (arrays kinds : ℕ) → is_named vars params a ≡ true → length vars ≤ arrays → params ≤ kinds
    → is_item (counted (body_code vars params a).next (body_code vars params a).next arrays kinds) (body_code vars params a).stmts ≡ true
body_valid vars params a arrays kinds h cells enough =
    let n : ℕ = length vars in
    let p = and_parts (not (nat_lt n params)) (is_statement n false a) h in
    let le : params ≤ n = few_params vars params a h in
    let up = body_up vars params a h in
    let on : Bounds = record { vals = (body_code vars params a).next; arrays = arrays; params = kinds; n = n; all = omega (arith, up); cells = cells } in
    (fine_body on vars params a p.1 enough le refl).valid (omega arith)
