-- What is built of a body stays within 15 rows for each node, and takes no more numbers than it has rows.
use Rattle.std.proofs.Common.{ℕ, suc, ◌+◌, ◌*◌, ◌≤◌, List, [], ◌∷◌, ◌++◌, arith}
use Rattle.q_lane.specs.declared.operations.BinOp.TheVariants.{Add}
use Rattle.q_functions.specs.NumberFunctions.{bytes_of}
use Rattle.clc_types.specs.declared.typed.Ty.{Ty}
use Rattle.clc_types.specs.declared.typed.Var.{Var}
use Rattle.clc_inline.specs.declared.body.Node.{Node, Row_of-TExpr, end_of-TExpr, more_of-TExpr, Row_of-Node-Chain-1-2, end_of-Node-Chain-1-2, more_of-Node-Chain-1-2}
use Rattle.clc_inline.specs.declared.body.Node.TheVariants.{Number, Name, Index', Element', Deref', Prefix', Step', Cast', Paren', Chain', Cond', Assign', Scope', Builtin'}
use Rattle.clc_inline.specs.declared.body.TStmt.{TStmt, Row_of-TStmt, end_of-TStmt, more_of-TStmt, Held-TStmt-If-2, TStmt-If-2-None', TStmt-If-2-Some', Held-TStmt-Declare-1, TStmt-Declare-1-None', TStmt-Declare-1-Some'}
use Rattle.clc_inline.specs.declared.body.TStmt.TheVariants.{Block', Declare', Eval', Empty, If', While', Do', For', Break, Continue, Return'}
use Rattle.item_meaning.specs.Operators.{scalar_of, type_after}
use Rattle.item_meaning.specs.NodeMeanings.{function_of}
use Rattle.item_meaning.specs.StatementMeanings.{var_at, type_of}
use Rattle.item_ir.specs.declared.form.Def.TheVariants as d
use Rattle.item_ir.specs.declared.form.Stmt.TheVariants.{Let, Set, If, Loop, Scope}
use Rattle.ir_build.specs.Code.{v, Code, with_code, moved_code, prefix_code, converted_code, put_code, into, behind, cell, operator_code, function_code, pass_code, into_var, cleared_code, declare_code, type_in, code_of, code_in, chain_code, place_of, place_in, args_code, stmt_code, code_if, test_code, step_stmts, all_code, in_code, else_code, begin_code, begin_with_code}
use Rattle.item_weights.specs.Nodes.{count, count_box, count_args, count_chain, count_stmt, count_if, count_all, count_body, count_else, count_begin, count_first}
use Rattle.item_weights.proofs.Sums.{rows_append, rows-If, rows-Loop, rows-Scope}
use Rattle.item_weights.proofs.Marks.{Fits, some_weight, prefix_fits}
use Rattle.item_weights.proofs.Pieces.{Small, converted_fits, IsPlace, into_is, no_place_is, behind_is, cell_is, read_small, stored_fits, operator_fits, into_rows, conditional_small, assigned_small, step_small}
use Rattle.item_weights.proofs.Scopes.{Does, Takes, Gives, function_fits, pass_takes, cleared_takes, back_does}

mutual
  pub one_count : (e : Node) → 1 ≤ count e
  one_count (Number x) = omega arith
  one_count (Name u) = omega arith
  one_count (Index' i base j index) = omega arith
  one_count (Element' u i index) = omega arith
  one_count (Deref' i pointer) = omega arith
  one_count (Prefix' o i arg) = omega arith
  one_count (Step' i place up post) = omega arith
  one_count (Cast' i arg) = omega arith
  one_count (Paren' i arg) = one_box arg
  one_count (Chain' i first j rest) = let p = one_box first in omega (arith, p)
  one_count (Cond' i cond j one' l other) = omega arith
  one_count (Assign' i place o j value) = let p = some_weight o in omega (arith, p)
  one_count (Scope' params i args result j body) = omega arith
  one_count (Builtin' which work i args) = omega arith

  one_box : {n : _} (e : Row_of-TExpr n) → 1 ≤ count_box e
  one_box end_of-TExpr = omega arith
  one_box (more_of-TExpr at t e rest) = one_count e

module _ (vars : List Var) where
  -- an index into what a pointer points to
  abbrev indexed : {m n : _} → Ty → Row_of-TExpr m → Row_of-TExpr n → ℕ → Code
  indexed t base index k = with_code (code_in vars base k) (λ x l. with_code (code_in vars index l) (λ y n. moved_code Add (bytes_of (scalar_of t)) x y n))

  index_is : (t : Ty) (a b k : ℕ) (f g : ℕ → Code) → ((l : ℕ) → Small a l (f l)) → ((l : ℕ) → Small b l (g l))
      → IsPlace (1 + (a + b)) k (behind (with_code (f k) (λ x l. with_code (g l) (λ y n. moved_code Add (bytes_of (scalar_of t)) x y n))))
  index_is t a b k f g hf hg =
      let c = f k in
      let z = g c.next in
      let m = moved_code Add (bytes_of (scalar_of t)) c.val z.val z.next in
      let x = rows_append c.stmts (z.stmts ++ m.stmts) in
      let y = rows_append z.stmts m.stmts in
      let p = hf k in let p0 = p.0 in let p1 = p.1 in
      let q = hg c.next in let q0 = q.0 in let q1 = q.1 in
      behind_is (1 + (a + b)) k (with_code c (λ x l. with_code (g l) (λ y n. moved_code Add (bytes_of (scalar_of t)) x y n))) (omega (arith, x, y, p0, q0)) (omega (arith, x, y, p1, q1))

  element_is : (u a k : ℕ) (c : Code) → Small a k c → IsPlace (2 + a) k (cell u c)
  element_is u a k c p = let p0 = p.0 in cell_is (2 + a) k u c (omega (arith, p0)) p.1

  deref_is : (a k : ℕ) (c : Code) → Small a k c → IsPlace (1 + a) k (behind c)
  deref_is a k c p = let p0 = p.0 in behind_is (1 + a) k c (omega (arith, p0)) p.1

  mutual
    pub code_small : (t : Ty) (e : Node) (k : ℕ) → Small (count e) k (code_of vars t e k)
    code_small t (Number x) k = (omega arith, omega arith)
    code_small t (Name u) k = read_small 1 k t (into u k) (into_is 1 u k (omega arith))
    code_small t (Index' i base j index) k = read_small (1 + (count_box base + count_box index)) k t (behind (indexed t base index k)) (index_is t (count_box base) (count_box index) k (code_in vars base) (code_in vars index) (λ n. box_small base n) (λ n. box_small index n))
    code_small t (Element' u i index) k = read_small (2 + count_box index) k t (cell u (code_in vars index k)) (element_is u (count_box index) k (code_in vars index k) (box_small index k))
    code_small t (Deref' i pointer) k = read_small (1 + count_box pointer) k t (behind (code_in vars pointer k)) (deref_is (count_box pointer) k (code_in vars pointer k) (box_small pointer k))
    code_small t (Prefix' o i arg) k =
        let c = code_in vars arg k in
        let e = rows_append c.stmts (prefix_code o c.val c.next).stmts in
        let p = box_small arg k in let p0 = p.0 in let p1 = p.1 in
        let q = prefix_fits o c.val c.next in let q0 = q.0 in let q1 = q.1 in (omega (arith, e, p0, q0), omega (arith, e, p1, q1))
    code_small t (Step' i place up post) k = step_small (type_in place) up post (count_box place) k (place_in vars place k) (box_is place k)
    code_small t (Cast' i arg) k =
        let c = code_in vars arg k in
        let e = rows_append c.stmts (converted_code t c.val c.next).stmts in
        let p = box_small arg k in let p0 = p.0 in let p1 = p.1 in
        let q = converted_fits t c.val c.next in let q0 = q.0 in let q1 = q.1 in (omega (arith, e, p0, q0), omega (arith, e, p1, q1))
    code_small t (Paren' i arg) k = box_small arg k
    code_small t (Chain' i first j rest) k =
        let c = code_in vars first k in
        let e = rows_append c.stmts (chain_code vars (type_in first) c.val rest c.next).stmts in
        let p = box_small first k in let p0 = p.0 in let p1 = p.1 in
        let q = chain_fits rest (type_in first) c.val c.next in let q0 = q.0 in let q1 = q.1 in (omega (arith, e, p0, q0), omega (arith, e, p1, q1))
    code_small t (Cond' i cond j one' l other) k =
        conditional_small (count_box cond) (count_box one') (count_box other) k (code_in vars cond k) (code_in vars one') (code_in vars other) (box_small cond k) (λ n. box_small one' n) (λ n. box_small other n)
    code_small t (Assign' i place o j value) k =
        assigned_small (type_in place) o (type_in value) (count_box place) (count_box value) k (place_in vars place k) (code_in vars value) (box_is place k) (λ n. box_small value n)
    code_small t (Scope' params n args result i body) k =
        let a = args_code vars args k in
        let p = pass_code vars params a.vals a.next in
        let r = suc p.next in
        let b = in_code vars (record { result = result; var = r }) body (suc r) in
        let tail = Let (v p.next) (d.Const 0) ∷ Set r (v p.next) ∷ Scope b.stmts ∷ Let (v b.next) (d.Get r) ∷ [] in
        let e = rows_append a.stmts (p.stmts ++ tail) in
        let f = rows_append p.stmts tail in
        let g = rows-Scope b.stmts in
        let x = args_give args k in let x0 = x.0 in let x1 = x.1 in
        let y = pass_takes vars params a.vals a.next in let y0 = y.0 in let y1 = y.1 in
        let z = body_does body (record { result = result; var = r }) (suc r) in let z0 = z.0 in let z1 = z.1 in
        (omega (arith, e, f, g, x0, y0, z0), omega (arith, e, f, g, x1, y1, z1))
    code_small t (Builtin' which work n args) k =
        let a = args_code vars args k in
        let c = function_code (function_of which) work a.vals a.next in
        let e = rows_append a.stmts c.stmts in
        let p = args_give args k in let p0 = p.0 in let p1 = p.1 in
        let q = function_fits (function_of which) work a.vals a.next in let q0 = q.0 in let q1 = q.1 in (omega (arith, e, p0, q0), omega (arith, e, p1, q1))

    box_small : {n : _} (e : Row_of-TExpr n) (k : ℕ) → Small (count_box e) k (code_in vars e k)
    box_small end_of-TExpr k = (omega arith, omega arith)
    box_small (more_of-TExpr at t e rest) k = code_small t e k

    chain_fits : {n : _} (rest : Row_of-Node-Chain-1-2 n) (a : Ty) (x k : ℕ) → Fits (15 * count_chain rest) k (chain_code vars a x rest k)
    chain_fits end_of-Node-Chain-1-2 a x k = (omega arith, omega arith)
    chain_fits (more_of-Node-Chain-1-2 o at t e rest) a x k =
        let c = operator_code a o t x k (code_of vars t e) in
        let z = chain_code vars (type_after o a t) c.val rest c.next in
        let f = rows_append c.stmts z.stmts in
        let p = operator_fits a o t x k (count e) (code_of vars t e) (λ l. code_small t e l) in let p0 = p.0 in let p1 = p.1 in
        let q = chain_fits rest (type_after o a t) c.val c.next in let q0 = q.0 in let q1 = q.1 in (omega (arith, f, p0, q0), omega (arith, f, p1, q1))

    node_is : (t : Ty) (e : Node) (k : ℕ) → IsPlace (count e) k (place_of vars t e k)
    node_is t (Name u) k = into_is 1 u k (omega arith)
    node_is t (Index' i base j index) k = index_is t (count_box base) (count_box index) k (code_in vars base) (code_in vars index) (λ n. box_small base n) (λ n. box_small index n)
    node_is t (Element' u i index) k = element_is u (count_box index) k (code_in vars index k) (box_small index k)
    node_is t (Deref' i pointer) k = deref_is (count_box pointer) k (code_in vars pointer k) (box_small pointer k)
    node_is t (Paren' i arg) k = box_is arg k
    node_is t (Number x) k = no_place_is 1 k (one_count (Number x))
    node_is t (Prefix' o i arg) k = no_place_is (count (Prefix' o i arg)) k (one_count (Prefix' o i arg))
    node_is t (Step' i place up post) k = no_place_is (count (Step' i place up post)) k (one_count (Step' i place up post))
    node_is t (Cast' i arg) k = no_place_is (count (Cast' i arg)) k (one_count (Cast' i arg))
    node_is t (Chain' i first j rest) k = no_place_is (count (Chain' i first j rest)) k (one_count (Chain' i first j rest))
    node_is t (Cond' i cond j one' l other) k = no_place_is (count (Cond' i cond j one' l other)) k (one_count (Cond' i cond j one' l other))
    node_is t (Assign' i place o j value) k = no_place_is (count (Assign' i place o j value)) k (one_count (Assign' i place o j value))
    node_is t (Scope' params n args result i body) k = no_place_is (count (Scope' params n args result i body)) k (one_count (Scope' params n args result i body))
    node_is t (Builtin' which work n args) k = no_place_is (count (Builtin' which work n args)) k (one_count (Builtin' which work n args))

    box_is : {n : _} (e : Row_of-TExpr n) (k : ℕ) → IsPlace (count_box e) k (place_in vars e k)
    box_is end_of-TExpr k = no_place_is 1 k (omega arith)
    box_is (more_of-TExpr at t e rest) k = node_is t e k

    args_give : {n : _} (e : Row_of-TExpr n) (k : ℕ) → Gives (count_args e) k (args_code vars e k)
    args_give end_of-TExpr k = (omega arith, omega arith)
    args_give (more_of-TExpr at t e rest) k =
        let c = code_of vars t e k in
        let f = rows_append c.stmts (args_code vars rest c.next).stmts in
        let p = code_small t e k in let p0 = p.0 in let p1 = p.1 in
        let q = args_give rest c.next in let q0 = q.0 in let q1 = q.1 in (omega (arith, f, p0, q0), omega (arith, f, p1, q1))

    pub stmt_does : (a : TStmt) (back : _) (k : ℕ) → Does (count_stmt a) k (stmt_code vars back a k)
    stmt_does (Block' n stmts) back k = let p = list_takes stmts back k in let p0 = p.0 in (omega (arith, p0), p.1)
    stmt_does (Declare' u init) back k = declare_does u init k
    stmt_does (Eval' at t e) back k = let p = code_small t e k in let p0 = p.0 in (omega (arith, p0), p.1)
    stmt_does Empty back k = (omega arith, omega arith)
    stmt_does (If' at t e i one' other) back k =
        let c = code_of vars t e k in
        let a = in_code vars back one' c.next in
        let z = else_code vars back other a.next in
        let x = rows_append c.stmts (If (v c.val) a.stmts z.stmts ∷ []) in
        let y = rows-If (v c.val) a.stmts z.stmts in
        let p = code_small t e k in let p0 = p.0 in let p1 = p.1 in
        let q = body_does one' back c.next in let q0 = q.0 in let q1 = q.1 in
        let r = else_takes other back a.next in let r0 = r.0 in let r1 = r.1 in (omega (arith, x, y, p0, q0, r0), omega (arith, x, y, p1, q1, r1))
    stmt_does (While' at t e i body) back k =
        let c = code_of vars t e k in
        let a = in_code vars back body c.next in
        let y = rows-Loop c.stmts (v c.val) a.stmts [] in
        let p = code_small t e k in let p0 = p.0 in let p1 = p.1 in
        let q = body_does body back c.next in let q0 = q.0 in let q1 = q.1 in (omega (arith, y, p0, q0), omega (arith, y, p1, q1))
    stmt_does (Do' i body at t e) back k =
        let r = suc k in
        let h = suc r in
        let a = in_code vars back body (suc h) in
        let c = code_of vars t e a.next in
        let y = rows-Loop (Let (v h) (d.Get r) ∷ []) (v h) a.stmts (into_var r c) in
        let x = into_rows r c in
        let p = code_small t e a.next in let p0 = p.0 in let p1 = p.1 in
        let q = body_does body back (suc h) in let q0 = q.0 in let q1 = q.1 in (omega (arith, y, x, p0, q0), omega (arith, y, x, p1, q1))
    stmt_does (For' n init cond step i body) back k =
        let b = begin_code vars init k in
        let c = test_code vars cond b.next in
        let a = in_code vars back body c.next in
        let z = step_stmts vars step a.next in
        let x = rows_append b.stmts (Loop c.stmts (v c.val) a.stmts z.stmts ∷ []) in
        let y = rows-Loop c.stmts (v c.val) a.stmts z.stmts in
        let p = begin_takes init k in let p0 = p.0 in let p1 = p.1 in
        let q = test_fits cond b.next in let q0 = q.0 in let q1 = q.1 in
        let r = body_does body back c.next in let r0 = r.0 in let r1 = r.1 in
        let s = step_takes step a.next in let s0 = s.0 in let s1 = s.1 in (omega (arith, x, y, p0, q0, r0, s0), omega (arith, x, y, p1, q1, r1, s1))
    stmt_does Break back k = (omega arith, omega arith)
    stmt_does Continue back k = (omega arith, omega arith)
    stmt_does (Return' TStmt-Declare-1-None') back k = (omega arith, omega arith)
    stmt_does (Return' (TStmt-Declare-1-Some' at t e)) back k = back_does back.result back.var (count e) k (code_of vars t e k) (code_small t e k)

    declare_does : (u : ℕ) (init : Held-TStmt-Declare-1) (k : ℕ) → Does (1 + count_if init) k (declare_code (var_at vars u) u (code_if vars init) k)
    declare_does u TStmt-Declare-1-None' k =
        let c = cleared_code (var_at vars u) u k in
        let e = rows_append c.stmts [] in let p = cleared_takes (var_at vars u) u k in let p0 = p.0 in let p1 = p.1 in (omega (arith, e, p0), omega (arith, e, p1))
    declare_does u (TStmt-Declare-1-Some' at t e) k =
        let c = cleared_code (var_at vars u) u k in
        let x = code_of vars t e c.next in
        let z = put_code (type_of (var_at vars u)) (into u k).to x.val x.next in
        let f = rows_append c.stmts (x.stmts ++ z.stmts) in
        let g = rows_append x.stmts z.stmts in
        let p = cleared_takes (var_at vars u) u k in let p0 = p.0 in let p1 = p.1 in
        let q = code_small t e c.next in let q0 = q.0 in let q1 = q.1 in
        let r = stored_fits (type_of (var_at vars u)) u x.val x.next in let r0 = r.0 in let r1 = r.1 in
        (omega (arith, f, g, p0, q0, r0), omega (arith, f, g, p1, q1, r1))

    -- where there is no condition it is a constant
    test_fits : (e : Held-TStmt-Declare-1) (k : ℕ) → Fits (15 * count_if e + 1) k (test_code vars e k)
    test_fits TStmt-Declare-1-None' k = (omega arith, omega arith)
    test_fits (TStmt-Declare-1-Some' at t e) k = let p = code_small t e k in let p0 = p.0 in (omega (arith, p0), p.1)

    step_takes : (e : Held-TStmt-Declare-1) (k : ℕ) → Takes (15 * count_if e) k (step_stmts vars e k)
    step_takes TStmt-Declare-1-None' k = (omega arith, omega arith)
    step_takes (TStmt-Declare-1-Some' at t e) k = let p = code_small t e k in let p0 = p.0 in (omega (arith, p0), p.1)

    list_takes : {n : _} (r : Row_of-TStmt n) (back : _) (k : ℕ) → Takes (15 * count_all r) k (all_code vars back r k)
    list_takes end_of-TStmt back k = (omega arith, omega arith)
    list_takes (more_of-TStmt a rest) back k =
        let c = stmt_code vars back a k in
        let e = rows_append c.stmts (all_code vars back rest c.next).stmts in
        let p = stmt_does a back k in let p0 = p.0 in let p1 = p.1 in
        let q = list_takes rest back c.next in let q0 = q.0 in let q1 = q.1 in (omega (arith, e, p0, q0), omega (arith, e, p1, q1))

    body_does : {n : _} (r : Row_of-TStmt n) (back : _) (k : ℕ) → Does (count_body r) k (in_code vars back r k)
    body_does end_of-TStmt back k = (omega arith, omega arith)
    body_does (more_of-TStmt a rest) back k = stmt_does a back k

    else_takes : (r : Held-TStmt-If-2) (back : _) (k : ℕ) → Takes (15 * count_else r) k (else_code vars back r k)
    else_takes TStmt-If-2-None' back k = (omega arith, omega arith)
    else_takes (TStmt-If-2-Some' i stmt) back k = let p = body_does stmt back k in let p0 = p.0 in (omega (arith, p0), p.1)

    begin_takes : {n : _} (r : Row_of-TStmt n) (k : ℕ) → Takes (15 * count_begin r) k (begin_code vars r k)
    begin_takes end_of-TStmt k = (omega arith, omega arith)
    begin_takes (more_of-TStmt a rest) k =
        let c = begin_with_code vars a k in
        let e = rows_append c.stmts (begin_code vars rest c.next).stmts in
        let p = first_takes a k in let p0 = p.0 in let p1 = p.1 in
        let q = begin_takes rest c.next in let q0 = q.0 in let q1 = q.1 in (omega (arith, e, p0, q0), omega (arith, e, p1, q1))

    first_takes : (a : TStmt) (k : ℕ) → Takes (15 * count_first a) k (begin_with_code vars a k)
    first_takes (Eval' at t e) k = let p = code_small t e k in let p0 = p.0 in (omega (arith, p0), p.1)
    first_takes (Declare' u init) k = let p = declare_does u init k in let p0 = p.0 in (omega (arith, p0), p.1)
    first_takes (Block' n stmts) k = (omega arith, omega arith)
    first_takes Empty k = (omega arith, omega arith)
    first_takes (If' at t e i one' other) k = (omega arith, omega arith)
    first_takes (While' at t e i body) k = (omega arith, omega arith)
    first_takes (Do' i body at t e) k = (omega arith, omega arith)
    first_takes (For' n init cond step i body) k = (omega arith, omega arith)
    first_takes Break k = (omega arith, omega arith)
    first_takes Continue k = (omega arith, omega arith)
    first_takes (Return' e) k = (omega arith, omega arith)
