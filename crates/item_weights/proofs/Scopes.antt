-- The code of built-in functions, of what is passed to a scope, and of declarations and ways back.
use Rattle.std.proofs.Common.{ℕ, ◌+◌, ◌*◌, ◌≤◌, List, [], ◌∷◌, ◌++◌, Option, Some, None, length, arith}
use Rattle.q_lane.specs.declared.kinds.Scalar.{Scalar}
use Rattle.q_functions.specs.declared.functions.WorkFunction.{WorkFunction}
use Rattle.clc_types.specs.declared.typed.Ty.TheVariants as ty
use Rattle.clc_types.specs.declared.typed.Var.{Var}
use Rattle.clc_types.specs.declared.typed.Var.TheVariants as var
use Rattle.item_meaning.specs.NodeMeanings.{Function, OfWork, OfNumbers}
use Rattle.item_meaning.specs.StatementMeanings.{var_at, type_of}
use Rattle.item_ir.specs.declared.form.Val.{Val}
use Rattle.item_ir.specs.declared.form.Stmt.TheVariants.{Leave}
use Rattle.ir_build.specs.Code.{Code, ArgsCode, Stmts, into, put_code, work_code, function_code, pass_code, cleared_code, given_code, back_by}
use Rattle.item_weights.proofs.Sums.{rows, rows_append}
use Rattle.item_weights.proofs.Marks.{Fits}
use Rattle.item_weights.proofs.Pieces.{Small, stored_fits}

-- statements of n nodes leave 9 of their rows over
abbrev pub Does : (n k : ℕ) → Stmts → Type 0
Does n k c = (rows c.stmts + 9 ≤ 15 * n) × (c.next ≤ k + rows c.stmts)

-- statements that stand in others leave none
abbrev pub Takes : (w k : ℕ) → Stmts → Type 0
Takes w k c = (rows c.stmts ≤ w) × (c.next ≤ k + rows c.stmts)

-- of arguments 14 are left over for each
abbrev pub Gives : (n k : ℕ) → ArgsCode → Type 0
Gives n k c = (rows c.stmts + 14 * length c.vals ≤ 15 * n) × (c.next ≤ k + rows c.stmts)

work_fits : (which : WorkFunction) (xs : List Val) (k : ℕ) → Fits 201 k (work_code which xs k)
work_fits which [] k = (omega arith, omega arith)
work_fits which (x ∷ xs) k = (omega arith, omega arith)

pub function_fits : (f : Function) (t : Scalar) (xs : List Val) (k : ℕ) → Fits 201 k (function_code f t xs k)
function_fits (OfWork which) t xs k = work_fits which xs k
function_fits (OfNumbers which) t xs k = (omega arith, omega arith)

pub pass_takes : (vars : List Var) (ps : List ℕ) (xs : List Val) (k : ℕ) → Takes (7 * length xs) k (pass_code vars ps xs k)
pass_takes vars [] xs k = (omega arith, omega arith)
pass_takes vars (p ∷ ps) [] k = (omega arith, omega arith)
pass_takes vars (p ∷ ps) (x ∷ xs) k =
    let c = put_code (type_of (var_at vars p)) (into p k).to x.0 k in
    let e = rows_append c.stmts (pass_code vars ps xs c.next).stmts in
    let a = stored_fits (type_of (var_at vars p)) p x.0 k in let a0 = a.0 in let a1 = a.1 in
    let b = pass_takes vars ps xs c.next in let b0 = b.0 in let b1 = b.1 in (omega (arith, e, a0, b0), omega (arith, e, a1, b1))

pub cleared_takes : (d : Var) (u k : ℕ) → Takes 6 k (cleared_code d u k)
cleared_takes (var.Value s) u k = (omega arith, omega arith)
cleared_takes (var.Pointer e c) u k = (omega arith, omega arith)
cleared_takes (var.Array e n) u k = (omega arith, omega arith)

given_takes : (r : Option Scalar) (u x k : ℕ) → Takes 7 k (given_code r u x k)
given_takes None u x k = (omega arith, omega arith)
given_takes (Some s) u x k = stored_fits (ty.Value s) u x k

pub back_does : (r : Option Scalar) (u n k : ℕ) (c : Code) → Small n k c → Does (1 + n) k (back_by r u c)
back_does r u n k c h =
    let g = given_code r u c.val c.next in
    let a = rows_append c.stmts (g.stmts ++ Leave ∷ []) in
    let b = rows_append g.stmts (Leave ∷ []) in
    let p = given_takes r u c.val c.next in let p0 = p.0 in let p1 = p.1 in
    let h0 = h.0 in let h1 = h.1 in (omega (arith, a, b, p0, h0), omega (arith, a, b, p1, h1))
