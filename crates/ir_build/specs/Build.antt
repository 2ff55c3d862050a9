-- The whole item form of a body.
use Rattle.std.specs.Prelude.{ℕ, zero, suc, ◌+◌, List, [], ◌∷◌, ◌++◌, None, length, map, take}
use Rattle.q_lane.specs.declared.kinds.Kind.{Kind}
use Rattle.q_lane.specs.declared.kinds.Kind.TheVariants as kind
use Rattle.clc_types.specs.declared.typed.Var.{Var}
use Rattle.clc_types.specs.declared.typed.Var.TheVariants as var
use Rattle.clc_inline.specs.declared.body.TStmt.{TStmt}
use Rattle.item_ir.specs.declared.form.Def.TheVariants as d
use Rattle.item_ir.specs.declared.form.Stmt.{Stmt}
use Rattle.item_ir.specs.declared.form.Stmt.TheVariants.{Let, Set}
use Rattle.ir_build.specs.Code.{v, Stmts, stmt_code}

-- so many parameters, from this one on, are stored in their variables
abbrev pub params_code : (count first k : ℕ) → List Stmt
params_code zero i k = []
params_code (suc c) i k = Let (v k) (d.Param i) ∷ Set i (v k) ∷ params_code c (suc i) (suc k)

-- the parameters, and then the body. Variable number `length vars` is the code's own: a kernel's `return` has no value
abbrev pub body_code : (vars : List Var) → (params : ℕ) → TStmt → Stmts
body_code vars params body =
    let n = length vars in
    let a = stmt_code vars (record { result = None; var = n }) body (suc n + params) in
    record { stmts = params_code params 0 (suc n) ++ a.stmts; next = a.next }

-- each variable has an array of its number, without elements where it is none
abbrev pub array_length : Var → ℕ
array_length (var.Value s) = 0
array_length (var.Pointer e c) = 0
array_length (var.Array e n) = n

-- no parameter is an array
abbrev pub kind_of : Var → Kind
kind_of (var.Value s) = kind.Value s
kind_of (var.Pointer e c) = kind.Pointer
kind_of (var.Array e n) = kind.Pointer

abbrev pub kinds_of : List Var → ℕ → List Kind
kinds_of vars params = map kind_of (take params vars)
