-- The code of expressions and statements as they stand in lists and in options.
use Rattle.std.specs.Prelude.{ℕ, List, [], ◌∷◌, Option, Some, None}
use Rattle.clc_lexer.specs.declared.marks.Mark.{Mark}
use Rattle.clc_types.specs.declared.typed.Ty.{Ty}
use Rattle.clc_types.specs.declared.typed.Var.{Var}
use Rattle.clc_inline.specs.declared.body.TExpr.{TExpr}
use Rattle.clc_inline.specs.declared.body.TStmt.{TStmt}
use Rattle.q_lane.specs.declared.operations.BinOp.TheVariants.{Add}
use Rattle.q_functions.specs.NumberFunctions.{bytes_of}
use Rattle.item_meaning.specs.Operators.{scalar_of, type_after}
use Rattle.item_ir.specs.declared.form.Stmt.TheVariants.{Leave}
use Rattle.item_ir.specs.declared.form.Def.TheVariants as d
use Rattle.ir_build.specs.declared.scopes.Back.{Back}
use Rattle.ir_build.specs.Code.{Code, PlaceCode, ArgsCode, Stmts, one, none, with_code, moved_code, operator_code, no_args, more_args, behind, code_of, place_of, stmt_code, begin_with_code, nothing, both, only, effect, back_code}

module _ (vars : List Var) where
  abbrev pub value_code : TExpr → ℕ → Code
  value_code e k = code_of vars e.ty e.node k

  abbrev pub place_code : TExpr → ℕ → PlaceCode
  place_code e k = place_of vars e.ty e.node k

  abbrev pub index_code : Ty → TExpr → TExpr → ℕ → PlaceCode
  index_code t base index k =
      behind (with_code (value_code base k) (λ x l. with_code (value_code index l) (λ y n. moved_code Add (bytes_of (scalar_of t)) x y n)))

  -- the operators of a chain after the value x of type a
  abbrev pub chain_list : Ty → ℕ → List (Mark × TExpr) → ℕ → Code
  chain_list a x [] k = none x k
  chain_list a x (p ∷ rest) k = with_code (operator_code a p.0 p.1.ty x k (value_code p.1)) (λ y l. chain_list (type_after p.0 a p.1.ty) y rest l)

  abbrev pub args_list : List TExpr → ℕ → ArgsCode
  args_list [] k = no_args k
  args_list (e ∷ rest) k = more_args (value_code e k) (args_list rest)

  abbrev pub code_if : Option TExpr → Option (ℕ → Code)
  code_if None = None
  code_if (Some e) = Some (value_code e)

  abbrev pub test_of : Option TExpr → ℕ → Code
  test_of None k = one k (d.Const 1)
  test_of (Some e) k = value_code e k

  abbrev pub step_of : Option TExpr → ℕ → Stmts
  step_of None k = nothing k
  step_of (Some e) k = effect (value_code e k)

  abbrev pub return_of : Back → Option TExpr → ℕ → Stmts
  return_of back None k = only Leave k
  return_of back (Some e) k = back_code back (value_code e k)

  abbrev pub all_list : Back → List TStmt → ℕ → Stmts
  all_list back [] k = nothing k
  all_list back (a ∷ rest) k = both (stmt_code vars back a k) (all_list back rest)

  abbrev pub begin_list : List TStmt → ℕ → Stmts
  begin_list [] k = nothing k
  begin_list (a ∷ rest) k = both (begin_with_code vars a k) (begin_list rest)

  abbrev pub else_of : Back → Option TStmt → ℕ → Stmts
  else_of back None k = nothing k
  else_of back (Some a) k = stmt_code vars back a k
