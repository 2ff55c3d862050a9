-- The weight of a whole item.
use Rattle.std.proofs.Common.{◌≡◌, ℕ, zero, suc, ◌+◌, ◌*◌, ◌≤◌, List, None, length, refl, ap, arith}
use Rattle.clc_types.specs.declared.typed.Var.{Var}
use Rattle.clc_inline.specs.declared.body.TStmt.{TStmt}
use Rattle.clc_inline.specs.declared.body.TStmt.TheVariants.{Block', Declare', Eval', Empty, If', While', Do', For', Break, Continue, Return'}
use Rattle.item_ir.specs.declared.form.Stmt.{Stmt}
use Rattle.ir_weights.specs.Weights.{Weight, weight_of_text}
use Rattle.ir_build.specs.Code.{stmt_code}
use Rattle.ir_build.specs.Build.{params_code, body_code}
use Rattle.item_weights.specs.Nodes.{count_stmt}
use Rattle.item_weights.specs.Law.{RowsAreFew, WeighsLittle, IsWithinLimit, numbers_of}
use Rattle.item_weights.proofs.Sums.{rows, rows_append, text_goes, texts_are_summed}
use Rattle.item_weights.proofs.Trees.{stmt_does}

params_rows : (count i k : ℕ) → rows (params_code count i k) ≡ 3 * count
params_rows zero i k = refl
params_rows (suc c) i k = let p = params_rows c (suc i) (suc k) in omega (arith, p)

-- the moves of the parameters
params_steps : (count i k : ℕ) → ((weight_of_text (params_code count i k)).steps ≡ 3009 * count) × ((weight_of_text (params_code count i k)).numbers ≡ 300 * count)
params_steps zero i k = (refl, refl)
params_steps (suc c) i k = let p = params_steps c (suc i) (suc k) in let p0 = p.0 in let p1 = p.1 in (omega (arith, p0), omega (arith, p1))

-- each statement is a node
pub one_at_least : (a : TStmt) → 1 ≤ count_stmt a
one_at_least (Block' n stmts) = omega arith
one_at_least (Declare' u init) = omega arith
one_at_least (Eval' at t e) = omega arith
one_at_least Empty = omega arith
one_at_least (If' at t e i one other) = omega arith
one_at_least (While' at t e i body) = omega arith
one_at_least (Do' i body at t e) = omega arith
one_at_least (For' n init cond step i body) = omega arith
one_at_least Break = omega arith
one_at_least Continue = omega arith
one_at_least (Return' e) = omega arith

module _ (vars : List Var) (params : ℕ) (body : TStmt) where
  abbrev text : List Stmt
  text = (body_code vars params body).stmts

  abbrev first : List Stmt
  first = params_code params 0 (suc (length vars))

  abbrev rest : List Stmt
  rest = (stmt_code vars (record { result = None; var = length vars }) body (suc (length vars) + params)).stmts

  rest_rows : rows rest + 9 ≤ 15 * count_stmt body
  rest_rows = (stmt_does vars body (record { result = None; var = length vars }) (suc (length vars) + params)).0

  next_is : (body_code vars params body).next ≤ numbers_of (length vars) params (count_stmt body)
  next_is = let q = stmt_does vars body (record { result = None; var = length vars }) (suc (length vars) + params) in let q0 = q.0 in let q1 = q.1 in omega (arith, q0, q1)

  text_rows : rows text ≤ 15 * count_stmt body + 3 * params
  text_rows = let e = rows_append first rest in let p = params_rows params 0 (suc (length vars)) in let q = rest_rows in omega (arith, e, p, q)

  text_words : (weight_of_text text).words ≤ 885 * count_stmt body + 177 * params
  text_words = let g = (text_goes text).0 in let r = text_rows in omega (arith, g, r)

  text_steps : (weight_of_text text).steps ≤ 133500000 * count_stmt body + 3009 * params
  text_steps =
      let e = ap (λ (w : Weight). w.steps) (texts_are_summed first rest) in
      let p = (params_steps params 0 (suc (length vars))).0 in let g = (text_goes rest).1 in let q = rest_rows in
      omega (arith, e, p, g, q)

  text_numbers : (weight_of_text text).numbers ≤ 60000 * count_stmt body + 300 * params
  text_numbers =
      let e = ap (λ (w : Weight). w.numbers) (texts_are_summed first rest) in
      let p = (params_steps params 0 (suc (length vars))).1 in let g = (text_goes rest).2 in let q = rest_rows in
      omega (arith, e, p, g, q)

pub rows_are_few : RowsAreFew
rows_are_few vars params body = text_rows vars params body

pub weighs_little : WeighsLittle
weighs_little vars params body =
    let a = text_words vars params body in let b = text_rows vars params body in let c = text_steps vars params body in let d = text_numbers vars params body in let n = next_is vars params body in
    (omega (arith, a), omega (arith, b), omega (arith, c), omega (arith, d, n))

pub is_within_limit : IsWithinLimit
is_within_limit vars params body few h =
    let a = text_words vars params body in let b = text_rows vars params body in let c = text_steps vars params body in let d = text_numbers vars params body in let n = next_is vars params body in
    let one = one_at_least body in
    (omega (arith, a, few), omega (arith, b, few), omega (arith, c, few, one), omega (arith, d, n, few, h, one))
