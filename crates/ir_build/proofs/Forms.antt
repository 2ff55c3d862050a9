-- The code of each form as the tree has it.
use Rattle.std.proofs.Common.{◌≡◌, ℕ, List, Option, Some, None, refl, ap, ◌∙◌}
use Rattle.std.specs.Prelude.{Bool}
use Rattle.clc_lexer.specs.declared.marks.Mark.{Mark}
use Rattle.q_lane.specs.declared.kinds.Scalar.{Scalar}
use Rattle.clc_types.specs.declared.typed.Builtin.{Builtin as BuiltinName}
use Rattle.clc_types.specs.declared.typed.Ty.{Ty}
use Rattle.clc_types.specs.declared.typed.Var.{Var}
use Rattle.clc_inline.specs.declared.body.TExpr.{TExpr}
use Rattle.clc_inline.specs.declared.body.TStmt.{TStmt, Row_of-TStmt, end_of-TStmt, more_of-TStmt}
use Rattle.clc_inline.specs.declared.body.TStmt.TheVariants as f
use Rattle.clc_inline.specs.declared.body.Node.{Row_of-TExpr, end_of-TExpr, more_of-TExpr, Row_of-Node-Chain-1-2, end_of-Node-Chain-1-2, more_of-Node-Chain-1-2}
use Rattle.clc_inline.specs.declared.body.Node.TheVariants as n
use Rattle.clc_inline.specs.declared.body.Node.TheBlock.{shape-the_row-TExpr-0, hidden-the_row-TExpr-0, hidden-the_row-Node-Chain-1-2-1, items-the_row-Node-Chain-1-2, items_hidden-the_row-Node-Chain-1-2-1, hidden-the_row-TExpr-2, items-the_row-TExpr, items_hidden-the_row-TExpr-2, shape-the_row-TStmt-3, hidden-the_row-TStmt-3, hidden-the_row-TStmt-4, items-the_row-TStmt, items_hidden-the_row-TStmt-4}
use denote.Hole.Carrier.{hidden}
use Rattle.item_meaning.specs.Operators.{type_after}
use Rattle.item_meaning.specs.NodeMeanings.{function_of}
use Rattle.ir_build.specs.declared.scopes.Back.{Back}
use Rattle.ir_build.specs.Code.{with_code, behind, cell, prefix_code, converted_code, step_code, conditional_code, assigned_code, scope_code, after_place, after_args, function_code, operator_code, more_args, code_of, place_of, chain_code, args_code, stmt_code, all_code, begin_code, begin_with_code, both, if_code, loop_code, do_code, nothing}
use Rattle.ir_build.specs.Lists.{value_code, place_code, index_code, chain_list, args_list, test_of, step_of, all_list, begin_list, else_of}

module _ (vars : List Var) where
  -- ---- lists

  chain_items : {i : _} (a : Ty) (x : ℕ) (r : Row_of-Node-Chain-1-2 i) (k : ℕ) → chain_code vars a x r k ≡ chain_list vars a x (items-the_row-Node-Chain-1-2 i r) k
  chain_items a x end_of-Node-Chain-1-2 k = refl
  chain_items a x (more_of-Node-Chain-1-2 o at t e rest) k =
      λ j. with_code (operator_code a o t x k (code_of vars t e)) (λ y l. chain_items (type_after o a t) y rest l j)

  chain_listed : (a : Ty) (x : ℕ) (l : List (Mark × TExpr)) (k : ℕ) → chain_code vars a x (hidden-the_row-Node-Chain-1-2-1 l) k ≡ chain_list vars a x l k
  chain_listed a x l k = chain_items a x (hidden-the_row-Node-Chain-1-2-1 l) k ∙ ap (λ (z : List (Mark × TExpr)). chain_list vars a x z k) (items_hidden-the_row-Node-Chain-1-2-1 l)

  args_items : {i : _} (r : Row_of-TExpr i) (k : ℕ) → args_code vars r k ≡ args_list vars (items-the_row-TExpr i r) k
  args_items end_of-TExpr k = refl
  args_items (more_of-TExpr at t e rest) k = λ j. more_args (code_of vars t e k) (λ l. args_items rest l j)

  args_listed : (l : List TExpr) (k : ℕ) → args_code vars (hidden-the_row-TExpr-2 l) k ≡ args_list vars l k
  args_listed l k = args_items (hidden-the_row-TExpr-2 l) k ∙ ap (λ (z : List TExpr). args_list vars z k) (items_hidden-the_row-TExpr-2 l)

  all_items : {i : _} (back : Back) (r : Row_of-TStmt i) (k : ℕ) → all_code vars back r k ≡ all_list vars back (items-the_row-TStmt i r) k
  all_items back end_of-TStmt k = refl
  all_items back (more_of-TStmt a rest) k = λ j. both (stmt_code vars back a k) (λ l. all_items back rest l j)

  all_listed : (back : Back) (l : List TStmt) (k : ℕ) → all_code vars back (hidden-the_row-TStmt-4 l) k ≡ all_list vars back l k
  all_listed back l k = all_items back (hidden-the_row-TStmt-4 l) k ∙ ap (λ (z : List TStmt). all_list vars back z k) (items_hidden-the_row-TStmt-4 l)

  begin_items : {i : _} (r : Row_of-TStmt i) (k : ℕ) → begin_code vars r k ≡ begin_list vars (items-the_row-TStmt i r) k
  begin_items end_of-TStmt k = refl
  begin_items (more_of-TStmt a rest) k = λ j. both (begin_with_code vars a k) (λ l. begin_items rest l j)

  begin_listed : (l : List TStmt) (k : ℕ) → begin_code vars (hidden-the_row-TStmt-4 l) k ≡ begin_list vars l k
  begin_listed l k = begin_items (hidden-the_row-TStmt-4 l) k ∙ ap (λ (z : List TStmt). begin_list vars z k) (items_hidden-the_row-TStmt-4 l)

  -- ---- places

  pub place_index : (t : Ty) (a b : TExpr) (k : ℕ) → place_of vars t (n.Index a b) k ≡ index_code vars t a b k
  unfolding shape-the_row-TExpr-0 hidden-the_row-TExpr-0 hidden
  place_index t a b k = refl

  pub place_element : (t : Ty) (u : ℕ) (b : TExpr) (k : ℕ) → place_of vars t (n.Element u b) k ≡ cell u (value_code vars b k)
  unfolding shape-the_row-TExpr-0 hidden-the_row-TExpr-0 hidden
  place_element t u b k = refl

  pub place_deref : (t : Ty) (a : TExpr) (k : ℕ) → place_of vars t (n.Deref a) k ≡ behind (value_code vars a k)
  unfolding shape-the_row-TExpr-0 hidden-the_row-TExpr-0 hidden
  place_deref t a k = refl

  pub place_paren : (t : Ty) (a : TExpr) (k : ℕ) → place_of vars t (n.Paren a) k ≡ place_code vars a k
  unfolding shape-the_row-TExpr-0 hidden-the_row-TExpr-0 hidden
  place_paren t a k = refl

  -- ---- values

  pub code_prefix : (t : Ty) (o : Mark) (a : TExpr) (k : ℕ) → code_of vars t (n.Prefix o a) k ≡ with_code (value_code vars a k) (prefix_code o)
  unfolding shape-the_row-TExpr-0 hidden-the_row-TExpr-0 hidden
  code_prefix t o a k = refl

  pub code_step : (t : Ty) (a : TExpr) (up post : Bool) (k : ℕ) → code_of vars t (n.Step a up post) k ≡ after_place (place_code vars a k) (step_code a.ty up post)
  unfolding shape-the_row-TExpr-0 hidden-the_row-TExpr-0 hidden
  code_step t a up post k = refl

  pub code_cast : (t : Ty) (a : TExpr) (k : ℕ) → code_of vars t (n.Cast a) k ≡ with_code (value_code vars a k) (converted_code t)
  unfolding shape-the_row-TExpr-0 hidden-the_row-TExpr-0 hidden
  code_cast t a k = refl

  pub code_paren : (t : Ty) (a : TExpr) (k : ℕ) → code_of vars t (n.Paren a) k ≡ value_code vars a k
  unfolding shape-the_row-TExpr-0 hidden-the_row-TExpr-0 hidden
  code_paren t a k = refl

  pub code_chain : (t : Ty) (a : TExpr) (l : List (Mark × TExpr)) (k : ℕ) → code_of vars t (n.Chain a l) k ≡ with_code (value_code vars a k) (λ x m. chain_list vars a.ty x l m)
  unfolding shape-the_row-TExpr-0 hidden-the_row-TExpr-0 hidden
  code_chain t a l k = λ j. with_code (value_code vars a k) (λ x m. chain_listed a.ty x l m j)

  pub code_cond : (t : Ty) (a b c : TExpr) (k : ℕ) → code_of vars t (n.Cond a b c) k ≡ conditional_code (value_code vars a k) (value_code vars b) (value_code vars c)
  unfolding shape-the_row-TExpr-0 hidden-the_row-TExpr-0 hidden
  code_cond t a b c k = refl

  pub code_assign : (t : Ty) (a : TExpr) (o : Mark) (b : TExpr) (k : ℕ) → code_of vars t (n.Assign a o b) k ≡ after_place (place_code vars a k) (assigned_code a.ty o b.ty (value_code vars b))
  unfolding shape-the_row-TExpr-0 hidden-the_row-TExpr-0 hidden
  code_assign t a o b k = refl

  pub code_builtin : (t : Ty) (b : BuiltinName) (s : Scalar) (l : List TExpr) (k : ℕ) → code_of vars t (n.Builtin b s l) k ≡ after_args (args_list vars l k) (function_code (function_of b) s)
  code_builtin t b s l k = ap (λ c. after_args c (function_code (function_of b) s)) (args_listed l k)

  pub code_scope : (t : Ty) (ps : List ℕ) (l : List TExpr) (r : Option Scalar) (a : TStmt) (k : ℕ)
      → code_of vars t (n.Scope ps l r a) k ≡ after_args (args_list vars l k) (scope_code vars ps r (λ back m. stmt_code vars back a m))
  unfolding shape-the_row-TStmt-3 hidden-the_row-TStmt-3 hidden
  code_scope t ps l r a k = ap (λ c. after_args c (scope_code vars ps r (λ back m. stmt_code vars back a m))) (args_listed l k)

  -- ---- statements

  pub stmt_block : (back : Back) (l : List TStmt) (k : ℕ) → stmt_code vars back (f.Block l) k ≡ all_list vars back l k
  stmt_block back l k = all_listed back l k

  pub stmt_if : (back : Back) (e : TExpr) (a : TStmt) (o : Option TStmt) (k : ℕ) → stmt_code vars back (f.If e a o) k ≡ if_code (value_code vars e k) (stmt_code vars back a) (else_of vars back o)
  unfolding shape-the_row-TStmt-3 hidden-the_row-TStmt-3 hidden
  stmt_if back e a None k = refl
  stmt_if back e a (Some b) k = refl

  pub stmt_while : (back : Back) (e : TExpr) (a : TStmt) (k : ℕ) → stmt_code vars back (f.While e a) k ≡ loop_code (value_code vars e k) (stmt_code vars back a) nothing
  unfolding shape-the_row-TStmt-3 hidden-the_row-TStmt-3 hidden
  stmt_while back e a k = refl

  pub stmt_do : (back : Back) (a : TStmt) (e : TExpr) (k : ℕ) → stmt_code vars back (f.Do a e) k ≡ do_code (stmt_code vars back a) (value_code vars e) k
  unfolding shape-the_row-TStmt-3 hidden-the_row-TStmt-3 hidden
  stmt_do back a e k = refl

  for_code : (back : Back) (l : List TStmt) (x y : Option TExpr) (a : TStmt) (k : ℕ)
      → stmt_code vars back (f.For l x y a) k ≡ both (begin_code vars (hidden-the_row-TStmt-4 l) k) (λ m. loop_code (test_of vars x m) (stmt_code vars back a) (step_of vars y))
  unfolding shape-the_row-TStmt-3 hidden-the_row-TStmt-3 hidden
  for_code back l None None a k = refl
  for_code back l None (Some y) a k = refl
  for_code back l (Some x) None a k = refl
  for_code back l (Some x) (Some y) a k = refl

  pub stmt_for : (back : Back) (l : List TStmt) (x y : Option TExpr) (a : TStmt) (k : ℕ)
      → stmt_code vars back (f.For l x y a) k ≡ both (begin_list vars l k) (λ m. loop_code (test_of vars x m) (stmt_code vars back a) (step_of vars y))
  stmt_for back l x y a k = for_code back l x y a k ∙ ap (λ c. both c (λ m. loop_code (test_of vars x m) (stmt_code vars back a) (step_of vars y))) (begin_listed l k)
