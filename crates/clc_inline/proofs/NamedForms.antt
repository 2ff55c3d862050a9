-- The test of each form as the tree has it.
use Rattle.std.proofs.Common.{◌≡◌, ℕ, Bool, true, false, List, Option, Some, None, refl, ap, ◌∙◌}
use Rattle.std.specs.Prelude.{◌&&◌, nat_lt}
use Rattle.clc_lexer.specs.declared.marks.Mark.{Mark}
use Rattle.q_lane.specs.declared.kinds.Scalar.{Scalar}
use Rattle.clc_types.specs.declared.typed.Builtin.{Builtin as BuiltinName}
use Rattle.clc_inline.specs.declared.body.TExpr.{TExpr}
use Rattle.clc_inline.specs.declared.body.TStmt.{TStmt, Row_of-TStmt, end_of-TStmt, more_of-TStmt}
use Rattle.clc_inline.specs.declared.body.TStmt.TheVariants as f
use Rattle.clc_inline.specs.declared.body.Node.{Row_of-TExpr, end_of-TExpr, more_of-TExpr, Row_of-Node-Chain-1-2, end_of-Node-Chain-1-2, more_of-Node-Chain-1-2}
use Rattle.clc_inline.specs.declared.body.Node.TheVariants as v
use Rattle.clc_inline.specs.declared.body.Node.TheBlock.{shape-the_row-TExpr-0, hidden-the_row-TExpr-0, hidden-the_row-Node-Chain-1-2-1, items-the_row-Node-Chain-1-2, items_hidden-the_row-Node-Chain-1-2-1, hidden-the_row-TExpr-2, items-the_row-TExpr, items_hidden-the_row-TExpr-2, shape-the_row-TStmt-3, hidden-the_row-TStmt-3, hidden-the_row-TStmt-4, items-the_row-TStmt, items_hidden-the_row-TStmt-4}
use denote.Hole.Carrier.{hidden}
use Rattle.clc_inline.specs.Named.{all_below, is_node, in_chain, in_args, is_statement, in_block, in_beginnings, is_beginning}
use Rattle.clc_inline.specs.NamedLists.{are_nodes, are_operands, are_statements, are_beginnings, if_some, if_other}

module _ (n : ℕ) where
  chain_items : {i : _} (r : Row_of-Node-Chain-1-2 i) → in_chain n r ≡ are_operands n (items-the_row-Node-Chain-1-2 i r)
  chain_items end_of-Node-Chain-1-2 = refl
  chain_items (more_of-Node-Chain-1-2 o at t e rest) = ap (λ b. is_node n e && b) (chain_items rest)

  chain_listed : (l : List (Mark × TExpr)) → in_chain n (hidden-the_row-Node-Chain-1-2-1 l) ≡ are_operands n l
  chain_listed l = chain_items (hidden-the_row-Node-Chain-1-2-1 l) ∙ ap (λ (z : List (Mark × TExpr)). are_operands n z) (items_hidden-the_row-Node-Chain-1-2-1 l)

  args_items : {i : _} (r : Row_of-TExpr i) → in_args n r ≡ are_nodes n (items-the_row-TExpr i r)
  args_items end_of-TExpr = refl
  args_items (more_of-TExpr at t e rest) = ap (λ b. is_node n e && b) (args_items rest)

  args_listed : (l : List TExpr) → in_args n (hidden-the_row-TExpr-2 l) ≡ are_nodes n l
  args_listed l = args_items (hidden-the_row-TExpr-2 l) ∙ ap (λ (z : List TExpr). are_nodes n z) (items_hidden-the_row-TExpr-2 l)

  block_items : {i : _} (looped : Bool) (r : Row_of-TStmt i) → in_block n looped r ≡ are_statements n looped (items-the_row-TStmt i r)
  block_items looped end_of-TStmt = refl
  block_items looped (more_of-TStmt a rest) = ap (λ b. is_statement n looped a && b) (block_items looped rest)

  begin_items : {i : _} (r : Row_of-TStmt i) → in_beginnings n r ≡ are_beginnings n (items-the_row-TStmt i r)
  begin_items end_of-TStmt = refl
  begin_items (more_of-TStmt a rest) = ap (λ b. is_beginning n a && b) (begin_items rest)

  begin_listed : (l : List TStmt) → in_beginnings n (hidden-the_row-TStmt-4 l) ≡ are_beginnings n l
  begin_listed l = begin_items (hidden-the_row-TStmt-4 l) ∙ ap (λ (z : List TStmt). are_beginnings n z) (items_hidden-the_row-TStmt-4 l)

  -- the same tree
  pub at_node : (e a : TExpr) → e ≡ a → is_node n e.node ≡ is_node n a.node
  at_node e a h = ap (λ (z : TExpr). is_node n z.node) h

  pub named_index : (a b : TExpr) → is_node n (v.Index a b) ≡ (is_node n a.node && is_node n b.node)
  unfolding shape-the_row-TExpr-0 hidden-the_row-TExpr-0 hidden
  named_index a b = refl

  pub named_element : (u : ℕ) (a : TExpr) → is_node n (v.Element u a) ≡ (nat_lt u n && is_node n a.node)
  unfolding shape-the_row-TExpr-0 hidden-the_row-TExpr-0 hidden
  named_element u a = refl

  pub named_deref : (a : TExpr) → is_node n (v.Deref a) ≡ is_node n a.node
  unfolding shape-the_row-TExpr-0 hidden-the_row-TExpr-0 hidden
  named_deref a = refl

  pub named_prefix : (o : Mark) (a : TExpr) → is_node n (v.Prefix o a) ≡ is_node n a.node
  unfolding shape-the_row-TExpr-0 hidden-the_row-TExpr-0 hidden
  named_prefix o a = refl

  pub named_step : (a : TExpr) (up post : Bool) → is_node n (v.Step a up post) ≡ is_node n a.node
  unfolding shape-the_row-TExpr-0 hidden-the_row-TExpr-0 hidden
  named_step a up post = refl

  pub named_cast : (a : TExpr) → is_node n (v.Cast a) ≡ is_node n a.node
  unfolding shape-the_row-TExpr-0 hidden-the_row-TExpr-0 hidden
  named_cast a = refl

  pub named_paren : (a : TExpr) → is_node n (v.Paren a) ≡ is_node n a.node
  unfolding shape-the_row-TExpr-0 hidden-the_row-TExpr-0 hidden
  named_paren a = refl

  pub named_chain : (a : TExpr) (l : List (Mark × TExpr)) → is_node n (v.Chain a l) ≡ (is_node n a.node && are_operands n l)
  unfolding shape-the_row-TExpr-0 hidden-the_row-TExpr-0 hidden
  named_chain a l = ap (λ b. is_node n a.node && b) (chain_listed l)

  pub named_cond : (a b c : TExpr) → is_node n (v.Cond a b c) ≡ (is_node n a.node && (is_node n b.node && is_node n c.node))
  unfolding shape-the_row-TExpr-0 hidden-the_row-TExpr-0 hidden
  named_cond a b c = refl

  pub named_assign : (a : TExpr) (o : Mark) (b : TExpr) → is_node n (v.Assign a o b) ≡ (is_node n a.node && is_node n b.node)
  unfolding shape-the_row-TExpr-0 hidden-the_row-TExpr-0 hidden
  named_assign a o b = refl

  pub named_scope : (ps : List ℕ) (l : List TExpr) (r : Option Scalar) (a : TStmt) → is_node n (v.Scope ps l r a) ≡ (all_below n ps && (are_nodes n l && is_statement n false a))
  unfolding shape-the_row-TStmt-3 hidden-the_row-TStmt-3 hidden
  named_scope ps l r a = ap (λ b. all_below n ps && (b && is_statement n false a)) (args_listed l)

  pub named_builtin : (b : BuiltinName) (s : Scalar) (l : List TExpr) → is_node n (v.Builtin b s l) ≡ are_nodes n l
  named_builtin b s l = args_listed l

  pub named_block : (looped : Bool) (l : List TStmt) → is_statement n looped (f.Block l) ≡ are_statements n looped l
  named_block looped l = block_items looped (hidden-the_row-TStmt-4 l) ∙ ap (λ (z : List TStmt). are_statements n looped z) (items_hidden-the_row-TStmt-4 l)

  pub named_declare : (looped : Bool) (u : ℕ) (x : Option TExpr) → is_statement n looped (f.Declare u x) ≡ (nat_lt u n && if_some n x)
  named_declare looped u None = refl
  named_declare looped u (Some e) = refl

  pub named_if : (looped : Bool) (e : TExpr) (a : TStmt) (o : Option TStmt) → is_statement n looped (f.If e a o) ≡ (is_node n e.node && (is_statement n looped a && if_other n looped o))
  unfolding shape-the_row-TStmt-3 hidden-the_row-TStmt-3 hidden
  named_if looped e a None = refl
  named_if looped e a (Some b) = refl

  pub named_while : (looped : Bool) (e : TExpr) (a : TStmt) → is_statement n looped (f.While e a) ≡ (is_node n e.node && is_statement n true a)
  unfolding shape-the_row-TStmt-3 hidden-the_row-TStmt-3 hidden
  named_while looped e a = refl

  pub named_do : (looped : Bool) (a : TStmt) (e : TExpr) → is_statement n looped (f.Do a e) ≡ (is_node n e.node && is_statement n true a)
  unfolding shape-the_row-TStmt-3 hidden-the_row-TStmt-3 hidden
  named_do looped a e = refl

  for_named : (looped : Bool) (l : List TStmt) (x y : Option TExpr) (a : TStmt)
      → is_statement n looped (f.For l x y a) ≡ (in_beginnings n (hidden-the_row-TStmt-4 l) && (if_some n x && (if_some n y && is_statement n true a)))
  unfolding shape-the_row-TStmt-3 hidden-the_row-TStmt-3 hidden
  for_named looped l None None a = refl
  for_named looped l None (Some y) a = refl
  for_named looped l (Some x) None a = refl
  for_named looped l (Some x) (Some y) a = refl

  pub named_for : (looped : Bool) (l : List TStmt) (x y : Option TExpr) (a : TStmt)
      → is_statement n looped (f.For l x y a) ≡ (are_beginnings n l && (if_some n x && (if_some n y && is_statement n true a)))
  named_for looped l x y a = for_named looped l x y a ∙ ap (λ b. b && (if_some n x && (if_some n y && is_statement n true a))) (begin_listed l)

  pub named_return : (looped : Bool) (x : Option TExpr) → is_statement n looped (f.Return x) ≡ if_some n x
  named_return looped None = refl
  named_return looped (Some e) = refl

  pub first_declare : (u : ℕ) (x : Option TExpr) → is_beginning n (f.Declare u x) ≡ (nat_lt u n && if_some n x)
  first_declare u None = refl
  first_declare u (Some e) = refl
