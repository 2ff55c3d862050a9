-- The same test of what stands in lists and in options.
use Rattle.std.specs.Prelude.{ℕ, Bool, true, ◌&&◌, List, [], ◌∷◌, Option, Some, None}
use Rattle.clc_lexer.specs.declared.marks.Mark.{Mark}
use Rattle.clc_inline.specs.declared.body.TExpr.{TExpr}
use Rattle.clc_inline.specs.declared.body.TStmt.{TStmt}
use Rattle.clc_inline.specs.Named.{is_node, is_statement, is_beginning}

module _ (n : ℕ) where
  abbrev pub are_nodes : List TExpr → Bool
  are_nodes [] = true
  are_nodes (e ∷ rest) = is_node n e.node && are_nodes rest

  abbrev pub are_operands : List (Mark × TExpr) → Bool
  are_operands [] = true
  are_operands (p ∷ rest) = is_node n p.1.node && are_operands rest

  abbrev pub if_some : Option TExpr → Bool
  if_some None = true
  if_some (Some e) = is_node n e.node

  abbrev pub are_statements : Bool → List TStmt → Bool
  are_statements looped [] = true
  are_statements looped (a ∷ rest) = is_statement n looped a && are_statements looped rest

  abbrev pub if_other : Bool → Option TStmt → Bool
  if_other looped None = true
  if_other looped (Some a) = is_statement n looped a

  abbrev pub are_beginnings : List TStmt → Bool
  are_beginnings [] = true
  are_beginnings (a ∷ rest) = is_beginning n a && are_beginnings rest
