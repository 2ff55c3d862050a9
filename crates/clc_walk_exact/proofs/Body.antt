-- Each statement and block is judged to be what the walk meets.
use Rattle.std.proofs.Common.{◌≡◌, ℕ, List, [], ◌∷◌, Option, Some, None, refl, sym, ap, ◌∙◌, subst}
use Rattle.std.specs.Prelude.{map}
use Rattle.clc_tree.specs.declared.statements.BlockPart.{BlockPart, roll-BlockPart}
use Rattle.clc_tree.specs.declared.statements.Stmt.{Stmt, roll-Stmt}
use Rattle.clc_tree.specs.declared.statements.Block.{Block, roll-Block}
use Rattle.clc_tree.specs.declared.statements.Do.{Do, roll-Do}
use Rattle.clc_tree.specs.declared.statements.Else.{Else, roll-Else}
use Rattle.clc_tree.specs.declared.statements.For.{For, roll-For}
use Rattle.clc_tree.specs.declared.statements.If.{If, roll-If}
use Rattle.clc_tree.specs.declared.statements.While.{While, roll-While}
use Rattle.clc_tree.specs.declared.statements.BlockPart.TheOpen as o
use Rattle.clc_tree.specs.declared.statements.BlockPart.TheOpen.{BlockPart-F, Stmt-F, Block-F, Do-F, Else-F, For-F, If-F, While-F}
use Rattle.clc_tree.specs.declared.statements.BlockPart.TheFolds.{fold-BlockPart, fold-roll-BlockPart, map-BlockPart, ind-BlockPart, fold-Stmt, fold-roll-Stmt, map-Stmt, ind-Stmt, fold-Block, fold-roll-Block, map-Block, ind-Block, fold-Do, fold-roll-Do, map-Do, ind-Do, fold-Else, fold-roll-Else, map-Else, ind-Else, fold-For, fold-roll-For, map-For, ind-For, fold-If, fold-roll-If, map-If, ind-If, fold-While, fold-roll-While, map-While, ind-While}
use Rattle.clc_tree.specs.declared.expressions.Expr.{Expr}
use Rattle.clc_types.specs.declared.typed.TStmt.{TStmt}
use Rattle.clc_types.specs.declared.forms.Home.{Home}
use Rattle.clc_types.specs.Blocks.{Decl, Piece, block, block_part_piece, stmt_piece, block_piece, do_piece, else_piece, for_piece, if_piece, while_piece}
use Rattle.clc_types.specs.InternalSteps.{PieceWalk, block_part_walk, walk_block_part, stmt_walk, walk_stmt, block_walk, walk_block, do_walk, walk_do, else_walk, walk_else, for_walk, walk_for, if_walk, walk_if, while_walk, walk_while}
use Rattle.clc_walk_exact.proofs.Pieces.{Stood, Stoods, StoodOption, past_stood, made_stood}
use Rattle.clc_walk_exact.proofs.Standing.{declare_stood, block_stmt_stood, eval_stood, empty_stood, break_stood, continue_stood, returned_stood, if_stood, while_stood, do_stood, for_stood, block_stood}

abbrev pub j_block_part : BlockPart → Piece (List TStmt)
j_block_part = fold-BlockPart (Piece (List TStmt)) (Piece TStmt) (Piece (List TStmt)) (Piece TStmt) (Piece TStmt) (Piece TStmt) (Piece TStmt) (Piece TStmt) block_part_piece stmt_piece block_piece do_piece else_piece for_piece if_piece while_piece

abbrev pub j_stmt : Stmt → Piece (TStmt)
j_stmt = fold-Stmt (Piece (List TStmt)) (Piece TStmt) (Piece (List TStmt)) (Piece TStmt) (Piece TStmt) (Piece TStmt) (Piece TStmt) (Piece TStmt) block_part_piece stmt_piece block_piece do_piece else_piece for_piece if_piece while_piece

abbrev pub j_block : Block → Piece (List TStmt)
j_block = fold-Block (Piece (List TStmt)) (Piece TStmt) (Piece (List TStmt)) (Piece TStmt) (Piece TStmt) (Piece TStmt) (Piece TStmt) (Piece TStmt) block_part_piece stmt_piece block_piece do_piece else_piece for_piece if_piece while_piece

abbrev pub j_do : Do → Piece (TStmt)
j_do = fold-Do (Piece (List TStmt)) (Piece TStmt) (Piece (List TStmt)) (Piece TStmt) (Piece TStmt) (Piece TStmt) (Piece TStmt) (Piece TStmt) block_part_piece stmt_piece block_piece do_piece else_piece for_piece if_piece while_piece

abbrev pub j_else : Else → Piece (TStmt)
j_else = fold-Else (Piece (List TStmt)) (Piece TStmt) (Piece (List TStmt)) (Piece TStmt) (Piece TStmt) (Piece TStmt) (Piece TStmt) (Piece TStmt) block_part_piece stmt_piece block_piece do_piece else_piece for_piece if_piece while_piece

abbrev pub j_for : For → Piece (TStmt)
j_for = fold-For (Piece (List TStmt)) (Piece TStmt) (Piece (List TStmt)) (Piece TStmt) (Piece TStmt) (Piece TStmt) (Piece TStmt) (Piece TStmt) block_part_piece stmt_piece block_piece do_piece else_piece for_piece if_piece while_piece

abbrev pub j_if : If → Piece (TStmt)
j_if = fold-If (Piece (List TStmt)) (Piece TStmt) (Piece (List TStmt)) (Piece TStmt) (Piece TStmt) (Piece TStmt) (Piece TStmt) (Piece TStmt) block_part_piece stmt_piece block_piece do_piece else_piece for_piece if_piece while_piece

abbrev pub j_while : While → Piece (TStmt)
j_while = fold-While (Piece (List TStmt)) (Piece TStmt) (Piece (List TStmt)) (Piece TStmt) (Piece TStmt) (Piece TStmt) (Piece TStmt) (Piece TStmt) block_part_piece stmt_piece block_piece do_piece else_piece for_piece if_piece while_piece

module _ (fs : List (List ℕ)) (home : Home) (all : List Decl) where
  abbrev PBlockPart : BlockPart → Type 0
  PBlockPart e = Stood fs home all (j_block_part e) (walk_block_part e)

  abbrev SubBlockPart : Type 0
  SubBlockPart = (e : BlockPart) × PBlockPart e

  abbrev PStmt : Stmt → Type 0
  PStmt e = Stood fs home all (j_stmt e) (walk_stmt e)

  abbrev SubStmt : Type 0
  SubStmt = (e : Stmt) × PStmt e

  abbrev PBlock : Block → Type 0
  PBlock e = Stood fs home all (j_block e) (walk_block e)

  abbrev SubBlock : Type 0
  SubBlock = (e : Block) × PBlock e

  abbrev PDo : Do → Type 0
  PDo e = Stood fs home all (j_do e) (walk_do e)

  abbrev SubDo : Type 0
  SubDo = (e : Do) × PDo e

  abbrev PElse : Else → Type 0
  PElse e = Stood fs home all (j_else e) (walk_else e)

  abbrev SubElse : Type 0
  SubElse = (e : Else) × PElse e

  abbrev PFor : For → Type 0
  PFor e = Stood fs home all (j_for e) (walk_for e)

  abbrev SubFor : Type 0
  SubFor = (e : For) × PFor e

  abbrev PIf : If → Type 0
  PIf e = Stood fs home all (j_if e) (walk_if e)

  abbrev SubIf : Type 0
  SubIf = (e : If) × PIf e

  abbrev PWhile : While → Type 0
  PWhile e = Stood fs home all (j_while e) (walk_while e)

  abbrev SubWhile : Type 0
  SubWhile = (e : While) × PWhile e

  rolled_block_part : (x : BlockPart-F BlockPart Stmt Block Do Else For If While) → Stood fs home all (block_part_piece (map-BlockPart _ _ _ _ _ _ _ _ _ _ _ _ _ _ _ _ j_block_part j_stmt j_block j_do j_else j_for j_if j_while x)) (block_part_walk (map-BlockPart _ _ _ _ _ _ _ _ _ _ _ _ _ _ _ _ walk_block_part walk_stmt walk_block walk_do walk_else walk_for walk_if walk_while x)) → PBlockPart (roll-BlockPart x)
  rolled_block_part x g =
      subst (λ z. Stood fs home all z (walk_block_part (roll-BlockPart x))) (sym (fold-roll-BlockPart (Piece (List TStmt)) (Piece TStmt) (Piece (List TStmt)) (Piece TStmt) (Piece TStmt) (Piece TStmt) (Piece TStmt) (Piece TStmt) block_part_piece stmt_piece block_piece do_piece else_piece for_piece if_piece while_piece x))
      (subst (λ z. Stood fs home all (block_part_piece (map-BlockPart _ _ _ _ _ _ _ _ _ _ _ _ _ _ _ _ j_block_part j_stmt j_block j_do j_else j_for j_if j_while x)) z) (sym (fold-roll-BlockPart (PieceWalk (List TStmt)) (PieceWalk TStmt) (PieceWalk (List TStmt)) (PieceWalk TStmt) (PieceWalk TStmt) (PieceWalk TStmt) (PieceWalk TStmt) (PieceWalk TStmt) block_part_walk stmt_walk block_walk do_walk else_walk for_walk if_walk while_walk x)) g)

  rolled_stmt : (x : Stmt-F BlockPart Stmt Block Do Else For If While) → Stood fs home all (stmt_piece (map-Stmt _ _ _ _ _ _ _ _ _ _ _ _ _ _ _ _ j_block_part j_stmt j_block j_do j_else j_for j_if j_while x)) (stmt_walk (map-Stmt _ _ _ _ _ _ _ _ _ _ _ _ _ _ _ _ walk_block_part walk_stmt walk_block walk_do walk_else walk_for walk_if walk_while x)) → PStmt (roll-Stmt x)
  rolled_stmt x g =
      subst (λ z. Stood fs home all z (walk_stmt (roll-Stmt x))) (sym (fold-roll-Stmt (Piece (List TStmt)) (Piece TStmt) (Piece (List TStmt)) (Piece TStmt) (Piece TStmt) (Piece TStmt) (Piece TStmt) (Piece TStmt) block_part_piece stmt_piece block_piece do_piece else_piece for_piece if_piece while_piece x))
      (subst (λ z. Stood fs home all (stmt_piece (map-Stmt _ _ _ _ _ _ _ _ _ _ _ _ _ _ _ _ j_block_part j_stmt j_block j_do j_else j_for j_if j_while x)) z) (sym (fold-roll-Stmt (PieceWalk (List TStmt)) (PieceWalk TStmt) (PieceWalk (List TStmt)) (PieceWalk TStmt) (PieceWalk TStmt) (PieceWalk TStmt) (PieceWalk TStmt) (PieceWalk TStmt) block_part_walk stmt_walk block_walk do_walk else_walk for_walk if_walk while_walk x)) g)

  rolled_block : (x : Block-F BlockPart Stmt Block Do Else For If While) → Stood fs home all (block_piece (map-Block _ _ _ _ _ _ _ _ _ _ _ _ _ _ _ _ j_block_part j_stmt j_block j_do j_else j_for j_if j_while x)) (block_walk (map-Block _ _ _ _ _ _ _ _ _ _ _ _ _ _ _ _ walk_block_part walk_stmt walk_block walk_do walk_else walk_for walk_if walk_while x)) → PBlock (roll-Block x)
  rolled_block x g =
      subst (λ z. Stood fs home all z (walk_block (roll-Block x))) (sym (fold-roll-Block (Piece (List TStmt)) (Piece TStmt) (Piece (List TStmt)) (Piece TStmt) (Piece TStmt) (Piece TStmt) (Piece TStmt) (Piece TStmt) block_part_piece stmt_piece block_piece do_piece else_piece for_piece if_piece while_piece x))
      (subst (λ z. Stood fs home all (block_piece (map-Block _ _ _ _ _ _ _ _ _ _ _ _ _ _ _ _ j_block_part j_stmt j_block j_do j_else j_for j_if j_while x)) z) (sym (fold-roll-Block (PieceWalk (List TStmt)) (PieceWalk TStmt) (PieceWalk (List TStmt)) (PieceWalk TStmt) (PieceWalk TStmt) (PieceWalk TStmt) (PieceWalk TStmt) (PieceWalk TStmt) block_part_walk stmt_walk block_walk do_walk else_walk for_walk if_walk while_walk x)) g)

  rolled_do : (x : Do-F BlockPart Stmt Block Do Else For If While) → Stood fs home all (do_piece (map-Do _ _ _ _ _ _ _ _ _ _ _ _ _ _ _ _ j_block_part j_stmt j_block j_do j_else j_for j_if j_while x)) (do_walk (map-Do _ _ _ _ _ _ _ _ _ _ _ _ _ _ _ _ walk_block_part walk_stmt walk_block walk_do walk_else walk_for walk_if walk_while x)) → PDo (roll-Do x)
  rolled_do x g =
      subst (λ z. Stood fs home all z (walk_do (roll-Do x))) (sym (fold-roll-Do (Piece (List TStmt)) (Piece TStmt) (Piece (List TStmt)) (Piece TStmt) (Piece TStmt) (Piece TStmt) (Piece TStmt) (Piece TStmt) block_part_piece stmt_piece block_piece do_piece else_piece for_piece if_piece while_piece x))
      (subst (λ z. Stood fs home all (do_piece (map-Do _ _ _ _ _ _ _ _ _ _ _ _ _ _ _ _ j_block_part j_stmt j_block j_do j_else j_for j_if j_while x)) z) (sym (fold-roll-Do (PieceWalk (List TStmt)) (PieceWalk TStmt) (PieceWalk (List TStmt)) (PieceWalk TStmt) (PieceWalk TStmt) (PieceWalk TStmt) (PieceWalk TStmt) (PieceWalk TStmt) block_part_walk stmt_walk block_walk do_walk else_walk for_walk if_walk while_walk x)) g)

  rolled_else : (x : Else-F BlockPart Stmt Block Do Else For If While) → Stood fs home all (else_piece (map-Else _ _ _ _ _ _ _ _ _ _ _ _ _ _ _ _ j_block_part j_stmt j_block j_do j_else j_for j_if j_while x)) (else_walk (map-Else _ _ _ _ _ _ _ _ _ _ _ _ _ _ _ _ walk_block_part walk_stmt walk_block walk_do walk_else walk_for walk_if walk_while x)) → PElse (roll-Else x)
  rolled_else x g =
      subst (λ z. Stood fs home all z (walk_else (roll-Else x))) (sym (fold-roll-Else (Piece (List TStmt)) (Piece TStmt) (Piece (List TStmt)) (Piece TStmt) (Piece TStmt) (Piece TStmt) (Piece TStmt) (Piece TStmt) block_part_piece stmt_piece block_piece do_piece else_piece for_piece if_piece while_piece x))
      (subst (λ z. Stood fs home all (else_piece (map-Else _ _ _ _ _ _ _ _ _ _ _ _ _ _ _ _ j_block_part j_stmt j_block j_do j_else j_for j_if j_while x)) z) (sym (fold-roll-Else (PieceWalk (List TStmt)) (PieceWalk TStmt) (PieceWalk (List TStmt)) (PieceWalk TStmt) (PieceWalk TStmt) (PieceWalk TStmt) (PieceWalk TStmt) (PieceWalk TStmt) block_part_walk stmt_walk block_walk do_walk else_walk for_walk if_walk while_walk x)) g)

  rolled_for : (x : For-F BlockPart Stmt Block Do Else For If While) → Stood fs home all (for_piece (map-For _ _ _ _ _ _ _ _ _ _ _ _ _ _ _ _ j_block_part j_stmt j_block j_do j_else j_for j_if j_while x)) (for_walk (map-For _ _ _ _ _ _ _ _ _ _ _ _ _ _ _ _ walk_block_part walk_stmt walk_block walk_do walk_else walk_for walk_if walk_while x)) → PFor (roll-For x)
  rolled_for x g =
      subst (λ z. Stood fs home all z (walk_for (roll-For x))) (sym (fold-roll-For (Piece (List TStmt)) (Piece TStmt) (Piece (List TStmt)) (Piece TStmt) (Piece TStmt) (Piece TStmt) (Piece TStmt) (Piece TStmt) block_part_piece stmt_piece block_piece do_piece else_piece for_piece if_piece while_piece x))
      (subst (λ z. Stood fs home all (for_piece (map-For _ _ _ _ _ _ _ _ _ _ _ _ _ _ _ _ j_block_part j_stmt j_block j_do j_else j_for j_if j_while x)) z) (sym (fold-roll-For (PieceWalk (List TStmt)) (PieceWalk TStmt) (PieceWalk (List TStmt)) (PieceWalk TStmt) (PieceWalk TStmt) (PieceWalk TStmt) (PieceWalk TStmt) (PieceWalk TStmt) block_part_walk stmt_walk block_walk do_walk else_walk for_walk if_walk while_walk x)) g)

  rolled_if : (x : If-F BlockPart Stmt Block Do Else For If While) → Stood fs home all (if_piece (map-If _ _ _ _ _ _ _ _ _ _ _ _ _ _ _ _ j_block_part j_stmt j_block j_do j_else j_for j_if j_while x)) (if_walk (map-If _ _ _ _ _ _ _ _ _ _ _ _ _ _ _ _ walk_block_part walk_stmt walk_block walk_do walk_else walk_for walk_if walk_while x)) → PIf (roll-If x)
  rolled_if x g =
      subst (λ z. Stood fs home all z (walk_if (roll-If x))) (sym (fold-roll-If (Piece (List TStmt)) (Piece TStmt) (Piece (List TStmt)) (Piece TStmt) (Piece TStmt) (Piece TStmt) (Piece TStmt) (Piece TStmt) block_part_piece stmt_piece block_piece do_piece else_piece for_piece if_piece while_piece x))
      (subst (λ z. Stood fs home all (if_piece (map-If _ _ _ _ _ _ _ _ _ _ _ _ _ _ _ _ j_block_part j_stmt j_block j_do j_else j_for j_if j_while x)) z) (sym (fold-roll-If (PieceWalk (List TStmt)) (PieceWalk TStmt) (PieceWalk (List TStmt)) (PieceWalk TStmt) (PieceWalk TStmt) (PieceWalk TStmt) (PieceWalk TStmt) (PieceWalk TStmt) block_part_walk stmt_walk block_walk do_walk else_walk for_walk if_walk while_walk x)) g)

  rolled_while : (x : While-F BlockPart Stmt Block Do Else For If While) → Stood fs home all (while_piece (map-While _ _ _ _ _ _ _ _ _ _ _ _ _ _ _ _ j_block_part j_stmt j_block j_do j_else j_for j_if j_while x)) (while_walk (map-While _ _ _ _ _ _ _ _ _ _ _ _ _ _ _ _ walk_block_part walk_stmt walk_block walk_do walk_else walk_for walk_if walk_while x)) → PWhile (roll-While x)
  rolled_while x g =
      subst (λ z. Stood fs home all z (walk_while (roll-While x))) (sym (fold-roll-While (Piece (List TStmt)) (Piece TStmt) (Piece (List TStmt)) (Piece TStmt) (Piece TStmt) (Piece TStmt) (Piece TStmt) (Piece TStmt) block_part_piece stmt_piece block_piece do_piece else_piece for_piece if_piece while_piece x))
      (subst (λ z. Stood fs home all (while_piece (map-While _ _ _ _ _ _ _ _ _ _ _ _ _ _ _ _ j_block_part j_stmt j_block j_do j_else j_for j_if j_while x)) z) (sym (fold-roll-While (PieceWalk (List TStmt)) (PieceWalk TStmt) (PieceWalk (List TStmt)) (PieceWalk TStmt) (PieceWalk TStmt) (PieceWalk TStmt) (PieceWalk TStmt) (PieceWalk TStmt) block_part_walk stmt_walk block_walk do_walk else_walk for_walk if_walk while_walk x)) g)

  parts_stood : (xs : List SubBlockPart) → Stoods fs home all (map j_block_part (map (λ e. e.0) xs)) (map walk_block_part (map (λ e. e.0) xs))
  parts_stood [] = tt
  parts_stood (x ∷ xs) = (x.1, parts_stood xs)

  if_of : (y : If-F SubBlockPart SubStmt SubBlock SubDo SubElse SubFor SubIf SubWhile) (x : Option SubElse) → PIf (roll-If (map-If SubBlockPart SubStmt SubBlock SubDo SubElse SubFor SubIf SubWhile BlockPart Stmt Block Do Else For If While (λ e. e.0) (λ e. e.0) (λ e. e.0) (λ e. e.0) (λ e. e.0) (λ e. e.0) (λ e. e.0) (λ e. e.0) (record { word = y.word; opening = y.opening; test = y.test; closing = y.closing; body = y.body; other = x })))
  if_of y None = rolled_if (map-If SubBlockPart SubStmt SubBlock SubDo SubElse SubFor SubIf SubWhile BlockPart Stmt Block Do Else For If While (λ e. e.0) (λ e. e.0) (λ e. e.0) (λ e. e.0) (λ e. e.0) (λ e. e.0) (λ e. e.0) (λ e. e.0) (record { word = y.word; opening = y.opening; test = y.test; closing = y.closing; body = y.body; other = None })) (if_stood fs home all y.test _ _ None None y.body.1 tt)
  if_of y (Some x) = rolled_if (map-If SubBlockPart SubStmt SubBlock SubDo SubElse SubFor SubIf SubWhile BlockPart Stmt Block Do Else For If While (λ e. e.0) (λ e. e.0) (λ e. e.0) (λ e. e.0) (λ e. e.0) (λ e. e.0) (λ e. e.0) (λ e. e.0) (record { word = y.word; opening = y.opening; test = y.test; closing = y.closing; body = y.body; other = Some x })) (if_stood fs home all y.test _ _ (Some _) (Some _) y.body.1 x.1)

  node_block_part : (y : BlockPart-F SubBlockPart SubStmt SubBlock SubDo SubElse SubFor SubIf SubWhile) → PBlockPart (roll-BlockPart (map-BlockPart _ _ _ _ _ _ _ _ _ _ _ _ _ _ _ _ (λ e. e.0) (λ e. e.0) (λ e. e.0) (λ e. e.0) (λ e. e.0) (λ e. e.0) (λ e. e.0) (λ e. e.0) y))
  node_block_part (o.Declare d) = rolled_block_part (o.Declare d) (declare_stood fs home all d)
  node_block_part (o.Stmt x) = rolled_block_part (o.Stmt x.0) (made_stood fs home all (λ y. y ∷ []) _ _ x.1)

  node_stmt : (y : Stmt-F SubBlockPart SubStmt SubBlock SubDo SubElse SubFor SubIf SubWhile) → PStmt (roll-Stmt (map-Stmt _ _ _ _ _ _ _ _ _ _ _ _ _ _ _ _ (λ e. e.0) (λ e. e.0) (λ e. e.0) (λ e. e.0) (λ e. e.0) (λ e. e.0) (λ e. e.0) (λ e. e.0) y))
  node_stmt (o.Block b) = rolled_stmt (o.Block b.0) (block_stmt_stood fs home all _ _ b.1)
  node_stmt (o.Eval e t) = rolled_stmt (o.Eval e t) (eval_stood fs home all e)
  node_stmt (o.Empty t) = rolled_stmt (o.Empty t) (empty_stood fs home all)
  node_stmt (o.If x) = rolled_stmt (o.If x.0) x.1
  node_stmt (o.While x) = rolled_stmt (o.While x.0) x.1
  node_stmt (o.Do x) = rolled_stmt (o.Do x.0) x.1
  node_stmt (o.For x) = rolled_stmt (o.For x.0) x.1
  node_stmt (o.Break w t) = rolled_stmt (o.Break w t) (break_stood fs home all)
  node_stmt (o.Continue w t) = rolled_stmt (o.Continue w t) (continue_stood fs home all)
  node_stmt (o.Return w e t) = rolled_stmt (o.Return w e t) (returned_stood fs home all e)

  node_block : (y : Block-F SubBlockPart SubStmt SubBlock SubDo SubElse SubFor SubIf SubWhile) → PBlock (roll-Block (map-Block _ _ _ _ _ _ _ _ _ _ _ _ _ _ _ _ (λ e. e.0) (λ e. e.0) (λ e. e.0) (λ e. e.0) (λ e. e.0) (λ e. e.0) (λ e. e.0) (λ e. e.0) y))
  node_block y = rolled_block (map-Block _ _ _ _ _ _ _ _ _ _ _ _ _ _ _ _ (λ e. e.0) (λ e. e.0) (λ e. e.0) (λ e. e.0) (λ e. e.0) (λ e. e.0) (λ e. e.0) (λ e. e.0) y) (block_stood fs home all _ _ (parts_stood y.parts))

  node_do : (y : Do-F SubBlockPart SubStmt SubBlock SubDo SubElse SubFor SubIf SubWhile) → PDo (roll-Do (map-Do _ _ _ _ _ _ _ _ _ _ _ _ _ _ _ _ (λ e. e.0) (λ e. e.0) (λ e. e.0) (λ e. e.0) (λ e. e.0) (λ e. e.0) (λ e. e.0) (λ e. e.0) y))
  node_do y = rolled_do (map-Do _ _ _ _ _ _ _ _ _ _ _ _ _ _ _ _ (λ e. e.0) (λ e. e.0) (λ e. e.0) (λ e. e.0) (λ e. e.0) (λ e. e.0) (λ e. e.0) (λ e. e.0) y) (do_stood fs home all y.test _ _ y.body.1)

  node_else : (y : Else-F SubBlockPart SubStmt SubBlock SubDo SubElse SubFor SubIf SubWhile) → PElse (roll-Else (map-Else _ _ _ _ _ _ _ _ _ _ _ _ _ _ _ _ (λ e. e.0) (λ e. e.0) (λ e. e.0) (λ e. e.0) (λ e. e.0) (λ e. e.0) (λ e. e.0) (λ e. e.0) y))
  node_else y = rolled_else (map-Else _ _ _ _ _ _ _ _ _ _ _ _ _ _ _ _ (λ e. e.0) (λ e. e.0) (λ e. e.0) (λ e. e.0) (λ e. e.0) (λ e. e.0) (λ e. e.0) (λ e. e.0) y) (past_stood fs home all 1 _ _ y.body.1)

  node_for : (y : For-F SubBlockPart SubStmt SubBlock SubDo SubElse SubFor SubIf SubWhile) → PFor (roll-For (map-For _ _ _ _ _ _ _ _ _ _ _ _ _ _ _ _ (λ e. e.0) (λ e. e.0) (λ e. e.0) (λ e. e.0) (λ e. e.0) (λ e. e.0) (λ e. e.0) (λ e. e.0) y))
  node_for y = rolled_for (map-For _ _ _ _ _ _ _ _ _ _ _ _ _ _ _ _ (λ e. e.0) (λ e. e.0) (λ e. e.0) (λ e. e.0) (λ e. e.0) (λ e. e.0) (λ e. e.0) (λ e. e.0) y) (for_stood fs home all y.start y.test y.step _ _ y.body.1)

  node_if : (y : If-F SubBlockPart SubStmt SubBlock SubDo SubElse SubFor SubIf SubWhile) → PIf (roll-If (map-If _ _ _ _ _ _ _ _ _ _ _ _ _ _ _ _ (λ e. e.0) (λ e. e.0) (λ e. e.0) (λ e. e.0) (λ e. e.0) (λ e. e.0) (λ e. e.0) (λ e. e.0) y))
  node_if y = if_of y y.other

  node_while : (y : While-F SubBlockPart SubStmt SubBlock SubDo SubElse SubFor SubIf SubWhile) → PWhile (roll-While (map-While _ _ _ _ _ _ _ _ _ _ _ _ _ _ _ _ (λ e. e.0) (λ e. e.0) (λ e. e.0) (λ e. e.0) (λ e. e.0) (λ e. e.0) (λ e. e.0) (λ e. e.0) y))
  node_while y = rolled_while (map-While _ _ _ _ _ _ _ _ _ _ _ _ _ _ _ _ (λ e. e.0) (λ e. e.0) (λ e. e.0) (λ e. e.0) (λ e. e.0) (λ e. e.0) (λ e. e.0) (λ e. e.0) y) (while_stood fs home all y.test _ _ y.body.1)

  pub whole_block : (b : Block) → Stood fs home all (block b) (walk_block b)
  whole_block = ind-Block PBlockPart PStmt PBlock PDo PElse PFor PIf PWhile (λ x y is. subst (λ z. PBlockPart (roll-BlockPart z)) is (node_block_part y)) (λ x y is. subst (λ z. PStmt (roll-Stmt z)) is (node_stmt y)) (λ x y is. subst (λ z. PBlock (roll-Block z)) is (node_block y)) (λ x y is. subst (λ z. PDo (roll-Do z)) is (node_do y)) (λ x y is. subst (λ z. PElse (roll-Else z)) is (node_else y)) (λ x y is. subst (λ z. PFor (roll-For z)) is (node_for y)) (λ x y is. subst (λ z. PIf (roll-If z)) is (node_if y)) (λ x y is. subst (λ z. PWhile (roll-While z)) is (node_while y))
