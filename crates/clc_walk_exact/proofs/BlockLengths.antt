-- The tokens that are counted of a statement and of a block are those of its text. A block is counted without its `{`.
use Rattle.std.proofs.Common.{◌≡◌, ℕ, suc, ◌+◌, List, [], ◌∷◌, ◌++◌, Option, Some, None, refl, sym, ap, ◌∙◌, subst, length, length-append, arith}
use Rattle.std.specs.Prelude.{map}
use Rattle.clc_tree.specs.declared.statements.BlockPart.{BlockPart, roll-BlockPart}
use Rattle.clc_tree.specs.declared.statements.Stmt.{Stmt, roll-Stmt}
use Rattle.clc_tree.specs.declared.statements.Block.{Block, roll-Block}
use Rattle.clc_tree.specs.declared.statements.Do.{Do, roll-Do}
use Rattle.clc_tree.specs.declared.statements.Else.{Else, roll-Else}
use Rattle.clc_tree.specs.declared.statements.For.{For, roll-For}
use Rattle.clc_tree.specs.declared.statements.If.{If, roll-If}
use Rattle.clc_tree.specs.declared.statements.While.{While, roll-While}
use Rattle.clc_tree.specs.declared.statements.BlockPart.TheOpen as o
use Rattle.clc_tree.specs.declared.statements.BlockPart.TheOpen.{BlockPart-F, Stmt-F, Block-F, Do-F, Else-F, For-F, If-F, While-F}
use Rattle.clc_tree.specs.declared.statements.BlockPart.TheFolds.{fold-BlockPart, fold-roll-BlockPart, map-BlockPart, ind-BlockPart, fold-Stmt, fold-roll-Stmt, map-Stmt, ind-Stmt, fold-Block, fold-roll-Block, map-Block, ind-Block, fold-Do, fold-roll-Do, map-Do, ind-Do, fold-Else, fold-roll-Else, map-Else, ind-Else, fold-For, fold-roll-For, map-For, ind-For, fold-If, fold-roll-If, map-If, ind-If, fold-While, fold-roll-While, map-While, ind-While}
use Rattle.clc_tree.specs.Flat.{Tokens, joined, expr_tokens, expr_or_none, for_start_tokens, block_part_layer, block_part_tokens, stmt_layer, stmt_tokens, block_layer, block_tokens, do_layer, do_tokens, else_layer, else_tokens, for_layer, for_tokens, if_layer, if_tokens, while_layer, while_tokens}
use Rattle.clc_types.specs.declared.typed.TStmt.{TStmt}
use Rattle.clc_types.specs.Blocks.{Piece, block, listed, block_part_piece, stmt_piece, block_piece, do_piece, else_piece, for_piece, if_piece, while_piece}
use Rattle.clc_walk_exact.proofs.Body.{j_block_part, j_stmt, j_block, j_do, j_else, j_for, j_if, j_while}
use Rattle.clc_walk_exact.proofs.Sizes.{joined_length}
use Rattle.clc_walk_exact.proofs.Lengths.{expr_length}
use Rattle.clc_walk_exact.proofs.PieceSizes.{declare_length, maybe_condition_length, maybe_value_length, for_start_length}

abbrev PBlockPart : BlockPart → Type 0
PBlockPart e = (j_block_part e).tokens ≡ length (block_part_tokens e)

abbrev SubBlockPart : Type 0
SubBlockPart = (e : BlockPart) × PBlockPart e

abbrev PStmt : Stmt → Type 0
PStmt e = (j_stmt e).tokens ≡ length (stmt_tokens e)

abbrev SubStmt : Type 0
SubStmt = (e : Stmt) × PStmt e

abbrev PBlock : Block → Type 0
PBlock e = suc (j_block e).tokens ≡ length (block_tokens e)

abbrev SubBlock : Type 0
SubBlock = (e : Block) × PBlock e

abbrev PDo : Do → Type 0
PDo e = (j_do e).tokens ≡ length (do_tokens e)

abbrev SubDo : Type 0
SubDo = (e : Do) × PDo e

abbrev PElse : Else → Type 0
PElse e = (j_else e).tokens ≡ length (else_tokens e)

abbrev SubElse : Type 0
SubElse = (e : Else) × PElse e

abbrev PFor : For → Type 0
PFor e = (j_for e).tokens ≡ length (for_tokens e)

abbrev SubFor : Type 0
SubFor = (e : For) × PFor e

abbrev PIf : If → Type 0
PIf e = (j_if e).tokens ≡ length (if_tokens e)

abbrev SubIf : Type 0
SubIf = (e : If) × PIf e

abbrev PWhile : While → Type 0
PWhile e = (j_while e).tokens ≡ length (while_tokens e)

abbrev SubWhile : Type 0
SubWhile = (e : While) × PWhile e

rolled_block_part : (x : BlockPart-F BlockPart Stmt Block Do Else For If While) → (block_part_piece (map-BlockPart BlockPart Stmt Block Do Else For If While (Piece (List TStmt)) (Piece TStmt) (Piece (List TStmt)) (Piece TStmt) (Piece TStmt) (Piece TStmt) (Piece TStmt) (Piece TStmt) j_block_part j_stmt j_block j_do j_else j_for j_if j_while x)).tokens ≡ length (block_part_layer (map-BlockPart BlockPart Stmt Block Do Else For If While Tokens Tokens Tokens Tokens Tokens Tokens Tokens Tokens block_part_tokens stmt_tokens block_tokens do_tokens else_tokens for_tokens if_tokens while_tokens x)) → PBlockPart (roll-BlockPart x)
rolled_block_part x g =
    ap (λ z. (z).tokens) (fold-roll-BlockPart (Piece (List TStmt)) (Piece TStmt) (Piece (List TStmt)) (Piece TStmt) (Piece TStmt) (Piece TStmt) (Piece TStmt) (Piece TStmt) block_part_piece stmt_piece block_piece do_piece else_piece for_piece if_piece while_piece x) ∙ g ∙ ap length (sym (fold-roll-BlockPart Tokens Tokens Tokens Tokens Tokens Tokens Tokens Tokens block_part_layer stmt_layer block_layer do_layer else_layer for_layer if_layer while_layer x))

rolled_stmt : (x : Stmt-F BlockPart Stmt Block Do Else For If While) → (stmt_piece (map-Stmt BlockPart Stmt Block Do Else For If While (Piece (List TStmt)) (Piece TStmt) (Piece (List TStmt)) (Piece TStmt) (Piece TStmt) (Piece TStmt) (Piece TStmt) (Piece TStmt) j_block_part j_stmt j_block j_do j_else j_for j_if j_while x)).tokens ≡ length (stmt_layer (map-Stmt BlockPart Stmt Block Do Else For If While Tokens Tokens Tokens Tokens Tokens Tokens Tokens Tokens block_part_tokens stmt_tokens block_tokens do_tokens else_tokens for_tokens if_tokens while_tokens x)) → PStmt (roll-Stmt x)
rolled_stmt x g =
    ap (λ z. (z).tokens) (fold-roll-Stmt (Piece (List TStmt)) (Piece TStmt) (Piece (List TStmt)) (Piece TStmt) (Piece TStmt) (Piece TStmt) (Piece TStmt) (Piece TStmt) block_part_piece stmt_piece block_piece do_piece else_piece for_piece if_piece while_piece x) ∙ g ∙ ap length (sym (fold-roll-Stmt Tokens Tokens Tokens Tokens Tokens Tokens Tokens Tokens block_part_layer stmt_layer block_layer do_layer else_layer for_layer if_layer while_layer x))

rolled_block : (x : Block-F BlockPart Stmt Block Do Else For If While) → suc (block_piece (map-Block BlockPart Stmt Block Do Else For If While (Piece (List TStmt)) (Piece TStmt) (Piece (List TStmt)) (Piece TStmt) (Piece TStmt) (Piece TStmt) (Piece TStmt) (Piece TStmt) j_block_part j_stmt j_block j_do j_else j_for j_if j_while x)).tokens ≡ length (block_layer (map-Block BlockPart Stmt Block Do Else For If While Tokens Tokens Tokens Tokens Tokens Tokens Tokens Tokens block_part_tokens stmt_tokens block_tokens do_tokens else_tokens for_tokens if_tokens while_tokens x)) → PBlock (roll-Block x)
rolled_block x g =
    ap (λ z. suc (z).tokens) (fold-roll-Block (Piece (List TStmt)) (Piece TStmt) (Piece (List TStmt)) (Piece TStmt) (Piece TStmt) (Piece TStmt) (Piece TStmt) (Piece TStmt) block_part_piece stmt_piece block_piece do_piece else_piece for_piece if_piece while_piece x) ∙ g ∙ ap length (sym (fold-roll-Block Tokens Tokens Tokens Tokens Tokens Tokens Tokens Tokens block_part_layer stmt_layer block_layer do_layer else_layer for_layer if_layer while_layer x))

rolled_do : (x : Do-F BlockPart Stmt Block Do Else For If While) → (do_piece (map-Do BlockPart Stmt Block Do Else For If While (Piece (List TStmt)) (Piece TStmt) (Piece (List TStmt)) (Piece TStmt) (Piece TStmt) (Piece TStmt) (Piece TStmt) (Piece TStmt) j_block_part j_stmt j_block j_do j_else j_for j_if j_while x)).tokens ≡ length (do_layer (map-Do BlockPart Stmt Block Do Else For If While Tokens Tokens Tokens Tokens Tokens Tokens Tokens Tokens block_part_tokens stmt_tokens block_tokens do_tokens else_tokens for_tokens if_tokens while_tokens x)) → PDo (roll-Do x)
rolled_do x g =
    ap (λ z. (z).tokens) (fold-roll-Do (Piece (List TStmt)) (Piece TStmt) (Piece (List TStmt)) (Piece TStmt) (Piece TStmt) (Piece TStmt) (Piece TStmt) (Piece TStmt) block_part_piece stmt_piece block_piece do_piece else_piece for_piece if_piece while_piece x) ∙ g ∙ ap length (sym (fold-roll-Do Tokens Tokens Tokens Tokens Tokens Tokens Tokens Tokens block_part_layer stmt_layer block_layer do_layer else_layer for_layer if_layer while_layer x))

rolled_else : (x : Else-F BlockPart Stmt Block Do Else For If While) → (else_piece (map-Else BlockPart Stmt Block Do Else For If While (Piece (List TStmt)) (Piece TStmt) (Piece (List TStmt)) (Piece TStmt) (Piece TStmt) (Piece TStmt) (Piece TStmt) (Piece TStmt) j_block_part j_stmt j_block j_do j_else j_for j_if j_while x)).tokens ≡ length (else_layer (map-Else BlockPart Stmt Block Do Else For If While Tokens Tokens Tokens Tokens Tokens Tokens Tokens Tokens block_part_tokens stmt_tokens block_tokens do_tokens else_tokens for_tokens if_tokens while_tokens x)) → PElse (roll-Else x)
rolled_else x g =
    ap (λ z. (z).tokens) (fold-roll-Else (Piece (List TStmt)) (Piece TStmt) (Piece (List TStmt)) (Piece TStmt) (Piece TStmt) (Piece TStmt) (Piece TStmt) (Piece TStmt) block_part_piece stmt_piece block_piece do_piece else_piece for_piece if_piece while_piece x) ∙ g ∙ ap length (sym (fold-roll-Else Tokens Tokens Tokens Tokens Tokens Tokens Tokens Tokens block_part_layer stmt_layer block_layer do_layer else_layer for_layer if_layer while_layer x))

rolled_for : (x : For-F BlockPart Stmt Block Do Else For If While) → (for_piece (map-For BlockPart Stmt Block Do Else For If While (Piece (List TStmt)) (Piece TStmt) (Piece (List TStmt)) (Piece TStmt) (Piece TStmt) (Piece TStmt) (Piece TStmt) (Piece TStmt) j_block_part j_stmt j_block j_do j_else j_for j_if j_while x)).tokens ≡ length (for_layer (map-For BlockPart Stmt Block Do Else For If While Tokens Tokens Tokens Tokens Tokens Tokens Tokens Tokens block_part_tokens stmt_tokens block_tokens do_tokens else_tokens for_tokens if_tokens while_tokens x)) → PFor (roll-For x)
rolled_for x g =
    ap (λ z. (z).tokens) (fold-roll-For (Piece (List TStmt)) (Piece TStmt) (Piece (List TStmt)) (Piece TStmt) (Piece TStmt) (Piece TStmt) (Piece TStmt) (Piece TStmt) block_part_piece stmt_piece block_piece do_piece else_piece for_piece if_piece while_piece x) ∙ g ∙ ap length (sym (fold-roll-For Tokens Tokens Tokens Tokens Tokens Tokens Tokens Tokens block_part_layer stmt_layer block_layer do_layer else_layer for_layer if_layer while_layer x))

rolled_if : (x : If-F BlockPart Stmt Block Do Else For If While) → (if_piece (map-If BlockPart Stmt Block Do Else For If While (Piece (List TStmt)) (Piece TStmt) (Piece (List TStmt)) (Piece TStmt) (Piece TStmt) (Piece TStmt) (Piece TStmt) (Piece TStmt) j_block_part j_stmt j_block j_do j_else j_for j_if j_while x)).tokens ≡ length (if_layer (map-If BlockPart Stmt Block Do Else For If While Tokens Tokens Tokens Tokens Tokens Tokens Tokens Tokens block_part_tokens stmt_tokens block_tokens do_tokens else_tokens for_tokens if_tokens while_tokens x)) → PIf (roll-If x)
rolled_if x g =
    ap (λ z. (z).tokens) (fold-roll-If (Piece (List TStmt)) (Piece TStmt) (Piece (List TStmt)) (Piece TStmt) (Piece TStmt) (Piece TStmt) (Piece TStmt) (Piece TStmt) block_part_piece stmt_piece block_piece do_piece else_piece for_piece if_piece while_piece x) ∙ g ∙ ap length (sym (fold-roll-If Tokens Tokens Tokens Tokens Tokens Tokens Tokens Tokens block_part_layer stmt_layer block_layer do_layer else_layer for_layer if_layer while_layer x))

rolled_while : (x : While-F BlockPart Stmt Block Do Else For If While) → (while_piece (map-While BlockPart Stmt Block Do Else For If While (Piece (List TStmt)) (Piece TStmt) (Piece (List TStmt)) (Piece TStmt) (Piece TStmt) (Piece TStmt) (Piece TStmt) (Piece TStmt) j_block_part j_stmt j_block j_do j_else j_for j_if j_while x)).tokens ≡ length (while_layer (map-While BlockPart Stmt Block Do Else For If While Tokens Tokens Tokens Tokens Tokens Tokens Tokens Tokens block_part_tokens stmt_tokens block_tokens do_tokens else_tokens for_tokens if_tokens while_tokens x)) → PWhile (roll-While x)
rolled_while x g =
    ap (λ z. (z).tokens) (fold-roll-While (Piece (List TStmt)) (Piece TStmt) (Piece (List TStmt)) (Piece TStmt) (Piece TStmt) (Piece TStmt) (Piece TStmt) (Piece TStmt) block_part_piece stmt_piece block_piece do_piece else_piece for_piece if_piece while_piece x) ∙ g ∙ ap length (sym (fold-roll-While Tokens Tokens Tokens Tokens Tokens Tokens Tokens Tokens block_part_layer stmt_layer block_layer do_layer else_layer for_layer if_layer while_layer x))

parts : (xs : List SubBlockPart) → (listed (map j_block_part (map (λ e. e.0) xs))).tokens ≡ length (joined (map block_part_tokens (map (λ e. e.0) xs)))
parts [] = refl
parts (x ∷ xs) = let h = x.1 in let i = parts xs in let n = joined_length (map block_part_tokens (map (λ e. e.0) xs)) (block_part_tokens x.0) in omega (arith, h, i, n)

if_of : (y : If-F SubBlockPart SubStmt SubBlock SubDo SubElse SubFor SubIf SubWhile) (x : Option SubElse) → PIf (roll-If (map-If SubBlockPart SubStmt SubBlock SubDo SubElse SubFor SubIf SubWhile BlockPart Stmt Block Do Else For If While (λ e. e.0) (λ e. e.0) (λ e. e.0) (λ e. e.0) (λ e. e.0) (λ e. e.0) (λ e. e.0) (λ e. e.0) (record { word = y.word; opening = y.opening; test = y.test; closing = y.closing; body = y.body; other = x })))
if_of y None = rolled_if (map-If SubBlockPart SubStmt SubBlock SubDo SubElse SubFor SubIf SubWhile BlockPart Stmt Block Do Else For If While (λ e. e.0) (λ e. e.0) (λ e. e.0) (λ e. e.0) (λ e. e.0) (λ e. e.0) (λ e. e.0) (λ e. e.0) (record { word = y.word; opening = y.opening; test = y.test; closing = y.closing; body = y.body; other = None })) (let h = y.body.1 in let i = expr_length y.test in let n2 = length-append (stmt_tokens y.body.0) [] in let n1 = length-append (expr_tokens y.test) (y.closing ∷ (stmt_tokens y.body.0 ++ [])) in omega (arith, h, i, n1, n2))
if_of y (Some x) = rolled_if (map-If SubBlockPart SubStmt SubBlock SubDo SubElse SubFor SubIf SubWhile BlockPart Stmt Block Do Else For If While (λ e. e.0) (λ e. e.0) (λ e. e.0) (λ e. e.0) (λ e. e.0) (λ e. e.0) (λ e. e.0) (λ e. e.0) (record { word = y.word; opening = y.opening; test = y.test; closing = y.closing; body = y.body; other = Some x })) (let h = y.body.1 in let i = expr_length y.test in let j = x.1 in let n2 = length-append (stmt_tokens y.body.0) (else_tokens x.0) in let n1 = length-append (expr_tokens y.test) (y.closing ∷ (stmt_tokens y.body.0 ++ else_tokens x.0)) in omega (arith, h, i, j, n1, n2))

node_block_part : (y : BlockPart-F SubBlockPart SubStmt SubBlock SubDo SubElse SubFor SubIf SubWhile) → PBlockPart (roll-BlockPart (map-BlockPart SubBlockPart SubStmt SubBlock SubDo SubElse SubFor SubIf SubWhile BlockPart Stmt Block Do Else For If While (λ e. e.0) (λ e. e.0) (λ e. e.0) (λ e. e.0) (λ e. e.0) (λ e. e.0) (λ e. e.0) (λ e. e.0) y))
node_block_part (o.Declare d) = rolled_block_part (o.Declare d) (declare_length d)
node_block_part (o.Stmt x) = rolled_block_part (o.Stmt x.0) x.1

node_stmt : (y : Stmt-F SubBlockPart SubStmt SubBlock SubDo SubElse SubFor SubIf SubWhile) → PStmt (roll-Stmt (map-Stmt SubBlockPart SubStmt SubBlock SubDo SubElse SubFor SubIf SubWhile BlockPart Stmt Block Do Else For If While (λ e. e.0) (λ e. e.0) (λ e. e.0) (λ e. e.0) (λ e. e.0) (λ e. e.0) (λ e. e.0) (λ e. e.0) y))
node_stmt (o.Block b) = rolled_stmt (o.Block b.0) (let h = b.1 in omega (arith, h))
node_stmt (o.Eval e t) = rolled_stmt (o.Eval e t) (let h = expr_length e in let n = length-append (expr_tokens e) (t ∷ []) in omega (arith, h, n))
node_stmt (o.Empty t) = rolled_stmt (o.Empty t) refl
node_stmt (o.If x) = rolled_stmt (o.If x.0) x.1
node_stmt (o.While x) = rolled_stmt (o.While x.0) x.1
node_stmt (o.Do x) = rolled_stmt (o.Do x.0) x.1
node_stmt (o.For x) = rolled_stmt (o.For x.0) x.1
node_stmt (o.Break w t) = rolled_stmt (o.Break w t) refl
node_stmt (o.Continue w t) = rolled_stmt (o.Continue w t) refl
node_stmt (o.Return w None t) = rolled_stmt (o.Return w None t) refl
node_stmt (o.Return w (Some e) t) = rolled_stmt (o.Return w (Some e) t) (let h = expr_length e in let n = length-append (expr_tokens e) (t ∷ []) in omega (arith, h, n))

node_block : (y : Block-F SubBlockPart SubStmt SubBlock SubDo SubElse SubFor SubIf SubWhile) → PBlock (roll-Block (map-Block SubBlockPart SubStmt SubBlock SubDo SubElse SubFor SubIf SubWhile BlockPart Stmt Block Do Else For If While (λ e. e.0) (λ e. e.0) (λ e. e.0) (λ e. e.0) (λ e. e.0) (λ e. e.0) (λ e. e.0) (λ e. e.0) y))
node_block y = rolled_block (map-Block SubBlockPart SubStmt SubBlock SubDo SubElse SubFor SubIf SubWhile BlockPart Stmt Block Do Else For If While (λ e. e.0) (λ e. e.0) (λ e. e.0) (λ e. e.0) (λ e. e.0) (λ e. e.0) (λ e. e.0) (λ e. e.0) y) (let h = parts y.parts in let n = length-append (joined (map block_part_tokens (map (λ e. e.0) y.parts))) (y.closing ∷ []) in omega (arith, h, n))

node_do : (y : Do-F SubBlockPart SubStmt SubBlock SubDo SubElse SubFor SubIf SubWhile) → PDo (roll-Do (map-Do SubBlockPart SubStmt SubBlock SubDo SubElse SubFor SubIf SubWhile BlockPart Stmt Block Do Else For If While (λ e. e.0) (λ e. e.0) (λ e. e.0) (λ e. e.0) (λ e. e.0) (λ e. e.0) (λ e. e.0) (λ e. e.0) y))
node_do y = rolled_do (map-Do SubBlockPart SubStmt SubBlock SubDo SubElse SubFor SubIf SubWhile BlockPart Stmt Block Do Else For If While (λ e. e.0) (λ e. e.0) (λ e. e.0) (λ e. e.0) (λ e. e.0) (λ e. e.0) (λ e. e.0) (λ e. e.0) y) (let h = y.body.1 in let i = expr_length y.test in let n = length-append (expr_tokens y.test) (y.closing ∷ y.end ∷ []) in let m = length-append (stmt_tokens y.body.0) (y.until ∷ y.opening ∷ (expr_tokens y.test ++ y.closing ∷ y.end ∷ [])) in omega (arith, h, i, n, m))

node_else : (y : Else-F SubBlockPart SubStmt SubBlock SubDo SubElse SubFor SubIf SubWhile) → PElse (roll-Else (map-Else SubBlockPart SubStmt SubBlock SubDo SubElse SubFor SubIf SubWhile BlockPart Stmt Block Do Else For If While (λ e. e.0) (λ e. e.0) (λ e. e.0) (λ e. e.0) (λ e. e.0) (λ e. e.0) (λ e. e.0) (λ e. e.0) y))
node_else y = rolled_else (map-Else SubBlockPart SubStmt SubBlock SubDo SubElse SubFor SubIf SubWhile BlockPart Stmt Block Do Else For If While (λ e. e.0) (λ e. e.0) (λ e. e.0) (λ e. e.0) (λ e. e.0) (λ e. e.0) (λ e. e.0) (λ e. e.0) y) (let h = y.body.1 in omega (arith, h))

node_for : (y : For-F SubBlockPart SubStmt SubBlock SubDo SubElse SubFor SubIf SubWhile) → PFor (roll-For (map-For SubBlockPart SubStmt SubBlock SubDo SubElse SubFor SubIf SubWhile BlockPart Stmt Block Do Else For If While (λ e. e.0) (λ e. e.0) (λ e. e.0) (λ e. e.0) (λ e. e.0) (λ e. e.0) (λ e. e.0) (λ e. e.0) y))
node_for y = rolled_for (map-For SubBlockPart SubStmt SubBlock SubDo SubElse SubFor SubIf SubWhile BlockPart Stmt Block Do Else For If While (λ e. e.0) (λ e. e.0) (λ e. e.0) (λ e. e.0) (λ e. e.0) (λ e. e.0) (λ e. e.0) (λ e. e.0) y) (let h = y.body.1 in let i = for_start_length y.start in let j = maybe_condition_length y.test in let k = maybe_value_length y.step in let n3 = length-append (expr_or_none y.test) (y.middle ∷ expr_or_none y.step) in let n2 = length-append (for_start_tokens y.start) (expr_or_none y.test ++ y.middle ∷ expr_or_none y.step) in let n1 = length-append (for_start_tokens y.start ++ (expr_or_none y.test ++ y.middle ∷ expr_or_none y.step)) (y.closing ∷ stmt_tokens y.body.0) in omega (arith, h, i, j, k, n1, n2, n3))

node_if : (y : If-F SubBlockPart SubStmt SubBlock SubDo SubElse SubFor SubIf SubWhile) → PIf (roll-If (map-If SubBlockPart SubStmt SubBlock SubDo SubElse SubFor SubIf SubWhile BlockPart Stmt Block Do Else For If While (λ e. e.0) (λ e. e.0) (λ e. e.0) (λ e. e.0) (λ e. e.0) (λ e. e.0) (λ e. e.0) (λ e. e.0) y))
node_if y = if_of y y.other

node_while : (y : While-F SubBlockPart SubStmt SubBlock SubDo SubElse SubFor SubIf SubWhile) → PWhile (roll-While (map-While SubBlockPart SubStmt SubBlock SubDo SubElse SubFor SubIf SubWhile BlockPart Stmt Block Do Else For If While (λ e. e.0) (λ e. e.0) (λ e. e.0) (λ e. e.0) (λ e. e.0) (λ e. e.0) (λ e. e.0) (λ e. e.0) y))
node_while y = rolled_while (map-While SubBlockPart SubStmt SubBlock SubDo SubElse SubFor SubIf SubWhile BlockPart Stmt Block Do Else For If While (λ e. e.0) (λ e. e.0) (λ e. e.0) (λ e. e.0) (λ e. e.0) (λ e. e.0) (λ e. e.0) (λ e. e.0) y) (let h = y.body.1 in let i = expr_length y.test in let n = length-append (expr_tokens y.test) (y.closing ∷ stmt_tokens y.body.0) in omega (arith, h, i, n))

pub block_length : (b : Block) → suc (block b).tokens ≡ length (block_tokens b)
block_length = ind-Block PBlockPart PStmt PBlock PDo PElse PFor PIf PWhile (λ x y is. subst (λ z. PBlockPart (roll-BlockPart z)) is (node_block_part y)) (λ x y is. subst (λ z. PStmt (roll-Stmt z)) is (node_stmt y)) (λ x y is. subst (λ z. PBlock (roll-Block z)) is (node_block y)) (λ x y is. subst (λ z. PDo (roll-Do z)) is (node_do y)) (λ x y is. subst (λ z. PElse (roll-Else z)) is (node_else y)) (λ x y is. subst (λ z. PFor (roll-For z)) is (node_for y)) (λ x y is. subst (λ z. PIf (roll-If z)) is (node_if y)) (λ x y is. subst (λ z. PWhile (roll-While z)) is (node_while y))
