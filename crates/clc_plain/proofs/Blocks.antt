-- What is judged of a block and of a program is plain, node by node.
use Rattle.std.proofs.Common.{◌≡◌, ℕ, ◌+◌, true, false, List, [], ◌∷◌, ◌++◌, Option, Some, None, refl, sym, ap, ◌∙◌, subst}
use Rattle.std.specs.Prelude.{map}
use Rattle.clc_tree.specs.declared.functions.Function.{Function}
use Rattle.clc_tree.specs.declared.functions.Tree.{Tree}
use Rattle.clc_tree.specs.declared.statements.BlockPart.{BlockPart, roll-BlockPart}
use Rattle.clc_tree.specs.declared.statements.Stmt.{Stmt, roll-Stmt}
use Rattle.clc_tree.specs.declared.statements.Block.{Block, roll-Block}
use Rattle.clc_tree.specs.declared.statements.Do.{Do, roll-Do}
use Rattle.clc_tree.specs.declared.statements.Else.{Else, roll-Else}
use Rattle.clc_tree.specs.declared.statements.For.{For, roll-For}
use Rattle.clc_tree.specs.declared.statements.If.{If, roll-If}
use Rattle.clc_tree.specs.declared.statements.While.{While, roll-While}
use Rattle.clc_tree.specs.declared.statements.BlockPart.TheOpen as o
use Rattle.clc_tree.specs.declared.statements.BlockPart.TheOpen.{BlockPart-F, Stmt-F, Block-F, Do-F, Else-F, For-F, If-F, While-F}
use Rattle.clc_tree.specs.declared.statements.BlockPart.TheFolds.{fold-BlockPart, fold-roll-BlockPart, map-BlockPart, fold-Stmt, fold-roll-Stmt, map-Stmt, fold-Block, fold-roll-Block, map-Block, ind-Block, fold-Do, fold-roll-Do, map-Do, fold-Else, fold-roll-Else, map-Else, fold-For, fold-roll-For, map-For, fold-If, fold-roll-If, map-If, fold-While, fold-roll-While, map-While}
use Rattle.clc_types.specs.declared.typed.TExpr.{TExpr}
use Rattle.clc_types.specs.declared.typed.TStmt.{TStmt}
use Rattle.clc_types.specs.declared.typed.TStmt.TheVariants as st
use Rattle.clc_types.specs.declared.typed.TFunction.{TFunction}
use Rattle.clc_types.specs.Judged.{Fine, both}
use Rattle.clc_types.specs.Blocks.{Piece, block, nothing, past, seq, made, maybe, listed, looping, condition, value, maybe_condition, maybe_value, for_start_piece, block_part_piece, stmt_piece, block_piece, do_piece, else_piece, for_piece, if_piece, while_piece}
use Rattle.clc_types.specs.Programs.{Before, inside, params_piece, head, function_piece, function_at, functions_at, with_function, no_function, program}
use Rattle.clc_plain.specs.Plain.{are_plain}
use Rattle.clc_plain.proofs.Typed.{yes, Whole, Wholes, Starts, wholes_append, eval_whole, empty_whole, break_whole, continue_whole, block_whole, when_whole, choose_whole, while_whole, do_whole, for_whole}
use Rattle.clc_plain.proofs.Pieces.{fine_is, next_parts, both_parts, Gives, Any, any_gives, nothing_gives, made_gives, seq_gives, past_gives, opened_gives, looping_gives, declare_gives, start_gives, jump_gives, returned_gives}

abbrev j_block_part : BlockPart → Piece (List TStmt)
j_block_part = fold-BlockPart (Piece (List TStmt)) (Piece TStmt) (Piece (List TStmt)) (Piece TStmt) (Piece TStmt) (Piece TStmt) (Piece TStmt) (Piece TStmt) block_part_piece stmt_piece block_piece do_piece else_piece for_piece if_piece while_piece

abbrev j_stmt : Stmt → Piece TStmt
j_stmt = fold-Stmt (Piece (List TStmt)) (Piece TStmt) (Piece (List TStmt)) (Piece TStmt) (Piece TStmt) (Piece TStmt) (Piece TStmt) (Piece TStmt) block_part_piece stmt_piece block_piece do_piece else_piece for_piece if_piece while_piece

abbrev j_block : Block → Piece (List TStmt)
j_block = fold-Block (Piece (List TStmt)) (Piece TStmt) (Piece (List TStmt)) (Piece TStmt) (Piece TStmt) (Piece TStmt) (Piece TStmt) (Piece TStmt) block_part_piece stmt_piece block_piece do_piece else_piece for_piece if_piece while_piece

abbrev j_do : Do → Piece TStmt
j_do = fold-Do (Piece (List TStmt)) (Piece TStmt) (Piece (List TStmt)) (Piece TStmt) (Piece TStmt) (Piece TStmt) (Piece TStmt) (Piece TStmt) block_part_piece stmt_piece block_piece do_piece else_piece for_piece if_piece while_piece

abbrev j_else : Else → Piece TStmt
j_else = fold-Else (Piece (List TStmt)) (Piece TStmt) (Piece (List TStmt)) (Piece TStmt) (Piece TStmt) (Piece TStmt) (Piece TStmt) (Piece TStmt) block_part_piece stmt_piece block_piece do_piece else_piece for_piece if_piece while_piece

abbrev j_for : For → Piece TStmt
j_for = fold-For (Piece (List TStmt)) (Piece TStmt) (Piece (List TStmt)) (Piece TStmt) (Piece TStmt) (Piece TStmt) (Piece TStmt) (Piece TStmt) block_part_piece stmt_piece block_piece do_piece else_piece for_piece if_piece while_piece

abbrev j_if : If → Piece TStmt
j_if = fold-If (Piece (List TStmt)) (Piece TStmt) (Piece (List TStmt)) (Piece TStmt) (Piece TStmt) (Piece TStmt) (Piece TStmt) (Piece TStmt) block_part_piece stmt_piece block_piece do_piece else_piece for_piece if_piece while_piece

abbrev j_while : While → Piece TStmt
j_while = fold-While (Piece (List TStmt)) (Piece TStmt) (Piece (List TStmt)) (Piece TStmt) (Piece TStmt) (Piece TStmt) (Piece TStmt) (Piece TStmt) block_part_piece stmt_piece block_piece do_piece else_piece for_piece if_piece while_piece

abbrev PBlockPart : BlockPart → Type 0
PBlockPart e = Gives Wholes (j_block_part e)

abbrev SubBlockPart : Type 0
SubBlockPart = (e : BlockPart) × PBlockPart e

abbrev PStmt : Stmt → Type 0
PStmt e = Gives Whole (j_stmt e)

abbrev SubStmt : Type 0
SubStmt = (e : Stmt) × PStmt e

abbrev PBlock : Block → Type 0
PBlock e = Gives Wholes (j_block e)

abbrev SubBlock : Type 0
SubBlock = (e : Block) × PBlock e

abbrev PDo : Do → Type 0
PDo e = Gives Whole (j_do e)

abbrev SubDo : Type 0
SubDo = (e : Do) × PDo e

abbrev PElse : Else → Type 0
PElse e = Gives Whole (j_else e)

abbrev SubElse : Type 0
SubElse = (e : Else) × PElse e

abbrev PFor : For → Type 0
PFor e = Gives Whole (j_for e)

abbrev SubFor : Type 0
SubFor = (e : For) × PFor e

abbrev PIf : If → Type 0
PIf e = Gives Whole (j_if e)

abbrev SubIf : Type 0
SubIf = (e : If) × PIf e

abbrev PWhile : While → Type 0
PWhile e = Gives Whole (j_while e)

abbrev SubWhile : Type 0
SubWhile = (e : While) × PWhile e

rolled_block_part : (x : BlockPart-F BlockPart Stmt Block Do Else For If While) → Gives Wholes (block_part_piece (map-BlockPart BlockPart Stmt Block Do Else For If While (Piece (List TStmt)) (Piece TStmt) (Piece (List TStmt)) (Piece TStmt) (Piece TStmt) (Piece TStmt) (Piece TStmt) (Piece TStmt) j_block_part j_stmt j_block j_do j_else j_for j_if j_while x)) → PBlockPart (roll-BlockPart x)
rolled_block_part x g = subst (λ z. Gives Wholes z) (sym (fold-roll-BlockPart (Piece (List TStmt)) (Piece TStmt) (Piece (List TStmt)) (Piece TStmt) (Piece TStmt) (Piece TStmt) (Piece TStmt) (Piece TStmt) block_part_piece stmt_piece block_piece do_piece else_piece for_piece if_piece while_piece x)) g

rolled_stmt : (x : Stmt-F BlockPart Stmt Block Do Else For If While) → Gives Whole (stmt_piece (map-Stmt BlockPart Stmt Block Do Else For If While (Piece (List TStmt)) (Piece TStmt) (Piece (List TStmt)) (Piece TStmt) (Piece TStmt) (Piece TStmt) (Piece TStmt) (Piece TStmt) j_block_part j_stmt j_block j_do j_else j_for j_if j_while x)) → PStmt (roll-Stmt x)
rolled_stmt x g = subst (λ z. Gives Whole z) (sym (fold-roll-Stmt (Piece (List TStmt)) (Piece TStmt) (Piece (List TStmt)) (Piece TStmt) (Piece TStmt) (Piece TStmt) (Piece TStmt) (Piece TStmt) block_part_piece stmt_piece block_piece do_piece else_piece for_piece if_piece while_piece x)) g

rolled_block : (x : Block-F BlockPart Stmt Block Do Else For If While) → Gives Wholes (block_piece (map-Block BlockPart Stmt Block Do Else For If While (Piece (List TStmt)) (Piece TStmt) (Piece (List TStmt)) (Piece TStmt) (Piece TStmt) (Piece TStmt) (Piece TStmt) (Piece TStmt) j_block_part j_stmt j_block j_do j_else j_for j_if j_while x)) → PBlock (roll-Block x)
rolled_block x g = subst (λ z. Gives Wholes z) (sym (fold-roll-Block (Piece (List TStmt)) (Piece TStmt) (Piece (List TStmt)) (Piece TStmt) (Piece TStmt) (Piece TStmt) (Piece TStmt) (Piece TStmt) block_part_piece stmt_piece block_piece do_piece else_piece for_piece if_piece while_piece x)) g

rolled_do : (x : Do-F BlockPart Stmt Block Do Else For If While) → Gives Whole (do_piece (map-Do BlockPart Stmt Block Do Else For If While (Piece (List TStmt)) (Piece TStmt) (Piece (List TStmt)) (Piece TStmt) (Piece TStmt) (Piece TStmt) (Piece TStmt) (Piece TStmt) j_block_part j_stmt j_block j_do j_else j_for j_if j_while x)) → PDo (roll-Do x)
rolled_do x g = subst (λ z. Gives Whole z) (sym (fold-roll-Do (Piece (List TStmt)) (Piece TStmt) (Piece (List TStmt)) (Piece TStmt) (Piece TStmt) (Piece TStmt) (Piece TStmt) (Piece TStmt) block_part_piece stmt_piece block_piece do_piece else_piece for_piece if_piece while_piece x)) g

rolled_else : (x : Else-F BlockPart Stmt Block Do Else For If While) → Gives Whole (else_piece (map-Else BlockPart Stmt Block Do Else For If While (Piece (List TStmt)) (Piece TStmt) (Piece (List TStmt)) (Piece TStmt) (Piece TStmt) (Piece TStmt) (Piece TStmt) (Piece TStmt) j_block_part j_stmt j_block j_do j_else j_for j_if j_while x)) → PElse (roll-Else x)
rolled_else x g = subst (λ z. Gives Whole z) (sym (fold-roll-Else (Piece (List TStmt)) (Piece TStmt) (Piece (List TStmt)) (Piece TStmt) (Piece TStmt) (Piece TStmt) (Piece TStmt) (Piece TStmt) block_part_piece stmt_piece block_piece do_piece else_piece for_piece if_piece while_piece x)) g

rolled_for : (x : For-F BlockPart Stmt Block Do Else For If While) → Gives Whole (for_piece (map-For BlockPart Stmt Block Do Else For If While (Piece (List TStmt)) (Piece TStmt) (Piece (List TStmt)) (Piece TStmt) (Piece TStmt) (Piece TStmt) (Piece TStmt) (Piece TStmt) j_block_part j_stmt j_block j_do j_else j_for j_if j_while x)) → PFor (roll-For x)
rolled_for x g = subst (λ z. Gives Whole z) (sym (fold-roll-For (Piece (List TStmt)) (Piece TStmt) (Piece (List TStmt)) (Piece TStmt) (Piece TStmt) (Piece TStmt) (Piece TStmt) (Piece TStmt) block_part_piece stmt_piece block_piece do_piece else_piece for_piece if_piece while_piece x)) g

rolled_if : (x : If-F BlockPart Stmt Block Do Else For If While) → Gives Whole (if_piece (map-If BlockPart Stmt Block Do Else For If While (Piece (List TStmt)) (Piece TStmt) (Piece (List TStmt)) (Piece TStmt) (Piece TStmt) (Piece TStmt) (Piece TStmt) (Piece TStmt) j_block_part j_stmt j_block j_do j_else j_for j_if j_while x)) → PIf (roll-If x)
rolled_if x g = subst (λ z. Gives Whole z) (sym (fold-roll-If (Piece (List TStmt)) (Piece TStmt) (Piece (List TStmt)) (Piece TStmt) (Piece TStmt) (Piece TStmt) (Piece TStmt) (Piece TStmt) block_part_piece stmt_piece block_piece do_piece else_piece for_piece if_piece while_piece x)) g

rolled_while : (x : While-F BlockPart Stmt Block Do Else For If While) → Gives Whole (while_piece (map-While BlockPart Stmt Block Do Else For If While (Piece (List TStmt)) (Piece TStmt) (Piece (List TStmt)) (Piece TStmt) (Piece TStmt) (Piece TStmt) (Piece TStmt) (Piece TStmt) j_block_part j_stmt j_block j_do j_else j_for j_if j_while x)) → PWhile (roll-While x)
rolled_while x g = subst (λ z. Gives Whole z) (sym (fold-roll-While (Piece (List TStmt)) (Piece TStmt) (Piece (List TStmt)) (Piece TStmt) (Piece TStmt) (Piece TStmt) (Piece TStmt) (Piece TStmt) block_part_piece stmt_piece block_piece do_piece else_piece for_piece if_piece while_piece x)) g

parts_give : (xs : List SubBlockPart) → Gives Wholes (listed (map j_block_part (map (λ e. e.0) xs)))
parts_give [] = nothing_gives Wholes [] refl
parts_give (x ∷ xs) =
    made_gives (λ y. Wholes y.0 × Wholes y.1) Wholes (λ y. y.0 ++ y.1) (seq (j_block_part x.0) (listed (map j_block_part (map (λ e. e.0) xs)))) (λ y h. wholes_append y.0 y.1 h.0 h.1)
    (seq_gives Wholes Wholes (j_block_part x.0) (listed (map j_block_part (map (λ e. e.0) xs))) x.1 (parts_give xs))

-- a list of one
one_whole : (y : TStmt) → Whole y → Wholes (y ∷ [])
one_whole y h = yes h refl

node_block_part : (y : BlockPart-F SubBlockPart SubStmt SubBlock SubDo SubElse SubFor SubIf SubWhile) → PBlockPart (roll-BlockPart (map-BlockPart SubBlockPart SubStmt SubBlock SubDo SubElse SubFor SubIf SubWhile BlockPart Stmt Block Do Else For If While (λ e. e.0) (λ e. e.0) (λ e. e.0) (λ e. e.0) (λ e. e.0) (λ e. e.0) (λ e. e.0) (λ e. e.0) y))
node_block_part (o.Declare d) = rolled_block_part (o.Declare d) (λ c l from p y h. (declare_gives d c l from p y h).0)
node_block_part (o.Stmt x) = rolled_block_part (o.Stmt x.0) (made_gives Whole Wholes (λ y. y ∷ []) (j_stmt x.0) one_whole x.1)

node_stmt : (y : Stmt-F SubBlockPart SubStmt SubBlock SubDo SubElse SubFor SubIf SubWhile) → PStmt (roll-Stmt (map-Stmt SubBlockPart SubStmt SubBlock SubDo SubElse SubFor SubIf SubWhile BlockPart Stmt Block Do Else For If While (λ e. e.0) (λ e. e.0) (λ e. e.0) (λ e. e.0) (λ e. e.0) (λ e. e.0) (λ e. e.0) (λ e. e.0) y))
node_stmt (o.Block b) = rolled_stmt (o.Block b.0) (opened_gives Whole 1 (made (λ y. st.Block y) (j_block b.0)) (made_gives Wholes Whole (λ y. st.Block y) (j_block b.0) block_whole b.1))
node_stmt (o.Eval e t) = rolled_stmt (o.Eval e t) (made_gives Any Whole (λ y. st.Eval y) (value e) (λ y h. eval_whole y) (any_gives (value e)))
node_stmt (o.Empty t) = rolled_stmt (o.Empty t) (nothing_gives Whole st.Empty empty_whole)
node_stmt (o.If x) = rolled_stmt (o.If x.0) x.1
node_stmt (o.While x) = rolled_stmt (o.While x.0) x.1
node_stmt (o.Do x) = rolled_stmt (o.Do x.0) x.1
node_stmt (o.For x) = rolled_stmt (o.For x.0) x.1
node_stmt (o.Break w t) = rolled_stmt (o.Break w t) (jump_gives st.Break break_whole)
node_stmt (o.Continue w t) = rolled_stmt (o.Continue w t) (jump_gives st.Continue continue_whole)
node_stmt (o.Return w e t) = rolled_stmt (o.Return w e t) (returned_gives e)

node_block : (y : Block-F SubBlockPart SubStmt SubBlock SubDo SubElse SubFor SubIf SubWhile) → PBlock (roll-Block (map-Block SubBlockPart SubStmt SubBlock SubDo SubElse SubFor SubIf SubWhile BlockPart Stmt Block Do Else For If While (λ e. e.0) (λ e. e.0) (λ e. e.0) (λ e. e.0) (λ e. e.0) (λ e. e.0) (λ e. e.0) (λ e. e.0) y))
node_block y = rolled_block (map-Block SubBlockPart SubStmt SubBlock SubDo SubElse SubFor SubIf SubWhile BlockPart Stmt Block Do Else For If While (λ e. e.0) (λ e. e.0) (λ e. e.0) (λ e. e.0) (λ e. e.0) (λ e. e.0) (λ e. e.0) (λ e. e.0) y) (parts_give y.parts)

node_do : (y : Do-F SubBlockPart SubStmt SubBlock SubDo SubElse SubFor SubIf SubWhile) → PDo (roll-Do (map-Do SubBlockPart SubStmt SubBlock SubDo SubElse SubFor SubIf SubWhile BlockPart Stmt Block Do Else For If While (λ e. e.0) (λ e. e.0) (λ e. e.0) (λ e. e.0) (λ e. e.0) (λ e. e.0) (λ e. e.0) (λ e. e.0) y))
node_do y =
    rolled_do (map-Do SubBlockPart SubStmt SubBlock SubDo SubElse SubFor SubIf SubWhile BlockPart Stmt Block Do Else For If While (λ e. e.0) (λ e. e.0) (λ e. e.0) (λ e. e.0) (λ e. e.0) (λ e. e.0) (λ e. e.0) (λ e. e.0) y)
    (let a = past 1 (looping (j_stmt y.body.0)) in let b = past 2 (condition y.test) in
    made_gives (λ z. Whole z.0 × Any z.1) Whole (λ z. st.Do z.0 z.1) (seq a b) (λ z h. do_whole z.0 z.1 h.0) (seq_gives Whole Any a b (past_gives Whole 1 (looping (j_stmt y.body.0)) (looping_gives Whole (j_stmt y.body.0) y.body.1)) (any_gives b)))

node_else : (y : Else-F SubBlockPart SubStmt SubBlock SubDo SubElse SubFor SubIf SubWhile) → PElse (roll-Else (map-Else SubBlockPart SubStmt SubBlock SubDo SubElse SubFor SubIf SubWhile BlockPart Stmt Block Do Else For If While (λ e. e.0) (λ e. e.0) (λ e. e.0) (λ e. e.0) (λ e. e.0) (λ e. e.0) (λ e. e.0) (λ e. e.0) y))
node_else y = rolled_else (map-Else SubBlockPart SubStmt SubBlock SubDo SubElse SubFor SubIf SubWhile BlockPart Stmt Block Do Else For If While (λ e. e.0) (λ e. e.0) (λ e. e.0) (λ e. e.0) (λ e. e.0) (λ e. e.0) (λ e. e.0) (λ e. e.0) y) (past_gives Whole 1 (j_stmt y.body.0) y.body.1)

node_for : (y : For-F SubBlockPart SubStmt SubBlock SubDo SubElse SubFor SubIf SubWhile) → PFor (roll-For (map-For SubBlockPart SubStmt SubBlock SubDo SubElse SubFor SubIf SubWhile BlockPart Stmt Block Do Else For If While (λ e. e.0) (λ e. e.0) (λ e. e.0) (λ e. e.0) (λ e. e.0) (λ e. e.0) (λ e. e.0) (λ e. e.0) y))
node_for y =
    rolled_for (map-For SubBlockPart SubStmt SubBlock SubDo SubElse SubFor SubIf SubWhile BlockPart Stmt Block Do Else For If While (λ e. e.0) (λ e. e.0) (λ e. e.0) (λ e. e.0) (λ e. e.0) (λ e. e.0) (λ e. e.0) (λ e. e.0) y)
    (let b = maybe_condition y.test in let c = past 1 (maybe_value y.step) in let d = past 1 (looping (j_stmt y.body.0)) in
    let whole = seq (for_start_piece y.start) (seq b (seq c d)) in
    opened_gives Whole 2 (made (λ z. st.For z.0 z.1.0 z.1.1.0 z.1.1.1) whole)
    (made_gives (λ z. Starts z.0 × (Any z.1.0 × (Any z.1.1.0 × Whole z.1.1.1))) Whole (λ z. st.For z.0 z.1.0 z.1.1.0 z.1.1.1) whole (λ z h. for_whole z.0 z.1.0 z.1.1.0 z.1.1.1 h.0 h.1.1.1)
    (seq_gives Starts (λ z. Any z.0 × (Any z.1.0 × Whole z.1.1)) (for_start_piece y.start) (seq b (seq c d)) (start_gives y.start)
    (seq_gives Any (λ z. Any z.0 × Whole z.1) b (seq c d) (any_gives b) (seq_gives Any Whole c d (any_gives c) (past_gives Whole 1 (looping (j_stmt y.body.0)) (looping_gives Whole (j_stmt y.body.0) y.body.1)))))))

-- the statement after `else`
abbrev IsOther : Option TStmt → Type 0
IsOther None = ⊥
IsOther (Some y) = Whole y

other_whole : (e : TExpr) (a : TStmt) (o : Option TStmt) → Whole a → IsOther o → Whole (st.If e a o)
other_whole e a None h i = absurd i
other_whole e a (Some b) h i = choose_whole e a b h i

if_gives : (y : If-F SubBlockPart SubStmt SubBlock SubDo SubElse SubFor SubIf SubWhile) (x : Option SubElse)
    → PIf (roll-If (map-If SubBlockPart SubStmt SubBlock SubDo SubElse SubFor SubIf SubWhile BlockPart Stmt Block Do Else For If While (λ e. e.0) (λ e. e.0) (λ e. e.0) (λ e. e.0) (λ e. e.0) (λ e. e.0) (λ e. e.0) (λ e. e.0) (record { word = y.word; opening = y.opening; test = y.test; closing = y.closing; body = y.body; other = x })))
if_gives y None =
    rolled_if (map-If SubBlockPart SubStmt SubBlock SubDo SubElse SubFor SubIf SubWhile BlockPart Stmt Block Do Else For If While (λ e. e.0) (λ e. e.0) (λ e. e.0) (λ e. e.0) (λ e. e.0) (λ e. e.0) (λ e. e.0) (λ e. e.0) (record { word = y.word; opening = y.opening; test = y.test; closing = y.closing; body = y.body; other = None }))
    (let a = past 2 (condition y.test) in let b = past 1 (j_stmt y.body.0) in let c : Piece (Option TStmt) = nothing None in
    made_gives (λ z. Any z.0 × (Whole z.1.0 × (z.1.1 ≡ None))) Whole (λ z. st.If z.0 z.1.0 z.1.1) (seq a (seq b c)) (λ z h. subst (λ w. Whole (st.If z.0 z.1.0 w)) (sym h.1.1) (when_whole z.0 z.1.0 h.1.0))
    (seq_gives Any (λ z. Whole z.0 × (z.1 ≡ None)) a (seq b c) (any_gives a) (seq_gives Whole (λ z. z ≡ None) b c (past_gives Whole 1 (j_stmt y.body.0) y.body.1) (nothing_gives (λ z. z ≡ None) None refl))))
if_gives y (Some x) =
    rolled_if (map-If SubBlockPart SubStmt SubBlock SubDo SubElse SubFor SubIf SubWhile BlockPart Stmt Block Do Else For If While (λ e. e.0) (λ e. e.0) (λ e. e.0) (λ e. e.0) (λ e. e.0) (λ e. e.0) (λ e. e.0) (λ e. e.0) (record { word = y.word; opening = y.opening; test = y.test; closing = y.closing; body = y.body; other = Some x }))
    (let a = past 2 (condition y.test) in let b = past 1 (j_stmt y.body.0) in let c = maybe (Some (j_else x.0)) in
    made_gives (λ z. Any z.0 × (Whole z.1.0 × IsOther z.1.1)) Whole (λ z. st.If z.0 z.1.0 z.1.1) (seq a (seq b c)) (λ z h. other_whole z.0 z.1.0 z.1.1 h.1.0 h.1.1)
    (seq_gives Any (λ z. Whole z.0 × IsOther z.1) a (seq b c) (any_gives a) (seq_gives Whole IsOther b c (past_gives Whole 1 (j_stmt y.body.0) y.body.1) (made_gives Whole IsOther (λ z. Some z) (j_else x.0) (λ z h. h) x.1))))

node_if : (y : If-F SubBlockPart SubStmt SubBlock SubDo SubElse SubFor SubIf SubWhile) → PIf (roll-If (map-If SubBlockPart SubStmt SubBlock SubDo SubElse SubFor SubIf SubWhile BlockPart Stmt Block Do Else For If While (λ e. e.0) (λ e. e.0) (λ e. e.0) (λ e. e.0) (λ e. e.0) (λ e. e.0) (λ e. e.0) (λ e. e.0) y))
node_if y = if_gives y y.other

node_while : (y : While-F SubBlockPart SubStmt SubBlock SubDo SubElse SubFor SubIf SubWhile) → PWhile (roll-While (map-While SubBlockPart SubStmt SubBlock SubDo SubElse SubFor SubIf SubWhile BlockPart Stmt Block Do Else For If While (λ e. e.0) (λ e. e.0) (λ e. e.0) (λ e. e.0) (λ e. e.0) (λ e. e.0) (λ e. e.0) (λ e. e.0) y))
node_while y =
    rolled_while (map-While SubBlockPart SubStmt SubBlock SubDo SubElse SubFor SubIf SubWhile BlockPart Stmt Block Do Else For If While (λ e. e.0) (λ e. e.0) (λ e. e.0) (λ e. e.0) (λ e. e.0) (λ e. e.0) (λ e. e.0) (λ e. e.0) y)
    (let a = past 2 (condition y.test) in let b = past 1 (looping (j_stmt y.body.0)) in
    made_gives (λ z. Any z.0 × Whole z.1) Whole (λ z. st.While z.0 z.1) (seq a b) (λ z h. while_whole z.0 z.1 h.1) (seq_gives Any Whole a b (any_gives a) (past_gives Whole 1 (looping (j_stmt y.body.0)) (looping_gives Whole (j_stmt y.body.0) y.body.1))))

block_gives : (b : Block) → Gives Wholes (block b)
block_gives =
    ind-Block PBlockPart PStmt PBlock PDo PElse PFor PIf PWhile (λ x y is. subst (λ z. PBlockPart (roll-BlockPart z)) is (node_block_part y)) (λ x y is. subst (λ z. PStmt (roll-Stmt z)) is (node_stmt y)) (λ x y is. subst (λ z. PBlock (roll-Block z)) is (node_block y)) (λ x y is. subst (λ z. PDo (roll-Do z)) is (node_do y)) (λ x y is. subst (λ z. PElse (roll-Else z)) is (node_else y)) (λ x y is. subst (λ z. PFor (roll-For z)) is (node_for y)) (λ x y is. subst (λ z. PIf (roll-If z)) is (node_if y)) (λ x y is. subst (λ z. PWhile (roll-While z)) is (node_while y))

-- ---- functions

inside_gives : (f : Function) → Gives Wholes (inside f)
inside_gives f =
    let a = past 1 (params_piece f.params) in let b = past 2 (block f.body) in
    made_gives (λ y. Any y.0 × Wholes y.1) Wholes (λ y. y.1) (seq a b) (λ y h. h.1) (seq_gives Any Wholes a b (any_gives a) (past_gives Wholes 2 (block f.body) (block_gives f.body)))

function_gives : (fs : List (List ℕ)) (f : Function) → Gives Wholes (function_piece fs f)
function_gives fs f = made_gives (λ y. Any y.0 × Wholes y.1) Wholes (λ y. y.1) (seq (head fs f) (inside f)) (λ y h. h.1) (seq_gives Any Wholes (head fs f) (inside f) (any_gives (head fs f)) (inside_gives f))

function_plain : (b : Before) (p : ℕ) (f : Function) (y : TFunction) → function_at b p f ≡ Fine y → Whole y.body
function_plain b p f y h = let d = next_parts _ _ y h in subst (λ z. Whole z.body) (fine_is _ y d.2) (block_whole d.0 (function_gives b.names f _ false p p d.0 d.1))

functions_plain : (fs : List Function) (b : Before) (p : ℕ) (ys : List TFunction) → functions_at b p fs ≡ Fine ys → are_plain ys ≡ true
functions_plain [] b p ys h = ap are_plain (sym (fine_is [] ys h))
functions_plain (f ∷ more) b p ys h =
    let q = p + (function_piece b.names f).tokens in
    let d = next_parts (both (function_at b p f) (functions_at (with_function b p f) q more)) (λ y. Fine (y.0 ∷ y.1)) ys h in
    let e = both_parts (function_at b p f) (functions_at (with_function b p f) q more) d.0 d.1 in
    ap are_plain (sym (fine_is (d.0.0 ∷ d.0.1) ys d.2)) ∙ yes (function_plain b p f d.0.0 e.0) (functions_plain more (with_function b p f) q d.0.1 e.1)

pub program_plain : (tree : Tree) (functions : List TFunction) → program tree ≡ Fine functions → are_plain functions ≡ true
program_plain tree functions h = functions_plain tree.functions no_function 0 functions h
