-- What a statement's parts are judged to be, node by node.
use Rattle.std.proofs.Common.{◌≡◌, List, Option, Some, None, sym, ap, ◌∙◌}
use Rattle.std.specs.Prelude.{map}
use Rattle.clc_lexer.specs.declared.token.Token.{Token}
use Rattle.clc_tree.specs.Statements as g
use Rattle.clc_tree.specs.declared.expressions.Expr.{Expr}
use Rattle.clc_tree.specs.declared.statements.Declare.{Declare}
use Rattle.clc_tree.specs.declared.statements.ForStart.{ForStart}
use Rattle.clc_tree.specs.declared.statements.BlockPart.{BlockPart}
use Rattle.clc_tree.specs.declared.statements.Stmt.{Stmt}
use Rattle.clc_tree.specs.declared.statements.Block.{Block}
use Rattle.clc_tree.specs.declared.statements.Do.{Do, roll-Do}
use Rattle.clc_tree.specs.declared.statements.Else.{Else}
use Rattle.clc_tree.specs.declared.statements.For.{For, roll-For}
use Rattle.clc_tree.specs.declared.statements.If.{If, roll-If}
use Rattle.clc_tree.specs.declared.statements.While.{While, roll-While}
use Rattle.clc_tree.specs.declared.statements.BlockPart.TheVariants as block_part
use Rattle.clc_tree.specs.declared.statements.Stmt.TheVariants as stmt
use Rattle.clc_tree.specs.declared.statements.BlockPart.TheOpen as o
use Rattle.clc_tree.specs.declared.statements.BlockPart.TheFolds as f
use Rattle.clc_types.specs.declared.typed.TStmt.{TStmt}
use Rattle.clc_types.specs.Blocks.{Piece, block_part_piece, stmt_piece, block_piece, do_piece, else_piece, for_piece, if_piece, while_piece}

abbrev pub j_block_part : BlockPart → Piece (List TStmt)
j_block_part = f.fold-BlockPart (Piece (List TStmt)) (Piece TStmt) (Piece (List TStmt)) (Piece TStmt) (Piece TStmt) (Piece TStmt) (Piece TStmt) (Piece TStmt) block_part_piece stmt_piece block_piece do_piece else_piece for_piece if_piece while_piece

abbrev pub j_stmt : Stmt → Piece TStmt
j_stmt = f.fold-Stmt (Piece (List TStmt)) (Piece TStmt) (Piece (List TStmt)) (Piece TStmt) (Piece TStmt) (Piece TStmt) (Piece TStmt) (Piece TStmt) block_part_piece stmt_piece block_piece do_piece else_piece for_piece if_piece while_piece

abbrev pub j_block : Block → Piece (List TStmt)
j_block = f.fold-Block (Piece (List TStmt)) (Piece TStmt) (Piece (List TStmt)) (Piece TStmt) (Piece TStmt) (Piece TStmt) (Piece TStmt) (Piece TStmt) block_part_piece stmt_piece block_piece do_piece else_piece for_piece if_piece while_piece

abbrev pub j_do : Do → Piece TStmt
j_do = f.fold-Do (Piece (List TStmt)) (Piece TStmt) (Piece (List TStmt)) (Piece TStmt) (Piece TStmt) (Piece TStmt) (Piece TStmt) (Piece TStmt) block_part_piece stmt_piece block_piece do_piece else_piece for_piece if_piece while_piece

abbrev pub j_else : Else → Piece TStmt
j_else = f.fold-Else (Piece (List TStmt)) (Piece TStmt) (Piece (List TStmt)) (Piece TStmt) (Piece TStmt) (Piece TStmt) (Piece TStmt) (Piece TStmt) block_part_piece stmt_piece block_piece do_piece else_piece for_piece if_piece while_piece

abbrev pub j_for : For → Piece TStmt
j_for = f.fold-For (Piece (List TStmt)) (Piece TStmt) (Piece (List TStmt)) (Piece TStmt) (Piece TStmt) (Piece TStmt) (Piece TStmt) (Piece TStmt) block_part_piece stmt_piece block_piece do_piece else_piece for_piece if_piece while_piece

abbrev pub j_if : If → Piece TStmt
j_if = f.fold-If (Piece (List TStmt)) (Piece TStmt) (Piece (List TStmt)) (Piece TStmt) (Piece TStmt) (Piece TStmt) (Piece TStmt) (Piece TStmt) block_part_piece stmt_piece block_piece do_piece else_piece for_piece if_piece while_piece

abbrev pub j_while : While → Piece TStmt
j_while = f.fold-While (Piece (List TStmt)) (Piece TStmt) (Piece (List TStmt)) (Piece TStmt) (Piece TStmt) (Piece TStmt) (Piece TStmt) (Piece TStmt) block_part_piece stmt_piece block_piece do_piece else_piece for_piece if_piece while_piece

pub part_declare : (d : Declare) → j_block_part (block_part.Declare d) ≡ block_part_piece (o.Declare d)
part_declare d = ap j_block_part (sym (block_part.rolls-Declare d)) ∙ f.fold-roll-BlockPart (Piece (List TStmt)) (Piece TStmt) (Piece (List TStmt)) (Piece TStmt) (Piece TStmt) (Piece TStmt) (Piece TStmt) (Piece TStmt) block_part_piece stmt_piece block_piece do_piece else_piece for_piece if_piece while_piece (o.Declare d)

pub part_stmt : (x : Stmt) → j_block_part (block_part.Stmt x) ≡ block_part_piece (o.Stmt (j_stmt x))
part_stmt x = ap j_block_part (sym (block_part.rolls-Stmt x)) ∙ f.fold-roll-BlockPart (Piece (List TStmt)) (Piece TStmt) (Piece (List TStmt)) (Piece TStmt) (Piece TStmt) (Piece TStmt) (Piece TStmt) (Piece TStmt) block_part_piece stmt_piece block_piece do_piece else_piece for_piece if_piece while_piece (o.Stmt x)

pub stmt_block : (b : Block) → j_stmt (stmt.Block b) ≡ stmt_piece (o.Block (j_block b))
stmt_block b = ap j_stmt (sym (stmt.rolls-Block b)) ∙ f.fold-roll-Stmt (Piece (List TStmt)) (Piece TStmt) (Piece (List TStmt)) (Piece TStmt) (Piece TStmt) (Piece TStmt) (Piece TStmt) (Piece TStmt) block_part_piece stmt_piece block_piece do_piece else_piece for_piece if_piece while_piece (o.Block b)

pub stmt_eval : (x : Expr) (t : Token) → j_stmt (stmt.Eval x t) ≡ stmt_piece (o.Eval x t)
stmt_eval x t = ap j_stmt (sym (stmt.rolls-Eval x t)) ∙ f.fold-roll-Stmt (Piece (List TStmt)) (Piece TStmt) (Piece (List TStmt)) (Piece TStmt) (Piece TStmt) (Piece TStmt) (Piece TStmt) (Piece TStmt) block_part_piece stmt_piece block_piece do_piece else_piece for_piece if_piece while_piece (o.Eval x t)

pub stmt_empty : (t : Token) → j_stmt (stmt.Empty t) ≡ stmt_piece (o.Empty t)
stmt_empty t = ap j_stmt (sym (stmt.rolls-Empty t)) ∙ f.fold-roll-Stmt (Piece (List TStmt)) (Piece TStmt) (Piece (List TStmt)) (Piece TStmt) (Piece TStmt) (Piece TStmt) (Piece TStmt) (Piece TStmt) block_part_piece stmt_piece block_piece do_piece else_piece for_piece if_piece while_piece (o.Empty t)

pub stmt_if : (x : If) → j_stmt (stmt.If x) ≡ stmt_piece (o.If (j_if x))
stmt_if x = ap j_stmt (sym (stmt.rolls-If x)) ∙ f.fold-roll-Stmt (Piece (List TStmt)) (Piece TStmt) (Piece (List TStmt)) (Piece TStmt) (Piece TStmt) (Piece TStmt) (Piece TStmt) (Piece TStmt) block_part_piece stmt_piece block_piece do_piece else_piece for_piece if_piece while_piece (o.If x)

pub stmt_while : (x : While) → j_stmt (stmt.While x) ≡ stmt_piece (o.While (j_while x))
stmt_while x = ap j_stmt (sym (stmt.rolls-While x)) ∙ f.fold-roll-Stmt (Piece (List TStmt)) (Piece TStmt) (Piece (List TStmt)) (Piece TStmt) (Piece TStmt) (Piece TStmt) (Piece TStmt) (Piece TStmt) block_part_piece stmt_piece block_piece do_piece else_piece for_piece if_piece while_piece (o.While x)

pub stmt_do : (x : Do) → j_stmt (stmt.Do x) ≡ stmt_piece (o.Do (j_do x))
stmt_do x = ap j_stmt (sym (stmt.rolls-Do x)) ∙ f.fold-roll-Stmt (Piece (List TStmt)) (Piece TStmt) (Piece (List TStmt)) (Piece TStmt) (Piece TStmt) (Piece TStmt) (Piece TStmt) (Piece TStmt) block_part_piece stmt_piece block_piece do_piece else_piece for_piece if_piece while_piece (o.Do x)

pub stmt_for : (x : For) → j_stmt (stmt.For x) ≡ stmt_piece (o.For (j_for x))
stmt_for x = ap j_stmt (sym (stmt.rolls-For x)) ∙ f.fold-roll-Stmt (Piece (List TStmt)) (Piece TStmt) (Piece (List TStmt)) (Piece TStmt) (Piece TStmt) (Piece TStmt) (Piece TStmt) (Piece TStmt) block_part_piece stmt_piece block_piece do_piece else_piece for_piece if_piece while_piece (o.For x)

pub stmt_break : (u : Token) (t : Token) → j_stmt (stmt.Break u t) ≡ stmt_piece (o.Break u t)
stmt_break u t = ap j_stmt (sym (stmt.rolls-Break u t)) ∙ f.fold-roll-Stmt (Piece (List TStmt)) (Piece TStmt) (Piece (List TStmt)) (Piece TStmt) (Piece TStmt) (Piece TStmt) (Piece TStmt) (Piece TStmt) block_part_piece stmt_piece block_piece do_piece else_piece for_piece if_piece while_piece (o.Break u t)

pub stmt_continue : (u : Token) (t : Token) → j_stmt (stmt.Continue u t) ≡ stmt_piece (o.Continue u t)
stmt_continue u t = ap j_stmt (sym (stmt.rolls-Continue u t)) ∙ f.fold-roll-Stmt (Piece (List TStmt)) (Piece TStmt) (Piece (List TStmt)) (Piece TStmt) (Piece TStmt) (Piece TStmt) (Piece TStmt) (Piece TStmt) block_part_piece stmt_piece block_piece do_piece else_piece for_piece if_piece while_piece (o.Continue u t)

pub stmt_return : (u : Token) (x : Option Expr) (t : Token) → j_stmt (stmt.Return u x t) ≡ stmt_piece (o.Return u x t)
stmt_return u x t = ap j_stmt (sym (stmt.rolls-Return u x t)) ∙ f.fold-roll-Stmt (Piece (List TStmt)) (Piece TStmt) (Piece (List TStmt)) (Piece TStmt) (Piece TStmt) (Piece TStmt) (Piece TStmt) (Piece TStmt) block_part_piece stmt_piece block_piece do_piece else_piece for_piece if_piece while_piece (o.Return u x t)

pub block_is : (l : Token) (parts : List BlockPart) (r : Token) → j_block (g.block_of l parts r) ≡ block_piece (record { opening = l; parts = map j_block_part parts; closing = r })
block_is l parts r = f.fold-roll-Block (Piece (List TStmt)) (Piece TStmt) (Piece (List TStmt)) (Piece TStmt) (Piece TStmt) (Piece TStmt) (Piece TStmt) (Piece TStmt) block_part_piece stmt_piece block_piece do_piece else_piece for_piece if_piece while_piece (record { opening = l; parts = parts; closing = r })

pub else_is : (t : Token) (x : Stmt) → j_else (g.else_of t x) ≡ else_piece (record { word = t; body = j_stmt x })
else_is t x = f.fold-roll-Else (Piece (List TStmt)) (Piece TStmt) (Piece (List TStmt)) (Piece TStmt) (Piece TStmt) (Piece TStmt) (Piece TStmt) (Piece TStmt) block_part_piece stmt_piece block_piece do_piece else_piece for_piece if_piece while_piece (record { word = t; body = x })

pub when_is : (u l : Token) (x : Expr) (r : Token) (y : Stmt) → j_stmt (g.if_of u l x r y None) ≡ if_piece (record { word = u; opening = l; test = x; closing = r; body = j_stmt y; other = None })
when_is u l x r y = stmt_if (roll-If (record { word = u; opening = l; test = x; closing = r; body = y; other = None })) ∙ f.fold-roll-If (Piece (List TStmt)) (Piece TStmt) (Piece (List TStmt)) (Piece TStmt) (Piece TStmt) (Piece TStmt) (Piece TStmt) (Piece TStmt) block_part_piece stmt_piece block_piece do_piece else_piece for_piece if_piece while_piece (record { word = u; opening = l; test = x; closing = r; body = y; other = None })

pub choose_is : (u l : Token) (x : Expr) (r : Token) (y : Stmt) (z : Else) → j_stmt (g.if_of u l x r y (Some z)) ≡ if_piece (record { word = u; opening = l; test = x; closing = r; body = j_stmt y; other = Some (j_else z) })
choose_is u l x r y z = stmt_if (roll-If (record { word = u; opening = l; test = x; closing = r; body = y; other = Some z })) ∙ f.fold-roll-If (Piece (List TStmt)) (Piece TStmt) (Piece (List TStmt)) (Piece TStmt) (Piece TStmt) (Piece TStmt) (Piece TStmt) (Piece TStmt) block_part_piece stmt_piece block_piece do_piece else_piece for_piece if_piece while_piece (record { word = u; opening = l; test = x; closing = r; body = y; other = Some z })

pub loop_is : (u l : Token) (x : Expr) (r : Token) (y : Stmt) → j_stmt (g.while_of u l x r y) ≡ while_piece (record { word = u; opening = l; test = x; closing = r; body = j_stmt y })
loop_is u l x r y = stmt_while (roll-While (record { word = u; opening = l; test = x; closing = r; body = y })) ∙ f.fold-roll-While (Piece (List TStmt)) (Piece TStmt) (Piece (List TStmt)) (Piece TStmt) (Piece TStmt) (Piece TStmt) (Piece TStmt) (Piece TStmt) block_part_piece stmt_piece block_piece do_piece else_piece for_piece if_piece while_piece (record { word = u; opening = l; test = x; closing = r; body = y })

pub until_is : (u : Token) (y : Stmt) (d l : Token) (x : Expr) (r t : Token) → j_stmt (g.do_of u y d l x r t) ≡ do_piece (record { word = u; body = j_stmt y; until = d; opening = l; test = x; closing = r; end = t })
until_is u y d l x r t = stmt_do (roll-Do (record { word = u; body = y; until = d; opening = l; test = x; closing = r; end = t })) ∙ f.fold-roll-Do (Piece (List TStmt)) (Piece TStmt) (Piece (List TStmt)) (Piece TStmt) (Piece TStmt) (Piece TStmt) (Piece TStmt) (Piece TStmt) block_part_piece stmt_piece block_piece do_piece else_piece for_piece if_piece while_piece (record { word = u; body = y; until = d; opening = l; test = x; closing = r; end = t })

pub count_is : (u l : Token) (i : ForStart) (x : Option Expr) (t : Token) (z : Option Expr) (r : Token) (y : Stmt) → j_stmt (g.for_of u l i x t z r y) ≡ for_piece (record { word = u; opening = l; start = i; test = x; middle = t; step = z; closing = r; body = j_stmt y })
count_is u l i x t z r y = stmt_for (roll-For (record { word = u; opening = l; start = i; test = x; middle = t; step = z; closing = r; body = y })) ∙ f.fold-roll-For (Piece (List TStmt)) (Piece TStmt) (Piece (List TStmt)) (Piece TStmt) (Piece TStmt) (Piece TStmt) (Piece TStmt) (Piece TStmt) block_part_piece stmt_piece block_piece do_piece else_piece for_piece if_piece while_piece (record { word = u; opening = l; start = i; test = x; middle = t; step = z; closing = r; body = y })
