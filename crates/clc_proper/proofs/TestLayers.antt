-- What the tests say of each variant and struct of a tree, by what they say of its parts.
use Rattle.std.proofs.Common.{◌≡◌, ℕ, Bool, true, false, ◌&&◌, List, Option, Some, None, sym, ap, ◌∙◌}
use Rattle.std.specs.Prelude.{map}
use Rattle.clc_lexer.specs.declared.token.Token.{Token}
use Rattle.clc_tree.specs.Kinds.{is, rank, ranks}
use Rattle.clc_tree.specs.declared.kinds.Kind.TheVariants as k
use Rattle.clc_tree.specs.Expressions as e
use Rattle.clc_tree.specs.Statements as g
use Rattle.clc_proper.specs.Proper.{all, when, scalar_proper, fits, level, assign_test, cast_test, chain_test, post_step_test, primary_test, unary_test, chain_step_test, choice_test, comma_step_test, cond_test, expr_test, post_test, block_part_test, stmt_test, block_test, do_test, else_test, for_test, if_test, while_test, assign_proper, cast_proper, chain_top, post_step_proper, primary_proper, unary_proper, step_top, choice_proper, comma_step_proper, cond_proper, expr_proper, post_proper, part_proper, stmt_open, block_proper, do_open, else_open, for_open, if_open, while_open, declare_proper, maybe_proper, for_head_proper, tested_proper, branches, closes, is_some}
use Rattle.clc_tree.specs.declared.expressions.Scalar.{Scalar}
use Rattle.clc_tree.specs.declared.expressions.Assign.{Assign}
use Rattle.clc_tree.specs.declared.expressions.Cast.{Cast}
use Rattle.clc_tree.specs.declared.expressions.Chain.{Chain}
use Rattle.clc_tree.specs.declared.expressions.PostStep.{PostStep}
use Rattle.clc_tree.specs.declared.expressions.Primary.{Primary}
use Rattle.clc_tree.specs.declared.expressions.Unary.{Unary}
use Rattle.clc_tree.specs.declared.expressions.ChainStep.{ChainStep}
use Rattle.clc_tree.specs.declared.expressions.Choice.{Choice}
use Rattle.clc_tree.specs.declared.expressions.CommaStep.{CommaStep}
use Rattle.clc_tree.specs.declared.expressions.Cond.{Cond}
use Rattle.clc_tree.specs.declared.expressions.Expr.{Expr}
use Rattle.clc_tree.specs.declared.expressions.Post.{Post}
use Rattle.clc_tree.specs.declared.statements.Declare.{Declare}
use Rattle.clc_tree.specs.declared.statements.ForStart.{ForStart}
use Rattle.clc_tree.specs.declared.statements.BlockPart.{BlockPart}
use Rattle.clc_tree.specs.declared.statements.Stmt.{Stmt}
use Rattle.clc_tree.specs.declared.statements.Block.{Block}
use Rattle.clc_tree.specs.declared.statements.Do.{Do}
use Rattle.clc_tree.specs.declared.statements.Else.{Else}
use Rattle.clc_tree.specs.declared.statements.For.{For}
use Rattle.clc_tree.specs.declared.statements.If.{If}
use Rattle.clc_tree.specs.declared.statements.While.{While}
use Rattle.clc_tree.specs.declared.expressions.Assign.TheVariants as assign
use Rattle.clc_tree.specs.declared.expressions.Cast.TheVariants as cast
use Rattle.clc_tree.specs.declared.expressions.Chain.TheVariants as chain
use Rattle.clc_tree.specs.declared.expressions.PostStep.TheVariants as post_step
use Rattle.clc_tree.specs.declared.expressions.Primary.TheVariants as primary
use Rattle.clc_tree.specs.declared.expressions.Unary.TheVariants as unary
use Rattle.clc_tree.specs.declared.statements.BlockPart.TheVariants as block_part
use Rattle.clc_tree.specs.declared.statements.Stmt.TheVariants as stmt
use Rattle.clc_tree.specs.declared.expressions.Assign.TheOpen as o
use Rattle.clc_tree.specs.declared.expressions.Assign.TheFolds as f
use Rattle.clc_tree.specs.declared.statements.BlockPart.TheOpen as s
use Rattle.clc_tree.specs.declared.statements.BlockPart.TheFolds as h

pub assign_cond : (c : Cond) → assign_proper (assign.Cond c) ≡ cond_proper c
assign_cond c = ap assign_proper (sym (assign.rolls-Cond c)) ∙ f.fold-roll-Assign Bool Bool (Option ℕ) Bool Bool Bool (ℕ × Option ℕ) Bool Bool Bool Bool Bool assign_test cast_test chain_test post_step_test primary_test unary_test chain_step_test choice_test comma_step_test cond_test expr_test post_test (o.Cond c)

pub assign_set : (u : Unary) (t : Token) (a : Assign) → assign_proper (assign.Set u t a) ≡ unary_proper u && is k.Assignment t && assign_proper a
assign_set u t a = ap assign_proper (sym (assign.rolls-Set u t a)) ∙ f.fold-roll-Assign Bool Bool (Option ℕ) Bool Bool Bool (ℕ × Option ℕ) Bool Bool Bool Bool Bool assign_test cast_test chain_test post_step_test primary_test unary_test chain_step_test choice_test comma_step_test cond_test expr_test post_test (o.Set u t a)

pub cast_to : (l : Token) (s : Scalar) (r : Token) (c : Cast) → cast_proper (cast.To l s r c) ≡ is k.LeftParen l && scalar_proper s && is k.RightParen r && cast_proper c
cast_to l s r c = ap cast_proper (sym (cast.rolls-To l s r c)) ∙ f.fold-roll-Cast Bool Bool (Option ℕ) Bool Bool Bool (ℕ × Option ℕ) Bool Bool Bool Bool Bool assign_test cast_test chain_test post_step_test primary_test unary_test chain_step_test choice_test comma_step_test cond_test expr_test post_test (o.To l s r c)

pub cast_of : (u : Unary) → cast_proper (cast.Of u) ≡ unary_proper u
cast_of u = ap cast_proper (sym (cast.rolls-Of u)) ∙ f.fold-roll-Cast Bool Bool (Option ℕ) Bool Bool Bool (ℕ × Option ℕ) Bool Bool Bool Bool Bool assign_test cast_test chain_test post_step_test primary_test unary_test chain_step_test choice_test comma_step_test cond_test expr_test post_test (o.Of u)

pub chain_one : (c : Cast) → chain_top (chain.One c) ≡ when (cast_proper c) (Some 0)
chain_one c = ap chain_top (sym (chain.rolls-One c)) ∙ f.fold-roll-Chain Bool Bool (Option ℕ) Bool Bool Bool (ℕ × Option ℕ) Bool Bool Bool Bool Bool assign_test cast_test chain_test post_step_test primary_test unary_test chain_step_test choice_test comma_step_test cond_test expr_test post_test (o.One c)

pub chain_level : (c : Chain) (more : List ChainStep) → chain_top (chain.Level c more) ≡ level (chain_top c) (map step_top more)
chain_level c more = ap chain_top (sym (chain.rolls-Level c more)) ∙ f.fold-roll-Chain Bool Bool (Option ℕ) Bool Bool Bool (ℕ × Option ℕ) Bool Bool Bool Bool Bool assign_test cast_test chain_test post_step_test primary_test unary_test chain_step_test choice_test comma_step_test cond_test expr_test post_test (o.Level c more)

pub post_step_index : (l : Token) (x : Expr) (r : Token) → post_step_proper (post_step.Index l x r) ≡ is k.LeftBracket l && expr_proper x && is k.RightBracket r
post_step_index l x r = ap post_step_proper (sym (post_step.rolls-Index l x r)) ∙ f.fold-roll-PostStep Bool Bool (Option ℕ) Bool Bool Bool (ℕ × Option ℕ) Bool Bool Bool Bool Bool assign_test cast_test chain_test post_step_test primary_test unary_test chain_step_test choice_test comma_step_test cond_test expr_test post_test (o.Index l x r)

pub post_step_step : (t : Token) → post_step_proper (post_step.Step t) ≡ is k.Step t
post_step_step t = ap post_step_proper (sym (post_step.rolls-Step t)) ∙ f.fold-roll-PostStep Bool Bool (Option ℕ) Bool Bool Bool (ℕ × Option ℕ) Bool Bool Bool Bool Bool assign_test cast_test chain_test post_step_test primary_test unary_test chain_step_test choice_test comma_step_test cond_test expr_test post_test (o.PostStep::Step t)

pub primary_name : (t : Token) → primary_proper (primary.Name t) ≡ is k.Name t
primary_name t = ap primary_proper (sym (primary.rolls-Name t)) ∙ f.fold-roll-Primary Bool Bool (Option ℕ) Bool Bool Bool (ℕ × Option ℕ) Bool Bool Bool Bool Bool assign_test cast_test chain_test post_step_test primary_test unary_test chain_step_test choice_test comma_step_test cond_test expr_test post_test (o.Name t)

pub primary_number : (t : Token) → primary_proper (primary.Number t) ≡ is k.Number t
primary_number t = ap primary_proper (sym (primary.rolls-Number t)) ∙ f.fold-roll-Primary Bool Bool (Option ℕ) Bool Bool Bool (ℕ × Option ℕ) Bool Bool Bool Bool Bool assign_test cast_test chain_test post_step_test primary_test unary_test chain_step_test choice_test comma_step_test cond_test expr_test post_test (o.Number t)

pub primary_paren : (l : Token) (x : Expr) (r : Token) → primary_proper (primary.Paren l x r) ≡ is k.LeftParen l && expr_proper x && is k.RightParen r
primary_paren l x r = ap primary_proper (sym (primary.rolls-Paren l x r)) ∙ f.fold-roll-Primary Bool Bool (Option ℕ) Bool Bool Bool (ℕ × Option ℕ) Bool Bool Bool Bool Bool assign_test cast_test chain_test post_step_test primary_test unary_test chain_step_test choice_test comma_step_test cond_test expr_test post_test (o.Paren l x r)

pub primary_call0 : (t : Token) (l : Token) (r : Token) → primary_proper (primary.Call t l None r) ≡ is k.Name t && is k.LeftParen l && true && is k.RightParen r
primary_call0 t l r = ap primary_proper (sym (primary.rolls-Call t l None r)) ∙ f.fold-roll-Primary Bool Bool (Option ℕ) Bool Bool Bool (ℕ × Option ℕ) Bool Bool Bool Bool Bool assign_test cast_test chain_test post_step_test primary_test unary_test chain_step_test choice_test comma_step_test cond_test expr_test post_test (o.Call t l None r)

pub primary_call : (t l : Token) (x : Expr) (r : Token) → primary_proper (primary.Call t l (Some x) r) ≡ is k.Name t && is k.LeftParen l && expr_proper x && is k.RightParen r
primary_call t l x r = ap primary_proper (sym (primary.rolls-Call t l (Some x) r)) ∙ f.fold-roll-Primary Bool Bool (Option ℕ) Bool Bool Bool (ℕ × Option ℕ) Bool Bool Bool Bool Bool assign_test cast_test chain_test post_step_test primary_test unary_test chain_step_test choice_test comma_step_test cond_test expr_test post_test (o.Call t l (Some x) r)

pub unary_post : (x : Post) → unary_proper (unary.Post x) ≡ post_proper x
unary_post x = ap unary_proper (sym (unary.rolls-Post x)) ∙ f.fold-roll-Unary Bool Bool (Option ℕ) Bool Bool Bool (ℕ × Option ℕ) Bool Bool Bool Bool Bool assign_test cast_test chain_test post_step_test primary_test unary_test chain_step_test choice_test comma_step_test cond_test expr_test post_test (o.Post x)

pub unary_step : (t : Token) (u : Unary) → unary_proper (unary.Step t u) ≡ is k.Step t && unary_proper u
unary_step t u = ap unary_proper (sym (unary.rolls-Step t u)) ∙ f.fold-roll-Unary Bool Bool (Option ℕ) Bool Bool Bool (ℕ × Option ℕ) Bool Bool Bool Bool Bool assign_test cast_test chain_test post_step_test primary_test unary_test chain_step_test choice_test comma_step_test cond_test expr_test post_test (o.Unary::Step t u)

pub unary_prefix : (t : Token) (c : Cast) → unary_proper (unary.Prefix t c) ≡ is k.Prefix t && cast_proper c
unary_prefix t c = ap unary_proper (sym (unary.rolls-Prefix t c)) ∙ f.fold-roll-Unary Bool Bool (Option ℕ) Bool Bool Bool (ℕ × Option ℕ) Bool Bool Bool Bool Bool assign_test cast_test chain_test post_step_test primary_test unary_test chain_step_test choice_test comma_step_test cond_test expr_test post_test (o.Prefix t c)

pub chain_step_is : (t : Token) (c : Chain) → step_top (e.step_of t c) ≡ (rank t, chain_top c)
chain_step_is t c = f.fold-roll-ChainStep Bool Bool (Option ℕ) Bool Bool Bool (ℕ × Option ℕ) Bool Bool Bool Bool Bool assign_test cast_test chain_test post_step_test primary_test unary_test chain_step_test choice_test comma_step_test cond_test expr_test post_test (record { operator = t; operand = c })

pub choice_is : (q : Token) (a : Expr) (c : Token) (b : Cond) → choice_proper (e.choice_of q a c b) ≡ is k.Question q && expr_proper a && is k.Colon c && cond_proper b
choice_is q a c b = f.fold-roll-Choice Bool Bool (Option ℕ) Bool Bool Bool (ℕ × Option ℕ) Bool Bool Bool Bool Bool assign_test cast_test chain_test post_step_test primary_test unary_test chain_step_test choice_test comma_step_test cond_test expr_test post_test (record { question = q; yes = a; colon = c; no = b })

pub comma_step_is : (t : Token) (a : Assign) → comma_step_proper (e.comma_of t a) ≡ is k.Comma t && assign_proper a
comma_step_is t a = f.fold-roll-CommaStep Bool Bool (Option ℕ) Bool Bool Bool (ℕ × Option ℕ) Bool Bool Bool Bool Bool assign_test cast_test chain_test post_step_test primary_test unary_test chain_step_test choice_test comma_step_test cond_test expr_test post_test (record { comma = t; value = a })

pub cond_test_is : (c : Chain) → cond_proper (e.cond_of c None) ≡ fits (chain_top c) ranks && true
cond_test_is c = f.fold-roll-Cond Bool Bool (Option ℕ) Bool Bool Bool (ℕ × Option ℕ) Bool Bool Bool Bool Bool assign_test cast_test chain_test post_step_test primary_test unary_test chain_step_test choice_test comma_step_test cond_test expr_test post_test (record { test = c; choice = None })

pub cond_choice_is : (c : Chain) (x : Choice) → cond_proper (e.cond_of c (Some x)) ≡ fits (chain_top c) ranks && choice_proper x
cond_choice_is c x = f.fold-roll-Cond Bool Bool (Option ℕ) Bool Bool Bool (ℕ × Option ℕ) Bool Bool Bool Bool Bool assign_test cast_test chain_test post_step_test primary_test unary_test chain_step_test choice_test comma_step_test cond_test expr_test post_test (record { test = c; choice = Some x })

pub expr_is : (a : Assign) (more : List CommaStep) → expr_proper (e.expr_of a more) ≡ assign_proper a && all (map comma_step_proper more)
expr_is a more = f.fold-roll-Expr Bool Bool (Option ℕ) Bool Bool Bool (ℕ × Option ℕ) Bool Bool Bool Bool Bool assign_test cast_test chain_test post_step_test primary_test unary_test chain_step_test choice_test comma_step_test cond_test expr_test post_test (record { first = a; rest = more })

pub post_is : (x : Primary) (more : List PostStep) → post_proper (e.post_of x more) ≡ primary_proper x && all (map post_step_proper more)
post_is x more = f.fold-roll-Post Bool Bool (Option ℕ) Bool Bool Bool (ℕ × Option ℕ) Bool Bool Bool Bool Bool assign_test cast_test chain_test post_step_test primary_test unary_test chain_step_test choice_test comma_step_test cond_test expr_test post_test (record { primary = x; rest = more })

pub block_part_declare : (d : Declare) → part_proper (block_part.Declare d) ≡ declare_proper d
block_part_declare d = ap part_proper (sym (block_part.rolls-Declare d)) ∙ h.fold-roll-BlockPart Bool (Option Bool) Bool (Option Bool) (Option Bool) (Option Bool) (Option Bool) (Option Bool) block_part_test stmt_test block_test do_test else_test for_test if_test while_test (s.Declare d)

pub block_part_stmt : (x : Stmt) → part_proper (block_part.Stmt x) ≡ is_some (stmt_open x)
block_part_stmt x = ap part_proper (sym (block_part.rolls-Stmt x)) ∙ h.fold-roll-BlockPart Bool (Option Bool) Bool (Option Bool) (Option Bool) (Option Bool) (Option Bool) (Option Bool) block_part_test stmt_test block_test do_test else_test for_test if_test while_test (s.Stmt x)

pub stmt_block : (b : Block) → stmt_open (stmt.Block b) ≡ when (block_proper b) (Some false)
stmt_block b = ap stmt_open (sym (stmt.rolls-Block b)) ∙ h.fold-roll-Stmt Bool (Option Bool) Bool (Option Bool) (Option Bool) (Option Bool) (Option Bool) (Option Bool) block_part_test stmt_test block_test do_test else_test for_test if_test while_test (s.Block b)

pub stmt_eval : (x : Expr) (t : Token) → stmt_open (stmt.Eval x t) ≡ when (expr_proper x && is k.Semicolon t) (Some false)
stmt_eval x t = ap stmt_open (sym (stmt.rolls-Eval x t)) ∙ h.fold-roll-Stmt Bool (Option Bool) Bool (Option Bool) (Option Bool) (Option Bool) (Option Bool) (Option Bool) block_part_test stmt_test block_test do_test else_test for_test if_test while_test (s.Eval x t)

pub stmt_empty : (t : Token) → stmt_open (stmt.Empty t) ≡ when (is k.Semicolon t) (Some false)
stmt_empty t = ap stmt_open (sym (stmt.rolls-Empty t)) ∙ h.fold-roll-Stmt Bool (Option Bool) Bool (Option Bool) (Option Bool) (Option Bool) (Option Bool) (Option Bool) block_part_test stmt_test block_test do_test else_test for_test if_test while_test (s.Empty t)

pub stmt_if : (x : If) → stmt_open (stmt.If x) ≡ if_open x
stmt_if x = ap stmt_open (sym (stmt.rolls-If x)) ∙ h.fold-roll-Stmt Bool (Option Bool) Bool (Option Bool) (Option Bool) (Option Bool) (Option Bool) (Option Bool) block_part_test stmt_test block_test do_test else_test for_test if_test while_test (s.If x)

pub stmt_while : (x : While) → stmt_open (stmt.While x) ≡ while_open x
stmt_while x = ap stmt_open (sym (stmt.rolls-While x)) ∙ h.fold-roll-Stmt Bool (Option Bool) Bool (Option Bool) (Option Bool) (Option Bool) (Option Bool) (Option Bool) block_part_test stmt_test block_test do_test else_test for_test if_test while_test (s.While x)

pub stmt_do : (x : Do) → stmt_open (stmt.Do x) ≡ do_open x
stmt_do x = ap stmt_open (sym (stmt.rolls-Do x)) ∙ h.fold-roll-Stmt Bool (Option Bool) Bool (Option Bool) (Option Bool) (Option Bool) (Option Bool) (Option Bool) block_part_test stmt_test block_test do_test else_test for_test if_test while_test (s.Do x)

pub stmt_for : (x : For) → stmt_open (stmt.For x) ≡ for_open x
stmt_for x = ap stmt_open (sym (stmt.rolls-For x)) ∙ h.fold-roll-Stmt Bool (Option Bool) Bool (Option Bool) (Option Bool) (Option Bool) (Option Bool) (Option Bool) block_part_test stmt_test block_test do_test else_test for_test if_test while_test (s.For x)

pub stmt_when : (u l : Token) (x : Expr) (r : Token) (y : Stmt) → stmt_open (g.if_of u l x r y None) ≡ when (is k.If u && tested_proper l x r) (branches (stmt_open y) None)
stmt_when u l x r y = stmt_if _ ∙ h.fold-roll-If Bool (Option Bool) Bool (Option Bool) (Option Bool) (Option Bool) (Option Bool) (Option Bool) block_part_test stmt_test block_test do_test else_test for_test if_test while_test (record { word = u; opening = l; test = x; closing = r; body = y; other = None })

pub stmt_choose : (u l : Token) (x : Expr) (r : Token) (y : Stmt) (z : Else) → stmt_open (g.if_of u l x r y (Some z)) ≡ when (is k.If u && tested_proper l x r) (branches (stmt_open y) (Some (else_open z)))
stmt_choose u l x r y z = stmt_if _ ∙ h.fold-roll-If Bool (Option Bool) Bool (Option Bool) (Option Bool) (Option Bool) (Option Bool) (Option Bool) block_part_test stmt_test block_test do_test else_test for_test if_test while_test (record { word = u; opening = l; test = x; closing = r; body = y; other = Some z })

pub stmt_loop : (u l : Token) (x : Expr) (r : Token) (y : Stmt) → stmt_open (g.while_of u l x r y) ≡ when (is k.While u && tested_proper l x r) (stmt_open y)
stmt_loop u l x r y = stmt_while _ ∙ h.fold-roll-While Bool (Option Bool) Bool (Option Bool) (Option Bool) (Option Bool) (Option Bool) (Option Bool) block_part_test stmt_test block_test do_test else_test for_test if_test while_test (record { word = u; opening = l; test = x; closing = r; body = y })

pub stmt_until : (u : Token) (y : Stmt) (d l : Token) (x : Expr) (r t : Token) → stmt_open (g.do_of u y d l x r t) ≡ when (is k.Do u && is k.While d && tested_proper l x r && is k.Semicolon t) (closes (stmt_open y))
stmt_until u y d l x r t = stmt_do _ ∙ h.fold-roll-Do Bool (Option Bool) Bool (Option Bool) (Option Bool) (Option Bool) (Option Bool) (Option Bool) block_part_test stmt_test block_test do_test else_test for_test if_test while_test (record { word = u; body = y; until = d; opening = l; test = x; closing = r; end = t })

pub stmt_count : (u l : Token) (i : ForStart) (x : Option Expr) (t : Token) (z : Option Expr) (r : Token) (y : Stmt) → stmt_open (g.for_of u l i x t z r y) ≡ when (is k.For u && is k.LeftParen l && for_head_proper i x t z && is k.RightParen r) (stmt_open y)
stmt_count u l i x t z r y = stmt_for _ ∙ h.fold-roll-For Bool (Option Bool) Bool (Option Bool) (Option Bool) (Option Bool) (Option Bool) (Option Bool) block_part_test stmt_test block_test do_test else_test for_test if_test while_test (record { word = u; opening = l; start = i; test = x; middle = t; step = z; closing = r; body = y })

pub stmt_break : (u : Token) (t : Token) → stmt_open (stmt.Break u t) ≡ when (is k.Break u && is k.Semicolon t) (Some false)
stmt_break u t = ap stmt_open (sym (stmt.rolls-Break u t)) ∙ h.fold-roll-Stmt Bool (Option Bool) Bool (Option Bool) (Option Bool) (Option Bool) (Option Bool) (Option Bool) block_part_test stmt_test block_test do_test else_test for_test if_test while_test (s.Break u t)

pub stmt_continue : (u : Token) (t : Token) → stmt_open (stmt.Continue u t) ≡ when (is k.Continue u && is k.Semicolon t) (Some false)
stmt_continue u t = ap stmt_open (sym (stmt.rolls-Continue u t)) ∙ h.fold-roll-Stmt Bool (Option Bool) Bool (Option Bool) (Option Bool) (Option Bool) (Option Bool) (Option Bool) block_part_test stmt_test block_test do_test else_test for_test if_test while_test (s.Continue u t)

pub stmt_return : (u : Token) (x : Option Expr) (t : Token) → stmt_open (stmt.Return u x t) ≡ when (is k.Return u && maybe_proper x && is k.Semicolon t) (Some false)
stmt_return u x t = ap stmt_open (sym (stmt.rolls-Return u x t)) ∙ h.fold-roll-Stmt Bool (Option Bool) Bool (Option Bool) (Option Bool) (Option Bool) (Option Bool) (Option Bool) block_part_test stmt_test block_test do_test else_test for_test if_test while_test (s.Return u x t)

pub block_is : (l : Token) (all_parts : List BlockPart) (r : Token) → block_proper (g.block_of l all_parts r) ≡ is k.LeftBrace l && all (map part_proper all_parts) && is k.RightBrace r
block_is l all_parts r = h.fold-roll-Block Bool (Option Bool) Bool (Option Bool) (Option Bool) (Option Bool) (Option Bool) (Option Bool) block_part_test stmt_test block_test do_test else_test for_test if_test while_test (record { opening = l; parts = all_parts; closing = r })

pub else_is : (t : Token) (x : Stmt) → else_open (g.else_of t x) ≡ when (is k.Else t) (stmt_open x)
else_is t x = h.fold-roll-Else Bool (Option Bool) Bool (Option Bool) (Option Bool) (Option Bool) (Option Bool) (Option Bool) block_part_test stmt_test block_test do_test else_test for_test if_test while_test (record { word = t; body = x })
