-- The tokens of each variant and struct of a tree, by those of its parts.
use Rattle.std.proofs.Common.{◌≡◌, List, [], ◌∷◌, ◌++◌, Option, Some, None, sym, ap, ◌∙◌, append-nil}
use Rattle.std.specs.Prelude.{map}
use Rattle.clc_lexer.specs.declared.token.Token.{Token}
use Rattle.clc_tree.specs.Expressions as e
use Rattle.clc_tree.specs.Statements as g
use Rattle.clc_tree.specs.Flat.{Tokens, joined, scalar_tokens, assign_layer, cast_layer, chain_layer, post_step_layer, primary_layer, unary_layer, chain_step_layer, choice_layer, comma_step_layer, cond_layer, expr_layer, post_layer, block_part_layer, stmt_layer, block_layer, do_layer, else_layer, for_layer, if_layer, while_layer, assign_tokens, cast_tokens, chain_tokens, post_step_tokens, primary_tokens, unary_tokens, chain_step_tokens, choice_tokens, comma_step_tokens, cond_tokens, expr_tokens, post_tokens, block_part_tokens, stmt_tokens, block_tokens, do_tokens, else_tokens, for_tokens, if_tokens, while_tokens, declare_tokens, expr_or_none, for_start_tokens}
use Rattle.clc_tree.specs.declared.expressions.Scalar.{Scalar}
use Rattle.clc_tree.specs.declared.expressions.Assign.{Assign}
use Rattle.clc_tree.specs.declared.expressions.Cast.{Cast}
use Rattle.clc_tree.specs.declared.expressions.Chain.{Chain}
use Rattle.clc_tree.specs.declared.expressions.PostStep.{PostStep}
use Rattle.clc_tree.specs.declared.expressions.Primary.{Primary}
use Rattle.clc_tree.specs.declared.expressions.Unary.{Unary}
use Rattle.clc_tree.specs.declared.expressions.ChainStep.{ChainStep}
use Rattle.clc_tree.specs.declared.expressions.Choice.{Choice}
use Rattle.clc_tree.specs.declared.expressions.CommaStep.{CommaStep}
use Rattle.clc_tree.specs.declared.expressions.Cond.{Cond}
use Rattle.clc_tree.specs.declared.expressions.Expr.{Expr}
use Rattle.clc_tree.specs.declared.expressions.Post.{Post}
use Rattle.clc_tree.specs.declared.statements.Declare.{Declare}
use Rattle.clc_tree.specs.declared.statements.ForStart.{ForStart}
use Rattle.clc_tree.specs.declared.statements.BlockPart.{BlockPart}
use Rattle.clc_tree.specs.declared.statements.Stmt.{Stmt}
use Rattle.clc_tree.specs.declared.statements.Block.{Block}
use Rattle.clc_tree.specs.declared.statements.Do.{Do}
use Rattle.clc_tree.specs.declared.statements.Else.{Else}
use Rattle.clc_tree.specs.declared.statements.For.{For}
use Rattle.clc_tree.specs.declared.statements.If.{If}
use Rattle.clc_tree.specs.declared.statements.While.{While}
use Rattle.clc_tree.specs.declared.expressions.Assign.TheVariants as assign
use Rattle.clc_tree.specs.declared.expressions.Cast.TheVariants as cast
use Rattle.clc_tree.specs.declared.expressions.Chain.TheVariants as chain
use Rattle.clc_tree.specs.declared.expressions.PostStep.TheVariants as post_step
use Rattle.clc_tree.specs.declared.expressions.Primary.TheVariants as primary
use Rattle.clc_tree.specs.declared.expressions.Unary.TheVariants as unary
use Rattle.clc_tree.specs.declared.statements.BlockPart.TheVariants as block_part
use Rattle.clc_tree.specs.declared.statements.Stmt.TheVariants as stmt
use Rattle.clc_tree.specs.declared.expressions.Assign.TheOpen as o
use Rattle.clc_tree.specs.declared.expressions.Assign.TheFolds as f
use Rattle.clc_tree.specs.declared.statements.BlockPart.TheOpen as s
use Rattle.clc_tree.specs.declared.statements.BlockPart.TheFolds as h

pub assign_cond : (c : Cond) → assign_tokens (assign.Cond c) ≡ cond_tokens c
assign_cond c = ap assign_tokens (sym (assign.rolls-Cond c)) ∙ f.fold-roll-Assign Tokens Tokens Tokens Tokens Tokens Tokens Tokens Tokens Tokens Tokens Tokens Tokens assign_layer cast_layer chain_layer post_step_layer primary_layer unary_layer chain_step_layer choice_layer comma_step_layer cond_layer expr_layer post_layer (o.Cond c)

pub assign_set : (u : Unary) (t : Token) (a : Assign) → assign_tokens (assign.Set u t a) ≡ unary_tokens u ++ t ∷ assign_tokens a
assign_set u t a = ap assign_tokens (sym (assign.rolls-Set u t a)) ∙ f.fold-roll-Assign Tokens Tokens Tokens Tokens Tokens Tokens Tokens Tokens Tokens Tokens Tokens Tokens assign_layer cast_layer chain_layer post_step_layer primary_layer unary_layer chain_step_layer choice_layer comma_step_layer cond_layer expr_layer post_layer (o.Set u t a)

pub cast_to : (l : Token) (s : Scalar) (r : Token) (c : Cast) → cast_tokens (cast.To l s r c) ≡ l ∷ (scalar_tokens s ++ r ∷ cast_tokens c)
cast_to l s r c = ap cast_tokens (sym (cast.rolls-To l s r c)) ∙ f.fold-roll-Cast Tokens Tokens Tokens Tokens Tokens Tokens Tokens Tokens Tokens Tokens Tokens Tokens assign_layer cast_layer chain_layer post_step_layer primary_layer unary_layer chain_step_layer choice_layer comma_step_layer cond_layer expr_layer post_layer (o.To l s r c)

pub cast_of : (u : Unary) → cast_tokens (cast.Of u) ≡ unary_tokens u
cast_of u = ap cast_tokens (sym (cast.rolls-Of u)) ∙ f.fold-roll-Cast Tokens Tokens Tokens Tokens Tokens Tokens Tokens Tokens Tokens Tokens Tokens Tokens assign_layer cast_layer chain_layer post_step_layer primary_layer unary_layer chain_step_layer choice_layer comma_step_layer cond_layer expr_layer post_layer (o.Of u)

pub chain_one : (c : Cast) → chain_tokens (chain.One c) ≡ cast_tokens c
chain_one c = ap chain_tokens (sym (chain.rolls-One c)) ∙ f.fold-roll-Chain Tokens Tokens Tokens Tokens Tokens Tokens Tokens Tokens Tokens Tokens Tokens Tokens assign_layer cast_layer chain_layer post_step_layer primary_layer unary_layer chain_step_layer choice_layer comma_step_layer cond_layer expr_layer post_layer (o.One c)

pub chain_level : (c : Chain) (more : List ChainStep) → chain_tokens (chain.Level c more) ≡ chain_tokens c ++ joined (map chain_step_tokens more)
chain_level c more = ap chain_tokens (sym (chain.rolls-Level c more)) ∙ f.fold-roll-Chain Tokens Tokens Tokens Tokens Tokens Tokens Tokens Tokens Tokens Tokens Tokens Tokens assign_layer cast_layer chain_layer post_step_layer primary_layer unary_layer chain_step_layer choice_layer comma_step_layer cond_layer expr_layer post_layer (o.Level c more)

pub post_step_index : (l : Token) (e : Expr) (r : Token) → post_step_tokens (post_step.Index l e r) ≡ l ∷ (expr_tokens e ++ r ∷ [])
post_step_index l e r = ap post_step_tokens (sym (post_step.rolls-Index l e r)) ∙ f.fold-roll-PostStep Tokens Tokens Tokens Tokens Tokens Tokens Tokens Tokens Tokens Tokens Tokens Tokens assign_layer cast_layer chain_layer post_step_layer primary_layer unary_layer chain_step_layer choice_layer comma_step_layer cond_layer expr_layer post_layer (o.Index l e r)

pub post_step_step : (t : Token) → post_step_tokens (post_step.Step t) ≡ t ∷ []
post_step_step t = ap post_step_tokens (sym (post_step.rolls-Step t)) ∙ f.fold-roll-PostStep Tokens Tokens Tokens Tokens Tokens Tokens Tokens Tokens Tokens Tokens Tokens Tokens assign_layer cast_layer chain_layer post_step_layer primary_layer unary_layer chain_step_layer choice_layer comma_step_layer cond_layer expr_layer post_layer (o.PostStep::Step t)

pub primary_name : (t : Token) → primary_tokens (primary.Name t) ≡ t ∷ []
primary_name t = ap primary_tokens (sym (primary.rolls-Name t)) ∙ f.fold-roll-Primary Tokens Tokens Tokens Tokens Tokens Tokens Tokens Tokens Tokens Tokens Tokens Tokens assign_layer cast_layer chain_layer post_step_layer primary_layer unary_layer chain_step_layer choice_layer comma_step_layer cond_layer expr_layer post_layer (o.Name t)

pub primary_number : (t : Token) → primary_tokens (primary.Number t) ≡ t ∷ []
primary_number t = ap primary_tokens (sym (primary.rolls-Number t)) ∙ f.fold-roll-Primary Tokens Tokens Tokens Tokens Tokens Tokens Tokens Tokens Tokens Tokens Tokens Tokens assign_layer cast_layer chain_layer post_step_layer primary_layer unary_layer chain_step_layer choice_layer comma_step_layer cond_layer expr_layer post_layer (o.Number t)

pub primary_paren : (l : Token) (e : Expr) (r : Token) → primary_tokens (primary.Paren l e r) ≡ l ∷ (expr_tokens e ++ r ∷ [])
primary_paren l e r = ap primary_tokens (sym (primary.rolls-Paren l e r)) ∙ f.fold-roll-Primary Tokens Tokens Tokens Tokens Tokens Tokens Tokens Tokens Tokens Tokens Tokens Tokens assign_layer cast_layer chain_layer post_step_layer primary_layer unary_layer chain_step_layer choice_layer comma_step_layer cond_layer expr_layer post_layer (o.Paren l e r)

pub primary_call0 : (x l r : Token) → primary_tokens (primary.Call x l None r) ≡ x ∷ l ∷ r ∷ []
primary_call0 x l r = ap primary_tokens (sym (primary.rolls-Call x l None r)) ∙ f.fold-roll-Primary Tokens Tokens Tokens Tokens Tokens Tokens Tokens Tokens Tokens Tokens Tokens Tokens assign_layer cast_layer chain_layer post_step_layer primary_layer unary_layer chain_step_layer choice_layer comma_step_layer cond_layer expr_layer post_layer (o.Call x l None r)

pub primary_call : (x l : Token) (e : Expr) (r : Token) → primary_tokens (primary.Call x l (Some e) r) ≡ x ∷ l ∷ (expr_tokens e ++ r ∷ [])
primary_call x l e r = ap primary_tokens (sym (primary.rolls-Call x l (Some e) r)) ∙ f.fold-roll-Primary Tokens Tokens Tokens Tokens Tokens Tokens Tokens Tokens Tokens Tokens Tokens Tokens assign_layer cast_layer chain_layer post_step_layer primary_layer unary_layer chain_step_layer choice_layer comma_step_layer cond_layer expr_layer post_layer (o.Call x l (Some e) r)

pub unary_post : (p : Post) → unary_tokens (unary.Post p) ≡ post_tokens p
unary_post p = ap unary_tokens (sym (unary.rolls-Post p)) ∙ f.fold-roll-Unary Tokens Tokens Tokens Tokens Tokens Tokens Tokens Tokens Tokens Tokens Tokens Tokens assign_layer cast_layer chain_layer post_step_layer primary_layer unary_layer chain_step_layer choice_layer comma_step_layer cond_layer expr_layer post_layer (o.Post p)

pub unary_step : (t : Token) (u : Unary) → unary_tokens (unary.Step t u) ≡ t ∷ unary_tokens u
unary_step t u = ap unary_tokens (sym (unary.rolls-Step t u)) ∙ f.fold-roll-Unary Tokens Tokens Tokens Tokens Tokens Tokens Tokens Tokens Tokens Tokens Tokens Tokens assign_layer cast_layer chain_layer post_step_layer primary_layer unary_layer chain_step_layer choice_layer comma_step_layer cond_layer expr_layer post_layer (o.Unary::Step t u)

pub unary_prefix : (t : Token) (c : Cast) → unary_tokens (unary.Prefix t c) ≡ t ∷ cast_tokens c
unary_prefix t c = ap unary_tokens (sym (unary.rolls-Prefix t c)) ∙ f.fold-roll-Unary Tokens Tokens Tokens Tokens Tokens Tokens Tokens Tokens Tokens Tokens Tokens Tokens assign_layer cast_layer chain_layer post_step_layer primary_layer unary_layer chain_step_layer choice_layer comma_step_layer cond_layer expr_layer post_layer (o.Prefix t c)

pub chain_step_is : (t : Token) (c : Chain) → chain_step_tokens (e.step_of t c) ≡ t ∷ chain_tokens c
chain_step_is t c = f.fold-roll-ChainStep Tokens Tokens Tokens Tokens Tokens Tokens Tokens Tokens Tokens Tokens Tokens Tokens assign_layer cast_layer chain_layer post_step_layer primary_layer unary_layer chain_step_layer choice_layer comma_step_layer cond_layer expr_layer post_layer (record { operator = t; operand = c })

pub choice_is : (q : Token) (a : Expr) (c : Token) (b : Cond) → choice_tokens (e.choice_of q a c b) ≡ q ∷ (expr_tokens a ++ c ∷ cond_tokens b)
choice_is q a c b = f.fold-roll-Choice Tokens Tokens Tokens Tokens Tokens Tokens Tokens Tokens Tokens Tokens Tokens Tokens assign_layer cast_layer chain_layer post_step_layer primary_layer unary_layer chain_step_layer choice_layer comma_step_layer cond_layer expr_layer post_layer (record { question = q; yes = a; colon = c; no = b })

pub comma_step_is : (t : Token) (a : Assign) → comma_step_tokens (e.comma_of t a) ≡ t ∷ assign_tokens a
comma_step_is t a = f.fold-roll-CommaStep Tokens Tokens Tokens Tokens Tokens Tokens Tokens Tokens Tokens Tokens Tokens Tokens assign_layer cast_layer chain_layer post_step_layer primary_layer unary_layer chain_step_layer choice_layer comma_step_layer cond_layer expr_layer post_layer (record { comma = t; value = a })

pub cond_test : (c : Chain) → cond_tokens (e.cond_of c None) ≡ chain_tokens c
cond_test c = f.fold-roll-Cond Tokens Tokens Tokens Tokens Tokens Tokens Tokens Tokens Tokens Tokens Tokens Tokens assign_layer cast_layer chain_layer post_step_layer primary_layer unary_layer chain_step_layer choice_layer comma_step_layer cond_layer expr_layer post_layer (record { test = c; choice = None }) ∙ append-nil (chain_tokens c)

pub cond_choice : (c : Chain) (x : Choice) → cond_tokens (e.cond_of c (Some x)) ≡ chain_tokens c ++ choice_tokens x
cond_choice c x = f.fold-roll-Cond Tokens Tokens Tokens Tokens Tokens Tokens Tokens Tokens Tokens Tokens Tokens Tokens assign_layer cast_layer chain_layer post_step_layer primary_layer unary_layer chain_step_layer choice_layer comma_step_layer cond_layer expr_layer post_layer (record { test = c; choice = Some x })

pub expr_is : (a : Assign) (more : List CommaStep) → expr_tokens (e.expr_of a more) ≡ assign_tokens a ++ joined (map comma_step_tokens more)
expr_is a more = f.fold-roll-Expr Tokens Tokens Tokens Tokens Tokens Tokens Tokens Tokens Tokens Tokens Tokens Tokens assign_layer cast_layer chain_layer post_step_layer primary_layer unary_layer chain_step_layer choice_layer comma_step_layer cond_layer expr_layer post_layer (record { first = a; rest = more })

pub post_is : (p : Primary) (more : List PostStep) → post_tokens (e.post_of p more) ≡ primary_tokens p ++ joined (map post_step_tokens more)
post_is p more = f.fold-roll-Post Tokens Tokens Tokens Tokens Tokens Tokens Tokens Tokens Tokens Tokens Tokens Tokens assign_layer cast_layer chain_layer post_step_layer primary_layer unary_layer chain_step_layer choice_layer comma_step_layer cond_layer expr_layer post_layer (record { primary = p; rest = more })

pub block_part_declare : (d : Declare) → block_part_tokens (block_part.Declare d) ≡ declare_tokens d
block_part_declare d = ap block_part_tokens (sym (block_part.rolls-Declare d)) ∙ h.fold-roll-BlockPart Tokens Tokens Tokens Tokens Tokens Tokens Tokens Tokens block_part_layer stmt_layer block_layer do_layer else_layer for_layer if_layer while_layer (s.Declare d)

pub block_part_stmt : (x : Stmt) → block_part_tokens (block_part.Stmt x) ≡ stmt_tokens x
block_part_stmt x = ap block_part_tokens (sym (block_part.rolls-Stmt x)) ∙ h.fold-roll-BlockPart Tokens Tokens Tokens Tokens Tokens Tokens Tokens Tokens block_part_layer stmt_layer block_layer do_layer else_layer for_layer if_layer while_layer (s.Stmt x)

pub stmt_block : (b : Block) → stmt_tokens (stmt.Block b) ≡ block_tokens b
stmt_block b = ap stmt_tokens (sym (stmt.rolls-Block b)) ∙ h.fold-roll-Stmt Tokens Tokens Tokens Tokens Tokens Tokens Tokens Tokens block_part_layer stmt_layer block_layer do_layer else_layer for_layer if_layer while_layer (s.Block b)

pub stmt_eval : (x : Expr) (t : Token) → stmt_tokens (stmt.Eval x t) ≡ expr_tokens x ++ t ∷ []
stmt_eval x t = ap stmt_tokens (sym (stmt.rolls-Eval x t)) ∙ h.fold-roll-Stmt Tokens Tokens Tokens Tokens Tokens Tokens Tokens Tokens block_part_layer stmt_layer block_layer do_layer else_layer for_layer if_layer while_layer (s.Eval x t)

pub stmt_empty : (t : Token) → stmt_tokens (stmt.Empty t) ≡ t ∷ []
stmt_empty t = ap stmt_tokens (sym (stmt.rolls-Empty t)) ∙ h.fold-roll-Stmt Tokens Tokens Tokens Tokens Tokens Tokens Tokens Tokens block_part_layer stmt_layer block_layer do_layer else_layer for_layer if_layer while_layer (s.Empty t)

pub stmt_if : (x : If) → stmt_tokens (stmt.If x) ≡ if_tokens x
stmt_if x = ap stmt_tokens (sym (stmt.rolls-If x)) ∙ h.fold-roll-Stmt Tokens Tokens Tokens Tokens Tokens Tokens Tokens Tokens block_part_layer stmt_layer block_layer do_layer else_layer for_layer if_layer while_layer (s.If x)

pub stmt_while : (x : While) → stmt_tokens (stmt.While x) ≡ while_tokens x
stmt_while x = ap stmt_tokens (sym (stmt.rolls-While x)) ∙ h.fold-roll-Stmt Tokens Tokens Tokens Tokens Tokens Tokens Tokens Tokens block_part_layer stmt_layer block_layer do_layer else_layer for_layer if_layer while_layer (s.While x)

pub stmt_do : (x : Do) → stmt_tokens (stmt.Do x) ≡ do_tokens x
stmt_do x = ap stmt_tokens (sym (stmt.rolls-Do x)) ∙ h.fold-roll-Stmt Tokens Tokens Tokens Tokens Tokens Tokens Tokens Tokens block_part_layer stmt_layer block_layer do_layer else_layer for_layer if_layer while_layer (s.Do x)

pub stmt_for : (x : For) → stmt_tokens (stmt.For x) ≡ for_tokens x
stmt_for x = ap stmt_tokens (sym (stmt.rolls-For x)) ∙ h.fold-roll-Stmt Tokens Tokens Tokens Tokens Tokens Tokens Tokens Tokens block_part_layer stmt_layer block_layer do_layer else_layer for_layer if_layer while_layer (s.For x)

pub stmt_when : (u l : Token) (x : Expr) (r : Token) (y : Stmt) → stmt_tokens (g.if_of u l x r y None) ≡ u ∷ l ∷ (expr_tokens x ++ r ∷ stmt_tokens y)
stmt_when u l x r y =
    stmt_if _ ∙ h.fold-roll-If Tokens Tokens Tokens Tokens Tokens Tokens Tokens Tokens block_part_layer stmt_layer block_layer do_layer else_layer for_layer if_layer while_layer (record { word = u; opening = l; test = x; closing = r; body = y; other = None })
    ∙ ap (λ z. u ∷ l ∷ (expr_tokens x ++ r ∷ z)) (append-nil (stmt_tokens y))

pub stmt_choose : (u l : Token) (x : Expr) (r : Token) (y : Stmt) (z : Else) → stmt_tokens (g.if_of u l x r y (Some z)) ≡ u ∷ l ∷ (expr_tokens x ++ r ∷ (stmt_tokens y ++ else_tokens z))
stmt_choose u l x r y z = stmt_if _ ∙ h.fold-roll-If Tokens Tokens Tokens Tokens Tokens Tokens Tokens Tokens block_part_layer stmt_layer block_layer do_layer else_layer for_layer if_layer while_layer (record { word = u; opening = l; test = x; closing = r; body = y; other = Some z })

pub stmt_loop : (u l : Token) (x : Expr) (r : Token) (y : Stmt) → stmt_tokens (g.while_of u l x r y) ≡ u ∷ l ∷ (expr_tokens x ++ r ∷ stmt_tokens y)
stmt_loop u l x r y = stmt_while _ ∙ h.fold-roll-While Tokens Tokens Tokens Tokens Tokens Tokens Tokens Tokens block_part_layer stmt_layer block_layer do_layer else_layer for_layer if_layer while_layer (record { word = u; opening = l; test = x; closing = r; body = y })

pub stmt_until : (u : Token) (y : Stmt) (d l : Token) (x : Expr) (r t : Token) → stmt_tokens (g.do_of u y d l x r t) ≡ u ∷ (stmt_tokens y ++ d ∷ l ∷ (expr_tokens x ++ r ∷ t ∷ []))
stmt_until u y d l x r t = stmt_do _ ∙ h.fold-roll-Do Tokens Tokens Tokens Tokens Tokens Tokens Tokens Tokens block_part_layer stmt_layer block_layer do_layer else_layer for_layer if_layer while_layer (record { word = u; body = y; until = d; opening = l; test = x; closing = r; end = t })

pub stmt_count : (u l : Token) (i : ForStart) (x : Option Expr) (t : Token) (z : Option Expr) (r : Token) (y : Stmt) → stmt_tokens (g.for_of u l i x t z r y) ≡ u ∷ l ∷ ((for_start_tokens i ++ (expr_or_none x ++ t ∷ expr_or_none z)) ++ r ∷ stmt_tokens y)
stmt_count u l i x t z r y = stmt_for _ ∙ h.fold-roll-For Tokens Tokens Tokens Tokens Tokens Tokens Tokens Tokens block_part_layer stmt_layer block_layer do_layer else_layer for_layer if_layer while_layer (record { word = u; opening = l; start = i; test = x; middle = t; step = z; closing = r; body = y })

pub stmt_break : (u : Token) (t : Token) → stmt_tokens (stmt.Break u t) ≡ u ∷ t ∷ []
stmt_break u t = ap stmt_tokens (sym (stmt.rolls-Break u t)) ∙ h.fold-roll-Stmt Tokens Tokens Tokens Tokens Tokens Tokens Tokens Tokens block_part_layer stmt_layer block_layer do_layer else_layer for_layer if_layer while_layer (s.Break u t)

pub stmt_continue : (u : Token) (t : Token) → stmt_tokens (stmt.Continue u t) ≡ u ∷ t ∷ []
stmt_continue u t = ap stmt_tokens (sym (stmt.rolls-Continue u t)) ∙ h.fold-roll-Stmt Tokens Tokens Tokens Tokens Tokens Tokens Tokens Tokens block_part_layer stmt_layer block_layer do_layer else_layer for_layer if_layer while_layer (s.Continue u t)

pub stmt_return : (u : Token) (x : Option Expr) (t : Token) → stmt_tokens (stmt.Return u x t) ≡ u ∷ (expr_or_none x ++ t ∷ [])
stmt_return u x t = ap stmt_tokens (sym (stmt.rolls-Return u x t)) ∙ h.fold-roll-Stmt Tokens Tokens Tokens Tokens Tokens Tokens Tokens Tokens block_part_layer stmt_layer block_layer do_layer else_layer for_layer if_layer while_layer (s.Return u x t)

pub block_is : (l : Token) (all : List BlockPart) (r : Token) → block_tokens (g.block_of l all r) ≡ l ∷ (joined (map block_part_tokens all) ++ r ∷ [])
block_is l all r = h.fold-roll-Block Tokens Tokens Tokens Tokens Tokens Tokens Tokens Tokens block_part_layer stmt_layer block_layer do_layer else_layer for_layer if_layer while_layer (record { opening = l; parts = all; closing = r })

pub else_is : (t : Token) (x : Stmt) → else_tokens (g.else_of t x) ≡ t ∷ stmt_tokens x
else_is t x = h.fold-roll-Else Tokens Tokens Tokens Tokens Tokens Tokens Tokens Tokens block_part_layer stmt_layer block_layer do_layer else_layer for_layer if_layer while_layer (record { word = t; body = x })
