-- The tokens of a tree in order, whether it is proper or not.
use Rattle.std.specs.Prelude.{List, [], ◌∷◌, ◌++◌, Option, Some, None, map}
use Rattle.clc_lexer.specs.declared.token.Token.{Token}
use Rattle.clc_tree.specs.declared.expressions.Scalar.{Scalar}
use Rattle.clc_tree.specs.declared.expressions.Assign.{Assign}
use Rattle.clc_tree.specs.declared.expressions.Cast.{Cast}
use Rattle.clc_tree.specs.declared.expressions.Chain.{Chain}
use Rattle.clc_tree.specs.declared.expressions.PostStep.{PostStep}
use Rattle.clc_tree.specs.declared.expressions.Primary.{Primary}
use Rattle.clc_tree.specs.declared.expressions.Unary.{Unary}
use Rattle.clc_tree.specs.declared.expressions.ChainStep.{ChainStep}
use Rattle.clc_tree.specs.declared.expressions.Choice.{Choice}
use Rattle.clc_tree.specs.declared.expressions.CommaStep.{CommaStep}
use Rattle.clc_tree.specs.declared.expressions.Cond.{Cond}
use Rattle.clc_tree.specs.declared.expressions.Expr.{Expr}
use Rattle.clc_tree.specs.declared.expressions.Post.{Post}
use Rattle.clc_tree.specs.declared.expressions.Scalar.TheVariants as scalar
use Rattle.clc_tree.specs.declared.expressions.Assign.TheOpen as o
use Rattle.clc_tree.specs.declared.expressions.Assign.TheOpen.{Assign-F, Cast-F, Chain-F, PostStep-F, Primary-F, Unary-F, ChainStep-F, Choice-F, CommaStep-F, Cond-F, Expr-F, Post-F}
use Rattle.clc_tree.specs.declared.expressions.Assign.TheFolds.{fold-Assign, fold-Cast, fold-Chain, fold-PostStep, fold-Primary, fold-Unary, fold-ChainStep, fold-Choice, fold-CommaStep, fold-Cond, fold-Expr, fold-Post}
use Rattle.clc_tree.specs.declared.statements.Pointer.{Pointer}
use Rattle.clc_tree.specs.declared.statements.Init.{Init}
use Rattle.clc_tree.specs.declared.statements.Item.{Item}
use Rattle.clc_tree.specs.declared.statements.ItemStep.{ItemStep}
use Rattle.clc_tree.specs.declared.statements.Declare.{Declare}
use Rattle.clc_tree.specs.declared.statements.ForStart.{ForStart}
use Rattle.clc_tree.specs.declared.statements.BlockPart.{BlockPart}
use Rattle.clc_tree.specs.declared.statements.Stmt.{Stmt}
use Rattle.clc_tree.specs.declared.statements.Block.{Block}
use Rattle.clc_tree.specs.declared.statements.Do.{Do}
use Rattle.clc_tree.specs.declared.statements.Else.{Else}
use Rattle.clc_tree.specs.declared.statements.For.{For}
use Rattle.clc_tree.specs.declared.statements.If.{If}
use Rattle.clc_tree.specs.declared.statements.While.{While}
use Rattle.clc_tree.specs.declared.statements.Item.TheVariants as item
use Rattle.clc_tree.specs.declared.statements.Declare.TheVariants as declare
use Rattle.clc_tree.specs.declared.statements.ForStart.TheVariants as start
use Rattle.clc_tree.specs.declared.statements.BlockPart.TheOpen as s
use Rattle.clc_tree.specs.declared.statements.BlockPart.TheOpen.{BlockPart-F, Stmt-F, Block-F, Do-F, Else-F, For-F, If-F, While-F}
use Rattle.clc_tree.specs.declared.statements.BlockPart.TheFolds.{fold-BlockPart, fold-Stmt, fold-Block, fold-Do, fold-Else, fold-For, fold-If, fold-While}
use Rattle.clc_tree.specs.declared.functions.Param.{Param}
use Rattle.clc_tree.specs.declared.functions.ParamStep.{ParamStep}
use Rattle.clc_tree.specs.declared.functions.Params.{Params}
use Rattle.clc_tree.specs.declared.functions.Returns.{Returns}
use Rattle.clc_tree.specs.declared.functions.Function.{Function}
use Rattle.clc_tree.specs.declared.functions.Tree.{Tree}
use Rattle.clc_tree.specs.declared.functions.Param.TheVariants as param
use Rattle.clc_tree.specs.declared.functions.Params.TheVariants as params
use Rattle.clc_tree.specs.declared.functions.Returns.TheVariants as returns

abbrev pub Tokens : Type 0
Tokens = List Token

abbrev pub joined : List Tokens → Tokens
joined [] = []
joined (x ∷ more) = x ++ joined more

abbrev pub optional_tokens : Option Token → Tokens
optional_tokens None = []
optional_tokens (Some t) = t ∷ []

-- the tokens of a part that may be absent
abbrev pub maybe_tokens : Option Tokens → Tokens
maybe_tokens None = []
maybe_tokens (Some x) = x

-- ---- expressions: one level of a tree, with the tokens of each part in its place

abbrev pub scalar_tokens : Scalar → Tokens
scalar_tokens (scalar.Plain t) = t ∷ []
scalar_tokens (scalar.Signed t u) = t ∷ optional_tokens u

abbrev pub assign_layer : Assign-F Tokens Tokens Tokens Tokens Tokens Tokens Tokens Tokens Tokens Tokens Tokens Tokens → Tokens
assign_layer (o.Cond c) = c
assign_layer (o.Set u t a) = u ++ t ∷ a

abbrev pub cast_layer : Cast-F Tokens Tokens Tokens Tokens Tokens Tokens Tokens Tokens Tokens Tokens Tokens Tokens → Tokens
cast_layer (o.To l s r c) = l ∷ (scalar_tokens s ++ r ∷ c)
cast_layer (o.Of u) = u

abbrev pub chain_layer : Chain-F Tokens Tokens Tokens Tokens Tokens Tokens Tokens Tokens Tokens Tokens Tokens Tokens → Tokens
chain_layer (o.One c) = c
chain_layer (o.Level c more) = c ++ joined more

abbrev pub post_step_layer : PostStep-F Tokens Tokens Tokens Tokens Tokens Tokens Tokens Tokens Tokens Tokens Tokens Tokens → Tokens
post_step_layer (o.Index l e r) = l ∷ (e ++ r ∷ [])
post_step_layer (o.PostStep::Step t) = t ∷ []

abbrev pub primary_layer : Primary-F Tokens Tokens Tokens Tokens Tokens Tokens Tokens Tokens Tokens Tokens Tokens Tokens → Tokens
primary_layer (o.Name t) = t ∷ []
primary_layer (o.Number t) = t ∷ []
primary_layer (o.Paren l e r) = l ∷ (e ++ r ∷ [])
primary_layer (o.Call f l e r) = f ∷ l ∷ (maybe_tokens e ++ r ∷ [])

abbrev pub unary_layer : Unary-F Tokens Tokens Tokens Tokens Tokens Tokens Tokens Tokens Tokens Tokens Tokens Tokens → Tokens
unary_layer (o.Post p) = p
unary_layer (o.Unary::Step t u) = t ∷ u
unary_layer (o.Prefix t c) = t ∷ c

abbrev pub chain_step_layer : ChainStep-F Tokens Tokens Tokens Tokens Tokens Tokens Tokens Tokens Tokens Tokens Tokens Tokens → Tokens
chain_step_layer x = x.operator ∷ x.operand

abbrev pub choice_layer : Choice-F Tokens Tokens Tokens Tokens Tokens Tokens Tokens Tokens Tokens Tokens Tokens Tokens → Tokens
choice_layer x = x.question ∷ (x.yes ++ x.colon ∷ x.no)

abbrev pub comma_step_layer : CommaStep-F Tokens Tokens Tokens Tokens Tokens Tokens Tokens Tokens Tokens Tokens Tokens Tokens → Tokens
comma_step_layer x = x.comma ∷ x.value

abbrev pub cond_layer : Cond-F Tokens Tokens Tokens Tokens Tokens Tokens Tokens Tokens Tokens Tokens Tokens Tokens → Tokens
cond_layer x = x.test ++ maybe_tokens x.choice

abbrev pub expr_layer : Expr-F Tokens Tokens Tokens Tokens Tokens Tokens Tokens Tokens Tokens Tokens Tokens Tokens → Tokens
expr_layer x = x.first ++ joined x.rest

abbrev pub post_layer : Post-F Tokens Tokens Tokens Tokens Tokens Tokens Tokens Tokens Tokens Tokens Tokens Tokens → Tokens
post_layer x = x.primary ++ joined x.rest

abbrev pub assign_tokens : Assign → Tokens
assign_tokens = fold-Assign Tokens Tokens Tokens Tokens Tokens Tokens Tokens Tokens Tokens Tokens Tokens Tokens assign_layer cast_layer chain_layer post_step_layer primary_layer unary_layer chain_step_layer choice_layer comma_step_layer cond_layer expr_layer post_layer

abbrev pub cast_tokens : Cast → Tokens
cast_tokens = fold-Cast Tokens Tokens Tokens Tokens Tokens Tokens Tokens Tokens Tokens Tokens Tokens Tokens assign_layer cast_layer chain_layer post_step_layer primary_layer unary_layer chain_step_layer choice_layer comma_step_layer cond_layer expr_layer post_layer

abbrev pub chain_tokens : Chain → Tokens
chain_tokens = fold-Chain Tokens Tokens Tokens Tokens Tokens Tokens Tokens Tokens Tokens Tokens Tokens Tokens assign_layer cast_layer chain_layer post_step_layer primary_layer unary_layer chain_step_layer choice_layer comma_step_layer cond_layer expr_layer post_layer

abbrev pub post_step_tokens : PostStep → Tokens
post_step_tokens = fold-PostStep Tokens Tokens Tokens Tokens Tokens Tokens Tokens Tokens Tokens Tokens Tokens Tokens assign_layer cast_layer chain_layer post_step_layer primary_layer unary_layer chain_step_layer choice_layer comma_step_layer cond_layer expr_layer post_layer

abbrev pub primary_tokens : Primary → Tokens
primary_tokens = fold-Primary Tokens Tokens Tokens Tokens Tokens Tokens Tokens Tokens Tokens Tokens Tokens Tokens assign_layer cast_layer chain_layer post_step_layer primary_layer unary_layer chain_step_layer choice_layer comma_step_layer cond_layer expr_layer post_layer

abbrev pub unary_tokens : Unary → Tokens
unary_tokens = fold-Unary Tokens Tokens Tokens Tokens Tokens Tokens Tokens Tokens Tokens Tokens Tokens Tokens assign_layer cast_layer chain_layer post_step_layer primary_layer unary_layer chain_step_layer choice_layer comma_step_layer cond_layer expr_layer post_layer

abbrev pub chain_step_tokens : ChainStep → Tokens
chain_step_tokens = fold-ChainStep Tokens Tokens Tokens Tokens Tokens Tokens Tokens Tokens Tokens Tokens Tokens Tokens assign_layer cast_layer chain_layer post_step_layer primary_layer unary_layer chain_step_layer choice_layer comma_step_layer cond_layer expr_layer post_layer

abbrev pub choice_tokens : Choice → Tokens
choice_tokens = fold-Choice Tokens Tokens Tokens Tokens Tokens Tokens Tokens Tokens Tokens Tokens Tokens Tokens assign_layer cast_layer chain_layer post_step_layer primary_layer unary_layer chain_step_layer choice_layer comma_step_layer cond_layer expr_layer post_layer

abbrev pub comma_step_tokens : CommaStep → Tokens
comma_step_tokens = fold-CommaStep Tokens Tokens Tokens Tokens Tokens Tokens Tokens Tokens Tokens Tokens Tokens Tokens assign_layer cast_layer chain_layer post_step_layer primary_layer unary_layer chain_step_layer choice_layer comma_step_layer cond_layer expr_layer post_layer

abbrev pub cond_tokens : Cond → Tokens
cond_tokens = fold-Cond Tokens Tokens Tokens Tokens Tokens Tokens Tokens Tokens Tokens Tokens Tokens Tokens assign_layer cast_layer chain_layer post_step_layer primary_layer unary_layer chain_step_layer choice_layer comma_step_layer cond_layer expr_layer post_layer

abbrev pub expr_tokens : Expr → Tokens
expr_tokens = fold-Expr Tokens Tokens Tokens Tokens Tokens Tokens Tokens Tokens Tokens Tokens Tokens Tokens assign_layer cast_layer chain_layer post_step_layer primary_layer unary_layer chain_step_layer choice_layer comma_step_layer cond_layer expr_layer post_layer

abbrev pub post_tokens : Post → Tokens
post_tokens = fold-Post Tokens Tokens Tokens Tokens Tokens Tokens Tokens Tokens Tokens Tokens Tokens Tokens assign_layer cast_layer chain_layer post_step_layer primary_layer unary_layer chain_step_layer choice_layer comma_step_layer cond_layer expr_layer post_layer

-- ---- declarations

abbrev pub pointer_tokens : Pointer → Tokens
pointer_tokens p =
    optional_tokens p.outer_const ++ p.space ∷ (optional_tokens p.inner_const ++ (scalar_tokens p.element ++ p.star ∷ (optional_tokens p.own_const ++ optional_tokens p.restrict)))

abbrev pub init_tokens : Option Init → Tokens
init_tokens None = []
init_tokens (Some i) = i.equals ∷ assign_tokens i.value

abbrev pub item_tokens : Item → Tokens
item_tokens (item.Array t l v r) = t ∷ l ∷ v ∷ r ∷ []
item_tokens (item.Value t i) = t ∷ init_tokens i

abbrev pub item_step_tokens : ItemStep → Tokens
item_step_tokens x = x.comma ∷ item_tokens x.item

abbrev pub declare_tokens : Declare → Tokens
declare_tokens (declare.Values c s i more e) = optional_tokens c ++ (scalar_tokens s ++ (item_tokens i ++ (joined (map item_step_tokens more) ++ e ∷ [])))
declare_tokens (declare.Pointer p t i e) = pointer_tokens p ++ t ∷ (init_tokens i ++ e ∷ [])

-- ---- statements

abbrev pub expr_or_none : Option Expr → Tokens
expr_or_none None = []
expr_or_none (Some e) = expr_tokens e

abbrev pub for_start_tokens : ForStart → Tokens
for_start_tokens (start.Declare d) = declare_tokens d
for_start_tokens (start.Eval e t) = expr_or_none e ++ t ∷ []

abbrev pub block_part_layer : BlockPart-F Tokens Tokens Tokens Tokens Tokens Tokens Tokens Tokens → Tokens
block_part_layer (s.Declare d) = declare_tokens d
block_part_layer (s.Stmt x) = x

abbrev pub stmt_layer : Stmt-F Tokens Tokens Tokens Tokens Tokens Tokens Tokens Tokens → Tokens
stmt_layer (s.Block b) = b
stmt_layer (s.Eval e t) = expr_tokens e ++ t ∷ []
stmt_layer (s.Empty t) = t ∷ []
stmt_layer (s.If x) = x
stmt_layer (s.While x) = x
stmt_layer (s.Do x) = x
stmt_layer (s.For x) = x
stmt_layer (s.Break w t) = w ∷ t ∷ []
stmt_layer (s.Continue w t) = w ∷ t ∷ []
stmt_layer (s.Return w e t) = w ∷ (expr_or_none e ++ t ∷ [])

abbrev pub block_layer : Block-F Tokens Tokens Tokens Tokens Tokens Tokens Tokens Tokens → Tokens
block_layer x = x.opening ∷ (joined x.parts ++ x.closing ∷ [])

abbrev pub do_layer : Do-F Tokens Tokens Tokens Tokens Tokens Tokens Tokens Tokens → Tokens
do_layer x = x.word ∷ (x.body ++ x.until ∷ x.opening ∷ (expr_tokens x.test ++ x.closing ∷ x.end ∷ []))

abbrev pub else_layer : Else-F Tokens Tokens Tokens Tokens Tokens Tokens Tokens Tokens → Tokens
else_layer x = x.word ∷ x.body

abbrev pub for_layer : For-F Tokens Tokens Tokens Tokens Tokens Tokens Tokens Tokens → Tokens
for_layer x = x.word ∷ x.opening ∷ ((for_start_tokens x.start ++ (expr_or_none x.test ++ x.middle ∷ expr_or_none x.step)) ++ x.closing ∷ x.body)

abbrev pub if_layer : If-F Tokens Tokens Tokens Tokens Tokens Tokens Tokens Tokens → Tokens
if_layer x = x.word ∷ x.opening ∷ (expr_tokens x.test ++ x.closing ∷ (x.body ++ maybe_tokens x.other))

abbrev pub while_layer : While-F Tokens Tokens Tokens Tokens Tokens Tokens Tokens Tokens → Tokens
while_layer x = x.word ∷ x.opening ∷ (expr_tokens x.test ++ x.closing ∷ x.body)

abbrev pub block_part_tokens : BlockPart → Tokens
block_part_tokens = fold-BlockPart Tokens Tokens Tokens Tokens Tokens Tokens Tokens Tokens block_part_layer stmt_layer block_layer do_layer else_layer for_layer if_layer while_layer

abbrev pub stmt_tokens : Stmt → Tokens
stmt_tokens = fold-Stmt Tokens Tokens Tokens Tokens Tokens Tokens Tokens Tokens block_part_layer stmt_layer block_layer do_layer else_layer for_layer if_layer while_layer

abbrev pub block_tokens : Block → Tokens
block_tokens = fold-Block Tokens Tokens Tokens Tokens Tokens Tokens Tokens Tokens block_part_layer stmt_layer block_layer do_layer else_layer for_layer if_layer while_layer

abbrev pub do_tokens : Do → Tokens
do_tokens = fold-Do Tokens Tokens Tokens Tokens Tokens Tokens Tokens Tokens block_part_layer stmt_layer block_layer do_layer else_layer for_layer if_layer while_layer

abbrev pub else_tokens : Else → Tokens
else_tokens = fold-Else Tokens Tokens Tokens Tokens Tokens Tokens Tokens Tokens block_part_layer stmt_layer block_layer do_layer else_layer for_layer if_layer while_layer

abbrev pub for_tokens : For → Tokens
for_tokens = fold-For Tokens Tokens Tokens Tokens Tokens Tokens Tokens Tokens block_part_layer stmt_layer block_layer do_layer else_layer for_layer if_layer while_layer

abbrev pub if_tokens : If → Tokens
if_tokens = fold-If Tokens Tokens Tokens Tokens Tokens Tokens Tokens Tokens block_part_layer stmt_layer block_layer do_layer else_layer for_layer if_layer while_layer

abbrev pub while_tokens : While → Tokens
while_tokens = fold-While Tokens Tokens Tokens Tokens Tokens Tokens Tokens Tokens block_part_layer stmt_layer block_layer do_layer else_layer for_layer if_layer while_layer

-- ---- functions and programs

abbrev pub param_tokens : Param → Tokens
param_tokens (param.Value c s t) = optional_tokens c ++ (scalar_tokens s ++ t ∷ [])
param_tokens (param.Pointer p t) = pointer_tokens p ++ t ∷ []

abbrev pub param_step_tokens : ParamStep → Tokens
param_step_tokens x = x.comma ∷ param_tokens x.param

abbrev pub params_tokens : Option Params → Tokens
params_tokens None = []
params_tokens (Some (params.Void t)) = t ∷ []
params_tokens (Some (params.List p more)) = param_tokens p ++ joined (map param_step_tokens more)

abbrev pub returns_tokens : Returns → Tokens
returns_tokens (returns.Void t) = t ∷ []
returns_tokens (returns.Value s) = scalar_tokens s

abbrev pub function_tokens : Function → Tokens
function_tokens f =
    optional_tokens f.lead ++ (returns_tokens f.returns ++ f.name ∷ f.opening ∷ (params_tokens f.params ++ f.closing ∷ block_tokens f.body))

abbrev pub flat_of : Tree → Tokens
flat_of t = joined (map function_tokens t.functions)
