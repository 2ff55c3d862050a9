-- Which trees are proper, tested level by level: the definition by a relation stands in the grammar, and that both say the same is a law.
use Rattle.std.specs.Prelude.{ℕ, suc, Bool, true, false, cond, eqb, leb, ◌&&◌, List, [], ◌∷◌, Option, Some, None, map}
use Rattle.clc_lexer.specs.declared.token.Token.{Token}
use Rattle.clc_tree.specs.Kinds.{is, rank, ranks}
use Rattle.clc_tree.specs.declared.kinds.Kind.{Kind}
use Rattle.clc_tree.specs.declared.kinds.Kind.TheVariants as k
use Rattle.clc_tree.specs.declared.expressions.Scalar.{Scalar}
use Rattle.clc_tree.specs.declared.expressions.Assign.{Assign}
use Rattle.clc_tree.specs.declared.expressions.Cast.{Cast}
use Rattle.clc_tree.specs.declared.expressions.Chain.{Chain}
use Rattle.clc_tree.specs.declared.expressions.PostStep.{PostStep}
use Rattle.clc_tree.specs.declared.expressions.Primary.{Primary}
use Rattle.clc_tree.specs.declared.expressions.Unary.{Unary}
use Rattle.clc_tree.specs.declared.expressions.ChainStep.{ChainStep}
use Rattle.clc_tree.specs.declared.expressions.Choice.{Choice}
use Rattle.clc_tree.specs.declared.expressions.CommaStep.{CommaStep}
use Rattle.clc_tree.specs.declared.expressions.Cond.{Cond}
use Rattle.clc_tree.specs.declared.expressions.Expr.{Expr}
use Rattle.clc_tree.specs.declared.expressions.Post.{Post}
use Rattle.clc_tree.specs.declared.expressions.Scalar.TheVariants as scalar
use Rattle.clc_tree.specs.declared.expressions.Assign.TheOpen as o
use Rattle.clc_tree.specs.declared.expressions.Assign.TheOpen.{Assign-F, Cast-F, Chain-F, PostStep-F, Primary-F, Unary-F, ChainStep-F, Choice-F, CommaStep-F, Cond-F, Expr-F, Post-F}
use Rattle.clc_tree.specs.declared.expressions.Assign.TheFolds.{fold-Assign, fold-Cast, fold-Chain, fold-PostStep, fold-Primary, fold-Unary, fold-ChainStep, fold-Choice, fold-CommaStep, fold-Cond, fold-Expr, fold-Post}
use Rattle.clc_tree.specs.declared.statements.Pointer.{Pointer}
use Rattle.clc_tree.specs.declared.statements.Init.{Init}
use Rattle.clc_tree.specs.declared.statements.Item.{Item}
use Rattle.clc_tree.specs.declared.statements.ItemStep.{ItemStep}
use Rattle.clc_tree.specs.declared.statements.Declare.{Declare}
use Rattle.clc_tree.specs.declared.statements.ForStart.{ForStart}
use Rattle.clc_tree.specs.declared.statements.BlockPart.{BlockPart}
use Rattle.clc_tree.specs.declared.statements.Stmt.{Stmt}
use Rattle.clc_tree.specs.declared.statements.Block.{Block}
use Rattle.clc_tree.specs.declared.statements.Do.{Do}
use Rattle.clc_tree.specs.declared.statements.Else.{Else}
use Rattle.clc_tree.specs.declared.statements.For.{For}
use Rattle.clc_tree.specs.declared.statements.If.{If}
use Rattle.clc_tree.specs.declared.statements.While.{While}
use Rattle.clc_tree.specs.declared.statements.Item.TheVariants as item
use Rattle.clc_tree.specs.declared.statements.Declare.TheVariants as declare
use Rattle.clc_tree.specs.declared.statements.ForStart.TheVariants as start
use Rattle.clc_tree.specs.declared.statements.BlockPart.TheOpen as s
use Rattle.clc_tree.specs.declared.statements.BlockPart.TheOpen.{BlockPart-F, Stmt-F, Block-F, Do-F, Else-F, For-F, If-F, While-F}
use Rattle.clc_tree.specs.declared.statements.BlockPart.TheFolds.{fold-BlockPart, fold-Stmt, fold-Block, fold-Do, fold-Else, fold-For, fold-If, fold-While}
use Rattle.clc_tree.specs.declared.functions.Param.{Param}
use Rattle.clc_tree.specs.declared.functions.ParamStep.{ParamStep}
use Rattle.clc_tree.specs.declared.functions.Params.{Params}
use Rattle.clc_tree.specs.declared.functions.Returns.{Returns}
use Rattle.clc_tree.specs.declared.functions.Function.{Function}
use Rattle.clc_tree.specs.declared.functions.Tree.{Tree}
use Rattle.clc_tree.specs.declared.functions.Param.TheVariants as param
use Rattle.clc_tree.specs.declared.functions.Params.TheVariants as params
use Rattle.clc_tree.specs.declared.functions.Returns.TheVariants as returns

-- ---- lists, and parts that may be absent

abbrev pub all : List Bool → Bool
all [] = true
all (x ∷ more) = x && all more

-- nothing, or a part that passes
abbrev pub or_absent : Option Bool → Bool
or_absent None = true
or_absent (Some x) = x

abbrev pub when : {A : Type 0} → Bool → Option A → Option A
when x found = cond x found None

abbrev pub optional_proper : Kind → Option Token → Bool
optional_proper kind None = true
optional_proper kind (Some t) = is kind t

abbrev pub scalar_proper : Scalar → Bool
scalar_proper (scalar.Plain t) = is k.PlainWord t
scalar_proper (scalar.Signed t u) = is k.SignWord t && optional_proper k.BaseWord u

-- ---- chains: a proper one has as many of the tightest levels as its operators need, 0 for an operand alone

-- an operand stands beside operators of this rank
abbrev pub fits : Option ℕ → ℕ → Bool
fits None r = false
fits (Some n) r = leb n r

abbrev pub step_fits : ℕ → ℕ × Option ℕ → Bool
step_fits r x = eqb x.0 r && fits x.1 r

abbrev pub steps_fit : ℕ → List (ℕ × Option ℕ) → Bool
steps_fit r [] = true
steps_fit r (x ∷ more) = step_fits r x && steps_fit r more

-- the operators of one level, of which there is one at least
abbrev pub level : Option ℕ → List (ℕ × Option ℕ) → Option ℕ
level c [] = None
level c (x ∷ more) = when (fits c x.0 && steps_fit x.0 (x ∷ more)) (Some (suc x.0))

-- ---- expressions: one level of a tree, with what is said of each part in its place

abbrev pub assign_test : Assign-F Bool Bool (Option ℕ) Bool Bool Bool (ℕ × Option ℕ) Bool Bool Bool Bool Bool → Bool
assign_test (o.Cond c) = c
assign_test (o.Set u t a) = u && is k.Assignment t && a

abbrev pub cast_test : Cast-F Bool Bool (Option ℕ) Bool Bool Bool (ℕ × Option ℕ) Bool Bool Bool Bool Bool → Bool
cast_test (o.To l s r c) = is k.LeftParen l && scalar_proper s && is k.RightParen r && c
cast_test (o.Of u) = u

abbrev pub chain_test : Chain-F Bool Bool (Option ℕ) Bool Bool Bool (ℕ × Option ℕ) Bool Bool Bool Bool Bool → Option ℕ
chain_test (o.One c) = when c (Some 0)
chain_test (o.Level c more) = level c more

abbrev pub post_step_test : PostStep-F Bool Bool (Option ℕ) Bool Bool Bool (ℕ × Option ℕ) Bool Bool Bool Bool Bool → Bool
post_step_test (o.Index l e r) = is k.LeftBracket l && e && is k.RightBracket r
post_step_test (o.PostStep::Step t) = is k.Step t

abbrev pub primary_test : Primary-F Bool Bool (Option ℕ) Bool Bool Bool (ℕ × Option ℕ) Bool Bool Bool Bool Bool → Bool
primary_test (o.Name t) = is k.Name t
primary_test (o.Number t) = is k.Number t
primary_test (o.Paren l e r) = is k.LeftParen l && e && is k.RightParen r
primary_test (o.Call f l e r) = is k.Name f && is k.LeftParen l && or_absent e && is k.RightParen r

abbrev pub unary_test : Unary-F Bool Bool (Option ℕ) Bool Bool Bool (ℕ × Option ℕ) Bool Bool Bool Bool Bool → Bool
unary_test (o.Post p) = p
unary_test (o.Unary::Step t u) = is k.Step t && u
unary_test (o.Prefix t c) = is k.Prefix t && c

abbrev pub chain_step_test : ChainStep-F Bool Bool (Option ℕ) Bool Bool Bool (ℕ × Option ℕ) Bool Bool Bool Bool Bool → ℕ × Option ℕ
chain_step_test x = (rank x.operator, x.operand)

abbrev pub choice_test : Choice-F Bool Bool (Option ℕ) Bool Bool Bool (ℕ × Option ℕ) Bool Bool Bool Bool Bool → Bool
choice_test x = is k.Question x.question && x.yes && is k.Colon x.colon && x.no

abbrev pub comma_step_test : CommaStep-F Bool Bool (Option ℕ) Bool Bool Bool (ℕ × Option ℕ) Bool Bool Bool Bool Bool → Bool
comma_step_test x = is k.Comma x.comma && x.value

abbrev pub cond_test : Cond-F Bool Bool (Option ℕ) Bool Bool Bool (ℕ × Option ℕ) Bool Bool Bool Bool Bool → Bool
cond_test x = fits x.test ranks && or_absent x.choice

abbrev pub expr_test : Expr-F Bool Bool (Option ℕ) Bool Bool Bool (ℕ × Option ℕ) Bool Bool Bool Bool Bool → Bool
expr_test x = x.first && all x.rest

abbrev pub post_test : Post-F Bool Bool (Option ℕ) Bool Bool Bool (ℕ × Option ℕ) Bool Bool Bool Bool Bool → Bool
post_test x = x.primary && all x.rest

abbrev pub assign_proper : Assign → Bool
assign_proper = fold-Assign Bool Bool (Option ℕ) Bool Bool Bool (ℕ × Option ℕ) Bool Bool Bool Bool Bool assign_test cast_test chain_test post_step_test primary_test unary_test chain_step_test choice_test comma_step_test cond_test expr_test post_test

abbrev pub cast_proper : Cast → Bool
cast_proper = fold-Cast Bool Bool (Option ℕ) Bool Bool Bool (ℕ × Option ℕ) Bool Bool Bool Bool Bool assign_test cast_test chain_test post_step_test primary_test unary_test chain_step_test choice_test comma_step_test cond_test expr_test post_test

abbrev pub chain_top : Chain → Option ℕ
chain_top = fold-Chain Bool Bool (Option ℕ) Bool Bool Bool (ℕ × Option ℕ) Bool Bool Bool Bool Bool assign_test cast_test chain_test post_step_test primary_test unary_test chain_step_test choice_test comma_step_test cond_test expr_test post_test

abbrev pub post_step_proper : PostStep → Bool
post_step_proper = fold-PostStep Bool Bool (Option ℕ) Bool Bool Bool (ℕ × Option ℕ) Bool Bool Bool Bool Bool assign_test cast_test chain_test post_step_test primary_test unary_test chain_step_test choice_test comma_step_test cond_test expr_test post_test

abbrev pub primary_proper : Primary → Bool
primary_proper = fold-Primary Bool Bool (Option ℕ) Bool Bool Bool (ℕ × Option ℕ) Bool Bool Bool Bool Bool assign_test cast_test chain_test post_step_test primary_test unary_test chain_step_test choice_test comma_step_test cond_test expr_test post_test

abbrev pub unary_proper : Unary → Bool
unary_proper = fold-Unary Bool Bool (Option ℕ) Bool Bool Bool (ℕ × Option ℕ) Bool Bool Bool Bool Bool assign_test cast_test chain_test post_step_test primary_test unary_test chain_step_test choice_test comma_step_test cond_test expr_test post_test

abbrev pub step_top : ChainStep → ℕ × Option ℕ
step_top = fold-ChainStep Bool Bool (Option ℕ) Bool Bool Bool (ℕ × Option ℕ) Bool Bool Bool Bool Bool assign_test cast_test chain_test post_step_test primary_test unary_test chain_step_test choice_test comma_step_test cond_test expr_test post_test

abbrev pub choice_proper : Choice → Bool
choice_proper = fold-Choice Bool Bool (Option ℕ) Bool Bool Bool (ℕ × Option ℕ) Bool Bool Bool Bool Bool assign_test cast_test chain_test post_step_test primary_test unary_test chain_step_test choice_test comma_step_test cond_test expr_test post_test

abbrev pub comma_step_proper : CommaStep → Bool
comma_step_proper = fold-CommaStep Bool Bool (Option ℕ) Bool Bool Bool (ℕ × Option ℕ) Bool Bool Bool Bool Bool assign_test cast_test chain_test post_step_test primary_test unary_test chain_step_test choice_test comma_step_test cond_test expr_test post_test

abbrev pub cond_proper : Cond → Bool
cond_proper = fold-Cond Bool Bool (Option ℕ) Bool Bool Bool (ℕ × Option ℕ) Bool Bool Bool Bool Bool assign_test cast_test chain_test post_step_test primary_test unary_test chain_step_test choice_test comma_step_test cond_test expr_test post_test

abbrev pub expr_proper : Expr → Bool
expr_proper = fold-Expr Bool Bool (Option ℕ) Bool Bool Bool (ℕ × Option ℕ) Bool Bool Bool Bool Bool assign_test cast_test chain_test post_step_test primary_test unary_test chain_step_test choice_test comma_step_test cond_test expr_test post_test

abbrev pub post_proper : Post → Bool
post_proper = fold-Post Bool Bool (Option ℕ) Bool Bool Bool (ℕ × Option ℕ) Bool Bool Bool Bool Bool assign_test cast_test chain_test post_step_test primary_test unary_test chain_step_test choice_test comma_step_test cond_test expr_test post_test

-- ---- declarations

abbrev pub pointer_proper : Pointer → Bool
pointer_proper p =
    optional_proper k.Const p.outer_const && is k.Space p.space && optional_proper k.Const p.inner_const && scalar_proper p.element
    && is k.Star p.star && optional_proper k.Const p.own_const && optional_proper k.Restrict p.restrict

abbrev pub init_proper : Option Init → Bool
init_proper None = true
init_proper (Some i) = is k.Equals i.equals && assign_proper i.value

abbrev pub item_proper : Item → Bool
item_proper (item.Array t l v r) = is k.Name t && is k.LeftBracket l && is k.Number v && is k.RightBracket r
item_proper (item.Value t i) = is k.Name t && init_proper i

abbrev pub item_step_proper : ItemStep → Bool
item_step_proper x = is k.Comma x.comma && item_proper x.item

abbrev pub declare_proper : Declare → Bool
declare_proper (declare.Values c s i more e) =
    optional_proper k.Const c && scalar_proper s && item_proper i && all (map item_step_proper more) && is k.Semicolon e
declare_proper (declare.Pointer p t i e) = pointer_proper p && is k.Name t && init_proper i && is k.Semicolon e

-- ---- statements: whether a proper one could take an `else` at its end

abbrev pub maybe_proper : Option Expr → Bool
maybe_proper None = true
maybe_proper (Some e) = expr_proper e

abbrev pub for_start_proper : ForStart → Bool
for_start_proper (start.Declare d) = declare_proper d
for_start_proper (start.Eval e t) = maybe_proper e && is k.Semicolon t

-- what stands in the parentheses of a `for`
abbrev pub for_head_proper : ForStart → Option Expr → Token → Option Expr → Bool
for_head_proper i e t u = for_start_proper i && maybe_proper e && is k.Semicolon t && maybe_proper u

-- an expression in parentheses
abbrev pub tested_proper : Token → Expr → Token → Bool
tested_proper l e r = is k.LeftParen l && expr_proper e && is k.RightParen r

-- a statement and an `else` with its statement, or none: before an `else` stands none that could take it itself
abbrev pub branches : Option Bool → Option (Option Bool) → Option Bool
branches None y = None
branches (Some open_) None = Some true
branches (Some true) (Some y) = None
branches (Some false) (Some y) = y

-- a proper statement that takes no `else`
abbrev pub closes : Option Bool → Option Bool
closes None = None
closes (Some x) = Some false

abbrev pub is_some : Option Bool → Bool
is_some None = false
is_some (Some x) = true

abbrev pub block_part_test : BlockPart-F Bool (Option Bool) Bool (Option Bool) (Option Bool) (Option Bool) (Option Bool) (Option Bool) → Bool
block_part_test (s.Declare d) = declare_proper d
block_part_test (s.Stmt x) = is_some x

abbrev pub stmt_test : Stmt-F Bool (Option Bool) Bool (Option Bool) (Option Bool) (Option Bool) (Option Bool) (Option Bool) → Option Bool
stmt_test (s.Block b) = when b (Some false)
stmt_test (s.Eval e t) = when (expr_proper e && is k.Semicolon t) (Some false)
stmt_test (s.Empty t) = when (is k.Semicolon t) (Some false)
stmt_test (s.If x) = x
stmt_test (s.While x) = x
stmt_test (s.Do x) = x
stmt_test (s.For x) = x
stmt_test (s.Break w t) = when (is k.Break w && is k.Semicolon t) (Some false)
stmt_test (s.Continue w t) = when (is k.Continue w && is k.Semicolon t) (Some false)
stmt_test (s.Return w e t) = when (is k.Return w && maybe_proper e && is k.Semicolon t) (Some false)

abbrev pub block_test : Block-F Bool (Option Bool) Bool (Option Bool) (Option Bool) (Option Bool) (Option Bool) (Option Bool) → Bool
block_test x = is k.LeftBrace x.opening && all x.parts && is k.RightBrace x.closing

abbrev pub do_test : Do-F Bool (Option Bool) Bool (Option Bool) (Option Bool) (Option Bool) (Option Bool) (Option Bool) → Option Bool
do_test x = when (is k.Do x.word && is k.While x.until && tested_proper x.opening x.test x.closing && is k.Semicolon x.end) (closes x.body)

abbrev pub else_test : Else-F Bool (Option Bool) Bool (Option Bool) (Option Bool) (Option Bool) (Option Bool) (Option Bool) → Option Bool
else_test x = when (is k.Else x.word) x.body

abbrev pub for_test : For-F Bool (Option Bool) Bool (Option Bool) (Option Bool) (Option Bool) (Option Bool) (Option Bool) → Option Bool
for_test x = when (is k.For x.word && is k.LeftParen x.opening && for_head_proper x.start x.test x.middle x.step && is k.RightParen x.closing) x.body

abbrev pub if_test : If-F Bool (Option Bool) Bool (Option Bool) (Option Bool) (Option Bool) (Option Bool) (Option Bool) → Option Bool
if_test x = when (is k.If x.word && tested_proper x.opening x.test x.closing) (branches x.body x.other)

abbrev pub while_test : While-F Bool (Option Bool) Bool (Option Bool) (Option Bool) (Option Bool) (Option Bool) (Option Bool) → Option Bool
while_test x = when (is k.While x.word && tested_proper x.opening x.test x.closing) x.body

abbrev pub part_proper : BlockPart → Bool
part_proper = fold-BlockPart Bool (Option Bool) Bool (Option Bool) (Option Bool) (Option Bool) (Option Bool) (Option Bool) block_part_test stmt_test block_test do_test else_test for_test if_test while_test

abbrev pub stmt_open : Stmt → Option Bool
stmt_open = fold-Stmt Bool (Option Bool) Bool (Option Bool) (Option Bool) (Option Bool) (Option Bool) (Option Bool) block_part_test stmt_test block_test do_test else_test for_test if_test while_test

abbrev pub block_proper : Block → Bool
block_proper = fold-Block Bool (Option Bool) Bool (Option Bool) (Option Bool) (Option Bool) (Option Bool) (Option Bool) block_part_test stmt_test block_test do_test else_test for_test if_test while_test

abbrev pub do_open : Do → Option Bool
do_open = fold-Do Bool (Option Bool) Bool (Option Bool) (Option Bool) (Option Bool) (Option Bool) (Option Bool) block_part_test stmt_test block_test do_test else_test for_test if_test while_test

abbrev pub else_open : Else → Option Bool
else_open = fold-Else Bool (Option Bool) Bool (Option Bool) (Option Bool) (Option Bool) (Option Bool) (Option Bool) block_part_test stmt_test block_test do_test else_test for_test if_test while_test

abbrev pub for_open : For → Option Bool
for_open = fold-For Bool (Option Bool) Bool (Option Bool) (Option Bool) (Option Bool) (Option Bool) (Option Bool) block_part_test stmt_test block_test do_test else_test for_test if_test while_test

abbrev pub if_open : If → Option Bool
if_open = fold-If Bool (Option Bool) Bool (Option Bool) (Option Bool) (Option Bool) (Option Bool) (Option Bool) block_part_test stmt_test block_test do_test else_test for_test if_test while_test

abbrev pub while_open : While → Option Bool
while_open = fold-While Bool (Option Bool) Bool (Option Bool) (Option Bool) (Option Bool) (Option Bool) (Option Bool) block_part_test stmt_test block_test do_test else_test for_test if_test while_test

-- ---- functions and programs

abbrev pub param_proper : Param → Bool
param_proper (param.Value c s t) = optional_proper k.Const c && scalar_proper s && is k.Name t
param_proper (param.Pointer p t) = pointer_proper p && is k.Name t

abbrev pub param_step_proper : ParamStep → Bool
param_step_proper x = is k.Comma x.comma && param_proper x.param

abbrev pub params_proper : Option Params → Bool
params_proper None = true
params_proper (Some (params.Void t)) = is k.Void t
params_proper (Some (params.List p more)) = param_proper p && all (map param_step_proper more)

abbrev pub returns_proper : Returns → Bool
returns_proper (returns.Void t) = is k.Void t
returns_proper (returns.Value s) = scalar_proper s

abbrev pub function_proper : Function → Bool
function_proper f =
    optional_proper k.Lead f.lead && returns_proper f.returns && is k.Name f.name && is k.LeftParen f.opening && params_proper f.params
    && is k.RightParen f.closing && block_proper f.body

abbrev pub tree_proper : Tree → Bool
tree_proper t = all (map function_proper t.functions)
