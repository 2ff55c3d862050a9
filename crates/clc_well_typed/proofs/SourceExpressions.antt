-- What an expression's parts are judged to be, node by node.
use Rattle.std.proofs.Common.{◌≡◌, List, Some, None, sym, ap, ◌∙◌}
use Rattle.std.specs.Prelude.{map}
use Rattle.clc_lexer.specs.declared.token.Token.{Token}
use Rattle.clc_tree.specs.Expressions as g
use Rattle.clc_tree.specs.declared.expressions.Scalar.{Scalar}
use Rattle.clc_tree.specs.declared.expressions.Assign.{Assign}
use Rattle.clc_tree.specs.declared.expressions.Cast.{Cast}
use Rattle.clc_tree.specs.declared.expressions.Chain.{Chain}
use Rattle.clc_tree.specs.declared.expressions.PostStep.{PostStep}
use Rattle.clc_tree.specs.declared.expressions.Primary.{Primary}
use Rattle.clc_tree.specs.declared.expressions.Unary.{Unary}
use Rattle.clc_tree.specs.declared.expressions.ChainStep.{ChainStep}
use Rattle.clc_tree.specs.declared.expressions.Choice.{Choice}
use Rattle.clc_tree.specs.declared.expressions.CommaStep.{CommaStep}
use Rattle.clc_tree.specs.declared.expressions.Cond.{Cond}
use Rattle.clc_tree.specs.declared.expressions.Expr.{Expr}
use Rattle.clc_tree.specs.declared.expressions.Post.{Post}
use Rattle.clc_tree.specs.declared.expressions.Assign.TheVariants as assign
use Rattle.clc_tree.specs.declared.expressions.Cast.TheVariants as cast
use Rattle.clc_tree.specs.declared.expressions.Chain.TheVariants as chain
use Rattle.clc_tree.specs.declared.expressions.PostStep.TheVariants as post_step
use Rattle.clc_tree.specs.declared.expressions.Primary.TheVariants as primary
use Rattle.clc_tree.specs.declared.expressions.Unary.TheVariants as unary
use Rattle.clc_tree.specs.declared.expressions.Assign.TheOpen as o
use Rattle.clc_tree.specs.declared.expressions.Assign.TheFolds as f
use Rattle.clc_types.specs.declared.forms.Form.{Form}
use Rattle.clc_types.specs.Judged.{Part}
use Rattle.clc_types.specs.Typing.{Suffix, Operand, Choices, Series, assign_part, cast_part, chain_part, post_step_part, primary_part, unary_part, chain_step_part, choice_part, comma_step_part, cond_part, expr_part, post_part}

abbrev pub j_assign : Assign → Part Form
j_assign = f.fold-Assign (Part Form) (Part Form) (Part Form) Suffix (Part Form) (Part Form) Operand Choices (Part Form) (Part Form) Series (Part Form) assign_part cast_part chain_part post_step_part primary_part unary_part chain_step_part choice_part comma_step_part cond_part expr_part post_part

abbrev pub j_cast : Cast → Part Form
j_cast = f.fold-Cast (Part Form) (Part Form) (Part Form) Suffix (Part Form) (Part Form) Operand Choices (Part Form) (Part Form) Series (Part Form) assign_part cast_part chain_part post_step_part primary_part unary_part chain_step_part choice_part comma_step_part cond_part expr_part post_part

abbrev pub j_chain : Chain → Part Form
j_chain = f.fold-Chain (Part Form) (Part Form) (Part Form) Suffix (Part Form) (Part Form) Operand Choices (Part Form) (Part Form) Series (Part Form) assign_part cast_part chain_part post_step_part primary_part unary_part chain_step_part choice_part comma_step_part cond_part expr_part post_part

abbrev pub j_post_step : PostStep → Suffix
j_post_step = f.fold-PostStep (Part Form) (Part Form) (Part Form) Suffix (Part Form) (Part Form) Operand Choices (Part Form) (Part Form) Series (Part Form) assign_part cast_part chain_part post_step_part primary_part unary_part chain_step_part choice_part comma_step_part cond_part expr_part post_part

abbrev pub j_primary : Primary → Part Form
j_primary = f.fold-Primary (Part Form) (Part Form) (Part Form) Suffix (Part Form) (Part Form) Operand Choices (Part Form) (Part Form) Series (Part Form) assign_part cast_part chain_part post_step_part primary_part unary_part chain_step_part choice_part comma_step_part cond_part expr_part post_part

abbrev pub j_unary : Unary → Part Form
j_unary = f.fold-Unary (Part Form) (Part Form) (Part Form) Suffix (Part Form) (Part Form) Operand Choices (Part Form) (Part Form) Series (Part Form) assign_part cast_part chain_part post_step_part primary_part unary_part chain_step_part choice_part comma_step_part cond_part expr_part post_part

abbrev pub j_chain_step : ChainStep → Operand
j_chain_step = f.fold-ChainStep (Part Form) (Part Form) (Part Form) Suffix (Part Form) (Part Form) Operand Choices (Part Form) (Part Form) Series (Part Form) assign_part cast_part chain_part post_step_part primary_part unary_part chain_step_part choice_part comma_step_part cond_part expr_part post_part

abbrev pub j_choice : Choice → Choices
j_choice = f.fold-Choice (Part Form) (Part Form) (Part Form) Suffix (Part Form) (Part Form) Operand Choices (Part Form) (Part Form) Series (Part Form) assign_part cast_part chain_part post_step_part primary_part unary_part chain_step_part choice_part comma_step_part cond_part expr_part post_part

abbrev pub j_comma_step : CommaStep → Part Form
j_comma_step = f.fold-CommaStep (Part Form) (Part Form) (Part Form) Suffix (Part Form) (Part Form) Operand Choices (Part Form) (Part Form) Series (Part Form) assign_part cast_part chain_part post_step_part primary_part unary_part chain_step_part choice_part comma_step_part cond_part expr_part post_part

abbrev pub j_cond : Cond → Part Form
j_cond = f.fold-Cond (Part Form) (Part Form) (Part Form) Suffix (Part Form) (Part Form) Operand Choices (Part Form) (Part Form) Series (Part Form) assign_part cast_part chain_part post_step_part primary_part unary_part chain_step_part choice_part comma_step_part cond_part expr_part post_part

abbrev pub j_expr : Expr → Series
j_expr = f.fold-Expr (Part Form) (Part Form) (Part Form) Suffix (Part Form) (Part Form) Operand Choices (Part Form) (Part Form) Series (Part Form) assign_part cast_part chain_part post_step_part primary_part unary_part chain_step_part choice_part comma_step_part cond_part expr_part post_part

abbrev pub j_post : Post → Part Form
j_post = f.fold-Post (Part Form) (Part Form) (Part Form) Suffix (Part Form) (Part Form) Operand Choices (Part Form) (Part Form) Series (Part Form) assign_part cast_part chain_part post_step_part primary_part unary_part chain_step_part choice_part comma_step_part cond_part expr_part post_part

pub assign_cond : (c : Cond) → j_assign (assign.Cond c) ≡ assign_part (o.Cond (j_cond c))
assign_cond c = ap j_assign (sym (assign.rolls-Cond c)) ∙ f.fold-roll-Assign (Part Form) (Part Form) (Part Form) Suffix (Part Form) (Part Form) Operand Choices (Part Form) (Part Form) Series (Part Form) assign_part cast_part chain_part post_step_part primary_part unary_part chain_step_part choice_part comma_step_part cond_part expr_part post_part (o.Cond c)

pub assign_set : (u : Unary) (t : Token) (a : Assign) → j_assign (assign.Set u t a) ≡ assign_part (o.Set (j_unary u) t (j_assign a))
assign_set u t a = ap j_assign (sym (assign.rolls-Set u t a)) ∙ f.fold-roll-Assign (Part Form) (Part Form) (Part Form) Suffix (Part Form) (Part Form) Operand Choices (Part Form) (Part Form) Series (Part Form) assign_part cast_part chain_part post_step_part primary_part unary_part chain_step_part choice_part comma_step_part cond_part expr_part post_part (o.Set u t a)

pub cast_to : (l : Token) (s : Scalar) (r : Token) (c : Cast) → j_cast (cast.To l s r c) ≡ cast_part (o.To l s r (j_cast c))
cast_to l s r c = ap j_cast (sym (cast.rolls-To l s r c)) ∙ f.fold-roll-Cast (Part Form) (Part Form) (Part Form) Suffix (Part Form) (Part Form) Operand Choices (Part Form) (Part Form) Series (Part Form) assign_part cast_part chain_part post_step_part primary_part unary_part chain_step_part choice_part comma_step_part cond_part expr_part post_part (o.To l s r c)

pub cast_of : (u : Unary) → j_cast (cast.Of u) ≡ cast_part (o.Of (j_unary u))
cast_of u = ap j_cast (sym (cast.rolls-Of u)) ∙ f.fold-roll-Cast (Part Form) (Part Form) (Part Form) Suffix (Part Form) (Part Form) Operand Choices (Part Form) (Part Form) Series (Part Form) assign_part cast_part chain_part post_step_part primary_part unary_part chain_step_part choice_part comma_step_part cond_part expr_part post_part (o.Of u)

pub chain_one : (c : Cast) → j_chain (chain.One c) ≡ chain_part (o.One (j_cast c))
chain_one c = ap j_chain (sym (chain.rolls-One c)) ∙ f.fold-roll-Chain (Part Form) (Part Form) (Part Form) Suffix (Part Form) (Part Form) Operand Choices (Part Form) (Part Form) Series (Part Form) assign_part cast_part chain_part post_step_part primary_part unary_part chain_step_part choice_part comma_step_part cond_part expr_part post_part (o.One c)

pub chain_level : (c : Chain) (more : List ChainStep) → j_chain (chain.Level c more) ≡ chain_part (o.Level (j_chain c) (map j_chain_step more))
chain_level c more = ap j_chain (sym (chain.rolls-Level c more)) ∙ f.fold-roll-Chain (Part Form) (Part Form) (Part Form) Suffix (Part Form) (Part Form) Operand Choices (Part Form) (Part Form) Series (Part Form) assign_part cast_part chain_part post_step_part primary_part unary_part chain_step_part choice_part comma_step_part cond_part expr_part post_part (o.Level c more)

pub post_step_index : (l : Token) (x : Expr) (r : Token) → j_post_step (post_step.Index l x r) ≡ post_step_part (o.Index l (j_expr x) r)
post_step_index l x r = ap j_post_step (sym (post_step.rolls-Index l x r)) ∙ f.fold-roll-PostStep (Part Form) (Part Form) (Part Form) Suffix (Part Form) (Part Form) Operand Choices (Part Form) (Part Form) Series (Part Form) assign_part cast_part chain_part post_step_part primary_part unary_part chain_step_part choice_part comma_step_part cond_part expr_part post_part (o.Index l x r)

pub post_step_step : (t : Token) → j_post_step (post_step.Step t) ≡ post_step_part (o.PostStep::Step t)
post_step_step t = ap j_post_step (sym (post_step.rolls-Step t)) ∙ f.fold-roll-PostStep (Part Form) (Part Form) (Part Form) Suffix (Part Form) (Part Form) Operand Choices (Part Form) (Part Form) Series (Part Form) assign_part cast_part chain_part post_step_part primary_part unary_part chain_step_part choice_part comma_step_part cond_part expr_part post_part (o.PostStep::Step t)

pub primary_name : (t : Token) → j_primary (primary.Name t) ≡ primary_part (o.Name t)
primary_name t = ap j_primary (sym (primary.rolls-Name t)) ∙ f.fold-roll-Primary (Part Form) (Part Form) (Part Form) Suffix (Part Form) (Part Form) Operand Choices (Part Form) (Part Form) Series (Part Form) assign_part cast_part chain_part post_step_part primary_part unary_part chain_step_part choice_part comma_step_part cond_part expr_part post_part (o.Name t)

pub primary_number : (t : Token) → j_primary (primary.Number t) ≡ primary_part (o.Number t)
primary_number t = ap j_primary (sym (primary.rolls-Number t)) ∙ f.fold-roll-Primary (Part Form) (Part Form) (Part Form) Suffix (Part Form) (Part Form) Operand Choices (Part Form) (Part Form) Series (Part Form) assign_part cast_part chain_part post_step_part primary_part unary_part chain_step_part choice_part comma_step_part cond_part expr_part post_part (o.Number t)

pub primary_paren : (l : Token) (x : Expr) (r : Token) → j_primary (primary.Paren l x r) ≡ primary_part (o.Paren l (j_expr x) r)
primary_paren l x r = ap j_primary (sym (primary.rolls-Paren l x r)) ∙ f.fold-roll-Primary (Part Form) (Part Form) (Part Form) Suffix (Part Form) (Part Form) Operand Choices (Part Form) (Part Form) Series (Part Form) assign_part cast_part chain_part post_step_part primary_part unary_part chain_step_part choice_part comma_step_part cond_part expr_part post_part (o.Paren l x r)

pub primary_call0 : (t l r : Token) → j_primary (primary.Call t l None r) ≡ primary_part (o.Call t l None r)
primary_call0 t l r = ap j_primary (sym (primary.rolls-Call t l None r)) ∙ f.fold-roll-Primary (Part Form) (Part Form) (Part Form) Suffix (Part Form) (Part Form) Operand Choices (Part Form) (Part Form) Series (Part Form) assign_part cast_part chain_part post_step_part primary_part unary_part chain_step_part choice_part comma_step_part cond_part expr_part post_part (o.Call t l None r)

pub primary_call : (t l : Token) (x : Expr) (r : Token) → j_primary (primary.Call t l (Some x) r) ≡ primary_part (o.Call t l (Some (j_expr x)) r)
primary_call t l x r = ap j_primary (sym (primary.rolls-Call t l (Some x) r)) ∙ f.fold-roll-Primary (Part Form) (Part Form) (Part Form) Suffix (Part Form) (Part Form) Operand Choices (Part Form) (Part Form) Series (Part Form) assign_part cast_part chain_part post_step_part primary_part unary_part chain_step_part choice_part comma_step_part cond_part expr_part post_part (o.Call t l (Some x) r)

pub unary_post : (p : Post) → j_unary (unary.Post p) ≡ unary_part (o.Post (j_post p))
unary_post p = ap j_unary (sym (unary.rolls-Post p)) ∙ f.fold-roll-Unary (Part Form) (Part Form) (Part Form) Suffix (Part Form) (Part Form) Operand Choices (Part Form) (Part Form) Series (Part Form) assign_part cast_part chain_part post_step_part primary_part unary_part chain_step_part choice_part comma_step_part cond_part expr_part post_part (o.Post p)

pub unary_step : (t : Token) (u : Unary) → j_unary (unary.Step t u) ≡ unary_part (o.Unary::Step t (j_unary u))
unary_step t u = ap j_unary (sym (unary.rolls-Step t u)) ∙ f.fold-roll-Unary (Part Form) (Part Form) (Part Form) Suffix (Part Form) (Part Form) Operand Choices (Part Form) (Part Form) Series (Part Form) assign_part cast_part chain_part post_step_part primary_part unary_part chain_step_part choice_part comma_step_part cond_part expr_part post_part (o.Unary::Step t u)

pub unary_prefix : (t : Token) (c : Cast) → j_unary (unary.Prefix t c) ≡ unary_part (o.Prefix t (j_cast c))
unary_prefix t c = ap j_unary (sym (unary.rolls-Prefix t c)) ∙ f.fold-roll-Unary (Part Form) (Part Form) (Part Form) Suffix (Part Form) (Part Form) Operand Choices (Part Form) (Part Form) Series (Part Form) assign_part cast_part chain_part post_step_part primary_part unary_part chain_step_part choice_part comma_step_part cond_part expr_part post_part (o.Prefix t c)

pub chain_step_is : (t : Token) (c : Chain) → j_chain_step (g.step_of t c) ≡ chain_step_part (record { operator = t; operand = j_chain c })
chain_step_is t c = f.fold-roll-ChainStep (Part Form) (Part Form) (Part Form) Suffix (Part Form) (Part Form) Operand Choices (Part Form) (Part Form) Series (Part Form) assign_part cast_part chain_part post_step_part primary_part unary_part chain_step_part choice_part comma_step_part cond_part expr_part post_part (record { operator = t; operand = c })

pub choice_is : (q : Token) (a : Expr) (c : Token) (b : Cond) → j_choice (g.choice_of q a c b) ≡ choice_part (record { question = q; yes = j_expr a; colon = c; no = j_cond b })
choice_is q a c b = f.fold-roll-Choice (Part Form) (Part Form) (Part Form) Suffix (Part Form) (Part Form) Operand Choices (Part Form) (Part Form) Series (Part Form) assign_part cast_part chain_part post_step_part primary_part unary_part chain_step_part choice_part comma_step_part cond_part expr_part post_part (record { question = q; yes = a; colon = c; no = b })

pub comma_step_is : (t : Token) (a : Assign) → j_comma_step (g.comma_of t a) ≡ comma_step_part (record { comma = t; value = j_assign a })
comma_step_is t a = f.fold-roll-CommaStep (Part Form) (Part Form) (Part Form) Suffix (Part Form) (Part Form) Operand Choices (Part Form) (Part Form) Series (Part Form) assign_part cast_part chain_part post_step_part primary_part unary_part chain_step_part choice_part comma_step_part cond_part expr_part post_part (record { comma = t; value = a })

pub cond_test_is : (c : Chain) → j_cond (g.cond_of c None) ≡ cond_part (record { test = j_chain c; choice = None })
cond_test_is c = f.fold-roll-Cond (Part Form) (Part Form) (Part Form) Suffix (Part Form) (Part Form) Operand Choices (Part Form) (Part Form) Series (Part Form) assign_part cast_part chain_part post_step_part primary_part unary_part chain_step_part choice_part comma_step_part cond_part expr_part post_part (record { test = c; choice = None })

pub cond_choice_is : (c : Chain) (x : Choice) → j_cond (g.cond_of c (Some x)) ≡ cond_part (record { test = j_chain c; choice = Some (j_choice x) })
cond_choice_is c x = f.fold-roll-Cond (Part Form) (Part Form) (Part Form) Suffix (Part Form) (Part Form) Operand Choices (Part Form) (Part Form) Series (Part Form) assign_part cast_part chain_part post_step_part primary_part unary_part chain_step_part choice_part comma_step_part cond_part expr_part post_part (record { test = c; choice = Some x })

pub expr_is : (a : Assign) (more : List CommaStep) → j_expr (g.expr_of a more) ≡ expr_part (record { first = j_assign a; rest = map j_comma_step more })
expr_is a more = f.fold-roll-Expr (Part Form) (Part Form) (Part Form) Suffix (Part Form) (Part Form) Operand Choices (Part Form) (Part Form) Series (Part Form) assign_part cast_part chain_part post_step_part primary_part unary_part chain_step_part choice_part comma_step_part cond_part expr_part post_part (record { first = a; rest = more })

pub post_is : (x : Primary) (more : List PostStep) → j_post (g.post_of x more) ≡ post_part (record { primary = j_primary x; rest = map j_post_step more })
post_is x more = f.fold-roll-Post (Part Form) (Part Form) (Part Form) Suffix (Part Form) (Part Form) Operand Choices (Part Form) (Part Form) Series (Part Form) assign_part cast_part chain_part post_step_part primary_part unary_part chain_step_part choice_part comma_step_part cond_part expr_part post_part (record { primary = x; rest = more })
