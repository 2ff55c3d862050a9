-- Internal: what the code does, and no part of the rules. The walk over an expression: it stops at the first fault, and counts the tokens on its way.
use Rattle.std.specs.Prelude.{ℕ, ◌+◌, min, List, [], ◌∷◌, ◌++◌, Option, Some, None, slice_get, map}
use Rattle.clc_lexer.specs.declared.token.Token.{Token}
use Rattle.clc_lexer.specs.declared.marks.Mark.{Mark}
use Rattle.clc_lexer.specs.declared.marks.Mark.TheVariants as m
use Rattle.clc_tree.specs.declared.expressions.Assign.{Assign}
use Rattle.clc_tree.specs.declared.expressions.Cast.{Cast}
use Rattle.clc_tree.specs.declared.expressions.Chain.{Chain}
use Rattle.clc_tree.specs.declared.expressions.PostStep.{PostStep}
use Rattle.clc_tree.specs.declared.expressions.Primary.{Primary}
use Rattle.clc_tree.specs.declared.expressions.Unary.{Unary}
use Rattle.clc_tree.specs.declared.expressions.ChainStep.{ChainStep}
use Rattle.clc_tree.specs.declared.expressions.Choice.{Choice}
use Rattle.clc_tree.specs.declared.expressions.CommaStep.{CommaStep}
use Rattle.clc_tree.specs.declared.expressions.Cond.{Cond}
use Rattle.clc_tree.specs.declared.expressions.Expr.{Expr}
use Rattle.clc_tree.specs.declared.expressions.Post.{Post}
use Rattle.clc_tree.specs.declared.expressions.Scalar.{Scalar as Written}
use Rattle.clc_tree.specs.declared.expressions.Assign.TheOpen as o
use Rattle.clc_tree.specs.declared.expressions.Assign.TheOpen.{Assign-F, Cast-F, Chain-F, PostStep-F, Primary-F, Unary-F, ChainStep-F, Choice-F, CommaStep-F, Cond-F, Expr-F, Post-F}
use Rattle.clc_tree.specs.declared.expressions.Assign.TheFolds.{fold-Assign, fold-Cast, fold-Chain, fold-PostStep, fold-Primary, fold-Unary, fold-ChainStep, fold-Choice, fold-CommaStep, fold-Cond, fold-Expr, fold-Post}
use Rattle.clc_types.specs.declared.type_rule.TypeRule.TheVariants.{S1}
use Rattle.clc_types.specs.declared.forms.Fault.{Fault}
use Rattle.clc_types.specs.declared.forms.Named.{Named}
use Rattle.clc_types.specs.declared.forms.Named.TheVariants as nm
use Rattle.clc_types.specs.declared.forms.Form.{Form}
use Rattle.clc_types.specs.declared.forms.Sofar.{Sofar}
use Rattle.clc_types.specs.declared.forms.Argument.{Argument}
use Rattle.clc_types.specs.declared.forms.Home.{Home}
use Rattle.clc_types.specs.Words.{name_of, mark_of, type_tokens}
use Rattle.clc_types.specs.Rules.{scalar_needed, pointer_needed, step_needs, index_needs, operator_needs, conditional_needs, assign_needs, call_needs, builtin_needs}
use Rattle.clc_types.specs.Typing.{number_form, variable_form, paren_form, index_form, deref_form, post_form, step_form, prefix_form, cast_form, first_of_chain, further, chain_form, conditional_form, assign_form, argument, call_form, builtin_form}
use Rattle.clc_types.specs.InternalScope.{Known}

-- what was found, with the number of the next token
pub data Walked (A : Type 0) : Type 0 where
  Right : A → (after : ℕ) → Walked A
  Wrong : Fault → Walked A

abbrev pub after : {A B : Type 0} → Walked A → (A → ℕ → Walked B) → Walked B
after (Right a q) go = go a q
after (Wrong f) go = Wrong f

-- goes on where nothing is violated
abbrev pub guarded : {A : Type 0} → List Fault → Walked A → Walked A
guarded [] go = go
guarded (f ∷ fs) go = Wrong f

-- n tokens on: the count stays within its type
abbrev pub bump : ℕ → ℕ → ℕ
bump p n = min (p + n) 4294967295

abbrev pub Walk : Type 0 → Type 0
Walk A = ℕ → Walked A

-- ---- the end of each part, once its operands are there

unfoldable pub paren_end : Token → Form → ℕ → Walked Form
paren_end t x r = Right (paren_form t x) (bump r 1)

unfoldable pub index_end : ℕ → Form → ℕ → Form → ℕ → Walked Form
index_end p x q y r = guarded (index_needs p x q y) (Right (index_form x y) (bump r 1))

unfoldable pub post_end : Token → ℕ → Form → ℕ → Walked Form
post_end t p x r = guarded (step_needs p x) (Right (post_form t x) (bump r 1))

unfoldable pub step_end : Token → ℕ → Form → ℕ → Walked Form
step_end t q x r = guarded (step_needs q x) (Right (step_form t x) r)

abbrev pub by_mark : Token → Mark → ℕ → Form → ℕ → Walked Form
by_mark t m.Star q x r = guarded (pointer_needed q x.kind) (Right (deref_form t x) r)
by_mark t _ q x r = guarded (scalar_needed q x.kind) (Right (prefix_form t x) r)

unfoldable pub prefix_end : Token → ℕ → Form → ℕ → Walked Form
prefix_end t q x r = by_mark t (mark_of t) q x r

unfoldable pub cast_end : Token → Written → ℕ → Form → ℕ → Walked Form
cast_end t s q x r = guarded (scalar_needed q x.kind) (Right (cast_form t s x) r)

unfoldable pub chain_start : Form → Sofar
chain_start x = first_of_chain x

unfoldable pub operator_end : Mark → ℕ → Sofar → ℕ → Form → ℕ → Walked Sofar
operator_end m p a q y r = guarded (operator_needs m p a q y) (Right (further m a y) r)

unfoldable pub chain_end : Sofar → ℕ → Walked Form
chain_end a r = Right (chain_form a) r

unfoldable pub conditional_end : ℕ → Form → ℕ → Form → ℕ → Form → ℕ → Walked Form
conditional_end p x q y r z u = guarded (conditional_needs p x q y r z) (Right (conditional_form x y z) u)

unfoldable pub assign_end : Mark → ℕ → Form → ℕ → Form → ℕ → Walked Form
assign_end m p x q y r = guarded (assign_needs m p x q y) (Right (assign_form m x y) r)

abbrev pub by_callee : Home → ℕ → Token → Named → List Argument → ℕ → Walked Form
by_callee home p t (nm.Function f) args r = guarded (call_needs p home f args) (Right (call_form t f (slice_get home.functions f) args) (bump r 1))
by_callee home p t (nm.Builtin f) args r = guarded (builtin_needs p f args) (Right (builtin_form t f args) (bump r 1))
by_callee home p t (nm.Variable v s) args r = Wrong (record { token = p; rule = S1 })

unfoldable pub call_end : Home → ℕ → Token → Named → List Argument → ℕ → Walked Form
call_end home p t f args r = by_callee home p t f args r

-- ---- names

abbrev pub walk_name : Token → ℕ → Option Named → Walked Form
walk_name t p (Some (nm.Variable v s)) = Right (variable_form t v s) (bump p 1)
walk_name t p _ = Wrong (record { token = p; rule = S1 })

abbrev pub walk_callee : ℕ → Option Named → Walked Named
walk_callee p (Some (nm.Function f)) = Right (nm.Function f) (bump p 2)
walk_callee p (Some (nm.Builtin f)) = Right (nm.Builtin f) (bump p 2)
walk_callee p _ = Wrong (record { token = p; rule = S1 })

-- ---- lists

pub record WalkOperand : Type 0 where
  pub mark : Mark
  pub value : Walk Form

pub record WalkSeries : Type 0 where
  pub first : Walk Form
  pub rest : List (Walk Form)

pub data WalkSuffix : Type 0 where
  At : Walk Form → WalkSuffix
  Stepped : Token → WalkSuffix

pub record WalkChoices : Type 0 where
  pub yes : Walk Form
  pub no : Walk Form

abbrev pub walk_operator : ℕ → Sofar → ℕ → WalkOperand → Walked Sofar
walk_operator p a q s = after (s.value (bump q 1)) (λ y r. operator_end s.mark p a (bump q 1) y r)

abbrev pub walk_operators : ℕ → Sofar → ℕ → List WalkOperand → Walked Sofar
walk_operators p a q [] = Right a q
walk_operators p a q (s ∷ more) = after (walk_operator p a q s) (λ b r. walk_operators p b r more)

abbrev pub comma : Walk Form → WalkOperand
comma w = record { mark = m.Comma; value = w }

abbrev pub walk_rest : ℕ → Form → ℕ → List (Walk Form) → Walked Form
walk_rest p x q [] = Right x q
walk_rest p x q (w ∷ more) = after (walk_operators p (chain_start x) q (map comma (w ∷ more))) chain_end

abbrev pub walk_series : WalkSeries → Walk Form
walk_series s = λ p. after (s.first p) (λ x q. walk_rest p x q s.rest)

abbrev pub walk_argument : List Argument → ℕ → Walk Form → Walked (List Argument)
walk_argument xs q w = after (w q) (λ y r. Right (xs ++ argument q y ∷ []) r)

abbrev pub walk_further : List Argument → ℕ → List (Walk Form) → Walked (List Argument)
walk_further xs q [] = Right xs q
walk_further xs q (w ∷ more) = after (walk_argument xs (bump q 1) w) (λ ys r. walk_further ys r more)

abbrev pub walk_arguments : Option WalkSeries → ℕ → Walked (List Argument)
walk_arguments None q = Right [] q
walk_arguments (Some s) q = after (walk_argument [] q s.first) (λ xs r. walk_further xs r s.rest)

abbrev pub walk_suffix : ℕ → Form → ℕ → WalkSuffix → Walked Form
walk_suffix p x q (At w) = after (w (bump q 1)) (λ y r. index_end p x (bump q 1) y r)
walk_suffix p x q (Stepped t) = post_end t p x q

abbrev pub walk_suffixes : ℕ → Form → ℕ → List WalkSuffix → Walked Form
walk_suffixes p x q [] = Right x q
walk_suffixes p x q (s ∷ more) = after (walk_suffix p x q s) (λ y r. walk_suffixes p y r more)

abbrev pub walk_conditional : Walk Form → Option WalkChoices → Walk Form
walk_conditional w None = w
walk_conditional w (Some s) = λ p.
    after (w p) (λ x q. after (s.yes (bump q 1)) (λ y r. after (s.no (bump r 1)) (λ z u. conditional_end p x (bump q 1) y (bump r 1) z u)))

-- ---- one level of a tree

module _ (k : Known) where
  abbrev pub primary_walk : Primary-F (Walk Form) (Walk Form) (Walk Form) WalkSuffix (Walk Form) (Walk Form) WalkOperand WalkChoices (Walk Form) (Walk Form) WalkSeries (Walk Form) → Walk Form
  primary_walk (o.Name t) = λ p. walk_name t p (k.look (name_of t))
  primary_walk (o.Number t) = λ p. Right (number_form t) (bump p 1)
  primary_walk (o.Paren l e r) = λ p. after (walk_series e (bump p 1)) (λ x q. paren_end l x q)
  primary_walk (o.Call f l e r) = λ p. after (walk_callee p (k.look (name_of f))) (λ named q. after (walk_arguments e q) (λ xs u. call_end k.home p f named xs u))

  abbrev pub post_step_walk : PostStep-F (Walk Form) (Walk Form) (Walk Form) WalkSuffix (Walk Form) (Walk Form) WalkOperand WalkChoices (Walk Form) (Walk Form) WalkSeries (Walk Form) → WalkSuffix
  post_step_walk (o.Index l e r) = At (walk_series e)
  post_step_walk (o.PostStep::Step t) = Stepped t

  abbrev pub post_walk : Post-F (Walk Form) (Walk Form) (Walk Form) WalkSuffix (Walk Form) (Walk Form) WalkOperand WalkChoices (Walk Form) (Walk Form) WalkSeries (Walk Form) → Walk Form
  post_walk x = λ p. after (x.primary p) (λ y q. walk_suffixes p y q x.rest)

  abbrev pub unary_walk : Unary-F (Walk Form) (Walk Form) (Walk Form) WalkSuffix (Walk Form) (Walk Form) WalkOperand WalkChoices (Walk Form) (Walk Form) WalkSeries (Walk Form) → Walk Form
  unary_walk (o.Post w) = w
  unary_walk (o.Unary::Step t w) = λ p. after (w (bump p 1)) (λ x q. step_end t (bump p 1) x q)
  unary_walk (o.Prefix t w) = λ p. after (w (bump p 1)) (λ x q. prefix_end t (bump p 1) x q)

  abbrev pub cast_walk : Cast-F (Walk Form) (Walk Form) (Walk Form) WalkSuffix (Walk Form) (Walk Form) WalkOperand WalkChoices (Walk Form) (Walk Form) WalkSeries (Walk Form) → Walk Form
  cast_walk (o.To l s r w) = λ p. after (w (bump p (2 + type_tokens s))) (λ x q. cast_end l s (bump p (2 + type_tokens s)) x q)
  cast_walk (o.Of w) = w

  abbrev pub chain_walk : Chain-F (Walk Form) (Walk Form) (Walk Form) WalkSuffix (Walk Form) (Walk Form) WalkOperand WalkChoices (Walk Form) (Walk Form) WalkSeries (Walk Form) → Walk Form
  chain_walk (o.One w) = w
  chain_walk (o.Level w more) = λ p. after (w p) (λ x q. after (walk_operators p (chain_start x) q more) chain_end)

  abbrev pub chain_step_walk : ChainStep-F (Walk Form) (Walk Form) (Walk Form) WalkSuffix (Walk Form) (Walk Form) WalkOperand WalkChoices (Walk Form) (Walk Form) WalkSeries (Walk Form) → WalkOperand
  chain_step_walk x = record { mark = mark_of x.operator; value = x.operand }

  abbrev pub choice_walk : Choice-F (Walk Form) (Walk Form) (Walk Form) WalkSuffix (Walk Form) (Walk Form) WalkOperand WalkChoices (Walk Form) (Walk Form) WalkSeries (Walk Form) → WalkChoices
  choice_walk x = record { yes = walk_series x.yes; no = x.no }

  abbrev pub cond_walk : Cond-F (Walk Form) (Walk Form) (Walk Form) WalkSuffix (Walk Form) (Walk Form) WalkOperand WalkChoices (Walk Form) (Walk Form) WalkSeries (Walk Form) → Walk Form
  cond_walk x = walk_conditional x.test x.choice

  abbrev pub assign_walk : Assign-F (Walk Form) (Walk Form) (Walk Form) WalkSuffix (Walk Form) (Walk Form) WalkOperand WalkChoices (Walk Form) (Walk Form) WalkSeries (Walk Form) → Walk Form
  assign_walk (o.Cond w) = w
  assign_walk (o.Set w t v) = λ p. after (w p) (λ x q. after (v (bump q 1)) (λ y r. assign_end (mark_of t) p x (bump q 1) y r))

  abbrev pub comma_step_walk : CommaStep-F (Walk Form) (Walk Form) (Walk Form) WalkSuffix (Walk Form) (Walk Form) WalkOperand WalkChoices (Walk Form) (Walk Form) WalkSeries (Walk Form) → Walk Form
  comma_step_walk x = x.value

  abbrev pub expr_walk : Expr-F (Walk Form) (Walk Form) (Walk Form) WalkSuffix (Walk Form) (Walk Form) WalkOperand WalkChoices (Walk Form) (Walk Form) WalkSeries (Walk Form) → WalkSeries
  expr_walk x = record { first = x.first; rest = x.rest }

  -- ---- whole trees

  abbrev pub walk_assign : Assign → Walk Form
  walk_assign = fold-Assign (Walk Form) (Walk Form) (Walk Form) WalkSuffix (Walk Form) (Walk Form) WalkOperand WalkChoices (Walk Form) (Walk Form) WalkSeries (Walk Form) assign_walk cast_walk chain_walk post_step_walk primary_walk unary_walk chain_step_walk choice_walk comma_step_walk cond_walk expr_walk post_walk

  abbrev pub walk_cast : Cast → Walk Form
  walk_cast = fold-Cast (Walk Form) (Walk Form) (Walk Form) WalkSuffix (Walk Form) (Walk Form) WalkOperand WalkChoices (Walk Form) (Walk Form) WalkSeries (Walk Form) assign_walk cast_walk chain_walk post_step_walk primary_walk unary_walk chain_step_walk choice_walk comma_step_walk cond_walk expr_walk post_walk

  abbrev pub walk_chain : Chain → Walk Form
  walk_chain = fold-Chain (Walk Form) (Walk Form) (Walk Form) WalkSuffix (Walk Form) (Walk Form) WalkOperand WalkChoices (Walk Form) (Walk Form) WalkSeries (Walk Form) assign_walk cast_walk chain_walk post_step_walk primary_walk unary_walk chain_step_walk choice_walk comma_step_walk cond_walk expr_walk post_walk

  abbrev pub walk_post_step : PostStep → WalkSuffix
  walk_post_step = fold-PostStep (Walk Form) (Walk Form) (Walk Form) WalkSuffix (Walk Form) (Walk Form) WalkOperand WalkChoices (Walk Form) (Walk Form) WalkSeries (Walk Form) assign_walk cast_walk chain_walk post_step_walk primary_walk unary_walk chain_step_walk choice_walk comma_step_walk cond_walk expr_walk post_walk

  abbrev pub walk_primary : Primary → Walk Form
  walk_primary = fold-Primary (Walk Form) (Walk Form) (Walk Form) WalkSuffix (Walk Form) (Walk Form) WalkOperand WalkChoices (Walk Form) (Walk Form) WalkSeries (Walk Form) assign_walk cast_walk chain_walk post_step_walk primary_walk unary_walk chain_step_walk choice_walk comma_step_walk cond_walk expr_walk post_walk

  abbrev pub walk_unary : Unary → Walk Form
  walk_unary = fold-Unary (Walk Form) (Walk Form) (Walk Form) WalkSuffix (Walk Form) (Walk Form) WalkOperand WalkChoices (Walk Form) (Walk Form) WalkSeries (Walk Form) assign_walk cast_walk chain_walk post_step_walk primary_walk unary_walk chain_step_walk choice_walk comma_step_walk cond_walk expr_walk post_walk

  abbrev pub walk_chain_step : ChainStep → WalkOperand
  walk_chain_step = fold-ChainStep (Walk Form) (Walk Form) (Walk Form) WalkSuffix (Walk Form) (Walk Form) WalkOperand WalkChoices (Walk Form) (Walk Form) WalkSeries (Walk Form) assign_walk cast_walk chain_walk post_step_walk primary_walk unary_walk chain_step_walk choice_walk comma_step_walk cond_walk expr_walk post_walk

  abbrev pub walk_choice : Choice → WalkChoices
  walk_choice = fold-Choice (Walk Form) (Walk Form) (Walk Form) WalkSuffix (Walk Form) (Walk Form) WalkOperand WalkChoices (Walk Form) (Walk Form) WalkSeries (Walk Form) assign_walk cast_walk chain_walk post_step_walk primary_walk unary_walk chain_step_walk choice_walk comma_step_walk cond_walk expr_walk post_walk

  abbrev pub walk_comma_step : CommaStep → Walk Form
  walk_comma_step = fold-CommaStep (Walk Form) (Walk Form) (Walk Form) WalkSuffix (Walk Form) (Walk Form) WalkOperand WalkChoices (Walk Form) (Walk Form) WalkSeries (Walk Form) assign_walk cast_walk chain_walk post_step_walk primary_walk unary_walk chain_step_walk choice_walk comma_step_walk cond_walk expr_walk post_walk

  abbrev pub walk_cond : Cond → Walk Form
  walk_cond = fold-Cond (Walk Form) (Walk Form) (Walk Form) WalkSuffix (Walk Form) (Walk Form) WalkOperand WalkChoices (Walk Form) (Walk Form) WalkSeries (Walk Form) assign_walk cast_walk chain_walk post_step_walk primary_walk unary_walk chain_step_walk choice_walk comma_step_walk cond_walk expr_walk post_walk

  abbrev pub series_of : Expr → WalkSeries
  series_of = fold-Expr (Walk Form) (Walk Form) (Walk Form) WalkSuffix (Walk Form) (Walk Form) WalkOperand WalkChoices (Walk Form) (Walk Form) WalkSeries (Walk Form) assign_walk cast_walk chain_walk post_step_walk primary_walk unary_walk chain_step_walk choice_walk comma_step_walk cond_walk expr_walk post_walk

  abbrev pub walk_post : Post → Walk Form
  walk_post = fold-Post (Walk Form) (Walk Form) (Walk Form) WalkSuffix (Walk Form) (Walk Form) WalkOperand WalkChoices (Walk Form) (Walk Form) WalkSeries (Walk Form) assign_walk cast_walk chain_walk post_step_walk primary_walk unary_walk chain_step_walk choice_walk comma_step_walk cond_walk expr_walk post_walk

  abbrev pub walk_expr : Expr → Walk Form
  walk_expr e = walk_series (series_of e)

  abbrev pub map_series : Option Expr → Option WalkSeries
  map_series None = None
  map_series (Some e) = Some (series_of e)
