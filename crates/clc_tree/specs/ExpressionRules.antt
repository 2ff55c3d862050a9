-- How an expression is read, rule by rule: each looks at one token ahead. What lies a level deeper is read by `below`.
use Rattle.std.specs.Prelude.{ℕ, zero, suc, List, [], ◌∷◌, Option, Some, None}
use Rattle.clc_reading.specs.Reading.{Reader, ◌>>=◌, pure, one, pick, many, deny}
use Rattle.clc_tree.specs.Kinds.{is, ranks}
use Rattle.clc_tree.specs.declared.kinds.Kind.TheVariants as k
use Rattle.clc_tree.specs.Expressions.{comma_of, expr_of, cond_of, choice_of, step_of, post_of}
use Rattle.clc_lexer.specs.declared.token.Token.{Token}
use Rattle.clc_tree.specs.declared.expressions.Scalar.{Scalar}
use Rattle.clc_tree.specs.declared.expressions.Scalar.TheVariants.{Plain, Signed}
use Rattle.clc_tree.specs.declared.expressions.Expr.{Expr}
use Rattle.clc_tree.specs.declared.expressions.CommaStep.{CommaStep}
use Rattle.clc_tree.specs.declared.expressions.Assign.{Assign}
use Rattle.clc_tree.specs.declared.expressions.Assign.TheVariants as to_assign
use Rattle.clc_tree.specs.declared.expressions.Cond.{Cond, out-Cond}
use Rattle.clc_tree.specs.declared.expressions.Choice.{Choice}
use Rattle.clc_tree.specs.declared.expressions.Chain.{Chain, out-Chain}
use Rattle.clc_tree.specs.declared.expressions.Chain.TheVariants as to_chain
use Rattle.clc_tree.specs.declared.expressions.ChainStep.{ChainStep}
use Rattle.clc_tree.specs.declared.expressions.Cast.{Cast, out-Cast}
use Rattle.clc_tree.specs.declared.expressions.Cast.TheVariants as to_cast
use Rattle.clc_tree.specs.declared.expressions.Unary.{Unary}
use Rattle.clc_tree.specs.declared.expressions.Unary.TheVariants as to_unary
use Rattle.clc_tree.specs.declared.expressions.Post.{Post}
use Rattle.clc_tree.specs.declared.expressions.PostStep.{PostStep}
use Rattle.clc_tree.specs.declared.expressions.PostStep.TheVariants as to_post
use Rattle.clc_tree.specs.declared.expressions.Primary.{Primary}
use Rattle.clc_tree.specs.declared.expressions.Primary.TheVariants as to_primary
use Rattle.clc_tree.specs.declared.expressions.Assign.TheOpen.{Cond-F, Chain-F, Cast-F}
use Rattle.clc_tree.specs.declared.expressions.Assign.TheOpen as open_

-- one level of a tree, as `out` opens it
abbrev pub CastLayer : Type 0
CastLayer = Cast-F Assign Cast Chain PostStep Primary Unary ChainStep Choice CommaStep Cond Expr Post

abbrev pub ChainLayer : Type 0
ChainLayer = Chain-F Assign Cast Chain PostStep Primary Unary ChainStep Choice CommaStep Cond Expr Post

abbrev pub bare_cast : CastLayer → Option Unary
bare_cast (open_.To l s r c) = None
bare_cast (open_.Of u) = Some u

abbrev pub bare_chain : ChainLayer → Option Unary
bare_chain (open_.One c) = bare_cast (out-Cast c)
bare_chain (open_.Level c more) = None

abbrev pub bare_with : Chain → Option Choice → Option Unary
bare_with c None = bare_chain (out-Chain c)
bare_with c (Some x) = None

-- a conditional that is a unary expression alone
unfoldable pub bare : Cond → Option Unary
bare c = bare_with (out-Cond c).test (out-Cond c).choice

-- an operand alone, or with what follows at its level
abbrev pub joined : Chain → List ChainStep → Chain
joined c [] = c
joined c (s ∷ more) = to_chain.Level c (s ∷ more)

-- the readers of what lies a level deeper
pub record Below : Type 0 where
  pub expr : Reader Token Expr
  pub assign : Reader Token Assign
  pub cond : Reader Token Cond
  pub cast : Reader Token Cast
  pub unary : Reader Token Unary

unfoldable pub scalar : ℕ → Reader Token Scalar
scalar n = pick (is k.SignWord)
    (one n (is k.SignWord) >>= λ t. pick (is k.BaseWord) (one n (is k.BaseWord) >>= λ u. pure (Signed t (Some u))) (pure (Signed t None)))
    (one n (is k.PlainWord) >>= λ t. pure (Plain t))

-- the first number is what is left of the depth here, and n one less
module _ (n : ℕ) (below : Below) where
  unfoldable pub paren_from : Token → Reader Token Primary
  paren_from l = below.expr >>= λ e. one (suc n) (is k.RightParen) >>= λ r. pure (to_primary.Paren l e r)

  unfoldable pub arguments : Reader Token (Option Expr)
  arguments = pick (is k.ExprStart) (below.expr >>= λ e. pure (Some e)) (pure None)

  unfoldable pub named : Reader Token Primary
  named = one (suc n) (is k.Name) >>= λ f.
      pick (is k.LeftParen)
      (one (suc n) (is k.LeftParen) >>= λ l. arguments >>= λ e. one (suc n) (is k.RightParen) >>= λ r. pure (to_primary.Call f l e r))
      (pure (to_primary.Name f))

  unfoldable pub primary : Reader Token Primary
  primary = pick (is k.Name) named
      (pick (is k.Number) (one (suc n) (is k.Number) >>= λ t. pure (to_primary.Number t))
      (one (suc n) (is k.LeftParen) >>= paren_from))

  unfoldable pub post_step : Reader Token PostStep
  post_step = pick (is k.LeftBracket)
      (one (suc n) (is k.LeftBracket) >>= λ l. below.expr >>= λ e. one (suc n) (is k.RightBracket) >>= λ r. pure (to_post.Index l e r))
      (one (suc n) (is k.Step) >>= λ t. pure (to_post.Step t))

  abbrev pub post_steps : Reader Token (List PostStep)
  post_steps = many (is k.PostStep) post_step

  unfoldable pub post_from : Primary → Reader Token Post
  post_from p = post_steps >>= λ more. pure (post_of p more)

  unfoldable pub post : Reader Token Post
  post = primary >>= post_from

  unfoldable pub unary : Reader Token Unary
  unary = pick (is k.Step) (one (suc n) (is k.Step) >>= λ t. below.unary >>= λ u. pure (to_unary.Step t u))
      (pick (is k.Prefix) (one (suc n) (is k.Prefix) >>= λ t. below.cast >>= λ c. pure (to_unary.Prefix t c))
      (post >>= λ p. pure (to_unary.Post p)))

  unfoldable pub cast_from : Token → Reader Token Cast
  cast_from l = pick (is k.ScalarWord)
      (scalar n >>= λ s. one (suc n) (is k.RightParen) >>= λ r. below.cast >>= λ c. pure (to_cast.To l s r c))
      (paren_from l >>= λ p. post_from p >>= λ q. pure (to_cast.Of (to_unary.Post q)))

  unfoldable pub cast : Reader Token Cast
  cast = pick (is k.LeftParen) (one (suc n) (is k.LeftParen) >>= cast_from) (unary >>= λ u. pure (to_cast.Of u))

  -- the operators of one level, each with an operand of the levels below it
  abbrev pub step_with : ℕ → Reader Token Chain → Reader Token ChainStep
  step_with j inner = one (suc n) (is (k.Rank j)) >>= λ t. inner >>= λ o. pure (step_of t o)

  abbrev pub steps_with : ℕ → Reader Token Chain → Reader Token (List ChainStep)
  steps_with j inner = many (is (k.Rank j)) (step_with j inner)

  abbrev pub level_with : ℕ → Reader Token Chain → Reader Token Chain
  level_with j inner = inner >>= λ c. steps_with j inner >>= λ more. pure (joined c more)

  unfoldable pub chain : ℕ → Reader Token Chain
  chain zero = cast >>= λ c. pure (to_chain.One c)
  chain (suc j) = level_with j (chain j)

  abbrev pub chain_level : ℕ → Reader Token Chain
  chain_level j = level_with j (chain j)

  abbrev pub chain_step : ℕ → Reader Token ChainStep
  chain_step j = step_with j (chain j)

  abbrev pub chain_steps : ℕ → Reader Token (List ChainStep)
  chain_steps j = steps_with j (chain j)

  unfoldable pub choice_from : Token → Reader Token Choice
  choice_from q = below.expr >>= λ a. one n (is k.Colon) >>= λ e. below.cond >>= λ b. pure (choice_of q a e b)

  unfoldable pub conditional : Reader Token Cond
  conditional = chain ranks >>= λ c.
      pick (is k.Question) (one (suc n) (is k.Question) >>= choice_from >>= λ x. pure (cond_of c (Some x))) (pure (cond_of c None))

  abbrev pub assign_from : Cond → Option Unary → Reader Token Assign
  assign_from c None = pure (to_assign.Cond c)
  assign_from c (Some u) = pick (is k.Assignment) (one (suc n) (is k.Assignment) >>= λ t. below.assign >>= λ a. pure (to_assign.Set u t a)) (pure (to_assign.Cond c))

  unfoldable pub assign : Reader Token Assign
  assign = conditional >>= λ c. assign_from c (bare c)

  unfoldable pub comma_step : Reader Token CommaStep
  comma_step = one (suc n) (is k.Comma) >>= λ t. assign >>= λ a. pure (comma_of t a)

  abbrev pub commas : Reader Token (List CommaStep)
  commas = many (is k.Comma) comma_step

  unfoldable pub expression : Reader Token Expr
  expression = assign >>= λ a. commas >>= λ more. pure (expr_of a more)

-- with n levels left
abbrev pub levels : ℕ → Below
levels zero = record { expr = deny (is k.ExprStart); assign = deny (is k.ExprStart); cond = deny (is k.ExprStart); cast = deny (is k.ExprStart); unary = deny (is k.ExprStart) }
levels (suc n) = record { expr = expression n (levels n); assign = assign n (levels n); cond = conditional n (levels n); cast = cast n (levels n); unary = unary n (levels n) }
