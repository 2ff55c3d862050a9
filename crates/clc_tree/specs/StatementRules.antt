-- How declarations and statements are read, rule by rule: each looks at one token ahead.
use Rattle.std.specs.Prelude.{ℕ, zero, suc, Bool, true, false, List, Option, Some, None}
use Rattle.clc_reading.specs.Reading.{Reader, ◌>>=◌, pure, one, pick, many, deny}
use Rattle.clc_lexer.specs.declared.token.Token.{Token}
use Rattle.clc_tree.specs.Kinds.{is}
use Rattle.clc_tree.specs.declared.kinds.Kind.{Kind}
use Rattle.clc_tree.specs.declared.kinds.Kind.TheVariants as k
use Rattle.clc_tree.specs.ExpressionRules as e
use Rattle.clc_tree.specs.Statements.{pointer_of, init_of, item_step, block_of, else_of, if_of, while_of, do_of, for_of}
use Rattle.clc_tree.specs.declared.expressions.Expr.{Expr}
use Rattle.clc_tree.specs.declared.statements.Pointer.{Pointer}
use Rattle.clc_tree.specs.declared.statements.Init.{Init}
use Rattle.clc_tree.specs.declared.statements.Item.{Item}
use Rattle.clc_tree.specs.declared.statements.Item.TheVariants as item
use Rattle.clc_tree.specs.declared.statements.ItemStep.{ItemStep}
use Rattle.clc_tree.specs.declared.statements.Declare.{Declare}
use Rattle.clc_tree.specs.declared.statements.Declare.TheVariants as declare
use Rattle.clc_tree.specs.declared.statements.ForStart.{ForStart}
use Rattle.clc_tree.specs.declared.statements.ForStart.TheVariants as start
use Rattle.clc_tree.specs.declared.statements.Block.{Block}
use Rattle.clc_tree.specs.declared.statements.BlockPart.{BlockPart}
use Rattle.clc_tree.specs.declared.statements.BlockPart.TheVariants as part
use Rattle.clc_tree.specs.declared.statements.Stmt.{Stmt}
use Rattle.clc_tree.specs.declared.statements.Stmt.TheVariants as stmt

-- a statement, and whether it could take an `else` at its end
abbrev pub Read : Type 0
Read = Stmt × Bool

-- what stands in the parentheses of a `for`
abbrev pub ForHead : Type 0
ForHead = ForStart × Option Expr × Token × Option Expr

-- ---- with n levels left

unfoldable pub optional : ℕ → Kind → Reader Token (Option Token)
optional n f = pick (is f) (one n (is f) >>= λ t. pure (Some t)) (pure None)

-- a pointer after its first `const`
unfoldable pub pointer_from : ℕ → Option Token → Reader Token Pointer
pointer_from n c =
    one n (is k.Space) >>= λ s. optional n k.Const >>= λ d. e.scalar n >>= λ x. one n (is k.Star) >>= λ t.
    optional n k.Const >>= λ o. optional n k.Restrict >>= λ r. pure (pointer_of c s d x t o r)

unfoldable pub maybe : ℕ → Reader Token (Option Expr)
maybe n = pick (is k.ExprStart) ((e.levels n).expr >>= λ x. pure (Some x)) (pure None)

-- ---- with n levels left below this one

unfoldable pub initial : ℕ → Reader Token (Option Init)
initial n = pick (is k.Equals) (one (suc n) (is k.Equals) >>= λ t. (e.levels (suc n)).assign >>= λ a. pure (Some (init_of t a))) (pure None)

unfoldable pub array_from : ℕ → Token → Reader Token Item
array_from n t =
    one (suc n) (is k.LeftBracket) >>= λ l. one n (is k.Number) >>= λ v. one (suc n) (is k.RightBracket) >>= λ r. pure (item.Array t l v r)

unfoldable pub item_of : ℕ → Reader Token Item
item_of n = one (suc n) (is k.Name) >>= λ t. pick (is k.LeftBracket) (array_from n t) (initial n >>= λ i. pure (item.Value t i))

unfoldable pub item_after : ℕ → Reader Token ItemStep
item_after n = one (suc n) (is k.Comma) >>= λ t. item_of n >>= λ i. pure (item_step t i)

abbrev pub items_after : ℕ → Reader Token (List ItemStep)
items_after n = many (is k.Comma) (item_after n)

unfoldable pub values_from : ℕ → Option Token → Reader Token Declare
values_from n c =
    e.scalar (suc n) >>= λ s. item_of n >>= λ i. items_after n >>= λ more. one (suc n) (is k.Semicolon) >>= λ t. pure (declare.Values c s i more t)

unfoldable pub named_from : ℕ → Pointer → Reader Token Declare
named_from n x =
    one (suc n) (is k.Name) >>= λ t. initial n >>= λ i. one (suc n) (is k.Semicolon) >>= λ u. pure (declare.Pointer x t i u)

unfoldable pub declaration : ℕ → Reader Token Declare
declaration n = optional (suc n) k.Const >>= λ c. pick (is k.Space) (pointer_from (suc n) c >>= named_from n) (values_from n c)

-- the readers of a depth
pub record Levels : Type 0 where
  pub declare : Reader Token Declare
  pub stmt : Reader Token Read

module _ (n : ℕ) (inner : Levels) where
  unfoldable pub block_part : Reader Token BlockPart
  block_part = pick (is k.DeclareStart) (inner.declare >>= λ d. pure (part.Declare d)) (inner.stmt >>= λ x. pure (part.Stmt x.0))

  abbrev pub parts : Reader Token (List BlockPart)
  parts = many (is k.PartStart) block_part

  unfoldable pub block : Reader Token Block
  block = one (suc n) (is k.LeftBrace) >>= λ l. parts >>= λ all. one (suc n) (is k.RightBrace) >>= λ r. pure (block_of l all r)

  -- an expression in parentheses, as `if`, `while` and `do` have it
  unfoldable pub tested : {A : Type 0} → (Token → Expr → Token → Reader Token A) → Reader Token A
  tested f = one (suc n) (is k.LeftParen) >>= λ l. (e.levels n).expr >>= λ x. one (suc n) (is k.RightParen) >>= λ r. f l x r

  unfoldable pub for_start : Reader Token ForStart
  for_start = pick (is k.DeclareStart) (inner.declare >>= λ d. pure (start.Declare d)) (maybe n >>= λ x. one n (is k.Semicolon) >>= λ t. pure (start.Eval x t))

  unfoldable pub for_head : Reader Token ForHead
  for_head = for_start >>= λ i. maybe n >>= λ x. one n (is k.Semicolon) >>= λ t. maybe n >>= λ s. pure (i, x, t, s)

  -- a statement that could take an `else` itself leaves none to this one
  abbrev pub if_rest : Token → Token → Expr → Token → Stmt → Bool → Reader Token Read
  if_rest w l x r body true = pure (if_of w l x r body None, true)
  if_rest w l x r body false =
      pick (is k.Else) (one (suc n) (is k.Else) >>= λ o. inner.stmt >>= λ y. pure (if_of w l x r body (Some (else_of o y.0)), y.1))
      (pure (if_of w l x r body None, true))

  unfoldable pub if_from : Token → Reader Token Read
  if_from w = tested (λ l x r. inner.stmt >>= λ body. if_rest w l x r body.0 body.1)

  unfoldable pub while_from : Token → Reader Token Read
  while_from w = tested (λ l x r. inner.stmt >>= λ body. pure (while_of w l x r body.0, body.1))

  unfoldable pub do_from : Token → Reader Token Read
  do_from w =
      inner.stmt >>= λ body. one (suc n) (is k.While) >>= λ u.
      tested (λ l x r. one (suc n) (is k.Semicolon) >>= λ t. pure (do_of w body.0 u l x r t, false))

  unfoldable pub for_from : Token → Reader Token Read
  for_from w =
      one (suc n) (is k.LeftParen) >>= λ l. for_head >>= λ h. one (suc n) (is k.RightParen) >>= λ r. inner.stmt >>= λ body.
      pure (for_of w l h.0 h.1 h.2 h.3 r body.0, body.1)

  unfoldable pub return_from : Token → Reader Token Read
  return_from w = maybe (suc n) >>= λ x. one (suc n) (is k.Semicolon) >>= λ t. pure (stmt.Return w x t, false)

  unfoldable pub evaluated : Reader Token Read
  evaluated = (e.levels (suc n)).expr >>= λ x. one (suc n) (is k.Semicolon) >>= λ t. pure (stmt.Eval x t, false)

  unfoldable pub jump : Reader Token Read
  jump = pick (is k.Break) (one (suc n) (is k.Break) >>= λ w. one (suc n) (is k.Semicolon) >>= λ t. pure (stmt.Break w t, false))
      (pick (is k.Continue) (one (suc n) (is k.Continue) >>= λ w. one (suc n) (is k.Semicolon) >>= λ t. pure (stmt.Continue w t, false))
      (one (suc n) (is k.Return) >>= return_from))

  unfoldable pub governing : Reader Token Read
  governing = pick (is k.If) (one (suc n) (is k.If) >>= if_from)
      (pick (is k.While) (one (suc n) (is k.While) >>= while_from)
      (pick (is k.Do) (one (suc n) (is k.Do) >>= do_from)
      (pick (is k.For) (one (suc n) (is k.For) >>= for_from) jump)))

  unfoldable pub statement : Reader Token Read
  statement = pick (is k.ExprStart) evaluated
      (pick (is k.LeftBrace) (block >>= λ x. pure (stmt.Block x, false))
      (pick (is k.Semicolon) (one (suc n) (is k.Semicolon) >>= λ t. pure (stmt.Empty t, false)) governing))

abbrev pub levels : ℕ → Levels
levels zero = record { declare = deny (is k.DeclareStart); stmt = deny (is k.StmtStart) }
levels (suc n) = record { declare = declaration n; stmt = statement n (levels n) }
