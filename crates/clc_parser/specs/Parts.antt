-- Internal: what the code does, and no part of the grammar. The readers of parts of rules that the code reads by themselves.
use Rattle.std.specs.Prelude.{ℕ, suc, Bool, true, false, Option, Some, None}
use Rattle.clc_reading.specs.Reading.{Reader, ◌>>=◌, pure, one, pick}
use Rattle.clc_lexer.specs.declared.token.Token.{Token}
use Rattle.clc_tree.specs.Kinds.{is}
use Rattle.clc_tree.specs.declared.kinds.Kind.TheVariants as k
use Rattle.clc_tree.specs.Statements.{else_of}
use Rattle.clc_tree.specs.StatementRules.{Levels, levels, block, pointer_from, named_from}
use Rattle.clc_tree.specs.ProgramRules.{parameters}
use Rattle.clc_tree.specs.Programs.{function_of}
use Rattle.clc_tree.specs.declared.statements.Declare.{Declare}
use Rattle.clc_tree.specs.declared.statements.Else.{Else}
use Rattle.clc_tree.specs.declared.functions.Function.{Function}
use Rattle.clc_tree.specs.declared.functions.Returns.{Returns}

-- the `else` of an `if`, and whether the `if` could take one more at its end. Where its statement could take an `else` itself, there is none.
abbrev pub other_part : ℕ → Levels → Bool → Reader Token (Option Else × Bool)
other_part n inner true = pure (None, true)
other_part n inner false = pick (is k.Else) (one (suc n) (is k.Else) >>= λ o. inner.stmt >>= λ y. pure (Some (else_of o y.0), y.1)) (pure (None, true))

-- the declaration of a pointer, after its first `const`
abbrev pub pointed : ℕ → Option Token → Reader Token Declare
pointed n c = pointer_from (suc n) c >>= named_from n

-- a function, after the type of its result
abbrev pub function_from : ℕ → Option Token → Returns → Reader Token Function
function_from n l r =
    one (suc n) (is k.Name) >>= λ t. one (suc n) (is k.LeftParen) >>= λ o. parameters n >>= λ p. one (suc n) (is k.RightParen) >>= λ c.
    block n (levels n) >>= λ b. pure (function_of l r t o p c b)
