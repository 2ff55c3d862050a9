-- How functions and programs are read.
use Rattle.std.specs.Prelude.{ℕ, zero, suc, List, Option, Some, None}
use Rattle.clc_reading.specs.Reading.{Reader, ◌>>=◌, pure, one, pick, many, deny}
use Rattle.clc_lexer.specs.declared.token.Token.{Token}
use Rattle.clc_tree.specs.Kinds.{is}
use Rattle.clc_tree.specs.declared.kinds.Kind.TheVariants as k
use Rattle.clc_tree.specs.ExpressionRules as e
use Rattle.clc_tree.specs.StatementRules as s
use Rattle.clc_tree.specs.Programs.{param_step, function_of, tree_of}
use Rattle.clc_tree.specs.declared.functions.Param.{Param}
use Rattle.clc_tree.specs.declared.functions.Param.TheVariants as param
use Rattle.clc_tree.specs.declared.functions.ParamStep.{ParamStep}
use Rattle.clc_tree.specs.declared.functions.Params.{Params}
use Rattle.clc_tree.specs.declared.functions.Params.TheVariants as params
use Rattle.clc_tree.specs.declared.functions.Returns.{Returns}
use Rattle.clc_tree.specs.declared.functions.Returns.TheVariants as returns
use Rattle.clc_tree.specs.declared.functions.Function.{Function}
use Rattle.clc_tree.specs.declared.functions.Tree.{Tree}

-- ---- with n levels left

unfoldable pub parameter : ℕ → Reader Token Param
parameter n = s.optional n k.Const >>= λ c.
    pick (is k.Space) (s.pointer_from n c >>= λ x. one n (is k.Name) >>= λ t. pure (param.Pointer x t))
    (e.scalar n >>= λ x. one n (is k.Name) >>= λ t. pure (param.Value c x t))

unfoldable pub parameter_after : ℕ → Reader Token ParamStep
parameter_after n = one n (is k.Comma) >>= λ t. parameter n >>= λ p. pure (param_step t p)

abbrev pub parameters_after : ℕ → Reader Token (List ParamStep)
parameters_after n = many (is k.Comma) (parameter_after n)

unfoldable pub parameters : ℕ → Reader Token (Option Params)
parameters n = pick (is k.Void) (one n (is k.Void) >>= λ t. pure (Some (params.Void t)))
    (pick (is k.DeclareStart) (parameter n >>= λ p. parameters_after n >>= λ more. pure (Some (params.List p more))) (pure None))

unfoldable pub result : ℕ → Reader Token Returns
result n = pick (is k.Void) (one n (is k.Void) >>= λ t. pure (returns.Void t)) (e.scalar n >>= λ x. pure (returns.Value x))

-- ---- with n levels left below this one

unfoldable pub function_rule : ℕ → Reader Token Function
function_rule n =
    s.optional (suc n) k.Lead >>= λ l. result (suc n) >>= λ r. one (suc n) (is k.Name) >>= λ t. one (suc n) (is k.LeftParen) >>= λ o.
    parameters n >>= λ p. one (suc n) (is k.RightParen) >>= λ c. s.block n (s.levels n) >>= λ b. pure (function_of l r t o p c b)

abbrev pub function : ℕ → Reader Token Function
function zero = deny (is k.FunctionStart)
function (suc n) = function_rule n

abbrev pub functions : ℕ → Reader Token (List Function)
functions n = many (is k.FunctionStart) (function n)

unfoldable pub program : ℕ → Reader Token Tree
program n = functions n >>= λ all. pure (tree_of all)
