-- The grammar of functions and programs (C99, 6.9; OpenCL C 1.2, 6.5, 6.7 and 6.8).
use Rattle.std.specs.Prelude.{◌≡◌, true, List, [], ◌∷◌, ◌++◌, Option, Some, None}
use Rattle.clc_reading.specs.Reading.{Spelling, deeper}
use Rattle.clc_lexer.specs.declared.token.Token.{Token}
use Rattle.clc_tree.specs.Kinds.{is}
use Rattle.clc_tree.specs.declared.kinds.Kind.TheVariants as k
use Rattle.clc_tree.specs.Expressions.{IsScalar}
use Rattle.clc_tree.specs.Statements.{IsOptional, IsPointer, IsBlock}
use Rattle.clc_tree.specs.declared.expressions.Scalar.{Scalar}
use Rattle.clc_tree.specs.declared.statements.Pointer.{Pointer}
use Rattle.clc_tree.specs.declared.statements.Block.{Block}
use Rattle.clc_tree.specs.declared.functions.Param.{Param}
use Rattle.clc_tree.specs.declared.functions.Param.TheVariants as param
use Rattle.clc_tree.specs.declared.functions.ParamStep.{ParamStep}
use Rattle.clc_tree.specs.declared.functions.Params.{Params}
use Rattle.clc_tree.specs.declared.functions.Params.TheVariants as params
use Rattle.clc_tree.specs.declared.functions.Returns.{Returns}
use Rattle.clc_tree.specs.declared.functions.Returns.TheVariants as returns
use Rattle.clc_tree.specs.declared.functions.Function.{Function}
use Rattle.clc_tree.specs.declared.functions.Tree.{Tree}

-- ---- values made of their parts

abbrev pub param_step : Token → Param → ParamStep
param_step t p = record { comma = t; param = p }

abbrev pub function_of : Option Token → Returns → Token → Token → Option Params → Token → Block → Function
function_of l r t o p c b = record { lead = l; returns = r; name = t; opening = o; params = p; closing = c; body = b }

abbrev pub tree_of : List Function → Tree
tree_of all = record { functions = all }

-- ---- functions

pub data IsParam : Param → Spelling Token → Type 0 where
  value : (c : Option Token) (s : Scalar) (t : Token) (m n : Spelling Token) → IsOptional k.Const c m → IsScalar s n → is k.Name t ≡ true
      → IsParam (param.Value c s t) (m ++ (n ++ (t, 0) ∷ []))
  pointer : (x : Pointer) (t : Token) (m : Spelling Token) → IsPointer x m → is k.Name t ≡ true → IsParam (param.Pointer x t) (m ++ (t, 0) ∷ [])

pub data AreParams : List ParamStep → Spelling Token → Type 0 where
  no_param : AreParams [] []
  one_param : (t : Token) (p : Param) (more : List ParamStep) (m n : Spelling Token) → is k.Comma t ≡ true → IsParam p m → AreParams more n
      → AreParams (param_step t p ∷ more) ((t, 0) ∷ (m ++ n))

pub data IsParams : Option Params → Spelling Token → Type 0 where
  none : IsParams None []
  void : (t : Token) → is k.Void t ≡ true → IsParams (Some (params.Void t)) ((t, 0) ∷ [])
  list : (p : Param) (more : List ParamStep) (m n : Spelling Token) → IsParam p m → AreParams more n → IsParams (Some (params.List p more)) (m ++ n)

pub data IsReturns : Returns → Spelling Token → Type 0 where
  nothing : (t : Token) → is k.Void t ≡ true → IsReturns (returns.Void t) ((t, 0) ∷ [])
  scalar : (s : Scalar) (m : Spelling Token) → IsScalar s m → IsReturns (returns.Value s) m

pub data IsFunction : Function → Spelling Token → Type 0 where
  function : (l : Option Token) (r : Returns) (t o : Token) (p : Option Params) (c : Token) (b : Block) (m n q s : Spelling Token)
      → IsOptional k.Lead l m → IsReturns r n → is k.Name t ≡ true → is k.LeftParen o ≡ true → IsParams p q → is k.RightParen c ≡ true → IsBlock b s
      → IsFunction (function_of l r t o p c b) (m ++ (n ++ (t, 0) ∷ (o, 0) ∷ (deeper q ++ (c, 0) ∷ s)))

pub data AreFunctions : List Function → Spelling Token → Type 0 where
  no_function : AreFunctions [] []
  one_function : (f : Function) (all : List Function) (m n : Spelling Token) → IsFunction f m → AreFunctions all n → AreFunctions (f ∷ all) (m ++ n)

pub data IsTree : Tree → Spelling Token → Type 0 where
  tree : (all : List Function) (m : Spelling Token) → AreFunctions all m → IsTree (tree_of all) m
