-- Internal: what the code does, and no part of the rules. The walk over functions and a program.
use Rattle.std.specs.Prelude.{ℕ, suc, ◌+◌, false, ◌&&◌, eqb, List, [], ◌∷◌, ◌++◌, Option, Some, None, is_some, length}
use Rattle.clc_tree.specs.declared.functions.Param.{Param}
use Rattle.clc_tree.specs.declared.functions.ParamStep.{ParamStep}
use Rattle.clc_tree.specs.declared.functions.Params.{Params}
use Rattle.clc_tree.specs.declared.functions.Params.TheVariants as params
use Rattle.clc_tree.specs.declared.functions.Function.{Function}
use Rattle.clc_types.specs.declared.type_rule.TypeRule.TheVariants.{S2, S8, S14}
use Rattle.clc_types.specs.declared.typed.TStmt.{TStmt}
use Rattle.clc_types.specs.declared.typed.TStmt.TheVariants as st
use Rattle.clc_types.specs.declared.typed.TFunction.{TFunction}
use Rattle.clc_types.specs.declared.forms.Named.TheVariants as nm
use Rattle.clc_types.specs.Judged.{violations}
use Rattle.clc_types.specs.Words.{name_of, one_if, is_kernel}
use Rattle.clc_types.specs.Heights.{stmt_reach}
use Rattle.clc_types.specs.Programs.{param_shape, param_tokens, param_name, shapes_of, result_of, returns_tokens, signature}
use Rattle.clc_types.specs.InternalWalk.{Walked, Right, guarded, bump}
use Rattle.clc_types.specs.InternalSteps.{View, Stepped, Goes, and_then, reach, number, skipped, left, declared_in, knows_in, walk_block}

unfoldable pub counted_in : ℕ → ℕ → ℕ → Walked (Unit {0})
counted_in n k p = guarded (violations p ((S14, eqb n 16) ∷ [])) (Right tt (bump p k))

abbrev pub param_walk : ℕ → Param → View → Stepped (Unit {0})
param_walk n x v = and_then (reach v (counted_in n (param_tokens x) v.at)) (λ y u. and_then (declared_in u (name_of (param_name x)) (param_shape x)) (λ m w. Goes tt w))

-- parameters, of which n stand before
abbrev pub further_walk : ℕ → List ParamStep → View → Stepped (Unit {0})
further_walk n [] v = Goes tt v
further_walk n (x ∷ xs) v = and_then (param_walk n x.param (skipped 1 v)) (λ y u. further_walk (suc n) xs u)

unfoldable pub params_in : Option Params → View → Stepped (Unit {0})
params_in None v = Goes tt v
params_in (Some (params.Void t)) v = Goes tt (skipped 1 v)
params_in (Some (params.List x xs)) v = and_then (param_walk 0 x v) (λ y u. further_walk 1 xs u)

unfoldable pub heading_in : Function → View → Stepped (Unit {0})
heading_in f v =
    reach v (guarded (violations v.at ((S2, is_some ((knows_in v).look (name_of f.name))) ∷ (S8, is_kernel f.lead && is_some (result_of f.returns)) ∷ [])) (Right tt (bump v.at 1)))

-- the function's name is added to the outermost block, and the function to those that may be called; a block is opened for it
unfoldable pub begun : Function → View → View
begun f v = record {
  outer = v.outer ++ (v.inner ++ (name_of f.name, nm.Function (number (length v.home.heights))) ∷ []) ∷ [];
  inner = [];
  home = record { functions = v.home.functions ++ signature f ∷ []; heights = v.home.heights; result = result_of f.returns };
  vars = [];
  at = v.at;
}

abbrev pub function_in : Function → List TStmt → View → TFunction
function_in f body v = record {
  name = name_of f.name;
  at = f.name.from;
  kernel = is_kernel f.lead;
  result = result_of f.returns;
  params = number (length (shapes_of f.params));
  vars = v.vars;
  body = st.Block body;
}

-- its height is kept, and its block is left
unfoldable pub ended : TStmt → View → View
ended body v = left (record {
  outer = v.outer;
  inner = v.inner;
  home = record { functions = v.home.functions; heights = v.home.heights ++ number (suc (stmt_reach v.home.heights body)) ∷ []; result = v.home.result };
  vars = [];
  at = v.at;
})

unfoldable pub function_walk : Function → View → Stepped TFunction
function_walk f v =
    and_then (heading_in f (skipped (one_if f.lead + returns_tokens f.returns) v)) (λ y u.
    and_then (params_in f.params (skipped 1 (begun f u))) (λ z w.
    and_then (walk_block f.body false (skipped 2 w)) (λ body x. Goes (function_in f body x) (ended (st.Block body) x))))

abbrev pub functions_walk : List TFunction → View → List Function → Stepped (List TFunction)
functions_walk done v [] = Goes done v
functions_walk done v (f ∷ more) = and_then (function_walk f v) (λ y u. functions_walk (done ++ y ∷ []) u more)
