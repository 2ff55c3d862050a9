-- The weight of a well-typed kernel.
use Rattle.std.proofs.Common.{◌≡◌, ℕ, zero, suc, ◌≤◌, true, false, List, [], ◌∷◌, ◌++◌, Option, Some, None, length, subst, arith}
use Rattle.std.specs.Prelude.{slice_get, ◌&&◌, not, is_some, nat_le, take}
use Rattle.std.proofs.lemmas.Bool.{and_parts}
use Rattle.std.proofs.lemmas.Bool.Decides.{nat_tests}
use Rattle.clc_types.specs.declared.typed.TStmt.{out-TStmt}
use Rattle.clc_types.specs.declared.typed.TFunction.{TFunction}
use Rattle.clc_types.specs.WellTyped.{no_arrays, counts, declared, is_block, stmt_fits, function_fits, functions_fit}
use Rattle.clc_inline.specs.Inlining.{inlined}
use Rattle.ir_weights.specs.Weights.{IsAtMost}
use Rattle.item_weights.specs.Law.{weight_of_built, limit}
use Rattle.item_weights.specs.Agreement.{KernelsWeighLittle, KernelsAreWithinLimit}
use Rattle.item_weights.proofs.Whole.{one_at_least, weighs_little, is_within_limit}
use Rattle.item_weights.proofs.Functions.{nodes_are_counted}
use Rattle.item_weights.proofs.VarsOfFunctions.{variables_are_few}

at_most : (a b : ℕ) → nat_le a b ≡ true → a ≤ b
at_most a b h = grind (arith, nat_tests)

few_params : (before : List TFunction) (f : TFunction) → function_fits before f ≡ true → f.params ≤ 16
few_params before f h =
    let a = nat_le f.params 16 in
    let b = nat_le f.params (length f.vars) in
    let c = no_arrays (take f.params f.vars) in
    let d = not (f.kernel && is_some f.result) in
    let e = counts f.params (length f.vars) (declared f.body) in
    let i = is_block (out-TStmt f.body) in
    let p1 = and_parts (a && b && c && d && e && i) (stmt_fits f.vars before f.result f.body false) h in
    let p2 = and_parts (a && b && c && d && e) i p1.0 in
    let p3 = and_parts (a && b && c && d) e p2.0 in
    let p4 = and_parts (a && b && c) d p3.0 in
    let p5 = and_parts (a && b) c p4.0 in
    at_most f.params 16 (and_parts a b p5.0).0

abbrev FewIn : Option TFunction → Type 0
FewIn None = Unit {0}
FewIn (Some x) = x.params ≤ 16

params_at : (more before : List TFunction) (k : ℕ) (f : TFunction) → functions_fit before more ≡ true → slice_get more k ≡ Some f → f.params ≤ 16
params_at [] before k f h e = absurd (cc)
params_at (g ∷ more) before zero f h e =
    let p = and_parts (function_fits before g) (functions_fit (before ++ g ∷ []) more) h in
    let q = few_params before g p.0 in
    subst FewIn e q
params_at (g ∷ more) before (suc k) f h e =
    let p = and_parts (function_fits before g) (functions_fit (before ++ g ∷ []) more) h in params_at more (before ++ g ∷ []) k f p.1 e

pub kernels_weigh_little : KernelsWeighLittle
kernels_weigh_little fs k f h e =
    let b = inlined fs k in
    let p = weighs_little b.vars f.params b.made in let p0 = p.0 in let p1 = p.1 in let p2 = p.2 in let p3 = p.3 in
    let n = nodes_are_counted fs k f h e in
    let q = params_at fs [] k f h e in
    let one = one_at_least b.made in
    (omega (arith, p0, n, q), omega (arith, p1, n, q), omega (arith, p2, n, q, one), omega (arith, p3, n, q, one))

pub kernels_are_within_limit : KernelsAreWithinLimit
kernels_are_within_limit fs k f h w e =
    let b = inlined fs k in
    let n = nodes_are_counted fs k f h e in
    let v = variables_are_few fs k f h w e in
    subst (λ x. IsAtMost (weight_of_built b.vars f.params b.made) (limit x)) n (is_within_limit b.vars f.params b.made (params_at fs [] k f h e) (omega (arith, n, v)))
