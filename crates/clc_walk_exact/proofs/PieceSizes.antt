-- The tokens that are counted of declarations and parameters are those of their texts.
use Rattle.std.proofs.Common.{◌≡◌, ℕ, suc, ◌+◌, List, [], ◌∷◌, ◌++◌, Option, Some, None, refl, sym, ap, ◌∙◌, length, length-append, arith, is_some}
use Rattle.std.specs.Prelude.{map, Bool}
use Rattle.clc_lexer.specs.declared.token.Token.{Token}
use Rattle.clc_tree.specs.declared.expressions.Expr.{Expr}
use Rattle.clc_tree.specs.declared.statements.Pointer.{Pointer}
use Rattle.clc_tree.specs.declared.statements.Init.{Init}
use Rattle.clc_tree.specs.declared.statements.Item.{Item}
use Rattle.clc_tree.specs.declared.statements.Item.TheVariants as item
use Rattle.clc_tree.specs.declared.statements.ItemStep.{ItemStep}
use Rattle.clc_tree.specs.declared.statements.Declare.{Declare}
use Rattle.clc_tree.specs.declared.statements.Declare.TheVariants as declare
use Rattle.clc_tree.specs.declared.statements.ForStart.{ForStart}
use Rattle.clc_tree.specs.declared.statements.ForStart.TheVariants as start
use Rattle.clc_tree.specs.declared.functions.Param.{Param}
use Rattle.clc_tree.specs.declared.functions.Param.TheVariants as param
use Rattle.clc_tree.specs.declared.functions.ParamStep.{ParamStep}
use Rattle.clc_tree.specs.declared.functions.Params.{Params}
use Rattle.clc_tree.specs.declared.functions.Params.TheVariants as params
use Rattle.clc_tree.specs.declared.functions.Returns.{Returns}
use Rattle.clc_tree.specs.declared.functions.Returns.TheVariants as returns
use Rattle.clc_tree.specs.Flat.{Tokens, joined, optional_tokens, scalar_tokens, assign_tokens, expr_tokens, expr_or_none, pointer_tokens as pointer_text, init_tokens, item_tokens, item_step_tokens, declare_tokens, for_start_tokens, param_tokens as param_text, param_step_tokens, params_tokens, returns_tokens as returns_text}
use Rattle.q_lane.specs.declared.kinds.Scalar.{Scalar}
use Rattle.clc_types.specs.declared.forms.Kind.{Kind}
use Rattle.clc_types.specs.declared.typed.TStmt.{TStmt}
use Rattle.clc_types.specs.declared.forms.Shape.TheVariants as shape
use Rattle.clc_types.specs.Rules.{kind_of}
use Rattle.clc_types.specs.Words.{one_if, type_tokens, type_of}
use Rattle.clc_types.specs.Blocks.{Piece, pointer_shape, listed, init, item_piece, item_step_piece, pointer_tokens, declare_piece, maybe_condition, maybe_value, for_start_piece}
use Rattle.clc_types.specs.Programs.{param_tokens, param_piece, further_params, params_piece, returns_tokens}
use Rattle.clc_walk_exact.proofs.Sizes.{optional_length, type_length, joined_length}
use Rattle.clc_walk_exact.proofs.Lengths.{assign_length, expr_length}

pub pointer_length : (p : Pointer) → pointer_tokens p ≡ length (pointer_text p)
pointer_length p =
    let a = optional_length p.outer_const in
    let b = optional_length p.inner_const in
    let d = type_length p.element in
    let e = optional_length p.own_const in
    let f = optional_length p.restrict in
    let n4 = length-append (optional_tokens p.own_const) (optional_tokens p.restrict) in
    let n3 = length-append (scalar_tokens p.element) (p.star ∷ (optional_tokens p.own_const ++ optional_tokens p.restrict)) in
    let n2 = length-append (optional_tokens p.inner_const) (scalar_tokens p.element ++ p.star ∷ (optional_tokens p.own_const ++ optional_tokens p.restrict)) in
    let n1 = length-append (optional_tokens p.outer_const) (p.space ∷ (optional_tokens p.inner_const ++ (scalar_tokens p.element ++ p.star ∷ (optional_tokens p.own_const ++ optional_tokens p.restrict)))) in
    omega (arith, a, b, d, e, f, n1, n2, n3, n4)

init_length : (s : Kind) (i : Option Init) → (init s i).tokens ≡ length (init_tokens i)
init_length s None = refl
init_length s (Some i) = let h = assign_length i.value in omega (arith, h)

item_length : (x : Bool) (s : Scalar) (i : Item) → (item_piece x s i).tokens ≡ length (item_tokens i)
item_length x s (item.Array t l v r) = refl
item_length x s (item.Value t i) = let h = init_length (kind_of 0 (shape.Value s x)) i in omega (arith, h)

items_length : (x : Bool) (s : Scalar) (xs : List ItemStep) → (listed (map (item_step_piece x s) xs)).tokens ≡ length (joined (map item_step_tokens xs))
items_length x s [] = refl
items_length x s (i ∷ is) =
    let h = item_length x s i.item in
    let k = items_length x s is in
    let n = joined_length (map item_step_tokens is) (item_step_tokens i) in
    omega (arith, h, k, n)

pub declare_length : (d : Declare) → (declare_piece d).tokens ≡ length (declare_tokens d)
declare_length (declare.Values c s i more e) =
    let a = optional_length c in
    let b = type_length s in
    let h = item_length (is_some c) (type_of s) i in
    let k = items_length (is_some c) (type_of s) more in
    let n4 = length-append (joined (map item_step_tokens more)) (e ∷ []) in
    let n3 = length-append (item_tokens i) (joined (map item_step_tokens more) ++ e ∷ []) in
    let n2 = length-append (scalar_tokens s) (item_tokens i ++ (joined (map item_step_tokens more) ++ e ∷ [])) in
    let n1 = length-append (optional_tokens c) (scalar_tokens s ++ (item_tokens i ++ (joined (map item_step_tokens more) ++ e ∷ []))) in
    omega (arith, a, b, h, k, n1, n2, n3, n4)
declare_length (declare.Pointer p t i e) =
    let a = pointer_length p in
    let h = init_length (kind_of 0 (pointer_shape p)) i in
    let n2 = length-append (init_tokens i) (e ∷ []) in
    let n1 = length-append (pointer_text p) (t ∷ (init_tokens i ++ e ∷ [])) in
    omega (arith, a, h, n1, n2)

pub maybe_condition_length : (e : Option Expr) → (maybe_condition e).tokens ≡ length (expr_or_none e)
maybe_condition_length None = refl
maybe_condition_length (Some e) = let h = expr_length e in omega (arith, h)

pub maybe_value_length : (e : Option Expr) → (maybe_value e).tokens ≡ length (expr_or_none e)
maybe_value_length None = refl
maybe_value_length (Some e) = let h = expr_length e in omega (arith, h)

pub for_start_length : (s : ForStart) → (for_start_piece s).tokens ≡ length (for_start_tokens s)
for_start_length (start.Declare d) = declare_length d
for_start_length (start.Eval e t) = let h = maybe_value_length e in let n = length-append (expr_or_none e) (t ∷ []) in omega (arith, h, n)

-- ---- functions

param_length : (n : ℕ) (x : Param) → (param_piece n x).tokens ≡ length (param_text x)
param_length n (param.Value c s t) =
    let a = optional_length c in
    let b = type_length s in
    let n2 = length-append (scalar_tokens s) (t ∷ []) in
    let n1 = length-append (optional_tokens c) (scalar_tokens s ++ t ∷ []) in
    omega (arith, a, b, n1, n2)
param_length n (param.Pointer p t) = let a = pointer_length p in let n1 = length-append (pointer_text p) (t ∷ []) in omega (arith, a, n1)

further_length : (xs : List ParamStep) (n : ℕ) → (further_params n xs).tokens ≡ length (joined (map param_step_tokens xs))
further_length [] n = refl
further_length (x ∷ xs) n =
    let h = param_length n x.param in
    let k = further_length xs (suc n) in
    let m = joined_length (map param_step_tokens xs) (param_step_tokens x) in
    omega (arith, h, k, m)

pub params_length : (x : Option Params) → (params_piece x).tokens ≡ length (params_tokens x)
params_length None = refl
params_length (Some (params.Void t)) = refl
params_length (Some (params.List x xs)) =
    let h = param_length 0 x in
    let k = further_length xs 1 in
    let m = length-append (param_text x) (joined (map param_step_tokens xs)) in
    omega (arith, h, k, m)

pub returns_length : (r : Returns) → returns_tokens r ≡ length (returns_text r)
returns_length (returns.Void t) = refl
returns_length (returns.Value s) = type_length s
