-- The tokens that are counted of an expression are those of its text.
use Rattle.std.proofs.Common.{◌≡◌, ℕ, suc, ◌+◌, List, [], ◌∷◌, ◌++◌, Option, Some, None, refl, sym, ap, ◌∙◌, subst, length, length-append, arith}
use Rattle.std.specs.Prelude.{map}
use Rattle.clc_tree.specs.declared.expressions.Assign.{Assign, roll-Assign}
use Rattle.clc_tree.specs.declared.expressions.Cast.{Cast, roll-Cast}
use Rattle.clc_tree.specs.declared.expressions.Chain.{Chain, roll-Chain}
use Rattle.clc_tree.specs.declared.expressions.PostStep.{PostStep, roll-PostStep}
use Rattle.clc_tree.specs.declared.expressions.Primary.{Primary, roll-Primary}
use Rattle.clc_tree.specs.declared.expressions.Unary.{Unary, roll-Unary}
use Rattle.clc_tree.specs.declared.expressions.ChainStep.{ChainStep, roll-ChainStep}
use Rattle.clc_tree.specs.declared.expressions.Choice.{Choice, roll-Choice}
use Rattle.clc_tree.specs.declared.expressions.CommaStep.{CommaStep, roll-CommaStep}
use Rattle.clc_tree.specs.declared.expressions.Cond.{Cond, roll-Cond}
use Rattle.clc_tree.specs.declared.expressions.Expr.{Expr, roll-Expr}
use Rattle.clc_tree.specs.declared.expressions.Post.{Post, roll-Post}
use Rattle.clc_tree.specs.declared.expressions.Assign.TheOpen as o
use Rattle.clc_tree.specs.declared.expressions.Assign.TheOpen.{Assign-F, Cast-F, Chain-F, PostStep-F, Primary-F, Unary-F, ChainStep-F, Choice-F, CommaStep-F, Cond-F, Expr-F, Post-F}
use Rattle.clc_tree.specs.declared.expressions.Assign.TheFolds.{fold-Assign, fold-roll-Assign, map-Assign, ind-Assign, fold-Cast, fold-roll-Cast, map-Cast, ind-Cast, fold-Chain, fold-roll-Chain, map-Chain, ind-Chain, fold-PostStep, fold-roll-PostStep, map-PostStep, ind-PostStep, fold-Primary, fold-roll-Primary, map-Primary, ind-Primary, fold-Unary, fold-roll-Unary, map-Unary, ind-Unary, fold-ChainStep, fold-roll-ChainStep, map-ChainStep, ind-ChainStep, fold-Choice, fold-roll-Choice, map-Choice, ind-Choice, fold-CommaStep, fold-roll-CommaStep, map-CommaStep, ind-CommaStep, fold-Cond, fold-roll-Cond, map-Cond, ind-Cond, fold-Expr, fold-roll-Expr, map-Expr, ind-Expr, fold-Post, fold-roll-Post, map-Post, ind-Post}
use Rattle.clc_tree.specs.Flat.{Tokens, joined, scalar_tokens, assign_layer, assign_tokens, cast_layer, cast_tokens, chain_layer, chain_tokens, post_step_layer, post_step_tokens, primary_layer, primary_tokens, unary_layer, unary_tokens, chain_step_layer, chain_step_tokens, choice_layer, choice_tokens, comma_step_layer, comma_step_tokens, cond_layer, cond_tokens, expr_layer, expr_tokens, post_layer, post_tokens}
use Rattle.clc_types.specs.declared.forms.Form.{Form}
use Rattle.clc_types.specs.Judged.{Part}
use Rattle.clc_types.specs.Words.{mark_of}
use Rattle.clc_types.specs.Typing.{Suffix, Operand, Choices, Series, judge, judge_assign, prefixed, assign_part, cast_part, chain_part, post_step_part, primary_part, unary_part, chain_step_part, choice_part, comma_step_part, cond_part, expr_part, post_part}
use Rattle.clc_walk_exact.proofs.Whole.{j_assign, j_cast, j_chain, j_post_step, j_primary, j_unary, j_chain_step, j_choice, j_comma_step, j_cond, j_expr, j_post}
use Rattle.clc_walk_exact.proofs.Sizes.{joined_length, type_length, rest_size, series_size, operand_size, suffix_size, suffixes_size, chain_tokens as chain_size, series_tokens, arguments_tokens, suffixes_tokens, conditional_tokens}
use Rattle.clc_walk_exact.proofs.Prefixes.{prefixed_tokens}

abbrev PAssign : Assign → Type 0
PAssign e = ((j_assign e)).tokens ≡ length (assign_tokens e)

abbrev SubAssign : Type 0
SubAssign = (e : Assign) × PAssign e

abbrev PCast : Cast → Type 0
PCast e = ((j_cast e)).tokens ≡ length (cast_tokens e)

abbrev SubCast : Type 0
SubCast = (e : Cast) × PCast e

abbrev PChain : Chain → Type 0
PChain e = ((j_chain e)).tokens ≡ length (chain_tokens e)

abbrev SubChain : Type 0
SubChain = (e : Chain) × PChain e

abbrev PPostStep : PostStep → Type 0
PPostStep e = suffix_size (j_post_step e) ≡ length (post_step_tokens e)

abbrev SubPostStep : Type 0
SubPostStep = (e : PostStep) × PPostStep e

abbrev PPrimary : Primary → Type 0
PPrimary e = ((j_primary e)).tokens ≡ length (primary_tokens e)

abbrev SubPrimary : Type 0
SubPrimary = (e : Primary) × PPrimary e

abbrev PUnary : Unary → Type 0
PUnary e = ((j_unary e)).tokens ≡ length (unary_tokens e)

abbrev SubUnary : Type 0
SubUnary = (e : Unary) × PUnary e

abbrev PChainStep : ChainStep → Type 0
PChainStep e = suc ((j_chain_step e)).value.tokens ≡ length (chain_step_tokens e)

abbrev SubChainStep : Type 0
SubChainStep = (e : ChainStep) × PChainStep e

abbrev PChoice : Choice → Type 0
PChoice e = 2 + ((j_choice e)).yes.tokens + ((j_choice e)).no.tokens ≡ length (choice_tokens e)

abbrev SubChoice : Type 0
SubChoice = (e : Choice) × PChoice e

abbrev PCommaStep : CommaStep → Type 0
PCommaStep e = suc ((j_comma_step e)).tokens ≡ length (comma_step_tokens e)

abbrev SubCommaStep : Type 0
SubCommaStep = (e : CommaStep) × PCommaStep e

abbrev PCond : Cond → Type 0
PCond e = ((j_cond e)).tokens ≡ length (cond_tokens e)

abbrev SubCond : Type 0
SubCond = (e : Cond) × PCond e

abbrev PExpr : Expr → Type 0
PExpr e = series_size (j_expr e) ≡ length (expr_tokens e)

abbrev SubExpr : Type 0
SubExpr = (e : Expr) × PExpr e

abbrev PPost : Post → Type 0
PPost e = ((j_post e)).tokens ≡ length (post_tokens e)

abbrev SubPost : Type 0
SubPost = (e : Post) × PPost e

rolled_assign : (x : Assign-F Assign Cast Chain PostStep Primary Unary ChainStep Choice CommaStep Cond Expr Post) → ((assign_part (map-Assign Assign Cast Chain PostStep Primary Unary ChainStep Choice CommaStep Cond Expr Post (Part Form) (Part Form) (Part Form) Suffix (Part Form) (Part Form) Operand Choices (Part Form) (Part Form) Series (Part Form) j_assign j_cast j_chain j_post_step j_primary j_unary j_chain_step j_choice j_comma_step j_cond j_expr j_post x))).tokens ≡ length (assign_layer (map-Assign Assign Cast Chain PostStep Primary Unary ChainStep Choice CommaStep Cond Expr Post Tokens Tokens Tokens Tokens Tokens Tokens Tokens Tokens Tokens Tokens Tokens Tokens assign_tokens cast_tokens chain_tokens post_step_tokens primary_tokens unary_tokens chain_step_tokens choice_tokens comma_step_tokens cond_tokens expr_tokens post_tokens x)) → PAssign (roll-Assign x)
rolled_assign x g =
    ap (λ z. (z).tokens) (fold-roll-Assign (Part Form) (Part Form) (Part Form) Suffix (Part Form) (Part Form) Operand Choices (Part Form) (Part Form) Series (Part Form) assign_part cast_part chain_part post_step_part primary_part unary_part chain_step_part choice_part comma_step_part cond_part expr_part post_part x) ∙ g ∙ ap length (sym (fold-roll-Assign Tokens Tokens Tokens Tokens Tokens Tokens Tokens Tokens Tokens Tokens Tokens Tokens assign_layer cast_layer chain_layer post_step_layer primary_layer unary_layer chain_step_layer choice_layer comma_step_layer cond_layer expr_layer post_layer x))

rolled_cast : (x : Cast-F Assign Cast Chain PostStep Primary Unary ChainStep Choice CommaStep Cond Expr Post) → ((cast_part (map-Cast Assign Cast Chain PostStep Primary Unary ChainStep Choice CommaStep Cond Expr Post (Part Form) (Part Form) (Part Form) Suffix (Part Form) (Part Form) Operand Choices (Part Form) (Part Form) Series (Part Form) j_assign j_cast j_chain j_post_step j_primary j_unary j_chain_step j_choice j_comma_step j_cond j_expr j_post x))).tokens ≡ length (cast_layer (map-Cast Assign Cast Chain PostStep Primary Unary ChainStep Choice CommaStep Cond Expr Post Tokens Tokens Tokens Tokens Tokens Tokens Tokens Tokens Tokens Tokens Tokens Tokens assign_tokens cast_tokens chain_tokens post_step_tokens primary_tokens unary_tokens chain_step_tokens choice_tokens comma_step_tokens cond_tokens expr_tokens post_tokens x)) → PCast (roll-Cast x)
rolled_cast x g =
    ap (λ z. (z).tokens) (fold-roll-Cast (Part Form) (Part Form) (Part Form) Suffix (Part Form) (Part Form) Operand Choices (Part Form) (Part Form) Series (Part Form) assign_part cast_part chain_part post_step_part primary_part unary_part chain_step_part choice_part comma_step_part cond_part expr_part post_part x) ∙ g ∙ ap length (sym (fold-roll-Cast Tokens Tokens Tokens Tokens Tokens Tokens Tokens Tokens Tokens Tokens Tokens Tokens assign_layer cast_layer chain_layer post_step_layer primary_layer unary_layer chain_step_layer choice_layer comma_step_layer cond_layer expr_layer post_layer x))

rolled_chain : (x : Chain-F Assign Cast Chain PostStep Primary Unary ChainStep Choice CommaStep Cond Expr Post) → ((chain_part (map-Chain Assign Cast Chain PostStep Primary Unary ChainStep Choice CommaStep Cond Expr Post (Part Form) (Part Form) (Part Form) Suffix (Part Form) (Part Form) Operand Choices (Part Form) (Part Form) Series (Part Form) j_assign j_cast j_chain j_post_step j_primary j_unary j_chain_step j_choice j_comma_step j_cond j_expr j_post x))).tokens ≡ length (chain_layer (map-Chain Assign Cast Chain PostStep Primary Unary ChainStep Choice CommaStep Cond Expr Post Tokens Tokens Tokens Tokens Tokens Tokens Tokens Tokens Tokens Tokens Tokens Tokens assign_tokens cast_tokens chain_tokens post_step_tokens primary_tokens unary_tokens chain_step_tokens choice_tokens comma_step_tokens cond_tokens expr_tokens post_tokens x)) → PChain (roll-Chain x)
rolled_chain x g =
    ap (λ z. (z).tokens) (fold-roll-Chain (Part Form) (Part Form) (Part Form) Suffix (Part Form) (Part Form) Operand Choices (Part Form) (Part Form) Series (Part Form) assign_part cast_part chain_part post_step_part primary_part unary_part chain_step_part choice_part comma_step_part cond_part expr_part post_part x) ∙ g ∙ ap length (sym (fold-roll-Chain Tokens Tokens Tokens Tokens Tokens Tokens Tokens Tokens Tokens Tokens Tokens Tokens assign_layer cast_layer chain_layer post_step_layer primary_layer unary_layer chain_step_layer choice_layer comma_step_layer cond_layer expr_layer post_layer x))

rolled_post_step : (x : PostStep-F Assign Cast Chain PostStep Primary Unary ChainStep Choice CommaStep Cond Expr Post) → suffix_size (post_step_part (map-PostStep Assign Cast Chain PostStep Primary Unary ChainStep Choice CommaStep Cond Expr Post (Part Form) (Part Form) (Part Form) Suffix (Part Form) (Part Form) Operand Choices (Part Form) (Part Form) Series (Part Form) j_assign j_cast j_chain j_post_step j_primary j_unary j_chain_step j_choice j_comma_step j_cond j_expr j_post x)) ≡ length (post_step_layer (map-PostStep Assign Cast Chain PostStep Primary Unary ChainStep Choice CommaStep Cond Expr Post Tokens Tokens Tokens Tokens Tokens Tokens Tokens Tokens Tokens Tokens Tokens Tokens assign_tokens cast_tokens chain_tokens post_step_tokens primary_tokens unary_tokens chain_step_tokens choice_tokens comma_step_tokens cond_tokens expr_tokens post_tokens x)) → PPostStep (roll-PostStep x)
rolled_post_step x g =
    ap (λ z. suffix_size z) (fold-roll-PostStep (Part Form) (Part Form) (Part Form) Suffix (Part Form) (Part Form) Operand Choices (Part Form) (Part Form) Series (Part Form) assign_part cast_part chain_part post_step_part primary_part unary_part chain_step_part choice_part comma_step_part cond_part expr_part post_part x) ∙ g ∙ ap length (sym (fold-roll-PostStep Tokens Tokens Tokens Tokens Tokens Tokens Tokens Tokens Tokens Tokens Tokens Tokens assign_layer cast_layer chain_layer post_step_layer primary_layer unary_layer chain_step_layer choice_layer comma_step_layer cond_layer expr_layer post_layer x))

rolled_primary : (x : Primary-F Assign Cast Chain PostStep Primary Unary ChainStep Choice CommaStep Cond Expr Post) → ((primary_part (map-Primary Assign Cast Chain PostStep Primary Unary ChainStep Choice CommaStep Cond Expr Post (Part Form) (Part Form) (Part Form) Suffix (Part Form) (Part Form) Operand Choices (Part Form) (Part Form) Series (Part Form) j_assign j_cast j_chain j_post_step j_primary j_unary j_chain_step j_choice j_comma_step j_cond j_expr j_post x))).tokens ≡ length (primary_layer (map-Primary Assign Cast Chain PostStep Primary Unary ChainStep Choice CommaStep Cond Expr Post Tokens Tokens Tokens Tokens Tokens Tokens Tokens Tokens Tokens Tokens Tokens Tokens assign_tokens cast_tokens chain_tokens post_step_tokens primary_tokens unary_tokens chain_step_tokens choice_tokens comma_step_tokens cond_tokens expr_tokens post_tokens x)) → PPrimary (roll-Primary x)
rolled_primary x g =
    ap (λ z. (z).tokens) (fold-roll-Primary (Part Form) (Part Form) (Part Form) Suffix (Part Form) (Part Form) Operand Choices (Part Form) (Part Form) Series (Part Form) assign_part cast_part chain_part post_step_part primary_part unary_part chain_step_part choice_part comma_step_part cond_part expr_part post_part x) ∙ g ∙ ap length (sym (fold-roll-Primary Tokens Tokens Tokens Tokens Tokens Tokens Tokens Tokens Tokens Tokens Tokens Tokens assign_layer cast_layer chain_layer post_step_layer primary_layer unary_layer chain_step_layer choice_layer comma_step_layer cond_layer expr_layer post_layer x))

rolled_unary : (x : Unary-F Assign Cast Chain PostStep Primary Unary ChainStep Choice CommaStep Cond Expr Post) → ((unary_part (map-Unary Assign Cast Chain PostStep Primary Unary ChainStep Choice CommaStep Cond Expr Post (Part Form) (Part Form) (Part Form) Suffix (Part Form) (Part Form) Operand Choices (Part Form) (Part Form) Series (Part Form) j_assign j_cast j_chain j_post_step j_primary j_unary j_chain_step j_choice j_comma_step j_cond j_expr j_post x))).tokens ≡ length (unary_layer (map-Unary Assign Cast Chain PostStep Primary Unary ChainStep Choice CommaStep Cond Expr Post Tokens Tokens Tokens Tokens Tokens Tokens Tokens Tokens Tokens Tokens Tokens Tokens assign_tokens cast_tokens chain_tokens post_step_tokens primary_tokens unary_tokens chain_step_tokens choice_tokens comma_step_tokens cond_tokens expr_tokens post_tokens x)) → PUnary (roll-Unary x)
rolled_unary x g =
    ap (λ z. (z).tokens) (fold-roll-Unary (Part Form) (Part Form) (Part Form) Suffix (Part Form) (Part Form) Operand Choices (Part Form) (Part Form) Series (Part Form) assign_part cast_part chain_part post_step_part primary_part unary_part chain_step_part choice_part comma_step_part cond_part expr_part post_part x) ∙ g ∙ ap length (sym (fold-roll-Unary Tokens Tokens Tokens Tokens Tokens Tokens Tokens Tokens Tokens Tokens Tokens Tokens assign_layer cast_layer chain_layer post_step_layer primary_layer unary_layer chain_step_layer choice_layer comma_step_layer cond_layer expr_layer post_layer x))

rolled_chain_step : (x : ChainStep-F Assign Cast Chain PostStep Primary Unary ChainStep Choice CommaStep Cond Expr Post) → suc ((chain_step_part (map-ChainStep Assign Cast Chain PostStep Primary Unary ChainStep Choice CommaStep Cond Expr Post (Part Form) (Part Form) (Part Form) Suffix (Part Form) (Part Form) Operand Choices (Part Form) (Part Form) Series (Part Form) j_assign j_cast j_chain j_post_step j_primary j_unary j_chain_step j_choice j_comma_step j_cond j_expr j_post x))).value.tokens ≡ length (chain_step_layer (map-ChainStep Assign Cast Chain PostStep Primary Unary ChainStep Choice CommaStep Cond Expr Post Tokens Tokens Tokens Tokens Tokens Tokens Tokens Tokens Tokens Tokens Tokens Tokens assign_tokens cast_tokens chain_tokens post_step_tokens primary_tokens unary_tokens chain_step_tokens choice_tokens comma_step_tokens cond_tokens expr_tokens post_tokens x)) → PChainStep (roll-ChainStep x)
rolled_chain_step x g =
    ap (λ z. suc (z).value.tokens) (fold-roll-ChainStep (Part Form) (Part Form) (Part Form) Suffix (Part Form) (Part Form) Operand Choices (Part Form) (Part Form) Series (Part Form) assign_part cast_part chain_part post_step_part primary_part unary_part chain_step_part choice_part comma_step_part cond_part expr_part post_part x) ∙ g ∙ ap length (sym (fold-roll-ChainStep Tokens Tokens Tokens Tokens Tokens Tokens Tokens Tokens Tokens Tokens Tokens Tokens assign_layer cast_layer chain_layer post_step_layer primary_layer unary_layer chain_step_layer choice_layer comma_step_layer cond_layer expr_layer post_layer x))

rolled_choice : (x : Choice-F Assign Cast Chain PostStep Primary Unary ChainStep Choice CommaStep Cond Expr Post) → 2 + ((choice_part (map-Choice Assign Cast Chain PostStep Primary Unary ChainStep Choice CommaStep Cond Expr Post (Part Form) (Part Form) (Part Form) Suffix (Part Form) (Part Form) Operand Choices (Part Form) (Part Form) Series (Part Form) j_assign j_cast j_chain j_post_step j_primary j_unary j_chain_step j_choice j_comma_step j_cond j_expr j_post x))).yes.tokens + ((choice_part (map-Choice Assign Cast Chain PostStep Primary Unary ChainStep Choice CommaStep Cond Expr Post (Part Form) (Part Form) (Part Form) Suffix (Part Form) (Part Form) Operand Choices (Part Form) (Part Form) Series (Part Form) j_assign j_cast j_chain j_post_step j_primary j_unary j_chain_step j_choice j_comma_step j_cond j_expr j_post x))).no.tokens ≡ length (choice_layer (map-Choice Assign Cast Chain PostStep Primary Unary ChainStep Choice CommaStep Cond Expr Post Tokens Tokens Tokens Tokens Tokens Tokens Tokens Tokens Tokens Tokens Tokens Tokens assign_tokens cast_tokens chain_tokens post_step_tokens primary_tokens unary_tokens chain_step_tokens choice_tokens comma_step_tokens cond_tokens expr_tokens post_tokens x)) → PChoice (roll-Choice x)
rolled_choice x g =
    ap (λ z. 2 + (z).yes.tokens + (z).no.tokens) (fold-roll-Choice (Part Form) (Part Form) (Part Form) Suffix (Part Form) (Part Form) Operand Choices (Part Form) (Part Form) Series (Part Form) assign_part cast_part chain_part post_step_part primary_part unary_part chain_step_part choice_part comma_step_part cond_part expr_part post_part x) ∙ g ∙ ap length (sym (fold-roll-Choice Tokens Tokens Tokens Tokens Tokens Tokens Tokens Tokens Tokens Tokens Tokens Tokens assign_layer cast_layer chain_layer post_step_layer primary_layer unary_layer chain_step_layer choice_layer comma_step_layer cond_layer expr_layer post_layer x))

rolled_comma_step : (x : CommaStep-F Assign Cast Chain PostStep Primary Unary ChainStep Choice CommaStep Cond Expr Post) → suc ((comma_step_part (map-CommaStep Assign Cast Chain PostStep Primary Unary ChainStep Choice CommaStep Cond Expr Post (Part Form) (Part Form) (Part Form) Suffix (Part Form) (Part Form) Operand Choices (Part Form) (Part Form) Series (Part Form) j_assign j_cast j_chain j_post_step j_primary j_unary j_chain_step j_choice j_comma_step j_cond j_expr j_post x))).tokens ≡ length (comma_step_layer (map-CommaStep Assign Cast Chain PostStep Primary Unary ChainStep Choice CommaStep Cond Expr Post Tokens Tokens Tokens Tokens Tokens Tokens Tokens Tokens Tokens Tokens Tokens Tokens assign_tokens cast_tokens chain_tokens post_step_tokens primary_tokens unary_tokens chain_step_tokens choice_tokens comma_step_tokens cond_tokens expr_tokens post_tokens x)) → PCommaStep (roll-CommaStep x)
rolled_comma_step x g =
    ap (λ z. suc (z).tokens) (fold-roll-CommaStep (Part Form) (Part Form) (Part Form) Suffix (Part Form) (Part Form) Operand Choices (Part Form) (Part Form) Series (Part Form) assign_part cast_part chain_part post_step_part primary_part unary_part chain_step_part choice_part comma_step_part cond_part expr_part post_part x) ∙ g ∙ ap length (sym (fold-roll-CommaStep Tokens Tokens Tokens Tokens Tokens Tokens Tokens Tokens Tokens Tokens Tokens Tokens assign_layer cast_layer chain_layer post_step_layer primary_layer unary_layer chain_step_layer choice_layer comma_step_layer cond_layer expr_layer post_layer x))

rolled_cond : (x : Cond-F Assign Cast Chain PostStep Primary Unary ChainStep Choice CommaStep Cond Expr Post) → ((cond_part (map-Cond Assign Cast Chain PostStep Primary Unary ChainStep Choice CommaStep Cond Expr Post (Part Form) (Part Form) (Part Form) Suffix (Part Form) (Part Form) Operand Choices (Part Form) (Part Form) Series (Part Form) j_assign j_cast j_chain j_post_step j_primary j_unary j_chain_step j_choice j_comma_step j_cond j_expr j_post x))).tokens ≡ length (cond_layer (map-Cond Assign Cast Chain PostStep Primary Unary ChainStep Choice CommaStep Cond Expr Post Tokens Tokens Tokens Tokens Tokens Tokens Tokens Tokens Tokens Tokens Tokens Tokens assign_tokens cast_tokens chain_tokens post_step_tokens primary_tokens unary_tokens chain_step_tokens choice_tokens comma_step_tokens cond_tokens expr_tokens post_tokens x)) → PCond (roll-Cond x)
rolled_cond x g =
    ap (λ z. (z).tokens) (fold-roll-Cond (Part Form) (Part Form) (Part Form) Suffix (Part Form) (Part Form) Operand Choices (Part Form) (Part Form) Series (Part Form) assign_part cast_part chain_part post_step_part primary_part unary_part chain_step_part choice_part comma_step_part cond_part expr_part post_part x) ∙ g ∙ ap length (sym (fold-roll-Cond Tokens Tokens Tokens Tokens Tokens Tokens Tokens Tokens Tokens Tokens Tokens Tokens assign_layer cast_layer chain_layer post_step_layer primary_layer unary_layer chain_step_layer choice_layer comma_step_layer cond_layer expr_layer post_layer x))

rolled_expr : (x : Expr-F Assign Cast Chain PostStep Primary Unary ChainStep Choice CommaStep Cond Expr Post) → series_size (expr_part (map-Expr Assign Cast Chain PostStep Primary Unary ChainStep Choice CommaStep Cond Expr Post (Part Form) (Part Form) (Part Form) Suffix (Part Form) (Part Form) Operand Choices (Part Form) (Part Form) Series (Part Form) j_assign j_cast j_chain j_post_step j_primary j_unary j_chain_step j_choice j_comma_step j_cond j_expr j_post x)) ≡ length (expr_layer (map-Expr Assign Cast Chain PostStep Primary Unary ChainStep Choice CommaStep Cond Expr Post Tokens Tokens Tokens Tokens Tokens Tokens Tokens Tokens Tokens Tokens Tokens Tokens assign_tokens cast_tokens chain_tokens post_step_tokens primary_tokens unary_tokens chain_step_tokens choice_tokens comma_step_tokens cond_tokens expr_tokens post_tokens x)) → PExpr (roll-Expr x)
rolled_expr x g =
    ap (λ z. series_size z) (fold-roll-Expr (Part Form) (Part Form) (Part Form) Suffix (Part Form) (Part Form) Operand Choices (Part Form) (Part Form) Series (Part Form) assign_part cast_part chain_part post_step_part primary_part unary_part chain_step_part choice_part comma_step_part cond_part expr_part post_part x) ∙ g ∙ ap length (sym (fold-roll-Expr Tokens Tokens Tokens Tokens Tokens Tokens Tokens Tokens Tokens Tokens Tokens Tokens assign_layer cast_layer chain_layer post_step_layer primary_layer unary_layer chain_step_layer choice_layer comma_step_layer cond_layer expr_layer post_layer x))

rolled_post : (x : Post-F Assign Cast Chain PostStep Primary Unary ChainStep Choice CommaStep Cond Expr Post) → ((post_part (map-Post Assign Cast Chain PostStep Primary Unary ChainStep Choice CommaStep Cond Expr Post (Part Form) (Part Form) (Part Form) Suffix (Part Form) (Part Form) Operand Choices (Part Form) (Part Form) Series (Part Form) j_assign j_cast j_chain j_post_step j_primary j_unary j_chain_step j_choice j_comma_step j_cond j_expr j_post x))).tokens ≡ length (post_layer (map-Post Assign Cast Chain PostStep Primary Unary ChainStep Choice CommaStep Cond Expr Post Tokens Tokens Tokens Tokens Tokens Tokens Tokens Tokens Tokens Tokens Tokens Tokens assign_tokens cast_tokens chain_tokens post_step_tokens primary_tokens unary_tokens chain_step_tokens choice_tokens comma_step_tokens cond_tokens expr_tokens post_tokens x)) → PPost (roll-Post x)
rolled_post x g =
    ap (λ z. (z).tokens) (fold-roll-Post (Part Form) (Part Form) (Part Form) Suffix (Part Form) (Part Form) Operand Choices (Part Form) (Part Form) Series (Part Form) assign_part cast_part chain_part post_step_part primary_part unary_part chain_step_part choice_part comma_step_part cond_part expr_part post_part x) ∙ g ∙ ap length (sym (fold-roll-Post Tokens Tokens Tokens Tokens Tokens Tokens Tokens Tokens Tokens Tokens Tokens Tokens assign_layer cast_layer chain_layer post_step_layer primary_layer unary_layer chain_step_layer choice_layer comma_step_layer cond_layer expr_layer post_layer x))

operand_list : (xs : List SubChainStep) → operand_size (map j_chain_step (map (λ e. e.0) xs)) ≡ length (joined (map chain_step_tokens (map (λ e. e.0) xs)))
operand_list [] = refl
operand_list (x ∷ xs) = let h = x.1 in let i = operand_list xs in let n = joined_length (map chain_step_tokens (map (λ e. e.0) xs)) (chain_step_tokens x.0) in omega (arith, h, i, n)

suffix_list : (xs : List SubPostStep) → suffixes_size (map j_post_step (map (λ e. e.0) xs)) ≡ length (joined (map post_step_tokens (map (λ e. e.0) xs)))
suffix_list [] = refl
suffix_list (x ∷ xs) = let h = x.1 in let i = suffix_list xs in let n = joined_length (map post_step_tokens (map (λ e. e.0) xs)) (post_step_tokens x.0) in omega (arith, h, i, n)

comma_list : (xs : List SubCommaStep) → rest_size (map j_comma_step (map (λ e. e.0) xs)) ≡ length (joined (map comma_step_tokens (map (λ e. e.0) xs)))
comma_list [] = refl
comma_list (x ∷ xs) = let h = x.1 in let i = comma_list xs in let n = joined_length (map comma_step_tokens (map (λ e. e.0) xs)) (comma_step_tokens x.0) in omega (arith, h, i, n)

cond_of : (t : SubChain) (x : Option SubChoice) → PCond (roll-Cond (map-Cond SubAssign SubCast SubChain SubPostStep SubPrimary SubUnary SubChainStep SubChoice SubCommaStep SubCond SubExpr SubPost Assign Cast Chain PostStep Primary Unary ChainStep Choice CommaStep Cond Expr Post (λ e. e.0) (λ e. e.0) (λ e. e.0) (λ e. e.0) (λ e. e.0) (λ e. e.0) (λ e. e.0) (λ e. e.0) (λ e. e.0) (λ e. e.0) (λ e. e.0) (λ e. e.0) (record { test = t; choice = x })))
cond_of t None = rolled_cond (map-Cond SubAssign SubCast SubChain SubPostStep SubPrimary SubUnary SubChainStep SubChoice SubCommaStep SubCond SubExpr SubPost Assign Cast Chain PostStep Primary Unary ChainStep Choice CommaStep Cond Expr Post (λ e. e.0) (λ e. e.0) (λ e. e.0) (λ e. e.0) (λ e. e.0) (λ e. e.0) (λ e. e.0) (λ e. e.0) (λ e. e.0) (λ e. e.0) (λ e. e.0) (λ e. e.0) (record { test = t; choice = None })) (let h = t.1 in let n = length-append (chain_tokens t.0) [] in omega (arith, h, n))
cond_of t (Some x) = rolled_cond (map-Cond SubAssign SubCast SubChain SubPostStep SubPrimary SubUnary SubChainStep SubChoice SubCommaStep SubCond SubExpr SubPost Assign Cast Chain PostStep Primary Unary ChainStep Choice CommaStep Cond Expr Post (λ e. e.0) (λ e. e.0) (λ e. e.0) (λ e. e.0) (λ e. e.0) (λ e. e.0) (λ e. e.0) (λ e. e.0) (λ e. e.0) (λ e. e.0) (λ e. e.0) (λ e. e.0) (record { test = t; choice = Some x })) (let h = t.1 in let i = x.1 in let k = conditional_tokens (j_chain t.0) (j_choice x.0) in let n = length-append (chain_tokens t.0) (choice_tokens x.0) in omega (arith, h, i, k, n))

node_assign : (y : Assign-F SubAssign SubCast SubChain SubPostStep SubPrimary SubUnary SubChainStep SubChoice SubCommaStep SubCond SubExpr SubPost) → PAssign (roll-Assign (map-Assign SubAssign SubCast SubChain SubPostStep SubPrimary SubUnary SubChainStep SubChoice SubCommaStep SubCond SubExpr SubPost Assign Cast Chain PostStep Primary Unary ChainStep Choice CommaStep Cond Expr Post (λ e. e.0) (λ e. e.0) (λ e. e.0) (λ e. e.0) (λ e. e.0) (λ e. e.0) (λ e. e.0) (λ e. e.0) (λ e. e.0) (λ e. e.0) (λ e. e.0) (λ e. e.0) y))
node_assign (o.Cond e) = rolled_assign (o.Cond e.0) e.1
node_assign (o.Set u t a) = rolled_assign (o.Set u.0 t a.0) (let h = u.1 in let i = a.1 in let n = length-append (unary_tokens u.0) (t ∷ assign_tokens a.0) in omega (arith, h, i, n))

node_cast : (y : Cast-F SubAssign SubCast SubChain SubPostStep SubPrimary SubUnary SubChainStep SubChoice SubCommaStep SubCond SubExpr SubPost) → PCast (roll-Cast (map-Cast SubAssign SubCast SubChain SubPostStep SubPrimary SubUnary SubChainStep SubChoice SubCommaStep SubCond SubExpr SubPost Assign Cast Chain PostStep Primary Unary ChainStep Choice CommaStep Cond Expr Post (λ e. e.0) (λ e. e.0) (λ e. e.0) (λ e. e.0) (λ e. e.0) (λ e. e.0) (λ e. e.0) (λ e. e.0) (λ e. e.0) (λ e. e.0) (λ e. e.0) (λ e. e.0) y))
node_cast (o.To l s r e) = rolled_cast (o.To l s r e.0) (let h = e.1 in let i = type_length s in let n = length-append (scalar_tokens s) (r ∷ cast_tokens e.0) in omega (arith, h, i, n))
node_cast (o.Of e) = rolled_cast (o.Of e.0) e.1

node_chain : (y : Chain-F SubAssign SubCast SubChain SubPostStep SubPrimary SubUnary SubChainStep SubChoice SubCommaStep SubCond SubExpr SubPost) → PChain (roll-Chain (map-Chain SubAssign SubCast SubChain SubPostStep SubPrimary SubUnary SubChainStep SubChoice SubCommaStep SubCond SubExpr SubPost Assign Cast Chain PostStep Primary Unary ChainStep Choice CommaStep Cond Expr Post (λ e. e.0) (λ e. e.0) (λ e. e.0) (λ e. e.0) (λ e. e.0) (λ e. e.0) (λ e. e.0) (λ e. e.0) (λ e. e.0) (λ e. e.0) (λ e. e.0) (λ e. e.0) y))
node_chain (o.One e) = rolled_chain (o.One e.0) e.1
node_chain (o.Level e xs) = rolled_chain (o.Level e.0 (map (λ e. e.0) xs)) (let h = e.1 in let i = operand_list xs in let k = chain_size (j_chain e.0) (map j_chain_step (map (λ e. e.0) xs)) in let n = length-append (chain_tokens e.0) (joined (map chain_step_tokens (map (λ e. e.0) xs))) in omega (arith, h, i, k, n))

node_post_step : (y : PostStep-F SubAssign SubCast SubChain SubPostStep SubPrimary SubUnary SubChainStep SubChoice SubCommaStep SubCond SubExpr SubPost) → PPostStep (roll-PostStep (map-PostStep SubAssign SubCast SubChain SubPostStep SubPrimary SubUnary SubChainStep SubChoice SubCommaStep SubCond SubExpr SubPost Assign Cast Chain PostStep Primary Unary ChainStep Choice CommaStep Cond Expr Post (λ e. e.0) (λ e. e.0) (λ e. e.0) (λ e. e.0) (λ e. e.0) (λ e. e.0) (λ e. e.0) (λ e. e.0) (λ e. e.0) (λ e. e.0) (λ e. e.0) (λ e. e.0) y))
node_post_step (o.Index l e r) = rolled_post_step (o.Index l e.0 r) (let h = e.1 in let k = series_tokens (j_expr e.0).first (j_expr e.0).rest in let n = length-append (expr_tokens e.0) (r ∷ []) in omega (arith, h, k, n))
node_post_step (o.PostStep::Step t) = rolled_post_step (o.PostStep::Step t) refl

node_primary : (y : Primary-F SubAssign SubCast SubChain SubPostStep SubPrimary SubUnary SubChainStep SubChoice SubCommaStep SubCond SubExpr SubPost) → PPrimary (roll-Primary (map-Primary SubAssign SubCast SubChain SubPostStep SubPrimary SubUnary SubChainStep SubChoice SubCommaStep SubCond SubExpr SubPost Assign Cast Chain PostStep Primary Unary ChainStep Choice CommaStep Cond Expr Post (λ e. e.0) (λ e. e.0) (λ e. e.0) (λ e. e.0) (λ e. e.0) (λ e. e.0) (λ e. e.0) (λ e. e.0) (λ e. e.0) (λ e. e.0) (λ e. e.0) (λ e. e.0) y))
node_primary (o.Name t) = rolled_primary (o.Name t) refl
node_primary (o.Number t) = rolled_primary (o.Number t) refl
node_primary (o.Paren l e r) = rolled_primary (o.Paren l e.0 r) (let h = e.1 in let k = series_tokens (j_expr e.0).first (j_expr e.0).rest in let n = length-append (expr_tokens e.0) (r ∷ []) in omega (arith, h, k, n))
node_primary (o.Call f l None r) = rolled_primary (o.Call f l None r) (omega arith)
node_primary (o.Call f l (Some e) r) = rolled_primary (o.Call f l (Some e.0) r) (let h = e.1 in let k = arguments_tokens (j_expr e.0) in let n = length-append (expr_tokens e.0) (r ∷ []) in omega (arith, h, k, n))

node_unary : (y : Unary-F SubAssign SubCast SubChain SubPostStep SubPrimary SubUnary SubChainStep SubChoice SubCommaStep SubCond SubExpr SubPost) → PUnary (roll-Unary (map-Unary SubAssign SubCast SubChain SubPostStep SubPrimary SubUnary SubChainStep SubChoice SubCommaStep SubCond SubExpr SubPost Assign Cast Chain PostStep Primary Unary ChainStep Choice CommaStep Cond Expr Post (λ e. e.0) (λ e. e.0) (λ e. e.0) (λ e. e.0) (λ e. e.0) (λ e. e.0) (λ e. e.0) (λ e. e.0) (λ e. e.0) (λ e. e.0) (λ e. e.0) (λ e. e.0) y))
node_unary (o.Post e) = rolled_unary (o.Post e.0) e.1
node_unary (o.Unary::Step t e) = rolled_unary (o.Unary::Step t e.0) (let h = e.1 in omega (arith, h))
node_unary (o.Prefix t e) = rolled_unary (o.Prefix t e.0) (let h = e.1 in let k = prefixed_tokens t (mark_of t) (j_cast e.0) in omega (arith, h, k))

node_chain_step : (y : ChainStep-F SubAssign SubCast SubChain SubPostStep SubPrimary SubUnary SubChainStep SubChoice SubCommaStep SubCond SubExpr SubPost) → PChainStep (roll-ChainStep (map-ChainStep SubAssign SubCast SubChain SubPostStep SubPrimary SubUnary SubChainStep SubChoice SubCommaStep SubCond SubExpr SubPost Assign Cast Chain PostStep Primary Unary ChainStep Choice CommaStep Cond Expr Post (λ e. e.0) (λ e. e.0) (λ e. e.0) (λ e. e.0) (λ e. e.0) (λ e. e.0) (λ e. e.0) (λ e. e.0) (λ e. e.0) (λ e. e.0) (λ e. e.0) (λ e. e.0) y))
node_chain_step y = rolled_chain_step (map-ChainStep SubAssign SubCast SubChain SubPostStep SubPrimary SubUnary SubChainStep SubChoice SubCommaStep SubCond SubExpr SubPost Assign Cast Chain PostStep Primary Unary ChainStep Choice CommaStep Cond Expr Post (λ e. e.0) (λ e. e.0) (λ e. e.0) (λ e. e.0) (λ e. e.0) (λ e. e.0) (λ e. e.0) (λ e. e.0) (λ e. e.0) (λ e. e.0) (λ e. e.0) (λ e. e.0) y) (let h = y.operand.1 in ap suc h)

node_choice : (y : Choice-F SubAssign SubCast SubChain SubPostStep SubPrimary SubUnary SubChainStep SubChoice SubCommaStep SubCond SubExpr SubPost) → PChoice (roll-Choice (map-Choice SubAssign SubCast SubChain SubPostStep SubPrimary SubUnary SubChainStep SubChoice SubCommaStep SubCond SubExpr SubPost Assign Cast Chain PostStep Primary Unary ChainStep Choice CommaStep Cond Expr Post (λ e. e.0) (λ e. e.0) (λ e. e.0) (λ e. e.0) (λ e. e.0) (λ e. e.0) (λ e. e.0) (λ e. e.0) (λ e. e.0) (λ e. e.0) (λ e. e.0) (λ e. e.0) y))
node_choice y = rolled_choice (map-Choice SubAssign SubCast SubChain SubPostStep SubPrimary SubUnary SubChainStep SubChoice SubCommaStep SubCond SubExpr SubPost Assign Cast Chain PostStep Primary Unary ChainStep Choice CommaStep Cond Expr Post (λ e. e.0) (λ e. e.0) (λ e. e.0) (λ e. e.0) (λ e. e.0) (λ e. e.0) (λ e. e.0) (λ e. e.0) (λ e. e.0) (λ e. e.0) (λ e. e.0) (λ e. e.0) y) (let h = y.yes.1 in let i = y.no.1 in let k = series_tokens (j_expr y.yes.0).first (j_expr y.yes.0).rest in let n = length-append (expr_tokens y.yes.0) (y.colon ∷ cond_tokens y.no.0) in omega (arith, h, i, k, n))

node_comma_step : (y : CommaStep-F SubAssign SubCast SubChain SubPostStep SubPrimary SubUnary SubChainStep SubChoice SubCommaStep SubCond SubExpr SubPost) → PCommaStep (roll-CommaStep (map-CommaStep SubAssign SubCast SubChain SubPostStep SubPrimary SubUnary SubChainStep SubChoice SubCommaStep SubCond SubExpr SubPost Assign Cast Chain PostStep Primary Unary ChainStep Choice CommaStep Cond Expr Post (λ e. e.0) (λ e. e.0) (λ e. e.0) (λ e. e.0) (λ e. e.0) (λ e. e.0) (λ e. e.0) (λ e. e.0) (λ e. e.0) (λ e. e.0) (λ e. e.0) (λ e. e.0) y))
node_comma_step y = rolled_comma_step (map-CommaStep SubAssign SubCast SubChain SubPostStep SubPrimary SubUnary SubChainStep SubChoice SubCommaStep SubCond SubExpr SubPost Assign Cast Chain PostStep Primary Unary ChainStep Choice CommaStep Cond Expr Post (λ e. e.0) (λ e. e.0) (λ e. e.0) (λ e. e.0) (λ e. e.0) (λ e. e.0) (λ e. e.0) (λ e. e.0) (λ e. e.0) (λ e. e.0) (λ e. e.0) (λ e. e.0) y) (ap suc y.value.1)

node_cond : (y : Cond-F SubAssign SubCast SubChain SubPostStep SubPrimary SubUnary SubChainStep SubChoice SubCommaStep SubCond SubExpr SubPost) → PCond (roll-Cond (map-Cond SubAssign SubCast SubChain SubPostStep SubPrimary SubUnary SubChainStep SubChoice SubCommaStep SubCond SubExpr SubPost Assign Cast Chain PostStep Primary Unary ChainStep Choice CommaStep Cond Expr Post (λ e. e.0) (λ e. e.0) (λ e. e.0) (λ e. e.0) (λ e. e.0) (λ e. e.0) (λ e. e.0) (λ e. e.0) (λ e. e.0) (λ e. e.0) (λ e. e.0) (λ e. e.0) y))
node_cond y = cond_of y.test y.choice

node_expr : (y : Expr-F SubAssign SubCast SubChain SubPostStep SubPrimary SubUnary SubChainStep SubChoice SubCommaStep SubCond SubExpr SubPost) → PExpr (roll-Expr (map-Expr SubAssign SubCast SubChain SubPostStep SubPrimary SubUnary SubChainStep SubChoice SubCommaStep SubCond SubExpr SubPost Assign Cast Chain PostStep Primary Unary ChainStep Choice CommaStep Cond Expr Post (λ e. e.0) (λ e. e.0) (λ e. e.0) (λ e. e.0) (λ e. e.0) (λ e. e.0) (λ e. e.0) (λ e. e.0) (λ e. e.0) (λ e. e.0) (λ e. e.0) (λ e. e.0) y))
node_expr y = rolled_expr (map-Expr SubAssign SubCast SubChain SubPostStep SubPrimary SubUnary SubChainStep SubChoice SubCommaStep SubCond SubExpr SubPost Assign Cast Chain PostStep Primary Unary ChainStep Choice CommaStep Cond Expr Post (λ e. e.0) (λ e. e.0) (λ e. e.0) (λ e. e.0) (λ e. e.0) (λ e. e.0) (λ e. e.0) (λ e. e.0) (λ e. e.0) (λ e. e.0) (λ e. e.0) (λ e. e.0) y) (let h = y.first.1 in let i = comma_list y.rest in let n = length-append (assign_tokens y.first.0) (joined (map comma_step_tokens (map (λ e. e.0) y.rest))) in omega (arith, h, i, n))

node_post : (y : Post-F SubAssign SubCast SubChain SubPostStep SubPrimary SubUnary SubChainStep SubChoice SubCommaStep SubCond SubExpr SubPost) → PPost (roll-Post (map-Post SubAssign SubCast SubChain SubPostStep SubPrimary SubUnary SubChainStep SubChoice SubCommaStep SubCond SubExpr SubPost Assign Cast Chain PostStep Primary Unary ChainStep Choice CommaStep Cond Expr Post (λ e. e.0) (λ e. e.0) (λ e. e.0) (λ e. e.0) (λ e. e.0) (λ e. e.0) (λ e. e.0) (λ e. e.0) (λ e. e.0) (λ e. e.0) (λ e. e.0) (λ e. e.0) y))
node_post y = rolled_post (map-Post SubAssign SubCast SubChain SubPostStep SubPrimary SubUnary SubChainStep SubChoice SubCommaStep SubCond SubExpr SubPost Assign Cast Chain PostStep Primary Unary ChainStep Choice CommaStep Cond Expr Post (λ e. e.0) (λ e. e.0) (λ e. e.0) (λ e. e.0) (λ e. e.0) (λ e. e.0) (λ e. e.0) (λ e. e.0) (λ e. e.0) (λ e. e.0) (λ e. e.0) (λ e. e.0) y) (let h = y.primary.1 in let i = suffix_list y.rest in let k = suffixes_tokens (map j_post_step (map (λ e. e.0) y.rest)) (j_primary y.primary.0) in let n = length-append (primary_tokens y.primary.0) (joined (map post_step_tokens (map (λ e. e.0) y.rest))) in omega (arith, h, i, k, n))

pub assign_length : (e : Assign) → (judge_assign e).tokens ≡ length (assign_tokens e)
assign_length = ind-Assign PAssign PCast PChain PPostStep PPrimary PUnary PChainStep PChoice PCommaStep PCond PExpr PPost (λ x y is. subst (λ z. PAssign (roll-Assign z)) is (node_assign y)) (λ x y is. subst (λ z. PCast (roll-Cast z)) is (node_cast y)) (λ x y is. subst (λ z. PChain (roll-Chain z)) is (node_chain y)) (λ x y is. subst (λ z. PPostStep (roll-PostStep z)) is (node_post_step y)) (λ x y is. subst (λ z. PPrimary (roll-Primary z)) is (node_primary y)) (λ x y is. subst (λ z. PUnary (roll-Unary z)) is (node_unary y)) (λ x y is. subst (λ z. PChainStep (roll-ChainStep z)) is (node_chain_step y)) (λ x y is. subst (λ z. PChoice (roll-Choice z)) is (node_choice y)) (λ x y is. subst (λ z. PCommaStep (roll-CommaStep z)) is (node_comma_step y)) (λ x y is. subst (λ z. PCond (roll-Cond z)) is (node_cond y)) (λ x y is. subst (λ z. PExpr (roll-Expr z)) is (node_expr y)) (λ x y is. subst (λ z. PPost (roll-Post z)) is (node_post y))

series_length : (e : Expr) → PExpr e
series_length = ind-Expr PAssign PCast PChain PPostStep PPrimary PUnary PChainStep PChoice PCommaStep PCond PExpr PPost (λ x y is. subst (λ z. PAssign (roll-Assign z)) is (node_assign y)) (λ x y is. subst (λ z. PCast (roll-Cast z)) is (node_cast y)) (λ x y is. subst (λ z. PChain (roll-Chain z)) is (node_chain y)) (λ x y is. subst (λ z. PPostStep (roll-PostStep z)) is (node_post_step y)) (λ x y is. subst (λ z. PPrimary (roll-Primary z)) is (node_primary y)) (λ x y is. subst (λ z. PUnary (roll-Unary z)) is (node_unary y)) (λ x y is. subst (λ z. PChainStep (roll-ChainStep z)) is (node_chain_step y)) (λ x y is. subst (λ z. PChoice (roll-Choice z)) is (node_choice y)) (λ x y is. subst (λ z. PCommaStep (roll-CommaStep z)) is (node_comma_step y)) (λ x y is. subst (λ z. PCond (roll-Cond z)) is (node_cond y)) (λ x y is. subst (λ z. PExpr (roll-Expr z)) is (node_expr y)) (λ x y is. subst (λ z. PPost (roll-Post z)) is (node_post y))

pub expr_length : (e : Expr) → (judge e).tokens ≡ length (expr_tokens e)
expr_length e = series_tokens (j_expr e).first (j_expr e).rest ∙ series_length e
