-- Each expression is judged to be what the walk meets.
use Rattle.std.proofs.Common.{◌≡◌, ℕ, List, [], ◌∷◌, Option, Some, None, refl, sym, ap, ◌∙◌, subst}
use Rattle.std.specs.Prelude.{map}
use Rattle.clc_tree.specs.declared.expressions.Assign.{Assign, roll-Assign}
use Rattle.clc_tree.specs.declared.expressions.Cast.{Cast, roll-Cast}
use Rattle.clc_tree.specs.declared.expressions.Chain.{Chain, roll-Chain}
use Rattle.clc_tree.specs.declared.expressions.PostStep.{PostStep, roll-PostStep}
use Rattle.clc_tree.specs.declared.expressions.Primary.{Primary, roll-Primary}
use Rattle.clc_tree.specs.declared.expressions.Unary.{Unary, roll-Unary}
use Rattle.clc_tree.specs.declared.expressions.ChainStep.{ChainStep, roll-ChainStep}
use Rattle.clc_tree.specs.declared.expressions.Choice.{Choice, roll-Choice}
use Rattle.clc_tree.specs.declared.expressions.CommaStep.{CommaStep, roll-CommaStep}
use Rattle.clc_tree.specs.declared.expressions.Cond.{Cond, roll-Cond}
use Rattle.clc_tree.specs.declared.expressions.Expr.{Expr, roll-Expr}
use Rattle.clc_tree.specs.declared.expressions.Post.{Post, roll-Post}
use Rattle.clc_tree.specs.declared.expressions.Assign.TheOpen as o
use Rattle.clc_tree.specs.declared.expressions.Assign.TheOpen.{Assign-F, Cast-F, Chain-F, PostStep-F, Primary-F, Unary-F, ChainStep-F, Choice-F, CommaStep-F, Cond-F, Expr-F, Post-F}
use Rattle.clc_tree.specs.declared.expressions.Assign.TheFolds.{fold-Assign, fold-roll-Assign, map-Assign, ind-Assign, fold-Cast, fold-roll-Cast, map-Cast, ind-Cast, fold-Chain, fold-roll-Chain, map-Chain, ind-Chain, fold-PostStep, fold-roll-PostStep, map-PostStep, ind-PostStep, fold-Primary, fold-roll-Primary, map-Primary, ind-Primary, fold-Unary, fold-roll-Unary, map-Unary, ind-Unary, fold-ChainStep, fold-roll-ChainStep, map-ChainStep, ind-ChainStep, fold-Choice, fold-roll-Choice, map-Choice, ind-Choice, fold-CommaStep, fold-roll-CommaStep, map-CommaStep, ind-CommaStep, fold-Cond, fold-roll-Cond, map-Cond, ind-Cond, fold-Expr, fold-roll-Expr, map-Expr, ind-Expr, fold-Post, fold-roll-Post, map-Post, ind-Post}
use Rattle.clc_types.specs.declared.forms.Named.{Named}
use Rattle.clc_types.specs.declared.forms.Form.{Form}
use Rattle.clc_types.specs.Judged.{Part}
use Rattle.clc_types.specs.Words.{mark_of}
use Rattle.clc_types.specs.Typing.{Suffix, Operand, Choices, Series, judge, judge_assign, assign_part, cast_part, chain_part, post_step_part, primary_part, unary_part, chain_step_part, choice_part, comma_step_part, cond_part, expr_part, post_part}
use Rattle.clc_types.specs.InternalScope.{Known}
use Rattle.clc_types.specs.InternalWalk.{Walk, WalkSuffix, WalkOperand, WalkChoices, WalkSeries, walk_expr, assign_walk, cast_walk, chain_walk, post_step_walk, primary_walk, unary_walk, chain_step_walk, choice_walk, comma_step_walk, cond_walk, expr_walk, post_walk, walk_assign, walk_cast, walk_chain, walk_post_step, walk_primary, walk_unary, walk_chain_step, walk_choice, walk_comma_step, walk_cond, series_of, walk_post}
use Rattle.clc_walk_exact.proofs.Agree.{Good}
use Rattle.clc_walk_exact.proofs.Parts.{GoodOperand, GoodOperands, GoodAll, GoodSeries, GoodSuffix, GoodSuffixes, GoodChoices, GoodOption, GoodOptionSeries, number_good, name_good, paren_good, step_good, prefix_good, cast_good, assign_good, chain_good, series_good, suffixes_good, conditional_good, call_good}

abbrev pub j_assign : Assign → Part Form
j_assign = fold-Assign (Part Form) (Part Form) (Part Form) Suffix (Part Form) (Part Form) Operand Choices (Part Form) (Part Form) Series (Part Form) assign_part cast_part chain_part post_step_part primary_part unary_part chain_step_part choice_part comma_step_part cond_part expr_part post_part

abbrev pub j_cast : Cast → Part Form
j_cast = fold-Cast (Part Form) (Part Form) (Part Form) Suffix (Part Form) (Part Form) Operand Choices (Part Form) (Part Form) Series (Part Form) assign_part cast_part chain_part post_step_part primary_part unary_part chain_step_part choice_part comma_step_part cond_part expr_part post_part

abbrev pub j_chain : Chain → Part Form
j_chain = fold-Chain (Part Form) (Part Form) (Part Form) Suffix (Part Form) (Part Form) Operand Choices (Part Form) (Part Form) Series (Part Form) assign_part cast_part chain_part post_step_part primary_part unary_part chain_step_part choice_part comma_step_part cond_part expr_part post_part

abbrev pub j_post_step : PostStep → Suffix
j_post_step = fold-PostStep (Part Form) (Part Form) (Part Form) Suffix (Part Form) (Part Form) Operand Choices (Part Form) (Part Form) Series (Part Form) assign_part cast_part chain_part post_step_part primary_part unary_part chain_step_part choice_part comma_step_part cond_part expr_part post_part

abbrev pub j_primary : Primary → Part Form
j_primary = fold-Primary (Part Form) (Part Form) (Part Form) Suffix (Part Form) (Part Form) Operand Choices (Part Form) (Part Form) Series (Part Form) assign_part cast_part chain_part post_step_part primary_part unary_part chain_step_part choice_part comma_step_part cond_part expr_part post_part

abbrev pub j_unary : Unary → Part Form
j_unary = fold-Unary (Part Form) (Part Form) (Part Form) Suffix (Part Form) (Part Form) Operand Choices (Part Form) (Part Form) Series (Part Form) assign_part cast_part chain_part post_step_part primary_part unary_part chain_step_part choice_part comma_step_part cond_part expr_part post_part

abbrev pub j_chain_step : ChainStep → Operand
j_chain_step = fold-ChainStep (Part Form) (Part Form) (Part Form) Suffix (Part Form) (Part Form) Operand Choices (Part Form) (Part Form) Series (Part Form) assign_part cast_part chain_part post_step_part primary_part unary_part chain_step_part choice_part comma_step_part cond_part expr_part post_part

abbrev pub j_choice : Choice → Choices
j_choice = fold-Choice (Part Form) (Part Form) (Part Form) Suffix (Part Form) (Part Form) Operand Choices (Part Form) (Part Form) Series (Part Form) assign_part cast_part chain_part post_step_part primary_part unary_part chain_step_part choice_part comma_step_part cond_part expr_part post_part

abbrev pub j_comma_step : CommaStep → Part Form
j_comma_step = fold-CommaStep (Part Form) (Part Form) (Part Form) Suffix (Part Form) (Part Form) Operand Choices (Part Form) (Part Form) Series (Part Form) assign_part cast_part chain_part post_step_part primary_part unary_part chain_step_part choice_part comma_step_part cond_part expr_part post_part

abbrev pub j_cond : Cond → Part Form
j_cond = fold-Cond (Part Form) (Part Form) (Part Form) Suffix (Part Form) (Part Form) Operand Choices (Part Form) (Part Form) Series (Part Form) assign_part cast_part chain_part post_step_part primary_part unary_part chain_step_part choice_part comma_step_part cond_part expr_part post_part

abbrev pub j_expr : Expr → Series
j_expr = fold-Expr (Part Form) (Part Form) (Part Form) Suffix (Part Form) (Part Form) Operand Choices (Part Form) (Part Form) Series (Part Form) assign_part cast_part chain_part post_step_part primary_part unary_part chain_step_part choice_part comma_step_part cond_part expr_part post_part

abbrev pub j_post : Post → Part Form
j_post = fold-Post (Part Form) (Part Form) (Part Form) Suffix (Part Form) (Part Form) Operand Choices (Part Form) (Part Form) Series (Part Form) assign_part cast_part chain_part post_step_part primary_part unary_part chain_step_part choice_part comma_step_part cond_part expr_part post_part

module _ (look : ℕ → List ℕ → Option Named) (k : Known) where
  abbrev PAssign : Assign → Type 0
  PAssign e = Good look k (j_assign e) (walk_assign k e)

  abbrev SubAssign : Type 0
  SubAssign = (e : Assign) × PAssign e

  abbrev PCast : Cast → Type 0
  PCast e = Good look k (j_cast e) (walk_cast k e)

  abbrev SubCast : Type 0
  SubCast = (e : Cast) × PCast e

  abbrev PChain : Chain → Type 0
  PChain e = Good look k (j_chain e) (walk_chain k e)

  abbrev SubChain : Type 0
  SubChain = (e : Chain) × PChain e

  abbrev PPostStep : PostStep → Type 0
  PPostStep e = GoodSuffix look k (j_post_step e) (walk_post_step k e)

  abbrev SubPostStep : Type 0
  SubPostStep = (e : PostStep) × PPostStep e

  abbrev PPrimary : Primary → Type 0
  PPrimary e = Good look k (j_primary e) (walk_primary k e)

  abbrev SubPrimary : Type 0
  SubPrimary = (e : Primary) × PPrimary e

  abbrev PUnary : Unary → Type 0
  PUnary e = Good look k (j_unary e) (walk_unary k e)

  abbrev SubUnary : Type 0
  SubUnary = (e : Unary) × PUnary e

  abbrev PChainStep : ChainStep → Type 0
  PChainStep e = GoodOperand look k (j_chain_step e) (walk_chain_step k e)

  abbrev SubChainStep : Type 0
  SubChainStep = (e : ChainStep) × PChainStep e

  abbrev PChoice : Choice → Type 0
  PChoice e = GoodChoices look k (j_choice e) (walk_choice k e)

  abbrev SubChoice : Type 0
  SubChoice = (e : Choice) × PChoice e

  abbrev PCommaStep : CommaStep → Type 0
  PCommaStep e = Good look k (j_comma_step e) (walk_comma_step k e)

  abbrev SubCommaStep : Type 0
  SubCommaStep = (e : CommaStep) × PCommaStep e

  abbrev PCond : Cond → Type 0
  PCond e = Good look k (j_cond e) (walk_cond k e)

  abbrev SubCond : Type 0
  SubCond = (e : Cond) × PCond e

  abbrev PExpr : Expr → Type 0
  PExpr e = GoodSeries look k (j_expr e) (series_of k e)

  abbrev SubExpr : Type 0
  SubExpr = (e : Expr) × PExpr e

  abbrev PPost : Post → Type 0
  PPost e = Good look k (j_post e) (walk_post k e)

  abbrev SubPost : Type 0
  SubPost = (e : Post) × PPost e

  rolled_assign : (x : Assign-F Assign Cast Chain PostStep Primary Unary ChainStep Choice CommaStep Cond Expr Post) → Good look k (assign_part (map-Assign _ _ _ _ _ _ _ _ _ _ _ _ _ _ _ _ _ _ _ _ _ _ _ _ j_assign j_cast j_chain j_post_step j_primary j_unary j_chain_step j_choice j_comma_step j_cond j_expr j_post x)) (assign_walk k (map-Assign _ _ _ _ _ _ _ _ _ _ _ _ _ _ _ _ _ _ _ _ _ _ _ _ (walk_assign k) (walk_cast k) (walk_chain k) (walk_post_step k) (walk_primary k) (walk_unary k) (walk_chain_step k) (walk_choice k) (walk_comma_step k) (walk_cond k) (series_of k) (walk_post k) x)) → PAssign (roll-Assign x)
  rolled_assign x g =
      subst (λ z. Good look k z (walk_assign k (roll-Assign x))) (sym (fold-roll-Assign (Part Form) (Part Form) (Part Form) Suffix (Part Form) (Part Form) Operand Choices (Part Form) (Part Form) Series (Part Form) assign_part cast_part chain_part post_step_part primary_part unary_part chain_step_part choice_part comma_step_part cond_part expr_part post_part x))
      (subst (λ z. Good look k (assign_part (map-Assign _ _ _ _ _ _ _ _ _ _ _ _ _ _ _ _ _ _ _ _ _ _ _ _ j_assign j_cast j_chain j_post_step j_primary j_unary j_chain_step j_choice j_comma_step j_cond j_expr j_post x)) z) (sym (fold-roll-Assign (Walk Form) (Walk Form) (Walk Form) WalkSuffix (Walk Form) (Walk Form) WalkOperand WalkChoices (Walk Form) (Walk Form) WalkSeries (Walk Form) (assign_walk k) (cast_walk k) (chain_walk k) (post_step_walk k) (primary_walk k) (unary_walk k) (chain_step_walk k) (choice_walk k) (comma_step_walk k) (cond_walk k) (expr_walk k) (post_walk k) x)) g)

  rolled_cast : (x : Cast-F Assign Cast Chain PostStep Primary Unary ChainStep Choice CommaStep Cond Expr Post) → Good look k (cast_part (map-Cast _ _ _ _ _ _ _ _ _ _ _ _ _ _ _ _ _ _ _ _ _ _ _ _ j_assign j_cast j_chain j_post_step j_primary j_unary j_chain_step j_choice j_comma_step j_cond j_expr j_post x)) (cast_walk k (map-Cast _ _ _ _ _ _ _ _ _ _ _ _ _ _ _ _ _ _ _ _ _ _ _ _ (walk_assign k) (walk_cast k) (walk_chain k) (walk_post_step k) (walk_primary k) (walk_unary k) (walk_chain_step k) (walk_choice k) (walk_comma_step k) (walk_cond k) (series_of k) (walk_post k) x)) → PCast (roll-Cast x)
  rolled_cast x g =
      subst (λ z. Good look k z (walk_cast k (roll-Cast x))) (sym (fold-roll-Cast (Part Form) (Part Form) (Part Form) Suffix (Part Form) (Part Form) Operand Choices (Part Form) (Part Form) Series (Part Form) assign_part cast_part chain_part post_step_part primary_part unary_part chain_step_part choice_part comma_step_part cond_part expr_part post_part x))
      (subst (λ z. Good look k (cast_part (map-Cast _ _ _ _ _ _ _ _ _ _ _ _ _ _ _ _ _ _ _ _ _ _ _ _ j_assign j_cast j_chain j_post_step j_primary j_unary j_chain_step j_choice j_comma_step j_cond j_expr j_post x)) z) (sym (fold-roll-Cast (Walk Form) (Walk Form) (Walk Form) WalkSuffix (Walk Form) (Walk Form) WalkOperand WalkChoices (Walk Form) (Walk Form) WalkSeries (Walk Form) (assign_walk k) (cast_walk k) (chain_walk k) (post_step_walk k) (primary_walk k) (unary_walk k) (chain_step_walk k) (choice_walk k) (comma_step_walk k) (cond_walk k) (expr_walk k) (post_walk k) x)) g)

  rolled_chain : (x : Chain-F Assign Cast Chain PostStep Primary Unary ChainStep Choice CommaStep Cond Expr Post) → Good look k (chain_part (map-Chain _ _ _ _ _ _ _ _ _ _ _ _ _ _ _ _ _ _ _ _ _ _ _ _ j_assign j_cast j_chain j_post_step j_primary j_unary j_chain_step j_choice j_comma_step j_cond j_expr j_post x)) (chain_walk k (map-Chain _ _ _ _ _ _ _ _ _ _ _ _ _ _ _ _ _ _ _ _ _ _ _ _ (walk_assign k) (walk_cast k) (walk_chain k) (walk_post_step k) (walk_primary k) (walk_unary k) (walk_chain_step k) (walk_choice k) (walk_comma_step k) (walk_cond k) (series_of k) (walk_post k) x)) → PChain (roll-Chain x)
  rolled_chain x g =
      subst (λ z. Good look k z (walk_chain k (roll-Chain x))) (sym (fold-roll-Chain (Part Form) (Part Form) (Part Form) Suffix (Part Form) (Part Form) Operand Choices (Part Form) (Part Form) Series (Part Form) assign_part cast_part chain_part post_step_part primary_part unary_part chain_step_part choice_part comma_step_part cond_part expr_part post_part x))
      (subst (λ z. Good look k (chain_part (map-Chain _ _ _ _ _ _ _ _ _ _ _ _ _ _ _ _ _ _ _ _ _ _ _ _ j_assign j_cast j_chain j_post_step j_primary j_unary j_chain_step j_choice j_comma_step j_cond j_expr j_post x)) z) (sym (fold-roll-Chain (Walk Form) (Walk Form) (Walk Form) WalkSuffix (Walk Form) (Walk Form) WalkOperand WalkChoices (Walk Form) (Walk Form) WalkSeries (Walk Form) (assign_walk k) (cast_walk k) (chain_walk k) (post_step_walk k) (primary_walk k) (unary_walk k) (chain_step_walk k) (choice_walk k) (comma_step_walk k) (cond_walk k) (expr_walk k) (post_walk k) x)) g)

  rolled_post_step : (x : PostStep-F Assign Cast Chain PostStep Primary Unary ChainStep Choice CommaStep Cond Expr Post) → GoodSuffix look k (post_step_part (map-PostStep _ _ _ _ _ _ _ _ _ _ _ _ _ _ _ _ _ _ _ _ _ _ _ _ j_assign j_cast j_chain j_post_step j_primary j_unary j_chain_step j_choice j_comma_step j_cond j_expr j_post x)) (post_step_walk k (map-PostStep _ _ _ _ _ _ _ _ _ _ _ _ _ _ _ _ _ _ _ _ _ _ _ _ (walk_assign k) (walk_cast k) (walk_chain k) (walk_post_step k) (walk_primary k) (walk_unary k) (walk_chain_step k) (walk_choice k) (walk_comma_step k) (walk_cond k) (series_of k) (walk_post k) x)) → PPostStep (roll-PostStep x)
  rolled_post_step x g =
      subst (λ z. GoodSuffix look k z (walk_post_step k (roll-PostStep x))) (sym (fold-roll-PostStep (Part Form) (Part Form) (Part Form) Suffix (Part Form) (Part Form) Operand Choices (Part Form) (Part Form) Series (Part Form) assign_part cast_part chain_part post_step_part primary_part unary_part chain_step_part choice_part comma_step_part cond_part expr_part post_part x))
      (subst (λ z. GoodSuffix look k (post_step_part (map-PostStep _ _ _ _ _ _ _ _ _ _ _ _ _ _ _ _ _ _ _ _ _ _ _ _ j_assign j_cast j_chain j_post_step j_primary j_unary j_chain_step j_choice j_comma_step j_cond j_expr j_post x)) z) (sym (fold-roll-PostStep (Walk Form) (Walk Form) (Walk Form) WalkSuffix (Walk Form) (Walk Form) WalkOperand WalkChoices (Walk Form) (Walk Form) WalkSeries (Walk Form) (assign_walk k) (cast_walk k) (chain_walk k) (post_step_walk k) (primary_walk k) (unary_walk k) (chain_step_walk k) (choice_walk k) (comma_step_walk k) (cond_walk k) (expr_walk k) (post_walk k) x)) g)

  rolled_primary : (x : Primary-F Assign Cast Chain PostStep Primary Unary ChainStep Choice CommaStep Cond Expr Post) → Good look k (primary_part (map-Primary _ _ _ _ _ _ _ _ _ _ _ _ _ _ _ _ _ _ _ _ _ _ _ _ j_assign j_cast j_chain j_post_step j_primary j_unary j_chain_step j_choice j_comma_step j_cond j_expr j_post x)) (primary_walk k (map-Primary _ _ _ _ _ _ _ _ _ _ _ _ _ _ _ _ _ _ _ _ _ _ _ _ (walk_assign k) (walk_cast k) (walk_chain k) (walk_post_step k) (walk_primary k) (walk_unary k) (walk_chain_step k) (walk_choice k) (walk_comma_step k) (walk_cond k) (series_of k) (walk_post k) x)) → PPrimary (roll-Primary x)
  rolled_primary x g =
      subst (λ z. Good look k z (walk_primary k (roll-Primary x))) (sym (fold-roll-Primary (Part Form) (Part Form) (Part Form) Suffix (Part Form) (Part Form) Operand Choices (Part Form) (Part Form) Series (Part Form) assign_part cast_part chain_part post_step_part primary_part unary_part chain_step_part choice_part comma_step_part cond_part expr_part post_part x))
      (subst (λ z. Good look k (primary_part (map-Primary _ _ _ _ _ _ _ _ _ _ _ _ _ _ _ _ _ _ _ _ _ _ _ _ j_assign j_cast j_chain j_post_step j_primary j_unary j_chain_step j_choice j_comma_step j_cond j_expr j_post x)) z) (sym (fold-roll-Primary (Walk Form) (Walk Form) (Walk Form) WalkSuffix (Walk Form) (Walk Form) WalkOperand WalkChoices (Walk Form) (Walk Form) WalkSeries (Walk Form) (assign_walk k) (cast_walk k) (chain_walk k) (post_step_walk k) (primary_walk k) (unary_walk k) (chain_step_walk k) (choice_walk k) (comma_step_walk k) (cond_walk k) (expr_walk k) (post_walk k) x)) g)

  rolled_unary : (x : Unary-F Assign Cast Chain PostStep Primary Unary ChainStep Choice CommaStep Cond Expr Post) → Good look k (unary_part (map-Unary _ _ _ _ _ _ _ _ _ _ _ _ _ _ _ _ _ _ _ _ _ _ _ _ j_assign j_cast j_chain j_post_step j_primary j_unary j_chain_step j_choice j_comma_step j_cond j_expr j_post x)) (unary_walk k (map-Unary _ _ _ _ _ _ _ _ _ _ _ _ _ _ _ _ _ _ _ _ _ _ _ _ (walk_assign k) (walk_cast k) (walk_chain k) (walk_post_step k) (walk_primary k) (walk_unary k) (walk_chain_step k) (walk_choice k) (walk_comma_step k) (walk_cond k) (series_of k) (walk_post k) x)) → PUnary (roll-Unary x)
  rolled_unary x g =
      subst (λ z. Good look k z (walk_unary k (roll-Unary x))) (sym (fold-roll-Unary (Part Form) (Part Form) (Part Form) Suffix (Part Form) (Part Form) Operand Choices (Part Form) (Part Form) Series (Part Form) assign_part cast_part chain_part post_step_part primary_part unary_part chain_step_part choice_part comma_step_part cond_part expr_part post_part x))
      (subst (λ z. Good look k (unary_part (map-Unary _ _ _ _ _ _ _ _ _ _ _ _ _ _ _ _ _ _ _ _ _ _ _ _ j_assign j_cast j_chain j_post_step j_primary j_unary j_chain_step j_choice j_comma_step j_cond j_expr j_post x)) z) (sym (fold-roll-Unary (Walk Form) (Walk Form) (Walk Form) WalkSuffix (Walk Form) (Walk Form) WalkOperand WalkChoices (Walk Form) (Walk Form) WalkSeries (Walk Form) (assign_walk k) (cast_walk k) (chain_walk k) (post_step_walk k) (primary_walk k) (unary_walk k) (chain_step_walk k) (choice_walk k) (comma_step_walk k) (cond_walk k) (expr_walk k) (post_walk k) x)) g)

  rolled_chain_step : (x : ChainStep-F Assign Cast Chain PostStep Primary Unary ChainStep Choice CommaStep Cond Expr Post) → GoodOperand look k (chain_step_part (map-ChainStep _ _ _ _ _ _ _ _ _ _ _ _ _ _ _ _ _ _ _ _ _ _ _ _ j_assign j_cast j_chain j_post_step j_primary j_unary j_chain_step j_choice j_comma_step j_cond j_expr j_post x)) (chain_step_walk k (map-ChainStep _ _ _ _ _ _ _ _ _ _ _ _ _ _ _ _ _ _ _ _ _ _ _ _ (walk_assign k) (walk_cast k) (walk_chain k) (walk_post_step k) (walk_primary k) (walk_unary k) (walk_chain_step k) (walk_choice k) (walk_comma_step k) (walk_cond k) (series_of k) (walk_post k) x)) → PChainStep (roll-ChainStep x)
  rolled_chain_step x g =
      subst (λ z. GoodOperand look k z (walk_chain_step k (roll-ChainStep x))) (sym (fold-roll-ChainStep (Part Form) (Part Form) (Part Form) Suffix (Part Form) (Part Form) Operand Choices (Part Form) (Part Form) Series (Part Form) assign_part cast_part chain_part post_step_part primary_part unary_part chain_step_part choice_part comma_step_part cond_part expr_part post_part x))
      (subst (λ z. GoodOperand look k (chain_step_part (map-ChainStep _ _ _ _ _ _ _ _ _ _ _ _ _ _ _ _ _ _ _ _ _ _ _ _ j_assign j_cast j_chain j_post_step j_primary j_unary j_chain_step j_choice j_comma_step j_cond j_expr j_post x)) z) (sym (fold-roll-ChainStep (Walk Form) (Walk Form) (Walk Form) WalkSuffix (Walk Form) (Walk Form) WalkOperand WalkChoices (Walk Form) (Walk Form) WalkSeries (Walk Form) (assign_walk k) (cast_walk k) (chain_walk k) (post_step_walk k) (primary_walk k) (unary_walk k) (chain_step_walk k) (choice_walk k) (comma_step_walk k) (cond_walk k) (expr_walk k) (post_walk k) x)) g)

  rolled_choice : (x : Choice-F Assign Cast Chain PostStep Primary Unary ChainStep Choice CommaStep Cond Expr Post) → GoodChoices look k (choice_part (map-Choice _ _ _ _ _ _ _ _ _ _ _ _ _ _ _ _ _ _ _ _ _ _ _ _ j_assign j_cast j_chain j_post_step j_primary j_unary j_chain_step j_choice j_comma_step j_cond j_expr j_post x)) (choice_walk k (map-Choice _ _ _ _ _ _ _ _ _ _ _ _ _ _ _ _ _ _ _ _ _ _ _ _ (walk_assign k) (walk_cast k) (walk_chain k) (walk_post_step k) (walk_primary k) (walk_unary k) (walk_chain_step k) (walk_choice k) (walk_comma_step k) (walk_cond k) (series_of k) (walk_post k) x)) → PChoice (roll-Choice x)
  rolled_choice x g =
      subst (λ z. GoodChoices look k z (walk_choice k (roll-Choice x))) (sym (fold-roll-Choice (Part Form) (Part Form) (Part Form) Suffix (Part Form) (Part Form) Operand Choices (Part Form) (Part Form) Series (Part Form) assign_part cast_part chain_part post_step_part primary_part unary_part chain_step_part choice_part comma_step_part cond_part expr_part post_part x))
      (subst (λ z. GoodChoices look k (choice_part (map-Choice _ _ _ _ _ _ _ _ _ _ _ _ _ _ _ _ _ _ _ _ _ _ _ _ j_assign j_cast j_chain j_post_step j_primary j_unary j_chain_step j_choice j_comma_step j_cond j_expr j_post x)) z) (sym (fold-roll-Choice (Walk Form) (Walk Form) (Walk Form) WalkSuffix (Walk Form) (Walk Form) WalkOperand WalkChoices (Walk Form) (Walk Form) WalkSeries (Walk Form) (assign_walk k) (cast_walk k) (chain_walk k) (post_step_walk k) (primary_walk k) (unary_walk k) (chain_step_walk k) (choice_walk k) (comma_step_walk k) (cond_walk k) (expr_walk k) (post_walk k) x)) g)

  rolled_comma_step : (x : CommaStep-F Assign Cast Chain PostStep Primary Unary ChainStep Choice CommaStep Cond Expr Post) → Good look k (comma_step_part (map-CommaStep _ _ _ _ _ _ _ _ _ _ _ _ _ _ _ _ _ _ _ _ _ _ _ _ j_assign j_cast j_chain j_post_step j_primary j_unary j_chain_step j_choice j_comma_step j_cond j_expr j_post x)) (comma_step_walk k (map-CommaStep _ _ _ _ _ _ _ _ _ _ _ _ _ _ _ _ _ _ _ _ _ _ _ _ (walk_assign k) (walk_cast k) (walk_chain k) (walk_post_step k) (walk_primary k) (walk_unary k) (walk_chain_step k) (walk_choice k) (walk_comma_step k) (walk_cond k) (series_of k) (walk_post k) x)) → PCommaStep (roll-CommaStep x)
  rolled_comma_step x g =
      subst (λ z. Good look k z (walk_comma_step k (roll-CommaStep x))) (sym (fold-roll-CommaStep (Part Form) (Part Form) (Part Form) Suffix (Part Form) (Part Form) Operand Choices (Part Form) (Part Form) Series (Part Form) assign_part cast_part chain_part post_step_part primary_part unary_part chain_step_part choice_part comma_step_part cond_part expr_part post_part x))
      (subst (λ z. Good look k (comma_step_part (map-CommaStep _ _ _ _ _ _ _ _ _ _ _ _ _ _ _ _ _ _ _ _ _ _ _ _ j_assign j_cast j_chain j_post_step j_primary j_unary j_chain_step j_choice j_comma_step j_cond j_expr j_post x)) z) (sym (fold-roll-CommaStep (Walk Form) (Walk Form) (Walk Form) WalkSuffix (Walk Form) (Walk Form) WalkOperand WalkChoices (Walk Form) (Walk Form) WalkSeries (Walk Form) (assign_walk k) (cast_walk k) (chain_walk k) (post_step_walk k) (primary_walk k) (unary_walk k) (chain_step_walk k) (choice_walk k) (comma_step_walk k) (cond_walk k) (expr_walk k) (post_walk k) x)) g)

  rolled_cond : (x : Cond-F Assign Cast Chain PostStep Primary Unary ChainStep Choice CommaStep Cond Expr Post) → Good look k (cond_part (map-Cond _ _ _ _ _ _ _ _ _ _ _ _ _ _ _ _ _ _ _ _ _ _ _ _ j_assign j_cast j_chain j_post_step j_primary j_unary j_chain_step j_choice j_comma_step j_cond j_expr j_post x)) (cond_walk k (map-Cond _ _ _ _ _ _ _ _ _ _ _ _ _ _ _ _ _ _ _ _ _ _ _ _ (walk_assign k) (walk_cast k) (walk_chain k) (walk_post_step k) (walk_primary k) (walk_unary k) (walk_chain_step k) (walk_choice k) (walk_comma_step k) (walk_cond k) (series_of k) (walk_post k) x)) → PCond (roll-Cond x)
  rolled_cond x g =
      subst (λ z. Good look k z (walk_cond k (roll-Cond x))) (sym (fold-roll-Cond (Part Form) (Part Form) (Part Form) Suffix (Part Form) (Part Form) Operand Choices (Part Form) (Part Form) Series (Part Form) assign_part cast_part chain_part post_step_part primary_part unary_part chain_step_part choice_part comma_step_part cond_part expr_part post_part x))
      (subst (λ z. Good look k (cond_part (map-Cond _ _ _ _ _ _ _ _ _ _ _ _ _ _ _ _ _ _ _ _ _ _ _ _ j_assign j_cast j_chain j_post_step j_primary j_unary j_chain_step j_choice j_comma_step j_cond j_expr j_post x)) z) (sym (fold-roll-Cond (Walk Form) (Walk Form) (Walk Form) WalkSuffix (Walk Form) (Walk Form) WalkOperand WalkChoices (Walk Form) (Walk Form) WalkSeries (Walk Form) (assign_walk k) (cast_walk k) (chain_walk k) (post_step_walk k) (primary_walk k) (unary_walk k) (chain_step_walk k) (choice_walk k) (comma_step_walk k) (cond_walk k) (expr_walk k) (post_walk k) x)) g)

  rolled_expr : (x : Expr-F Assign Cast Chain PostStep Primary Unary ChainStep Choice CommaStep Cond Expr Post) → GoodSeries look k (expr_part (map-Expr _ _ _ _ _ _ _ _ _ _ _ _ _ _ _ _ _ _ _ _ _ _ _ _ j_assign j_cast j_chain j_post_step j_primary j_unary j_chain_step j_choice j_comma_step j_cond j_expr j_post x)) (expr_walk k (map-Expr _ _ _ _ _ _ _ _ _ _ _ _ _ _ _ _ _ _ _ _ _ _ _ _ (walk_assign k) (walk_cast k) (walk_chain k) (walk_post_step k) (walk_primary k) (walk_unary k) (walk_chain_step k) (walk_choice k) (walk_comma_step k) (walk_cond k) (series_of k) (walk_post k) x)) → PExpr (roll-Expr x)
  rolled_expr x g =
      subst (λ z. GoodSeries look k z (series_of k (roll-Expr x))) (sym (fold-roll-Expr (Part Form) (Part Form) (Part Form) Suffix (Part Form) (Part Form) Operand Choices (Part Form) (Part Form) Series (Part Form) assign_part cast_part chain_part post_step_part primary_part unary_part chain_step_part choice_part comma_step_part cond_part expr_part post_part x))
      (subst (λ z. GoodSeries look k (expr_part (map-Expr _ _ _ _ _ _ _ _ _ _ _ _ _ _ _ _ _ _ _ _ _ _ _ _ j_assign j_cast j_chain j_post_step j_primary j_unary j_chain_step j_choice j_comma_step j_cond j_expr j_post x)) z) (sym (fold-roll-Expr (Walk Form) (Walk Form) (Walk Form) WalkSuffix (Walk Form) (Walk Form) WalkOperand WalkChoices (Walk Form) (Walk Form) WalkSeries (Walk Form) (assign_walk k) (cast_walk k) (chain_walk k) (post_step_walk k) (primary_walk k) (unary_walk k) (chain_step_walk k) (choice_walk k) (comma_step_walk k) (cond_walk k) (expr_walk k) (post_walk k) x)) g)

  rolled_post : (x : Post-F Assign Cast Chain PostStep Primary Unary ChainStep Choice CommaStep Cond Expr Post) → Good look k (post_part (map-Post _ _ _ _ _ _ _ _ _ _ _ _ _ _ _ _ _ _ _ _ _ _ _ _ j_assign j_cast j_chain j_post_step j_primary j_unary j_chain_step j_choice j_comma_step j_cond j_expr j_post x)) (post_walk k (map-Post _ _ _ _ _ _ _ _ _ _ _ _ _ _ _ _ _ _ _ _ _ _ _ _ (walk_assign k) (walk_cast k) (walk_chain k) (walk_post_step k) (walk_primary k) (walk_unary k) (walk_chain_step k) (walk_choice k) (walk_comma_step k) (walk_cond k) (series_of k) (walk_post k) x)) → PPost (roll-Post x)
  rolled_post x g =
      subst (λ z. Good look k z (walk_post k (roll-Post x))) (sym (fold-roll-Post (Part Form) (Part Form) (Part Form) Suffix (Part Form) (Part Form) Operand Choices (Part Form) (Part Form) Series (Part Form) assign_part cast_part chain_part post_step_part primary_part unary_part chain_step_part choice_part comma_step_part cond_part expr_part post_part x))
      (subst (λ z. Good look k (post_part (map-Post _ _ _ _ _ _ _ _ _ _ _ _ _ _ _ _ _ _ _ _ _ _ _ _ j_assign j_cast j_chain j_post_step j_primary j_unary j_chain_step j_choice j_comma_step j_cond j_expr j_post x)) z) (sym (fold-roll-Post (Walk Form) (Walk Form) (Walk Form) WalkSuffix (Walk Form) (Walk Form) WalkOperand WalkChoices (Walk Form) (Walk Form) WalkSeries (Walk Form) (assign_walk k) (cast_walk k) (chain_walk k) (post_step_walk k) (primary_walk k) (unary_walk k) (chain_step_walk k) (choice_walk k) (comma_step_walk k) (cond_walk k) (expr_walk k) (post_walk k) x)) g)

  operands_good : (xs : List SubChainStep) → GoodOperands look k (map j_chain_step (map (λ e. e.0) xs)) (map (walk_chain_step k) (map (λ e. e.0) xs))
  operands_good [] = tt
  operands_good (x ∷ xs) = (x.1, operands_good xs)

  suffix_list : (xs : List SubPostStep) → GoodSuffixes look k (map j_post_step (map (λ e. e.0) xs)) (map (walk_post_step k) (map (λ e. e.0) xs))
  suffix_list [] = tt
  suffix_list (x ∷ xs) = (x.1, suffix_list xs)

  all_good : (xs : List SubCommaStep) → GoodAll look k (map j_comma_step (map (λ e. e.0) xs)) (map (walk_comma_step k) (map (λ e. e.0) xs))
  all_good [] = tt
  all_good (x ∷ xs) = (x.1, all_good xs)

  cond_of : (t : SubChain) (x : Option SubChoice) → PCond (roll-Cond (map-Cond SubAssign SubCast SubChain SubPostStep SubPrimary SubUnary SubChainStep SubChoice SubCommaStep SubCond SubExpr SubPost Assign Cast Chain PostStep Primary Unary ChainStep Choice CommaStep Cond Expr Post (λ e. e.0) (λ e. e.0) (λ e. e.0) (λ e. e.0) (λ e. e.0) (λ e. e.0) (λ e. e.0) (λ e. e.0) (λ e. e.0) (λ e. e.0) (λ e. e.0) (λ e. e.0) (record { test = t; choice = x })))
  cond_of t None = rolled_cond (map-Cond SubAssign SubCast SubChain SubPostStep SubPrimary SubUnary SubChainStep SubChoice SubCommaStep SubCond SubExpr SubPost Assign Cast Chain PostStep Primary Unary ChainStep Choice CommaStep Cond Expr Post (λ e. e.0) (λ e. e.0) (λ e. e.0) (λ e. e.0) (λ e. e.0) (λ e. e.0) (λ e. e.0) (λ e. e.0) (λ e. e.0) (λ e. e.0) (λ e. e.0) (λ e. e.0) (record { test = t; choice = None })) t.1
  cond_of t (Some x) = rolled_cond (map-Cond SubAssign SubCast SubChain SubPostStep SubPrimary SubUnary SubChainStep SubChoice SubCommaStep SubCond SubExpr SubPost Assign Cast Chain PostStep Primary Unary ChainStep Choice CommaStep Cond Expr Post (λ e. e.0) (λ e. e.0) (λ e. e.0) (λ e. e.0) (λ e. e.0) (λ e. e.0) (λ e. e.0) (λ e. e.0) (λ e. e.0) (λ e. e.0) (λ e. e.0) (λ e. e.0) (record { test = t; choice = Some x })) (conditional_good look k _ _ (Some _) (Some _) t.1 x.1)

  node_assign : (y : Assign-F SubAssign SubCast SubChain SubPostStep SubPrimary SubUnary SubChainStep SubChoice SubCommaStep SubCond SubExpr SubPost) → PAssign (roll-Assign (map-Assign _ _ _ _ _ _ _ _ _ _ _ _ _ _ _ _ _ _ _ _ _ _ _ _ (λ e. e.0) (λ e. e.0) (λ e. e.0) (λ e. e.0) (λ e. e.0) (λ e. e.0) (λ e. e.0) (λ e. e.0) (λ e. e.0) (λ e. e.0) (λ e. e.0) (λ e. e.0) y))
  node_assign (o.Cond e) = rolled_assign (o.Cond e.0) e.1
  node_assign (o.Set u t a) = rolled_assign (o.Set u.0 t a.0) (assign_good look k (mark_of t) _ _ _ _ u.1 a.1)

  node_cast : (y : Cast-F SubAssign SubCast SubChain SubPostStep SubPrimary SubUnary SubChainStep SubChoice SubCommaStep SubCond SubExpr SubPost) → PCast (roll-Cast (map-Cast _ _ _ _ _ _ _ _ _ _ _ _ _ _ _ _ _ _ _ _ _ _ _ _ (λ e. e.0) (λ e. e.0) (λ e. e.0) (λ e. e.0) (λ e. e.0) (λ e. e.0) (λ e. e.0) (λ e. e.0) (λ e. e.0) (λ e. e.0) (λ e. e.0) (λ e. e.0) y))
  node_cast (o.To l s r e) = rolled_cast (o.To l s r e.0) (cast_good look k l s _ _ e.1)
  node_cast (o.Of e) = rolled_cast (o.Of e.0) e.1

  node_chain : (y : Chain-F SubAssign SubCast SubChain SubPostStep SubPrimary SubUnary SubChainStep SubChoice SubCommaStep SubCond SubExpr SubPost) → PChain (roll-Chain (map-Chain _ _ _ _ _ _ _ _ _ _ _ _ _ _ _ _ _ _ _ _ _ _ _ _ (λ e. e.0) (λ e. e.0) (λ e. e.0) (λ e. e.0) (λ e. e.0) (λ e. e.0) (λ e. e.0) (λ e. e.0) (λ e. e.0) (λ e. e.0) (λ e. e.0) (λ e. e.0) y))
  node_chain (o.One e) = rolled_chain (o.One e.0) e.1
  node_chain (o.Level e xs) = rolled_chain (o.Level e.0 (map (λ e. e.0) xs)) (chain_good look k _ _ _ _ e.1 (operands_good xs))

  node_post_step : (y : PostStep-F SubAssign SubCast SubChain SubPostStep SubPrimary SubUnary SubChainStep SubChoice SubCommaStep SubCond SubExpr SubPost) → PPostStep (roll-PostStep (map-PostStep _ _ _ _ _ _ _ _ _ _ _ _ _ _ _ _ _ _ _ _ _ _ _ _ (λ e. e.0) (λ e. e.0) (λ e. e.0) (λ e. e.0) (λ e. e.0) (λ e. e.0) (λ e. e.0) (λ e. e.0) (λ e. e.0) (λ e. e.0) (λ e. e.0) (λ e. e.0) y))
  node_post_step (o.Index l e r) = rolled_post_step (o.Index l e.0 r) (series_good look k _ _ e.1)
  node_post_step (o.PostStep::Step t) = rolled_post_step (o.PostStep::Step t) refl

  node_primary : (y : Primary-F SubAssign SubCast SubChain SubPostStep SubPrimary SubUnary SubChainStep SubChoice SubCommaStep SubCond SubExpr SubPost) → PPrimary (roll-Primary (map-Primary _ _ _ _ _ _ _ _ _ _ _ _ _ _ _ _ _ _ _ _ _ _ _ _ (λ e. e.0) (λ e. e.0) (λ e. e.0) (λ e. e.0) (λ e. e.0) (λ e. e.0) (λ e. e.0) (λ e. e.0) (λ e. e.0) (λ e. e.0) (λ e. e.0) (λ e. e.0) y))
  node_primary (o.Name t) = rolled_primary (o.Name t) (name_good look k t)
  node_primary (o.Number t) = rolled_primary (o.Number t) (number_good look k t)
  node_primary (o.Paren l e r) = rolled_primary (o.Paren l e.0 r) (paren_good look k l _ _ (series_good look k _ _ e.1))
  node_primary (o.Call f l None r) = rolled_primary (o.Call f l None r) (call_good look k f None None tt)
  node_primary (o.Call f l (Some e) r) = rolled_primary (o.Call f l (Some e.0) r) (call_good look k f (Some _) (Some _) e.1)

  node_unary : (y : Unary-F SubAssign SubCast SubChain SubPostStep SubPrimary SubUnary SubChainStep SubChoice SubCommaStep SubCond SubExpr SubPost) → PUnary (roll-Unary (map-Unary _ _ _ _ _ _ _ _ _ _ _ _ _ _ _ _ _ _ _ _ _ _ _ _ (λ e. e.0) (λ e. e.0) (λ e. e.0) (λ e. e.0) (λ e. e.0) (λ e. e.0) (λ e. e.0) (λ e. e.0) (λ e. e.0) (λ e. e.0) (λ e. e.0) (λ e. e.0) y))
  node_unary (o.Post e) = rolled_unary (o.Post e.0) e.1
  node_unary (o.Unary::Step t e) = rolled_unary (o.Unary::Step t e.0) (step_good look k t _ _ e.1)
  node_unary (o.Prefix t e) = rolled_unary (o.Prefix t e.0) (prefix_good look k t _ _ e.1)

  node_chain_step : (y : ChainStep-F SubAssign SubCast SubChain SubPostStep SubPrimary SubUnary SubChainStep SubChoice SubCommaStep SubCond SubExpr SubPost) → PChainStep (roll-ChainStep (map-ChainStep _ _ _ _ _ _ _ _ _ _ _ _ _ _ _ _ _ _ _ _ _ _ _ _ (λ e. e.0) (λ e. e.0) (λ e. e.0) (λ e. e.0) (λ e. e.0) (λ e. e.0) (λ e. e.0) (λ e. e.0) (λ e. e.0) (λ e. e.0) (λ e. e.0) (λ e. e.0) y))
  node_chain_step y = rolled_chain_step (map-ChainStep _ _ _ _ _ _ _ _ _ _ _ _ _ _ _ _ _ _ _ _ _ _ _ _ (λ e. e.0) (λ e. e.0) (λ e. e.0) (λ e. e.0) (λ e. e.0) (λ e. e.0) (λ e. e.0) (λ e. e.0) (λ e. e.0) (λ e. e.0) (λ e. e.0) (λ e. e.0) y) (record { mark = refl; value = y.operand.1 })

  node_choice : (y : Choice-F SubAssign SubCast SubChain SubPostStep SubPrimary SubUnary SubChainStep SubChoice SubCommaStep SubCond SubExpr SubPost) → PChoice (roll-Choice (map-Choice _ _ _ _ _ _ _ _ _ _ _ _ _ _ _ _ _ _ _ _ _ _ _ _ (λ e. e.0) (λ e. e.0) (λ e. e.0) (λ e. e.0) (λ e. e.0) (λ e. e.0) (λ e. e.0) (λ e. e.0) (λ e. e.0) (λ e. e.0) (λ e. e.0) (λ e. e.0) y))
  node_choice y = rolled_choice (map-Choice _ _ _ _ _ _ _ _ _ _ _ _ _ _ _ _ _ _ _ _ _ _ _ _ (λ e. e.0) (λ e. e.0) (λ e. e.0) (λ e. e.0) (λ e. e.0) (λ e. e.0) (λ e. e.0) (λ e. e.0) (λ e. e.0) (λ e. e.0) (λ e. e.0) (λ e. e.0) y) (record { yes = series_good look k _ _ y.yes.1; no = y.no.1 })

  node_comma_step : (y : CommaStep-F SubAssign SubCast SubChain SubPostStep SubPrimary SubUnary SubChainStep SubChoice SubCommaStep SubCond SubExpr SubPost) → PCommaStep (roll-CommaStep (map-CommaStep _ _ _ _ _ _ _ _ _ _ _ _ _ _ _ _ _ _ _ _ _ _ _ _ (λ e. e.0) (λ e. e.0) (λ e. e.0) (λ e. e.0) (λ e. e.0) (λ e. e.0) (λ e. e.0) (λ e. e.0) (λ e. e.0) (λ e. e.0) (λ e. e.0) (λ e. e.0) y))
  node_comma_step y = rolled_comma_step (map-CommaStep _ _ _ _ _ _ _ _ _ _ _ _ _ _ _ _ _ _ _ _ _ _ _ _ (λ e. e.0) (λ e. e.0) (λ e. e.0) (λ e. e.0) (λ e. e.0) (λ e. e.0) (λ e. e.0) (λ e. e.0) (λ e. e.0) (λ e. e.0) (λ e. e.0) (λ e. e.0) y) y.value.1

  node_cond : (y : Cond-F SubAssign SubCast SubChain SubPostStep SubPrimary SubUnary SubChainStep SubChoice SubCommaStep SubCond SubExpr SubPost) → PCond (roll-Cond (map-Cond _ _ _ _ _ _ _ _ _ _ _ _ _ _ _ _ _ _ _ _ _ _ _ _ (λ e. e.0) (λ e. e.0) (λ e. e.0) (λ e. e.0) (λ e. e.0) (λ e. e.0) (λ e. e.0) (λ e. e.0) (λ e. e.0) (λ e. e.0) (λ e. e.0) (λ e. e.0) y))
  node_cond y = cond_of y.test y.choice

  node_expr : (y : Expr-F SubAssign SubCast SubChain SubPostStep SubPrimary SubUnary SubChainStep SubChoice SubCommaStep SubCond SubExpr SubPost) → PExpr (roll-Expr (map-Expr _ _ _ _ _ _ _ _ _ _ _ _ _ _ _ _ _ _ _ _ _ _ _ _ (λ e. e.0) (λ e. e.0) (λ e. e.0) (λ e. e.0) (λ e. e.0) (λ e. e.0) (λ e. e.0) (λ e. e.0) (λ e. e.0) (λ e. e.0) (λ e. e.0) (λ e. e.0) y))
  node_expr y = rolled_expr (map-Expr _ _ _ _ _ _ _ _ _ _ _ _ _ _ _ _ _ _ _ _ _ _ _ _ (λ e. e.0) (λ e. e.0) (λ e. e.0) (λ e. e.0) (λ e. e.0) (λ e. e.0) (λ e. e.0) (λ e. e.0) (λ e. e.0) (λ e. e.0) (λ e. e.0) (λ e. e.0) y) (record { first = y.first.1; rest = all_good y.rest })

  node_post : (y : Post-F SubAssign SubCast SubChain SubPostStep SubPrimary SubUnary SubChainStep SubChoice SubCommaStep SubCond SubExpr SubPost) → PPost (roll-Post (map-Post _ _ _ _ _ _ _ _ _ _ _ _ _ _ _ _ _ _ _ _ _ _ _ _ (λ e. e.0) (λ e. e.0) (λ e. e.0) (λ e. e.0) (λ e. e.0) (λ e. e.0) (λ e. e.0) (λ e. e.0) (λ e. e.0) (λ e. e.0) (λ e. e.0) (λ e. e.0) y))
  node_post y = rolled_post (map-Post _ _ _ _ _ _ _ _ _ _ _ _ _ _ _ _ _ _ _ _ _ _ _ _ (λ e. e.0) (λ e. e.0) (λ e. e.0) (λ e. e.0) (λ e. e.0) (λ e. e.0) (λ e. e.0) (λ e. e.0) (λ e. e.0) (λ e. e.0) (λ e. e.0) (λ e. e.0) y) (suffixes_good look k _ _ _ _ y.primary.1 (suffix_list y.rest))

  pub agree_assign : (e : Assign) → Good look k (judge_assign e) (walk_assign k e)
  agree_assign = ind-Assign PAssign PCast PChain PPostStep PPrimary PUnary PChainStep PChoice PCommaStep PCond PExpr PPost (λ x y is. subst (λ z. PAssign (roll-Assign z)) is (node_assign y)) (λ x y is. subst (λ z. PCast (roll-Cast z)) is (node_cast y)) (λ x y is. subst (λ z. PChain (roll-Chain z)) is (node_chain y)) (λ x y is. subst (λ z. PPostStep (roll-PostStep z)) is (node_post_step y)) (λ x y is. subst (λ z. PPrimary (roll-Primary z)) is (node_primary y)) (λ x y is. subst (λ z. PUnary (roll-Unary z)) is (node_unary y)) (λ x y is. subst (λ z. PChainStep (roll-ChainStep z)) is (node_chain_step y)) (λ x y is. subst (λ z. PChoice (roll-Choice z)) is (node_choice y)) (λ x y is. subst (λ z. PCommaStep (roll-CommaStep z)) is (node_comma_step y)) (λ x y is. subst (λ z. PCond (roll-Cond z)) is (node_cond y)) (λ x y is. subst (λ z. PExpr (roll-Expr z)) is (node_expr y)) (λ x y is. subst (λ z. PPost (roll-Post z)) is (node_post y))

  agree_expr : (e : Expr) → PExpr e
  agree_expr = ind-Expr PAssign PCast PChain PPostStep PPrimary PUnary PChainStep PChoice PCommaStep PCond PExpr PPost (λ x y is. subst (λ z. PAssign (roll-Assign z)) is (node_assign y)) (λ x y is. subst (λ z. PCast (roll-Cast z)) is (node_cast y)) (λ x y is. subst (λ z. PChain (roll-Chain z)) is (node_chain y)) (λ x y is. subst (λ z. PPostStep (roll-PostStep z)) is (node_post_step y)) (λ x y is. subst (λ z. PPrimary (roll-Primary z)) is (node_primary y)) (λ x y is. subst (λ z. PUnary (roll-Unary z)) is (node_unary y)) (λ x y is. subst (λ z. PChainStep (roll-ChainStep z)) is (node_chain_step y)) (λ x y is. subst (λ z. PChoice (roll-Choice z)) is (node_choice y)) (λ x y is. subst (λ z. PCommaStep (roll-CommaStep z)) is (node_comma_step y)) (λ x y is. subst (λ z. PCond (roll-Cond z)) is (node_cond y)) (λ x y is. subst (λ z. PExpr (roll-Expr z)) is (node_expr y)) (λ x y is. subst (λ z. PPost (roll-Post z)) is (node_post y))

  pub agree : (e : Expr) → Good look k (judge e) (walk_expr k e)
  agree e = series_good look k _ _ (agree_expr e)
