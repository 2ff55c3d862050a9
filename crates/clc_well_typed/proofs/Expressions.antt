-- Each proper expression is given a well-typed form.
use Rattle.std.proofs.Common.{◌≡◌, ℕ, ◌<◌, ◌≤◌, true, eqb, List, ◌∷◌, Option, Some, None, refl, sym, subst, arith, lt-ltb, eqb-true}
use Rattle.std.specs.Prelude.{map, nat_lt}
use Rattle.std.proofs.lemmas.Bool.{or_left}
use Rattle.clc_lexer.specs.declared.token.Token.{Token}
use Rattle.clc_lexer.specs.declared.token.Tok.{Tok}
use Rattle.clc_lexer.specs.declared.token.Tok.TheVariants as tok
use Rattle.clc_reading.specs.Reading.{Spelling}
use Rattle.clc_tree.specs.Kinds.{class_of, class_rank, mark_rank, ranks, prefix, assignment, Mark}
use Rattle.clc_tree.specs.Expressions as g
use Rattle.clc_tree.specs.declared.expressions.Assign.{Assign}
use Rattle.clc_tree.specs.declared.expressions.Cast.{Cast}
use Rattle.clc_tree.specs.declared.expressions.Chain.{Chain}
use Rattle.clc_tree.specs.declared.expressions.PostStep.{PostStep}
use Rattle.clc_tree.specs.declared.expressions.Primary.{Primary}
use Rattle.clc_tree.specs.declared.expressions.Unary.{Unary}
use Rattle.clc_tree.specs.declared.expressions.ChainStep.{ChainStep}
use Rattle.clc_tree.specs.declared.expressions.CommaStep.{CommaStep}
use Rattle.clc_tree.specs.declared.expressions.Cond.{Cond}
use Rattle.clc_tree.specs.declared.expressions.Expr.{Expr}
use Rattle.clc_tree.specs.declared.expressions.Post.{Post}
use Rattle.q_lane.specs.declared.kinds.Scalar.{Scalar}
use Rattle.clc_types.specs.declared.typed.Var.{Var}
use Rattle.clc_types.specs.declared.typed.TFunction.{TFunction}
use Rattle.clc_types.specs.Words.{mark_in, mark_of}
use Rattle.clc_types.specs.Typing.{judge, judge_assign}
use Rattle.clc_types.specs.WellTyped.{is_comma, is_operator, is_assignment}
use Rattle.clc_well_typed.proofs.Parts.{Valid, name_valid, number_valid, step_valid, prefix_valid, cast_valid, paren_valid, assign_valid, ChoicesValid, conditional_valid, OperandValid, AllOperands, chain_valid, AllValid, SeriesValid, series_valid, SuffixValid, AllSuffixes, suffixes_valid, arguments_valid, no_arguments_valid, call_valid}
use Rattle.clc_well_typed.proofs.SourceExpressions.{j_assign, j_cast, j_chain, j_post_step, j_primary, j_unary, j_chain_step, j_choice, j_comma_step, j_cond, j_expr, j_post, assign_cond, assign_set, cast_to, cast_of, chain_one, chain_level, post_step_index, post_step_step, primary_name, primary_number, primary_paren, primary_call0, primary_call, unary_post, unary_step, unary_prefix, chain_step_is, choice_is, comma_step_is, cond_test_is, cond_choice_is, expr_is, post_is}

-- ---- marks

marks_operator : (t : Tok) (j : ℕ) → eqb (class_rank (class_of t)) j ≡ true → j < 10 → is_operator (mark_in t) ≡ true
marks_operator (tok.Name x) j h i = refl
marks_operator (tok.Number v u) j h i = refl
marks_operator (tok.Word u) j h i = refl
marks_operator (tok.Mark x) j h i =
    let e = eqb-true (mark_rank x) j h in
    or_left (nat_lt (mark_rank x) ranks) (is_comma x) (lt-ltb (mark_rank x) 10 (omega (arith, e, i)))

marks_prefix : (t : Tok) → prefix (class_of t) ≡ true → prefix (Mark (mark_in t)) ≡ true
marks_prefix (tok.Name x) h = absurd (cc)
marks_prefix (tok.Number v u) h = absurd (cc)
marks_prefix (tok.Word u) h = absurd (cc)
marks_prefix (tok.Mark x) h = h

marks_assignment : (t : Tok) → assignment (class_of t) ≡ true → is_assignment (mark_in t) ≡ true
marks_assignment (tok.Name x) h = absurd (cc)
marks_assignment (tok.Number v u) h = absurd (cc)
marks_assignment (tok.Word u) h = absurd (cc)
marks_assignment (tok.Mark x) h = h

module _ (vars : List Var) (before : List TFunction) (result : Option Scalar) where
  mutual
    pub valid_expr : (v : Expr) (ms : Spelling Token) → g.IsExpr v ms → SeriesValid vars before result (j_expr v)
    valid_expr v ms (g.list a more m n h i) = subst (SeriesValid vars before result) (sym (expr_is a more)) (record { first = valid_assign a m h; rest = valid_commas more n i })

    valid_commas : (v : List CommaStep) (ms : Spelling Token) → g.AreCommas v ms → AllValid vars before result (map j_comma_step v)
    valid_commas v ms g.no_comma = tt
    valid_commas v ms (g.comma t a more m n h i j) = (subst (Valid vars before result) (sym (comma_step_is t a)) (valid_assign a m i), valid_commas more n j)

    pub valid_assign : (v : Assign) (ms : Spelling Token) → g.IsAssign v ms → Valid vars before result (j_assign v)
    valid_assign v ms (g.value c m h) = subst (Valid vars before result) (sym (assign_cond c)) (valid_cond c m h)
    valid_assign v ms (g.set u t a m n h i j) =
        subst (Valid vars before result) (sym (assign_set u t a)) (assign_valid vars before result (mark_of t) (j_unary u) (j_assign a) (marks_assignment t.kind i) (valid_unary u m h) (valid_assign a n j))

    valid_cond : (v : Cond) (ms : Spelling Token) → g.IsCond v ms → Valid vars before result (j_cond v)
    valid_cond v ms (g.test c m h) = subst (Valid vars before result) (sym (cond_test_is c)) (valid_chain ranks c m h (omega arith))
    valid_cond v ms (g.choice c q x a b m n w h i j l y) =
        subst (Valid vars before result) (sym (cond_choice_is c (g.choice_of q a x b)))
        (conditional_valid vars before result (j_chain c) (j_choice (g.choice_of q a x b)) (valid_chain ranks c m h (omega arith))
        (subst (ChoicesValid vars before result) (sym (choice_is q a x b)) (record { yes = series_valid vars before result (j_expr a) (valid_expr a n j); no = valid_cond b w y })))

    valid_chain : (j : ℕ) (v : Chain) (ms : Spelling Token) → g.IsChain j v ms → j ≤ 10 → Valid vars before result (j_chain v)
    valid_chain j v ms (g.operand c m h) le = subst (Valid vars before result) (sym (chain_one c)) (valid_cast c m h)
    valid_chain j v ms (g.tighter i c m h) le = valid_chain i c m h (omega (arith, le))
    valid_chain j v ms (g.level i c x more m w h t) le =
        subst (Valid vars before result) (sym (chain_level c (x ∷ more)))
        (chain_valid vars before result (j_chain c) (map j_chain_step (x ∷ more)) (valid_chain i c m h (omega (arith, le))) (valid_steps i (x ∷ more) w t (omega (arith, le))))

    valid_steps : (j : ℕ) (v : List ChainStep) (ms : Spelling Token) → g.AreSteps j v ms → j < 10 → AllOperands vars before result (map j_chain_step v)
    valid_steps j v ms (g.no_step i) lt = tt
    valid_steps j v ms (g.step i t c more m w h x y) lt =
        (subst (OperandValid vars before result) (sym (chain_step_is t c)) (record { mark = marks_operator t.kind i h lt; value = valid_chain i c m x (omega (arith, lt)) }), valid_steps i more w y lt)

    valid_cast : (v : Cast) (ms : Spelling Token) → g.IsCast v ms → Valid vars before result (j_cast v)
    valid_cast v ms (g.to l r s c m n h i j x) = subst (Valid vars before result) (sym (cast_to l s r c)) (cast_valid vars before result l s (j_cast c) (valid_cast c n x))
    valid_cast v ms (g.of u m h) = subst (Valid vars before result) (sym (cast_of u)) (valid_unary u m h)

    valid_unary : (v : Unary) (ms : Spelling Token) → g.IsUnary v ms → Valid vars before result (j_unary v)
    valid_unary v ms (g.postfix x m h) = subst (Valid vars before result) (sym (unary_post x)) (valid_post x m h)
    valid_unary v ms (g.before t u m h i) = subst (Valid vars before result) (sym (unary_step t u)) (step_valid vars before result t (j_unary u) (valid_unary u m i))
    valid_unary v ms (g.prefix t c m h i) = subst (Valid vars before result) (sym (unary_prefix t c)) (prefix_valid vars before result t (mark_of t) (j_cast c) refl (marks_prefix t.kind h) (valid_cast c m i))

    valid_post : (v : Post) (ms : Spelling Token) → g.IsPost v ms → Valid vars before result (j_post v)
    valid_post v ms (g.steps x more m n h i) =
        subst (Valid vars before result) (sym (post_is x more)) (suffixes_valid vars before result (map j_post_step more) (j_primary x) (valid_primary x m h) (valid_posts more n i))

    valid_posts : (v : List PostStep) (ms : Spelling Token) → g.ArePosts v ms → AllSuffixes vars before result (map j_post_step v)
    valid_posts v ms g.no_post = tt
    valid_posts v ms (g.index l r x more m n h i j t) = (subst (SuffixValid vars before result) (sym (post_step_index l x r)) (series_valid vars before result (j_expr x) (valid_expr x m i)), valid_posts more n t)
    valid_posts v ms (g.after t more n h i) = (subst (SuffixValid vars before result) (sym (post_step_step t)) tt, valid_posts more n i)

    valid_primary : (v : Primary) (ms : Spelling Token) → g.IsPrimary v ms → Valid vars before result (j_primary v)
    valid_primary v ms (g.name t h) = subst (Valid vars before result) (sym (primary_name t)) (name_valid vars before result t)
    valid_primary v ms (g.number t h) = subst (Valid vars before result) (sym (primary_number t)) (number_valid vars before result t)
    valid_primary v ms (g.paren l r x m h i j) =
        subst (Valid vars before result) (sym (primary_paren l x r)) (paren_valid vars before result l _ (series_valid vars before result (j_expr x) (valid_expr x m i)))
    valid_primary v ms (g.call0 t l r h i j) = subst (Valid vars before result) (sym (primary_call0 t l r)) (call_valid vars before result t l None r (no_arguments_valid vars before result))
    valid_primary v ms (g.call t l r x m h i j y) =
        subst (Valid vars before result) (sym (primary_call t l x r)) (call_valid vars before result t l (Some (j_expr x)) r (arguments_valid vars before result (j_expr x) (valid_expr x m j)))

  -- ---- whole expressions

  pub expr_valid : (v : Expr) (ms : Spelling Token) → g.IsExpr v ms → Valid vars before result (judge v)
  expr_valid v ms h = series_valid vars before result (j_expr v) (valid_expr v ms h)

  pub assign_part_valid : (v : Assign) (ms : Spelling Token) → g.IsAssign v ms → Valid vars before result (judge_assign v)
  assign_part_valid v ms h = valid_assign v ms h
