-- Each rule for expressions reads its language exactly.
use Rattle.std.proofs.Common.{not, ◌≡◌, inl, inr, ℕ, zero, suc, ◌<◌, ◌≤◌, Bool, true, false, cond, eqb, List, [], ◌∷◌, ◌++◌, Option, Some, None, refl, sym, ap, ◌∙◌, subst, arith, lit≤, append-nil}
use Rattle.clc_reading.specs.Reading.{many, sees, Spelling, tokens_of, deeper, Language}
use Rattle.clc_reading.proofs.Exact.{Exact, seq, branch, loop, as_lang, pure_exact, pure_lang, then_lang, pick_lang, many_lang, deep_lang, deep_exact, AllSpelled, LoopLaws, loop_laws}
use Rattle.clc_lexer.specs.declared.token.Token.{Token}
use Rattle.clc_lexer.specs.declared.marks.Mark.{Mark}
use Rattle.clc_lexer.specs.declared.marks.Mark.TheVariants as m
use Rattle.clc_lexer.specs.declared.words.Word.TheVariants as w
use Rattle.clc_tree.specs.Kinds.{Class, takes, is, rank, ranks}
use Rattle.clc_tree.specs.declared.kinds.Kind.{Kind}
use Rattle.clc_tree.specs.declared.kinds.Kind.TheVariants as k
use Rattle.clc_tree.specs.Expressions as g
use Rattle.clc_tree.specs.ExpressionRules as r
use Rattle.clc_grammar_laws.proofs.Facts.{Apart, of, apart_of, apart, within_of, within, without_of}
use Rattle.clc_grammar_laws.proofs.Readers.{a_name, a_number, a_mark, a_word, as_is, join0, sees_head, not_empty, append_empty, head, at_end, tok_lang, tok_exact, kind_exact, inner_lang, inner_exact, final_lang, final_exact, StartsWith, starts_append, starts_is, starts_deeper, starts_sees}
use Rattle.clc_grammar_laws.proofs.Languages.{post_mark, operator, first_rank, EndsPost, EndsChain, EndsCond, EndsAssign, EndsExpr, expr_lang, assign_lang, cond_lang, chain_lang, cast_lang, unary_lang, post_lang, primary_lang, scalar_lang, ends_chain, ends_expr, post_starts, unary_starts, expr_starts}
use Rattle.std.proofs.lemmas.Bool.{eqb-true}
use Rattle.clc_tree.specs.declared.expressions.Scalar.{Scalar}
use Rattle.clc_tree.specs.declared.expressions.Scalar.TheVariants.{Plain, Signed}
use Rattle.clc_tree.specs.declared.expressions.Expr.{Expr}
use Rattle.clc_tree.specs.declared.expressions.CommaStep.{CommaStep}
use Rattle.clc_tree.specs.declared.expressions.Assign.{Assign}
use Rattle.clc_tree.specs.declared.expressions.Assign.TheVariants as to_assign
use Rattle.clc_tree.specs.declared.expressions.Cond.{Cond, out-roll-Cond}
use Rattle.clc_tree.specs.declared.expressions.Choice.{Choice}
use Rattle.clc_tree.specs.declared.expressions.Chain.{Chain, out-Chain}
use Rattle.clc_tree.specs.declared.expressions.Chain.TheVariants as to_chain
use Rattle.clc_tree.specs.declared.expressions.Chain.TheVariants.{outs-One, outs-Level}
use Rattle.clc_tree.specs.declared.expressions.ChainStep.{ChainStep}
use Rattle.clc_tree.specs.declared.expressions.Cast.{Cast, out-Cast}
use Rattle.clc_tree.specs.declared.expressions.Cast.TheVariants as to_cast
use Rattle.clc_tree.specs.declared.expressions.Cast.TheVariants.{outs-To, outs-Of}
use Rattle.clc_tree.specs.declared.expressions.Unary.{Unary}
use Rattle.clc_tree.specs.declared.expressions.Unary.TheVariants as to_unary
use Rattle.clc_tree.specs.declared.expressions.Post.{Post}
use Rattle.clc_tree.specs.declared.expressions.PostStep.{PostStep}
use Rattle.clc_tree.specs.declared.expressions.PostStep.TheVariants as to_post
use Rattle.clc_tree.specs.declared.expressions.Primary.{Primary}
use Rattle.clc_tree.specs.declared.expressions.Primary.TheVariants as to_primary

-- the first token of an expression in parentheses is no word of a type
word_first : (m o : Spelling Token) (c : Token) → StartsWith (is k.ExprStart) m → sees (is k.ScalarWord) (tokens_of ((deeper m ++ (c, 0) ∷ []) ++ o)) ≡ false
word_first m o c s = ap (λ z. sees (is k.ScalarWord) (tokens_of ((deeper z ++ (c, 0) ∷ []) ++ o))) s.2 ∙ apart k.ExprStart k.ScalarWord refl s.0.0 s.3

ranked_at : (a : ℕ) → a < 10 → (b : Bool) → eqb a 10 ≡ b → b ≡ false
ranked_at a h true e = let same = eqb-true a 10 e in absurd (omega arith)
ranked_at a h false e = refl

rank_no_post : (t : Token) → rank t < ranks → of post_mark t ≡ false
rank_no_post t h = apart_of operator post_mark refl t (ap not (ranked_at (rank t) h (eqb (rank t) 10) refl))

not_rank : (a j : ℕ) → suc j ≤ a → (b : Bool) → eqb a j ≡ b → b ≡ false
not_rank a j h true e = let same = eqb-true a j e in absurd (omega arith)
not_rank a j h false e = refl

abbrev rank_mark : ℕ → Mark
rank_mark zero = m.Star
rank_mark (suc zero) = m.Plus
rank_mark (suc (suc zero)) = m.ShiftLeft
rank_mark (suc (suc (suc zero))) = m.Less
rank_mark (suc (suc (suc (suc zero)))) = m.EqualEqual
rank_mark (suc (suc (suc (suc (suc zero))))) = m.Ampersand
rank_mark (suc (suc (suc (suc (suc (suc zero)))))) = m.Caret
rank_mark (suc (suc (suc (suc (suc (suc (suc zero))))))) = m.Bar
rank_mark (suc (suc (suc (suc (suc (suc (suc (suc zero)))))))) = m.AndAnd
rank_mark (suc (suc (suc (suc (suc (suc (suc (suc (suc n))))))))) = m.OrOr

abbrev an_operator : ℕ → Token
an_operator j = a_mark (rank_mark j)

operator_rank : (j : ℕ) → j < ranks → is (k.Rank j) (an_operator j) ≡ true
operator_rank zero h = refl
operator_rank (suc zero) h = refl
operator_rank (suc (suc zero)) h = refl
operator_rank (suc (suc (suc zero))) h = refl
operator_rank (suc (suc (suc (suc zero)))) h = refl
operator_rank (suc (suc (suc (suc (suc zero))))) h = refl
operator_rank (suc (suc (suc (suc (suc (suc zero)))))) h = refl
operator_rank (suc (suc (suc (suc (suc (suc (suc zero))))))) h = refl
operator_rank (suc (suc (suc (suc (suc (suc (suc (suc zero)))))))) h = refl
operator_rank (suc (suc (suc (suc (suc (suc (suc (suc (suc zero))))))))) h = refl
operator_rank (suc (suc (suc (suc (suc (suc (suc (suc (suc (suc n)))))))))) h = absurd (omega arith)

-- ---- types of numbers

abbrev scalar_raw : Language Token Scalar
scalar_raw = pick_lang (is k.SignWord)
    (tok_lang (is k.SignWord) (λ t. pick_lang (is k.BaseWord) (tok_lang (is k.BaseWord) (λ u. pure_lang (Signed t (Some u)))) (final_lang (λ rest. sees (is k.BaseWord) rest ≡ false) (Signed t None))))
    (tok_lang (is k.PlainWord) (λ t. pure_lang (Plain t)))

scalar_to : (v : Scalar) (ms : Spelling Token) → scalar_raw.spells v ms → g.IsScalar v ms
scalar_to v ms (inl (t, o, h, inl (u, o2, hu, (hp, h3), e1), e0)) = as_is g.IsScalar hp (join0 e0 (join0 e1 h3)) (g.long t u h hu)
scalar_to v ms (inl (t, o, h, inr ((hp, h3), b), e0)) = as_is g.IsScalar hp (join0 e0 h3) (g.alone t h)
scalar_to v ms (inr ((t, o, h, (hp, h3), e0), b)) = as_is g.IsScalar hp (join0 e0 h3) (g.plain t h)

scalar_from : (v : Scalar) (ms : Spelling Token) → g.IsScalar v ms → scalar_raw.spells v ms
scalar_from v ms (g.plain t h) = inr ((t, [], h, (refl, refl), refl), apart k.PlainWord k.SignWord refl t h)
scalar_from v ms (g.alone t h) = inl (t, [], h, inr ((refl, refl), refl), refl)
scalar_from v ms (g.long t u h i) = inl (t, _, h, inl (u, [], i, (refl, refl), refl), refl)

pub scalar_exact : (j : ℕ) → Exact j (r.scalar j) scalar_lang
unfolding r.scalar
scalar_exact j =
    as_lang scalar_lang
    (branch (is k.SignWord)
    (tok_exact (is k.SignWord) (a_word w.Unsigned) refl (λ t. branch (is k.BaseWord)
    (tok_exact (is k.BaseWord) (a_word w.Int) refl (λ u. pure_exact j (Signed t (Some u)))) (final_exact j (λ rest. sees (is k.BaseWord) rest ≡ false) (Signed t None))
    (λ v ms rest s. sees_head (is k.BaseWord) rest s.4 s.2) (λ v rest s h. h)))
    (tok_exact (is k.PlainWord) (a_word w.Int) refl (λ t. pure_exact j (Plain t)))
    (λ v ms rest s. sees_head (is k.SignWord) rest s.4 s.2) (λ v rest s h. not_empty s.4))
    scalar_to scalar_from (λ v rest h. (λ t. (λ u. tt, h), λ t. tt))

pub scalar_starts : (v : Scalar) (ms : Spelling Token) → g.IsScalar v ms → StartsWith (is k.ScalarWord) ms
scalar_starts v ms (g.plain t h) = ((t, 0), _, refl, within k.PlainWord k.ScalarWord refl t h)
scalar_starts v ms (g.alone t h) = ((t, 0), _, refl, within k.SignWord k.ScalarWord refl t h)
scalar_starts v ms (g.long t u h i) = ((t, 0), _, refl, within k.SignWord k.ScalarWord refl t h)

module _ (n : ℕ) (below : r.Below) (E : Exact n below.expr expr_lang) where
  abbrev paren_raw : Token → Language Token Primary
  paren_raw l = inner_lang expr_lang (λ e. tok_lang (is k.RightParen) (λ c. pure_lang (to_primary.Paren l e c)))

  paren_exact : (l : Token) → Exact (suc n) (r.paren_from n below l) (paren_raw l)
  unfolding r.paren_from
  paren_exact l =
      inner_exact E (λ e. kind_exact k.RightParen (a_mark m.RightParen) refl (λ c. pure_exact (suc n) (to_primary.Paren l e c)))
      (λ e v o rest s h. head EndsExpr s.0 rest s.4 (λ more. ends_expr k.RightParen refl s.0 more s.2))

  abbrev arguments_raw : Language Token (Option Expr)
  arguments_raw = pick_lang (is k.ExprStart) (inner_lang expr_lang (λ e. final_lang EndsExpr (Some e))) (final_lang (λ rest. sees (is k.ExprStart) rest ≡ false) None)

  abbrev AreArguments : Option Expr → Spelling Token → Type 0
  AreArguments None ms = ms ≡ []
  AreArguments (Some e) ms = (m : Spelling Token) × g.IsExpr e m × (ms ≡ deeper m)

  abbrev arguments_lang : Language Token (Option Expr)
  arguments_lang = record { spells = AreArguments; halts = λ v rest. EndsExpr rest × (sees (is k.ExprStart) rest ≡ false) }

  arguments_to : (v : Option Expr) (ms : Spelling Token) → arguments_raw.spells v ms → AreArguments v ms
  arguments_to v ms (inl (e, m, o, h, i, d)) = as_is AreArguments i.0 (d ∙ ap (λ z. deeper m ++ z) i.1 ∙ append-nil (deeper m)) (m, h, refl)
  arguments_to v ms (inr s) = as_is AreArguments s.0.0 s.0.1 refl

  arguments_from : (v : Option Expr) (ms : Spelling Token) → AreArguments v ms → arguments_raw.spells v ms
  arguments_from None ms s = inr ((refl, s), ap (λ z. sees (is k.ExprStart) (tokens_of z)) s)
  arguments_from (Some e) ms (m, h, i) = inl (e, m, [], h, (refl, refl), i ∙ sym (append-nil (deeper m)))

  arguments_exact : Exact (suc n) (r.arguments n below) arguments_lang
  unfolding r.arguments
  arguments_exact =
      as_lang arguments_lang
      (branch (is k.ExprStart) (inner_exact E (λ e. final_exact (suc n) EndsExpr (Some e)) (λ e v o rest s h. at_end EndsExpr rest s.1 h)) (final_exact (suc n) (λ rest. sees (is k.ExprStart) rest ≡ false) None)
      (λ v ms rest s. starts_sees (is k.ExprStart) ms rest (starts_is (is k.ExprStart) s.5 (starts_append (is k.ExprStart) _ s.2 (starts_deeper (is k.ExprStart) s.1 (expr_starts s.0 s.1 s.3)))))
      (λ v rest s h. h))
      arguments_to arguments_from (λ v rest h. (λ e. h.0, h.1))

  abbrev named_raw : Language Token Primary
  named_raw = tok_lang (is k.Name) (λ f. pick_lang (is k.LeftParen)
      (tok_lang (is k.LeftParen) (λ l. then_lang arguments_lang (λ e. tok_lang (is k.RightParen) (λ c. pure_lang (to_primary.Call f l e c)))))
      (final_lang (λ rest. sees (is k.LeftParen) rest ≡ false) (to_primary.Name f)))

  named_exact : Exact (suc n) (r.named n below) named_raw
  unfolding r.named
  named_exact =
      kind_exact k.Name a_name refl (λ f. branch (is k.LeftParen)
      (kind_exact k.LeftParen (a_mark m.LeftParen) refl (λ l.
      seq arguments_exact (λ e. kind_exact k.RightParen (a_mark m.RightParen) refl (λ c. pure_exact (suc n) (to_primary.Call f l e c)))
      (λ e v o rest s h. head (λ z. EndsExpr z × (sees (is k.ExprStart) z ≡ false)) s.0 rest s.4 (λ more. (ends_expr k.RightParen refl s.0 more s.2, apart k.RightParen k.ExprStart refl s.0 s.2)))))
      (final_exact (suc n) (λ rest. sees (is k.LeftParen) rest ≡ false) (to_primary.Name f))
      (λ v ms rest s. sees_head (is k.LeftParen) rest s.4 s.2) (λ v rest s h. h))

  abbrev primary_raw : Language Token Primary
  primary_raw = pick_lang (is k.Name) named_raw
      (pick_lang (is k.Number) (tok_lang (is k.Number) (λ t. pure_lang (to_primary.Number t))) (tok_lang (is k.LeftParen) paren_raw))

  primary_to : (p : Primary) (ms : Spelling Token) → primary_raw.spells p ms → g.IsPrimary p ms
  primary_to p ms (inl (f, o, h, inl (l, o2, hl, (None, m1, m2, ha, (c, o3, hc, (hp, h3), e3), e2), e1), e0)) =
      as_is g.IsPrimary hp (join0 e0 (join0 e1 (e2 ∙ ap (λ z. z ++ m2) ha ∙ join0 e3 h3))) (g.call0 f l c h hl hc)
  primary_to p ms (inl (f, o, h, inl (l, o2, hl, (Some e, m1, m2, ha, (c, o3, hc, (hp, h3), e3), e2), e1), e0)) =
      as_is g.IsPrimary hp (join0 e0 (join0 e1 (e2 ∙ ap (λ z. z ++ m2) ha.2 ∙ ap (λ z. deeper ha.0 ++ z) (join0 e3 h3)))) (g.call f l c e ha.0 h hl ha.1 hc)
  primary_to p ms (inl (f, o, h, inr (s, b), e0)) = as_is g.IsPrimary s.0 (join0 e0 s.1) (g.name f h)
  primary_to p ms (inr (inl (t, o, h, s, e0), b)) = as_is g.IsPrimary s.0 (join0 e0 s.1) (g.number t h)
  primary_to p ms (inr (inr ((l, o, h, (e, m1, m2, he, (c, o3, hc, (hp, h3), e3), e2), e0), b), d)) =
      as_is g.IsPrimary hp (join0 e0 (e2 ∙ ap (λ z. deeper m1 ++ z) (join0 e3 h3))) (g.paren l c e m1 h he hc)

  primary_from : (p : Primary) (ms : Spelling Token) → g.IsPrimary p ms → primary_raw.spells p ms
  primary_from p ms (g.name t h) = inl (t, [], h, inr ((refl, refl), refl), refl)
  primary_from p ms (g.number t h) = inr (inl (t, [], h, (refl, refl), refl), apart k.Number k.Name refl t h)
  primary_from p ms (g.paren l c e m h i j) = inr (inr ((l, _, h, (e, m, (c, 0) ∷ [], i, (c, [], j, (refl, refl), refl), refl), refl), (apart k.LeftParen k.Number refl l h)), (apart k.LeftParen k.Name refl l h))
  primary_from p ms (g.call0 f l c h i j) = inl (f, _, h, inl (l, _, i, (None, [], (c, 0) ∷ [], refl, (c, [], j, (refl, refl), refl), refl), refl), refl)
  primary_from p ms (g.call f l c e m h i j o) = inl (f, _, h, inl (l, _, i, (Some e, deeper m, (c, 0) ∷ [], (m, j, refl), (c, [], o, (refl, refl), refl), refl), refl), refl)

  primary_empty : {X : Type 0} (v : Primary) → (pick_lang (is k.Number) (tok_lang (is k.Number) (λ t. pure_lang (to_primary.Number t))) (tok_lang (is k.LeftParen) paren_raw)).spells v [] → X
  primary_empty v (inl s) = not_empty s.4
  primary_empty v (inr (s, b)) = not_empty s.4

  primary_exact : Exact (suc n) (r.primary n below) primary_lang
  unfolding r.primary
  primary_exact =
      as_lang primary_lang
      (branch (is k.Name) named_exact
      (branch (is k.Number) (kind_exact k.Number a_number refl (λ t. pure_exact (suc n) (to_primary.Number t))) (kind_exact k.LeftParen (a_mark m.LeftParen) refl paren_exact)
      (λ v ms rest s. sees_head (is k.Number) rest s.4 s.2) (λ v rest s h. not_empty s.4))
      (λ v ms rest s. sees_head (is k.Name) rest s.4 s.2) (λ v rest s h. primary_empty v s))
      primary_to primary_from (λ v rest h. (λ f. (λ l e c. tt, h), (λ t. tt, λ l e c. tt)))

  -- ---- postfix

  abbrev step_raw : Language Token PostStep
  step_raw = pick_lang (is k.LeftBracket)
      (tok_lang (is k.LeftBracket) (λ l. inner_lang expr_lang (λ e. tok_lang (is k.RightBracket) (λ c. pure_lang (to_post.Index l e c)))))
      (tok_lang (is k.Step) (λ t. pure_lang (to_post.Step t)))

  step_exact : Exact (suc n) (r.post_step n below) step_raw
  unfolding r.post_step
  step_exact =
      branch (is k.LeftBracket)
      (kind_exact k.LeftBracket (a_mark m.LeftBracket) refl (λ l. inner_exact E (λ e. kind_exact k.RightBracket (a_mark m.RightBracket) refl (λ c. pure_exact (suc n) (to_post.Index l e c)))
      (λ e v o rest s h. head EndsExpr s.0 rest s.4 (λ more. ends_expr k.RightBracket refl s.0 more s.2))))
      (kind_exact k.Step (a_mark m.PlusPlus) refl (λ t. pure_exact (suc n) (to_post.Step t)))
      (λ v ms rest s. sees_head (is k.LeftBracket) rest s.4 s.2) (λ v rest s h. not_empty s.4)

  step_starts : (v : PostStep) (ms : Spelling Token) → step_raw.spells v ms → (m : Token × ℕ) × (more : Spelling Token) × (ms ≡ m ∷ more) × (is k.PostStep m.0 ≡ true)
  step_starts v ms (inl s) = ((s.0, 0), s.1, s.4, within k.LeftBracket k.PostStep refl s.0 s.2)
  step_starts v ms (inr (s, b)) = ((s.0, 0), s.1, s.4, within k.Step k.PostStep refl s.0 s.2)

  posts_to : (v : List PostStep) (ms : Spelling Token) → AllSpelled step_raw v ms → g.ArePosts v ms
  posts_to [] ms s = subst (g.ArePosts []) (sym s) g.no_post
  posts_to (x ∷ more) ms (m1, m2, inl (l, o, hl, (e, m3, o2, he, (c, o3, hc, (hp, h3), e3), e2), e1), t, e0) =
      as_is g.ArePosts (ap (λ z. z ∷ more) hp) (e0 ∙ ap (λ z. z ++ m2) (join0 e1 (e2 ∙ ap (λ z. deeper m3 ++ z) (join0 e3 h3)))) (g.index l c e more m3 m2 hl he hc (posts_to more m2 t))
  posts_to (x ∷ more) ms (m1, m2, inr ((c, o, hc, (hp, h3), e1), b), t, e0) =
      as_is g.ArePosts (ap (λ z. z ∷ more) hp) (e0 ∙ ap (λ z. z ++ m2) (join0 e1 h3)) (g.after c more m2 hc (posts_to more m2 t))

  posts_from : (v : List PostStep) (ms : Spelling Token) → g.ArePosts v ms → AllSpelled step_raw v ms
  posts_from v ms g.no_post = refl
  posts_from v ms (g.index l c e more m1 m2 hl he hc t) = (_, m2, inl (l, _, hl, (e, m1, (c, 0) ∷ [], he, (c, [], hc, (refl, refl), refl), refl), refl), posts_from more m2 t, refl)
  posts_from v ms (g.after c more m2 hc t) = ((c, 0) ∷ [], m2, inr ((c, [], hc, (refl, refl), refl), apart k.Step k.LeftBracket refl c hc), posts_from more m2 t, refl)

  abbrev posts_lang : Language Token (List PostStep)
  posts_lang = record { spells = g.ArePosts; halts = λ v rest. EndsPost rest }

  posts_exact : Exact (suc n) (many (is k.PostStep) (r.post_step n below)) posts_lang
  posts_exact =
      as_lang posts_lang (loop (is k.PostStep) step_exact step_starts (λ a x xs h. (λ l e c. tt, λ t. tt)))
      posts_to posts_from (λ v rest h. (without_of (takes k.PostStep) post_mark refl rest h, λ a. (λ l e c. tt, λ t. tt)))

  pub post_turns : LoopLaws (is k.PostStep) (r.post_step n below)
  post_turns = loop_laws (is k.PostStep) step_exact step_starts (λ a x xs h. (λ l e c. tt, λ t. tt))

  abbrev after_raw : Primary → Language Token Post
  after_raw p = then_lang posts_lang (λ more. final_lang EndsPost (g.post_of p more))

  after_exact : (p : Primary) → Exact (suc n) (r.post_from n below p) (after_raw p)
  unfolding r.post_from
  after_exact p = seq posts_exact (λ more. final_exact (suc n) EndsPost (g.post_of p more)) (λ more v o rest s h. at_end EndsPost rest s.1 h)

  posts_head : (more : List PostStep) (ms : Spelling Token) (rest : List Token) → g.ArePosts more ms → EndsPost rest → sees (is k.LeftParen) (tokens_of ms ++ rest) ≡ false
  posts_head more ms rest g.no_post h = without_of (takes k.LeftParen) post_mark refl rest h
  posts_head more ms rest (g.index l c e x m1 m2 hl he hc t) h = apart k.LeftBracket k.LeftParen refl l hl
  posts_head more ms rest (g.after c x m2 hc t) h = apart k.Step k.LeftParen refl c hc

  post_exact : Exact (suc n) (r.post n below) post_lang
  unfolding r.post
  post_exact =
      as_lang post_lang
      (seq primary_exact after_exact
      (λ p v o rest s h. subst (λ z. sees (is k.LeftParen) (tokens_of z ++ rest) ≡ false) (sym (s.5 ∙ ap (λ z. s.1 ++ z) s.4.1 ∙ append-nil s.1)) (posts_head s.0 s.1 rest s.3 (h s.0))))
      (λ v ms s. let t = s.4 in as_is g.IsPost t.4.0 (s.5 ∙ ap (λ z. s.1 ++ z) (t.5 ∙ ap (λ z. t.1 ++ z) t.4.1 ∙ append-nil t.1)) (g.steps s.0 t.0 s.1 t.1 s.3 t.3))
      post_from
      (λ v rest h. λ p more. h)
    where
      post_from : (v : Post) (ms : Spelling Token) → g.IsPost v ms → (then_lang primary_lang after_raw).spells v ms
      post_from v ms (g.steps p more m1 m2 hp t) = (p, m1, m2, hp, (more, m2, [], t, (refl, refl), sym (append-nil m2)), refl)

  -- ---- unary

  module _ (U : Exact n below.unary unary_lang) (C : Exact n below.cast cast_lang) where
    abbrev unary_raw : Language Token Unary
    unary_raw = pick_lang (is k.Step) (tok_lang (is k.Step) (λ t. inner_lang unary_lang (λ u. final_lang EndsPost (to_unary.Step t u))))
        (pick_lang (is k.Prefix) (tok_lang (is k.Prefix) (λ t. inner_lang cast_lang (λ c. final_lang EndsPost (to_unary.Prefix t c))))
        (then_lang post_lang (λ p. final_lang EndsPost (to_unary.Post p))))

    abbrev primary_start : Class → Bool
    primary_start c = cond (takes k.LeftParen c) true (cond (takes k.Name c) true (takes k.Number c))

    primary_head : (f : Kind) → Apart primary_start (takes f) → (p : Primary) (ms : Spelling Token) → g.IsPrimary p ms → (o : Spelling Token) → sees (is f) (tokens_of (ms ++ o)) ≡ false
    primary_head f a p ms (g.name t h) o = apart_of primary_start (takes f) a t (within_of (takes k.Name) primary_start refl t h)
    primary_head f a p ms (g.number t h) o = apart_of primary_start (takes f) a t (within_of (takes k.Number) primary_start refl t h)
    primary_head f a p ms (g.paren l c e m h i j) o = apart_of primary_start (takes f) a l (within_of (takes k.LeftParen) primary_start refl l h)
    primary_head f a p ms (g.call0 t l c h i j) o = apart_of primary_start (takes f) a t (within_of (takes k.Name) primary_start refl t h)
    primary_head f a p ms (g.call t l c e m h i j x) o = apart_of primary_start (takes f) a t (within_of (takes k.Name) primary_start refl t h)

    post_head : (f : Kind) → Apart primary_start (takes f) → (p : Post) (ms : Spelling Token) → g.IsPost p ms → sees (is f) (tokens_of ms) ≡ false
    post_head f a p ms (g.steps q more m1 m2 h i) = primary_head f a q m1 h m2

    post_nonempty : {X : Type 0} (v : Unary) → (then_lang post_lang (λ p. final_lang EndsPost (to_unary.Post p))).spells v [] → X
    post_nonempty v s = let t = post_starts s.0 s.1 s.3 in not_empty (s.5 ∙ ap (λ z. z ++ s.2) t.2)

    unary_to : (v : Unary) (ms : Spelling Token) → unary_raw.spells v ms → g.IsUnary v ms
    unary_to v ms (inl (t, o, h, (u, m1, o2, hu, (hp, h3), e2), e0)) =
        as_is g.IsUnary hp (join0 e0 (e2 ∙ ap (λ z. deeper m1 ++ z) h3 ∙ append-nil (deeper m1))) (g.before t u m1 h hu)
    unary_to v ms (inr (inl (t, o, h, (u, m1, o2, hu, (hp, h3), e2), e0), b)) =
        as_is g.IsUnary hp (join0 e0 (e2 ∙ ap (λ z. deeper m1 ++ z) h3 ∙ append-nil (deeper m1))) (g.prefix t u m1 h hu)
    unary_to v ms (inr (inr ((p, m1, o2, hp, (hv, h3), e0), b), d)) =
        as_is g.IsUnary hv (e0 ∙ ap (λ z. m1 ++ z) h3 ∙ append-nil m1) (g.postfix p m1 hp)

    unary_from : (v : Unary) (ms : Spelling Token) → g.IsUnary v ms → unary_raw.spells v ms
    unary_from v ms (g.postfix p m h) = inr (inr ((p, m, [], h, (refl, refl), sym (append-nil m)), post_head k.Prefix refl p m h), post_head k.Step refl p m h)
    unary_from v ms (g.before t u m h hu) = inl (t, deeper m, h, (u, m, [], hu, (refl, refl), sym (append-nil (deeper m))), refl)
    unary_from v ms (g.prefix t u m h hu) = inr (inl (t, deeper m, h, (u, m, [], hu, (refl, refl), sym (append-nil (deeper m))), refl), apart k.Prefix k.Step refl t h)

    unary_empty : {X : Type 0} (v : Unary) → (pick_lang (is k.Prefix) (tok_lang (is k.Prefix) (λ t. inner_lang cast_lang (λ c. final_lang EndsPost (to_unary.Prefix t c))))
        (then_lang post_lang (λ p. final_lang EndsPost (to_unary.Post p)))).spells v [] → X
    unary_empty v (inl s) = not_empty s.4
    unary_empty v (inr (s, b)) = post_nonempty v s

    pub unary_exact : Exact (suc n) (r.unary n below) unary_lang
    unfolding r.unary
    unary_exact =
        as_lang unary_lang
        (branch (is k.Step) (kind_exact k.Step (a_mark m.PlusPlus) refl (λ t. inner_exact U (λ u. final_exact (suc n) EndsPost (to_unary.Step t u)) (λ u v o rest s h. at_end EndsPost rest s.1 h)))
        (branch (is k.Prefix) (kind_exact k.Prefix (a_mark m.Plus) refl (λ t. inner_exact C (λ u. final_exact (suc n) EndsPost (to_unary.Prefix t u)) (λ u v o rest s h. at_end EndsPost rest s.1 h)))
        (seq post_exact (λ p. final_exact (suc n) EndsPost (to_unary.Post p)) (λ u v o rest s h. at_end EndsPost rest s.1 h))
        (λ v ms rest s. sees_head (is k.Prefix) rest s.4 s.2) (λ v rest s h. post_nonempty v s))
        (λ v ms rest s. sees_head (is k.Step) rest s.4 s.2) (λ v rest s h. unary_empty v s))
        unary_to unary_from (λ v rest h. (λ t u. h, (λ t u. h, λ p. h)))

    -- ---- casts

    abbrev cast_after : Token → Language Token Cast
    cast_after l = pick_lang (is k.ScalarWord)
        (inner_lang scalar_lang (λ s. tok_lang (is k.RightParen) (λ c. inner_lang cast_lang (λ d. final_lang EndsPost (to_cast.To l s c d)))))
        (then_lang (paren_raw l) (λ p. then_lang (after_raw p) (λ q. final_lang EndsPost (to_cast.Of (to_unary.Post q)))))

    paren_nonempty : {X : Type 0} (l : Token) (p : Primary) (ms : Spelling Token) → (paren_raw l).spells p ms → ms ≡ [] → X
    paren_nonempty l p ms s e =
        let t = starts_deeper (is k.ExprStart) s.1 (expr_starts s.0 s.1 s.3) in
        not_empty (sym e ∙ s.5 ∙ ap (λ z. z ++ s.2) t.2)

    cast_after_empty : {X : Type 0} (l : Token) (v : Cast) → (then_lang (paren_raw l) (λ p. then_lang (after_raw p) (λ q. final_lang EndsPost (to_cast.Of (to_unary.Post q))))).spells v [] → X
    cast_after_empty l v s = paren_nonempty l s.0 s.1 s.3 (append_empty s.1 s.2 (sym s.5))

    cast_after_exact : (l : Token) → Exact (suc n) (r.cast_from n below l) (cast_after l)
    unfolding r.cast_from
    cast_after_exact l =
        branch (is k.ScalarWord)
        (inner_exact (scalar_exact n) (λ s. kind_exact k.RightParen (a_mark m.RightParen) refl (λ c. inner_exact C (λ d. final_exact (suc n) EndsPost (to_cast.To l s c d)) (λ d v o rest s h. at_end EndsPost rest s.1 h)))
        (λ s v o rest t h. head (λ z. sees (is k.BaseWord) z ≡ false) t.0 rest t.4 (λ more. apart k.RightParen k.BaseWord refl t.0 t.2)))
        (seq (paren_exact l) (λ p. seq (after_exact p) (λ q. final_exact (suc n) EndsPost (to_cast.Of (to_unary.Post q))) (λ q v o rest s h. λ more. at_end EndsPost rest s.1 h)) (λ p v o rest s h. λ e c. tt))
        (λ v ms rest s. starts_sees (is k.ScalarWord) ms rest (starts_is (is k.ScalarWord) s.5 (starts_append (is k.ScalarWord) _ s.2 (starts_deeper (is k.ScalarWord) s.1 (scalar_starts s.0 s.1 s.3)))))
        (λ v rest s h. cast_after_empty l v s)

    abbrev cast_raw : Language Token Cast
    cast_raw = pick_lang (is k.LeftParen) (tok_lang (is k.LeftParen) cast_after) (then_lang unary_lang (λ u. final_lang EndsPost (to_cast.Of u)))

    cast_to : (v : Cast) (ms : Spelling Token) → cast_raw.spells v ms → g.IsCast v ms
    cast_to v ms (inl (l, o, h, inl (s, m1, o1, hs, (c, o2, hc, (d, m2, o3, hd, (hp, h3), e3), e2), e1), e0)) =
        as_is g.IsCast hp (join0 e0 (e1 ∙ ap (λ z. deeper m1 ++ z) (join0 e2 (e3 ∙ ap (λ z. deeper m2 ++ z) h3 ∙ append-nil (deeper m2))))) (g.to l c s d m1 m2 h hs hc hd)
    cast_to v ms (inl (l, o, h, inr ((p, m1, o1, (e, m3, o4, he, (c, o5, hc, (hp, h5), e5), e4), (q, m2, o2, (more, m6, o6, ht, (hq, h6), e6), (hv, h2), e2), e1), b), e0)) =
        let inside : m1 ≡ deeper m3 ++ (c, 0) ∷ [] = e4 ∙ ap (λ z. deeper m3 ++ z) (join0 e5 h5) in
        let tail : o1 ≡ m6 = e2 ∙ ap (λ z. m2 ++ z) h2 ∙ append-nil m2 ∙ e6 ∙ ap (λ z. m6 ++ z) h6 ∙ append-nil m6 in
        as_is g.IsCast (hv ∙ ap (λ z. to_cast.Of (to_unary.Post z)) (hq ∙ ap (λ z. g.post_of z more) hp)) (join0 e0 (e1 ∙ ap (λ z. z ++ o1) inside ∙ ap (λ z. (deeper m3 ++ (c, 0) ∷ []) ++ z) tail))
        (g.of _ _ (g.postfix _ _ (g.steps _ more _ m6 (g.paren l c e m3 h he hc) ht)))
    cast_to v ms (inr ((u, m1, o1, hu, (hp, h3), e0), b)) = as_is g.IsCast hp (e0 ∙ ap (λ z. m1 ++ z) h3 ∙ append-nil m1) (g.of u m1 hu)

    cast_of : (u : Unary) (m : Spelling Token) → g.IsUnary u m → sees (is k.LeftParen) (tokens_of m) ≡ false → cast_raw.spells (to_cast.Of u) m
    cast_of u m h b = inr ((u, m, [], h, (refl, refl), sym (append-nil m)), b)

    cast_from : (v : Cast) (ms : Spelling Token) → g.IsCast v ms → cast_raw.spells v ms
    cast_from v ms (g.to l c s d m1 m2 h hs hc hd) = inl (l, _, h, inl (s, m1, _, hs, (c, _, hc, (d, m2, [], hd, (refl, refl), sym (append-nil (deeper m2))), refl), refl), refl)
    cast_from v ms (g.of u m h) = cast_from_unary u m h
      where
        cast_from_post : (q : Primary) (more : List PostStep) (m1 m2 : Spelling Token) → g.IsPrimary q m1 → g.ArePosts more m2 → cast_raw.spells (to_cast.Of (to_unary.Post (g.post_of q more))) (m1 ++ m2)
        cast_from_post q more m1 m2 (g.paren l c e m h i j) t =
            inl (
              l,
              _,
              h,
              inr (
                (to_primary.Paren l e c, _, m2, (e, m, (c, 0) ∷ [], i, (c, [], j, (refl, refl), refl), refl), (g.post_of (to_primary.Paren l e c) more, m2, [], (more, m2, [], t, (refl, refl), sym (append-nil m2)), (refl, refl), sym (append-nil m2)), refl),
                word_first m m2 c (expr_starts e m i),
              ),
              refl,
            )
        cast_from_post q more m1 m2 (g.name t h) x = cast_of _ _ (g.postfix _ _ (g.steps _ more _ m2 (g.name t h) x)) (apart k.Name k.LeftParen refl t h)
        cast_from_post q more m1 m2 (g.number t h) x = cast_of _ _ (g.postfix _ _ (g.steps _ more _ m2 (g.number t h) x)) (apart k.Number k.LeftParen refl t h)
        cast_from_post q more m1 m2 (g.call0 f l c h i j) x = cast_of _ _ (g.postfix _ _ (g.steps _ more _ m2 (g.call0 f l c h i j) x)) (apart k.Name k.LeftParen refl f h)
        cast_from_post q more m1 m2 (g.call f l c e m h i j o) x = cast_of _ _ (g.postfix _ _ (g.steps _ more _ m2 (g.call f l c e m h i j o) x)) (apart k.Name k.LeftParen refl f h)

        cast_from_unary : (u : Unary) (m : Spelling Token) → g.IsUnary u m → cast_raw.spells (to_cast.Of u) m
        cast_from_unary u m (g.postfix p m1 (g.steps q more m2 m3 h t)) = cast_from_post q more m2 m3 h t
        cast_from_unary u m (g.before t v m1 h i) = cast_of _ _ (g.before t v m1 h i) (apart k.Step k.LeftParen refl t h)
        cast_from_unary u m (g.prefix t c m1 h i) = cast_of _ _ (g.prefix t c m1 h i) (apart k.Prefix k.LeftParen refl t h)

    pub cast_exact : Exact (suc n) (r.cast n below) cast_lang
    unfolding r.cast
    cast_exact =
        as_lang cast_lang
        (branch (is k.LeftParen) (kind_exact k.LeftParen (a_mark m.LeftParen) refl cast_after_exact)
        (seq unary_exact (λ u. final_exact (suc n) EndsPost (to_cast.Of u)) (λ u v o rest s h. at_end EndsPost rest s.1 h))
        (λ v ms rest s. sees_head (is k.LeftParen) rest s.4 s.2)
        (λ v rest s h. let t = unary_starts s.0 s.1 s.3 in not_empty (s.5 ∙ ap (λ z. z ++ s.2) t.2)))
        cast_to cast_from (λ v rest h. (λ l. (λ s c d. h, λ p q. h), λ u. h))

    -- ---- binary operators

    abbrev level_step : ℕ → Language Token ChainStep
    level_step j = tok_lang (is (k.Rank j)) (λ t. then_lang (chain_lang j) (λ o. final_lang (EndsChain j) (g.step_of t o)))

    level_starts : (j : ℕ) (v : ChainStep) (ms : Spelling Token) → (level_step j).spells v ms → (m : Token × ℕ) × (more : Spelling Token) × (ms ≡ m ∷ more) × (is (k.Rank j) m.0 ≡ true)
    level_starts j v ms s = ((s.0, 0), s.1, s.4, s.2)

    level_to : (j : ℕ) (v : List ChainStep) (ms : Spelling Token) → AllSpelled (level_step j) v ms → g.AreSteps j v ms
    level_to j [] ms s = subst (g.AreSteps j []) (sym s) (g.no_step j)
    level_to j (x ∷ more) ms (m1, m2, (t, o, h, (c, m3, o3, hc, (hp, h3), e3), e1), rest, e0) =
        as_is (g.AreSteps j) (ap (λ z. z ∷ more) hp) (e0 ∙ ap (λ z. z ++ m2) (join0 e1 (e3 ∙ ap (λ z. m3 ++ z) h3 ∙ append-nil m3))) (g.step j t c more m3 m2 h hc (level_to j more m2 rest))

    level_from : (j : ℕ) (v : List ChainStep) (ms : Spelling Token) → g.AreSteps j v ms → AllSpelled (level_step j) v ms
    level_from j v ms (g.no_step i) = refl
    level_from j v ms (g.step i t c more m1 m2 h hc rest) = ((t, 0) ∷ m1, m2, (t, m1, h, (c, m1, [], hc, (refl, refl), sym (append-nil m1)), refl), level_from i more m2 rest, refl)

    abbrev chain_raw : ℕ → Language Token Chain
    chain_raw j = then_lang (chain_lang j) (λ c. then_lang (many_lang (is (k.Rank j)) (level_step j)) (λ more. final_lang (EndsChain (suc j)) (r.joined c more)))

    chain_joined : (j : ℕ) (c : Chain) (more : List ChainStep) (m1 m2 : Spelling Token) → g.IsChain j c m1 → g.AreSteps j more m2 → AllSpelled (level_step j) more m2 → g.IsChain (suc j) (r.joined c more) (m1 ++ m2)
    chain_joined j c [] m1 m2 h i s = subst (g.IsChain (suc j) c) (sym (append-nil m1) ∙ ap (λ z. m1 ++ z) (sym s)) (g.tighter j c m1 h)
    chain_joined j c (x ∷ more) m1 m2 h i s = g.level j c x more m1 m2 h i

    chain_to : (j : ℕ) (v : Chain) (ms : Spelling Token) → (chain_raw j).spells v ms → g.IsChain (suc j) v ms
    chain_to j v ms (c, m1, o1, h, (more, m2, o2, i, (hp, h3), e2), e1) =
        as_is (g.IsChain (suc j)) hp (e1 ∙ ap (λ z. m1 ++ z) (e2 ∙ ap (λ z. m2 ++ z) h3 ∙ append-nil m2)) (chain_joined j c more m1 m2 h (level_to j more m2 i) i)

    chain_from : (j : ℕ) (v : Chain) (ms : Spelling Token) → g.IsChain (suc j) v ms → (chain_raw j).spells v ms
    chain_from j v ms (g.tighter i c m h) = (c, m, [], h, ([], [], [], refl, (refl, refl), refl), sym (append-nil m))
    chain_from j v ms (g.level i c x more m1 m2 h t) = (c, m1, m2, h, (x ∷ more, m2, [], level_from i (x ∷ more) m2 t, (refl, refl), sym (append-nil m2)), refl)

    operator_ends : (j : ℕ) (t : Token) (rest : List Token) → j < ranks → is (k.Rank j) t ≡ true → EndsChain j (t ∷ rest)
    operator_ends j t rest lt h =
        let e = eqb-true (rank t) j h in
        (rank_no_post t (omega (arith, e)), omega (arith, e))

    rank_above : (j : ℕ) (rest : List Token) → suc j ≤ first_rank rest → sees (is (k.Rank j)) rest ≡ false
    rank_above j [] h = refl
    rank_above j (t ∷ rest) h = not_rank (rank t) j h (is (k.Rank j) t) refl

    level_ends : (j : ℕ) → j < ranks → (more : List ChainStep) (ms : Spelling Token) (rest : List Token) → AllSpelled (level_step j) more ms → EndsChain (suc j) rest → EndsChain j (tokens_of ms ++ rest)
    level_ends j lt [] ms rest s h = subst (λ z. EndsChain j (tokens_of z ++ rest)) (sym s) (h.0, omega (arith, h.1))
    level_ends j lt (x ∷ more) ms rest s h =
        let v = level_starts j x s.0 s.2 in
        subst (λ z. EndsChain j (tokens_of z ++ rest)) (sym (s.4 ∙ ap (λ z. z ++ s.1) v.2)) (operator_ends j v.0.0 (tokens_of (v.1 ++ s.1) ++ rest) lt v.3)

    chain_exact : (j : ℕ) → j ≤ ranks → Exact (suc n) (r.chain n below j) (chain_lang j)
    unfolding r.chain
    chain_exact zero le =
        as_lang (chain_lang zero) (seq cast_exact (λ c. final_exact (suc n) (EndsChain zero) (to_chain.One c)) (λ c v o rest s h. at_end EndsPost rest s.1 h.0))
        (λ v ms s. as_is (g.IsChain zero) s.4.0 (s.5 ∙ ap (λ z. s.1 ++ z) s.4.1 ∙ append-nil s.1) (g.operand s.0 s.1 s.3))
        operand_from
        (λ v rest h. λ c. h)
      where
        operand_from : (v : Chain) (ms : Spelling Token) → g.IsChain zero v ms → (then_lang cast_lang (λ c. final_lang (EndsChain zero) (to_chain.One c))).spells v ms
        operand_from v ms (g.operand c m h) = (c, m, [], h, (refl, refl), sym (append-nil m))
    chain_exact (suc j) le =
        let inner : Exact (suc n) (r.chain n below j) (chain_lang j) = chain_exact j (omega arith) in
        let lt : j < ranks = omega arith in
        as_lang (chain_lang (suc j))
        (seq inner (λ c. seq (loop (is (k.Rank j))
        (tok_exact (is (k.Rank j)) (an_operator j) (operator_rank j lt) (λ t. seq inner (λ o. final_exact (suc n) (EndsChain j) (g.step_of t o)) (λ c v o rest s h. at_end (EndsChain j) rest s.1 h)))
        (level_starts j) (λ a x xs h. λ t o. operator_ends j x xs lt h))
        (λ more. final_exact (suc n) (EndsChain (suc j)) (r.joined c more))
        (λ more v o rest s h. at_end (λ z. (sees (is (k.Rank j)) z ≡ false) × ((a : ChainStep) → (level_step j).halts a z)) rest s.1 (rank_above j rest h.1, λ a t o. (h.0, omega (arith, h.1)))))
        (λ c v o rest s h. subst (λ z. EndsChain j (tokens_of z ++ rest)) (sym (s.5 ∙ ap (λ z. s.1 ++ z) s.4.1 ∙ append-nil s.1)) (level_ends j lt s.0 s.1 rest s.3 (h s.0))))
        (chain_to j) (chain_from j) (λ v rest h. λ c more. h)

    pub chain_turns : (j : ℕ) → j < ranks → LoopLaws (is (k.Rank j)) (r.chain_step n below j)
    chain_turns j lt =
        let inner : Exact (suc n) (r.chain n below j) (chain_lang j) = chain_exact j (omega arith) in
        loop_laws (is (k.Rank j))
        (tok_exact (is (k.Rank j)) (an_operator j) (operator_rank j lt) (λ t. seq inner (λ o. final_exact (suc n) (EndsChain j) (g.step_of t o)) (λ c v o rest s h. at_end (EndsChain j) rest s.1 h)))
        (level_starts j) (λ a x xs h. λ t o. operator_ends j x xs lt h)

    -- ---- conditionals

    module _ (D : Exact n below.cond cond_lang) where
      abbrev choice_raw : Token → Language Token Choice
      choice_raw q = then_lang expr_lang (λ a. tok_lang (is k.Colon) (λ e. then_lang cond_lang (λ b. final_lang EndsCond (g.choice_of q a e b))))

      choice_exact : (q : Token) → Exact n (r.choice_from n below q) (choice_raw q)
      unfolding r.choice_from
      choice_exact q =
          seq E (λ a. kind_exact k.Colon (a_mark m.Colon) refl (λ e. seq D (λ b. final_exact n EndsCond (g.choice_of q a e b)) (λ b v o rest s h. at_end EndsCond rest s.1 h)))
          (λ e v o rest s h. head EndsExpr s.0 rest s.4 (λ more. ends_expr k.Colon refl s.0 more s.2))

      abbrev cond_raw : Language Token Cond
      cond_raw = then_lang (chain_lang ranks) (λ c. pick_lang (is k.Question)
          (then_lang (tok_lang (is k.Question) (λ q. deep_lang (choice_raw q))) (λ x. final_lang EndsCond (g.cond_of c (Some x))))
          (final_lang EndsCond (g.cond_of c None)))

      cond_to : (v : Cond) (ms : Spelling Token) → cond_raw.spells v ms → g.IsCond v ms
      cond_to v ms (c, m1, o1, h, inl (x, m2, o2, (q, m3, hq, (m4, (a, m5, o5, ha, (e, o6, he, (b, m7, o7, hb, (hx, h7), e7), e6), e5), e4), e3), (hp, h2), e2), e1) =
          as_is g.IsCond (hp ∙ ap (λ z. g.cond_of c (Some z)) hx)
          (e1 ∙ ap (λ z. m1 ++ z) (e2 ∙ ap (λ z. m2 ++ z) h2 ∙ append-nil m2 ∙ join0 e3 (e4 ∙ ap deeper (e5 ∙ ap (λ z. m5 ++ z) (join0 e6 (e7 ∙ ap (λ z. m7 ++ z) h7 ∙ append-nil m7))))))
          (g.choice c q e a b m1 m5 m7 h hq ha he hb)
      cond_to v ms (c, m1, o1, h, inr ((hp, h2), b), e1) = as_is g.IsCond hp (e1 ∙ ap (λ z. m1 ++ z) h2 ∙ append-nil m1) (g.test c m1 h)

      cond_from : (v : Cond) (ms : Spelling Token) → g.IsCond v ms → cond_raw.spells v ms
      cond_from v ms (g.test c m h) = (c, m, [], h, inr ((refl, refl), refl), sym (append-nil m))
      cond_from v ms (g.choice c q e a b m1 m5 m7 h hq ha he hb) =
          (c, m1, _, h, inl (g.choice_of q a e b, _, [], (q, _, hq, (_, (a, m5, _, ha, (e, _, he, (b, m7, [], hb, (refl, refl), sym (append-nil m7)), refl), refl), refl), refl), (refl, refl), sym (append-nil _)), refl)

      question_head : (x : Choice) (v : Cond) (ms : Spelling Token) (rest : List Token) (c : Chain) → (then_lang (tok_lang (is k.Question) (λ q. deep_lang (choice_raw q))) (λ x. final_lang EndsCond (g.cond_of c (Some x)))).spells v ms
          → (q : Token) × (o : Spelling Token) × (ms ≡ (q, 0) ∷ o) × (is k.Question q ≡ true)
      question_head x v ms rest c s = (s.3.0, s.3.1 ++ s.2, s.5 ∙ ap (λ z. z ++ s.2) s.3.4, s.3.2)

      cond_part_ends : (c : Chain) (v : Cond) (ms : Spelling Token) (rest : List Token) → (pick_lang (is k.Question)
          (then_lang (tok_lang (is k.Question) (λ q. deep_lang (choice_raw q))) (λ x. final_lang EndsCond (g.cond_of c (Some x))))
          (final_lang EndsCond (g.cond_of c None))).spells v ms → EndsCond rest → EndsChain ranks (tokens_of ms ++ rest)
      cond_part_ends c v ms rest (inl s) h =
          let t = question_head s.0 v ms rest c s in
          subst (λ z. EndsChain ranks (tokens_of z ++ rest)) (sym t.2) (ends_chain k.Question refl ranks (lit≤ tt) t.0 (tokens_of t.1 ++ rest) t.3)
      cond_part_ends c v ms rest (inr (s, b)) h = at_end (EndsChain ranks) rest s.1 h.0

      pub cond_exact : Exact (suc n) (r.conditional n below) cond_lang
      unfolding r.conditional
      cond_exact =
          as_lang cond_lang
          (seq (chain_exact ranks (lit≤ tt)) (λ c. branch (is k.Question)
          (seq (kind_exact k.Question (a_mark m.Question) refl (λ q. deep_exact n (r.choice_from n below q) (choice_raw q) (choice_exact q))) (λ x. final_exact (suc n) EndsCond (g.cond_of c (Some x))) (λ x v o rest s h. λ q a e b. at_end EndsCond rest s.1 h))
          (final_exact (suc n) EndsCond (g.cond_of c None))
          (λ v ms rest s. let t = question_head s.0 v ms rest c s in sees_head (is k.Question) rest t.2 t.3)
          (λ v rest s h. h.1))
          (λ c v o rest s h. cond_part_ends c v o rest s h.1))
          cond_to cond_from (λ v rest h. λ c. (λ x. h, h))

      -- ---- assignments

      module _ (A : Exact n below.assign assign_lang) where
        bare_cond : (c : Chain) (o : Option Choice) → r.bare (g.cond_of c o) ≡ r.bare_with c o
        unfolding r.bare
        bare_cond c o = ap (λ z. r.bare_with z.test z.choice) (out-roll-Cond (record { test = c; choice = o }))

        bare_cast_unary : (c : Cast) (m : Spelling Token) → g.IsCast c m → (u : Unary) → r.bare_cast (out-Cast c) ≡ Some u → g.IsUnary u m
        bare_cast_unary c m (g.to l x s d m1 m2 h i j o) u e = let none = ap r.bare_cast (outs-To l s x d) in let bad : None ≡ Some u = sym none ∙ e in absurd (cc)
        bare_cast_unary c m (g.of v m1 h) u e = let is = ap r.bare_cast (outs-Of v) in let both : Some v ≡ Some u = sym is ∙ e in let same : v ≡ u = cc in subst (λ z. g.IsUnary z m1) same h

        bare_unary : (j : ℕ) (c : Chain) (m : Spelling Token) → g.IsChain j c m → (u : Unary) → r.bare_chain (out-Chain c) ≡ Some u → g.IsUnary u m
        bare_unary j c m (g.operand d m1 h) u e = bare_cast_unary d m1 h u (sym (ap r.bare_chain (outs-One d)) ∙ e)
        bare_unary j c m (g.tighter i d m1 h) u e = bare_unary i d m1 h u e
        bare_unary j c m (g.level i d x more m1 m2 h t) u e = let none = ap r.bare_chain (outs-Level d (x ∷ more)) in let bad : None ≡ Some u = sym none ∙ e in absurd (cc)

        cond_unary : (c : Cond) (m : Spelling Token) → g.IsCond c m → (u : Unary) → r.bare c ≡ Some u → g.IsUnary u m
        cond_unary c m (g.test d m1 h) u e = bare_unary ranks d m1 h u (sym (bare_cond d None) ∙ e)
        cond_unary c m (g.choice d q x a b m1 m2 m3 h i j l o) u e = let bad : None ≡ Some u = sym (bare_cond d (Some (g.choice_of q a x b))) ∙ e in absurd (cc)

        abbrev lone : Unary → Cond
        lone u = g.cond_of (to_chain.One (to_cast.Of u)) None

        lone_bare : (u : Unary) → r.bare (lone u) ≡ Some u
        lone_bare u = bare_cond (to_chain.One (to_cast.Of u)) None ∙ ap r.bare_chain (outs-One (to_cast.Of u)) ∙ ap r.bare_cast (outs-Of u)

        up : (j : ℕ) (c : Chain) (m : Spelling Token) → g.IsChain zero c m → g.IsChain j c m
        up zero c m h = h
        up (suc j) c m h = g.tighter j c m (up j c m h)

        lone_spelled : (u : Unary) (m : Spelling Token) → g.IsUnary u m → g.IsCond (lone u) m
        lone_spelled u m h = g.test _ m (up ranks _ m (g.operand _ m (g.of u m h)))

        abbrev assign_part : Cond → Option Unary → Language Token Assign
        assign_part c None = final_lang EndsAssign (to_assign.Cond c)
        assign_part c (Some u) = pick_lang (is k.Assignment) (tok_lang (is k.Assignment) (λ t. inner_lang assign_lang (λ a. final_lang EndsAssign (to_assign.Set u t a)))) (final_lang EndsAssign (to_assign.Cond c))

        part_exact : (c : Cond) (o : Option Unary) → Exact (suc n) (r.assign_from n below c o) (assign_part c o)
        part_exact c None = final_exact (suc n) EndsAssign (to_assign.Cond c)
        part_exact c (Some u) =
            branch (is k.Assignment) (kind_exact k.Assignment (a_mark m.Assign) refl (λ t. inner_exact A (λ a. final_exact (suc n) EndsAssign (to_assign.Set u t a)) (λ a v o rest s h. at_end EndsAssign rest s.1 h)))
            (final_exact (suc n) EndsAssign (to_assign.Cond c))
            (λ v ms rest s. sees_head (is k.Assignment) rest s.4 s.2) (λ v rest s h. h.1)

        part_ends : (c : Cond) (o : Option Unary) (v : Assign) (ms : Spelling Token) (rest : List Token) → (assign_part c o).spells v ms → (assign_part c o).halts v rest → EndsCond (tokens_of ms ++ rest)
        part_ends c None v ms rest s h = at_end EndsCond rest s.1 h.0
        part_ends c (Some u) v ms rest (inr (s, b)) h = at_end EndsCond rest s.1 h.1.0
        part_ends c (Some u) v ms rest (inl s) h = head EndsCond s.0 rest s.4 (λ more. (ends_chain k.Assignment refl ranks (lit≤ tt) s.0 more s.2, apart k.Assignment k.Question refl s.0 s.2))

        part_halts : (c : Cond) (o : Option Unary) (v : Assign) (rest : List Token) → EndsAssign rest → (assign_part c o).halts v rest
        part_halts c None v rest h = h
        part_halts c (Some u) v rest h = (λ t a. h, h)

        part_to : (c : Cond) (m1 : Spelling Token) → g.IsCond c m1 → (o : Option Unary) → r.bare c ≡ o → (v : Assign) (m2 : Spelling Token) → (assign_part c o).spells v m2 → g.IsAssign v (m1 ++ m2)
        part_to c m1 h None e v m2 s = as_is g.IsAssign s.0 (ap (λ z. m1 ++ z) s.1 ∙ append-nil m1) (g.value c m1 h)
        part_to c m1 h (Some u) e v m2 (inr (s, b)) = as_is g.IsAssign s.0 (ap (λ z. m1 ++ z) s.1 ∙ append-nil m1) (g.value c m1 h)
        part_to c m1 h (Some u) e v m2 (inl (t, o, ht, (a, m3, o3, ha, (hp, h3), e3), e2)) =
            as_is g.IsAssign hp (ap (λ z. m1 ++ z) (join0 e2 (e3 ∙ ap (λ z. deeper m3 ++ z) h3 ∙ append-nil (deeper m3)))) (g.set u t a m1 m3 (cond_unary c m1 h u e) ht ha)

        abbrev assign_raw : Language Token Assign
        assign_raw = then_lang cond_lang (λ c. assign_part c (r.bare c))

        part_value : (c : Cond) (o : Option Unary) → (assign_part c o).spells (to_assign.Cond c) []
        part_value c None = (refl, refl)
        part_value c (Some u) = inr ((refl, refl), refl)

        assign_rules_from : (v : Assign) (ms : Spelling Token) → g.IsAssign v ms → assign_raw.spells v ms
        assign_rules_from v ms (g.value c m h) = (c, m, [], h, part_value c (r.bare c), sym (append-nil m))
        assign_rules_from v ms (g.set u t a m1 m2 hu ht ha) = (
          lone u,
          m1,
          _,
          lone_spelled u m1 hu,
          subst (λ z. (assign_part (lone u) z).spells (to_assign.Set u t a) ((t, 0) ∷ deeper m2)) (sym (lone_bare u)) (inl (t, deeper m2, ht, (a, m2, [], ha, (refl, refl), sym (append-nil (deeper m2))), refl)),
          refl,
        )

        pub assign_exact : Exact (suc n) (r.assign n below) assign_lang
        unfolding r.assign
        assign_exact =
            as_lang assign_lang
            (seq cond_exact (λ c. part_exact c (r.bare c)) (λ c v o rest s h. part_ends c (r.bare c) v o rest s h))
            (λ v ms s. as_is g.IsAssign refl s.5 (part_to s.0 s.1 s.3 (r.bare s.0) refl v s.2 s.4))
            assign_rules_from (λ v rest h. λ c. part_halts c (r.bare c) v rest h)

        -- ---- lists

        abbrev comma_raw : Language Token CommaStep
        comma_raw = tok_lang (is k.Comma) (λ t. then_lang assign_lang (λ a. final_lang EndsAssign (g.comma_of t a)))

        comma_exact : Exact (suc n) (r.comma_step n below) comma_raw
        unfolding r.comma_step
        comma_exact = kind_exact k.Comma (a_mark m.Comma) refl (λ t. seq assign_exact (λ a. final_exact (suc n) EndsAssign (g.comma_of t a)) (λ a v o rest s h. at_end EndsAssign rest s.1 h))

        commas_to : (v : List CommaStep) (ms : Spelling Token) → AllSpelled comma_raw v ms → g.AreCommas v ms
        commas_to [] ms s = subst (g.AreCommas []) (sym s) g.no_comma
        commas_to (x ∷ more) ms (m1, m2, (t, o, h, (a, m3, o3, ha, (hp, h3), e3), e1), rest, e0) =
            as_is g.AreCommas (ap (λ z. z ∷ more) hp) (e0 ∙ ap (λ z. z ++ m2) (join0 e1 (e3 ∙ ap (λ z. m3 ++ z) h3 ∙ append-nil m3))) (g.comma t a more m3 m2 h ha (commas_to more m2 rest))

        commas_from : (v : List CommaStep) (ms : Spelling Token) → g.AreCommas v ms → AllSpelled comma_raw v ms
        commas_from v ms g.no_comma = refl
        commas_from v ms (g.comma t a more m1 m2 h ha rest) = ((t, 0) ∷ m1, m2, (t, m1, h, (a, m1, [], ha, (refl, refl), sym (append-nil m1)), refl), commas_from more m2 rest, refl)

        comma_ends : (t : Token) (rest : List Token) → is k.Comma t ≡ true → EndsAssign (t ∷ rest)
        comma_ends t rest h = ((ends_chain k.Comma refl ranks (lit≤ tt) t rest h, apart k.Comma k.Question refl t h), apart k.Comma k.Assignment refl t h)

        commas_end : (more : List CommaStep) (ms : Spelling Token) (rest : List Token) → g.AreCommas more ms → EndsExpr rest → EndsAssign (tokens_of ms ++ rest)
        commas_end more ms rest g.no_comma h = h.0
        commas_end more ms rest (g.comma t a x m1 m2 i j o) h = comma_ends t (tokens_of (m1 ++ m2) ++ rest) i

        pub comma_turns : LoopLaws (is k.Comma) (r.comma_step n below)
        comma_turns = loop_laws (is k.Comma) comma_exact (λ v ms s. ((s.0, 0), s.1, s.4, s.2)) (λ v x xs h. λ t a. comma_ends x xs h)

        abbrev list_raw : Language Token Expr
        list_raw = then_lang assign_lang (λ a. then_lang (many_lang (is k.Comma) comma_raw) (λ more. final_lang EndsExpr (g.expr_of a more)))

        list_from : (v : Expr) (ms : Spelling Token) → g.IsExpr v ms → list_raw.spells v ms
        list_from v ms (g.list a more m1 m2 h i) = (a, m1, m2, h, (more, m2, [], commas_from more m2 i, (refl, refl), sym (append-nil m2)), refl)

        pub expr_exact : Exact (suc n) (r.expression n below) expr_lang
        unfolding r.expression
        expr_exact =
            as_lang expr_lang
            (seq assign_exact (λ a. seq (loop (is k.Comma) comma_exact (λ v ms s. ((s.0, 0), s.1, s.4, s.2)) (λ v x xs h. λ t a. comma_ends x xs h))
            (λ more. final_exact (suc n) EndsExpr (g.expr_of a more))
            (λ more v o rest s h. at_end (λ z. (sees (is k.Comma) z ≡ false) × ((x : CommaStep) → comma_raw.halts x z)) rest s.1 (h.1, λ x t a. h.0)))
            (λ a v o rest s h. subst (λ z. EndsAssign (tokens_of z ++ rest)) (sym (s.5 ∙ ap (λ z. s.1 ++ z) s.4.1 ∙ append-nil s.1)) (commas_end s.0 s.1 rest (commas_to s.0 s.1 s.3) (h s.0))))
            (λ v ms s. let t = s.4 in as_is g.IsExpr t.4.0 (s.5 ∙ ap (λ z. s.1 ++ z) (t.5 ∙ ap (λ z. t.1 ++ z) t.4.1 ∙ append-nil t.1)) (g.list s.0 t.0 s.1 t.1 s.3 (commas_to t.0 t.1 t.3)))
            list_from (λ v rest h. λ a more. h)
