-- What a part is judged to be is what the walk meets: each part of an expression.
use Rattle.std.proofs.Common.{◌≡◌, inl, inr, ℕ, suc, ◌+◌, ◌<◌, ◌≤◌, ◌^◌, Bool, true, false, List, [], ◌∷◌, ◌++◌, Option, Some, None, refl, sym, ap, ◌∙◌, subst, arith}
use Rattle.std.specs.Prelude.{map, slice_get}
use Rattle.clc_lexer.specs.declared.token.Token.{Token}
use Rattle.clc_lexer.specs.declared.marks.Mark.{Mark}
use Rattle.clc_lexer.specs.declared.marks.Mark.TheVariants as m
use Rattle.clc_tree.specs.declared.expressions.Scalar.{Scalar as Written}
use Rattle.clc_types.specs.declared.type_rule.TypeRule.{TypeRule}
use Rattle.clc_types.specs.declared.type_rule.TypeRule.TheVariants.{S1}
use Rattle.clc_types.specs.declared.forms.Fault.{Fault}
use Rattle.clc_types.specs.declared.forms.Named.{Named}
use Rattle.clc_types.specs.declared.forms.Named.TheVariants as nm
use Rattle.clc_types.specs.declared.forms.Form.{Form}
use Rattle.clc_types.specs.declared.forms.Sofar.{Sofar}
use Rattle.clc_types.specs.declared.forms.Argument.{Argument}
use Rattle.clc_types.specs.Judged.{Judged, Fine, Faulty, both, next, unless, faults_of, Part, Among, IsLeast, Context, none, one, two, leaf}
use Rattle.clc_types.specs.Words.{name_of, mark_of, type_tokens}
use Rattle.clc_types.specs.Rules.{scalar_needed, pointer_needed, step_needs, index_needs, operator_needs, conditional_needs, assign_needs, call_needs, builtin_needs}
use Rattle.clc_types.specs.Typing.{Operand, Series, Suffix, At, Stepped, Choices, Couple, couple, number_form, paren_form, index_form, deref_form, post_form, step_form, prefix_form, cast_form, first_of_chain, further, chain_form, conditional_form, assign_form, argument, call_form, builtin_form, name_at, callee_at, called, start, operators, chain, after_comma, series, further_arguments, first_argument, no_arguments, arguments, suffixes, prefixed, conditional}
use Rattle.clc_types.specs.InternalScope.{Known}
use Rattle.clc_types.specs.InternalWalk.{Walked, Right, Wrong, Walk, after, guarded, bump, paren_end, index_end, post_end, step_end, prefix_end, by_mark, cast_end, chain_start, operator_end, chain_end, conditional_end, assign_end, by_callee, call_end, walk_name, walk_callee, WalkOperand, WalkSeries, WalkSuffix, At as WalkAt, Stepped as WalkStepped, WalkChoices, walk_operator, walk_operators, comma, walk_rest, walk_series, walk_argument, walk_further, walk_arguments, walk_suffix, walk_suffixes, walk_conditional}
use Rattle.clc_walk_exact.proofs.Least.{Inside, Same, inside_none, wider, guard_same, after_assoc, next_same, two_same, inside_unless, inside_next, inside_both, both_fine, first_least, next_fine}
use Rattle.clc_walk_exact.proofs.Needs.{Sound, sound_none, sound_wider, scalar_sound, pointer_sound, step_sound, index_sound, operator_sound, conditional_sound, assign_sound, call_sound, builtin_sound, Placed, placed_push}
use Rattle.clc_walk_exact.proofs.Agree.{bump_is, same_at, context, Agreed, part, Fair, Good, good_as, right_end, one_good, two_good}

right_at : {A : Type 0} (a : A) (q r : ℕ) → q ≡ r → Right a q ≡ Right a r
right_at a q r e = ap (λ z. Right a z) e

-- a test at the operand
pub at_operand : (p q : ℕ) (fs : List Fault) → p ≤ q → Sound q (q + 1) fs → Sound p (q + 1) fs
at_operand p q fs a h = sound_wider q (q + 1) p (q + 1) fs a (omega arith) h

pub plus_zero : (r : ℕ) → r ≡ r + 0
plus_zero r = omega arith

module _ (look : ℕ → List ℕ → Option Named) (k : Known) where
  abbrev c : Context
  c = context look k

  pub number_good : (t : Token) → Good look k (leaf (λ c p. Fine (number_form t))) (λ p. Right (number_form t) (bump p 1))
  number_good t = record { some = omega arith; fair = record { inside = λ p. inside_none p (p + 1); same = λ p a. (refl, bump_is p 1 a.fits) } }

  one_fault : (p : ℕ) (r : TypeRule) (hi : ℕ) → p < hi → Inside p hi (record { token = p; rule = r } ∷ [])
  one_fault p r hi h = record { all = by }
    where
      by : (g : Fault) → Among g (record { token = p; rule = r } ∷ []) → (p ≤ g.token) × (g.token < hi)
      by g (inl e) = let t = ap (λ f. f.token) e in (omega (arith, t), omega (arith, t, h))
      by g (inr e) = absurd e

  name_inside : (t : Token) (p : ℕ) (x : Option Named) → Inside p (p + 1) (faults_of (name_at t p x))
  name_inside t p None = one_fault p S1 (p + 1) (omega arith)
  name_inside t p (Some (nm.Function f)) = one_fault p S1 (p + 1) (omega arith)
  name_inside t p (Some (nm.Builtin f)) = one_fault p S1 (p + 1) (omega arith)
  name_inside t p (Some (nm.Variable v s)) = inside_none p (p + 1)

  name_same : (t : Token) (p : ℕ) → p + 1 < 2 ^ 32 → (x : Option Named) → Same (p + 1) (name_at t p x) (walk_name t p x)
  name_same t p h None = first_least _ [] (tt, tt)
  name_same t p h (Some (nm.Function f)) = first_least _ [] (tt, tt)
  name_same t p h (Some (nm.Builtin f)) = first_least _ [] (tt, tt)
  name_same t p h (Some (nm.Variable v s)) = (refl, bump_is p 1 h)

  pub name_good : (t : Token) → Good look k (leaf (λ c p. name_at t p (c.look p (name_of t)))) (λ p. walk_name t p (k.look (name_of t)))
  name_good t = record {
    some = omega arith;
    fair = record {
      inside = λ p. name_inside t p (look p (name_of t));
      same = λ p a. subst (λ z. Same (p + 1) (name_at t p z) (walk_name t p (k.look (name_of t)))) (sym (a.same p (omega arith) (omega arith) (name_of t))) (name_same t p a.fits (k.look (name_of t)));
    };
  }

  pub paren_good : (t : Token) (a : Part Form) (w : Walk Form) → Good look k a w → Good look k (one 1 a 1 none (paren_form t)) (λ p. after (w (bump p 1)) (λ x q. paren_end t x q))
  unfolding paren_end
  paren_good t a w g =
      one_good look k 1 1 a w none (paren_form t) (λ p. bump p 1) (λ p q x r. paren_end t x r) g (λ p q x h. sound_none p (q + 1)) (λ p h. bump_is p 1 h)
      (λ p q x r h. right_at (paren_form t x) (bump r 1) (r + 1) (bump_is r 1 h))

  pub step_good : (t : Token) (a : Part Form) (w : Walk Form) → Good look k a w → Good look k (one 1 a 0 (λ p q x. step_needs q x) (step_form t)) (λ p. after (w (bump p 1)) (λ x q. step_end t (bump p 1) x q))
  unfolding step_end
  step_good t a w g =
      one_good look k 1 0 a w (λ p q x. step_needs q x) (step_form t) (λ p. bump p 1) (λ p q x r. step_end t q x r) g (λ p q x h. at_operand p q _ h (step_sound q x)) (λ p h. bump_is p 1 h)
      (λ p q x r h. ap (λ z. guarded (step_needs q x) (Right (step_form t x) z)) (plus_zero r))

  pub cast_good : (t : Token) (s : Written) (a : Part Form) (w : Walk Form) → Good look k a w
      → Good look k (one (2 + type_tokens s) a 0 (λ p q x. scalar_needed q x.kind) (cast_form t s)) (λ p. after (w (bump p (2 + type_tokens s))) (λ x q. cast_end t s (bump p (2 + type_tokens s)) x q))
  unfolding cast_end
  cast_good t s a w g =
      one_good look k (2 + type_tokens s) 0 a w (λ p q x. scalar_needed q x.kind) (cast_form t s) (λ p. bump p (2 + type_tokens s)) (λ p q x r. cast_end t s q x r) g
      (λ p q x h. at_operand p q _ h (scalar_sound q x.kind)) (λ p h. bump_is p (2 + type_tokens s) h)
      (λ p q x r h. ap (λ z. guarded (scalar_needed q x.kind) (Right (cast_form t s x) z)) (plus_zero r))

  deref_good : (t : Token) (a : Part Form) (w : Walk Form) → Good look k a w
      → Good look k (one 1 a 0 (λ p q x. pointer_needed q x.kind) (deref_form t)) (λ p. after (w (bump p 1)) (λ x q. guarded (pointer_needed (bump p 1) x.kind) (Right (deref_form t x) q)))
  deref_good t a w g =
      one_good look k 1 0 a w (λ p q x. pointer_needed q x.kind) (deref_form t) (λ p. bump p 1) (λ p q x r. guarded (pointer_needed q x.kind) (Right (deref_form t x) r)) g
      (λ p q x h. at_operand p q _ h (pointer_sound q x.kind)) (λ p h. bump_is p 1 h)
      (λ p q x r h. ap (λ z. guarded (pointer_needed q x.kind) (Right (deref_form t x) z)) (plus_zero r))

  plain_good : (t : Token) (a : Part Form) (w : Walk Form) → Good look k a w
      → Good look k (one 1 a 0 (λ p q x. scalar_needed q x.kind) (prefix_form t)) (λ p. after (w (bump p 1)) (λ x q. guarded (scalar_needed (bump p 1) x.kind) (Right (prefix_form t x) q)))
  plain_good t a w g =
      one_good look k 1 0 a w (λ p q x. scalar_needed q x.kind) (prefix_form t) (λ p. bump p 1) (λ p q x r. guarded (scalar_needed q x.kind) (Right (prefix_form t x) r)) g
      (λ p q x h. at_operand p q _ h (scalar_sound q x.kind)) (λ p h. bump_is p 1 h)
      (λ p q x r h. ap (λ z. guarded (scalar_needed q x.kind) (Right (prefix_form t x) z)) (plus_zero r))

  by_mark_good : (t : Token) (o : Mark) (a : Part Form) (w : Walk Form) → Good look k a w → Good look k (prefixed t o a) (λ p. after (w (bump p 1)) (λ x q. by_mark t o (bump p 1) x q))
  by_mark_good t m.ShiftLeftAssign a w g = plain_good t a w g
  by_mark_good t m.ShiftRightAssign a w g = plain_good t a w g
  by_mark_good t m.PlusPlus a w g = plain_good t a w g
  by_mark_good t m.MinusMinus a w g = plain_good t a w g
  by_mark_good t m.ShiftLeft a w g = plain_good t a w g
  by_mark_good t m.ShiftRight a w g = plain_good t a w g
  by_mark_good t m.LessEqual a w g = plain_good t a w g
  by_mark_good t m.GreaterEqual a w g = plain_good t a w g
  by_mark_good t m.EqualEqual a w g = plain_good t a w g
  by_mark_good t m.BangEqual a w g = plain_good t a w g
  by_mark_good t m.AndAnd a w g = plain_good t a w g
  by_mark_good t m.OrOr a w g = plain_good t a w g
  by_mark_good t m.PlusAssign a w g = plain_good t a w g
  by_mark_good t m.MinusAssign a w g = plain_good t a w g
  by_mark_good t m.StarAssign a w g = plain_good t a w g
  by_mark_good t m.SlashAssign a w g = plain_good t a w g
  by_mark_good t m.PercentAssign a w g = plain_good t a w g
  by_mark_good t m.AndAssign a w g = plain_good t a w g
  by_mark_good t m.OrAssign a w g = plain_good t a w g
  by_mark_good t m.XorAssign a w g = plain_good t a w g
  by_mark_good t m.LeftParen a w g = plain_good t a w g
  by_mark_good t m.RightParen a w g = plain_good t a w g
  by_mark_good t m.LeftBrace a w g = plain_good t a w g
  by_mark_good t m.RightBrace a w g = plain_good t a w g
  by_mark_good t m.LeftBracket a w g = plain_good t a w g
  by_mark_good t m.RightBracket a w g = plain_good t a w g
  by_mark_good t m.Semicolon a w g = plain_good t a w g
  by_mark_good t m.Comma a w g = plain_good t a w g
  by_mark_good t m.Question a w g = plain_good t a w g
  by_mark_good t m.Colon a w g = plain_good t a w g
  by_mark_good t m.Plus a w g = plain_good t a w g
  by_mark_good t m.Minus a w g = plain_good t a w g
  by_mark_good t m.Star a w g = deref_good t a w g
  by_mark_good t m.Slash a w g = plain_good t a w g
  by_mark_good t m.Percent a w g = plain_good t a w g
  by_mark_good t m.Ampersand a w g = plain_good t a w g
  by_mark_good t m.Bar a w g = plain_good t a w g
  by_mark_good t m.Caret a w g = plain_good t a w g
  by_mark_good t m.Tilde a w g = plain_good t a w g
  by_mark_good t m.Bang a w g = plain_good t a w g
  by_mark_good t m.Less a w g = plain_good t a w g
  by_mark_good t m.Greater a w g = plain_good t a w g
  by_mark_good t m.Assign a w g = plain_good t a w g

  pub prefix_good : (t : Token) (a : Part Form) (w : Walk Form) → Good look k a w → Good look k (prefixed t (mark_of t) a) (λ p. after (w (bump p 1)) (λ x q. prefix_end t (bump p 1) x q))
  unfolding prefix_end
  prefix_good t a w g = by_mark_good t (mark_of t) a w g

  pub assign_good : (o : Mark) (a b : Part Form) (v w : Walk Form) → Good look k a v → Good look k b w
      → Good look k (two a 1 b 0 (assign_needs o) (λ x q y. assign_form o x y)) (λ p. after (v p) (λ x q. after (w (bump q 1)) (λ y r. assign_end o p x (bump q 1) y r)))
  unfolding assign_end
  assign_good o a b v w g h =
      two_good look k 1 0 a v b w (assign_needs o) (λ x q y. assign_form o x y) (λ p x q y r. assign_end o p x q y r) g h (λ p x y e l. assign_sound o p _ x y l)
      (λ p q x y r l. ap (λ z. guarded (assign_needs o p x q y) (Right (assign_form o x y) z)) (plus_zero r))

  -- ---- chains

  pub record GoodOperand (o : Operand) (w : WalkOperand) : Type 0 where
    pub mark : o.mark ≡ w.mark
    pub value : Good look k o.value w.value

  abbrev pub GoodOperands : List Operand → List WalkOperand → Type 0
  GoodOperands [] [] = Unit {0}
  GoodOperands [] (w ∷ ws) = ⊥
  GoodOperands (x ∷ xs) [] = ⊥
  GoodOperands (x ∷ xs) (w ∷ ws) = GoodOperand x w × GoodOperands xs ws

  start_good : (a : Part Form) (v : Walk Form) → Good look k a v → Good look k (start a) (λ p. after (v p) (λ x q. Right (chain_start x) q))
  unfolding chain_start
  start_good a v g =
      one_good look k 0 0 a v none first_of_chain (λ p. p) (λ p q x r. Right (chain_start x) r) g (λ p q x h. sound_none p (q + 1)) (λ p h. omega arith) (λ p q x r h. right_at (first_of_chain x) r (r + 0) (plus_zero r))

  operator_good : (a : Part Sofar) (v : Walk Sofar) (o : Mark) (b : Part Form) (w : Walk Form) → Good look k a v → Good look k b w
      → Good look k (two a 1 b 0 (operator_needs o) (λ x q y. further o x y)) (λ p. after (v p) (λ x q. after (w (bump q 1)) (λ y r. operator_end o p x (bump q 1) y r)))
  unfolding operator_end
  operator_good a v o b w g h =
      two_good look k 1 0 a v b w (operator_needs o) (λ x q y. further o x y) (λ p x q y r. operator_end o p x q y r) g h (λ p x y e l. operator_sound o p _ x y l)
      (λ p q x y r l. ap (λ z. guarded (operator_needs o p x q y) (Right (further o x y) z)) (plus_zero r))

  pub operators_good : (a : Part Sofar) (v : Walk Sofar) (xs : List Operand) (ws : List WalkOperand) → Good look k a v → GoodOperands xs ws → Good look k (operators a xs) (λ p. after (v p) (λ s q. walk_operators p s q ws))
  operators_good a v [] [] g h = right_end look k a v g
  operators_good a v [] (w ∷ ws) g h = absurd h
  operators_good a v (x ∷ xs) [] g h = absurd h
  operators_good a v (x ∷ xs) (w ∷ ws) g h =
      let v1 : Walk Sofar = λ p. after (v p) (λ s q. walk_operator p s q w) in
      let g1 : Good look k (two a 1 x.value 0 (operator_needs x.mark) (λ y q z. further x.mark y z)) v1
      = subst (λ o. Good look k (two a 1 x.value 0 (operator_needs x.mark) (λ y q z. further x.mark y z)) (λ p. after (v p) (λ s q. after (w.value (bump q 1)) (λ y r. operator_end o p s (bump q 1) y r)))) h.0.mark
      (operator_good a v x.mark x.value w.value g h.0.value) in
      good_as look k (operators a (x ∷ xs)) (λ p. after (v1 p) (λ s q. walk_operators p s q ws)) (λ p. after (v p) (λ s q. walk_operators p s q (w ∷ ws)))
      (λ p. after_assoc (v p) (λ s q. walk_operator p s q w) (λ s q. walk_operators p s q ws))
      (operators_good (two a 1 x.value 0 (operator_needs x.mark) (λ y q z. further x.mark y z)) v1 xs ws g1 h.1)

  chain_end_good : (a : Part Sofar) (v : Walk Sofar) → Good look k a v → Good look k (one 0 a 0 none chain_form) (λ p. after (v p) (λ x q. chain_end x q))
  unfolding chain_end
  chain_end_good a v g =
      one_good look k 0 0 a v none chain_form (λ p. p) (λ p q x r. chain_end x r) g (λ p q x h. sound_none p (q + 1)) (λ p h. omega arith) (λ p q x r h. right_at (chain_form x) r (r + 0) (plus_zero r))

  pub chain_good : (a : Part Form) (v : Walk Form) (xs : List Operand) (ws : List WalkOperand) → Good look k a v → GoodOperands xs ws → Good look k (chain a xs) (λ p. after (v p) (λ x q. after (walk_operators p (chain_start x) q ws) chain_end))
  chain_good a v xs ws g h =
      let v1 : Walk Sofar = λ p. after (v p) (λ x q. Right (chain_start x) q) in
      let v2 : Walk Sofar = λ p. after (v1 p) (λ s q. walk_operators p s q ws) in
      good_as look k (chain a xs) (λ p. after (v2 p) (λ x q. chain_end x q)) (λ p. after (v p) (λ x q. after (walk_operators p (chain_start x) q ws) chain_end))
      (λ p. ap (λ z. after z chain_end) (after_assoc (v p) (λ x q. Right (chain_start x) q) (λ s q. walk_operators p s q ws)) ∙ after_assoc (v p) (λ x q. walk_operators p (chain_start x) q ws) chain_end)
      (chain_end_good (operators (start a) xs) v2 (operators_good (start a) v1 xs ws (start_good a v g) h))

  -- ---- series

  abbrev pub GoodAll : List (Part Form) → List (Walk Form) → Type 0
  GoodAll [] [] = Unit {0}
  GoodAll [] (w ∷ ws) = ⊥
  GoodAll (x ∷ xs) [] = ⊥
  GoodAll (x ∷ xs) (w ∷ ws) = Good look k x w × GoodAll xs ws

  pub record GoodSeries (s : Series) (w : WalkSeries) : Type 0 where
    pub first : Good look k s.first w.first
    pub rest : GoodAll s.rest w.rest

  with_commas : (xs : List (Part Form)) (ws : List (Walk Form)) → GoodAll xs ws → GoodOperands (map after_comma xs) (map comma ws)
  with_commas [] [] h = tt
  with_commas [] (w ∷ ws) h = absurd h
  with_commas (x ∷ xs) [] h = absurd h
  with_commas (x ∷ xs) (w ∷ ws) h = (record { mark = refl; value = h.0 }, with_commas xs ws h.1)

  of_parts : (a : Part Form) (v : Walk Form) (xs : List (Part Form)) (ws : List (Walk Form)) → Good look k a v → GoodAll xs ws → Good look k (series a xs) (λ p. after (v p) (λ x q. walk_rest p x q ws))
  of_parts a v [] [] g h = right_end look k a v g
  of_parts a v [] (w ∷ ws) g h = absurd h
  of_parts a v (x ∷ xs) [] g h = absurd h
  of_parts a v (x ∷ xs) (w ∷ ws) g h = chain_good a v (map after_comma (x ∷ xs)) (map comma (w ∷ ws)) g (with_commas (x ∷ xs) (w ∷ ws) h)

  pub series_good : (s : Series) (w : WalkSeries) → GoodSeries s w → Good look k (series s.first s.rest) (walk_series w)
  series_good s w g = of_parts s.first w.first s.rest w.rest g.first g.rest

  -- ---- suffixes

  abbrev pub GoodSuffix : Suffix → WalkSuffix → Type 0
  GoodSuffix (At a) (WalkAt w) = Good look k a w
  GoodSuffix (At a) (WalkStepped t) = ⊥
  GoodSuffix (Stepped t) (WalkAt w) = ⊥
  GoodSuffix (Stepped t) (WalkStepped u) = t ≡ u

  abbrev pub GoodSuffixes : List Suffix → List WalkSuffix → Type 0
  GoodSuffixes [] [] = Unit {0}
  GoodSuffixes [] (w ∷ ws) = ⊥
  GoodSuffixes (x ∷ xs) [] = ⊥
  GoodSuffixes (x ∷ xs) (w ∷ ws) = GoodSuffix x w × GoodSuffixes xs ws

  index_good : (a b : Part Form) (v w : Walk Form) → Good look k a v → Good look k b w
      → Good look k (two a 1 b 1 index_needs (λ x q y. index_form x y)) (λ p. after (v p) (λ x q. after (w (bump q 1)) (λ y r. index_end p x (bump q 1) y r)))
  unfolding index_end
  index_good a b v w g h =
      two_good look k 1 1 a v b w index_needs (λ x q y. index_form x y) (λ p x q y r. index_end p x q y r) g h (λ p x y e l. index_sound p _ x y l)
      (λ p q x y r l. ap (λ z. guarded (index_needs p x q y) (Right (index_form x y) z)) (bump_is r 1 l))

  post_good : (t : Token) (a : Part Form) (v : Walk Form) → Good look k a v → Good look k (one 0 a 1 (λ p q x. step_needs q x) (post_form t)) (λ p. after (v p) (λ x q. post_end t p x q))
  unfolding post_end
  post_good t a v g =
      one_good look k 0 1 a v (λ p q x. step_needs q x) (post_form t) (λ p. p) (λ p q x r. post_end t q x r) g (λ p q x h. at_operand p q _ h (step_sound q x)) (λ p h. omega arith)
      (λ p q x r h. ap (λ z. guarded (step_needs q x) (Right (post_form t x) z)) (bump_is r 1 h))

  pub suffixes_good : (a : Part Form) (v : Walk Form) (xs : List Suffix) (ws : List WalkSuffix) → Good look k a v → GoodSuffixes xs ws → Good look k (suffixes a xs) (λ p. after (v p) (λ x q. walk_suffixes p x q ws))
  suffixes_good a v [] [] g h = right_end look k a v g
  suffixes_good a v [] (w ∷ ws) g h = absurd h
  suffixes_good a v (x ∷ xs) [] g h = absurd h
  suffixes_good a v (At b ∷ xs) (WalkAt w ∷ ws) g h =
      let v1 : Walk Form = λ p. after (v p) (λ x q. walk_suffix p x q (WalkAt w)) in
      good_as look k (suffixes a (At b ∷ xs)) (λ p. after (v1 p) (λ y r. walk_suffixes p y r ws)) (λ p. after (v p) (λ x q. walk_suffixes p x q (WalkAt w ∷ ws)))
      (λ p. after_assoc (v p) (λ x q. walk_suffix p x q (WalkAt w)) (λ y r. walk_suffixes p y r ws))
      (suffixes_good (two a 1 b 1 index_needs (λ x q y. index_form x y)) v1 xs ws (index_good a b v w g h.0) h.1)
  suffixes_good a v (At b ∷ xs) (WalkStepped t ∷ ws) g h = absurd h.0
  suffixes_good a v (Stepped t ∷ xs) (WalkAt w ∷ ws) g h = absurd h.0
  suffixes_good a v (Stepped t ∷ xs) (WalkStepped u ∷ ws) g h =
      let v1 : Walk Form = λ p. after (v p) (λ x q. walk_suffix p x q (WalkStepped u)) in
      good_as look k (suffixes a (Stepped t ∷ xs)) (λ p. after (v1 p) (λ y r. walk_suffixes p y r ws)) (λ p. after (v p) (λ x q. walk_suffixes p x q (WalkStepped u ∷ ws)))
      (λ p. after_assoc (v p) (λ x q. walk_suffix p x q (WalkStepped u)) (λ y r. walk_suffixes p y r ws))
      (suffixes_good (one 0 a 1 (λ p q x. step_needs q x) (post_form t)) v1 xs ws
      (subst (λ z. Good look k (one 0 a 1 (λ p q x. step_needs q x) (post_form t)) (λ p. after (v p) (λ x q. post_end z p x q))) h.0 (post_good t a v g)) h.1)

  -- ---- conditionals

  pub record GoodChoices (x : Choices) (w : WalkChoices) : Type 0 where
    pub yes : Good look k x.yes w.yes
    pub no : Good look k x.no w.no

  abbrev pub GoodOption : Option Choices → Option WalkChoices → Type 0
  GoodOption None None = Unit {0}
  GoodOption None (Some w) = ⊥
  GoodOption (Some x) None = ⊥
  GoodOption (Some x) (Some w) = GoodChoices x w

  couple_good : (a b : Part Form) (v w : Walk Form) → Good look k a v → Good look k b w
      → Good look k (two a 1 b 0 (λ p x q y. []) couple) (λ p. after (v p) (λ x q. after (w (bump q 1)) (λ y r. Right (couple x (bump q 1) y) r)))
  couple_good a b v w g h =
      two_good look k 1 0 a v b w (λ p x q y. []) couple (λ p x q y r. Right (couple x q y) r) g h (λ p x y e l. sound_none p _) (λ p q x y r l. right_at (couple x q y) r (r + 0) (plus_zero r))

  abbrev place_in : ℕ → Judged Couple → ℕ
  place_in q (Fine o) = o.place
  place_in q (Faulty f fs) = q

  couple_place : (q : ℕ) (j l : Judged Form) (z : Couple) → next (both j l) (λ x. Fine (couple x.0 q x.1)) ≡ Fine z → z.place ≡ q
  couple_place q (Fine x) (Fine y) z e = sym (ap (λ o. place_in q o) e)
  couple_place q (Fine x) (Faulty f fs) z e = absurd (cc)
  couple_place q (Faulty f fs) (Fine y) z e = absurd (cc)
  couple_place q (Faulty f fs) (Faulty g gs) z e = absurd (cc)

  three_assoc : (p : ℕ) (v : Walked Form) (w z : Walk Form)
      → after (after v (λ x q. after (w (bump q 1)) (λ y r. Right (couple x (bump q 1) y) r))) (λ o r. after (z (bump r 1)) (λ y u. conditional_end p o.first o.place o.second (bump r 1) y u))
      ≡ after v (λ x q. after (w (bump q 1)) (λ y r. after (z (bump r 1)) (λ c u. conditional_end p x (bump q 1) y (bump r 1) c u)))
  three_assoc p (Right a q) w z = second (w (bump q 1))
    where
      second : (s : Walked Form) → after (after s (λ y r. Right (couple a (bump q 1) y) r)) (λ o r. after (z (bump r 1)) (λ y u. conditional_end p o.first o.place o.second (bump r 1) y u))
          ≡ after s (λ y r. after (z (bump r 1)) (λ c u. conditional_end p a (bump q 1) y (bump r 1) c u))
      second (Right y r) = refl
      second (Wrong f) = refl
  three_assoc p (Wrong f) w z = refl

  some_good : (a : Part Form) (v : Walk Form) (x : Choices) (w : WalkChoices) → Good look k a v → GoodChoices x w → Good look k (conditional a (Some x)) (walk_conditional v (Some w))
  unfolding conditional_end
  some_good a v x w g h =
      let v1 : Walk Couple = λ p. after (v p) (λ x q. after (w.yes (bump q 1)) (λ y r. Right (couple x (bump q 1) y) r)) in
      good_as look k (conditional a (Some x)) (λ p. after (v1 p) (λ o r. after (w.no (bump r 1)) (λ z u. conditional_end p o.first o.place o.second (bump r 1) z u))) (walk_conditional v (Some w))
      (λ p. three_assoc p (v p) w.yes w.no)
      (two_good look k 1 0 (two a 1 x.yes 0 (λ p x q y. []) couple) v1 x.no w.no (λ p c r z. conditional_needs p c.first c.place c.second r z) (λ c r z. conditional_form c.first c.second z)
      (λ p c r z u. conditional_end p c.first c.place c.second r z u) (couple_good a x.yes v w.yes g h.yes) h.no
      (λ p o z e l.
      let s = g.some in
      let t = h.yes.some in
      let i = couple_place (p + a.tokens + 1) (a.at c p) (x.yes.at c (p + a.tokens + 1)) o e in
      conditional_sound p o.place _ o.first o.second z (omega (arith, i, s)) (omega (arith, i, t)))
      (λ p q o y r l. ap (λ z. guarded (conditional_needs p o.first o.place o.second q y) (Right (conditional_form o.first o.second y) z)) (plus_zero r)))

  pub conditional_good : (a : Part Form) (v : Walk Form) (x : Option Choices) (w : Option WalkChoices) → Good look k a v → GoodOption x w → Good look k (conditional a x) (walk_conditional v w)
  conditional_good a v None None g h = g
  conditional_good a v None (Some w) g h = absurd h
  conditional_good a v (Some x) None g h = absurd h
  conditional_good a v (Some x) (Some w) g h = some_good a v x w g h

  -- ---- calls

  abbrev Holds : {A : Type 0} → (A → Type 0) → Judged A → Type 0
  Holds P (Fine a) = P a
  Holds P (Faulty f fs) = Unit {0}

  -- arguments that are judged stand in order
  abbrev InOrder : Part (List Argument) → Type 0
  InOrder a = (p : ℕ) → Holds (Placed p (p + a.tokens)) (a.at c p)

  first_in_order : (a : Part Form) (v : Walk Form) → Good look k a v → InOrder (first_argument a)
  first_in_order a v g = λ p. by p (a.at c p)
    where
      by : (p : ℕ) (j : Judged Form) → Holds (Placed p (p + a.tokens)) (next j (λ x. Fine (argument p x ∷ [])))
      by p (Fine x) = let s = g.some in (omega arith, omega (arith, s))
      by p (Faulty f fs) = tt

  one_more : (p q hi : ℕ) (j : Judged (List Argument)) (l : Judged Form) → q < hi → Holds (Placed p q) j → Holds (Placed p hi) (next (both j l) (λ x. Fine (x.0 ++ argument q x.1 ∷ [])))
  one_more p q hi (Fine xs) (Fine y) a h = placed_push p q hi xs (argument q y) h (omega arith) a
  one_more p q hi (Fine xs) (Faulty f fs) a h = tt
  one_more p q hi (Faulty f fs) (Fine y) a h = tt
  one_more p q hi (Faulty f fs) (Faulty g gs) a h = tt

  placed_to : (p q r : ℕ) (j : Judged (List Argument)) → q ≤ r → Holds (Placed p q) j → Holds (Placed p r) j
  placed_to p q r (Fine xs) a h = higher p xs h
    where
      higher : (lo : ℕ) (xs : List Argument) → Placed lo q xs → Placed lo r xs
      higher lo [] h = omega (arith, h, a)
      higher lo (x ∷ xs) h = (h.0, higher (x.place + 1) xs h.1)
  placed_to p q r (Faulty f fs) a h = tt

  abbrev more : Part (List Argument) → Part Form → Part (List Argument)
  more a x = two a 1 x 0 (λ p xs q y. []) (λ xs q y. xs ++ argument q y ∷ [])

  more_in_order : (a : Part (List Argument)) (x : Part Form) (w : Walk Form) → Good look k x w → InOrder a → InOrder (more a x)
  more_in_order a x w g h = λ p.
      let s = g.some in
      let q = p + a.tokens + 1 in
      one_more p q (p + (a.tokens + 1 + x.tokens + 0)) (a.at c p) (x.at c q) (omega (arith, s)) (placed_to p (p + a.tokens) q (a.at c p) (omega arith) (h p))

  all_in_order : (a : Part (List Argument)) (xs : List (Part Form)) (ws : List (Walk Form)) → GoodAll xs ws → InOrder a → InOrder (further_arguments a xs)
  all_in_order a [] ws g h = h
  all_in_order a (x ∷ xs) [] g h = absurd g
  all_in_order a (x ∷ xs) (w ∷ ws) g h = all_in_order (more a x) xs ws g.1 (more_in_order a x w g.0 h)

  more_good : (a : Part (List Argument)) (v : Walk (List Argument)) (x : Part Form) (w : Walk Form) → Good look k a v → Good look k x w → Good look k (more a x) (λ p. after (v p) (λ xs q. walk_argument xs (bump q 1) w))
  more_good a v x w g h =
      two_good look k 1 0 a v x w (λ p xs q y. []) (λ xs q y. xs ++ argument q y ∷ []) (λ p xs q y r. Right (xs ++ argument q y ∷ []) r) g h (λ p xs y e l. sound_none p _)
      (λ p q xs y r l. right_at (xs ++ argument q y ∷ []) r (r + 0) (plus_zero r))

  further_good : (a : Part (List Argument)) (v : Walk (List Argument)) (xs : List (Part Form)) (ws : List (Walk Form)) → Good look k a v → GoodAll xs ws
      → Good look k (further_arguments a xs) (λ p. after (v p) (λ ys q. walk_further ys q ws))
  further_good a v [] [] g h = right_end look k a v g
  further_good a v [] (w ∷ ws) g h = absurd h
  further_good a v (x ∷ xs) [] g h = absurd h
  further_good a v (x ∷ xs) (w ∷ ws) g h =
      let v1 : Walk (List Argument) = λ p. after (v p) (λ ys q. walk_argument ys (bump q 1) w) in
      good_as look k (further_arguments a (x ∷ xs)) (λ p. after (v1 p) (λ ys q. walk_further ys q ws)) (λ p. after (v p) (λ ys q. walk_further ys q (w ∷ ws)))
      (λ p. after_assoc (v p) (λ ys q. walk_argument ys (bump q 1) w) (λ ys q. walk_further ys q ws))
      (further_good (more a x) v1 xs ws (more_good a v x w g h.0) h.1)

  first_good : (a : Part Form) (v : Walk Form) → Good look k a v → Good look k (first_argument a) (λ p. walk_argument [] p v)
  first_good a v g = record {
    some = g.some;
    fair = record {
      inside = λ p. inside_next p (p + a.tokens) (a.at c p) _ (g.fair.inside p) (λ x e. inside_none p (p + a.tokens));
      same = λ p ag. next_same (p + a.tokens) (p + a.tokens) (a.at c p) (v p) (λ x. Fine (argument p x ∷ [])) (λ y r. Right ([] ++ argument p y ∷ []) r) (g.fair.same p ag) (λ x e. (refl, refl));
    };
  }

  abbrev pub GoodOptionSeries : Option Series → Option WalkSeries → Type 0
  GoodOptionSeries None None = Unit {0}
  GoodOptionSeries None (Some w) = ⊥
  GoodOptionSeries (Some s) None = ⊥
  GoodOptionSeries (Some s) (Some w) = GoodSeries s w

  arguments_fair : (s : Option Series) (w : Option WalkSeries) → GoodOptionSeries s w → Fair look k (arguments s) (walk_arguments w)
  arguments_fair None None g = record { inside = λ p. inside_none p (p + 0); same = λ p a. (refl, omega arith) }
  arguments_fair None (Some w) g = absurd g
  arguments_fair (Some s) None g = absurd g
  arguments_fair (Some s) (Some w) g = (further_good (first_argument s.first) (λ p. walk_argument [] p w.first) s.rest w.rest (first_good s.first w.first g.first) g.rest).fair

  arguments_in_order : (s : Option Series) (w : Option WalkSeries) → GoodOptionSeries s w → InOrder (arguments s)
  arguments_in_order None None g = λ p. omega arith
  arguments_in_order None (Some w) g = absurd g
  arguments_in_order (Some s) None g = absurd g
  arguments_in_order (Some s) (Some w) g = all_in_order (first_argument s.first) s.rest w.rest g.rest (first_in_order s.first w.first g.first)

  callee_inside : (p : ℕ) (x : Option Named) → Inside p (p + 2) (faults_of (callee_at p x))
  callee_inside p None = one_fault p S1 (p + 2) (omega arith)
  callee_inside p (Some (nm.Variable v s)) = one_fault p S1 (p + 2) (omega arith)
  callee_inside p (Some (nm.Function f)) = inside_none p (p + 2)
  callee_inside p (Some (nm.Builtin f)) = inside_none p (p + 2)

  callee_same : (p : ℕ) → p + 2 < 2 ^ 32 → (x : Option Named) → Same (p + 2) (callee_at p x) (walk_callee p x)
  callee_same p h None = first_least _ [] (tt, tt)
  callee_same p h (Some (nm.Variable v s)) = first_least _ [] (tt, tt)
  callee_same p h (Some (nm.Function f)) = (refl, bump_is p 2 h)
  callee_same p h (Some (nm.Builtin f)) = (refl, bump_is p 2 h)

  called_inside : (p end : ℕ) (t : Token) (f : Named) (xs : List Argument) → p + 2 ≤ end → Placed (p + 2) end xs → Inside p (end + 1) (faults_of (called c p t f xs))
  called_inside p end t (nm.Function f) xs l h = inside_unless p (end + 1) _ _ (wider p end p (end + 1) _ (omega arith) (omega arith) (call_sound p (p + 2) end k.home f xs (omega arith) h).inside)
  called_inside p end t (nm.Builtin f) xs l h = inside_unless p (end + 1) _ _ (wider p end p (end + 1) _ (omega arith) (omega arith) (builtin_sound p (p + 2) end f xs (omega arith) h).inside)
  called_inside p end t (nm.Variable v s) xs l h = one_fault p S1 (end + 1) (omega (arith, l))

  called_same : (p end : ℕ) (t : Token) (f : Named) (xs : List Argument) → end + 1 < 2 ^ 32 → Placed (p + 2) end xs → Same (end + 1) (called c p t f xs) (by_callee k.home p t f xs end)
  called_same p end t (nm.Function f) xs l h = subst (λ z. Same (end + 1) (called c p t (nm.Function f) xs) (guarded (call_needs p k.home f xs) (Right (call_form t f (slice_get k.home.functions f) xs) z))) (sym (bump_is end 1 l)) (guard_same (end + 1) (call_needs p k.home f xs) _ (call_sound p (p + 2) end k.home f xs (omega arith) h).sorted)
  called_same p end t (nm.Builtin f) xs l h = subst (λ z. Same (end + 1) (called c p t (nm.Builtin f) xs) (guarded (builtin_needs p f xs) (Right (builtin_form t f xs) z))) (sym (bump_is end 1 l)) (guard_same (end + 1) (builtin_needs p f xs) _ (builtin_sound p (p + 2) end f xs (omega arith) h).sorted)
  called_same p end t (nm.Variable v s) xs l h = first_least _ [] (tt, tt)

  pub call_good : (t : Token) (s : Option Series) (w : Option WalkSeries) → GoodOptionSeries s w
      → Good look k (record { tokens = 3 + (arguments s).tokens; at = λ c p. next (both (callee_at p (c.look p (name_of t))) ((arguments s).at c (p + 2))) (λ x. called c p t x.0 x.1) })
      (λ p. after (walk_callee p (k.look (name_of t))) (λ named q. after (walk_arguments w q) (λ xs u. call_end k.home p t named xs u)))
  unfolding call_end
  call_good t s w g =
      let a = arguments s in
      let f = arguments_fair s w g in
      record {
        some = omega arith;
        fair = record {
          inside = λ p.
              let hi = p + (3 + a.tokens) in
              let end = p + 2 + a.tokens in
              let eh : end + 1 ≡ hi = omega arith in
              inside_next p hi (both (callee_at p (look p (name_of t))) (a.at c (p + 2))) _
              (inside_both p hi (callee_at p (look p (name_of t))) (a.at c (p + 2)) (wider p (p + 2) p hi _ (omega arith) (omega arith) (callee_inside p (look p (name_of t)))) (wider (p + 2) end p hi _ (omega arith) (omega arith) (f.inside (p + 2))))
              (λ x e. subst (λ z. Inside p z (faults_of (called c p t x.0 x.1))) eh (called_inside p end t x.0 x.1 (omega arith)
              (subst (Holds (Placed (p + 2) end)) (both_fine (callee_at p (look p (name_of t))) (a.at c (p + 2)) x e).1 (arguments_in_order s w g (p + 2)))));
          same = λ p ag.
              let hi = p + (3 + a.tokens) in
              let end = p + 2 + a.tokens in
              let eh : end + 1 ≡ hi = omega arith in
              let l = ag.fits in
              let e = ag.same p (omega arith) (omega arith) (name_of t) in
              two_same p (p + 2) (p + 2) end hi (callee_at p (look p (name_of t))) (walk_callee p (k.look (name_of t))) (a.at c (p + 2)) (λ named q. walk_arguments w q) (λ x. called c p t x.0 x.1) (λ named q xs u. by_callee k.home p t named xs u)
              (callee_inside p (look p (name_of t))) (omega arith) (f.inside (p + 2))
              (subst (λ z. Same (p + 2) (callee_at p z) (walk_callee p (k.look (name_of t)))) (sym e) (callee_same p (omega (arith, l)) (k.look (name_of t))))
              (λ named. f.same (p + 2) (part look k p hi (p + 2) end (omega arith) (omega arith) ag))
              (λ named xs i j. subst (λ z. Same z (called c p t named xs) (by_callee k.home p t named xs end)) eh (called_same p end t named xs (omega (arith, l))
              (subst (Holds (Placed (p + 2) end)) j (arguments_in_order s w g (p + 2)))));
        };
      }
