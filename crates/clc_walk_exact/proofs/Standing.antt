-- What each statement is judged to be is what the walk meets.
use Rattle.std.proofs.Common.{◌≡◌, ℕ, suc, ◌+◌, ◌<◌, ◌≤◌, ◌^◌, Bool, true, false, List, [], ◌∷◌, ◌++◌, Option, Some, None, refl, sym, ap, ◌∙◌, subst, arith, is_some}
use Rattle.std.specs.Prelude.{map, not}
use Rattle.clc_lexer.specs.declared.token.Token.{Token}
use Rattle.clc_tree.specs.declared.expressions.Expr.{Expr}
use Rattle.clc_tree.specs.declared.statements.Pointer.{Pointer}
use Rattle.clc_tree.specs.declared.statements.Init.{Init}
use Rattle.clc_tree.specs.declared.statements.Item.{Item}
use Rattle.clc_tree.specs.declared.statements.Item.TheVariants as item
use Rattle.clc_tree.specs.declared.statements.ItemStep.{ItemStep}
use Rattle.clc_tree.specs.declared.statements.Declare.{Declare}
use Rattle.clc_tree.specs.declared.statements.Declare.TheVariants as declare
use Rattle.clc_tree.specs.declared.statements.ForStart.{ForStart}
use Rattle.clc_tree.specs.declared.statements.ForStart.TheVariants as start
use Rattle.q_lane.specs.declared.kinds.Scalar.{Scalar}
use Rattle.clc_types.specs.declared.type_rule.TypeRule.{TypeRule}
use Rattle.clc_types.specs.declared.type_rule.TypeRule.TheVariants.{S10, S11}
use Rattle.clc_types.specs.declared.typed.TExpr.{TExpr}
use Rattle.clc_types.specs.declared.typed.TStmt.{TStmt}
use Rattle.clc_types.specs.declared.typed.TStmt.TheVariants as st
use Rattle.clc_types.specs.declared.forms.Shape.{Shape}
use Rattle.clc_types.specs.declared.forms.Shape.TheVariants as shape
use Rattle.clc_types.specs.declared.forms.Kind.{Kind}
use Rattle.clc_types.specs.declared.forms.Home.{Home}
use Rattle.clc_types.specs.declared.forms.Form.{Form}
use Rattle.clc_types.specs.declared.forms.Named.{Named}
use Rattle.clc_types.specs.Judged.{Judged, Fine, Faulty, next, unless, violations, faults_of, Context, Part, one}
use Rattle.clc_types.specs.Words.{name_of, value_of, type_of, type_tokens, one_if}
use Rattle.clc_types.specs.Rules.{kind_of, scalar_needed, no_array, fit_needed, return_needs, bare_needs, is_size}
use Rattle.clc_types.specs.Typing.{judge, judge_assign}
use Rattle.clc_types.specs.InternalScope.{Known}
use Rattle.clc_types.specs.Blocks.{Decl, Piece, nothing, quiet, past, ending, seq, made, maybe, listed, opened, looping, declared, size, init, item_piece, item_step_piece, pointer_shape, pointer_tokens, declare_piece, condition, value, maybe_condition, maybe_value, returned, jump, evaluated, for_start_piece}
use Rattle.clc_types.specs.Programs.{in_force}
use Rattle.clc_types.specs.InternalWalk.{Walked, Right, Wrong, Walk, after, guarded, bump, walk_expr, walk_assign}
use Rattle.clc_types.specs.InternalSteps as w
use Rattle.clc_types.specs.InternalSteps.{View, Stepped, Goes, Stops, and_then, reach, PieceWalk, knows_in, size_in, fit_end, init_in, condition_end, value_end, condition_in, value_in, return_end, bare_return, returned_in, jump_in}
use Rattle.clc_walk_exact.proofs.Least.{Inside, Same, inside_none, wider, guard_same, inside_unless, inside_violations}
use Rattle.clc_walk_exact.proofs.Needs.{Sound, scalar_sound, no_array_sound, fit_sound, return_sound, bare_sound, sound_1, sound_wider}
use Rattle.clc_walk_exact.proofs.Agree.{Fair, Good, Agreed, context, bump_is, one_good}
use Rattle.clc_walk_exact.proofs.Parts.{at_operand, plus_zero}
use Rattle.clc_walk_exact.proofs.Whole.{agree, agree_assign}
use Rattle.clc_walk_exact.proofs.Pieces.{Stood, Stoods, StoodOption, Met, at_token, reach_met, met_weak, After, Rel, unmoved, spread_none, nothing_stood, quiet_stood, past_stood, ending_stood, made_stood, seq_stood, looping_stood, listed_stood, maybe_stood, opened_stood, declared_stood, stood_as}

-- tests at the first token alone, and then a form
pub tested_fair : {A : Type 0} (look : ℕ → List ℕ → Option Named) (k : Known) (n : ℕ) (r : TypeRule) (b : Bool) (a : A) → 0 < n
    → Fair look k (record { tokens = n; at = λ c p. unless (violations p ((r, b) ∷ [])) a }) (λ p. guarded (violations p ((r, b) ∷ [])) (Right a (bump p n)))
tested_fair look k n r b a pos = record {
  inside = λ p. inside_unless p (p + n) _ a (wider p (p + 1) p (p + n) _ (omega arith) (omega (arith, pos)) (inside_violations p ((r, b) ∷ [])));
  same = λ p ag.
      let f = ag.fits in
      subst (λ z. Same (p + n) (unless (violations p ((r, b) ∷ [])) a) (guarded (violations p ((r, b) ∷ [])) (Right a z))) (sym (bump_is p n f)) (guard_same (p + n) (violations p ((r, b) ∷ [])) a (sound_1 p r b).sorted);
}

size_fair : (look : ℕ → List ℕ → Option Named) (k : Known) (t : Token) → Fair look k (size t) (size_in t)
unfolding size_in
size_fair look k t = record {
  inside = λ p. inside_unless p (p + 3) _ tt (wider (p + 1) (p + 1 + 1) p (p + 3) _ (omega arith) (omega arith) (inside_violations (p + 1) ((S11, not (is_size (value_of t))) ∷ [])));
  same = λ p ag.
      let f = ag.fits in
      let b = not (is_size (value_of t)) in
      let U : Judged (Unit {0}) = unless (violations (p + 1) ((S11, b) ∷ [])) tt in
      subst (λ z. Same (p + 3) U (guarded (violations z ((S11, b) ∷ [])) (Right tt (bump p 3)))) (sym (bump_is p 1 (omega (arith, f))))
      (subst (λ z. Same (p + 3) U (guarded (violations (p + 1) ((S11, b) ∷ [])) (Right tt z))) (sym (bump_is p 3 f)) (guard_same (p + 3) (violations (p + 1) ((S11, b) ∷ [])) tt (sound_1 (p + 1) S11 b).sorted));
}

condition_good : (look : ℕ → List ℕ → Option Named) (k : Known) (e : Expr) → Good look k (one 0 (judge e) 0 (λ p q x. scalar_needed q x.kind) (λ x. x.expr)) (λ p. after (walk_expr k e p) (λ x r. condition_end p x r))
unfolding condition_end
condition_good look k e =
    one_good look k 0 0 (judge e) (walk_expr k e) (λ p q x. scalar_needed q x.kind) (λ x. x.expr) (λ p. p) (λ p q x r. condition_end q x r) (agree look k e)
    (λ p q x h. at_operand p q _ h (scalar_sound q x.kind)) (λ p h. plus_zero p) (λ p q x r h. ap (λ z. guarded (scalar_needed q x.kind) (Right x.expr z)) (plus_zero r))

value_good : (look : ℕ → List ℕ → Option Named) (k : Known) (e : Expr) → Good look k (one 0 (judge e) 0 (λ p q x. no_array q x.kind) (λ x. x.expr)) (λ p. after (walk_expr k e p) (λ x r. value_end p x r))
unfolding value_end
value_good look k e =
    one_good look k 0 0 (judge e) (walk_expr k e) (λ p q x. no_array q x.kind) (λ x. x.expr) (λ p. p) (λ p q x r. value_end q x r) (agree look k e)
    (λ p q x h. at_operand p q _ h (no_array_sound q x.kind)) (λ p h. plus_zero p) (λ p q x r h. ap (λ z. guarded (no_array q x.kind) (Right x.expr z)) (plus_zero r))

init_good : (look : ℕ → List ℕ → Option Named) (k : Known) (s : Kind) (i : Init)
    → Good look k (one 1 (judge_assign i.value) 0 (λ p q x. fit_needed s q x.kind) (λ x. Some x.expr)) (λ p. after (walk_assign k i.value (bump p 1)) (λ x r. fit_end s (bump p 1) x r))
unfolding fit_end
init_good look k s i =
    one_good look k 1 0 (judge_assign i.value) (walk_assign k i.value) (λ p q x. fit_needed s q x.kind) (λ x. Some x.expr) (λ p. bump p 1) (λ p q x r. fit_end s q x r) (agree_assign look k i.value)
    (λ p q x h. at_operand p q _ h (fit_sound s q x.kind)) (λ p h. bump_is p 1 h) (λ p q x r h. ap (λ z. guarded (fit_needed s q x.kind) (Right (Some x.expr) z)) (plus_zero r))

return_good : (look : ℕ → List ℕ → Option Named) (k : Known) (e : Expr)
    → Good look k (one 1 (judge e) 1 (λ p q x. return_needs k.home.result p x.kind) (λ x. st.Return (Some x.expr))) (λ p. after (walk_expr k e (bump p 1)) (λ x r. return_end p k.home.result x r))
unfolding return_end
return_good look k e =
    one_good look k 1 1 (judge e) (walk_expr k e) (λ p q x. return_needs k.home.result p x.kind) (λ x. st.Return (Some x.expr)) (λ p. bump p 1) (λ p q x r. return_end p k.home.result x r) (agree look k e)
    (λ p q x h. sound_wider p (p + 1) p (q + 1) _ (omega arith) (omega (arith, h)) (return_sound k.home.result p x.kind)) (λ p h. bump_is p 1 h)
    (λ p q x r h. ap (λ z. guarded (return_needs k.home.result p x.kind) (Right (st.Return (Some x.expr)) z)) (bump_is r 1 h))

module _ (fs : List (List ℕ)) (home : Home) (all : List Decl) where
  abbrev Is : {A : Type 0} → Piece A → PieceWalk A → Type 0
  Is s z = Stood fs home all s z

  pub size_stood : (t : Token) → Is (quiet (size t)) (w.size t)
  size_stood t = quiet_stood fs home all (size t) (λ k. size_in t) (λ k. size_fair (in_force all fs) k t)

  pub condition_stood : (e : Expr) → Is (condition e) (w.condition e)
  unfolding condition_in
  condition_stood e = quiet_stood fs home all _ (λ k p. after (walk_expr k e p) (λ x r. condition_end p x r)) (λ k. (condition_good (in_force all fs) k e).fair)

  pub value_stood : (e : Expr) → Is (value e) (w.value e)
  unfolding value_in
  value_stood e = quiet_stood fs home all _ (λ k p. after (walk_expr k e p) (λ x r. value_end p x r)) (λ k. (value_good (in_force all fs) k e).fair)

  pub init_stood : (s : Kind) (i : Option Init) → Is (init s i) (w.init s i)
  unfolding init_in
  init_stood s None = nothing_stood fs home all None
  init_stood s (Some i) = quiet_stood fs home all _ (λ k p. after (walk_assign k i.value (bump p 1)) (λ x r. fit_end s (bump p 1) x r)) (λ k. (init_good (in_force all fs) k s i).fair)

  pub returned_stood : (e : Option Expr) → Is (returned e) (λ l v. returned_in e v)
  unfolding returned_in bare_return
  returned_stood None =
      quiet_stood fs home all (record { tokens = 2; at = λ c p. unless (bare_needs c.home.result p) (st.Return None) }) (λ k p. guarded (bare_needs k.home.result p) (Right (st.Return None) (bump p 2)))
      (λ k. record {
        inside = λ p. inside_unless p (p + 2) _ (st.Return None) (wider p (p + 1) p (p + 2) _ (omega arith) (omega arith) (bare_sound k.home.result p).inside);
        same = λ p ag. let f = ag.fits in
            subst (λ z. Same (p + 2) (unless (bare_needs k.home.result p) (st.Return None)) (guarded (bare_needs k.home.result p) (Right (st.Return None) z))) (sym (bump_is p 2 f)) (guard_same (p + 2) (bare_needs k.home.result p) (st.Return None) (bare_sound k.home.result p).sorted);
      })
  returned_stood (Some e) =
      quiet_stood fs home all (record { tokens = 1 + (judge e).tokens + 1; at = λ c p. next ((judge e).at c (p + 1)) (λ x. unless (return_needs c.home.result p x.kind) (st.Return (Some x.expr))) })
      (λ k p. after (walk_expr k e (bump p 1)) (λ x r. return_end p k.home.result x r))
      (λ k. let g = return_good (in_force all fs) k e in record { inside = g.fair.inside; same = g.fair.same })

  jump_stood : (s : TStmt) → Is (jump s) (λ l v. jump_in s l v)
  unfolding jump_in
  jump_stood s = record {
    spread = λ from upto p a b. spread_none from upto p _ (omega arith);
    inside = λ l from p. inside_unless p (p + 2) _ s (wider p (p + 1) p (p + 2) _ (omega arith) (omega arith) (inside_violations p ((S10, not l) ∷ [])));
    met = λ l from upto done rest v e la r b f.
        let hi = v.at + 2 in
        let J : Judged TStmt = unless (violations v.at ((S10, not l) ∷ [])) s in
        met_weak J (jump_in s l v) (λ u. u ≡ at_token v hi) (After fs home all done [] from upto v hi)
        (λ u q. unmoved fs home all done from upto v u hi q (omega arith) r)
        (reach_met v hi J (guarded (violations v.at ((S10, not l) ∷ [])) (Right s (bump v.at 2)))
        (subst (λ z. Same hi J (guarded (violations v.at ((S10, not l) ∷ [])) (Right s z))) (sym (bump_is v.at 2 (omega (arith, b, f)))) (guard_same hi (violations v.at ((S10, not l) ∷ [])) s (sound_1 v.at S10 (not l)).sorted)));
  }

  pub break_stood : Is (jump st.Break) (λ l v. jump_in st.Break l v)
  break_stood = jump_stood st.Break

  pub continue_stood : Is (jump st.Continue) (λ l v. jump_in st.Continue l v)
  continue_stood = jump_stood st.Continue

  -- ---- declarations

  item_stood : (x : Bool) (s : Scalar) (i : Item) → Is (item_piece x s i) (w.item_walk x s i)
  item_stood x s (item.Array t l v r) =
      made_stood fs home all (λ y. st.Declare y.0 None ∷ []) _ _ (seq_stood fs home all (declared (shape.Array s (value_of v) x) t) (quiet (size v)) _ _ (declared_stood fs home all _ t) (size_stood v))
  item_stood x s (item.Value t i) =
      made_stood fs home all (λ y. st.Declare y.0 y.1 ∷ []) _ _ (seq_stood fs home all (declared (shape.Value s x) t) (init (kind_of 0 (shape.Value s x)) i) _ _ (declared_stood fs home all _ t) (init_stood _ i))

  items_stood : (x : Bool) (s : Scalar) (xs : List ItemStep) → Stoods fs home all (map (item_step_piece x s) xs) (map (w.item_step_walk x s) xs)
  items_stood x s [] = tt
  items_stood x s (i ∷ is) = (past_stood fs home all 1 (item_piece x s i.item) (w.item_walk x s i.item) (item_stood x s i.item), items_stood x s is)

  pub declare_stood : (d : Declare) → Is (declare_piece d) (w.declare_walk d)
  declare_stood (declare.Values c s i more e) =
      ending_stood fs home all _ _ 1 (past_stood fs home all (one_if c + type_tokens s) _ _
      (listed_stood fs home all (item_piece (is_some c) (type_of s) i ∷ map (item_step_piece (is_some c) (type_of s)) more) (w.item_walk (is_some c) (type_of s) i ∷ map (w.item_step_walk (is_some c) (type_of s)) more)
      (item_stood (is_some c) (type_of s) i, items_stood (is_some c) (type_of s) more)))
  declare_stood (declare.Pointer x t i e) =
      ending_stood fs home all _ _ 1 (made_stood fs home all (λ y. st.Declare y.0 y.1 ∷ []) _ _ (past_stood fs home all (pointer_tokens x) _ _
      (seq_stood fs home all (declared (pointer_shape x) t) (init (kind_of 0 (pointer_shape x)) i) _ _ (declared_stood fs home all _ t) (init_stood _ i))))

  -- ---- statements

  pub maybe_condition_stood : (e : Option Expr) → Is (maybe_condition e) (w.maybe_condition e)
  maybe_condition_stood None = maybe_stood fs home all None None tt
  maybe_condition_stood (Some e) = maybe_stood fs home all (Some (condition e)) (Some (w.condition e)) (condition_stood e)

  pub maybe_value_stood : (e : Option Expr) → Is (maybe_value e) (w.maybe_value e)
  maybe_value_stood None = maybe_stood fs home all None None tt
  maybe_value_stood (Some e) = maybe_stood fs home all (Some (value e)) (Some (w.value e)) (value_stood e)

  for_start_stood : (s : ForStart) → Is (for_start_piece s) (w.for_start_walk s)
  for_start_stood (start.Declare d) = declare_stood d
  for_start_stood (start.Eval e t) = ending_stood fs home all _ _ 1 (made_stood fs home all evaluated _ _ (maybe_value_stood e))

  pub block_stmt_stood : (s : Piece (List TStmt)) (z : PieceWalk (List TStmt)) → Is s z → Is (opened 1 (made (λ y. st.Block y) s)) (w.opened 1 (w.made (λ y. st.Block y) z))
  block_stmt_stood s z g = opened_stood fs home all 1 _ _ (omega arith) (made_stood fs home all (λ y. st.Block y) s z g)

  pub eval_stood : (e : Expr) → Is (ending (made (λ y. st.Eval y) (value e)) 1) (w.ending (w.made (λ y. st.Eval y) (w.value e)) 1)
  eval_stood e = ending_stood fs home all _ _ 1 (made_stood fs home all (λ y. st.Eval y) _ _ (value_stood e))

  pub empty_stood : Is (ending (nothing st.Empty) 1) (w.ending (w.nothing st.Empty) 1)
  empty_stood = ending_stood fs home all _ _ 1 (nothing_stood fs home all st.Empty)

  pub if_stood : (e : Expr) (s : Piece TStmt) (z : PieceWalk TStmt) (o : Option (Piece TStmt)) (u : Option (PieceWalk TStmt)) → Is s z → StoodOption fs home all o u
      → Is (made (λ y. st.If y.0 y.1.0 y.1.1) (seq (past 2 (condition e)) (seq (past 1 s) (maybe o)))) (w.made (λ y. st.If y.0 y.1.0 y.1.1) (w.seq (w.past 2 (w.condition e)) (w.seq (w.past 1 z) (w.maybe u))))
  if_stood e s z o u g h =
      made_stood fs home all (λ y. st.If y.0 y.1.0 y.1.1) _ _ (seq_stood fs home all _ _ _ _ (past_stood fs home all 2 _ _ (condition_stood e))
      (seq_stood fs home all _ _ _ _ (past_stood fs home all 1 s z g) (maybe_stood fs home all o u h)))

  pub while_stood : (e : Expr) (s : Piece TStmt) (z : PieceWalk TStmt) → Is s z
      → Is (made (λ y. st.While y.0 y.1) (seq (past 2 (condition e)) (past 1 (looping s)))) (w.made (λ y. st.While y.0 y.1) (w.seq (w.past 2 (w.condition e)) (w.past 1 (w.looping z))))
  while_stood e s z g =
      made_stood fs home all (λ y. st.While y.0 y.1) _ _ (seq_stood fs home all _ _ _ _ (past_stood fs home all 2 _ _ (condition_stood e)) (past_stood fs home all 1 _ _ (looping_stood fs home all s z g)))

  pub do_stood : (e : Expr) (s : Piece TStmt) (z : PieceWalk TStmt) → Is s z
      → Is (ending (made (λ y. st.Do y.0 y.1) (seq (past 1 (looping s)) (past 2 (condition e)))) 2) (w.ending (w.made (λ y. st.Do y.0 y.1) (w.seq (w.past 1 (w.looping z)) (w.past 2 (w.condition e)))) 2)
  do_stood e s z g =
      ending_stood fs home all _ _ 2 (made_stood fs home all (λ y. st.Do y.0 y.1) _ _ (seq_stood fs home all _ _ _ _ (past_stood fs home all 1 _ _ (looping_stood fs home all s z g)) (past_stood fs home all 2 _ _ (condition_stood e))))

  pub for_stood : (i : ForStart) (e t : Option Expr) (s : Piece TStmt) (z : PieceWalk TStmt) → Is s z
      → Is (opened 2 (made (λ y. st.For y.0 y.1.0 y.1.1.0 y.1.1.1) (seq (for_start_piece i) (seq (maybe_condition e) (seq (past 1 (maybe_value t)) (past 1 (looping s)))))))
      (w.opened 2 (w.made (λ y. st.For y.0 y.1.0 y.1.1.0 y.1.1.1) (w.seq (w.for_start_walk i) (w.seq (w.maybe_condition e) (w.seq (w.past 1 (w.maybe_value t)) (w.past 1 (w.looping z)))))))
  for_stood i e t s z g =
      opened_stood fs home all 2 _ _ (omega arith) (made_stood fs home all (λ y. st.For y.0 y.1.0 y.1.1.0 y.1.1.1) _ _ (seq_stood fs home all _ _ _ _ (for_start_stood i)
      (seq_stood fs home all _ _ _ _ (maybe_condition_stood e) (seq_stood fs home all _ _ _ _ (past_stood fs home all 1 _ _ (maybe_value_stood t)) (past_stood fs home all 1 _ _ (looping_stood fs home all s z g))))))

  pub block_stood : (xs : List (Piece (List TStmt))) (ws : List (PieceWalk (List TStmt))) → Stoods fs home all xs ws → Is (ending (listed xs) 1) (w.ending (w.listed [] ws) 1)
  block_stood xs ws g = ending_stood fs home all _ _ 1 (listed_stood fs home all xs ws g)
