-- A prolog as steps, and what each part of it holds in the end.
use Rattle.std.proofs.Common.{◌≡◌, ℕ, ◌+◌, ◌*◌, ◌%◌, ◌^◌, Bool, true, false, List, [], ◌∷◌, ◌++◌, refl, ap, ◌∙◌, lit<, arith}
use Rattle.std.specs.Prelude.{◌||◌}
use Rattle.q_lane.specs.declared.operations.BinOp.TheVariants as op
use Rattle.q_lane.specs.Numbers.{applied}
use Rattle.q_functions.specs.declared.functions.WorkFunction.TheVariants.{GlobalSize, LocalSize}
use Rattle.item_ir.specs.declared.form.Def.TheVariants as d
use Rattle.lane_ir.specs.LaneMeaning.{World}
use Rattle.lane_ir.specs.declared.form.LaneStmt.{LaneStmt}
use Rattle.lane_ir.specs.declared.form.LaneStmt.TheVariants.{Let}
use Rattle.lane_mapper.specs.declared.uses.Uses.{Uses}
use Rattle.lane_mapper.specs.Prolog.{live_part, global_sizes, global_ids, group_sizes, each_id, where_used, in_groups, ids_part, prolog, val, two}
use Rattle.prolog_law.proofs.Acts.{Act, Const, Two, Size, Flat, Items, Step, definition, statements, after, Within, none, more}

abbrev pub step : ℕ → Act → Step
step v a = record { to = v; act = a }

abbrev pub live_steps : List Step
live_steps = step 0 Flat ∷ step 1 Items ∷ step 2 (Two (op.Less false) 0 1) ∷ []

abbrev pub global_steps : List Step
global_steps =
    step 3 (Const 0) ∷ step 4 (Const 1) ∷ step 5 (Const 2) ∷ step 6 (Size GlobalSize 3) ∷ step 7 (Size GlobalSize 4)
    ∷ step 8 (Two (op.Rem false) 0 6) ∷ step 9 (Two (op.Div false) 0 6) ∷ step 10 (Two (op.Rem false) 9 7) ∷ step 11 (Two (op.Div false) 9 7) ∷ []

abbrev pub size_steps : List Step
size_steps = step 12 (Size LocalSize 3) ∷ step 13 (Size LocalSize 4) ∷ step 14 (Size LocalSize 5) ∷ []

abbrev pub local_steps : List Step
local_steps = step 15 (Two (op.Rem false) 8 12) ∷ step 16 (Two (op.Rem false) 10 13) ∷ step 17 (Two (op.Rem false) 11 14) ∷ []

abbrev pub group_steps : List Step
group_steps = step 18 (Two (op.Div false) 8 12) ∷ step 19 (Two (op.Div false) 10 13) ∷ step 20 (Two (op.Div false) 11 14) ∷ []

abbrev pub used : Bool → List Step → List Step
used true l = l
used false l = []

abbrev pub steps_of : Bool → Bool → Bool → List Step
steps_of a b c = live_steps ++ (used (a || (b || c)) global_steps ++ (used (b || c) size_steps ++ (used b local_steps ++ used c group_steps)))

-- ---- the statements are the prolog's

module _ (k : ℕ) where
  first_place : k + 0 ≡ k
  first_place = omega arith

  live_same : statements k live_steps ≡ live_part k
  unfolding live_part
  live_same = ap (λ z. Let (val z) d.Flat ∷ Let (val (k + 1)) d.Items ∷ two (k + 2) (op.Less false) z (k + 1) ∷ []) first_place

  global_same : statements k global_steps ≡ global_sizes k ++ global_ids k
  unfolding global_sizes global_ids
  global_same =
      ap (λ z. global_sizes k ++ two (k + 8) (op.Rem false) z (k + 6) ∷ two (k + 9) (op.Div false) z (k + 6) ∷ two (k + 10) (op.Rem false) (k + 9) (k + 7) ∷ two (k + 11) (op.Div false) (k + 9) (k + 7) ∷ [])
      first_place

  sizes_same : statements k size_steps ≡ group_sizes k
  unfolding group_sizes
  sizes_same = refl

  later : (x y : ℕ) → k + (x + y) ≡ k + x + y
  later x y = omega arith

  local_same : statements k local_steps ≡ each_id (op.Rem false) (k + 15) k
  unfolding each_id
  local_same = λ i. two (k + 15) (op.Rem false) (k + 8) (k + 12) ∷ two (later 15 1 i) (op.Rem false) (k + 10) (k + 13) ∷ two (later 15 2 i) (op.Rem false) (k + 11) (k + 14) ∷ []

  group_same : statements k group_steps ≡ each_id (op.Div false) (k + 18) k
  unfolding each_id
  group_same = λ i. two (k + 18) (op.Div false) (k + 8) (k + 12) ∷ two (later 18 1 i) (op.Div false) (k + 10) (k + 13) ∷ two (later 18 2 i) (op.Div false) (k + 11) (k + 14) ∷ []

  both : (a b : List Step) (p q : List LaneStmt) → statements k a ≡ p → statements k b ≡ q → statements k (a ++ b) ≡ p ++ q
  both a b p q e f = append a ∙ (λ i. e i ++ f i)
    where
      append : (l : List Step) → statements k (l ++ b) ≡ statements k l ++ statements k b
      append [] = refl
      append (s ∷ rest) = ap (λ z. Let (val (k + s.to)) (definition k s.act) ∷ z) (append rest)

  used_same : (b : Bool) (l : List Step) (p : List LaneStmt) → statements k l ≡ p → statements k (used b l) ≡ where_used b p
  used_same true l p e = e
  used_same false l p e = refl

  pub prolog_same : (u : Uses) → statements k (steps_of u.global u.local u.group) ≡ prolog k u
  prolog_same u =
      both live_steps _ (live_part k) (ids_part k u) live_same
      (both (used (u.global || in_groups u) global_steps) _ _ _ (used_same (u.global || in_groups u) global_steps _ global_same)
      (both (used (in_groups u) size_steps) _ _ _ (used_same (in_groups u) size_steps _ sizes_same)
      (both (used u.local local_steps) (used u.group group_steps) _ _ (used_same u.local local_steps _ local_same) (used_same u.group group_steps _ group_same))))

-- ---- they define values below k + 21

both_within : (m : ℕ) (a b : List Step) → Within m a → Within m b → Within m (a ++ b)
both_within m [] b none g = g
both_within m (s ∷ a) b (more _ _ lt q h) g = more s (a ++ b) lt q (both_within m a b h g)

used_within : (m : ℕ) (b : Bool) (l : List Step) → Within m l → Within m (used b l)
used_within m true l h = h
used_within m false l h = none

pub steps_within : (a b c : Bool) → Within 21 (steps_of a b c)
steps_within a b c =
    both_within 21 live_steps _ (more _ _ (lit< tt) tt (more _ _ (lit< tt) tt (more _ _ (lit< tt) ((lit< tt), (lit< tt)) none)))
    (both_within 21 (used (a || (b || c)) global_steps) _ (used_within 21 (a || (b || c)) global_steps globals)
    (both_within 21 (used (b || c) size_steps) _ (used_within 21 (b || c) size_steps (more _ _ (lit< tt) (lit< tt) (more _ _ (lit< tt) (lit< tt) (more _ _ (lit< tt) (lit< tt) none))))
    (both_within 21 (used b local_steps) (used c group_steps) (used_within 21 b local_steps (more _ _ (lit< tt) ((lit< tt), (lit< tt)) (more _ _ (lit< tt) ((lit< tt), (lit< tt)) (more _ _ (lit< tt) ((lit< tt), (lit< tt)) none)))) (used_within 21 c group_steps (more _ _ (lit< tt) ((lit< tt), (lit< tt)) (more _ _ (lit< tt) ((lit< tt), (lit< tt)) (more _ _ (lit< tt) ((lit< tt), (lit< tt)) none)))))))
  where
    globals : Within 21 global_steps
    globals = more _ _ (lit< tt) (lit< tt) (more _ _ (lit< tt) (lit< tt) (more _ _ (lit< tt) (lit< tt) (more _ _ (lit< tt) (lit< tt) (more _ _ (lit< tt) (lit< tt) (more _ _ (lit< tt) ((lit< tt), (lit< tt)) (more _ _ (lit< tt) ((lit< tt), (lit< tt)) (more _ _ (lit< tt) ((lit< tt), (lit< tt)) (more _ _ (lit< tt) ((lit< tt), (lit< tt)) none))))))))

-- ---- what they hold

module _ (w : World) (l : ℕ) where
  abbrev pub flat_word : ℕ
  flat_word = (16 * w.batch + l) % 2 ^ 32

  abbrev pub first_id : ℕ
  first_id = applied (op.Rem false) flat_word (w.global 0)

  abbrev pub second_id : ℕ
  second_id = applied (op.Rem false) (applied (op.Div false) flat_word (w.global 0)) (w.global 1)

  abbrev pub third_id : ℕ
  third_id = applied (op.Div false) (applied (op.Div false) flat_word (w.global 0)) (w.global 1)

module _ (w : World) (l : ℕ) (y : ℕ → ℕ) where
  abbrev pub Three : (a b c : Bool) → ℕ → ℕ → ℕ → ℕ → ℕ → ℕ → Type 0
  Three a b c p q r x z u = (after w l y (steps_of a b c) p ≡ x) × (after w l y (steps_of a b c) q ≡ z) × (after w l y (steps_of a b c) r ≡ u)

  pub live_after : (a b c : Bool) → after w l y (steps_of a b c) 2 ≡ applied (op.Less false) (flat_word w l) w.items
  live_after true true true = refl
  live_after true true false = refl
  live_after true false true = refl
  live_after true false false = refl
  live_after false true true = refl
  live_after false true false = refl
  live_after false false true = refl
  live_after false false false = refl

  pub globals_after : (a b c : Bool) → (a || (b || c)) ≡ true → Three a b c 8 10 11 (first_id w l) (second_id w l) (third_id w l)
  globals_after true true true h = (refl, refl, refl)
  globals_after true true false h = (refl, refl, refl)
  globals_after true false true h = (refl, refl, refl)
  globals_after true false false h = (refl, refl, refl)
  globals_after false true true h = (refl, refl, refl)
  globals_after false true false h = (refl, refl, refl)
  globals_after false false true h = (refl, refl, refl)
  globals_after false false false h = cc

  pub locals_after : (a b c : Bool) → b ≡ true → Three a b c 15 16 17 (applied (op.Rem false) (first_id w l) (w.local 0)) (applied (op.Rem false) (second_id w l) (w.local 1)) (applied (op.Rem false) (third_id w l) (w.local 2))
  locals_after true true true h = (refl, refl, refl)
  locals_after true true false h = (refl, refl, refl)
  locals_after false true true h = (refl, refl, refl)
  locals_after false true false h = (refl, refl, refl)
  locals_after false false c h = cc
  locals_after true false c h = cc

  pub groups_after : (a b c : Bool) → c ≡ true → Three a b c 18 19 20 (applied (op.Div false) (first_id w l) (w.local 0)) (applied (op.Div false) (second_id w l) (w.local 1)) (applied (op.Div false) (third_id w l) (w.local 2))
  groups_after true true true h = (refl, refl, refl)
  groups_after true false true h = (refl, refl, refl)
  groups_after false true true h = (refl, refl, refl)
  groups_after false false true h = (refl, refl, refl)
  groups_after false false false h = cc
  groups_after false true false h = cc
  groups_after true false false h = cc
  groups_after true true false h = cc
