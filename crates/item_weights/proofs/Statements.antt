-- A well-typed statement has as many nodes once its calls are scopes.
use Rattle.std.proofs.Common.{◌≡◌, ℕ, ◌+◌, Bool, true, List, [], ◌∷◌, ◌++◌, Option, Some, None, map, refl, sym, subst, arith}
use Rattle.std.specs.Prelude.{slice_get, ◌&&◌}
use Rattle.std.proofs.lemmas.Bool.{false≢true, and_parts}
use Rattle.q_lane.specs.declared.kinds.Scalar.{Scalar}
use Rattle.clc_types.specs.declared.typed.Var.{Var}
use Rattle.clc_types.specs.declared.typed.Var.TheVariants as var
use Rattle.clc_types.specs.declared.typed.TExpr.{TExpr as Typed}
use Rattle.clc_types.specs.declared.typed.TStmt.{TStmt as TypedStmt, roll-TStmt}
use Rattle.clc_types.specs.declared.typed.TStmt.TheOpen as s
use Rattle.clc_types.specs.declared.typed.TStmt.TheOpen.{TStmt-F}
use Rattle.clc_types.specs.declared.typed.TStmt.TheFolds.{fold-roll-TStmt, ind-TStmt, map-TStmt}
use Rattle.clc_types.specs.declared.typed.TFunction.{TFunction}
use Rattle.clc_types.specs.WellTyped.{accepts, value_type, is_condition, maybe_condition, maybe_valid, is_declared, is_returned, all_fit, stmt_layer, stmt_fits}
use Rattle.clc_counts.specs.declared.tally.Tally.{Tally}
use Rattle.clc_counts.specs.Counts.{so_many, sum, Counted, wholes_summed, begins_summed, maybe_count, stmt_count, stmt_counts}
use Rattle.clc_inline.specs.declared.body.TStmt.{TStmt}
use Rattle.clc_inline.specs.Inlining.{Makes, listed, Bodies, maybe_made, stmt_layer as made_layer, stmt_made}
use Rattle.item_weights.specs.Nodes.{count_stmt, count_first}
use Rattle.item_weights.proofs.Forms.{of, all, begins, maybe, count_block, count_declare, count_choice, count_while, count_do, count_for, count_return, first_declare}
use Rattle.item_weights.proofs.Valid.{value_valid}
use Rattle.item_weights.proofs.Expressions.{CallsAreCounted, makes, tally, saw, expr_good}

all_end : (l : List TStmt) (x : TStmt) → all (l ++ x ∷ []) ≡ all l + count_stmt x
all_end [] x = omega arith
all_end (y ∷ l) x = let p = all_end l x in omega (arith, p)

begins_end : (l : List TStmt) (x : TStmt) → begins (l ++ x ∷ []) ≡ begins l + count_first x
begins_end [] x = omega arith
begins_end (y ∷ l) x = let p = begins_end l x in omega (arith, p)

module _ (fs : List TFunction) (bodies : Bodies) (base : ℕ) (cs : List Tally) (own : List Var) (before : List TFunction) (result : Option Scalar) (called : CallsAreCounted fs bodies cs before) where
  -- an expression that is there is valid
  abbrev IsValidIf : Option Typed → Type 0
  IsValidIf None = Unit {0}
  IsValidIf (Some x) = (saw fs bodies base cs own before result called x).valid ≡ true

  good : (x : Typed) → (saw fs bodies base cs own before result called x).valid ≡ true → (vars : List Var) → of (makes fs bodies base cs own before result called x vars).made ≡ (tally fs bodies base cs own before result called x).nodes
  good x = expr_good fs bodies base cs own before result called x

  condition : (x : Typed) → is_condition own before result x ≡ true → (vars : List Var) → of (makes fs bodies base cs own before result called x vars).made ≡ (tally fs bodies base cs own before result called x).nodes
  condition x h vars = good x (value_valid (saw fs bodies base cs own before result called x) h) vars

  maybe_good : (x : Option Typed) → IsValidIf x → (vars : List Var) → maybe (maybe_made fs bodies base x vars).made ≡ (maybe_count sum cs x).nodes
  maybe_good None h vars = refl
  maybe_good (Some x) h vars = good x h vars

  condition_if : (x : Option Typed) → maybe_condition own before result x ≡ true → IsValidIf x
  condition_if None h = tt
  condition_if (Some x) h = value_valid (saw fs bodies base cs own before result called x) h

  valid_if : (x : Option Typed) → maybe_valid own before result x ≡ true → IsValidIf x
  valid_if None h = tt
  valid_if (Some x) h = h

  declared_if : (o : Option Var) (x : Option Typed) → is_declared own before result o x ≡ true → IsValidIf x
  declared_if o None h = tt
  declared_if None (Some x) h = absurd (false≢true h)
  declared_if (Some (var.Value t)) (Some x) h = (and_parts (saw fs bodies base cs own before result called x).valid (accepts (value_type (var.Value t)) (saw fs bodies base cs own before result called x).ty) h).0
  declared_if (Some (var.Pointer t c)) (Some x) h = (and_parts (saw fs bodies base cs own before result called x).valid (accepts (value_type (var.Pointer t c)) (saw fs bodies base cs own before result called x).ty) h).0
  declared_if (Some (var.Array t n)) (Some x) h = (and_parts (saw fs bodies base cs own before result called x).valid (accepts (value_type (var.Array t n)) (saw fs bodies base cs own before result called x).ty) h).0

  returned_if : (r : Option Scalar) (x : Option Typed) → is_returned own before result r x ≡ true → IsValidIf x
  returned_if r None h = tt
  returned_if None (Some x) h = absurd (false≢true h)
  returned_if (Some t) (Some x) h = value_valid (saw fs bodies base cs own before result called x) h

  abbrev fits : TypedStmt → Bool → Bool
  fits x = stmt_fits own before result x

  abbrev makes_stmt : TypedStmt → Makes TStmt
  makes_stmt x = stmt_made fs bodies base x

  abbrev counts : TypedStmt → Counted
  counts x = stmt_counts sum cs x

  abbrev Good : (Bool → Bool) → Makes TStmt → Counted → Type 0
  Good f m c = (l : Bool) → f l ≡ true → (vars : List Var) → (count_stmt (m vars).made ≡ c.whole.nodes) × (count_first (m vars).made ≡ c.begun.nodes)

  abbrev IsGood : TypedStmt → Type 0
  IsGood x = Good (fits x) (makes_stmt x) (counts x)

  abbrev Part : Type 0
  Part = (x : TypedStmt) × IsGood x

  abbrev firsts : List Part → List TypedStmt
  firsts xs = map (λ x. x.0) xs

  wholes_good : (xs : List Part) (done : List TStmt) (m : Tally) (c : ℕ) (vars : List Var) (l : Bool) → all_fit own before result (map fits (firsts xs)) l ≡ true → c + all done ≡ m.nodes
      → c + all (listed done (map makes_stmt (firsts xs)) vars).made ≡ (wholes_summed sum m (map counts (firsts xs))).nodes
  wholes_good [] done m c vars l h i = i
  wholes_good (x ∷ xs) done m c vars l h i =
      let v = and_parts (fits x.0 l) (all_fit own before result (map fits (firsts xs)) l) h in
      let y = makes_stmt x.0 vars in
      let p = (x.1 l v.0 vars).0 in
      let q = all_end done y.made in
      wholes_good xs (done ++ y.made ∷ []) (sum m (counts x.0).whole) c y.vars l v.1 (omega (arith, i, p, q))

  begins_good : (xs : List Part) (done : List TStmt) (m : Tally) (c : ℕ) (vars : List Var) (l : Bool) → all_fit own before result (map fits (firsts xs)) l ≡ true → c + begins done ≡ m.nodes
      → c + begins (listed done (map makes_stmt (firsts xs)) vars).made ≡ (begins_summed sum m (map counts (firsts xs))).nodes
  begins_good [] done m c vars l h i = i
  begins_good (x ∷ xs) done m c vars l h i =
      let v = and_parts (fits x.0 l) (all_fit own before result (map fits (firsts xs)) l) h in
      let y = makes_stmt x.0 vars in
      let p = (x.1 l v.0 vars).1 in
      let q = begins_end done y.made in
      begins_good xs (done ++ y.made ∷ []) (sum m (counts x.0).begun) c y.vars l v.1 (omega (arith, i, p, q))

  layer : (y : TStmt-F Part)
      → Good (stmt_layer own before result (map-TStmt _ _ fits (map-TStmt _ _ (λ x. x.0) y))) (made_layer fs bodies base (map-TStmt _ _ makes_stmt (map-TStmt _ _ (λ x. x.0) y)))
      (stmt_count sum cs (map-TStmt _ _ counts (map-TStmt _ _ (λ x. x.0) y)))
  layer (s.Block xs) l h vars =
      let c = count_block (listed [] (map makes_stmt (firsts xs)) vars).made in
      let p = wholes_good xs [] (so_many 1) 1 vars l h (omega arith) in (omega (arith, c, p), refl)
  layer (s.Declare v i) l h vars =
      let p = maybe_good i (declared_if (slice_get own v) i h) vars in
      let c = count_declare (base + v) (maybe_made fs bodies base i vars).made in
      let d = first_declare (base + v) (maybe_made fs bodies base i vars).made in (omega (arith, c, p), omega (arith, d, p))
  layer (s.Eval x) l h vars = let p = good x h vars in (omega (arith, p), p)
  layer s.Empty l h vars = (refl, refl)
  layer (s.If x a None) l h vars =
      let v = and_parts (is_condition own before result x && fits a.0 l) true h in
      let w = and_parts (is_condition own before result x) (fits a.0 l) v.0 in
      let y = makes fs bodies base cs own before result called x vars in
      let p = condition x w.0 vars in let q = (a.1 l w.1 y.vars).0 in
      let c = count_choice y.made (makes_stmt a.0 y.vars).made None in (omega (arith, c, p, q), refl)
  layer (s.If x a (Some b)) l h vars =
      let v = and_parts (is_condition own before result x && fits a.0 l) (fits b.0 l) h in
      let w = and_parts (is_condition own before result x) (fits a.0 l) v.0 in
      let y = makes fs bodies base cs own before result called x vars in
      let z = makes_stmt a.0 y.vars in
      let p = condition x w.0 vars in let q = (a.1 l w.1 y.vars).0 in let r = (b.1 l v.1 z.vars).0 in
      let c = count_choice y.made z.made (Some (makes_stmt b.0 z.vars).made) in (omega (arith, c, p, q, r), refl)
  layer (s.While x a) l h vars =
      let v = and_parts (is_condition own before result x) (fits a.0 true) h in
      let y = makes fs bodies base cs own before result called x vars in
      let p = condition x v.0 vars in let q = (a.1 true v.1 y.vars).0 in
      let c = count_while y.made (makes_stmt a.0 y.vars).made in (omega (arith, c, p, q), refl)
  layer (s.Do a x) l h vars =
      let v = and_parts (fits a.0 true) (is_condition own before result x) h in
      let z = makes_stmt a.0 vars in
      let p = condition x v.1 z.vars in let q = (a.1 true v.0 vars).0 in
      let c = count_do z.made (makes fs bodies base cs own before result called x z.vars).made in (omega (arith, c, p, q), refl)
  layer (s.For xs x y a) l h vars =
      let f = all_fit own before result (map fits (firsts xs)) l in
      let u = and_parts (f && maybe_condition own before result x && maybe_valid own before result y) (fits a.0 true) h in
      let v = and_parts (f && maybe_condition own before result x) (maybe_valid own before result y) u.0 in
      let w = and_parts f (maybe_condition own before result x) v.0 in
      let b = listed [] (map makes_stmt (firsts xs)) vars in
      let t = maybe_made fs bodies base x b.vars in
      let z = maybe_made fs bodies base y t.vars in
      let p = begins_good xs [] (so_many 1) 1 vars l w.0 (omega arith) in
      let q = maybe_good x (condition_if x w.1) b.vars in
      let r = maybe_good y (valid_if y v.1) t.vars in
      let o = (a.1 true u.1 z.vars).0 in
      let c = count_for b.made t.made z.made (makes_stmt a.0 z.vars).made in (omega (arith, c, p, q, r, o), refl)
  layer s.Break l h vars = (refl, refl)
  layer s.Continue l h vars = (refl, refl)
  layer (s.Return x) l h vars =
      let p = maybe_good x (returned_if result x h) vars in
      let c = count_return (maybe_made fs bodies base x vars).made in (omega (arith, c, p), refl)

  abbrev firsts_of : TStmt-F Part → TStmt-F TypedStmt
  firsts_of y = map-TStmt _ _ (λ z. z.0) y

  pub stmt_good : (x : TypedStmt) → IsGood x
  stmt_good =
      ind-TStmt IsGood
      (λ x y is. subst (λ z. IsGood (roll-TStmt z)) is
      (subst (λ f. Good f (makes_stmt (roll-TStmt (firsts_of y))) (counts (roll-TStmt (firsts_of y)))) (sym (fold-roll-TStmt (Bool → Bool) (stmt_layer own before result) (firsts_of y)))
      (subst (λ m. Good (stmt_layer own before result (map-TStmt _ _ fits (firsts_of y))) m (counts (roll-TStmt (firsts_of y)))) (sym (fold-roll-TStmt (Makes TStmt) (made_layer fs bodies base) (firsts_of y)))
      (subst (λ c. Good (stmt_layer own before result (map-TStmt _ _ fits (firsts_of y))) (made_layer fs bodies base (map-TStmt _ _ makes_stmt (firsts_of y))) c)
      (sym (fold-roll-TStmt Counted (stmt_count sum cs) (firsts_of y)))
      (layer y)))))
