-- What a well-typed statement adds to the variables once its calls are scopes: the elements that are counted, and as many variables as it has nodes at most, those that it declares counted with them.
use Rattle.std.proofs.Common.{◌≡◌, ℕ, ◌+◌, ◌≤◌, Bool, true, List, [], ◌∷◌, ◌++◌, Option, Some, None, map, length, sym, subst, arith}
use Rattle.std.specs.Prelude.{slice_get, ◌&&◌}
use Rattle.std.proofs.lemmas.Bool.{false≢true, and_parts}
use Rattle.q_lane.specs.declared.kinds.Scalar.{Scalar}
use Rattle.clc_types.specs.declared.typed.Var.{Var}
use Rattle.clc_types.specs.declared.typed.Var.TheVariants as var
use Rattle.clc_types.specs.declared.typed.TExpr.{TExpr as Typed}
use Rattle.clc_types.specs.declared.typed.TStmt.{TStmt as TypedStmt, roll-TStmt}
use Rattle.clc_types.specs.declared.typed.TStmt.TheOpen as s
use Rattle.clc_types.specs.declared.typed.TStmt.TheOpen.{TStmt-F}
use Rattle.clc_types.specs.declared.typed.TStmt.TheFolds.{fold-roll-TStmt, ind-TStmt, map-TStmt}
use Rattle.clc_types.specs.declared.typed.TFunction.{TFunction}
use Rattle.clc_types.specs.WellTyped.{accepts, value_type, is_condition, maybe_condition, maybe_valid, is_declared, is_returned, all_fit, together, declared_layer, declared, stmt_layer, stmt_fits}
use Rattle.clc_counts.specs.declared.tally.Tally.{Tally}
use Rattle.clc_counts.specs.Counts.{so_many, sum, Counted, wholes_summed, begins_summed, maybe_count, stmt_count, stmt_counts}
use Rattle.clc_inline.specs.declared.body.TStmt.{TStmt}
use Rattle.clc_inline.specs.Inlining.{Makes, listed, Bodies, maybe_made, stmt_layer as made_layer, stmt_made}
use Rattle.item_weights.specs.Law.{elements_of}
use Rattle.clc_plain.specs.Plain.{Plain, all_plain, all_first, plain_layer, plain_in}
use Rattle.item_weights.proofs.Valid.{value_valid}
use Rattle.item_weights.proofs.Lengths.{length_both}
use Rattle.item_weights.proofs.VarsOfExpressions.{CallsAdd, makes, tally, saw, expr_good}

module _ (fs : List TFunction) (bodies : Bodies) (base : ℕ) (cs : List Tally) (own : List Var) (before : List TFunction) (result : Option Scalar) (called : CallsAdd fs bodies cs before) where
  abbrev Grows : (result vars : List Var) → ℕ → Tally → Type 0
  Grows result vars n t = (elements_of result ≡ elements_of vars + t.elements) × (length result + n ≤ length vars + t.nodes)

  -- an expression that is there is valid
  abbrev IsValidIf : Option Typed → Type 0
  IsValidIf None = Unit {0}
  IsValidIf (Some x) = (saw fs bodies base cs own before result called x).valid ≡ true

  good : (x : Typed) → (saw fs bodies base cs own before result called x).valid ≡ true → (vars : List Var) → Grows (makes fs bodies base cs own before result called x vars).vars vars 1 (tally fs bodies base cs own before result called x)
  good x = expr_good fs bodies base cs own before result called x

  condition : (x : Typed) → is_condition own before result x ≡ true → (vars : List Var) → Grows (makes fs bodies base cs own before result called x vars).vars vars 1 (tally fs bodies base cs own before result called x)
  condition x h vars = good x (value_valid (saw fs bodies base cs own before result called x) h) vars

  maybe_good : (x : Option Typed) → IsValidIf x → (vars : List Var) → Grows (maybe_made fs bodies base x vars).vars vars 0 (maybe_count sum cs x)
  maybe_good None h vars = (omega arith, omega arith)
  maybe_good (Some x) h vars = let p = good x h vars in let p1 = p.1 in (p.0, omega (arith, p1))

  condition_if : (x : Option Typed) → maybe_condition own before result x ≡ true → IsValidIf x
  condition_if None h = tt
  condition_if (Some x) h = value_valid (saw fs bodies base cs own before result called x) h

  valid_if : (x : Option Typed) → maybe_valid own before result x ≡ true → IsValidIf x
  valid_if None h = tt
  valid_if (Some x) h = h

  declared_if : (o : Option Var) (x : Option Typed) → is_declared own before result o x ≡ true → IsValidIf x
  declared_if o None h = tt
  declared_if None (Some x) h = absurd (false≢true h)
  declared_if (Some (var.Value t)) (Some x) h = (and_parts (saw fs bodies base cs own before result called x).valid (accepts (value_type (var.Value t)) (saw fs bodies base cs own before result called x).ty) h).0
  declared_if (Some (var.Pointer t c)) (Some x) h = (and_parts (saw fs bodies base cs own before result called x).valid (accepts (value_type (var.Pointer t c)) (saw fs bodies base cs own before result called x).ty) h).0
  declared_if (Some (var.Array t n)) (Some x) h = (and_parts (saw fs bodies base cs own before result called x).valid (accepts (value_type (var.Array t n)) (saw fs bodies base cs own before result called x).ty) h).0

  returned_if : (r : Option Scalar) (x : Option Typed) → is_returned own before result r x ≡ true → IsValidIf x
  returned_if r None h = tt
  returned_if None (Some x) h = absurd (false≢true h)
  returned_if (Some t) (Some x) h = value_valid (saw fs bodies base cs own before result called x) h

  abbrev fits : TypedStmt → Bool → Bool
  fits x = stmt_fits own before result x

  abbrev makes_stmt : TypedStmt → Makes TStmt
  makes_stmt x = stmt_made fs bodies base x

  abbrev counts : TypedStmt → Counted
  counts x = stmt_counts sum cs x

  abbrev plainly : TypedStmt → Plain
  plainly x = plain_in x

  abbrev declares : TypedStmt → List ℕ
  declares x = declared x

  abbrev Good : (Bool → Bool) → Plain → List ℕ → Makes TStmt → Counted → Type 0
  Good f b d m c =
      (l : Bool) → f l ≡ true → (vars : List Var)
      → (b.whole ≡ true → Grows (m vars).vars vars (length d) c.whole) × (b.first ≡ true → Grows (m vars).vars vars (length d) c.begun)

  abbrev IsGood : TypedStmt → Type 0
  IsGood x = Good (fits x) (plainly x) (declares x) (makes_stmt x) (counts x)

  abbrev Part : Type 0
  Part = (x : TypedStmt) × IsGood x

  abbrev firsts : List Part → List TypedStmt
  firsts xs = map (λ x. x.0) xs

  wholes_good : (xs : List Part) (done : List TStmt) (m : Tally) (a b c : ℕ) (vars : List Var) (l : Bool) → all_fit own before result (map fits (firsts xs)) l ≡ true → all_plain (map plainly (firsts xs)) ≡ true
      → elements_of vars ≡ a + m.elements → length vars + c ≤ b + m.nodes
      → (elements_of (listed done (map makes_stmt (firsts xs)) vars).vars ≡ a + (wholes_summed sum m (map counts (firsts xs))).elements)
      × (length (listed done (map makes_stmt (firsts xs)) vars).vars + (c + length (together (map declares (firsts xs)))) ≤ b + (wholes_summed sum m (map counts (firsts xs))).nodes)
  wholes_good [] done m a b c vars l h g i j = (i, omega (arith, j))
  wholes_good (x ∷ xs) done m a b c vars l h g i j =
      let v = and_parts (fits x.0 l) (all_fit own before result (map fits (firsts xs)) l) h in
      let w = and_parts (plainly x.0).whole (all_plain (map plainly (firsts xs))) g in
      let y = makes_stmt x.0 vars in
      let p = (x.1 l v.0 vars).0 w.0 in let p0 = p.0 in let p1 = p.1 in
      let n = length (declares x.0) in
      let e = length_both (declares x.0) (together (map declares (firsts xs))) in
      let q = wholes_good xs (done ++ y.made ∷ []) (sum m (counts x.0).whole) a b (c + n) y.vars l v.1 w.1 (omega (arith, i, p0)) (omega (arith, j, p1)) in let q1 = q.1 in
      (q.0, omega (arith, q1, e))

  begins_good : (xs : List Part) (done : List TStmt) (m : Tally) (a b c : ℕ) (vars : List Var) (l : Bool) → all_fit own before result (map fits (firsts xs)) l ≡ true → all_first (map plainly (firsts xs)) ≡ true
      → elements_of vars ≡ a + m.elements → length vars + c ≤ b + m.nodes
      → (elements_of (listed done (map makes_stmt (firsts xs)) vars).vars ≡ a + (begins_summed sum m (map counts (firsts xs))).elements)
      × (length (listed done (map makes_stmt (firsts xs)) vars).vars + (c + length (together (map declares (firsts xs)))) ≤ b + (begins_summed sum m (map counts (firsts xs))).nodes)
  begins_good [] done m a b c vars l h g i j = (i, omega (arith, j))
  begins_good (x ∷ xs) done m a b c vars l h g i j =
      let v = and_parts (fits x.0 l) (all_fit own before result (map fits (firsts xs)) l) h in
      let w = and_parts (plainly x.0).first (all_first (map plainly (firsts xs))) g in
      let y = makes_stmt x.0 vars in
      let p = (x.1 l v.0 vars).1 w.0 in let p0 = p.0 in let p1 = p.1 in
      let n = length (declares x.0) in
      let e = length_both (declares x.0) (together (map declares (firsts xs))) in
      let q = begins_good xs (done ++ y.made ∷ []) (sum m (counts x.0).begun) a b (c + n) y.vars l v.1 w.1 (omega (arith, i, p0)) (omega (arith, j, p1)) in let q1 = q.1 in
      (q.0, omega (arith, q1, e))

  layer : (y : TStmt-F Part)
      → Good (stmt_layer own before result (map-TStmt _ _ fits (map-TStmt _ _ (λ x. x.0) y))) (plain_layer (map-TStmt _ _ plainly (map-TStmt _ _ (λ x. x.0) y)))
      (declared_layer (map-TStmt _ _ declares (map-TStmt _ _ (λ x. x.0) y))) (made_layer fs bodies base (map-TStmt _ _ makes_stmt (map-TStmt _ _ (λ x. x.0) y)))
      (stmt_count sum cs (map-TStmt _ _ counts (map-TStmt _ _ (λ x. x.0) y)))
  layer (s.Block xs) l h vars = (
    (λ g. let p = wholes_good xs [] (so_many 1) (elements_of vars) (length vars) 0 vars l h g (omega arith) (omega arith) in let p1 = p.1 in (p.0, omega (arith, p1))),
    (λ g. absurd (false≢true g)),
  )
  layer (s.Declare v i) l h vars =
      let p = maybe_good i (declared_if (slice_get own v) i h) vars in let p0 = p.0 in let p1 = p.1 in
      ((λ g. (omega (arith, p0), omega (arith, p1))), (λ g. (omega (arith, p0), omega (arith, p1))))
  layer (s.Eval x) l h vars = let p = good x h vars in let p0 = p.0 in let p1 = p.1 in ((λ g. (omega (arith, p0), omega (arith, p1))), (λ g. (omega (arith, p0), omega (arith, p1))))
  layer s.Empty l h vars = ((λ g. (omega arith, omega arith)), (λ g. absurd (false≢true g)))
  layer (s.If x a None) l h vars =
      let v = and_parts (is_condition own before result x && fits a.0 l) true h in
      let w = and_parts (is_condition own before result x) (fits a.0 l) v.0 in
      let y = makes fs bodies base cs own before result called x vars in
      let p = condition x w.0 vars in let p0 = p.0 in let p1 = p.1 in
      let e = length_both (declares a.0) [] in
      ((λ g. let q = (a.1 l w.1 y.vars).0 (and_parts (plainly a.0).whole true g).0 in let q0 = q.0 in let q1 = q.1 in (omega (arith, p0, q0), omega (arith, e, p1, q1))), (λ g. absurd (false≢true g)))
  layer (s.If x a (Some b)) l h vars =
      let v = and_parts (is_condition own before result x && fits a.0 l) (fits b.0 l) h in
      let w = and_parts (is_condition own before result x) (fits a.0 l) v.0 in
      let y = makes fs bodies base cs own before result called x vars in
      let z = makes_stmt a.0 y.vars in
      let p = condition x w.0 vars in let p0 = p.0 in let p1 = p.1 in
      let e = length_both (declares a.0) (declares b.0) in (
        (λ g.
            let u = and_parts (plainly a.0).whole (plainly b.0).whole g in
            let q = (a.1 l w.1 y.vars).0 u.0 in let q0 = q.0 in let q1 = q.1 in
            let r = (b.1 l v.1 z.vars).0 u.1 in let r0 = r.0 in let r1 = r.1 in (omega (arith, p0, q0, r0), omega (arith, e, p1, q1, r1))),
        (λ g. absurd (false≢true g)),
      )
  layer (s.While x a) l h vars =
      let v = and_parts (is_condition own before result x) (fits a.0 true) h in
      let y = makes fs bodies base cs own before result called x vars in
      let p = condition x v.0 vars in let p0 = p.0 in let p1 = p.1 in
      ((λ g. let q = (a.1 true v.1 y.vars).0 g in let q0 = q.0 in let q1 = q.1 in (omega (arith, p0, q0), omega (arith, p1, q1))), (λ g. absurd (false≢true g)))
  layer (s.Do a x) l h vars =
      let v = and_parts (fits a.0 true) (is_condition own before result x) h in
      let z = makes_stmt a.0 vars in
      let p = condition x v.1 z.vars in let p0 = p.0 in let p1 = p.1 in
      ((λ g. let q = (a.1 true v.0 vars).0 g in let q0 = q.0 in let q1 = q.1 in (omega (arith, p0, q0), omega (arith, p1, q1))), (λ g. absurd (false≢true g)))
  layer (s.For xs x y a) l h vars =
      let f = all_fit own before result (map fits (firsts xs)) l in
      let u = and_parts (f && maybe_condition own before result x && maybe_valid own before result y) (fits a.0 true) h in
      let v = and_parts (f && maybe_condition own before result x) (maybe_valid own before result y) u.0 in
      let w = and_parts f (maybe_condition own before result x) v.0 in
      let b = listed [] (map makes_stmt (firsts xs)) vars in
      let t = maybe_made fs bodies base x b.vars in
      let z = maybe_made fs bodies base y t.vars in
      let q = maybe_good x (condition_if x w.1) b.vars in let q0 = q.0 in let q1 = q.1 in
      let r = maybe_good y (valid_if y v.1) t.vars in let r0 = r.0 in let r1 = r.1 in
      let e = length_both (together (map declares (firsts xs))) (declares a.0) in (
        (λ g.
            let k = and_parts (all_first (map plainly (firsts xs))) (plainly a.0).whole g in
            let p = begins_good xs [] (so_many 1) (elements_of vars) (length vars) 0 vars l w.0 k.0 (omega arith) (omega arith) in let p0 = p.0 in let p1 = p.1 in
            let o = (a.1 true u.1 z.vars).0 k.1 in let o0 = o.0 in let o1 = o.1 in
            (omega (arith, p0, q0, r0, o0), omega (arith, e, p1, q1, r1, o1))),
        (λ g. absurd (false≢true g)),
      )
  layer s.Break l h vars = ((λ g. (omega arith, omega arith)), (λ g. absurd (false≢true g)))
  layer s.Continue l h vars = ((λ g. (omega arith, omega arith)), (λ g. absurd (false≢true g)))
  layer (s.Return x) l h vars =
      let p = maybe_good x (returned_if result x h) vars in let p0 = p.0 in let p1 = p.1 in ((λ g. (omega (arith, p0), omega (arith, p1))), (λ g. absurd (false≢true g)))

  abbrev firsts_of : TStmt-F Part → TStmt-F TypedStmt
  firsts_of y = map-TStmt _ _ (λ z. z.0) y

  abbrev fits_of : TStmt-F Part → Bool → Bool
  fits_of y = stmt_layer own before result (map-TStmt _ _ fits (firsts_of y))

  abbrev plain_of : TStmt-F Part → Plain
  plain_of y = plain_layer (map-TStmt _ _ plainly (firsts_of y))

  abbrev declared_of : TStmt-F Part → List ℕ
  declared_of y = declared_layer (map-TStmt _ _ declares (firsts_of y))

  abbrev made_of : TStmt-F Part → Makes TStmt
  made_of y = made_layer fs bodies base (map-TStmt _ _ makes_stmt (firsts_of y))

  rolled : (y : TStmt-F Part) → IsGood (roll-TStmt (firsts_of y))
  rolled y =
      let x = roll-TStmt (firsts_of y) in
      subst (λ f. Good f (plainly x) (declares x) (makes_stmt x) (counts x)) (sym (fold-roll-TStmt (Bool → Bool) (stmt_layer own before result) (firsts_of y)))
      (subst (λ b. Good (fits_of y) b (declares x) (makes_stmt x) (counts x)) (sym (fold-roll-TStmt Plain plain_layer (firsts_of y)))
      (subst (λ d. Good (fits_of y) (plain_of y) d (makes_stmt x) (counts x)) (sym (fold-roll-TStmt (List ℕ) declared_layer (firsts_of y)))
      (subst (λ m. Good (fits_of y) (plain_of y) (declared_of y) m (counts x)) (sym (fold-roll-TStmt (Makes TStmt) (made_layer fs bodies base) (firsts_of y)))
      (subst (λ c. Good (fits_of y) (plain_of y) (declared_of y) (made_of y) c) (sym (fold-roll-TStmt Counted (stmt_count sum cs) (firsts_of y))) (layer y)))))

  pub stmt_good : (x : TypedStmt) → IsGood x
  stmt_good = ind-TStmt IsGood (λ x y is. subst (λ z. IsGood (roll-TStmt z)) is (rolled y))
