-- What a well-typed expression adds to the variables once its calls are scopes: the elements that are counted, and fewer variables than it has nodes.
use Rattle.std.proofs.Common.{◌≡◌, ℕ, suc, ◌+◌, ◌≤◌, true, List, [], ◌∷◌, ◌++◌, Option, Some, map, length, sym, subst, arith}
use Rattle.std.specs.Prelude.{slice_get, slice_index_or, eqb}
use Rattle.clc_lexer.specs.declared.marks.Mark.{Mark}
use Rattle.q_lane.specs.declared.kinds.Scalar.{Scalar}
use Rattle.clc_types.specs.declared.typed.Ty.{Ty}
use Rattle.clc_types.specs.declared.typed.Ty.TheVariants as ty
use Rattle.clc_types.specs.declared.typed.Var.{Var}
use Rattle.clc_types.specs.declared.typed.TExpr.{TExpr as Typed, roll-TExpr}
use Rattle.clc_types.specs.declared.typed.Node.{Node as TypedNode, roll-Node}
use Rattle.clc_types.specs.declared.typed.Node.TheOpen as e
use Rattle.clc_types.specs.declared.typed.Node.TheOpen.{Node-F, TExpr-F}
use Rattle.clc_types.specs.declared.typed.Node.TheFolds.{fold-Node, fold-roll-TExpr, fold-roll-Node, ind-TExpr, map-TExpr, map-Node}
use Rattle.clc_types.specs.declared.typed.TFunction.{TFunction}
use Rattle.clc_types.specs.Rules.{same_scalar, common, scalar_of, prefix_kind, ty_of, builtin_params, work_of, gives}
use Rattle.clc_types.specs.WellTyped.{Seen, is_number, same_type, points_to, is_array_of, is_prefix, kind_of_type, is_assignment, assigns, chained, is_call, typed_arguments, node_seen, seen}
use Rattle.clc_counts.specs.declared.tally.Tally.{Tally}
use Rattle.clc_counts.specs.Counts.{so_many, none, sum, weight, summed, operands_summed, one_and, node_count, expr_count}
use Rattle.clc_inline.specs.declared.body.TExpr.{TExpr}
use Rattle.clc_inline.specs.declared.body.Node.{Node}
use Rattle.clc_inline.specs.Inlining.{Makes, listed, operands, Bodies, scope, node_layer, expr_layer, expr_made, node_made}
use Rattle.item_weights.specs.Law.{elements_of}
use Rattle.item_weights.proofs.Valid.{AreValid, OperandsAreValid, first_true, index_valid, element_valid, prefix_valid, step_valid, cast_valid, cond_valid, assign_valid, chained_valid, call_valid, accepted_length, builtin_valid}
use Rattle.item_weights.proofs.Lengths.{length_both, elements_both}

-- a function's body adds the elements that are counted, its own variables' aside, and no more variables than it has nodes and parameters
abbrev pub Adds : (result vars : List Var) → TFunction → Tally → Type 0
Adds result vars g t = (elements_of result + elements_of g.vars ≡ elements_of vars + t.elements) × (length result + length g.vars ≤ length vars + (t.nodes + g.params))

abbrev pub CallsAdd : (fs : List TFunction) → Bodies → List Tally → (before : List TFunction) → Type 0
CallsAdd fs bodies cs before =
    (k : ℕ) (g : TFunction) → slice_get before k ≡ Some g → (slice_get fs k ≡ Some g) × (g.params ≤ length g.vars) × ((b : ℕ) (vars : List Var) → Adds (bodies k b vars).vars vars g (slice_index_or cs k none))

-- a sum that begins with another tally
summed_from : (a b : Tally) (xs : List Tally) → ((summed sum a xs).elements + b.elements ≡ (summed sum b xs).elements + a.elements) × ((summed sum a xs).nodes + b.nodes ≡ (summed sum b xs).nodes + a.nodes)
summed_from a b [] = (omega arith, omega arith)
summed_from a b (x ∷ xs) = let p = summed_from (sum a x) (sum b x) xs in let p0 = p.0 in let p1 = p.1 in (omega (arith, p0), omega (arith, p1))

module _ (fs : List TFunction) (bodies : Bodies) (base : ℕ) (cs : List Tally) (own : List Var) (before : List TFunction) (result : Option Scalar) (called : CallsAdd fs bodies cs before) where
  abbrev pub makes : Typed → Makes TExpr
  makes x = expr_made fs bodies base x

  abbrev pub tally : Typed → Tally
  tally x = expr_count sum cs x

  abbrev pub saw : Typed → Seen
  saw x = seen own before result x

  abbrev makes_node : TypedNode → Makes Node
  makes_node x = node_made fs bodies base x

  abbrev tally_node : TypedNode → Tally
  tally_node x = fold-Node Tally Tally (node_count sum cs) (λ y. y.node) x

  abbrev saw_node : TypedNode → Ty → Seen
  saw_node x = fold-Node (Ty → Seen) Seen (node_seen own before result) (λ y. y.node y.ty) x

  abbrev Good : Seen → Makes TExpr → Tally → Type 0
  Good s m t = s.valid ≡ true → (vars : List Var) → (elements_of (m vars).vars ≡ elements_of vars + t.elements) × (length (m vars).vars + 1 ≤ length vars + t.nodes)

  abbrev GoodNode : (Ty → Seen) → Makes Node → Tally → Type 0
  GoodNode s m t = (a : Ty) → (s a).valid ≡ true → (vars : List Var) → (elements_of (m vars).vars ≡ elements_of vars + t.elements) × (length (m vars).vars + 1 ≤ length vars + t.nodes)

  abbrev pub IsGood : Typed → Type 0
  IsGood x = Good (saw x) (makes x) (tally x)

  abbrev NodeIsGood : TypedNode → Type 0
  NodeIsGood x = GoodNode (saw_node x) (makes_node x) (tally_node x)

  abbrev Part : Type 0
  Part = (x : Typed) × IsGood x

  abbrev NodePart : Type 0
  NodePart = (x : TypedNode) × NodeIsGood x

  abbrev firsts : List Part → List Typed
  firsts xs = map (λ x. x.0) xs

  args_good : (xs : List Part) (done : List TExpr) (m : Tally) (a b c : ℕ) (vars : List Var) → AreValid (map saw (firsts xs)) → elements_of vars ≡ a + m.elements → length vars + c ≤ b + m.nodes
      → (elements_of (listed done (map makes (firsts xs)) vars).vars ≡ a + (summed sum m (map tally (firsts xs))).elements)
      × (length (listed done (map makes (firsts xs)) vars).vars + (c + length (map saw (firsts xs))) ≤ b + (summed sum m (map tally (firsts xs))).nodes)
  args_good [] done m a b c vars h i j = (i, omega (arith, j))
  args_good (x ∷ xs) done m a b c vars h i j =
      let y = makes x.0 vars in
      let p = x.1 h.0 vars in let p0 = p.0 in let p1 = p.1 in
      let q = args_good xs (done ++ y.made ∷ []) (sum m (tally x.0)) a b (suc c) y.vars h.1 (omega (arith, i, p0)) (omega (arith, j, p1)) in
      let q1 = q.1 in (q.0, omega (arith, q1))

  abbrev first_of : Mark × Part → Mark × Typed
  first_of x = (x.0, x.1.0)

  abbrev saw_second : Mark × Typed → Mark × Seen
  saw_second x = (x.0, saw x.1)

  abbrev makes_second : Mark × Typed → Mark × Makes TExpr
  makes_second x = (x.0, makes x.1)

  abbrev tally_second : Mark × Typed → Mark × Tally
  tally_second x = (x.0, tally x.1)

  chain_good : (xs : List (Mark × Part)) (done : List (Mark × TExpr)) (m : Tally) (a b : ℕ) (vars : List Var) → OperandsAreValid (map saw_second (map first_of xs)) → elements_of vars ≡ a + m.elements
      → length vars + 1 ≤ b + m.nodes
      → (elements_of (operands done (map makes_second (map first_of xs)) vars).vars ≡ a + (operands_summed sum m (map tally_second (map first_of xs))).elements)
      × (length (operands done (map makes_second (map first_of xs)) vars).vars + 1 ≤ b + (operands_summed sum m (map tally_second (map first_of xs))).nodes)
  chain_good [] done m a b vars h i j = (i, j)
  chain_good (x ∷ xs) done m a b vars h i j =
      let y = makes x.1.0 vars in
      let p = x.1.1 h.0 vars in let p0 = p.0 in let p1 = p.1 in
      chain_good xs (done ++ (x.0, y.made) ∷ []) (sum m (sum (so_many (weight x.0)) (tally x.1.0))) a b y.vars h.1 (omega (arith, i, p0)) (omega (arith, j, p1))

  abbrev Grows : (result vars : List Var) → Tally → Type 0
  Grows result vars t = (elements_of result ≡ elements_of vars + t.elements) × (length result + 1 ≤ length vars + t.nodes)

  call_good : (k : ℕ) (xs : List Part) (t : Ty) (vars : List Var) → is_call (slice_get before k) (map saw (firsts xs)) t ≡ true
      → Grows (node_layer fs bodies base (e.Call k (map makes (firsts xs))) vars).vars vars (summed sum (one_and sum (slice_index_or cs k none)) (map tally (firsts xs)))
  call_good k xs t vars h =
      let v = call_valid (slice_get before k) (map saw (firsts xs)) t h in
      let g = v.0 in
      let f = called k g v.1 in
      let l = listed [] (map makes (firsts xs)) vars in
      let p = f.2 (length l.vars) (l.vars ++ g.vars) in let p0 = p.0 in let p1 = p.1 in
      let w = accepted_length (slice_get before k) (map saw (firsts xs)) t h g v.1 f.1 in
      let a = length_both l.vars g.vars in let b = elements_both l.vars g.vars in
      let z = slice_index_or cs k none in
      let s = args_good xs [] none (elements_of vars) (length vars) 0 vars v.2 (omega arith) (omega arith) in let s0 = s.0 in let s1 = s.1 in
      let u = summed_from (one_and sum z) none (map tally (firsts xs)) in let u0 = u.0 in let u1 = u.1 in
      subst (λ (o : Option TFunction). Grows (scope bodies k o l.made l.vars).vars vars (summed sum (one_and sum z) (map tally (firsts xs)))) (sym f.0)
      (omega (arith, p0, b, s0, u0), omega (arith, p1, a, s1, u1, w))

  one_grows : (n : ℕ) (a : Part) (vars : List Var) → Grows (makes a.0 vars).vars vars (tally a.0) → Grows (makes a.0 vars).vars vars (sum (so_many n) (tally a.0))
  one_grows n a vars p = let p0 = p.0 in let p1 = p.1 in (omega (arith, p0), omega (arith, p1))

  two_grow : (a b : Part) (vars : List Var) → (saw a.0).valid ≡ true → (saw b.0).valid ≡ true → Grows (makes b.0 (makes a.0 vars).vars).vars vars (one_and sum (sum (tally a.0) (tally b.0)))
  two_grow a b vars h i =
      let p = a.1 h vars in let q = b.1 i (makes a.0 vars).vars in
      let p0 = p.0 in let p1 = p.1 in let q0 = q.0 in let q1 = q.1 in (omega (arith, p0, q0), omega (arith, p1, q1))

  layer : (y : Node-F NodePart Part)
      → GoodNode (node_seen own before result (map-Node _ _ _ _ saw_node saw (map-Node _ _ _ _ (λ x. x.0) (λ x. x.0) y)))
      (node_layer fs bodies base (map-Node _ _ _ _ makes_node makes (map-Node _ _ _ _ (λ x. x.0) (λ x. x.0) y)))
      (node_count sum cs (map-Node _ _ _ _ tally_node tally (map-Node _ _ _ _ (λ x. x.0) (λ x. x.0) y)))
  layer (e.Number w) t h vars = (omega arith, omega arith)
  layer (e.Name v) t h vars = (omega arith, omega arith)
  layer (e.Index a b) t h vars =
      let v = index_valid (saw a.0) (saw b.0) t h in
      two_grow a b vars v.0 v.1
  layer (e.Element v b) t h vars = let p = b.1 (element_valid (is_array_of (slice_get own v) t) (saw b.0) h) vars in one_grows 2 b vars p
  layer (e.Deref a) t h vars = one_grows 1 a vars (a.1 (first_true (saw a.0).valid (points_to (saw a.0).ty t) h) vars)
  layer (e.Prefix o a) t h vars = one_grows 1 a vars (a.1 (prefix_valid (saw a.0) (is_prefix o) (same_type t (ty_of (prefix_kind o (kind_of_type (saw a.0).ty)))) h) vars)
  layer (e.Step a up post) t h vars = one_grows 1 a vars (a.1 (step_valid (saw a.0) (same_type t (saw a.0).ty) h) vars)
  layer (e.Cast a) t h vars = one_grows 1 a vars (a.1 (cast_valid (saw a.0) (is_number t) h) vars)
  layer (e.Paren a) t h vars = a.1 (first_true (saw a.0).valid (same_type t (saw a.0).ty) h) vars
  layer (e.Chain a xs) t h vars =
      let w = chained (saw a.0) (map saw_second (map first_of xs)) in
      let v = chained_valid (saw a.0) (map saw_second (map first_of xs)) (first_true w.valid (same_type t w.ty) h) in
      let x = makes a.0 vars in
      let p = a.1 v.0 vars in
      chain_good xs [] (tally a.0) (elements_of vars) (length vars) x.vars v.1 p.0 p.1
  layer (e.Cond a b d) t h vars =
      let v = cond_valid (saw a.0) (saw b.0) (saw d.0) (same_type t (ty.Value (common (scalar_of (kind_of_type (saw b.0).ty)) (scalar_of (kind_of_type (saw d.0).ty))))) h in
      let x = makes a.0 vars in
      let y = makes b.0 x.vars in
      let p = a.1 v.0 vars in let q = b.1 v.1 x.vars in let r = d.1 v.2 y.vars in
      let p0 = p.0 in let p1 = p.1 in let q0 = q.0 in let q1 = q.1 in let r0 = r.0 in let r1 = r.1 in
      (omega (arith, p0, q0, r0), omega (arith, p1, q1, r1))
  layer (e.Assign a o b) t h vars =
      let v = assign_valid (saw a.0) (saw b.0) (is_assignment o) (assigns o (saw a.0).ty (saw b.0).ty) (same_type t (saw a.0).ty) h in
      let x = makes a.0 vars in
      let p = a.1 v.0 vars in let q = b.1 v.1 x.vars in
      let p0 = p.0 in let p1 = p.1 in let q0 = q.0 in let q1 = q.1 in
      (omega (arith, p0, q0), omega (arith, p1, q1))
  layer (e.Call k xs) t h vars = call_good k xs t vars h
  layer (e.Builtin which work xs) t h vars =
      let l = map saw (firsts xs) in
      let v = builtin_valid (eqb (length (builtin_params which)) (length l)) (same_scalar work (work_of which (typed_arguments l))) (same_type t (ty.Value (gives which work))) l h in
      let q = args_good xs [] (so_many 16) (elements_of vars) (length vars) 16 vars v (omega arith) (omega arith) in
      let q0 = q.0 in let q1 = q.1 in (q0, omega (arith, q1))

  node_good : (x : Node-F TypedNode Typed) (y : Node-F NodePart Part) → map-Node _ _ _ _ (λ z. z.0) (λ z. z.0) y ≡ x → NodeIsGood (roll-Node x)
  node_good x y is =
      subst (λ z. NodeIsGood (roll-Node z)) is
      (subst (λ s. GoodNode s (makes_node (roll-Node (map-Node _ _ _ _ (λ z. z.0) (λ z. z.0) y))) (tally_node (roll-Node (map-Node _ _ _ _ (λ z. z.0) (λ z. z.0) y))))
      (sym (fold-roll-Node (Ty → Seen) Seen (node_seen own before result) (λ y. y.node y.ty) (map-Node _ _ _ _ (λ z. z.0) (λ z. z.0) y)))
      (subst (λ m. GoodNode (node_seen own before result (map-Node _ _ _ _ saw_node saw (map-Node _ _ _ _ (λ z. z.0) (λ z. z.0) y))) m (tally_node (roll-Node (map-Node _ _ _ _ (λ z. z.0) (λ z. z.0) y))))
      (sym (fold-roll-Node (Makes Node) (Makes TExpr) (node_layer fs bodies base) (expr_layer fs bodies base) (map-Node _ _ _ _ (λ z. z.0) (λ z. z.0) y)))
      (subst (λ t. GoodNode (node_seen own before result (map-Node _ _ _ _ saw_node saw (map-Node _ _ _ _ (λ z. z.0) (λ z. z.0) y))) (node_layer fs bodies base (map-Node _ _ _ _ makes_node makes (map-Node _ _ _ _ (λ z. z.0) (λ z. z.0) y))) t)
      (sym (fold-roll-Node Tally Tally (node_count sum cs) (λ z. z.node) (map-Node _ _ _ _ (λ z. z.0) (λ z. z.0) y)))
      (layer y))))

  abbrev firsts_of : TExpr-F NodePart Part → TExpr-F TypedNode Typed
  firsts_of y = map-TExpr _ _ _ _ (λ z. z.0) (λ z. z.0) y

  abbrev seen_of : TExpr-F (Ty → Seen) Seen → Seen
  seen_of y = y.node y.ty

  abbrev tally_in : TExpr-F Tally Tally → Tally
  tally_in y = y.node

  rolled : (y : TExpr-F NodePart Part)
      → Good (seen_of (map-TExpr _ _ _ _ saw_node saw (firsts_of y))) (expr_layer fs bodies base (map-TExpr _ _ _ _ makes_node makes (firsts_of y))) (tally_in (map-TExpr _ _ _ _ tally_node tally (firsts_of y)))
  rolled y h vars = y.node.1 y.ty h vars

  pub expr_good : (x : Typed) → IsGood x
  expr_good =
      ind-TExpr NodeIsGood IsGood node_good
      (λ x y is. subst (λ z. IsGood (roll-TExpr z)) is
      (subst (λ s. Good s (makes (roll-TExpr (firsts_of y))) (tally (roll-TExpr (firsts_of y))))
      (sym (fold-roll-TExpr (Ty → Seen) Seen (node_seen own before result) seen_of (firsts_of y)))
      (subst (λ m. Good (seen_of (map-TExpr _ _ _ _ saw_node saw (firsts_of y))) m (tally (roll-TExpr (firsts_of y))))
      (sym (fold-roll-TExpr (Makes Node) (Makes TExpr) (node_layer fs bodies base) (expr_layer fs bodies base) (firsts_of y)))
      (subst (λ t. Good (seen_of (map-TExpr _ _ _ _ saw_node saw (firsts_of y))) (expr_layer fs bodies base (map-TExpr _ _ _ _ makes_node makes (firsts_of y))) t)
      (sym (fold-roll-TExpr Tally Tally (node_count sum cs) tally_in (firsts_of y)))
      (rolled y)))))
