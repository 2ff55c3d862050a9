-- A well-typed expression has as many nodes once its calls are scopes.
use Rattle.std.proofs.Common.{◌≡◌, ℕ, ◌+◌, true, List, [], ◌∷◌, ◌++◌, Option, Some, map, length, refl, sym, subst, arith}
use Rattle.std.specs.Prelude.{slice_get, slice_index_or, eqb}
use Rattle.clc_lexer.specs.declared.marks.Mark.{Mark}
use Rattle.q_lane.specs.declared.kinds.Scalar.{Scalar}
use Rattle.clc_types.specs.declared.typed.Ty.{Ty}
use Rattle.clc_types.specs.declared.typed.Ty.TheVariants as ty
use Rattle.clc_types.specs.declared.typed.Var.{Var}
use Rattle.clc_types.specs.declared.typed.TExpr.{TExpr as Typed, roll-TExpr}
use Rattle.clc_types.specs.declared.typed.Node.{Node as TypedNode, roll-Node}
use Rattle.clc_types.specs.declared.typed.Node.TheOpen as e
use Rattle.clc_types.specs.declared.typed.Node.TheOpen.{Node-F, TExpr-F}
use Rattle.clc_types.specs.declared.typed.Node.TheFolds.{fold-Node, fold-roll-TExpr, fold-roll-Node, ind-TExpr, map-TExpr, map-Node}
use Rattle.clc_types.specs.declared.typed.TFunction.{TFunction}
use Rattle.clc_types.specs.Rules.{same_scalar, common, scalar_of, prefix_kind, ty_of, builtin_params, work_of, gives}
use Rattle.clc_types.specs.WellTyped.{Seen, is_number, same_type, points_to, is_array_of, is_prefix, kind_of_type, is_assignment, assigns, chained, is_call, typed_arguments, node_seen, seen}
use Rattle.clc_counts.specs.declared.tally.Tally.{Tally}
use Rattle.clc_counts.specs.Counts.{so_many, none, sum, weight, summed, operands_summed, one_and, node_count, expr_count}
use Rattle.clc_inline.specs.declared.body.TExpr.{TExpr}
use Rattle.clc_inline.specs.declared.body.Node.{Node}
use Rattle.clc_inline.specs.Inlining.{Makes, listed, operands, numbers, Bodies, scope, node_layer, expr_layer, expr_made, node_made}
use Rattle.item_weights.specs.Nodes.{count, count_stmt}
use Rattle.item_weights.proofs.Forms.{of, args, chain, count_index, count_element, count_deref, count_prefix, count_step, count_cast, count_paren, count_chained, count_cond, count_assign, count_scope, count_builtin}
use Rattle.item_weights.proofs.Valid.{AreValid, OperandsAreValid, first_true, index_valid, element_valid, prefix_valid, step_valid, cast_valid, cond_valid, assign_valid, chained_valid, call_valid, builtin_valid}

args_end : (l : List TExpr) (x : TExpr) → args (l ++ x ∷ []) ≡ args l + of x
args_end [] x = omega arith
args_end (y ∷ l) x = let p = args_end l x in omega (arith, p)

chain_end : (l : List (Mark × TExpr)) (o : Mark) (x : TExpr) → chain (l ++ (o, x) ∷ []) ≡ chain l + (weight o + of x)
chain_end [] o x = omega arith
chain_end (y ∷ l) o x = let p = chain_end l o x in omega (arith, p)

-- the functions before one are in their places, and their bodies have as many nodes as they count
abbrev pub CallsAreCounted : (fs : List TFunction) → Bodies → List Tally → (before : List TFunction) → Type 0
CallsAreCounted fs bodies cs before =
    (k : ℕ) (g : TFunction) → slice_get before k ≡ Some g → (slice_get fs k ≡ Some g) × ((b : ℕ) (vars : List Var) → count_stmt (bodies k b vars).made ≡ (slice_index_or cs k none).nodes)

module _ (fs : List TFunction) (bodies : Bodies) (base : ℕ) (cs : List Tally) (own : List Var) (before : List TFunction) (result : Option Scalar) (called : CallsAreCounted fs bodies cs before) where
  abbrev pub makes : Typed → Makes TExpr
  makes x = expr_made fs bodies base x

  abbrev pub tally : Typed → Tally
  tally x = expr_count sum cs x

  abbrev pub saw : Typed → Seen
  saw x = seen own before result x

  abbrev makes_node : TypedNode → Makes Node
  makes_node x = node_made fs bodies base x

  abbrev tally_node : TypedNode → Tally
  tally_node x = fold-Node Tally Tally (node_count sum cs) (λ y. y.node) x

  abbrev saw_node : TypedNode → Ty → Seen
  saw_node x = fold-Node (Ty → Seen) Seen (node_seen own before result) (λ y. y.node y.ty) x

  abbrev Good : Seen → Makes TExpr → Tally → Type 0
  Good s m t = s.valid ≡ true → (vars : List Var) → of (m vars).made ≡ t.nodes

  abbrev GoodNode : (Ty → Seen) → Makes Node → Tally → Type 0
  GoodNode s m t = (a : Ty) → (s a).valid ≡ true → (vars : List Var) → count (m vars).made ≡ t.nodes

  abbrev pub IsGood : Typed → Type 0
  IsGood x = Good (saw x) (makes x) (tally x)

  abbrev NodeIsGood : TypedNode → Type 0
  NodeIsGood x = GoodNode (saw_node x) (makes_node x) (tally_node x)

  abbrev Part : Type 0
  Part = (x : Typed) × IsGood x

  abbrev NodePart : Type 0
  NodePart = (x : TypedNode) × NodeIsGood x

  abbrev firsts : List Part → List Typed
  firsts xs = map (λ x. x.0) xs

  args_good : (xs : List Part) (done : List TExpr) (m : Tally) (c : ℕ) (vars : List Var) → AreValid (map saw (firsts xs)) → c + args done ≡ m.nodes
      → c + args (listed done (map makes (firsts xs)) vars).made ≡ (summed sum m (map tally (firsts xs))).nodes
  args_good [] done m c vars h i = i
  args_good (x ∷ xs) done m c vars h i =
      let y = makes x.0 vars in
      let p = x.1 h.0 vars in
      let q = args_end done y.made in
      args_good xs (done ++ y.made ∷ []) (sum m (tally x.0)) c y.vars h.1 (omega (arith, i, p, q))

  abbrev first_of : Mark × Part → Mark × Typed
  first_of x = (x.0, x.1.0)

  abbrev saw_second : Mark × Typed → Mark × Seen
  saw_second x = (x.0, saw x.1)

  abbrev makes_second : Mark × Typed → Mark × Makes TExpr
  makes_second x = (x.0, makes x.1)

  abbrev tally_second : Mark × Typed → Mark × Tally
  tally_second x = (x.0, tally x.1)

  chain_good : (xs : List (Mark × Part)) (done : List (Mark × TExpr)) (m : Tally) (c : ℕ) (vars : List Var) → OperandsAreValid (map saw_second (map first_of xs)) → c + chain done ≡ m.nodes
      → c + chain (operands done (map makes_second (map first_of xs)) vars).made ≡ (operands_summed sum m (map tally_second (map first_of xs))).nodes
  chain_good [] done m c vars h i = i
  chain_good (x ∷ xs) done m c vars h i =
      let y = makes x.1.0 vars in
      let p = x.1.1 h.0 vars in
      let q = chain_end done x.0 y.made in
      chain_good xs (done ++ (x.0, y.made) ∷ []) (sum m (sum (so_many (weight x.0)) (tally x.1.0))) c y.vars h.1 (omega (arith, i, p, q))

  call_good : (k : ℕ) (xs : List Part) (t : Ty) (vars : List Var) → is_call (slice_get before k) (map saw (firsts xs)) t ≡ true
      → count (node_layer fs bodies base (e.Call k (map makes (firsts xs))) vars).made ≡ (summed sum (one_and sum (slice_index_or cs k none)) (map tally (firsts xs))).nodes
  call_good k xs t vars h =
      let v = call_valid (slice_get before k) (map saw (firsts xs)) t h in
      let g = v.0 in
      let f = called k g v.1 in
      let l = listed [] (map makes (firsts xs)) vars in
      let b = bodies k (length l.vars) (l.vars ++ g.vars) in
      let p = f.1 (length l.vars) (l.vars ++ g.vars) in
      let q = count_scope (numbers (length l.vars) g.params) l.made g.result b.made in
      let r = args_good xs [] (one_and sum (slice_index_or cs k none)) (1 + (slice_index_or cs k none).nodes) vars v.2 (omega arith) in
      subst (λ (o : Option TFunction). count (scope bodies k o l.made l.vars).made ≡ (summed sum (one_and sum (slice_index_or cs k none)) (map tally (firsts xs))).nodes) (sym f.0)
      (omega (arith, p, q, r))

  layer : (y : Node-F NodePart Part)
      → GoodNode (node_seen own before result (map-Node _ _ _ _ saw_node saw (map-Node _ _ _ _ (λ x. x.0) (λ x. x.0) y)))
      (node_layer fs bodies base (map-Node _ _ _ _ makes_node makes (map-Node _ _ _ _ (λ x. x.0) (λ x. x.0) y)))
      (node_count sum cs (map-Node _ _ _ _ tally_node tally (map-Node _ _ _ _ (λ x. x.0) (λ x. x.0) y)))
  layer (e.Number w) t h vars = refl
  layer (e.Name v) t h vars = refl
  layer (e.Index a b) t h vars =
      let v = index_valid (saw a.0) (saw b.0) t h in
      let x = makes a.0 vars in
      let p = a.1 v.0 vars in let q = b.1 v.1 x.vars in
      let c = count_index x.made (makes b.0 x.vars).made in omega (arith, c, p, q)
  layer (e.Element v b) t h vars =
      let p = b.1 (element_valid (is_array_of (slice_get own v) t) (saw b.0) h) vars in
      let c = count_element (base + v) (makes b.0 vars).made in omega (arith, c, p)
  layer (e.Deref a) t h vars =
      let p = a.1 (first_true (saw a.0).valid (points_to (saw a.0).ty t) h) vars in
      let c = count_deref (makes a.0 vars).made in omega (arith, c, p)
  layer (e.Prefix o a) t h vars =
      let p = a.1 (prefix_valid (saw a.0) (is_prefix o) (same_type t (ty_of (prefix_kind o (kind_of_type (saw a.0).ty)))) h) vars in
      let c = count_prefix o (makes a.0 vars).made in omega (arith, c, p)
  layer (e.Step a up post) t h vars =
      let p = a.1 (step_valid (saw a.0) (same_type t (saw a.0).ty) h) vars in
      let c = count_step (makes a.0 vars).made up post in omega (arith, c, p)
  layer (e.Cast a) t h vars =
      let p = a.1 (cast_valid (saw a.0) (is_number t) h) vars in
      let c = count_cast (makes a.0 vars).made in omega (arith, c, p)
  layer (e.Paren a) t h vars =
      let p = a.1 (first_true (saw a.0).valid (same_type t (saw a.0).ty) h) vars in
      let c = count_paren (makes a.0 vars).made in omega (arith, c, p)
  layer (e.Chain a xs) t h vars =
      let w = chained (saw a.0) (map saw_second (map first_of xs)) in
      let v = chained_valid (saw a.0) (map saw_second (map first_of xs)) (first_true w.valid (same_type t w.ty) h) in
      let x = makes a.0 vars in
      let p = a.1 v.0 vars in
      let q = chain_good xs [] (tally a.0) (tally a.0).nodes x.vars v.1 (omega arith) in
      let c = count_chained x.made (operands [] (map makes_second (map first_of xs)) x.vars).made in omega (arith, c, p, q)
  layer (e.Cond a b d) t h vars =
      let v = cond_valid (saw a.0) (saw b.0) (saw d.0) (same_type t (ty.Value (common (scalar_of (kind_of_type (saw b.0).ty)) (scalar_of (kind_of_type (saw d.0).ty))))) h in
      let x = makes a.0 vars in
      let y = makes b.0 x.vars in
      let p = a.1 v.0 vars in let q = b.1 v.1 x.vars in let r = d.1 v.2 y.vars in
      let c = count_cond x.made y.made (makes d.0 y.vars).made in omega (arith, c, p, q, r)
  layer (e.Assign a o b) t h vars =
      let v = assign_valid (saw a.0) (saw b.0) (is_assignment o) (assigns o (saw a.0).ty (saw b.0).ty) (same_type t (saw a.0).ty) h in
      let x = makes a.0 vars in
      let p = a.1 v.0 vars in let q = b.1 v.1 x.vars in
      let c = count_assign x.made o (makes b.0 x.vars).made in omega (arith, c, p, q)
  layer (e.Call k xs) t h vars = call_good k xs t vars h
  layer (e.Builtin which work xs) t h vars =
      let l = map saw (firsts xs) in
      let v = builtin_valid (eqb (length (builtin_params which)) (length l)) (same_scalar work (work_of which (typed_arguments l))) (same_type t (ty.Value (gives which work))) l h in
      let q = args_good xs [] (so_many 16) 16 vars v (omega arith) in
      let c = count_builtin which work (listed [] (map makes (firsts xs)) vars).made in omega (arith, c, q)

  node_good : (x : Node-F TypedNode Typed) (y : Node-F NodePart Part) → map-Node _ _ _ _ (λ z. z.0) (λ z. z.0) y ≡ x → NodeIsGood (roll-Node x)
  node_good x y is =
      subst (λ z. NodeIsGood (roll-Node z)) is
      (subst (λ s. GoodNode s (makes_node (roll-Node (map-Node _ _ _ _ (λ z. z.0) (λ z. z.0) y))) (tally_node (roll-Node (map-Node _ _ _ _ (λ z. z.0) (λ z. z.0) y))))
      (sym (fold-roll-Node (Ty → Seen) Seen (node_seen own before result) (λ y. y.node y.ty) (map-Node _ _ _ _ (λ z. z.0) (λ z. z.0) y)))
      (subst (λ m. GoodNode (node_seen own before result (map-Node _ _ _ _ saw_node saw (map-Node _ _ _ _ (λ z. z.0) (λ z. z.0) y))) m (tally_node (roll-Node (map-Node _ _ _ _ (λ z. z.0) (λ z. z.0) y))))
      (sym (fold-roll-Node (Makes Node) (Makes TExpr) (node_layer fs bodies base) (expr_layer fs bodies base) (map-Node _ _ _ _ (λ z. z.0) (λ z. z.0) y)))
      (subst (λ t. GoodNode (node_seen own before result (map-Node _ _ _ _ saw_node saw (map-Node _ _ _ _ (λ z. z.0) (λ z. z.0) y))) (node_layer fs bodies base (map-Node _ _ _ _ makes_node makes (map-Node _ _ _ _ (λ z. z.0) (λ z. z.0) y))) t)
      (sym (fold-roll-Node Tally Tally (node_count sum cs) (λ z. z.node) (map-Node _ _ _ _ (λ z. z.0) (λ z. z.0) y)))
      (layer y))))

  abbrev firsts_of : TExpr-F NodePart Part → TExpr-F TypedNode Typed
  firsts_of y = map-TExpr _ _ _ _ (λ z. z.0) (λ z. z.0) y

  abbrev seen_of : TExpr-F (Ty → Seen) Seen → Seen
  seen_of y = y.node y.ty

  abbrev tally_in : TExpr-F Tally Tally → Tally
  tally_in y = y.node

  rolled : (y : TExpr-F NodePart Part)
      → Good (seen_of (map-TExpr _ _ _ _ saw_node saw (firsts_of y))) (expr_layer fs bodies base (map-TExpr _ _ _ _ makes_node makes (firsts_of y))) (tally_in (map-TExpr _ _ _ _ tally_node tally (firsts_of y)))
  rolled y h vars = y.node.1 y.ty h vars

  pub expr_good : (x : Typed) → IsGood x
  expr_good =
      ind-TExpr NodeIsGood IsGood node_good
      (λ x y is. subst (λ z. IsGood (roll-TExpr z)) is
      (subst (λ s. Good s (makes (roll-TExpr (firsts_of y))) (tally (roll-TExpr (firsts_of y))))
      (sym (fold-roll-TExpr (Ty → Seen) Seen (node_seen own before result) seen_of (firsts_of y)))
      (subst (λ m. Good (seen_of (map-TExpr _ _ _ _ saw_node saw (firsts_of y))) m (tally (roll-TExpr (firsts_of y))))
      (sym (fold-roll-TExpr (Makes Node) (Makes TExpr) (node_layer fs bodies base) (expr_layer fs bodies base) (firsts_of y)))
      (subst (λ t. Good (seen_of (map-TExpr _ _ _ _ saw_node saw (firsts_of y))) (expr_layer fs bodies base (map-TExpr _ _ _ _ makes_node makes (firsts_of y))) t)
      (sym (fold-roll-TExpr Tally Tally (node_count sum cs) tally_in (firsts_of y)))
      (rolled y)))))
