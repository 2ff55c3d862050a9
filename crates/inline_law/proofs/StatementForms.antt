-- The forms of statements, each where its parts are related.
use Rattle.std.proofs.Common.{ℕ, ◌+◌, ◌<◌, ◌≤◌, [], Option, Some, None, refl, sym, ◌∙◌, subst}
use Rattle.std.specs.Prelude.{replicate}
use Rattle.std.proofs.Math.ListN.{length-set}
use Rattle.clc_types.specs.declared.typed.Ty.{Ty}
use Rattle.clc_types.specs.declared.typed.Var.{Var}
use Rattle.clc_types.specs.declared.typed.Var.TheVariants as var
use Rattle.item_meaning.specs.declared.values.Value.{Value}
use Rattle.item_meaning.specs.declared.values.Value.TheVariants.{Num, Null}
use Rattle.item_meaning.specs.declared.values.Flow.{Flow}
use Rattle.item_meaning.specs.declared.values.Flow.TheVariants.{Next, Returned}
use Rattle.item_meaning.specs.declared.values.Place.TheVariants.{Variable}
use Rattle.item_meaning.specs.ItemState.{State, Goes, then_do, by_truth, if_next}
use Rattle.item_meaning.specs.Places.{write}
use Rattle.item_meaning.specs.NodeMeanings.{Part}
use Rattle.item_meaning.specs.StatementMeanings.{type_of, cleared, initialised, declare_flow, block_flow, no_flow, dropped, eval_flow, leaf_flow, if_flow, rounds, rounds_first, while_flow, do_flow, for_flow, return_flow}
use Rattle.inline_law.proofs.Frames.{Same, SameFlow, Framed, Kept, Follows, Both}
use Rattle.inline_law.proofs.Parts.{later, goes_both, node_both, truth_both, with_value}
use Rattle.inline_law.proofs.Accesses.{next_both, with_flow, rounds_both, first_both}
use Rattle.inline_law.proofs.Writes.{set_both, set_array, set_below, writes}

module _ (n base skip whole : ℕ) where
  -- an expression that may be left out
  abbrev pub BothIf : Option (Part Value) → Option (Part Value) → Type 0
  BothIf None None = Unit {0}
  BothIf None (Some q) = ⊥
  BothIf (Some p) None = ⊥
  BothIf (Some p) (Some q) = Both n base skip whole Same p q

  cleared_both : (d : Var) (v : ℕ) → v < n → (s t : State) → Framed n base skip whole s t → Framed n base skip whole (cleared d v s) (cleared d (base + v) t) × Kept n base skip whole t (cleared d (base + v) t)
  cleared_both (var.Value e) v lt s t r = let h = set_both n base skip whole v (Num 0) lt s t r in (h.1, h.2)
  cleared_both (var.Pointer e c) v lt s t r = let h = set_both n base skip whole v Null lt s t r in (h.1, h.2)
  cleared_both (var.Array e i) v lt s t r = (
    record {
      vars = r.vars;
      arrays = set_array n base skip whole s.arrays t.arrays (replicate i 0) v lt r.own_arrays r.room_arrays r.arrays;
      own = r.own;
      own_arrays = length-set s.arrays v (replicate i 0) ∙ r.own_arrays;
      room = r.room;
      room_arrays = subst (λ z. base + n ≤ z) (sym (length-set t.arrays (base + v) (replicate i 0))) r.room_arrays;
      all = r.all;
      all_arrays = length-set t.arrays (base + v) (replicate i 0) ∙ r.all_arrays;
      buffers = r.buffers;
      marks = r.marks;
      left = r.left;
    },
    record { vars = λ j l. refl; arrays = λ j l. set_below n base skip whole t.arrays [] (replicate i 0) v j l; many = refl; many_arrays = length-set t.arrays (base + v) (replicate i 0) },
  )

  initialised_both : (t : Ty) (v : ℕ) → v < n → (p q : Option (Part Value)) → BothIf p q → Both n base skip whole SameFlow (initialised t v p) (initialised t (base + v) q)
  initialised_both t v lt None None h = goes_both n base skip whole SameFlow Next Next refl
  initialised_both t v lt None (Some q) h = absurd h
  initialised_both t v lt (Some p) None h = absurd h
  initialised_both t v lt (Some p) (Some q) h =
      with_value n base skip whole SameFlow p q (λ x u. then_do (write t (Variable v) x u) (λ y w. Goes Next w)) (λ x u. then_do (write t (Variable (base + v)) x u) (λ y w. Goes Next w)) h
      (λ x. with_value n base skip whole SameFlow (write t (Variable v) x) (write t (Variable (base + v)) x) (λ y w. Goes Next w) (λ y w. Goes Next w)
      (writes n base skip whole t (Variable v) (Variable (base + v)) x (refl, lt)) (λ y. goes_both n base skip whole SameFlow Next Next refl))

  pub declare_both : (d : Var) (v : ℕ) → v < n → (p q : Option (Part Value)) → BothIf p q → Both n base skip whole SameFlow (declare_flow d v p) (declare_flow d (base + v) q)
  declare_both d v lt p q h =
      node_both n base skip whole SameFlow (λ t. initialised (type_of d) v p (cleared d v t)) (λ t. initialised (type_of d) (base + v) q (cleared d (base + v) t))
      (λ s t r. let c = cleared_both d v lt s t r in
      later n base skip whole SameFlow t (cleared d (base + v) t) (initialised (type_of d) v p (cleared d v s)) (initialised (type_of d) (base + v) q (cleared d (base + v) t)) c.1
      (initialised_both (type_of d) v lt p q h (cleared d v s) (cleared d (base + v) t) c.0))

  pub leaf_both : (f : Flow) → Both n base skip whole SameFlow (leaf_flow f) (leaf_flow f)
  leaf_both f = node_both n base skip whole SameFlow (λ t. Goes f t) (λ t. Goes f t) (goes_both n base skip whole SameFlow f f refl)

  pub block_both : (p q : Part Flow) → Both n base skip whole SameFlow p q → Both n base skip whole SameFlow (block_flow p) (block_flow q)
  block_both p q h = node_both n base skip whole SameFlow p q h

  pub dropped_both : (p q : Part Value) → Both n base skip whole Same p q → Both n base skip whole SameFlow (dropped p) (dropped q)
  dropped_both p q h = with_value n base skip whole SameFlow p q (λ x t. Goes Next t) (λ x t. Goes Next t) h (λ x. goes_both n base skip whole SameFlow Next Next refl)

  pub eval_both : (p q : Part Value) → Both n base skip whole Same p q → Both n base skip whole SameFlow (eval_flow p) (eval_flow q)
  eval_both p q h = node_both n base skip whole SameFlow (dropped p) (dropped q) (dropped_both p q h)

  pub if_both : (c d : Part Value) (p q f g : Part Flow) → Both n base skip whole Same c d → Both n base skip whole SameFlow p q → Both n base skip whole SameFlow f g → Both n base skip whole SameFlow (if_flow c p f) (if_flow d q g)
  if_both c d p q f g a b e =
      node_both n base skip whole SameFlow (λ s. then_do (c s) (λ x u. by_truth x (p u) (f u))) (λ t. then_do (d t) (λ x u. by_truth x (q u) (g u)))
      (with_value n base skip whole SameFlow c d (λ x u. by_truth x (p u) (f u)) (λ x u. by_truth x (q u) (g u)) a (λ x. truth_both n base skip whole SameFlow x p f q g b e))

  pub while_both : (c d : Part Value) (p q : Part Flow) → Both n base skip whole Same c d → Both n base skip whole SameFlow p q → Both n base skip whole SameFlow (while_flow c p) (while_flow d q)
  while_both c d p q a b =
      node_both n base skip whole SameFlow (λ t. rounds t.left c p no_flow t) (λ t. rounds t.left d q no_flow t)
      (λ s t r. subst (λ z. Follows n base skip whole SameFlow t (rounds s.left c p no_flow s) (rounds z d q no_flow t)) r.left
      (rounds_both n base skip whole s.left c d p q no_flow no_flow a b (goes_both n base skip whole SameFlow Next Next refl) s t r))

  pub do_both : (p q : Part Flow) (c d : Part Value) → Both n base skip whole SameFlow p q → Both n base skip whole Same c d → Both n base skip whole SameFlow (do_flow p c) (do_flow q d)
  do_both p q c d b a =
      node_both n base skip whole SameFlow (λ t. rounds_first t.left p c t) (λ t. rounds_first t.left q d t)
      (λ s t r. subst (λ z. Follows n base skip whole SameFlow t (rounds_first s.left p c s) (rounds_first z q d t)) r.left (first_both n base skip whole s.left p q c d b a s t r))

  pub for_both : (i j : Part Flow) (c d : Part Value) (p q f g : Part Flow) → Both n base skip whole SameFlow i j → Both n base skip whole Same c d → Both n base skip whole SameFlow p q → Both n base skip whole SameFlow f g
      → Both n base skip whole SameFlow (for_flow i c p f) (for_flow j d q g)
  for_both i j c d p q f g h a b e =
      node_both n base skip whole SameFlow (λ t. then_do (i t) (λ x u. if_next x u (λ w. rounds w.left c f p w))) (λ t. then_do (j t) (λ x u. if_next x u (λ w. rounds w.left d g q w)))
      (with_flow n base skip whole i j (λ x u. if_next x u (λ w. rounds w.left c f p w)) (λ x u. if_next x u (λ w. rounds w.left d g q w)) h
      (λ x. next_both n base skip whole x (λ w. rounds w.left c f p w) (λ w. rounds w.left d g q w)
      (λ s t r. subst (λ z. Follows n base skip whole SameFlow t (rounds s.left c f p s) (rounds z d g q t)) r.left (rounds_both n base skip whole s.left c d f g p q a e b s t r))))

  pub return_both : (p q : Option (Part Value)) → BothIf p q → Both n base skip whole SameFlow (return_flow p) (return_flow q)
  return_both None None h = node_both n base skip whole SameFlow (λ t. Goes (Returned Null) t) (λ t. Goes (Returned Null) t) (goes_both n base skip whole SameFlow (Returned Null) (Returned Null) refl)
  return_both None (Some q) h = absurd h
  return_both (Some p) None h = absurd h
  return_both (Some p) (Some q) h =
      node_both n base skip whole SameFlow (λ t. then_do (p t) (λ x u. Goes (Returned x) u)) (λ t. then_do (q t) (λ x u. Goes (Returned x) u))
      (with_value n base skip whole SameFlow p q (λ x u. Goes (Returned x) u) (λ x u. Goes (Returned x) u) h (λ x. goes_both n base skip whole SameFlow (Returned x) (Returned x) refl))
