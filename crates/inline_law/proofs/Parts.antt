-- Forms whose parts are related.
use Rattle.std.proofs.Common.{◌≡◌, ℕ, zero, suc, ◌+◌, ◌<◌, ◌≤◌, refl, ◌∙◌, subst, arith}
use Rattle.clc_lexer.specs.declared.marks.Mark.{Mark}
use Rattle.clc_types.specs.declared.typed.Ty.{Ty}
use Rattle.item_meaning.specs.declared.values.Value.{Value}
use Rattle.item_meaning.specs.declared.values.Value.TheVariants.{Num, Null, At}
use Rattle.item_meaning.specs.ItemState.{State, Run, Goes, Bounds, Spent, then_do, after_turn, node, nodes, by_truth}
use Rattle.item_meaning.specs.Operators.{converted, forward, combined, operator_in, prefixed, on_word}
use Rattle.item_meaning.specs.Places.{read, write}
use Rattle.item_meaning.specs.declared.values.Place.{Place}
use Rattle.item_meaning.specs.declared.values.Place.TheVariants.{Variable, Cell, Behind}
use Rattle.item_meaning.specs.NodeMeanings.{Part, number_value, prefix_value, cast_value, variable_place, index_place, cell_place, pointed_place, read_from, assign_value, compound_value, conditional_value}
use Rattle.inline_law.proofs.Frames.{Same, Framed as framed, Kept as kept, Follows as follows, Both as both, Moved as moved_to}

module _ (n base skip whole : ℕ) where
  abbrev Framed : State → State → Type 0
  Framed = framed n base skip whole

  abbrev Kept : State → State → Type 0
  Kept = kept n base skip whole

  abbrev Follows : {A B : Type 0} → (A → B → Type 0) → State → Run A → Run B → Type 0
  Follows R t p q = follows n base skip whole R t p q

  abbrev Both : {A B : Type 0} → (A → B → Type 0) → Part A → Part B → Type 0
  Both R f g = both n base skip whole R f g

  abbrev Moved : Place → Place → Type 0
  Moved = moved_to n base skip whole

  pub kept_refl : (t : State) → Kept t t
  kept_refl t = record { vars = λ j l. refl; arrays = λ j l. refl; many = refl; many_arrays = refl }

  pub kept_then : (t u w : State) → Kept t u → Kept u w → Kept t w
  kept_then t u w a b = record { vars = λ j l. b.vars j l ∙ a.vars j l; arrays = λ j l. b.arrays j l ∙ a.arrays j l; many = b.many ∙ a.many; many_arrays = b.many_arrays ∙ a.many_arrays }

  pub later : {A B : Type 0} (R : A → B → Type 0) (t u : State) (p : Run A) (q : Run B) → Kept t u → Follows R u p q → Follows R t p q
  later R t u (Goes a s) (Goes c w) k h = (h.0, h.1, kept_then t u w k h.2)
  later R t u (Goes a s) (Bounds q) k h = h
  later R t u (Goes a s) Spent k h = h
  later R t u (Bounds p) (Goes c w) k h = h
  later R t u (Bounds p) (Bounds q) k h = h
  later R t u (Bounds p) Spent k h = h
  later R t u Spent (Goes c w) k h = h
  later R t u Spent (Bounds q) k h = h
  later R t u Spent Spent k h = h

  -- one after the other
  pub bind_both : {A B C D : Type 0} (R : A → B → Type 0) (Q : C → D → Type 0) (t : State) (p : Run A) (q : Run B) (f : A → Part C) (g : B → Part D) → Follows R t p q
      → ((a : A) (c : B) → R a c → Both Q (f a) (g c)) → Follows Q t (then_do p f) (then_do q g)
  bind_both R Q t (Goes a s) (Goes c u) f g h i = later Q t u (f a s) (g c u) h.2 (i a c h.0 s u h.1)
  bind_both R Q t (Goes a s) (Bounds q) f g h i = absurd h
  bind_both R Q t (Goes a s) Spent f g h i = absurd h
  bind_both R Q t (Bounds p) (Goes c u) f g h i = absurd h
  bind_both R Q t (Bounds p) (Bounds q) f g h i = h
  bind_both R Q t (Bounds p) Spent f g h i = absurd h
  bind_both R Q t Spent (Goes c u) f g h i = absurd h
  bind_both R Q t Spent (Bounds q) f g h i = absurd h
  bind_both R Q t Spent Spent f g h i = tt

  pub goes_both : {A B : Type 0} (R : A → B → Type 0) (a : A) (c : B) → R a c → Both R (λ s. Goes a s) (λ t. Goes c t)
  goes_both R a c h s t r = (h, r, kept_refl t)

  -- a node begins
  pub node_both : {A B : Type 0} (R : A → B → Type 0) (f : Part A) (g : Part B) → Both R f g → Both R (λ s. node s f) (λ t. node t g)
  node_both R f g h s t r = by s.left t.left r.left
    where
      by : (i j : ℕ) → i ≡ j → Follows R t (after_turn i s f) (after_turn j t g)
      by zero zero e = tt
      by zero (suc j) e = absurd (let z = e in omega (arith, z))
      by (suc i) zero e = absurd (let z = e in omega (arith, z))
      by (suc i) (suc j) e =
          later R t (record t { left = j }) (f (record s { left = i })) (g (record t { left = j })) (record { vars = λ j l. refl; arrays = λ j l. refl; many = refl; many_arrays = refl })
          (h (record s { left = i }) (record t { left = j }) (record { vars = r.vars; arrays = r.arrays; own = r.own; own_arrays = r.own_arrays; room = r.room; room_arrays = r.room_arrays; all = r.all; all_arrays = r.all_arrays; buffers = r.buffers; marks = r.marks; left = let z = e in omega (arith, z) }))

  pub nodes_both : {A B : Type 0} (R : A → B → Type 0) (i : ℕ) (f : Part A) (g : Part B) → Both R f g → Both R (λ s. nodes i s f) (λ t. nodes i t g)
  nodes_both R zero f g h = h
  nodes_both R (suc i) f g h = node_both R (λ s. nodes i s f) (λ t. nodes i t g) (nodes_both R i f g h)

  pub truth_both : {A B : Type 0} (R : A → B → Type 0) (x : Value) (f h : Part A) (g k : Part B) → Both R f g → Both R h k → Both R (λ s. by_truth x (f s) (h s)) (λ t. by_truth x (g t) (k t))
  truth_both R (Num zero) f h g k a b s t r = b s t r
  truth_both R (Num (suc i)) f h g k a b s t r = a s t r
  truth_both R Null f h g k a b s t r = tt
  truth_both R (At c o) f h g k a b s t r = tt

  -- a part that takes a value that is the same on both sides
  pub with_value : {A B : Type 0} (R : A → B → Type 0) (p : Part Value) (q : Part Value) (f : Value → Part A) (g : Value → Part B) → Both Same p q → ((x : Value) → Both R (f x) (g x)) → Both R (λ s. then_do (p s) f) (λ t. then_do (q t) g)
  with_value R p q f g h i s t r = bind_both Same R t (p s) (q t) f g (h s t r) (λ x y e. subst (λ z. Both R (f x) (g z)) e (i x))

  pub number_both : (w : ℕ) → Both Same (number_value w) (number_value w)
  number_both w = node_both Same (λ s. Goes (Num w) s) (λ t. Goes (Num w) t) (goes_both Same (Num w) (Num w) refl)

  pub prefix_both : (o : Mark) (p q : Part Value) → Both Same p q → Both Same (prefix_value o p) (prefix_value o q)
  prefix_both o p q h =
      node_both Same (λ s. then_do (p s) (λ x u. Goes (on_word (prefixed o) x) u)) (λ t. then_do (q t) (λ x u. Goes (on_word (prefixed o) x) u))
      (with_value Same p q (λ x u. Goes (on_word (prefixed o) x) u) (λ x u. Goes (on_word (prefixed o) x) u) h (λ x. goes_both Same (on_word (prefixed o) x) (on_word (prefixed o) x) refl))

  pub cast_both : (c : Ty) (p q : Part Value) → Both Same p q → Both Same (cast_value c p) (cast_value c q)
  cast_both c p q h =
      node_both Same (λ s. then_do (p s) (λ x u. Goes (converted c x) u)) (λ t. then_do (q t) (λ x u. Goes (converted c x) u))
      (with_value Same p q (λ x u. Goes (converted c x) u) (λ x u. Goes (converted c x) u) h (λ x. goes_both Same (converted c x) (converted c x) refl))

  pub conditional_both : (c d p q f g : Part Value) → Both Same c d → Both Same p q → Both Same f g → Both Same (conditional_value c p f) (conditional_value d q g)
  conditional_both c d p q f g a b e =
      node_both Same (λ s. then_do (c s) (λ x u. by_truth x (p u) (f u))) (λ t. then_do (d t) (λ x u. by_truth x (q u) (g u)))
      (with_value Same c d (λ x u. by_truth x (p u) (f u)) (λ x u. by_truth x (q u) (g u)) a (λ x. truth_both Same x p f q g b e))

  pub variable_both : (u : ℕ) → u < n → Both Moved (variable_place u) (variable_place (base + u))
  variable_both u lt = node_both Moved (λ s. Goes (Variable u) s) (λ t. Goes (Variable (base + u)) t) (goes_both Moved (Variable u) (Variable (base + u)) (refl, lt))

  pub index_both : (at size : ℕ) (p q f g : Part Value) → Both Same p q → Both Same f g → Both Moved (index_place at size p f) (index_place at size q g)
  index_both at size p q f g a b =
      node_both Moved (λ s. then_do (p s) (λ x u. then_do (f u) (λ y w. Goes (Behind at (forward size x y)) w))) (λ t. then_do (q t) (λ x u. then_do (g u) (λ y w. Goes (Behind at (forward size x y)) w)))
      (with_value Moved p q (λ x u. then_do (f u) (λ y w. Goes (Behind at (forward size x y)) w)) (λ x u. then_do (g u) (λ y w. Goes (Behind at (forward size x y)) w)) a
      (λ x. with_value Moved f g (λ y w. Goes (Behind at (forward size x y)) w) (λ y w. Goes (Behind at (forward size x y)) w) b (λ y. goes_both Moved (Behind at (forward size x y)) (Behind at (forward size x y)) (refl, refl))))

  pub cell_both : (at u : ℕ) (p q : Part Value) → u < n → skip ≤ u → Both Same p q → Both Moved (cell_place at u p) (cell_place at (base + u) q)
  cell_both at u p q lt le h =
      nodes_both Moved 2 (λ s. then_do (p s) (λ i w. Goes (Cell at u i) w)) (λ t. then_do (q t) (λ i w. Goes (Cell at (base + u) i) w))
      (with_value Moved p q (λ i w. Goes (Cell at u i) w) (λ i w. Goes (Cell at (base + u) i) w) h (λ i. goes_both Moved (Cell at u i) (Cell at (base + u) i) (refl, refl, lt, le, refl)))

  pub pointed_both : (at : ℕ) (p q : Part Value) → Both Same p q → Both Moved (pointed_place at p) (pointed_place at q)
  pointed_both at p q h =
      node_both Moved (λ s. then_do (p s) (λ x u. Goes (Behind at x) u)) (λ t. then_do (q t) (λ x u. Goes (Behind at x) u))
      (with_value Moved p q (λ x u. Goes (Behind at x) u) (λ x u. Goes (Behind at x) u) h (λ x. goes_both Moved (Behind at x) (Behind at x) (refl, refl)))

  -- assignments, where reading and writing a place do the same on both sides
  module _ (reads : (t : Ty) (q w : Place) → Moved q w → Both Same (read t q) (read t w)) (writes : (t : Ty) (q w : Place) (x : Value) → Moved q w → Both Same (write t q x) (write t w x)) where
    pub read_both : (t : Ty) (p q : Part Place) → Both Moved p q → Both Same (read_from t p) (read_from t q)
    read_both t p q h s u r = bind_both Moved Same u (p s) (q u) (read t) (read t) (h s u r) (λ a c e. reads t a c e)

    pub assign_both : (t : Ty) (p q : Part Place) (f g : Part Value) → Both Moved p q → Both Same f g → Both Same (assign_value t p f) (assign_value t q g)
    assign_both t p q f g h i =
        node_both Same (λ s. then_do (p s) (λ a w. then_do (f w) (λ x y. write t a x y))) (λ s. then_do (q s) (λ a w. then_do (g w) (λ x y. write t a x y)))
        (λ s u r. bind_both Moved Same u (p s) (q u) (λ a w. then_do (f w) (λ x y. write t a x y)) (λ a w. then_do (g w) (λ x y. write t a x y)) (h s u r)
        (λ a c e. with_value Same f g (λ x y. write t a x y) (λ x y. write t c x y) i (λ x. writes t a c x e)))

    pub compound_both : (t : Ty) (o : Mark) (from : Ty) (p q : Part Place) (f g : Part Value) → Both Moved p q → Both Same f g → Both Same (compound_value t o from p f) (compound_value t o from q g)
    compound_both t o from p q f g h i =
        node_both Same _ _
        (λ s u r. bind_both Moved Same u (p s) (q u) (λ a w. then_do (read t a w) (λ old y. then_do (f y) (λ x z. write t a (combined t (operator_in o) from old x) z)))
        (λ a w. then_do (read t a w) (λ old y. then_do (g y) (λ x z. write t a (combined t (operator_in o) from old x) z))) (h s u r)
        (λ a c e. with_value Same (read t a) (read t c) (λ old y. then_do (f y) (λ x z. write t a (combined t (operator_in o) from old x) z)) (λ old y. then_do (g y) (λ x z. write t c (combined t (operator_in o) from old x) z)) (reads t a c e)
        (λ old. with_value Same f g (λ x z. write t a (combined t (operator_in o) from old x) z) (λ x z. write t c (combined t (operator_in o) from old x) z) i (λ x. writes t a c (combined t (operator_in o) from old x) e))))
