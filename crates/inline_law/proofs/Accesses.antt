-- Reading and writing a place, and statements, in a frame and among all variables.
use Rattle.std.proofs.Common.{◌≡◌, ℕ, zero, suc, ◌+◌, ◌<◌, ◌≤◌, Bool, true, false, List, ◌∷◌, length, refl, sym, ap, ◌∙◌, subst}
use Rattle.std.specs.Prelude.{slice_index, slice_index_or, nat_lt, if◌then◌else◌}
use Rattle.footprint.specs.declared.marks.Use.TheVariants as how
use Rattle.q_lane.specs.declared.kinds.Scalar.{Scalar}
use Rattle.q_lane.specs.Numbers.{narrowed}
use Rattle.q_functions.specs.NumberFunctions.{bytes_of}
use Rattle.clc_types.specs.declared.typed.Ty.{Ty}
use Rattle.item_meaning.specs.declared.values.Value.{Value}
use Rattle.item_meaning.specs.declared.values.Value.TheVariants.{Num, Null, At}
use Rattle.item_meaning.specs.ItemState.{State, Goes, Bounds, then_do, by_truth, if_next, after_body}
use Rattle.item_meaning.specs.declared.values.Flow.{Flow}
use Rattle.item_meaning.specs.declared.values.Flow.TheVariants.{Next, Broke, Again, Returned}
use Rattle.item_meaning.specs.Operators.{scalar_of}
use Rattle.item_meaning.specs.Places.{buffer_of, number_at, in_bounds, mark, load, array_of, get_element, at_index, read}
use Rattle.item_meaning.specs.declared.values.Place.{Place}
use Rattle.item_meaning.specs.declared.values.Place.TheVariants.{Variable, Cell, Behind, Nowhere}
use Rattle.item_meaning.specs.NodeMeanings.{Part}
use Rattle.item_meaning.specs.StatementMeanings.{and_flow, rounds, rounds_first}
use Rattle.inline_law.proofs.Frames.{Same, SameFlow, Framed, Kept, Follows, Both, Moved}
use Rattle.inline_law.proofs.Parts.{kept_refl, bind_both, goes_both, truth_both, with_value}

module _ (n base skip whole : ℕ) where
  -- only bytes and marks change
  touched : (s t : State) (b c : List (List ℕ)) (p q : List Rattle.footprint.specs.declared.marks.Mark.Mark) → b ≡ c → p ≡ q → Framed n base skip whole s t → Framed n base skip whole (record s { buffers = b; marks = p }) (record t { buffers = c; marks = q })
  touched s t b c p q e f r = record { vars = r.vars; arrays = r.arrays; own = r.own; own_arrays = r.own_arrays; room = r.room; room_arrays = r.room_arrays; all = r.all; all_arrays = r.all_arrays; buffers = e; marks = f; left = r.left }

  stays : (t : State) (b : List (List ℕ)) (p : List Rattle.footprint.specs.declared.marks.Mark.Mark) → Kept n base skip whole t (record t { buffers = b; marks = p })
  stays t b p = record { vars = λ j l. refl; arrays = λ j l. refl; many = refl; many_arrays = refl }

  load_case : (at k o : ℕ) (t : Scalar) (s u : State) (c : Bool) (B : List (List ℕ)) → s.buffers ≡ B → u.buffers ≡ B → Framed n base skip whole s u
      → Follows n base skip whole Same u (if c then Goes (Num (narrowed t (number_at (bytes_of t) (buffer_of B k) o))) (record s { marks = mark how.Read t k o ∷ s.marks }) else Bounds at)
      (if c then Goes (Num (narrowed t (number_at (bytes_of t) (buffer_of B k) o))) (record u { marks = mark how.Read t k o ∷ u.marks }) else Bounds at)
  load_case at k o t s u true B e f r = (refl, touched s u s.buffers u.buffers _ _ r.buffers (ap (λ l. mark how.Read t k o ∷ l) r.marks) r, stays u u.buffers (mark how.Read t k o ∷ u.marks))
  load_case at k o t s u false B e f r = refl

  pub load_both : (at : ℕ) (t : Scalar) (x : Value) → Both n base skip whole Same (load at t x) (load at t x)
  load_both at t (At k o) s u r =
      subst (λ B. Follows n base skip whole Same u (load at t (At k o) s)
      (if in_bounds t B k o then Goes (Num (narrowed t (number_at (bytes_of t) (buffer_of B k) o))) (record u { marks = mark how.Read t k o ∷ u.marks }) else Bounds at)) r.buffers
      (load_case at k o t s u (in_bounds t s.buffers k o) s.buffers refl (sym r.buffers) r)
  load_both at t Null s u r = refl
  load_both at t (Num w) s u r = refl

  get_case : (at i : ℕ) (c : Bool) (A : List ℕ) (s u : State) → Framed n base skip whole s u → Follows n base skip whole Same u (if c then Goes (Num (slice_index A i)) s else Bounds at) (if c then Goes (Num (slice_index A i)) u else Bounds at)
  get_case at i true A s u r = (refl, r, kept_refl n base skip whole u)
  get_case at i false A s u r = refl

  get_both : (at v i : ℕ) → v < n → skip ≤ v → Both n base skip whole Same (get_element at v i) (get_element at (base + v) i)
  get_both at v i lt le s u r =
      subst (λ A. Follows n base skip whole Same u (get_element at v i s) (if nat_lt i (length A) then Goes (Num (slice_index A i)) u else Bounds at)) (r.arrays v le lt)
      (get_case at i (nat_lt i (length (array_of s.arrays v))) (array_of s.arrays v) s u r)

  cell_get : (at v : ℕ) (i : Value) → v < n → skip ≤ v → Both n base skip whole Same (λ s. at_index i (λ j. get_element at v j s)) (λ u. at_index i (λ j. get_element at (base + v) j u))
  cell_get at v (Num i) lt le s u r = get_both at v i lt le s u r
  cell_get at v Null lt le s u r = tt
  cell_get at v (At c o) lt le s u r = tt

  -- a place is read
  pub reads : (t : Ty) (q w : Place) → Moved n base skip whole q w → Both n base skip whole Same (read t q) (read t w)
  reads t (Variable v) (Variable w) h s u r = (r.vars v h.1 ∙ ap (λ z. slice_index_or u.vars z Null) (sym h.0), r, kept_refl n base skip whole u)
  reads t (Variable v) (Cell p w j) h s u r = absurd h
  reads t (Variable v) (Behind p x) h s u r = absurd h
  reads t (Variable v) Nowhere h s u r = absurd h
  reads t (Cell p v i) (Variable w) h s u r = absurd h
  reads t (Cell p v i) (Cell q w j) h s u r =
      subst (λ z. Follows n base skip whole Same u (read t (Cell p v i) s) (read t (Cell q z j) u)) (sym h.1)
      (subst (λ z. Follows n base skip whole Same u (read t (Cell p v i) s) (read t (Cell z (base + v) j) u)) h.0
      (subst (λ z. Follows n base skip whole Same u (read t (Cell p v i) s) (read t (Cell p (base + v) z) u)) h.4 (cell_get p v i h.2 h.3 s u r)))
  reads t (Cell p v i) (Behind q x) h s u r = absurd h
  reads t (Cell p v i) Nowhere h s u r = absurd h
  reads t (Behind p x) (Variable w) h s u r = absurd h
  reads t (Behind p x) (Cell q w j) h s u r = absurd h
  reads t (Behind p x) (Behind q y) h s u r =
      subst (λ z. Follows n base skip whole Same u (read t (Behind p x) s) (read t (Behind z y) u)) h.0
      (subst (λ z. Follows n base skip whole Same u (read t (Behind p x) s) (read t (Behind p z) u)) h.1 (load_both p (scalar_of t) x s u r))
  reads t (Behind p x) Nowhere h s u r = absurd h
  reads t Nowhere (Variable w) h s u r = absurd h
  reads t Nowhere (Cell q w j) h s u r = absurd h
  reads t Nowhere (Behind q y) h s u r = absurd h
  reads t Nowhere Nowhere h s u r = tt

  -- ---- statements

  pub next_both : (f : Flow) (p q : Part Flow) → Both n base skip whole SameFlow p q → Both n base skip whole SameFlow (λ s. if_next f s p) (λ u. if_next f u q)
  next_both Next p q h s u r = h s u r
  next_both Broke p q h s u r = (refl, r, kept_refl n base skip whole u)
  next_both Again p q h s u r = (refl, r, kept_refl n base skip whole u)
  next_both (Returned x) p q h s u r = (refl, r, kept_refl n base skip whole u)

  pub with_flow : (p q : Part Flow) (f g : Flow → Part Flow) → Both n base skip whole SameFlow p q → ((x : Flow) → Both n base skip whole SameFlow (f x) (g x)) → Both n base skip whole SameFlow (λ s. then_do (p s) f) (λ u. then_do (q u) g)
  with_flow p q f g h i s u r = bind_both n base skip whole SameFlow SameFlow u (p s) (q u) f g (h s u r) (λ x y e. subst (λ z. Both n base skip whole SameFlow (f x) (g z)) e (i x))

  pub both_flow : (p q f g : Part Flow) → Both n base skip whole SameFlow p q → Both n base skip whole SameFlow f g → Both n base skip whole SameFlow (and_flow p f) (and_flow q g)
  both_flow p q f g h i = with_flow p q (λ x t. if_next x t f) (λ x t. if_next x t g) h (λ x. next_both x f g i)

  pub after_both : (f : Flow) (p q : Part Flow) → Both n base skip whole SameFlow p q → Both n base skip whole SameFlow (λ s. after_body f s p) (λ u. after_body f u q)
  after_both Next p q h s u r = h s u r
  after_both Broke p q h s u r = (refl, r, kept_refl n base skip whole u)
  after_both Again p q h s u r = h s u r
  after_both (Returned x) p q h s u r = (refl, r, kept_refl n base skip whole u)

  -- loops: the turns are the same on both sides, and so the rounds
  pub rounds_both : (i : ℕ) (c d : Part Value) (p q f g : Part Flow) → Both n base skip whole Same c d → Both n base skip whole SameFlow p q → Both n base skip whole SameFlow f g → Both n base skip whole SameFlow (rounds i c p f) (rounds i d q g)
  rounds_both zero c d p q f g a b e = λ s u r. tt
  rounds_both (suc i) c d p q f g a b e =
      with_value n base skip whole SameFlow c d
      (λ x t. by_truth x (then_do (p t) (λ y w. after_body y w (λ z. then_do (f z) (λ k l. rounds i c p f l)))) (Goes Next t))
      (λ x t. by_truth x (then_do (q t) (λ y w. after_body y w (λ z. then_do (g z) (λ k l. rounds i d q g l)))) (Goes Next t)) a
      (λ x. truth_both n base skip whole SameFlow x (λ t. then_do (p t) (λ y w. after_body y w (λ z. then_do (f z) (λ k l. rounds i c p f l)))) (λ t. Goes Next t)
      (λ t. then_do (q t) (λ y w. after_body y w (λ z. then_do (g z) (λ k l. rounds i d q g l)))) (λ t. Goes Next t)
      (with_flow p q (λ y w. after_body y w (λ z. then_do (f z) (λ k l. rounds i c p f l))) (λ y w. after_body y w (λ z. then_do (g z) (λ k l. rounds i d q g l))) b
      (λ y. after_both y (λ z. then_do (f z) (λ k l. rounds i c p f l)) (λ z. then_do (g z) (λ k l. rounds i d q g l))
      (with_flow f g (λ k l. rounds i c p f l) (λ k l. rounds i d q g l) e (λ k. rounds_both i c d p q f g a b e))))
      (goes_both n base skip whole SameFlow Next Next refl))

  pub first_both : (i : ℕ) (p q : Part Flow) (c d : Part Value) → Both n base skip whole SameFlow p q → Both n base skip whole Same c d → Both n base skip whole SameFlow (rounds_first i p c) (rounds_first i q d)
  first_both zero p q c d b a = λ s u r. tt
  first_both (suc i) p q c d b a =
      with_flow p q (λ y w. after_body y w (λ z. then_do (c z) (λ x t. by_truth x (rounds_first i p c t) (Goes Next t)))) (λ y w. after_body y w (λ z. then_do (d z) (λ x t. by_truth x (rounds_first i q d t) (Goes Next t)))) b
      (λ y. after_both y (λ z. then_do (c z) (λ x t. by_truth x (rounds_first i p c t) (Goes Next t))) (λ z. then_do (d z) (λ x t. by_truth x (rounds_first i q d t) (Goes Next t)))
      (with_value n base skip whole SameFlow c d (λ x t. by_truth x (rounds_first i p c t) (Goes Next t)) (λ x t. by_truth x (rounds_first i q d t) (Goes Next t)) a
      (λ x. truth_both n base skip whole SameFlow x (rounds_first i p c) (λ t. Goes Next t) (rounds_first i q d) (λ t. Goes Next t) (first_both i p q c d b a) (goes_both n base skip whole SameFlow Next Next refl))))
