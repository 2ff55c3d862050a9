-- Storing into a place, in a frame and among all variables.
use Rattle.std.proofs.Common.{◌≡◌, ℕ, ◌+◌, ◌<◌, ◌≤◌, ◌≢◌, ◌⊎◌, inl, inr, Bool, true, false, List, [], ◌∷◌, length, refl, sym, ap, ◌∙◌, subst, arith}
use Rattle.std.specs.Prelude.{slice_index_or, slice_set, ◌==◌, nat_lt, if◌then◌else◌}
use Rattle.std.proofs.lemmas.Bool.{eqb-true, eqb-false}
use Rattle.std.proofs.lemmas.List.{get_or-set_same, get_or-set_other}
use Rattle.std.proofs.Math.ListN.{length-set}
use Rattle.footprint.specs.declared.marks.Use.TheVariants as how
use Rattle.q_lane.specs.declared.kinds.Scalar.{Scalar}
use Rattle.q_functions.specs.NumberFunctions.{bytes_of}
use Rattle.clc_types.specs.declared.typed.Ty.{Ty}
use Rattle.item_meaning.specs.declared.values.Value.{Value}
use Rattle.item_meaning.specs.declared.values.Value.TheVariants.{Num, Null, At}
use Rattle.item_meaning.specs.ItemState.{State, Goes, Bounds}
use Rattle.item_meaning.specs.Operators.{converted, scalar_of}
use Rattle.item_meaning.specs.Places.{with_bytes, in_bounds, mark, store, array_of, set_element, at_index, store_value, write}
use Rattle.item_meaning.specs.declared.values.Place.{Place}
use Rattle.item_meaning.specs.declared.values.Place.TheVariants.{Variable, Cell, Behind, Nowhere}
use Rattle.inline_law.proofs.Frames.{Same, Framed, Follows, Both, Moved}

bool_cases : (b : Bool) → (b ≡ true) ⊎ (b ≡ false)
bool_cases true = inl refl
bool_cases false = inr refl

module _ (n base skip whole : ℕ) where
  -- an element of a list of the frame and of a list of all is set
  pub set_same : {A : Type 0} (xs ys : List A) (d x : A) (v : ℕ) → v < n → length xs ≡ n → base + n ≤ length ys → ((u : ℕ) → u < n → slice_index_or xs u d ≡ slice_index_or ys (base + u) d)
      → (u : ℕ) → u < n → slice_index_or (slice_set xs v x) u d ≡ slice_index_or (slice_set ys (base + v) x) (base + u) d
  set_same xs ys d x v lt own room h u l =
      elim (bool_cases (u == v)) [
        | inl t ↦
            let e : u ≡ v = eqb-true u v t in
            subst (λ z. slice_index_or (slice_set xs v x) z d ≡ slice_index_or (slice_set ys (base + v) x) (base + z) d) (sym e)
            (get_or-set_same xs v x d (omega (arith, lt, own)) ∙ sym (get_or-set_same ys (base + v) x d (omega (arith, lt, room))))
        | inr t ↦
            let ne : u ≢ v = eqb-false u v t in
            let ne2 : base + u ≢ base + v = λ e. ne (omega (arith, e)) in
            get_or-set_other xs v u x d ne ∙ h u l ∙ sym (get_or-set_other ys (base + v) (base + u) x d ne2)
      ]

  -- the same of the arrays, where those of the parameters stand in no relation
  pub set_array : (xs ys : List (List ℕ)) (x : List ℕ) (v : ℕ) → v < n → length xs ≡ n → base + n ≤ length ys → ((u : ℕ) → skip ≤ u → u < n → slice_index_or xs u [] ≡ slice_index_or ys (base + u) [])
      → (u : ℕ) → skip ≤ u → u < n → slice_index_or (slice_set xs v x) u [] ≡ slice_index_or (slice_set ys (base + v) x) (base + u) []
  set_array xs ys x v lt own room h u le l =
      elim (bool_cases (u == v)) [
        | inl t ↦
            let e : u ≡ v = eqb-true u v t in
            subst (λ z. slice_index_or (slice_set xs v x) z [] ≡ slice_index_or (slice_set ys (base + v) x) (base + z) []) (sym e)
            (get_or-set_same xs v x [] (omega (arith, lt, own)) ∙ sym (get_or-set_same ys (base + v) x [] (omega (arith, lt, room))))
        | inr t ↦
            let ne : u ≢ v = eqb-false u v t in
            let ne2 : base + u ≢ base + v = λ e. ne (omega (arith, e)) in
            get_or-set_other xs v u x [] ne ∙ h u le l ∙ sym (get_or-set_other ys (base + v) (base + u) x [] ne2)
      ]

  pub set_below : {A : Type 0} (ys : List A) (d x : A) (v j : ℕ) → j < base → slice_index_or (slice_set ys (base + v) x) j d ≡ slice_index_or ys j d
  set_below ys d x v j l = let ne : j ≢ base + v = omega (arith, l) in get_or-set_other ys (base + v) j x d ne

  pub set_both : (v : ℕ) (x : Value) → v < n → (s t : State) → Framed n base skip whole s t → Follows n base skip whole Same t (Goes x (record s { vars = slice_set s.vars v x })) (Goes x (record t { vars = slice_set t.vars (base + v) x }))
  set_both v x lt s t r = (
    refl,
    record {
      vars = set_same s.vars t.vars Null x v lt r.own r.room r.vars;
      arrays = r.arrays;
      own = length-set s.vars v x ∙ r.own;
      own_arrays = r.own_arrays;
      room = subst (λ z. base + n ≤ z) (sym (length-set t.vars (base + v) x)) r.room;
      room_arrays = r.room_arrays;
      all = length-set t.vars (base + v) x ∙ r.all;
      all_arrays = r.all_arrays;
      buffers = r.buffers;
      marks = r.marks;
      left = r.left;
    },
    record { vars = λ j l. set_below t.vars Null x v j l; arrays = λ j l. refl; many = length-set t.vars (base + v) x; many_arrays = refl },
  )

  element_case : (at v i x : ℕ) (c : Bool) (A : List ℕ) → v < n → (s t : State) → Framed n base skip whole s t
      → Follows n base skip whole Same t (if c then Goes (Num x) (record s { arrays = slice_set s.arrays v (slice_set A i x) }) else Bounds at) (if c then Goes (Num x) (record t { arrays = slice_set t.arrays (base + v) (slice_set A i x) }) else Bounds at)
  element_case at v i x false A lt s t r = refl
  element_case at v i x true A lt s t r = (
    refl,
    record {
      vars = r.vars;
      arrays = set_array s.arrays t.arrays (slice_set A i x) v lt r.own_arrays r.room_arrays r.arrays;
      own = r.own;
      own_arrays = length-set s.arrays v (slice_set A i x) ∙ r.own_arrays;
      room = r.room;
      room_arrays = subst (λ z. base + n ≤ z) (sym (length-set t.arrays (base + v) (slice_set A i x))) r.room_arrays;
      all = r.all;
      all_arrays = length-set t.arrays (base + v) (slice_set A i x) ∙ r.all_arrays;
      buffers = r.buffers;
      marks = r.marks;
      left = r.left;
    },
    record { vars = λ j l. refl; arrays = λ j l. set_below t.arrays [] (slice_set A i x) v j l; many = refl; many_arrays = length-set t.arrays (base + v) (slice_set A i x) },
  )

  element_both : (at v i x : ℕ) → v < n → skip ≤ v → Both n base skip whole Same (set_element at v i x) (set_element at (base + v) i x)
  element_both at v i x lt le s t r =
      subst (λ A. Follows n base skip whole Same t (set_element at v i x s) (if nat_lt i (length A) then Goes (Num x) (record t { arrays = slice_set t.arrays (base + v) (slice_set A i x) }) else Bounds at)) (r.arrays v le lt)
      (element_case at v i x (nat_lt i (length (array_of s.arrays v))) (array_of s.arrays v) lt s t r)

  cell_set : (at v x : ℕ) (i : Value) → v < n → skip ≤ v → Both n base skip whole Same (λ s. at_index i (λ j. set_element at v j x s)) (λ t. at_index i (λ j. set_element at (base + v) j x t))
  cell_set at v x (Num i) lt le s t r = element_both at v i x lt le s t r
  cell_set at v x Null lt le s t r = tt
  cell_set at v x (At c o) lt le s t r = tt

  store_case : (at k o x : ℕ) (e : Scalar) (c : Bool) (s t : State) → Framed n base skip whole s t
      → Follows n base skip whole Same t (if c then Goes (Num x) (record s { buffers = with_bytes (bytes_of e) s.buffers k o x; marks = mark how.Write e k o ∷ s.marks }) else Bounds at)
      (if c then Goes (Num x) (record t { buffers = with_bytes (bytes_of e) t.buffers k o x; marks = mark how.Write e k o ∷ t.marks }) else Bounds at)
  store_case at k o x e false s t r = refl
  store_case at k o x e true s t r = (
    refl,
    record {
      vars = r.vars;
      arrays = r.arrays;
      own = r.own;
      own_arrays = r.own_arrays;
      room = r.room;
      room_arrays = r.room_arrays;
      all = r.all;
      all_arrays = r.all_arrays;
      buffers = ap (λ b. with_bytes (bytes_of e) b k o x) r.buffers;
      marks = ap (λ l. mark how.Write e k o ∷ l) r.marks;
      left = r.left;
    },
    record { vars = λ j l. refl; arrays = λ j l. refl; many = refl; many_arrays = refl },
  )

  store_both : (at x : ℕ) (e : Scalar) (p : Value) → Both n base skip whole Same (store at e p x) (store at e p x)
  store_both at x e (At k o) s t r =
      subst (λ B. Follows n base skip whole Same t (store at e (At k o) x s) (if in_bounds e B k o then Goes (Num x) (record t { buffers = with_bytes (bytes_of e) t.buffers k o x; marks = mark how.Write e k o ∷ t.marks }) else Bounds at)) r.buffers
      (store_case at k o x e (in_bounds e s.buffers k o) s t r)
  store_both at x e Null s t r = refl
  store_both at x e (Num w) s t r = refl

  stored : (t : Ty) (q w : Place) (x : Value) → Moved n base skip whole q w → Both n base skip whole Same (store_value t q x) (store_value t w x)
  stored t (Variable v) (Variable w) x h s u r =
      subst (λ z. Follows n base skip whole Same u (store_value t (Variable v) x s) (store_value t (Variable z) x u)) (sym h.0) (set_both v x h.1 s u r)
  stored t (Variable v) (Cell p w j) x h s u r = absurd h
  stored t (Variable v) (Behind p y) x h s u r = absurd h
  stored t (Variable v) Nowhere x h s u r = absurd h
  stored t (Cell p v i) (Variable w) x h s u r = absurd h
  stored t (Cell p v i) (Cell q w j) (Num x) h s u r =
      subst (λ z. Follows n base skip whole Same u (store_value t (Cell p v i) (Num x) s) (store_value t (Cell q z j) (Num x) u)) (sym h.1)
      (subst (λ z. Follows n base skip whole Same u (store_value t (Cell p v i) (Num x) s) (store_value t (Cell z (base + v) j) (Num x) u)) h.0
      (subst (λ z. Follows n base skip whole Same u (store_value t (Cell p v i) (Num x) s) (store_value t (Cell p (base + v) z) (Num x) u)) h.4 (cell_set p v x i h.2 h.3 s u r)))
  stored t (Cell p v i) (Cell q w j) Null h s u r = tt
  stored t (Cell p v i) (Cell q w j) (At c o) h s u r = tt
  stored t (Cell p v i) (Behind q y) x h s u r = absurd h
  stored t (Cell p v i) Nowhere x h s u r = absurd h
  stored t (Behind p y) (Variable w) x h s u r = absurd h
  stored t (Behind p y) (Cell q w j) x h s u r = absurd h
  stored t (Behind p y) (Behind q z) (Num x) h s u r =
      subst (λ a. Follows n base skip whole Same u (store_value t (Behind p y) (Num x) s) (store_value t (Behind a z) (Num x) u)) h.0
      (subst (λ a. Follows n base skip whole Same u (store_value t (Behind p y) (Num x) s) (store_value t (Behind p a) (Num x) u)) h.1 (store_both p x (scalar_of t) y s u r))
  stored t (Behind p y) (Behind q z) Null h s u r = tt
  stored t (Behind p y) (Behind q z) (At c o) h s u r = tt
  stored t (Behind p y) Nowhere x h s u r = absurd h
  stored t Nowhere (Variable w) x h s u r = absurd h
  stored t Nowhere (Cell q w j) x h s u r = absurd h
  stored t Nowhere (Behind q z) x h s u r = absurd h
  stored t Nowhere Nowhere x h s u r = tt

  pub writes : (t : Ty) (q w : Place) (x : Value) → Moved n base skip whole q w → Both n base skip whole Same (write t q x) (write t w x)
  writes t q w x h s u r = stored t q w (converted t x) h s u r
