-- Reading from and storing into a place, on both sides.
use Rattle.std.proofs.Common.{◌≡◌, ℕ, zero, suc, ◌<◌, ◌≤◌, ◌≢◌, ◌⊎◌, inl, inr, Bool, true, false, List, [], ◌∷◌, length, refl, sym, ap, ◌∙◌, subst, arith, lt-ltb}
use Rattle.std.specs.Prelude.{slice_index, slice_index_or, slice_set, ◌==◌, nat_lt, replicate, if◌then◌else◌}
use Rattle.std.proofs.lemmas.Bool.Decides.{nat_tests}
use Rattle.std.proofs.lemmas.Bool.{eqb-true, eqb-false}
use Rattle.std.proofs.lemmas.List.{get_or-set_same, get_or-set_other}
use Rattle.std.proofs.Math.ListN.{length-set}
use Rattle.clc_types.specs.declared.typed.Ty.{Ty}
use Rattle.item_meaning.specs.declared.values.Value.{Value}
use Rattle.item_meaning.specs.declared.values.Value.TheVariants.{Num, Null, At}
use Rattle.item_meaning.specs.ItemState.{State, Run, Goes, Bounds}
use Rattle.item_meaning.specs.Operators.{scalar_of, converted}
use Rattle.item_meaning.specs.declared.values.Place.{Place}
use Rattle.item_meaning.specs.declared.values.Place.TheVariants.{Variable, Cell, Behind, Nowhere}
use Rattle.item_meaning.specs.Places.{array_of, get_element, set_element, at_index, read, store_value, write}
use Rattle.item_ir.specs.Memory.{with_at}
use Rattle.item_ir.specs.IrMeaning.{State as Item, Run as Ran, Ends, Stops, Next, and_then, with_val, with_var, with_word, cleared as emptied, run_all}
use Rattle.item_ir.specs.declared.form.Def.TheVariants as df
use Rattle.item_ir.specs.declared.form.Stmt.TheVariants.{SetElement}
use Rattle.ir_build.specs.Code.{v, one, none, PlaceCode, into, cell, behind, get_code, put_stmts, put_code, converted_code}
use Rattle.build_law.specs.Keeps.{Ground, Laid, Same, Related, Kept, Follows}
use Rattle.build_law.proofs.Steps.{with_at-same, with_at-other, bool_cases, bind, weaker, same_along, set_related, Kept-trans, Kept-own}
use Rattle.build_law.proofs.Memory.{load_built, store_built}
use Rattle.build_law.proofs.Ups.{Target}
use Rattle.build_law.proofs.Values.{Valued, IsBuilt, one_built, converted_built}

-- where a place is, on both sides
abbrev pub SamePlace : Ground → Place → Target → ℕ → Item → Type 0
SamePlace g (Variable u) t k n = (t ≡ (into u 0).to) × (u < length g.vars)
SamePlace g (Cell at u i) t k n = (j : ℕ) × (t ≡ (cell u (none j 0)).to) × Same g.base i (n.vals j) × (j < k)
SamePlace g (Behind at p) t k n = (j : ℕ) × (t ≡ (behind (none j 0)).to) × Same g.base p (n.vals j) × (j < k)
SamePlace g Nowhere t k n = Unit {0}

pub record Placed (g : Ground) (k : ℕ) (c : PlaceCode) (old : Item) (q : Place) (s : State) (n : Item) : Type 0 where
  pub same : SamePlace g q c.to c.next n
  pub kept : Kept g k old n
  pub up : k ≤ c.next

-- it stays one while the values below stay
pub place_kept : (g : Ground) (q : Place) (t : Target) (k l : ℕ) (a b : Item) → k ≤ l → Kept g k a b → SamePlace g q t k a → SamePlace g q t l b
place_kept g (Variable u) t k l a b le e h = h
place_kept g (Cell at u i) t k l a b le e h = (h.0, h.1, same_along g i _ _ (e.vals h.0 h.3) h.2, let x = h.3 in omega (arith, le, x))
place_kept g (Behind at p) t k l a b le e h = (h.0, h.1, same_along g p _ _ (e.vals h.0 h.3) h.2, let x = h.3 in omega (arith, le, x))
place_kept g Nowhere t k l a b le e h = tt

below_is : (i n : ℕ) → nat_lt i n ≡ true → i < n
below_is i n h = grind (arith, nat_tests)

-- ---- arrays

set_or_empty : (xs : List (List ℕ)) (u : ℕ) (x : List ℕ) → (array_of (slice_set xs u x) u ≡ x) ⊎ (array_of (slice_set xs u x) u ≡ [])
set_or_empty [] u x = inr refl
set_or_empty (y ∷ xs) zero x = inl refl
set_or_empty (y ∷ xs) (suc u) x = set_or_empty xs u x

zeros : (n i : ℕ) → slice_index (replicate n 0) i ≡ 0
zeros zero i = refl
zeros (suc n) zero = refl
zeros (suc n) (suc i) = zeros n i

many_zeros : (n : ℕ) → length {A = ℕ} (replicate n 0) ≡ n
many_zeros zero = refl
many_zeros (suc n) = ap suc (many_zeros n)

module _ (g : Ground) (lay : Laid g) where
  -- an array is replaced on both sides
  array_related : (d u : ℕ) (xs : List ℕ) (f : ℕ → ℕ) (s : State) (n : Item) → Related g d s n → ((i : ℕ) → i < length xs → f i ≡ slice_index xs i) → length xs ≤ g.world.lens u
      → Related g d (record s { arrays = slice_set s.arrays u xs }) (record n { arrays = with_at n.arrays u f })
  array_related d u xs f s n h e le =
      record { vars = h.vars; count = h.count; elements = each; lengths = long; bytes = h.bytes; sizes = h.sizes; touches = h.touches; left = h.left }
    where
      new : List (List ℕ)
      new = slice_set s.arrays u xs

      here : (i : ℕ) → (array_of new u ≡ xs) ⊎ (array_of new u ≡ []) → i < length (array_of new u) → f i ≡ slice_index (array_of new u) i
      here i (inl q) lt = e i (subst (λ ys. i < length ys) q lt) ∙ sym (ap (λ ys. slice_index ys i) q)
      here i (inr q) lt = absurd (let z : i < 0 = subst (λ ys. i < length ys) q lt in omega (arith, z))

      short : (array_of new u ≡ xs) ⊎ (array_of new u ≡ []) → length (array_of new u) ≤ g.world.lens u
      short (inl q) = subst (λ ys. length ys ≤ g.world.lens u) (sym q) le
      short (inr q) = subst (λ ys. length ys ≤ g.world.lens u) (sym q) (omega arith)

      each : (w i : ℕ) → i < length (array_of new w) → with_at n.arrays u f w i ≡ slice_index (array_of new w) i
      each w i lt =
          elim (bool_cases (w == u)) [
            | inl t ↦
                let q : w ≡ u = eqb-true w u t in
                let lt2 : i < length (array_of new u) = subst (λ z. i < length (array_of new z)) q lt in
                subst (λ z. with_at n.arrays u f z i ≡ slice_index (array_of new z) i) (sym q) (ap (λ y. y i) (with_at-same n.arrays u f) ∙ here i (set_or_empty s.arrays u xs) lt2)
            | inr t ↦
                let ne : w ≢ u = eqb-false w u t in
                let q : array_of new w ≡ array_of s.arrays w = get_or-set_other s.arrays u w xs [] ne in
                ap (λ y. y i) (with_at-other n.arrays u f w ne) ∙ h.elements w i (subst (λ ys. i < length ys) q lt) ∙ sym (ap (λ ys. slice_index ys i) q)
          ]

      long : (w : ℕ) → length (array_of new w) ≤ g.world.lens w
      long w =
          elim (bool_cases (w == u)) [
            | inl t ↦ let q : w ≡ u = eqb-true w u t in subst (λ z. length (array_of new z) ≤ g.world.lens z) (sym q) (short (set_or_empty s.arrays u xs))
            | inr t ↦
                let ne : w ≢ u = eqb-false w u t in
                let q : array_of new w ≡ array_of s.arrays w = get_or-set_other s.arrays u w xs [] ne in
                subst (λ ys. length ys ≤ g.world.lens w) (sym q) (h.lengths w)
          ]

  -- all elements become 0
  pub emptied_related : (d u c : ℕ) (s : State) (n : Item) → Related g d s n → c ≤ g.world.lens u → Related g d (record s { arrays = slice_set s.arrays u (replicate c 0) }) (emptied u n)
  emptied_related d u c s n h le = array_related d u (replicate c 0) (λ i. 0) s n h (λ i lt. sym (zeros c i)) (subst (λ z. z ≤ g.world.lens u) (sym (many_zeros c)) le)

  element_related : (d u i x : ℕ) (s : State) (n : Item) → Related g d s n → i < length (array_of s.arrays u)
      → Related g d (record s { arrays = slice_set s.arrays u (slice_set (array_of s.arrays u) i x) }) (with_word u i x n)
  element_related d u i x s n h lt =
      array_related d u (slice_set (array_of s.arrays u) i x) (with_at (n.arrays u) i x) s n h each (subst (λ z. z ≤ g.world.lens u) (sym (length-set (array_of s.arrays u) i x)) (h.lengths u))
    where
      each : (j : ℕ) → j < length (slice_set (array_of s.arrays u) i x) → with_at (n.arrays u) i x j ≡ slice_index (slice_set (array_of s.arrays u) i x) j
      each j l =
          elim (bool_cases (j == i)) [
            | inl t ↦
                let q : j ≡ i = eqb-true j i t in
                subst (λ z. with_at (n.arrays u) i x z ≡ slice_index (slice_set (array_of s.arrays u) i x) z) (sym q) (with_at-same (n.arrays u) i x ∙ sym (get_or-set_same (array_of s.arrays u) i x 0 lt))
            | inr t ↦
                let ne : j ≢ i = eqb-false j i t in
                let lj : j < length (array_of s.arrays u) = subst (λ z. j < z) (length-set (array_of s.arrays u) i x) l in
                with_at-other (n.arrays u) i x j ne ∙ h.elements u j lj ∙ sym (get_or-set_other (array_of s.arrays u) i j x 0 ne)
          ]

  get_case : (d at u i j k : ℕ) (b : Bool) (s : State) (n : Item) → Related g d s n → n.vals j ≡ i → nat_lt i (length (array_of s.arrays u)) ≡ b
      → IsBuilt g d (if b then Goes (Num (slice_index (array_of s.arrays u) i)) s else Bounds at) (one k (df.Element u (v j))) k n
  get_case d at u i j k false s n h p e = tt
  get_case d at u i j k true s n h p e =
      let lt = below_is i (length (array_of s.arrays u)) e in
      let l2 : nat_lt (n.vals j) (g.world.lens u) ≡ true = lt-ltb (n.vals j) (g.world.lens u) (let a = h.lengths u in omega (arith, lt, p, a)) in
      one_built g d k (df.Element u (v j)) (Num (slice_index (array_of s.arrays u) i)) (n.arrays u (n.vals j)) s n h
      (ap (λ c. if c then Ends Next (with_val k (n.arrays u (n.vals j)) n) else Stops) l2)
      (ap (n.arrays u) p ∙ h.elements u i lt)

  get_cell : (d at u j k : ℕ) (i : Value) (s : State) (n : Item) → Related g d s n → Same g.base i (n.vals j) → IsBuilt g d (at_index i (λ x. get_element at u x s)) (one k (df.Element u (v j))) k n
  get_cell d at u j k (Num i) s n h p = get_case d at u i j k (nat_lt i (length (array_of s.arrays u))) s n h p refl
  get_cell d at u j k Null s n h p = tt
  get_cell d at u j k (At c o) s n h p = tt

  pub get_built : (d : ℕ) (t : Ty) (q : Place) (to : Target) (k : ℕ) (s : State) (n : Item) → Related g d s n → SamePlace g q to k n → IsBuilt g d (read t q s) (get_code t to k) k n
  get_built d t (Variable u) to k s n h p =
      subst (λ z. IsBuilt g d (read t (Variable u) s) (get_code t z k) k n) (sym p.0)
      (one_built g d k (df.Get u) (slice_index_or s.vars u Null) (n.vars u) s n h refl (h.vars u))
  get_built d t (Cell at u i) to k s n h p = subst (λ z. IsBuilt g d (read t (Cell at u i) s) (get_code t z k) k n) (sym p.1) (get_cell d at u p.0 k i s n h p.2)
  get_built d t (Behind at q) to k s n h p =
      let j = p.0 in
      subst (λ z. IsBuilt g d (read t (Behind at q) s) (get_code t z k) k n) (sym p.1)
      (weaker g d d (λ _. Next) (read t (Behind at q) s) (run_all g.world (one k (df.Load (scalar_of t) (v j))).stmts n) (λ y u o. Same g.base y (o.vals k) × Kept g k n o) (Valued g k (one k (df.Load (scalar_of t) (v j))) n) (omega arith)
      (λ y u o z. record { same = z.0; kept = z.1; own = omega arith; up = omega arith }) (load_built g lay d (scalar_of t) s n at j k q h p.2))
  get_built d t Nowhere to k s n h p = tt

  -- what is stored is the value, and all values stay
  abbrev Puts : ℕ → Run Value → ℕ → ℕ → Item → Ran → Type 0
  Puts d r i k n x = Follows g d (λ _. Next) r (λ y u o. Same g.base y (o.vals i) × Kept g k n o) x

  set_case : (d at u i j y k x : ℕ) (b : Bool) (s : State) (n : Item) → Related g d s n → n.vals j ≡ i → n.vals y ≡ x → nat_lt i (length (array_of s.arrays u)) ≡ b
      → Puts d (if b then Goes (Num x) (record s { arrays = slice_set s.arrays u (slice_set (array_of s.arrays u) i x) }) else Bounds at) y k n (run_all g.world (SetElement u (v j) (v y) ∷ []) n)
  set_case d at u i j y k x false s n h p q e = tt
  set_case d at u i j y k x true s n h p q e =
      let lt = below_is i (length (array_of s.arrays u)) e in
      let l2 : nat_lt (n.vals j) (g.world.lens u) ≡ true = lt-ltb (n.vals j) (g.world.lens u) (let a = h.lengths u in omega (arith, lt, p, a)) in
      let o = with_word u (n.vals j) (n.vals y) n in
      let r = element_related d u i x s n h lt in
      let r2 : Related g d (record s { arrays = slice_set s.arrays u (slice_set (array_of s.arrays u) i x) }) o =
      subst (λ a. Related g d (record s { arrays = slice_set s.arrays u (slice_set (array_of s.arrays u) i x) }) (with_word u (n.vals j) a n)) (sym q)
      (subst (λ a. Related g d (record s { arrays = slice_set s.arrays u (slice_set (array_of s.arrays u) i x) }) (with_word u a x n)) (sym p) r) in
      (o, ap (λ c. and_then (if c then Ends Next o else Stops) (run_all g.world [])) l2, r2, (q, record { vals = λ a b. refl; vars = λ a b c. refl }))

  set_cell : (d at u j y k x : ℕ) (i : Value) (s : State) (n : Item) → Related g d s n → Same g.base i (n.vals j) → n.vals y ≡ x
      → Puts d (at_index i (λ z. set_element at u z x s)) y k n (run_all g.world (SetElement u (v j) (v y) ∷ []) n)
  set_cell d at u j y k x (Num i) s n h p q = set_case d at u i j y k x (nat_lt i (length (array_of s.arrays u))) s n h p q refl
  set_cell d at u j y k x Null s n h p q = tt
  set_cell d at u j y k x (At c o) s n h p q = tt

  stored_cell : (d at u j y k : ℕ) (t : Ty) (i x : Value) (s : State) (n : Item) → Related g d s n → Same g.base i (n.vals j) → Same g.base x (n.vals y)
      → Puts d (store_value t (Cell at u i) x s) y k n (run_all g.world (SetElement u (v j) (v y) ∷ []) n)
  stored_cell d at u j y k t i (Num x) s n h p q = set_cell d at u j y k x i s n h p q
  stored_cell d at u j y k t i Null s n h p q = tt
  stored_cell d at u j y k t i (At c o) s n h p q = tt

  stored_behind : (d at j y k : ℕ) (t : Ty) (r x : Value) (s : State) (n : Item) → Related g d s n → Same g.base r (n.vals j) → Same g.base x (n.vals y)
      → Puts d (store_value t (Behind at r) x s) y k n (run_all g.world (put_stmts t (behind (none j 0)).to y) n)
  stored_behind d at j y k t r (Num x) s n h p q =
      weaker g d d (λ _. Next) (store_value t (Behind at r) (Num x) s) (run_all g.world (put_stmts t (behind (none j 0)).to y) n) _ (λ z u o. Same g.base z (o.vals y) × Kept g k n o) (omega arith)
      (λ z u o f. (f.0, record { vals = λ j l. ap (λ w. w j) f.1.vals; vars = λ j b l. ap (λ w. w j) f.1.vars })) (store_built g lay d (scalar_of t) s n at j y x r h p q)
  stored_behind d at j y k t r Null s n h p q = tt
  stored_behind d at j y k t r (At c o) s n h p q = tt

  stored_built : (d : ℕ) (t : Ty) (q : Place) (to : Target) (y k : ℕ) (x : Value) (s : State) (n : Item) → Related g d s n → SamePlace g q to k n → Same g.base x (n.vals y)
      → Puts d (store_value t q x s) y k n (run_all g.world (put_stmts t to y) n)
  stored_built d t (Variable u) to y k x s n h p q =
      subst (λ z. Puts d (store_value t (Variable u) x s) y k n (run_all g.world (put_stmts t z y) n)) (sym p.0)
      (with_var u (n.vals y) n, refl, set_related g d u (n.vals y) x s n h q, (q, Kept-own g k u (n.vals y) n p.1))
  stored_built d t (Cell at u i) to y k x s n h p q =
      subst (λ z. Puts d (store_value t (Cell at u i) x s) y k n (run_all g.world (put_stmts t z y) n)) (sym p.1) (stored_cell d at u p.0 y k t i x s n h p.2 q)
  stored_built d t (Behind at r) to y k x s n h p q =
      subst (λ z. Puts d (store_value t (Behind at r) x s) y k n (run_all g.world (put_stmts t z y) n)) (sym p.1) (stored_behind d at p.0 y k t r x s n h p.2 q)
  stored_built d t Nowhere to y k x s n h p q = tt

  -- a value is converted and stored
  pub put_built : (d : ℕ) (t : Ty) (q : Place) (to : Target) (i k : ℕ) (x : Value) (s : State) (n : Item) → Related g d s n → SamePlace g q to k n → Same g.base x (n.vals i) → i < k
      → IsBuilt g d (write t q x s) (put_code t to i k) k n
  put_built d t q to i k x s n h p e lt =
      let c = converted_code t i k in
      bind g d d (λ _. Next) (Goes (converted t x) s) (λ y u. store_value t q y u) c.stmts (put_stmts t to c.val) n (Valued g k c n) (Valued g k (put_code t to i k) n) (converted_built g d t i k x s n h e lt)
      (λ y u o hu w. weaker g d d (λ _. Next) (store_value t q y u) (run_all g.world (put_stmts t to c.val) o) (λ z a b. Same g.base z (b.vals c.val) × Kept g c.next o b) (Valued g k (put_code t to i k) n) (omega arith)
      (λ z a b f. record { same = f.0; kept = Kept-trans g k c.next n o b w.up w.kept f.1; own = w.own; up = w.up })
      (stored_built d t q to c.val c.next y u o hu (place_kept g q to k c.next n o w.up w.kept p) w.same))
