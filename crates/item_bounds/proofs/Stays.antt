-- What every step of a work-item keeps: the sizes of the buffers, that their numbers are bytes, that all marks lie in them, and that turns only go.
use Rattle.std.proofs.Common.{◌≡◌, ℕ, zero, suc, ◌+◌, ◌/◌, ◌%◌, ◌^◌, ◌<◌, ◌≤◌, Bool, true, false, List, [], ◌∷◌, map, length, get_or, set, refl, sym, ap, subst, ◌∙◌, arith}
use Rattle.std.specs.Prelude.{nat_le, nat_lt, ◌==◌, if◌then◌else◌}
use Rattle.std.proofs.lemmas.Bool.{and_parts}
use Rattle.std.proofs.lemmas.Bool.Decides.{nat_tests}
use Rattle.footprint.specs.declared.marks.Mark.{Mark}
use Rattle.footprint.specs.declared.marks.Use.{Use}
use Rattle.footprint.specs.declared.marks.Use.TheVariants.{Read, Write}
use Rattle.q_lane.specs.declared.kinds.Scalar.{Scalar}
use Rattle.q_lane.specs.declared.kinds.Scalar.TheVariants.{Char, Uchar, Short, Ushort, Int, Uint}
use Rattle.q_functions.specs.NumberFunctions.{bytes_of}
use Rattle.clc_types.specs.declared.typed.Ty.{Ty}
use Rattle.item_meaning.specs.declared.values.Value.{Value}
use Rattle.item_meaning.specs.declared.values.Value.TheVariants.{Num, Null, At}
use Rattle.item_meaning.specs.ItemState.{State, Run, Goes, Bounds, Spent, then_do, after_turn, node, nodes, by_truth, if_next, after_body}
use Rattle.item_meaning.specs.declared.values.Flow.{Flow}
use Rattle.item_meaning.specs.declared.values.Flow.TheVariants.{Next, Broke, Again, Returned}
use Rattle.item_meaning.specs.Operators.{scalar_of, converted}
use Rattle.item_meaning.specs.Places.{with_byte, with_bytes, in_bounds, mark, load, store, array_of, get_element, set_element, at_index, read, store_value, write}
use Rattle.item_meaning.specs.declared.values.Place.{Place}
use Rattle.item_meaning.specs.declared.values.Place.TheVariants.{Variable, Cell, Behind, Nowhere}
use Rattle.item_meaning.specs.NodeMeanings.{Part}
use Rattle.item_bounds.specs.Laws.{IsWithin, AreBytes}

abbrev pub Every : (Mark → Type 0) → List Mark → Type 0
Every P [] = Unit {0}
Every P (x ∷ xs) = P x × Every P xs

-- a state with buffers of the sizes of those given, marks within them, at most so many turns left, and bytes where bytes were given
pub record Stays (given : List (List ℕ)) (most : ℕ) (s : State) : Type 0 where
  pub same : map length s.buffers ≡ map length given
  pub within : Every (IsWithin (map length given)) s.marks
  pub few : s.left ≤ most
  pub bytes : AreBytes given → AreBytes s.buffers

-- a run that goes on does so in such a state
abbrev pub Leads : {A : Type 0} → List (List ℕ) → ℕ → Run A → Type 0
Leads given n (Goes a s) = Stays given n s
Leads given n (Bounds at) = Unit {0}
Leads given n Spent = Unit {0}

-- ---- sizes

set-sizes : (xs : List (List ℕ)) (k : ℕ) (ys : List ℕ) → length ys ≡ length (get_or xs k []) → map length (set xs k ys) ≡ map length xs
set-sizes [] k ys e = refl
set-sizes (x ∷ xs) zero ys e = ap (λ n. n ∷ map length xs) e
set-sizes (x ∷ xs) (suc k) ys e = ap (λ (l : List ℕ). length x ∷ l) (set-sizes xs k ys e)

set-length : (xs : List ℕ) (i v : ℕ) → length (set xs i v) ≡ length xs
set-length [] i v = refl
set-length (x ∷ xs) zero v = refl
set-length (x ∷ xs) (suc i) v = ap suc (set-length xs i v)

byte-sizes : (xs : List (List ℕ)) (k o b : ℕ) → map length (with_byte xs k o b) ≡ map length xs
byte-sizes xs k o b = set-sizes xs k (set (get_or xs k []) o b) (set-length (get_or xs k []) o b)

bytes-sizes : (n : ℕ) (xs : List (List ℕ)) (k o x : ℕ) → map length (with_bytes n xs k o x) ≡ map length xs
bytes-sizes zero xs k o x = refl
bytes-sizes (suc n) xs k o x = bytes-sizes n (with_byte xs k o (x % 2 ^ 8)) k (suc o) (x / 2 ^ 8) ∙ byte-sizes xs k o (x % 2 ^ 8)

size-of : (xs : List (List ℕ)) (k : ℕ) → get_or (map length xs) k 0 ≡ length (get_or xs k [])
size-of [] k = refl
size-of (x ∷ xs) zero = refl
size-of (x ∷ xs) (suc k) = size-of xs k

-- ---- bytes

set-bytes : (xs : List ℕ) (i v : ℕ) → v < 256 → ((o : ℕ) → get_or xs o 0 < 256) → (o : ℕ) → get_or (set xs i v) o 0 < 256
set-bytes [] i v small h o = h o
set-bytes (x ∷ xs) zero v small h zero = small
set-bytes (x ∷ xs) zero v small h (suc o) = h (suc o)
set-bytes (x ∷ xs) (suc i) v small h zero = h zero
set-bytes (x ∷ xs) (suc i) v small h (suc o) = set-bytes xs i v small (λ p. h (suc p)) o

put-bytes : (xs : List (List ℕ)) (k : ℕ) (ys : List ℕ) → ((o : ℕ) → get_or ys o 0 < 256) → AreBytes xs → AreBytes (set xs k ys)
put-bytes [] k ys small h j o = h j o
put-bytes (x ∷ xs) zero ys small h zero o = small o
put-bytes (x ∷ xs) zero ys small h (suc j) o = h (suc j) o
put-bytes (x ∷ xs) (suc k) ys small h zero o = h zero o
put-bytes (x ∷ xs) (suc k) ys small h (suc j) o = put-bytes xs k ys small (λ i. h (suc i)) j o

byte-bytes : (xs : List (List ℕ)) (k o b : ℕ) → b < 256 → AreBytes xs → AreBytes (with_byte xs k o b)
byte-bytes xs k o b small h = put-bytes xs k (set (get_or xs k []) o b) (set-bytes (get_or xs k []) o b small (h k)) h

bytes-bytes : (n : ℕ) (xs : List (List ℕ)) (k o x : ℕ) → AreBytes xs → AreBytes (with_bytes n xs k o x)
bytes-bytes zero xs k o x h = h
bytes-bytes (suc n) xs k o x h =
    let small : x % 2 ^ 8 < 256 = omega arith in
    bytes-bytes n (with_byte xs k o (x % 2 ^ 8)) k (suc o) (x / 2 ^ 8) (byte-bytes xs k o (x % 2 ^ 8) small h)

-- ---- steps

at-most : (a b : ℕ) → nat_le a b ≡ true → a ≤ b
at-most a b e = grind (arith, nat_tests)

bytes-some : (t : Scalar) (o : ℕ) → o < o + bytes_of t
bytes-some Char o = omega arith
bytes-some Uchar o = omega arith
bytes-some Short o = omega arith
bytes-some Ushort o = omega arith
bytes-some Int o = omega arith
bytes-some Uint o = omega arith

mark-within : (z : List ℕ) (how : Use) (t : Scalar) (buffers : List (List ℕ)) (k o : ℕ) → map length buffers ≡ z → in_bounds t buffers k o ≡ true → IsWithin z (mark how t k o)
mark-within z how t buffers k o e b =
    let fits : o + bytes_of t ≤ length (get_or buffers k []) = at-most (o + bytes_of t) (length (get_or buffers k [])) (and_parts (o % bytes_of t == 0) (nat_le (o + bytes_of t) (length (get_or buffers k []))) b).1 in
    let size : get_or z k 0 ≡ length (get_or buffers k []) = ap (λ (y : List ℕ). get_or y k 0) (sym e) ∙ size-of buffers k in
    (bytes-some t o, subst (λ n. o + bytes_of t ≤ n) (sym size) fits)

module _ (given : List (List ℕ)) (most : ℕ) where
  if-leads : {A : Type 0} (b : Bool) (x y : Run A) → (b ≡ true → Leads given most x) → Leads given most y → Leads given most (if b then x else y)
  if-leads true x y h g = h refl
  if-leads false x y h g = g

  pub then-leads : {A B : Type 0} (r : Run A) (go : A → State → Run B) → Leads given most r → ((a : A) (t : State) → Stays given most t → Leads given most (go a t)) → Leads given most (then_do r go)
  then-leads (Goes a t) go h g = g a t h
  then-leads (Bounds at) go h g = tt
  then-leads Spent go h g = tt

  turn-leads : {A : Type 0} (n : ℕ) (s : State) (go : State → Run A) → n ≡ s.left → Stays given most s → ((t : State) → Stays given most t → Leads given most (go t)) → Leads given most (after_turn n s go)
  turn-leads zero s go e h g = tt
  turn-leads (suc n) s go e h g = let f = h.few in g (record s { left = n }) (record { same = h.same; within = h.within; few = omega (arith, e, f); bytes = h.bytes })

  pub node-leads : {A : Type 0} (s : State) (go : State → Run A) → Stays given most s → ((t : State) → Stays given most t → Leads given most (go t)) → Leads given most (node s go)
  node-leads s go h g = turn-leads s.left s go refl h g

  pub nodes-leads : {A : Type 0} (n : ℕ) (s : State) (go : State → Run A) → Stays given most s → ((t : State) → Stays given most t → Leads given most (go t)) → Leads given most (nodes n s go)
  nodes-leads zero s go h g = g s h
  nodes-leads (suc n) s go h g = node-leads s (λ t. nodes n t go) h (λ t k. nodes-leads n t go k g)

  pub truth-leads : {A : Type 0} (v : Value) (one other : Run A) → Leads given most one → Leads given most other → Leads given most (by_truth v one other)
  truth-leads (Num zero) one other h g = g
  truth-leads (Num (suc n)) one other h g = h
  truth-leads Null one other h g = tt
  truth-leads (At k o) one other h g = tt

  pub next-leads : (f : Flow) (s : State) (go : Part Flow) → Stays given most s → ((t : State) → Stays given most t → Leads given most (go t)) → Leads given most (if_next f s go)
  next-leads Next s go h g = g s h
  next-leads Broke s go h g = h
  next-leads Again s go h g = h
  next-leads (Returned v) s go h g = h

  pub body-leads : (f : Flow) (s : State) (go : Part Flow) → Stays given most s → ((t : State) → Stays given most t → Leads given most (go t)) → Leads given most (after_body f s go)
  body-leads Next s go h g = g s h
  body-leads Broke s go h g = h
  body-leads Again s go h g = g s h
  body-leads (Returned v) s go h g = h

  load-leads : (at : ℕ) (t : Scalar) (p : Value) (s : State) → Stays given most s → Leads given most (load at t p s)
  load-leads at t (At k o) s h = if-leads (in_bounds t s.buffers k o) _ _ (λ b. record { same = h.same; within = (mark-within (map length given) Read t s.buffers k o h.same b, h.within); few = h.few; bytes = h.bytes }) tt
  load-leads at t Null s h = tt
  load-leads at t (Num w) s h = tt

  store-leads : (at : ℕ) (t : Scalar) (p : Value) (x : ℕ) (s : State) → Stays given most s → Leads given most (store at t p x s)
  store-leads at t (At k o) x s h =
      if-leads (in_bounds t s.buffers k o) _ _
      (λ b. record { same = bytes-sizes (bytes_of t) s.buffers k o x ∙ h.same; within = (mark-within (map length given) Write t s.buffers k o h.same b, h.within); few = h.few; bytes = λ a. bytes-bytes (bytes_of t) s.buffers k o x (h.bytes a) })
      tt
  store-leads at t Null x s h = tt
  store-leads at t (Num w) x s h = tt

  index-leads : (v : Value) (go : ℕ → Run Value) → ((i : ℕ) → Leads given most (go i)) → Leads given most (at_index v go)
  index-leads (Num i) go g = g i
  index-leads Null go g = tt
  index-leads (At k o) go g = tt

  get-leads : (at v i : ℕ) (s : State) → Stays given most s → Leads given most (get_element at v i s)
  get-leads at v i s h = if-leads (nat_lt i (length (array_of s.arrays v))) _ _ (λ b. h) tt

  set-leads : (at v i x : ℕ) (s : State) → Stays given most s → Leads given most (set_element at v i x s)
  set-leads at v i x s h = if-leads (nat_lt i (length (array_of s.arrays v))) _ _ (λ b. record { same = h.same; within = h.within; few = h.few; bytes = h.bytes }) tt

  pub read-leads : (t : Ty) (q : Place) (s : State) → Stays given most s → Leads given most (read t q s)
  read-leads t (Variable v) s h = h
  read-leads t (Cell at v i) s h = index-leads i (λ j. get_element at v j s) (λ j. get-leads at v j s h)
  read-leads t (Behind at p) s h = load-leads at (scalar_of t) p s h
  read-leads t Nowhere s h = tt

  put-leads : (t : Ty) (q : Place) (x : Value) (s : State) → Stays given most s → Leads given most (store_value t q x s)
  put-leads t (Variable v) x s h = record { same = h.same; within = h.within; few = h.few; bytes = h.bytes }
  put-leads t (Cell at v i) (Num x) s h = index-leads i (λ j. set_element at v j x s) (λ j. set-leads at v j x s h)
  put-leads t (Cell at v i) Null s h = tt
  put-leads t (Cell at v i) (At k o) s h = tt
  put-leads t (Behind at p) (Num x) s h = store-leads at (scalar_of t) p x s h
  put-leads t (Behind at p) Null s h = tt
  put-leads t (Behind at p) (At k o) s h = tt
  put-leads t Nowhere x s h = tt

  pub write-leads : (t : Ty) (q : Place) (x : Value) (s : State) → Stays given most s → Leads given most (write t q x s)
  write-leads t q x s h = put-leads t q (converted t x) s h
