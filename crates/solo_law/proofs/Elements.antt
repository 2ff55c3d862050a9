-- Elements of a transfer: each order of moving them gives the same.
use Rattle.std.proofs.Common.{◌≡◌, ◌≢◌, ℕ, zero, suc, ◌+◌, ◌*◌, ◌<◌, ◌≤◌, ◌⊎◌, inl, inr, ⊎_elim, List, [], ◌∷◌, map, length, get_or, set, refl, sym, ap, ◌∙◌, subst, arith, length-set, Bool, true, false}
use Rattle.std.proofs.Math.Nat.{mul-le-mul_left}
use Rattle.std.specs.Prelude.{slice_get, if◌then◌else◌, Some, ⊤}
use Rattle.std.specs.List.{remove, range_with_len}
use Rattle.vpm_words.specs.Piece.{Piece}
use Rattle.vpm_words.specs.Elements.{size_of, element_at, elements_of}
use Rattle.vpm_words.specs.Moves.{part_of, with_part, number_at, put_bytes, cell, with_cell, load_element, bytes_out, store_element, load_all, store_all}
use Rattle.vpm_words.specs.declared.state.Element.{Element}
use Rattle.vpm_words.proofs.MoveLaws.{length-put_bytes, length-bytes_of}
use Rattle.qpu_machine.specs.SoloRun.{CoversByte, AnyCovers}

-- ---- lists under writes

set_keeps : (s t : List ℕ) (i j x : ℕ) → length s ≡ length t → get_or s j 0 ≡ get_or t j 0 → get_or (set s i x) j 0 ≡ get_or (set t i x) j 0
set_keeps [] [] i j x n h = h
set_keeps [] (b ∷ t) i j x n h = absurd (omega arith)
set_keeps (a ∷ s) [] i j x n h = absurd (omega arith)
set_keeps (a ∷ s) (b ∷ t) zero zero x n h = refl
set_keeps (a ∷ s) (b ∷ t) zero (suc j) x n h = h
set_keeps (a ∷ s) (b ∷ t) (suc i) zero x n h = h
set_keeps (a ∷ s) (b ∷ t) (suc i) (suc j) x n h = set_keeps s t i j x (omega arith) h

set_elsewhere : (s : List ℕ) (i j x : ℕ) → i ≢ j → get_or (set s i x) j 0 ≡ get_or s j 0
set_elsewhere [] i j x n = refl
set_elsewhere (a ∷ s) zero zero x n = absurd (n refl)
set_elsewhere (a ∷ s) zero (suc j) x n = refl
set_elsewhere (a ∷ s) (suc i) zero x n = refl
set_elsewhere (a ∷ s) (suc i) (suc j) x n = set_elsewhere s i j x (λ e. n (ap suc e))

set_apart : (s : List ℕ) (i j x y : ℕ) → i ≢ j → set (set s i x) j y ≡ set (set s j y) i x
set_apart [] i j x y n = refl
set_apart (a ∷ s) zero zero x y n = absurd (n refl)
set_apart (a ∷ s) zero (suc j) x y n = refl
set_apart (a ∷ s) (suc i) zero x y n = refl
set_apart (a ∷ s) (suc i) (suc j) x y n = ap (λ l. a ∷ l) (set_apart s i j x y (λ e. n (ap suc e)))

put_keeps : (s t : List ℕ) (i j : ℕ) (xs : List ℕ) → length s ≡ length t → get_or s j 0 ≡ get_or t j 0 → get_or (put_bytes s i xs) j 0 ≡ get_or (put_bytes t i xs) j 0
put_keeps s t i j [] n h = h
put_keeps s t i j (x ∷ xs) n h =
    put_keeps (set s i x) (set t i x) (i + 1) j xs (length-set s i x ∙ n ∙ sym (length-set t i x)) (set_keeps s t i j x n h)

put_elsewhere : (s : List ℕ) (i j : ℕ) (xs : List ℕ) → ((i ≤ j) × (j < i + length xs) → ⊥) → get_or (put_bytes s i xs) j 0 ≡ get_or s j 0
put_elsewhere s i j [] n = refl
put_elsewhere s i j (x ∷ xs) n =
    put_elsewhere (set s i x) (i + 1) j xs (λ h. n (omega arith)) ∙ set_elsewhere s i j x (λ e. n (omega arith))

-- a write at j and writes from i on
put_set : (s : List ℕ) (i j y : ℕ) (xs : List ℕ) → ((i ≤ j) × (j < i + length xs) → ⊥) → set (put_bytes s i xs) j y ≡ put_bytes (set s j y) i xs
put_set s i j y [] n = refl
put_set s i j y (x ∷ xs) n =
    put_set (set s i x) (i + 1) j y xs (λ h. n (omega arith)) ∙ ap (λ l. put_bytes l (i + 1) xs) (set_apart s i j x y (λ e. n (omega arith)))

put_put : (s : List ℕ) (i j : ℕ) (xs ys : List ℕ) → (i + length xs ≤ j) ⊎ (j + length ys ≤ i) → put_bytes (put_bytes s i xs) j ys ≡ put_bytes (put_bytes s j ys) i xs
put_put s i j xs [] h = refl
put_put s i j xs (y ∷ ys) (inl h) =
    ap (λ l. put_bytes l (j + 1) ys) (put_set s i j y xs (λ g. omega arith)) ∙ put_put (set s j y) i (j + 1) xs ys (inl (omega arith))
put_put s i j xs (y ∷ ys) (inr h) =
    ap (λ l. put_bytes l (j + 1) ys) (put_set s i j y xs (λ g. omega arith)) ∙ put_put (set s j y) i (j + 1) xs ys (inr (omega arith))

-- ---- words of the VPM

abbrev cell_set : List (List ℕ) → ℕ → ℕ → ℕ → List (List ℕ)
cell_set v r c x = set v r (set (get_or v r []) c x)

cell_apart : (v : List (List ℕ)) (r c x s d y : ℕ) → (r ≢ s) ⊎ (c ≢ d) → cell_set (cell_set v r c x) s d y ≡ cell_set (cell_set v s d y) r c x
cell_apart [] r c x s d y n = refl
cell_apart (a ∷ v) zero c x zero d y n = ap (λ l. l ∷ v) (set_apart a c d x y (⊎_elim (λ z. absurd (z refl)) (λ z. z) n))
cell_apart (a ∷ v) zero c x (suc s) d y n = refl
cell_apart (a ∷ v) (suc r) c x zero d y n = refl
cell_apart (a ∷ v) (suc r) c x (suc s) d y (inl n) = ap (λ l. a ∷ l) (cell_apart v r c x s d y (inl (λ e. n (ap suc e))))
cell_apart (a ∷ v) (suc r) c x (suc s) d y (inr n) = ap (λ l. a ∷ l) (cell_apart v r c x s d y (inr n))

cell_elsewhere : (v : List (List ℕ)) (r c x s d : ℕ) → (r ≢ s) ⊎ (c ≢ d) → cell (cell_set v r c x) s d ≡ cell v s d
cell_elsewhere [] r c x s d n = refl
cell_elsewhere (a ∷ v) zero c x zero d n = set_elsewhere a c d x (⊎_elim (λ z. absurd (z refl)) (λ z. z) n)
cell_elsewhere (a ∷ v) zero c x (suc s) d n = refl
cell_elsewhere (a ∷ v) (suc r) c x zero d n = refl
cell_elsewhere (a ∷ v) (suc r) c x (suc s) d (inl n) = cell_elsewhere v r c x s d (inl (λ e. n (ap suc e)))
cell_elsewhere (a ∷ v) (suc r) c x (suc s) d (inr n) = cell_elsewhere v r c x s d (inr n)

-- ---- one element

pub number_agrees : (n : ℕ) (m l : List ℕ) (i : ℕ) → ((a : ℕ) → i ≤ a → a < i + n → get_or m a 0 ≡ get_or l a 0) → number_at n m i ≡ number_at n l i
number_agrees zero m l i h = refl
number_agrees (suc n) m l i h =
    let e : get_or m i 0 ≡ get_or l i 0 = h i (omega arith) (omega arith) in
    let f : number_at n m (i + 1) ≡ number_at n l (i + 1) = number_agrees n m l (i + 1) (λ a p q. h a (omega arith) (omega arith)) in
    omega arith

pub store_length : (e : Element) (v : List (List ℕ)) (m : List ℕ) → length (store_element e v m) ≡ length m
unfolding store_element
store_length e v m = length-put_bytes (bytes_out e v) m e.address

-- where two memories agree, they do after the same store
pub store_keeps : (e : Element) (v : List (List ℕ)) (m n : List ℕ) (a : ℕ) → length m ≡ length n → get_or m a 0 ≡ get_or n a 0
    → get_or (store_element e v m) a 0 ≡ get_or (store_element e v n) a 0
unfolding store_element
store_keeps e v m n a l h = put_keeps m n e.address a (bytes_out e v) l h

out_length : (e : Element) (v : List (List ℕ)) → length (bytes_out e v) ≡ e.size
unfolding bytes_out
out_length e v = length-bytes_of e.size (part_of e.low e.size (cell v e.row e.col))

pub store_elsewhere : (e : Element) (v : List (List ℕ)) (m : List ℕ) (a : ℕ) → (CoversByte e a → ⊥) → get_or (store_element e v m) a 0 ≡ get_or m a 0
unfolding store_element
store_elsewhere e v m a n = put_elsewhere m e.address a (bytes_out e v) (λ h. let l = out_length e v in n (omega arith))

load_agrees : (e : Element) (m l : List ℕ) (v : List (List ℕ)) → ((a : ℕ) → CoversByte e a → get_or m a 0 ≡ get_or l a 0) → load_element e m v ≡ load_element e l v
unfolding load_element
load_agrees e m l v h =
    ap (λ x. with_cell v e.row e.col (with_part e.low e.size (cell v e.row e.col) x)) (number_agrees e.size m l e.address (λ a p q. h a (p, q)))

-- two elements with other words of the VPM and other bytes of the memory
pub record AreTwo (e f : Element) : Type 0 where
  pub words : (e.row ≢ f.row) ⊎ (e.col ≢ f.col)
  pub bytes : (e.address + e.size ≤ f.address) ⊎ (f.address + f.size ≤ e.address)

-- what an element makes of its word, from the word before
abbrev new_word : Element → List ℕ → ℕ → ℕ
new_word e m old = with_part e.low e.size old (number_at e.size m e.address)

load_load : (e f : Element) (m : List ℕ) (v : List (List ℕ)) → AreTwo e f → load_element e m (load_element f m v) ≡ load_element f m (load_element e m v)
unfolding load_element
load_load e f m v n =
    let we : ℕ = new_word e m (cell v e.row e.col) in
    let wf : ℕ = new_word f m (cell v f.row f.col) in
    let back : (f.row ≢ e.row) ⊎ (f.col ≢ e.col) = ⊎_elim (λ z. inl (λ q. z (sym q))) (λ z. inr (λ q. z (sym q))) n.words in
    ap (λ old. cell_set (cell_set v f.row f.col wf) e.row e.col (new_word e m old)) (cell_elsewhere v f.row f.col wf e.row e.col back)
    ∙ cell_apart v f.row f.col wf e.row e.col we back
    ∙ ap (λ old. cell_set (cell_set v e.row e.col we) f.row f.col (new_word f m old)) (sym (cell_elsewhere v e.row e.col we f.row f.col n.words))

store_store : (e f : Element) (v : List (List ℕ)) (m : List ℕ) → AreTwo e f → store_element e v (store_element f v m) ≡ store_element f v (store_element e v m)
unfolding store_element
store_store e f v m h =
    let le = out_length e v in
    let lf = out_length f v in
    put_put m f.address e.address (bytes_out f v) (bytes_out e v) (⊎_elim (λ p. inr (omega arith)) (λ p. inl (omega arith)) h.bytes)

-- ---- all elements of a transfer

abbrev pub ApartFrom : Element → List Element → Type 0
ApartFrom e [] = ⊤
ApartFrom e (f ∷ es) = AreTwo e f × ApartFrom e es

abbrev pub AreApartAll : List Element → Type 0
AreApartAll [] = ⊤
AreApartAll (e ∷ es) = ApartFrom e es × AreApartAll es

-- es has e at place i
abbrev pub HasAt : List Element → ℕ → Element → Type 0
HasAt [] i e = ⊥
HasAt (f ∷ es) zero e = f ≡ e
HasAt (f ∷ es) (suc i) e = HasAt es i e

pub has_at : (es : List Element) (i : ℕ) (e : Element) → slice_get es i ≡ Some e → HasAt es i e
has_at [] i e h = cc
has_at (f ∷ es) zero e h = cc
has_at (f ∷ es) (suc i) e h = has_at es i e h

apart_at : (f : Element) (es : List Element) (i : ℕ) (e : Element) → HasAt es i e → ApartFrom f es → AreTwo f e
apart_at f [] i e h p = absurd h
apart_at f (g ∷ es) zero e h p = subst (λ x. AreTwo f x) h p.0
apart_at f (g ∷ es) (suc i) e h p = apart_at f es i e h p.1

remove_nil : (i : ℕ) → remove {X = Element} [] i ≡ []
remove_nil zero = refl
remove_nil (suc i) = refl

from_remove : (f : Element) (es : List Element) (i : ℕ) → ApartFrom f es → ApartFrom f (remove es i)
from_remove f [] i p = rw remove_nil p
from_remove f (g ∷ es) zero p = p.1
from_remove f (g ∷ es) (suc i) p = (p.0, from_remove f es i p.1)

pub apart_remove : (es : List Element) (i : ℕ) → AreApartAll es → AreApartAll (remove es i)
apart_remove [] i p = rw remove_nil p
apart_remove (f ∷ es) zero p = p.1
apart_remove (f ∷ es) (suc i) p = (from_remove f es i p.0, apart_remove es i p.1)

-- one element first and then the others, or all in their order
pub load_first : (es : List Element) (i : ℕ) (e : Element) (m : List ℕ) (v : List (List ℕ)) → HasAt es i e → AreApartAll es
    → load_all (remove es i) m (load_element e m v) ≡ load_all es m v
load_first [] i e m v h p = absurd h
load_first (f ∷ es) zero e m v h p = ap (λ x. load_all es m (load_element x m v)) (sym h)
load_first (f ∷ es) (suc i) e m v h p =
    ap (λ x. load_all (remove es i) m x) (load_load f e m v (apart_at f es i e h p.0)) ∙ load_first es i e m (load_element f m v) h p.1

pub store_first : (es : List Element) (i : ℕ) (e : Element) (v : List (List ℕ)) (m : List ℕ) → HasAt es i e → AreApartAll es
    → store_all (remove es i) v (store_element e v m) ≡ store_all es v m
store_first [] i e v m h p = absurd h
store_first (f ∷ es) zero e v m h p = ap (λ x. store_all es v (store_element x v m)) (sym h)
store_first (f ∷ es) (suc i) e v m h p =
    ap (λ x. store_all (remove es i) v x) (store_store f e v m (apart_at f es i e h p.0)) ∙ store_first es i e v (store_element f v m) h p.1

pub covers_at : (es : List Element) (i : ℕ) (e : Element) (a : ℕ) → HasAt es i e → CoversByte e a → AnyCovers es a
covers_at [] i e a h c = absurd h
covers_at (f ∷ es) zero e a h c = inl (subst (λ x. CoversByte x a) (sym h) c)
covers_at (f ∷ es) (suc i) e a h c = inr (covers_at es i e a h c)

pub covers_remove : (es : List Element) (i a : ℕ) → AnyCovers (remove es i) a → AnyCovers es a
covers_remove [] i a h = rw remove_nil at h
covers_remove (f ∷ es) zero a h = inr h
covers_remove (f ∷ es) (suc i) a (inl h) = inl h
covers_remove (f ∷ es) (suc i) a (inr h) = inr (covers_remove es i a h)

pub remove_length : (es : List Element) (i : ℕ) (e : Element) → HasAt es i e → suc (length (remove es i)) ≡ length es
remove_length [] i e h = absurd h
remove_length (f ∷ es) zero e h = refl
remove_length (f ∷ es) (suc i) e h = ap suc (remove_length es i e h)

pub load_all_agrees : (es : List Element) (m l : List ℕ) (v : List (List ℕ)) → ((a : ℕ) → AnyCovers es a → get_or m a 0 ≡ get_or l a 0) → load_all es m v ≡ load_all es l v
load_all_agrees [] m l v h = refl
load_all_agrees (e ∷ es) m l v h =
    ap (λ x. load_all es m x) (load_agrees e m l v (λ a c. h a (inl c))) ∙ load_all_agrees es m l (load_element e l v) (λ a c. h a (inr c))

pub store_all_length : (es : List Element) (v : List (List ℕ)) (m : List ℕ) → length (store_all es v m) ≡ length m
store_all_length [] v m = refl
store_all_length (e ∷ es) v m = store_all_length es v (store_element e v m) ∙ store_length e v m

pub store_all_elsewhere : (es : List Element) (v : List (List ℕ)) (m : List ℕ) (a : ℕ) → (AnyCovers es a → ⊥) → get_or (store_all es v m) a 0 ≡ get_or m a 0
store_all_elsewhere [] v m a n = refl
store_all_elsewhere (e ∷ es) v m a n =
    store_all_elsewhere es v (store_element e v m) a (λ c. n (inr c)) ∙ store_elsewhere e v m a (λ c. n (inl c))

pub store_all_keeps : (es : List Element) (v : List (List ℕ)) (m n : List ℕ) (a : ℕ) → length m ≡ length n → get_or m a 0 ≡ get_or n a 0
    → get_or (store_all es v m) a 0 ≡ get_or (store_all es v n) a 0
store_all_keeps [] v m n a l h = h
store_all_keeps (e ∷ es) v m n a l h =
    store_all_keeps es v (store_element e v m) (store_element e v n) a (store_length e v m ∙ l ∙ sym (store_length e v n)) (store_keeps e v m n a l h)

-- ---- the elements of a transfer are apart

some_bytes : (b c : Bool) → 0 < (if b then 4 else (if c then 2 else 1))
some_bytes true c = omega arith
some_bytes false true = omega arith
some_bytes false false = omega arith

two_apart : (at : ℕ) (t : Piece) (i j : ℕ) → i < j → AreTwo (element_at at t i) (element_at at t j)
two_apart at t i j lt =
    let m : size_of t.mode * suc i ≤ size_of t.mode * j = mul-le-mul_left (size_of t.mode) lt in
    record { words = inr (λ e. omega arith); bytes = inl (omega arith) }

from_apart : (at : ℕ) (t : Piece) (i j n : ℕ) → i < j → ApartFrom (element_at at t i) (map (element_at at t) (range_with_len j n))
from_apart at t i j zero lt = tt
from_apart at t i j (suc n) lt = (two_apart at t i j lt, from_apart at t i (j + 1) n (omega arith))

all_apart : (at : ℕ) (t : Piece) (j n : ℕ) → AreApartAll (map (element_at at t) (range_with_len j n))
all_apart at t j zero = tt
all_apart at t j (suc n) = (from_apart at t j (j + 1) n (omega arith), all_apart at t (j + 1) n)

pub elements_apart : (at : ℕ) (t : Piece) → AreApartAll (elements_of at t)
unfolding elements_of
elements_apart at t = all_apart at t 0 t.len
