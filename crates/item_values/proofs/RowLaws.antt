-- Rows of bytes and of elements, read past their end and written.
use Rattle.std.proofs.Common.{◌≡◌, ℕ, zero, suc, ◌+◌, ◌-◌, ◌*◌, ◌/◌, ◌%◌, ◌^◌, ◌<◌, ◌≤◌, List, [], ◌∷◌, ◌++◌, length, get_or, set, replicate, Option, Some, None, refl, sym, ap, ◌∙◌, subst, arith, length-set}
use Rattle.std.specs.Prelude.{slice_get}
use Rattle.item_meaning.specs.Places.{buffer_of, with_byte, with_bytes}

pub none_default : {A : Type 0} (xs : List A) (i : ℕ) (d : A) → slice_get xs i ≡ None → get_or xs i d ≡ d
none_default [] i d h = refl
none_default (x ∷ xs) zero d h = absurd (cc)
none_default (x ∷ xs) (suc i) d h = none_default xs i d h

pub some_default : {A : Type 0} (xs : List A) (i : ℕ) (d x : A) → slice_get xs i ≡ Some x → get_or xs i d ≡ x
some_default [] i d x h = absurd (cc)
some_default (y ∷ xs) zero d x h = cc
some_default (y ∷ xs) (suc i) d x h = some_default xs i d x h

-- a row that is changed keeps the lengths of all
pub length_kept : (rows : List (List ℕ)) (k : ℕ) (row : List ℕ) (j : ℕ) → length row ≡ length (get_or rows k []) → length (get_or (set rows k row) j []) ≡ length (get_or rows j [])
length_kept [] k row j e = refl
length_kept (r ∷ rs) zero row zero e = e
length_kept (r ∷ rs) zero row (suc j) e = refl
length_kept (r ∷ rs) (suc k) row zero e = refl
length_kept (r ∷ rs) (suc k) row (suc j) e = length_kept rs k row j e

pub bytes_kept : (rows : List (List ℕ)) (k o b : ℕ) → length (buffer_of (with_byte rows k o b) k) ≡ length (buffer_of rows k)
bytes_kept rows k o b = length_kept rows k (set (get_or rows k []) o b) k (length-set (get_or rows k []) o b)

pub one_more_byte : (n : ℕ) (rows : List (List ℕ)) (k o x : ℕ) → 0 < n → with_bytes (n - 1) (with_byte rows k o (x % 2 ^ 8)) k (o + 1) (x / 2 ^ 8) ≡ with_bytes n rows k o x
one_more_byte zero rows k o x h = absurd (omega arith)
one_more_byte (suc n) rows k o x h =
    let e : suc n - 1 ≡ n = omega arith in
    let f : o + 1 ≡ suc o = omega arith in
    ap (λ m. with_bytes m (with_byte rows k o (x % 2 ^ 8)) k (o + 1) (x / 2 ^ 8)) e
    ∙ ap (λ p. with_bytes n (with_byte rows k o (x % 2 ^ 8)) k p (x / 2 ^ 8)) f

pub no_more_bytes : (n : ℕ) (rows : List (List ℕ)) (k o x : ℕ) → n ≡ 0 → with_bytes n rows k o x ≡ rows
no_more_bytes n rows k o x h = ap (λ m. with_bytes m rows k o x) h

-- replicate at its end
pub replicate-push : {A : Type 0} (n : ℕ) (x : A) → replicate n x ++ x ∷ [] ≡ replicate (suc n) x
replicate-push zero x = refl
replicate-push (suc n) x = ap (λ xs. x ∷ xs) (replicate-push n x)
