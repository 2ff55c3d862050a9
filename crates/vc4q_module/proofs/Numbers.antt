-- Numbers and their bytes, both ways, and words one after the other.
use Rattle.std.proofs.Common.{◌≡◌, ◌≤◌, ◌<◌, ℕ, zero, suc, ◌+◌, ◌*◌, ◌^◌, List, [], ◌∷◌, ◌++◌, All, length, take, drop, get_or, inl, inr, refl, sym, ap, subst, ◌∙◌, arith, add-one, take-append-drop}
use Rattle.std.proofs.lemmas.Bool.{cases_lt}
use Rattle.std.proofs.lemmas.List.{nil_from_length, length-take-le, length-take, length-drop, get_or-drop, get_or-take, get_or_past, drop-drop}
use Rattle.std.proofs.lemmas.List.Elements.{All-nil, All-cons}
use Rattle.std.proofs.lemmas.Nat.{le_bytes_4, le_bytes_8}
use Rattle.std.specs.Int.{w32, w64, from_le_bytes}
use Rattle.std.specs.List.{flat_map}
use Rattle.byteorder.specs.Endian.{little_number}
use Rattle.byteorder.specs.Numbers.{little_from-lt, little_number-reads_back}
use Rattle.vc4q_module.specs.ModuleBytes.{le32, le64, number_at, words_in}

-- each of these numbers is a byte, also past the end, where 0 is read
abbrev pub AreBytes : List ℕ → Type 0
AreBytes bytes = (i : ℕ) → get_or bytes i 0 < 256

pub AreBytes-All : (bytes : List ℕ) → All (λ b. b < 256) bytes → AreBytes bytes
AreBytes-All bytes h i =
    elim (cases_lt i (length bytes)) [
      | inl lt ↦ h i 0 lt
      | inr past ↦ subst (λ (b : ℕ). b < 256) (sym (get_or_past bytes i 0 past)) (omega arith)
    ]

pub AreBytes-drop : (n : ℕ) (bytes : List ℕ) → AreBytes bytes → AreBytes (drop n bytes)
AreBytes-drop n bytes h i = subst (λ (b : ℕ). b < 256) (sym (get_or-drop n bytes i 0)) (h (n + i))

AreBytes-take : (n : ℕ) (bytes : List ℕ) → AreBytes bytes → AreBytes (take n bytes)
AreBytes-take n bytes h i =
    elim (cases_lt i n) [
      | inl lt ↦ subst (λ (b : ℕ). b < 256) (sym (get_or-take n bytes i 0 lt)) (h i)
      | inr past ↦ subst (λ (b : ℕ). b < 256) (sym (get_or_past (take n bytes) i 0 (omega (arith, length-take n bytes)))) (omega arith)
    ]

-- ---- four and eight bytes

number_of_four : (bytes : List ℕ) → little_number 4 bytes ≡ from_le_bytes w32 (take 4 bytes)
number_of_four bytes =
    let a = get_or-take 4 bytes 0 0 (omega arith) in
    let b = get_or-take 4 bytes 1 0 (omega arith) in
    let c = get_or-take 4 bytes 2 0 (omega arith) in
    let d = get_or-take 4 bytes 3 0 (omega arith) in
    omega arith

number_of_eight : (bytes : List ℕ) → little_number 8 bytes ≡ from_le_bytes w64 (take 8 bytes)
number_of_eight bytes =
    let a = get_or-take 8 bytes 0 0 (omega arith) in
    let b = get_or-take 8 bytes 1 0 (omega arith) in
    let c = get_or-take 8 bytes 2 0 (omega arith) in
    let d = get_or-take 8 bytes 3 0 (omega arith) in
    let e = get_or-take 8 bytes 4 0 (omega arith) in
    let f = get_or-take 8 bytes 5 0 (omega arith) in
    let g = get_or-take 8 bytes 6 0 (omega arith) in
    let h = get_or-take 8 bytes 7 0 (omega arith) in
    omega arith

pub four_back : (bytes : List ℕ) → 4 ≤ length bytes → AreBytes bytes → le32 (little_number 4 bytes) ≡ take 4 bytes
four_back bytes long small =
    le_bytes_4 (take 4 bytes) (little_number 4 bytes) (length-take-le 4 bytes long) (AreBytes-take 4 bytes small) (number_of_four bytes)

pub eight_back : (bytes : List ℕ) → 8 ≤ length bytes → AreBytes bytes → le64 (little_number 8 bytes) ≡ take 8 bytes
eight_back bytes long small =
    le_bytes_8 (take 8 bytes) (little_number 8 bytes) (length-take-le 8 bytes long) (AreBytes-take 8 bytes small) (number_of_eight bytes)

-- the number at a place is its four bytes
pub number_section : (place : ℕ) (bytes : List ℕ) → place + 4 ≤ length bytes → AreBytes bytes → drop place bytes ≡ le32 (number_at place bytes) ++ drop (place + 4) bytes
unfolding number_at
number_section place bytes long small =
    let long_rest : 4 ≤ length (drop place bytes) = omega (arith, length-drop place bytes) in
    let front = four_back (drop place bytes) long_rest (AreBytes-drop place bytes small) in
    sym (take-append-drop 4 (drop place bytes))
    ∙ ap (λ (xs : List ℕ). xs ++ drop 4 (drop place bytes)) (sym front)
    ∙ ap (λ (xs : List ℕ). le32 (little_number 4 (drop place bytes)) ++ xs) (drop-drop 4 place bytes)

-- ---- words

pub length-words_in : (count : ℕ) (bytes : List ℕ) → length (words_in count bytes) ≡ count
unfolding words_in
length-words_in zero bytes = refl
length-words_in (suc count) bytes = let e = length-words_in count (drop 8 bytes) in omega (arith, e)

pub words_in-lt : (count : ℕ) (bytes : List ℕ) → AreBytes bytes → All (λ w. w < 2 ^ 64) (words_in count bytes)
unfolding words_in
words_in-lt zero bytes small = All-nil (λ w. w < 2 ^ 64)
words_in-lt (suc count) bytes small =
    All-cons (λ w. w < 2 ^ 64) _ _ (little_from-lt 0 8 bytes small) (words_in-lt count (drop 8 bytes) (AreBytes-drop 8 bytes small))

-- one more word read
words_in-suc : (count : ℕ) (bytes : List ℕ) → words_in (suc count) bytes ≡ words_in count bytes ++ little_number 8 (drop (8 * count) bytes) ∷ []
unfolding words_in
words_in-suc zero bytes = refl
words_in-suc (suc count) bytes =
    let next : 8 + 8 * count ≡ 8 * suc count = omega arith in
    let here : drop (8 * count) (drop 8 bytes) ≡ drop (8 * suc count) bytes = drop-drop (8 * count) 8 bytes ∙ ap (λ (n : ℕ). drop n bytes) next in
    ap (λ (ws : List ℕ). little_number 8 bytes ∷ ws) (words_in-suc count (drop 8 bytes)
    ∙ ap (λ (bs : List ℕ). words_in count (drop 8 bytes) ++ little_number 8 bs ∷ []) here)

pub words_in-more : (count : ℕ) (bytes : List ℕ) → words_in (count + 1) bytes ≡ words_in count bytes ++ little_number 8 (drop (8 * count) bytes) ∷ []
words_in-more count bytes = ap (λ (n : ℕ). words_in n bytes) (add-one count) ∙ words_in-suc count bytes

-- the words in some bytes spell them
pub flat_map-words_in : (count : ℕ) (bytes : List ℕ) → length bytes ≡ 8 * count → AreBytes bytes → flat_map le64 (words_in count bytes) ≡ bytes
unfolding words_in
flat_map-words_in zero bytes long small = sym (nil_from_length bytes (omega arith))
flat_map-words_in (suc count) bytes long small =
    let front = eight_back bytes (omega arith) small in
    let rest = flat_map-words_in count (drop 8 bytes) (omega (arith, length-drop 8 bytes)) (AreBytes-drop 8 bytes small) in
    ap (λ (first : List ℕ). first ++ flat_map le64 (words_in count (drop 8 bytes))) front
    ∙ ap (λ (last : List ℕ). take 8 bytes ++ last) rest
    ∙ take-append-drop 8 bytes

-- and words are those in their bytes
pub words_in-flat_map : (words : List ℕ) → All (λ w. w < 2 ^ 64) words → words_in (length words) (flat_map le64 words) ≡ words
unfolding words_in
words_in-flat_map [] h = refl
words_in-flat_map (w ∷ ws) h =
    let word : little_number 8 (le64 w ++ flat_map le64 ws) ≡ w = little_number-reads_back 8 w (flat_map le64 ws) (h 0 0 (omega arith)) in
    let rest : words_in (length ws) (flat_map le64 ws) ≡ ws = words_in-flat_map ws (λ k d lt. h (suc k) d (omega arith)) in
    ap (λ (x : ℕ). x ∷ words_in (length ws) (flat_map le64 ws)) word ∙ ap (λ (xs : List ℕ). w ∷ xs) rest

pub length-flat_map_le64 : (words : List ℕ) → length (flat_map le64 words) ≡ 8 * length words
length-flat_map_le64 [] = refl
length-flat_map_le64 (w ∷ ws) = let e = length-flat_map_le64 ws in omega (arith, e)
