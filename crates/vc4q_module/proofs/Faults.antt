-- Bytes have no fault exactly where they are a module's.
use Rattle.std.proofs.Common.{◌≡◌, ◌≤◌, ◌<◌, ℕ, zero, suc, ◌+◌, ◌-◌, ◌*◌, ◌&&◌, Bool, true, false, not, nat_le, nat_lt, ◌==◌, List, [], ◌∷◌, ◌++◌, All, length, take, drop, map, replicate, codes, Option, Some, None, refl, sym, ap, ◌∙◌, arith, take-append-drop}
use Rattle.std.proofs.lemmas.Bool.{leb-true}
use Rattle.std.proofs.lemmas.Bool.Decides.{nat_tests}
use Rattle.std.proofs.lemmas.List.{length-map, length-drop, length-take-le, drop-drop, take-take}
use Rattle.std.proofs.lemmas.Slice.Eq.{bytes_eq-Decides}
use Rattle.std.specs.Str.{bytes_eq}
use Rattle.q_lane.specs.declared.kinds.Kind.{Kind}
use Rattle.q_lane.specs.declared.kinds.Kind.TheVariants.{Value, Pointer}
use Rattle.q_lane.specs.declared.kinds.Scalar.TheVariants.{Char, Uchar, Short, Ushort, Int, Uint}
use Rattle.vc4q_module.specs.ModuleBytes.{ModuleOf, IsModule, module_bytes, module_in, le32, kind_byte, kind_bytes, kind_of, number_at, words_in, fails_at, or_later, kind_fault, due_length, first_fault}
use Rattle.vc4q_module.proofs.Numbers.{AreBytes, AreBytes-drop, AreBytes-All, number_section, length-words_in, words_in-lt, flat_map-words_in}
use Rattle.vc4q_module.proofs.ModuleLaws.{take_kinds, letters_of, version_of, rows_of, count_of, parameters_of, zero_of, length_of}

-- ---- tests

-- what it says of some bytes that no test fails
pub record IsRight (bytes : List ℕ) : Type 0 where
  pub long : 40 ≤ length bytes
  pub letters : take 4 bytes ≡ codes "VC4Q"
  pub version : number_at 4 bytes ≡ 1
  pub few_rows : number_at 8 bytes ≤ 262144
  pub some_words : 1 ≤ number_at 12 bytes
  pub few_words : number_at 12 bytes ≤ 16777216
  pub few_kinds : number_at 16 bytes ≤ 16
  pub kinds : kind_fault (number_at 16 bytes) 20 (take 16 (drop 20 bytes)) ≡ None
  pub zero : number_at 36 bytes ≡ 0
  pub exact : length bytes ≡ 40 + 8 * number_at 12 bytes

passed : (b : Bool) (place : ℕ) (later : Option ℕ) → fails_at b place later ≡ None → (b ≡ false) × (later ≡ None)
passed true place later e = cc
passed false place later e = (refl, e)

both_none : (first later : Option ℕ) → or_later first later ≡ None → (first ≡ None) × (later ≡ None)
both_none None later e = (refl, e)
both_none (Some place) later e = cc

true_if_not : (b : Bool) → not b ≡ false → b ≡ true
true_if_not true e = refl
true_if_not false e = cc

ge_from_lt : (a b : ℕ) → nat_lt a b ≡ false → b ≤ a
ge_from_lt a b e = grind (arith, nat_tests)

same_from_eq : (a b : ℕ) → not (a == b) ≡ false → a ≡ b
same_from_eq a b e = grind (arith, nat_tests)

le_from_test : (a b : ℕ) → not (nat_le a b) ≡ false → a ≤ b
le_from_test a b e = leb-true a b (true_if_not (nat_le a b) e)

between_from_test : (a n b : ℕ) → not (nat_le a n && nat_le n b) ≡ false → (a ≤ n) × (n ≤ b)
between_from_test a n b e = (grind (arith, nat_tests), grind (arith, nat_tests))

-- bytes without a fault pass each test
pub right_from_none : (bytes : List ℕ) → first_fault bytes ≡ None → IsRight bytes
unfolding first_fault
right_from_none bytes h =
    let a = passed (nat_lt (length bytes) 40) (length bytes) _ h in
    let b = passed (not (bytes_eq (take 4 bytes) (codes "VC4Q"))) 0 _ a.1 in
    let c = passed (not (number_at 4 bytes == 1)) 4 _ b.1 in
    let d = passed (not (nat_le (number_at 8 bytes) 262144)) 8 _ c.1 in
    let e = passed (not (nat_le 1 (number_at 12 bytes) && nat_le (number_at 12 bytes) 16777216)) 12 _ d.1 in
    let f = passed (not (nat_le (number_at 16 bytes) 16)) 16 _ e.1 in
    let k = both_none (kind_fault (number_at 16 bytes) 20 (take 16 (drop 20 bytes))) _ f.1 in
    let z = passed (not (number_at 36 bytes == 0)) 36 _ k.1 in
    let l = passed (not (length bytes == due_length bytes)) _ None z.1 in
    record {
      long = ge_from_lt (length bytes) 40 a.0;
      letters = (bytes_eq-Decides (take 4 bytes) (codes "VC4Q")).0 (true_if_not _ b.0);
      version = same_from_eq (number_at 4 bytes) 1 c.0;
      few_rows = le_from_test (number_at 8 bytes) 262144 d.0;
      some_words = (between_from_test 1 (number_at 12 bytes) 16777216 e.0).0;
      few_words = (between_from_test 1 (number_at 12 bytes) 16777216 e.0).1;
      few_kinds = le_from_test (number_at 16 bytes) 16 f.0;
      kinds = k.0;
      zero = same_from_eq (number_at 36 bytes) 0 z.0;
      exact = same_from_eq (length bytes) (due_length bytes) l.0;
    }

-- a test that passes goes on to the later ones
goes_on : (b : Bool) (place : ℕ) (later : Option ℕ) → b ≡ false → later ≡ None → fails_at b place later ≡ None
goes_on true place later e k = cc
goes_on false place later e k = k

none_then : (first later : Option ℕ) → first ≡ None → later ≡ None → or_later first later ≡ None
none_then None later e k = k
none_then (Some place) later e k = cc

-- and the other way round
pub none_from_right : (bytes : List ℕ) → IsRight bytes → first_fault bytes ≡ None
unfolding first_fault
none_from_right bytes h =
    let long = h.long in
    let letters = (bytes_eq-Decides (take 4 bytes) (codes "VC4Q")).1 h.letters in
    let version = h.version in
    let few_rows = h.few_rows in
    let some_words = h.some_words in
    let few_words = h.few_words in
    let few_kinds = h.few_kinds in
    let zero = h.zero in
    let exact = h.exact in
    goes_on (nat_lt (length bytes) 40) _ _ (grind (arith, nat_tests))
    (goes_on (not (bytes_eq (take 4 bytes) (codes "VC4Q"))) 0 _ (ap not letters)
    (goes_on (not (number_at 4 bytes == 1)) 4 _ (grind (arith, nat_tests))
    (goes_on (not (nat_le (number_at 8 bytes) 262144)) 8 _ (grind (arith, nat_tests))
    (goes_on (not (nat_le 1 (number_at 12 bytes) && nat_le (number_at 12 bytes) 16777216)) 12 _ (grind (arith, nat_tests))
    (goes_on (not (nat_le (number_at 16 bytes) 16)) 16 _ (grind (arith, nat_tests))
    (none_then (kind_fault (number_at 16 bytes) 20 (take 16 (drop 20 bytes))) _ h.kinds
    (goes_on (not (number_at 36 bytes == 0)) 36 _ (grind (arith, nat_tests))
    (goes_on (not (length bytes == due_length bytes)) _ None (grind (arith, nat_tests)) refl))))))))

-- ---- kinds

kind_byte-lt : (k : Kind) → nat_lt (kind_byte k) 7 ≡ true
kind_byte-lt (Value Char) = refl
kind_byte-lt (Value Uchar) = refl
kind_byte-lt (Value Short) = refl
kind_byte-lt (Value Ushort) = refl
kind_byte-lt (Value Int) = refl
kind_byte-lt (Value Uint) = refl
kind_byte-lt Pointer = refl

no_kinds_pass : (n place : ℕ) → kind_fault 0 place (replicate n 255) ≡ None
unfolding kind_fault
no_kinds_pass zero place = refl
no_kinds_pass (suc n) place = no_kinds_pass n (place + 1)

kinds_pass : (kinds : List Kind) (n place : ℕ) → kind_fault (length kinds) place (map kind_byte kinds ++ replicate n 255) ≡ None
unfolding kind_fault
kinds_pass [] n place = no_kinds_pass n place
kinds_pass (k ∷ ks) n place =
    let less : suc (length ks) - 1 ≡ length ks = omega arith in
    let rest = ap (λ (left : ℕ). kind_fault left (place + 1) (map kind_byte ks ++ replicate n 255)) less ∙ kinds_pass ks n (place + 1) in
    goes_on (not (nat_lt (kind_byte k) 7)) place _ (ap not (kind_byte-lt k)) rest

-- a byte below 7 is that of its kind
kind_again : (b : ℕ) → b < 7 → kind_byte (kind_of b) ≡ b
kind_again zero h = refl
kind_again (suc zero) h = refl
kind_again (suc (suc zero)) h = refl
kind_again (suc (suc (suc zero))) h = refl
kind_again (suc (suc (suc (suc zero)))) h = refl
kind_again (suc (suc (suc (suc (suc zero))))) h = refl
kind_again (suc (suc (suc (suc (suc (suc zero)))))) h = refl
kind_again (suc (suc (suc (suc (suc (suc (suc b))))))) h = absurd (omega arith)

-- right kind bytes are those of the kinds in them, and 255
kinds_back : (bytes : List ℕ) (left place : ℕ) → kind_fault left place bytes ≡ None → left ≤ length bytes → bytes ≡ map kind_byte (map kind_of (take left bytes)) ++ replicate (length bytes - left) 255
unfolding kind_fault
kinds_back [] zero place h few = refl
kinds_back [] (suc left) place h few = absurd (omega arith)
kinds_back (b ∷ bs) zero place h few =
    let here = passed (not (b == 255)) place _ h in
    let is : b ≡ 255 = same_from_eq b 255 here.0 in
    let same : length bs - 0 ≡ length bs = omega arith in
    let all : suc (length bs) - 0 ≡ suc (length bs) = omega arith in
    let rest = kinds_back bs zero (place + 1) here.1 (omega arith) ∙ ap (λ (n : ℕ). replicate n 255) same in
    ap (λ (x : ℕ). x ∷ bs) is ∙ ap (λ (xs : List ℕ). 255 ∷ xs) rest ∙ ap (λ (n : ℕ). replicate n 255) (sym all)
kinds_back (b ∷ bs) (suc left) place h few =
    let here = passed (not (nat_lt b 7)) place _ h in
    let small : b < 7 = grind (arith, nat_tests, here.0) in
    let less : suc left - 1 ≡ left = omega arith in
    let fewer : suc (length bs) - suc left ≡ length bs - left = omega arith in
    let later = ap (λ (n : ℕ). kind_fault n (place + 1) bs) (sym less) ∙ here.1 in
    let rest = kinds_back bs left (place + 1) later (omega arith) in
    ap (λ (x : ℕ). x ∷ bs) (sym (kind_again b small)) ∙ ap (λ (xs : List ℕ). kind_byte (kind_of b) ∷ xs) rest
    ∙ ap (λ (n : ℕ). kind_byte (kind_of b) ∷ (map kind_byte (map kind_of (take left bs)) ++ replicate n 255)) (sym fewer)

-- ---- a module's bytes have no fault

kinds_of_module : (m : ModuleOf) → IsModule m → kind_fault (number_at 16 (module_bytes m)) 20 (take 16 (drop 20 (module_bytes m))) ≡ None
kinds_of_module m h =
    ap (λ (n : ℕ). kind_fault n 20 (take 16 (drop 20 (module_bytes m)))) (parameters_of m h)
    ∙ ap (kind_fault (length m.kinds) 20) (take_kinds m h)
    ∙ kinds_pass m.kinds (16 - length m.kinds) 20

module_right : (m : ModuleOf) → IsModule m → IsRight (module_bytes m)
module_right m h =
    let words = h.some_words in
    let few = h.few_words in
    let length = length_of m h in
    let count = count_of m h in
    let parameters = parameters_of m h in
    let rows = rows_of m h in
    let few_rows = h.few_rows in
    let few_kinds = h.few_kinds in
    record {
      long = omega arith;
      letters = letters_of m;
      version = version_of m;
      few_rows = omega arith;
      some_words = omega arith;
      few_words = omega arith;
      few_kinds = omega arith;
      kinds = kinds_of_module m h;
      zero = zero_of m h;
      exact = omega arith;
    }

pub spellings_pass : (m : ModuleOf) → IsModule m → first_fault (module_bytes m) ≡ None
spellings_pass m h = none_from_right (module_bytes m) (module_right m h)

-- ---- bytes without a fault are a module's

joined : (whole front rest front' rest' : List ℕ) → whole ≡ front ++ rest → front ≡ front' → rest ≡ rest' → whole ≡ front' ++ rest'
joined whole front rest front' rest' a b c = cc

-- the kind bytes are those of the kinds in them
kinds_section : (bytes : List ℕ) → IsRight bytes → take 16 (drop 20 bytes) ≡ kind_bytes (map kind_of (take (number_at 16 bytes) (drop 20 bytes)))
kinds_section bytes h =
    let few = h.few_kinds in
    let long = h.long in
    let p = number_at 16 bytes in
    let sixteen : length (take 16 (drop 20 bytes)) ≡ 16 = length-take-le 16 (drop 20 bytes) (omega (arith, length-drop 20 bytes)) in
    let same : take p (take 16 (drop 20 bytes)) ≡ take p (drop 20 bytes) = take-take p 16 (drop 20 bytes) few in
    let count : length (map kind_of (take p (drop 20 bytes))) ≡ p =
    length-map (take p (drop 20 bytes)) kind_of ∙ length-take-le p (drop 20 bytes) (omega (arith, length-drop 20 bytes)) in
    let left : length (take 16 (drop 20 bytes)) - p ≡ 16 - length (map kind_of (take p (drop 20 bytes))) = omega arith in
    kinds_back (take 16 (drop 20 bytes)) p 20 h.kinds (omega arith)
    ∙ ap (λ (xs : List ℕ). map kind_byte (map kind_of xs) ++ replicate (length (take 16 (drop 20 bytes)) - p) 255) same
    ∙ ap (λ (n : ℕ). map kind_byte (map kind_of (take p (drop 20 bytes))) ++ replicate n 255) left

length-words_after : (bytes : List ℕ) → IsRight bytes → length (drop 40 bytes) ≡ 8 * number_at 12 bytes
length-words_after bytes h = let exact = h.exact in omega (arith, length-drop 40 bytes)

pub limits_of : (bytes : List ℕ) → AreBytes bytes → IsRight bytes → IsModule (module_in bytes)
unfolding module_in
limits_of bytes small h =
    let count : length (words_in (number_at 12 bytes) (drop 40 bytes)) ≡ number_at 12 bytes = length-words_in (number_at 12 bytes) (drop 40 bytes) in
    let long = h.long in
    let few = h.few_kinds in
    let some_words = h.some_words in
    let few_words = h.few_words in
    record {
      few_rows = h.few_rows;
      few_kinds = omega (arith, length-map (take (number_at 16 bytes) (drop 20 bytes)) kind_of, length-take-le (number_at 16 bytes) (drop 20 bytes) (omega (arith, length-drop 20 bytes)));
      some_words = omega arith;
      few_words = omega arith;
      fits = words_in-lt (number_at 12 bytes) (drop 40 bytes) (AreBytes-drop 40 bytes small);
    }

pub spelling_of : (bytes : List ℕ) → AreBytes bytes → IsRight bytes → bytes ≡ module_bytes (module_in bytes)
unfolding module_bytes module_in
spelling_of bytes small h =
    let long = h.long in
    let kinds = map kind_of (take (number_at 16 bytes) (drop 20 bytes)) in
    let words = words_in (number_at 12 bytes) (drop 40 bytes) in
    let number = λ (place : ℕ) (fits : place + 4 ≤ length bytes). number_section place bytes fits small in
    let word_count : number_at 12 bytes ≡ length words = sym (length-words_in (number_at 12 bytes) (drop 40 bytes)) in
    let kind_count : number_at 16 bytes ≡ length kinds =
    sym (length-map (take (number_at 16 bytes) (drop 20 bytes)) kind_of ∙ length-take-le (number_at 16 bytes) (drop 20 bytes) (let few = h.few_kinds in omega (arith, length-drop 20 bytes))) in
    let code = sym (flat_map-words_in (number_at 12 bytes) (drop 40 bytes) (length-words_after bytes h) (AreBytes-drop 40 bytes small)) in
    let from_36 = joined _ _ _ _ _ (number 36 (omega arith)) (ap le32 h.zero) code in
    let split : drop 20 bytes ≡ take 16 (drop 20 bytes) ++ drop 36 bytes =
    sym (take-append-drop 16 (drop 20 bytes)) ∙ ap (λ (xs : List ℕ). take 16 (drop 20 bytes) ++ xs) (drop-drop 16 20 bytes) in
    let from_20 = joined _ _ _ _ _ split (kinds_section bytes h) from_36 in
    let from_16 = joined _ _ _ _ _ (number 16 (omega arith)) (ap le32 kind_count) from_20 in
    let from_12 = joined _ _ _ _ _ (number 12 (omega arith)) (ap le32 word_count) from_16 in
    let from_8 = joined _ (le32 (number_at 8 bytes)) _ (le32 (number_at 8 bytes)) _ (number 8 (omega arith)) refl from_12 in
    let from_4 = joined _ _ _ _ _ (number 4 (omega arith)) (ap le32 h.version) from_8 in
    joined _ _ _ _ _ (sym (take-append-drop 4 bytes)) h.letters from_4

pub passing_spells : (bytes : List ℕ) → All (λ b. b < 256) bytes → first_fault bytes ≡ None → (m : ModuleOf) × (IsModule m × (bytes ≡ module_bytes m))
passing_spells bytes h e =
    let small = AreBytes-All bytes h in
    let right = right_from_none bytes e in
    (module_in bytes, (limits_of bytes small right, spelling_of bytes small right))
