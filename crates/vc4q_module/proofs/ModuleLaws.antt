-- A module and its bytes, both ways.
use Rattle.std.proofs.Common.{◌≡◌, ◌≤◌, ℕ, ◌+◌, ◌-◌, ◌*◌, List, [], ◌∷◌, ◌++◌, length, take, drop, map, replicate, codes, refl, sym, ap, ◌∙◌, arith, append_assoc}
use Rattle.std.proofs.Math.Seq.{take-append_seam, drop-append_seam}
use Rattle.std.proofs.lemmas.List.{length-append, length-map, length-replicate, drop-drop}
use Rattle.std.specs.List.{flat_map}
use Rattle.byteorder.specs.Endian.{little_number}
use Rattle.byteorder.specs.Numbers.{little_number-reads_back}
use Rattle.q_lane.specs.declared.kinds.Kind.{Kind}
use Rattle.q_lane.specs.declared.kinds.Kind.TheVariants.{Value, Pointer}
use Rattle.q_lane.specs.declared.kinds.Scalar.TheVariants.{Char, Uchar, Short, Ushort, Int, Uint}
use Rattle.vc4q_module.specs.ModuleBytes.{ModuleOf, IsModule, module_bytes, module_in, le32, le64, kind_byte, kind_bytes, kind_of, number_at, words_in}
use Rattle.vc4q_module.proofs.Numbers.{words_in-flat_map, length-flat_map_le64}

-- ---- kinds

pub kind_of-kind_byte : (k : Kind) → kind_of (kind_byte k) ≡ k
kind_of-kind_byte (Value Char) = refl
kind_of-kind_byte (Value Uchar) = refl
kind_of-kind_byte (Value Short) = refl
kind_of-kind_byte (Value Ushort) = refl
kind_of-kind_byte (Value Int) = refl
kind_of-kind_byte (Value Uint) = refl
kind_of-kind_byte Pointer = refl

pub kinds_again : (kinds : List Kind) → map kind_of (map kind_byte kinds) ≡ kinds
kinds_again [] = refl
kinds_again (k ∷ ks) = ap (λ (x : Kind). x ∷ map kind_of (map kind_byte ks)) (kind_of-kind_byte k) ∙ ap (λ (xs : List Kind). k ∷ xs) (kinds_again ks)

pub length-kind_bytes : (kinds : List Kind) → length kinds ≤ 16 → length (kind_bytes kinds) ≡ 16
length-kind_bytes kinds few =
    omega (arith, length-append (map kind_byte kinds) (replicate (16 - length kinds) 255), length-map kinds kind_byte, length-replicate {A = ℕ} (16 - length kinds) 255)

-- ---- what stands at the places of a module's bytes

-- the bytes after the kinds
abbrev rest_of : ModuleOf → List ℕ
rest_of m = le32 0 ++ flat_map le64 m.words

pub drop_20 : (m : ModuleOf) → drop 20 (module_bytes m) ≡ kind_bytes m.kinds ++ (le32 0 ++ flat_map le64 m.words)
unfolding module_bytes
drop_20 m = refl

pub take_kinds : (m : ModuleOf) → IsModule m → take 16 (drop 20 (module_bytes m)) ≡ kind_bytes m.kinds
take_kinds m h =
    let n : length (kind_bytes m.kinds) ≡ 16 = length-kind_bytes m.kinds h.few_kinds in
    ap (take 16) (drop_20 m)
    ∙ ap (λ (k : ℕ). take k (kind_bytes m.kinds ++ rest_of m)) (sym n)
    ∙ take-append_seam (kind_bytes m.kinds) (rest_of m)

pub drop_36 : (m : ModuleOf) → IsModule m → drop 36 (module_bytes m) ≡ le32 0 ++ flat_map le64 m.words
drop_36 m h =
    let n : length (kind_bytes m.kinds) ≡ 16 = length-kind_bytes m.kinds h.few_kinds in
    sym (drop-drop 16 20 (module_bytes m))
    ∙ ap (drop 16) (drop_20 m)
    ∙ ap (λ (k : ℕ). drop k (kind_bytes m.kinds ++ rest_of m)) (sym n)
    ∙ drop-append_seam (kind_bytes m.kinds) (rest_of m)

pub drop_40 : (m : ModuleOf) → IsModule m → drop 40 (module_bytes m) ≡ flat_map le64 m.words
drop_40 m h = sym (drop-drop 4 36 (module_bytes m)) ∙ ap (drop 4) (drop_36 m h)

pub letters_of : (m : ModuleOf) → take 4 (module_bytes m) ≡ codes "VC4Q"
unfolding module_bytes
letters_of m = refl

pub version_of : (m : ModuleOf) → number_at 4 (module_bytes m) ≡ 1
unfolding module_bytes number_at
version_of m = refl

pub rows_of : (m : ModuleOf) → IsModule m → number_at 8 (module_bytes m) ≡ m.rows
unfolding module_bytes number_at
rows_of m h = little_number-reads_back 4 m.rows (drop 12 (module_bytes m)) (let few = h.few_rows in omega arith)

pub count_of : (m : ModuleOf) → IsModule m → number_at 12 (module_bytes m) ≡ length m.words
unfolding module_bytes number_at
count_of m h = little_number-reads_back 4 (length m.words) (drop 16 (module_bytes m)) (let few = h.few_words in omega arith)

pub parameters_of : (m : ModuleOf) → IsModule m → number_at 16 (module_bytes m) ≡ length m.kinds
unfolding module_bytes number_at
parameters_of m h = little_number-reads_back 4 (length m.kinds) (drop 20 (module_bytes m)) (let few = h.few_kinds in omega arith)

pub zero_of : (m : ModuleOf) → IsModule m → number_at 36 (module_bytes m) ≡ 0
unfolding number_at
zero_of m h = ap (little_number 4) (drop_36 m h)

pub length_of : (m : ModuleOf) → IsModule m → length (module_bytes m) ≡ 40 + 8 * length m.words
unfolding module_bytes
length_of m h =
    omega (arith, length-append (kind_bytes m.kinds) (rest_of m), length-kind_bytes m.kinds h.few_kinds, length-flat_map_le64 m.words)

-- ---- one spelling

kinds_of : (m : ModuleOf) → IsModule m → map kind_of (take (number_at 16 (module_bytes m)) (drop 20 (module_bytes m))) ≡ m.kinds
kinds_of m h =
    let count : number_at 16 (module_bytes m) ≡ length (map kind_byte m.kinds) = parameters_of m h ∙ sym (length-map m.kinds kind_byte) in
    let spread : drop 20 (module_bytes m) ≡ map kind_byte m.kinds ++ (replicate (16 - length m.kinds) 255 ++ rest_of m) =
    drop_20 m ∙ append_assoc (map kind_byte m.kinds) (replicate (16 - length m.kinds) 255) (rest_of m) in
    let front : take (number_at 16 (module_bytes m)) (drop 20 (module_bytes m)) ≡ map kind_byte m.kinds =
    ap (λ (k : ℕ). take k (drop 20 (module_bytes m))) count
    ∙ ap (take (length (map kind_byte m.kinds))) spread
    ∙ take-append_seam (map kind_byte m.kinds) (replicate (16 - length m.kinds) 255 ++ rest_of m) in
    ap (map kind_of) front ∙ kinds_again m.kinds

words_of : (m : ModuleOf) → IsModule m → words_in (number_at 12 (module_bytes m)) (drop 40 (module_bytes m)) ≡ m.words
words_of m h =
    ap (λ (n : ℕ). words_in n (drop 40 (module_bytes m))) (count_of m h)
    ∙ ap (words_in (length m.words)) (drop_40 m h)
    ∙ words_in-flat_map m.words h.fits

same_parts : (m n : ModuleOf) → m.rows ≡ n.rows → m.kinds ≡ n.kinds → m.words ≡ n.words → m ≡ n
same_parts m n a b c = λ i. record { rows = a i; kinds = b i; words = c i }

-- the module in a module's bytes is that module
pub module_in-bytes : (m : ModuleOf) → IsModule m → module_in (module_bytes m) ≡ m
unfolding module_in
module_in-bytes m h = same_parts (module_in (module_bytes m)) m (rows_of m h) (kinds_of m h) (words_of m h)

pub one_spelling : (m n : ModuleOf) → IsModule m → IsModule n → module_bytes m ≡ module_bytes n → m ≡ n
one_spelling m n h k e = sym (module_in-bytes m h) ∙ ap module_in e ∙ module_in-bytes n k
