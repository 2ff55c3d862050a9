-- The words that are read have the text of what is read.
use Rattle.std.proofs.Common.{zero, suc, ◌≡◌, ◌≢◌, ℕ, ◌≤◌, ◌<◌, ◌^◌, Bool, true, false, cond, List, [], ◌∷◌, ◌++◌, length, Option, Some, None, sym, refl, ap, ◌∙◌, subst, arith, Decides, decimal}
use Rattle.std.specs.Prelude.{ℤ, pos, negsuc, nat_abs, nat_le, not, ◌&&◌, slice_get, IfSome, option_map, option_and_then, bytes_eq}
use Rattle.std.specs.List.{list_all}
use Rattle.std.specs.Fmt.{signed_decimal}
use Rattle.std.proofs.lemmas.Option.{same_Some, none-some}
use Rattle.std.proofs.lemmas.Slice.Eq.{bytes_eq-Decides}
use Rattle.std.proofs.lemmas.Bool.Decides.{Decides-eqb}
use Rattle.std.proofs.lemmas.Bool.{leb-true}
use Rattle.launch_file.specs.Launches.{IsName}
use Rattle.launch_file.specs.Words.{number_of, negative, value_of, dash, is_name, name_of, file_of, file_text}
use Rattle.launch_file.proofs.Options.{said, nothing, mapped, pick}
use Rattle.launch_file.proofs.Numbers.{number_of-some}

-- the value has this text
IsValueOf : List ℕ → ℤ → Type 0
IsValueOf word value = (nat_abs value < 2 ^ 64) × (word ≡ signed_decimal value)

negative_says : (digits : List ℕ) (o : Option ℕ) → number_of digits ≡ o → (value : ℤ) → option_and_then negative o ≡ Some value → (nat_abs value < 2 ^ 64) × (45 ∷ digits ≡ signed_decimal value)
negative_says digits (Some zero) e value h = absurd (none-some value h)
negative_says digits (Some (suc n)) e value h =
    let num = number_of-some digits (suc n) e in
    said (λ (z : ℤ). (nat_abs z < 2 ^ 64) × (45 ∷ digits ≡ signed_decimal z)) (negsuc n) (num.0, ap (λ (xs : List ℕ). 45 ∷ xs) num.1) value h
negative_says digits None e value h = absurd (none-some value h)

pub value_of-some : (word : List ℕ) (value : ℤ) → value_of word ≡ Some value → (nat_abs value < 2 ^ 64) × (word ≡ signed_decimal value)
unfolding value_of
value_of-some [] value e = absurd (none-some value e)
value_of-some (byte ∷ digits) value e =
    let P = λ (z : ℤ). (nat_abs z < 2 ^ 64) × (byte ∷ digits ≡ signed_decimal z) in
    pick P _ _ _ (λ k z h. let s = negative_says digits (number_of digits) refl z h in (s.0, ap (λ (b : ℕ). b ∷ digits) ((Decides-eqb byte 45).0 k) ∙ s.1))
    (mapped P pos _ (λ n h. number_of-some (byte ∷ digits) n h)) value e

both_true : (a b : Bool) → (a && b) ≡ true → (a ≡ true) × (b ≡ true)
both_true true b e = (refl, e)
both_true false b e = absurd (cc)

all_true : (p : ℕ → Bool) (xs : List ℕ) → list_all p xs ≡ true → (i : ℕ) → IfSome (slice_get xs i) (λ x. p x ≡ true)
all_true p [] e i = tt
all_true p (x ∷ xs) e zero = (both_true (p x) _ e).0
all_true p (x ∷ xs) e (suc i) = all_true p xs (both_true (p x) _ e).1 i

printed : (xs : List ℕ) → list_all (λ byte. nat_le 33 byte && nat_le byte 126) xs ≡ true → (i : ℕ) → IfSome (slice_get xs i) (λ x. (33 ≤ x) × (x ≤ 126))
printed [] e i = tt
printed (x ∷ xs) e zero = let b = both_true (nat_le 33 x) (nat_le x 126) (both_true _ _ e).0 in (leb-true 33 x b.0, leb-true x 126 b.1)
printed (x ∷ xs) e (suc i) = printed xs (both_true _ _ e).1 i

not_both : (b : Bool) → not b ≡ true → b ≡ true → ⊥
not_both true e f = absurd (cc)
not_both false e f = absurd (cc)

pub is_name-true : (word : List ℕ) → is_name word ≡ true → IsName word
unfolding is_name
is_name-true word e =
    let a = both_true _ _ e in
    let b = both_true _ _ a.1 in
    let c = both_true _ _ b.1 in
    record {
      some = leb-true 1 (length word) a.0;
      short = leb-true (length word) 255 b.0;
      each = printed word c.0;
      names = λ same. not_both _ c.1 ((bytes_eq-Decides word dash).1 same);
    }

pub name_of-some : (word name : List ℕ) → name_of word ≡ Some name → (name ≡ word) × IsName name
unfolding name_of
name_of-some word name e =
    let P = λ (n : List ℕ). (n ≡ word) × IsName n in
    pick P _ _ _ (λ k. said P word (refl, is_name-true word k)) (nothing P) name e

pub file_of-some : (word : List ℕ) (file : Option (List ℕ)) → file_of word ≡ Some file → (file_text file ≡ word) × IfSome file IsName
unfolding file_of
file_of-some word file e =
    let P = λ (f : Option (List ℕ)). (file_text f ≡ word) × IfSome f IsName in
    pick P _ _ _ (λ k. said P None (sym ((bytes_eq-Decides word dash).0 k), tt)) (mapped P Some _ (λ n h. name_of-some word n h)) file e
