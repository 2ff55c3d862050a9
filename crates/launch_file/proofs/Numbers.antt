-- Which texts are a number's, and that `parse` reads them.
use Rattle.std.proofs.Common.{zero, suc, ◌≡◌, ◌≢◌, ℕ, ◌^◌, ◌<◌, ◌≤◌, Bool, true, false, cond, ltb, List, length, get_or, Option, Some, None, Result, Ok, Err, sym, refl, ap, ◌∙◌, subst, arith, Decides, decimal}
use Rattle.std.specs.Prelude.{IfSome, IfNone, bytes_eq, ◌&&◌}
use Rattle.std.specs.Borrow.{Bor}
use Rattle.std.specs.Str.{IsUtf8}
use Rattle.std.specs.Result.{MatchResult, result_ok}
use Rattle.std.specs.Int.{IsInRange}
use Rattle.std.specs.Str.Parse.{digits_value, AllDigits, ParsesUnsigned}
use Rattle.launch_file.specs.Words.{IsPlain, number_of}
use Rattle.std.proofs.lemmas.Str.Parse.{IsNumeralModel, numerals_by_value, tells_digits, digit_at, parse_plain}
use Rattle.std.proofs.lemmas.Bool.Decides.{Decides-and, Decides-ltb}
use Rattle.std.proofs.lemmas.Slice.Eq.{bytes_eq-Decides}
use Rattle.std.proofs.lemmas.Str.{IsUtf8-from_ascii}
use Rattle.std.proofs.lemmas.Fmt.{digits_value-decimal, IsAscii-decimal, digits_decimal, decimal_nonempty, decimal_digit, first_decimal, decimal-digits_value, parse-decimal}

-- std's own words for digits and their number
pub own : IsNumeralModel (AllDigits 10) (digits_value 10)
own = numerals_by_value (AllDigits 10) tells_digits

-- a number's text begins with a digit, and with a zero only where that is all
decimal-first : (n : ℕ) → n < 2 ^ 64 → IsInRange 48 57 (get_or (decimal n) 0 0)
decimal-first n small = digit_at (decimal n) 0 (digits_decimal own n small) (decimal_nonempty n small)

decimal-short : (n : ℕ) → n < 2 ^ 64 → get_or (decimal n) 0 0 ≡ 48 → length (decimal n) ≤ 1
decimal-short zero small e = rw (decimal_digit 0 (omega arith)) (omega arith)
decimal-short (suc n) small e = absurd (omega (arith, first_decimal (suc n) (omega arith) small))

pub decimal-IsPlain : (n : ℕ) → n < 2 ^ 64 → IsPlain (decimal n)
decimal-IsPlain n small = (λ e. omega (arith, decimal-first n small), decimal-short n small)

-- a text that is not plain is that of no number
pub decimal-from_other : (text : List ℕ) → (IsPlain text → ⊥) → (n : ℕ) → n < 2 ^ 64 → text ≢ decimal n
decimal-from_other text other n small e = other (subst IsPlain (sym e) (decimal-IsPlain n small))

-- what `parse` reads of a plain text is the number with that text
pub parsed-decimal : {E : Type 0} (text : List ℕ) (r : Result ℕ E) → IsPlain text → ParsesUnsigned 64 10 text r → IfSome (result_ok r) (λ n. text ≡ decimal n)
parsed-decimal {E} text (Ok n) plain h =
    let parts = parse_plain own {E = E} 64 text (Ok n) h plain.0 in
    let small : digits_value 10 text < 2 ^ 64 = parts.0.2 in
    let same = decimal-digits_value own text parts.0.0 parts.0.1 (λ e. omega (arith, plain.1 e, parts.0.1)) small in
    sym (ap decimal parts.1 ∙ same)
parsed-decimal {E} text (Err e) plain h = tt

-- what `parse` refuses is no number's text
pub refused-decimal : {E : Type 0} (text : List ℕ) (r : Result ℕ E) → ParsesUnsigned 64 10 text r → IfNone (result_ok r) ((n : ℕ) → n < 2 ^ 64 → text ≢ decimal n)
refused-decimal text (Ok n) h = tt
refused-decimal {E} text (Err e) h = λ n small is. absurd (ok≢err n e (parse-decimal 64 n text (Err e) small small is h))
  where
    ok≢err : (n : ℕ) (e : E) → (Err e ≡ Ok n) → ⊥
    ok≢err n e p = cc

-- the test that `number_of` makes
test-Decides : (text : List ℕ) (n : ℕ) → Decides (ltb n (2 ^ 64) && bytes_eq text (decimal n)) ((n < 2 ^ 64) × (text ≡ decimal n))
test-Decides text n = Decides-and (ltb n (2 ^ 64)) (bytes_eq text (decimal n)) (Decides-ltb n (2 ^ 64)) (bytes_eq-Decides text (decimal n))

some_from_cond : (b : Bool) (m n : ℕ) → cond b (Some m) None ≡ Some n → (b ≡ true) × (m ≡ n)
some_from_cond true m n e = (refl, cc)
some_from_cond false m n e = absurd (cc)

-- a number that is read has this text, and 64 bits
pub number_of-some : (text : List ℕ) (n : ℕ) → number_of text ≡ Some n → (n < 2 ^ 64) × (text ≡ decimal n)
unfolding number_of
number_of-some text n e =
    let parts = some_from_cond _ (digits_value 10 text) n e in
    subst (λ (k : ℕ). (k < 2 ^ 64) × (text ≡ decimal k)) parts.1 ((test-Decides text (digits_value 10 text)).0 parts.0)

some_from_true : (b : Bool) (n : ℕ) → b ≡ true → cond b (Some n) None ≡ Some n
some_from_true true n e = refl
some_from_true false n e = absurd (cc)

-- and a number's text is read
pub number_of-decimal : (n : ℕ) → n < 2 ^ 64 → number_of (decimal n) ≡ Some n
unfolding number_of
number_of-decimal n small =
    rw (digits_value-decimal own n small) (some_from_true _ n ((test-Decides (decimal n) n).1 (small, refl)))

none_from_cond : (b : Bool) (n : ℕ) → (b ≡ true → ⊥) → cond b (Some n) None ≡ None
none_from_cond true n isnt = absurd (isnt refl)
none_from_cond false n isnt = refl

pub number_of-none : (text : List ℕ) → ((n : ℕ) → n < 2 ^ 64 → text ≢ decimal n) → number_of text ≡ None
unfolding number_of
number_of-none text refuses =
    none_from_cond _ (digits_value 10 text) (λ e. let parts = (test-Decides text (digits_value 10 text)).0 e in refuses (digits_value 10 text) parts.0 parts.1)

-- an answer that tells numbers from other texts is that of `number_of`
pub number_of-answer : (text : List ℕ) (r : Option ℕ) → IfSome r (λ n. n < 2 ^ 64) → IfSome r (λ n. text ≡ decimal n) → IfNone r ((n : ℕ) → n < 2 ^ 64 → text ≢ decimal n) → r ≡ number_of text
number_of-answer text (Some n) small e refuses = sym (ap number_of e ∙ number_of-decimal n small)
number_of-answer text None small e refuses = sym (number_of-none text refuses)

-- what std reads no text of is no number's
pub refused-text : {E : Type 0} (P : Bor (List ℕ) → Type 0) (Q : E → Type 0) (bytes : List ℕ) (r : Result (Bor (List ℕ)) E) → MatchResult r P (λ e. ¬ (IsUtf8 bytes) × Q e) → result_ok r ≡ None → (n : ℕ) → n < 2 ^ 64 → bytes ≢ decimal n
refused-text P Q bytes (Ok text) h none n small e = absurd (some≢none text none)
  where
    some≢none : (x : Bor (List ℕ)) → Some x ≡ None → ⊥
    some≢none x p = cc
refused-text P Q bytes (Err f) h none n small e = h.0 (subst IsUtf8 (sym e) (IsUtf8-from_ascii (decimal n) (IsAscii-decimal n small)))
