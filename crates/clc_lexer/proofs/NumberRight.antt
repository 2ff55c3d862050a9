-- Reading a number gives the number that its bytes spell, where there is one.
use Rattle.std.proofs.Common.{◌≡◌, ◌⊎◌, inl, inr, ℕ, suc, ◌^◌, ◌<◌, ◌≤◌, nat_lt, Bool, true, false, cond, ◌||◌, List, [], ◌∷◌, ◌++◌, Option, Some, None, refl, sym, ap, ◌∙◌, subst, arith, length, drop, eqb}
use Rattle.std.proofs.Math.Seq.{drop-append_seam}
use Rattle.std.proofs.lemmas.List.{take-append-drop}
use Rattle.std.proofs.lemmas.Bool.{ltb-true, lt-ltb, eqb-true, eq-eqb}
use Rattle.std.specs.Char.{digit_value}
use Rattle.std.specs.Str.Parse.{AllDigits, digits_value}
use Rattle.clc_lexer.specs.Numerals.{radix, HasDigits, IsSuffix, HasType, IsNumber}
use Rattle.clc_lexer.specs.Scanning.{starts_with}
use Rattle.clc_lexer.specs.Reading.{base_of, after_front, digits_of, suffix_of, has_enough, as_uint, wider, typed, read_digits, read_body, number_of}
use Rattle.clc_lexer.specs.declared.numbers.Base.{Base}
use Rattle.clc_lexer.specs.declared.numbers.Base.TheVariants.{Decimal, Octal, Hexadecimal}
use Rattle.clc_lexer.proofs.Digits.{digits_all, digits_taken}
use Rattle.clc_lexer.proofs.Fronts.{starts_is}

-- ---- what is spelled is read

-- the bytes go on with no digit of the radix
abbrev goes_on : ℕ → List ℕ → Bool
goes_on r [] = false
goes_on r (b ∷ bs) = nat_lt (digit_value b) r

suffix_ends : (base : Base) (suffixed : Bool) (suffix : List ℕ) → IsSuffix suffixed suffix → goes_on (radix base) suffix ≡ false
suffix_ends Decimal true suffix (inl e) = ap (goes_on 10) e
suffix_ends Decimal true suffix (inr e) = ap (goes_on 10) e
suffix_ends Octal true suffix (inl e) = ap (goes_on 8) e
suffix_ends Octal true suffix (inr e) = ap (goes_on 8) e
suffix_ends Hexadecimal true suffix (inl e) = ap (goes_on 16) e
suffix_ends Hexadecimal true suffix (inr e) = ap (goes_on 16) e
suffix_ends base false suffix e = ap (goes_on (radix base)) e

digits_read_end : (r b : ℕ) (bs : List ℕ) (v : Bool) → nat_lt (digit_value b) r ≡ v → v ≡ false → cond v (b ∷ digits_of r bs) [] ≡ []
digits_read_end r b bs true e h = absurd (cc)
digits_read_end r b bs false e h = refl

digits_read : (r : ℕ) (digits suffix : List ℕ) → AllDigits r digits → goes_on r suffix ≡ false → digits_of r (digits ++ suffix) ≡ digits
digits_read r [] [] h e = refl
digits_read r [] (b ∷ bs) h e = digits_read_end r b bs (nat_lt (digit_value b) r) refl e
digits_read r (d ∷ ds) suffix h e =
    ap (λ v. cond v (d ∷ digits_of r (ds ++ suffix)) []) (lt-ltb (digit_value d) r h.0) ∙ ap (λ z. d ∷ z) (digits_read r ds suffix h.1 e)

suffix_read : (suffixed : Bool) (suffix : List ℕ) → IsSuffix suffixed suffix → suffix_of suffix ≡ Some suffixed
suffix_read true suffix (inl e) = ap suffix_of e
suffix_read true suffix (inr e) = ap suffix_of e
suffix_read false suffix e = ap suffix_of e

digits_have : (base : Base) (front digits : List ℕ) → HasDigits base front digits → AllDigits (radix base) digits × (has_enough base digits ≡ true)
digits_have Decimal front [] h = absurd (omega (arith, h.1.0))
digits_have Decimal front (d ∷ ds) h = (h.1.1, refl)
digits_have Octal front digits h = (h.1, refl)
digits_have Hexadecimal front [] h = absurd (omega (arith, h.1.0))
digits_have Hexadecimal front (d ∷ ds) h = (h.1.1, refl)

uint_read : (value : ℕ) → value < 2 ^ 32 → as_uint value ≡ Some (value, true)
uint_read value lt = ap (λ v. cond v (Some (value, true)) None) (lt-ltb value (2 ^ 32) lt)

by_test : (v : Bool) → (v ≡ true → ⊥) → v ≡ false
by_test true h = absurd (h refl)
by_test false h = refl

not_int : (value : ℕ) → 2 ^ 31 ≤ value → nat_lt value (2 ^ 31) ≡ false
not_int value le = by_test (nat_lt value (2 ^ 31)) (λ h. let lt = ltb-true value (2 ^ 31) h in omega (arith, lt, le))

type_read : (base : Base) (suffixed : Bool) (value : ℕ) (unsigned : Bool) → HasType base suffixed value unsigned → typed base value (Some suffixed) ≡ Some (value, unsigned)
type_read base true value true h = uint_read value h
type_read base true value false h = absurd h
type_read base false value false h = ap (λ v. cond v (Some (value, false)) (wider base value)) (lt-ltb value (2 ^ 31) h)
type_read Decimal false value true h = absurd h
type_read Octal false value true h = ap (λ v. cond v (Some (value, false)) (as_uint value)) (not_int value h.0) ∙ uint_read value h.1
type_read Hexadecimal false value true h = ap (λ v. cond v (Some (value, false)) (as_uint value)) (not_int value h.0) ∙ uint_read value h.1

-- the mark of no other base stands after an octal number's 0
no_mark_digit : (k d : ℕ) (rest : List ℕ) → 8 ≤ digit_value k → digit_value d < 8 → (v : Bool) → eqb k d ≡ v → cond v true false ≡ false
no_mark_digit k d rest high low true e = let same : k ≡ d = eqb-true k d e in let bad = ap digit_value same in absurd (omega (arith, bad, high, low))
no_mark_digit k d rest high low false e = refl

no_mark : (k : ℕ) (digits suffix : List ℕ) (suffixed : Bool) → 8 ≤ digit_value k → eqb k 117 ≡ false → eqb k 85 ≡ false → AllDigits 8 digits → IsSuffix suffixed suffix
    → starts_with (k ∷ []) (digits ++ suffix) ≡ false
no_mark k [] suffix true high u v h (inl e) = ap (starts_with (k ∷ [])) e ∙ ap (λ z. cond z true false) u
no_mark k [] suffix true high u v h (inr e) = ap (starts_with (k ∷ [])) e ∙ ap (λ z. cond z true false) v
no_mark k [] suffix false high u v h e = ap (starts_with (k ∷ [])) e
no_mark k (d ∷ ds) suffix suffixed high u v h e = no_mark_digit k d (ds ++ suffix) high h.0 (eqb k d) refl

-- the base and what stands after its marks
abbrev Parted : Base → List ℕ → List ℕ → Type 0
Parted base bytes body = (base_of bytes ≡ base) × (after_front base bytes ≡ body)

other_first : (d : ℕ) → (d ≡ 48 → ⊥) → (v : Bool) → eqb 48 d ≡ v → v ≡ false
other_first d n true e = absurd (n (sym (eqb-true 48 d e)))
other_first d n false e = refl

parted : (base : Base) (front digits suffix : List ℕ) (suffixed : Bool) → HasDigits base front digits → IsSuffix suffixed suffix → Parted base (front ++ (digits ++ suffix)) (digits ++ suffix)
parted Decimal front [] suffix suffixed h s = absurd (omega (arith, h.1.0))
parted Decimal front (d ∷ ds) suffix suffixed h s =
    let no : eqb 48 d ≡ false = other_first d h.2 (eqb 48 d) refl in
    let rest = ds ++ suffix in
    let base : base_of (d ∷ rest) ≡ Decimal =
    ap (λ v. cond (cond v (starts_with (120 ∷ []) rest) false || cond v (starts_with (88 ∷ []) rest) false) Hexadecimal (cond (cond v true false) Octal Decimal)) no in
    subst (λ z. Parted Decimal (z ++ (d ∷ rest)) (d ∷ rest)) (sym h.0) (base, refl)
parted Octal front digits suffix suffixed h s =
    let rest = digits ++ suffix in
    let x = no_mark 120 digits suffix suffixed (let le : 8 ≤ 33 = omega arith in le) refl refl h.1 s in
    let y = no_mark 88 digits suffix suffixed (let le : 8 ≤ 33 = omega arith in le) refl refl h.1 s in
    let base : base_of (48 ∷ rest) ≡ Octal =
    ap (λ v. cond (v || starts_with (88 ∷ []) rest) Hexadecimal Octal) x ∙ ap (λ v. cond v Hexadecimal Octal) y in
    subst (λ z. Parted Octal (z ++ rest) rest) (sym h.0) (base, refl)
parted Hexadecimal front digits suffix suffixed (inl e, n) s = subst (λ z. Parted Hexadecimal (z ++ (digits ++ suffix)) (digits ++ suffix)) (sym e) (refl, refl)
parted Hexadecimal front digits suffix suffixed (inr e, n) s = subst (λ z. Parted Hexadecimal (z ++ (digits ++ suffix)) (digits ++ suffix)) (sym e) (refl, refl)

body_read : (base : Base) (digits suffix : List ℕ) (suffixed : Bool) (value : ℕ) (unsigned : Bool) → AllDigits (radix base) digits → has_enough base digits ≡ true → IsSuffix suffixed suffix
    → value ≡ digits_value (radix base) digits → HasType base suffixed value unsigned → read_body base (digits ++ suffix) ≡ Some (value, unsigned)
body_read base digits suffix suffixed value unsigned all enough s is type =
    let e = digits_read (radix base) digits suffix all (suffix_ends base suffixed suffix s) in
    ap (λ z. read_digits base z (drop (length z) (digits ++ suffix))) e
    ∙ ap (λ z. read_digits base digits z) (drop-append_seam digits suffix)
    ∙ ap (λ v. cond v (typed base (digits_value (radix base) digits) (suffix_of suffix)) None) enough
    ∙ ap (λ z. typed base z (suffix_of suffix)) (sym is)
    ∙ ap (typed base value) (suffix_read suffixed suffix s)
    ∙ type_read base suffixed value unsigned type

pub spelled_is_read : (bytes : List ℕ) (value : ℕ) (unsigned : Bool) → IsNumber bytes value unsigned → number_of bytes ≡ Some (value, unsigned)
spelled_is_read bytes value unsigned n =
    let base = n.base in
    let whole = n.front ++ (n.digits ++ n.suffix) in
    let p = parted base n.front n.digits n.suffix n.suffixed n.has_digits n.is_suffix in
    let d = digits_have base n.front n.digits n.has_digits in
    ap number_of n.spelled
    ∙ ap (λ b. read_body b (after_front b whole)) p.0
    ∙ ap (read_body base) p.1
    ∙ body_read base n.digits n.suffix n.suffixed value unsigned d.0 d.1 n.is_suffix n.value_is n.has_type

-- ---- what is read is spelled so

-- the marks of a base
abbrev IsFront : Base → List ℕ → Type 0
IsFront Decimal front = front ≡ []
IsFront Octal front = front ≡ 48 ∷ []
IsFront Hexadecimal front = (front ≡ 48 ∷ 120 ∷ []) ⊎ (front ≡ 48 ∷ 88 ∷ [])

abbrev Fronted : Base → List ℕ → Type 0
Fronted base bytes = (front : List ℕ) × (bytes ≡ front ++ after_front base bytes) × IsFront base front

fronted : (bytes : List ℕ) → Fronted (base_of bytes) bytes
fronted bytes = fronted_at (starts_with (48 ∷ 120 ∷ []) bytes) (starts_with (48 ∷ 88 ∷ []) bytes) (starts_with (48 ∷ []) bytes) refl refl refl
  where
    fronted_at : (v w x : Bool) → starts_with (48 ∷ 120 ∷ []) bytes ≡ v → starts_with (48 ∷ 88 ∷ []) bytes ≡ w → starts_with (48 ∷ []) bytes ≡ x
        → Fronted (cond (v || w) Hexadecimal (cond x Octal Decimal)) bytes
    fronted_at true w x e f g = (48 ∷ 120 ∷ [], starts_is (48 ∷ 120 ∷ []) bytes e, inl refl)
    fronted_at false true x e f g = (48 ∷ 88 ∷ [], starts_is (48 ∷ 88 ∷ []) bytes f, inr refl)
    fronted_at false false true e f g = (48 ∷ [], starts_is (48 ∷ []) bytes g, refl)
    fronted_at false false false e f g = ([], refl, refl)

not_zero : (bytes : List ℕ) → base_of bytes ≡ Decimal → starts_with (48 ∷ []) bytes ≡ false
not_zero bytes h = by (starts_with (48 ∷ 120 ∷ []) bytes || starts_with (48 ∷ 88 ∷ []) bytes) (starts_with (48 ∷ []) bytes) h
  where
    by : (v x : Bool) → cond v Hexadecimal (cond x Octal Decimal) ≡ Decimal → x ≡ false
    by true x e = absurd (cc)
    by false true e = absurd (cc)
    by false false e = refl

suffix_spelled : (suffix : List ℕ) (suffixed : Bool) → suffix_of suffix ≡ Some suffixed → IsSuffix suffixed suffix
suffix_spelled [] suffixed h = let e : false ≡ suffixed = cc in subst (λ v. IsSuffix v []) e refl
suffix_spelled (b ∷ []) suffixed h = by (eqb b 117) (eqb b 85) refl refl h
  where
    by : (v w : Bool) → eqb b 117 ≡ v → eqb b 85 ≡ w → cond (v || w) (Some true) None ≡ Some suffixed → IsSuffix suffixed (b ∷ [])
    by true w e f g = let same : true ≡ suffixed = cc in subst (λ v. IsSuffix v (b ∷ [])) same (inl (ap (λ z. z ∷ []) (eqb-true b 117 e)))
    by false true e f g = let same : true ≡ suffixed = cc in subst (λ v. IsSuffix v (b ∷ [])) same (inr (ap (λ z. z ∷ []) (eqb-true b 85 f)))
    by false false e f g = absurd (cc)
suffix_spelled (b ∷ c ∷ bs) suffixed h = absurd (cc)

-- a value with its type
abbrev Typed : Base → Bool → ℕ → ℕ × Bool → Type 0
Typed base suffixed value (v, unsigned) = (value ≡ v) × HasType base suffixed value unsigned

abbrev value_in : Option (ℕ × Bool) → ℕ
value_in None = 0
value_in (Some (value, unsigned)) = value

abbrev type_in : Option (ℕ × Bool) → Bool
type_in None = true
type_in (Some (value, unsigned)) = unsigned

same_pair : (v w : ℕ) (t u : Bool) → ◌≡◌ {A = Option (ℕ × Bool)} (Some (v, t)) (Some (w, u)) → (v ≡ w) × (t ≡ u)
same_pair v w t u h = (ap value_in h, ap type_in h)

uint_spelled : (value v : ℕ) (unsigned : Bool) → as_uint value ≡ Some (v, unsigned) → (value ≡ v) × (true ≡ unsigned) × (value < 2 ^ 32)
uint_spelled value v unsigned h = by (nat_lt value (2 ^ 32)) refl h
  where
    by : (t : Bool) → nat_lt value (2 ^ 32) ≡ t → cond {A = Option (ℕ × Bool)} t (Some (value, true)) None ≡ Some (v, unsigned) → (value ≡ v) × (true ≡ unsigned) × (value < 2 ^ 32)
    by true e g = let x = same_pair value v true unsigned g in (x.0, x.1, ltb-true value (2 ^ 32) e)
    by false e g = absurd (cc)

above : (value : ℕ) → nat_lt value (2 ^ 31) ≡ false → 2 ^ 31 ≤ value
above value e =
    let no : value < 2 ^ 31 → ⊥ = λ lt. let t = lt-ltb value (2 ^ 31) lt in let bad : false ≡ true = sym e ∙ t in cc in
    omega (arith, no)

type_spelled : (base : Base) (suffixed : Bool) (value v : ℕ) (unsigned : Bool) → typed base value (Some suffixed) ≡ Some (v, unsigned) → (value ≡ v) × HasType base suffixed v unsigned
type_spelled base true value v unsigned h =
    let x = uint_spelled value v unsigned h in
    (x.0, subst (λ t. HasType base true v t) x.1 (subst (λ z. z < 2 ^ 32) x.0 x.2))
type_spelled base false value v unsigned h = by (nat_lt value (2 ^ 31)) refl h
  where
    wide : (base : Base) → 2 ^ 31 ≤ value → wider base value ≡ Some (v, unsigned) → (value ≡ v) × HasType base false v unsigned
    wide Decimal le g = absurd (cc)
    wide Octal le g =
        let x = uint_spelled value v unsigned g in
        (x.0, subst (λ t. HasType Octal false v t) x.1 (subst (λ z. 2 ^ 31 ≤ z) x.0 le, subst (λ z. z < 2 ^ 32) x.0 x.2))
    wide Hexadecimal le g =
        let x = uint_spelled value v unsigned g in
        (x.0, subst (λ t. HasType Hexadecimal false v t) x.1 (subst (λ z. 2 ^ 31 ≤ z) x.0 le, subst (λ z. z < 2 ^ 32) x.0 x.2))

    by : (t : Bool) → nat_lt value (2 ^ 31) ≡ t → cond {A = Option (ℕ × Bool)} t (Some (value, false)) (wider base value) ≡ Some (v, unsigned) → (value ≡ v) × HasType base false v unsigned
    by true e g =
        let x = same_pair value v false unsigned g in
        (x.0, subst (λ t. HasType base false v t) x.1 (subst (λ z. z < 2 ^ 31) x.0 (ltb-true value (2 ^ 31) e)))
    by false e g = wide base (above value e) g

some_suffix : (base : Base) (value v : ℕ) (unsigned : Bool) (s : Option Bool) → typed base value s ≡ Some (v, unsigned) → (suffixed : Bool) × (s ≡ Some suffixed)
some_suffix base value v unsigned None h = absurd (cc)
some_suffix base value v unsigned (Some suffixed) h = (suffixed, refl)

-- enough digits, where a decimal number's first one isn't 0
digits_spelled : (base : Base) (bytes front digits suffix : List ℕ) → base_of bytes ≡ base → IsFront base front → bytes ≡ front ++ (digits ++ suffix)
    → AllDigits (radix base) digits → has_enough base digits ≡ true → HasDigits base front digits
digits_spelled Decimal bytes front [] suffix b f e all enough = absurd (cc)
digits_spelled Decimal bytes front (d ∷ ds) suffix b f e all enough =
    let whole : bytes ≡ d ∷ (ds ++ suffix) = e ∙ ap (λ z. z ++ (d ∷ (ds ++ suffix))) f in
    let no : eqb 48 d ≡ false = by (eqb 48 d) (sym (ap (starts_with (48 ∷ [])) whole) ∙ not_zero bytes b) in
    (f, (let P : 0 < suc (length ds) = omega arith in P, all), λ h. let yes = eq-eqb 48 d (sym h) in let bad = sym no ∙ yes in absurd (cc))
  where
    by : (v : Bool) → cond v true false ≡ false → v ≡ false
    by true h = absurd (cc)
    by false h = refl
digits_spelled Octal bytes front digits suffix b f e all enough = (f, all)
digits_spelled Hexadecimal bytes front [] suffix b f e all enough = absurd (cc)
digits_spelled Hexadecimal bytes front (d ∷ ds) suffix b f e all enough = (f, (let P : 0 < suc (length ds) = omega arith in P, all))

is_enough : (t : Bool) (o : Option (ℕ × Bool)) (x : ℕ × Bool) → cond t o None ≡ Some x → (t ≡ true) × (o ≡ Some x)
is_enough true o x h = (refl, h)
is_enough false o x h = absurd (cc)

spelled_at : (bytes : List ℕ) (base : Base) → base_of bytes ≡ base → Fronted base bytes → (value : ℕ) (unsigned : Bool) → read_body base (after_front base bytes) ≡ Some (value, unsigned)
    → IsNumber bytes value unsigned
spelled_at bytes base b (front, e, f) value unsigned h =
    let body = after_front base bytes in
    let digits = digits_of (radix base) body in
    let suffix = drop (length digits) body in
    let x = is_enough (has_enough base digits) (typed base (digits_value (radix base) digits) (suffix_of suffix)) (value, unsigned) h in
    let s = some_suffix base (digits_value (radix base) digits) value unsigned (suffix_of suffix) x.1 in
    let t = type_spelled base s.0 (digits_value (radix base) digits) value unsigned (ap (typed base (digits_value (radix base) digits)) (sym s.1) ∙ x.1) in
    let parts : body ≡ digits ++ suffix = sym (take-append-drop (length digits) body) ∙ ap (λ z. z ++ suffix) (digits_taken (radix base) body) in
    let whole : bytes ≡ front ++ (digits ++ suffix) = e ∙ ap (λ z. front ++ z) parts in
    record {
      base = base;
      front = front;
      digits = digits;
      suffix = suffix;
      suffixed = s.0;
      spelled = whole;
      has_digits = digits_spelled base bytes front digits suffix b f whole (digits_all (radix base) body) x.0;
      is_suffix = suffix_spelled suffix s.0 s.1;
      value_is = sym t.0;
      has_type = t.1;
    }

pub read_is_spelled : (bytes : List ℕ) (value : ℕ) (unsigned : Bool) → number_of bytes ≡ Some (value, unsigned) → IsNumber bytes value unsigned
read_is_spelled bytes value unsigned h = spelled_at bytes (base_of bytes) refl (fronted bytes) value unsigned h

-- no bytes are two numbers
pub one_number : (bytes : List ℕ) (v w : ℕ) (t u : Bool) → IsNumber bytes v t → IsNumber bytes w u → (v ≡ w) × (t ≡ u)
one_number bytes v w t u a b = same_pair v w t u (sym (spelled_is_read bytes v t a) ∙ spelled_is_read bytes w u b)
