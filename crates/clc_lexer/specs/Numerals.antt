-- Whole-number constants: their spelling, their value and their type (C99, 6.4.4.1; OpenCL C 1.2, 6.1.1).
use Rattle.std.specs.Prelude.{◌≡◌, ◌≢◌, ◌⊎◌, ℕ, ◌^◌, ◌<◌, ◌≤◌, Bool, true, false, List, [], ◌++◌, codes, slice_index}
use Rattle.std.specs.Str.Parse.{AllDigits, IsNumeral, digits_value}
use Rattle.clc_lexer.specs.declared.numbers.Base.{Base}
use Rattle.clc_lexer.specs.declared.numbers.Base.TheVariants.{Decimal, Octal, Hexadecimal}

abbrev pub radix : Base → ℕ
radix Decimal = 10
radix Octal = 8
radix Hexadecimal = 16

-- what stands before the digits, and the digits: an octal number may have none after its 0
abbrev pub HasDigits : Base → List ℕ → List ℕ → Type 0
HasDigits Decimal front digits = (front ≡ []) × IsNumeral 10 digits × (slice_index digits 0 ≢ 48)
HasDigits Octal front digits = (front ≡ codes "0") × AllDigits 8 digits
HasDigits Hexadecimal front digits = ((front ≡ codes "0x") ⊎ (front ≡ codes "0X")) × IsNumeral 16 digits

-- the suffix u or U, or none
abbrev pub IsSuffix : Bool → List ℕ → Type 0
IsSuffix true suffix = (suffix ≡ codes "u") ⊎ (suffix ≡ codes "U")
IsSuffix false suffix = suffix ≡ []

-- whether the value is a uint: with a suffix it is; else it is an int where it fits, and a decimal one must fit
abbrev pub HasType : Base → Bool → ℕ → Bool → Type 0
HasType base true value true = value < 2 ^ 32
HasType base true value false = ⊥
HasType base false value false = value < 2 ^ 31
HasType Decimal false value true = ⊥
HasType Octal false value true = (2 ^ 31 ≤ value) × (value < 2 ^ 32)
HasType Hexadecimal false value true = (2 ^ 31 ≤ value) × (value < 2 ^ 32)

-- the bytes are a number of this value, a uint or an int
pub record IsNumber (bytes : List ℕ) (value : ℕ) (unsigned : Bool) : Type 0 where
  pub base : Base
  pub front : List ℕ
  pub digits : List ℕ
  pub suffix : List ℕ
  pub suffixed : Bool
  pub spelled : bytes ≡ front ++ (digits ++ suffix)
  pub has_digits : HasDigits base front digits
  pub is_suffix : IsSuffix suffixed suffix
  pub value_is : value ≡ digits_value (radix base) digits
  pub has_type : HasType base suffixed value unsigned
