-- The words of a line: each number has one spelling, and a name is a word that isn't `-`.
use Rattle.std.specs.Prelude.{zero, suc, ◌≢◌, ◌≡◌, ◌≤◌, ℕ, ℤ, pos, negsuc, ◌^◌, Bool, not, ◌&&◌, ◌==◌, nat_lt, nat_le, if◌then◌else◌, List, [], ◌∷◌, length, slice_index, Option, Some, None, option_map, option_and_then, bytes_eq, decimal}
use Rattle.std.specs.List.{list_all}
use Rattle.std.specs.Str.Parse.{digits_value}

-- no plus stands before the digits, and no zero before further ones
abbrev pub IsPlain : List ℕ → Type 0
IsPlain digits = (slice_index digits 0 ≢ 43) × (slice_index digits 0 ≡ 48 → length digits ≤ 1)

-- the number with this text: decimal, without leading zeros, at most 18,446,744,073,709,551,615
unfoldable pub number_of : List ℕ → Option ℕ
number_of word = let n = digits_value 10 word in
    if nat_lt n (2 ^ 64) && bytes_eq word (decimal n) then Some n else None

-- a number with a minus before it, which 0 hasn't
abbrev pub negative : ℕ → Option ℤ
negative zero = None
negative (suc n) = Some (negsuc n)

-- the value with this text: a number, with a minus or without
unfoldable pub value_of : List ℕ → Option ℤ
value_of [] = None
value_of (byte ∷ digits) = if byte == 45 then option_and_then negative (number_of digits) else option_map pos (number_of (byte ∷ digits))

-- the word for no name
abbrev pub dash : List ℕ
dash = 45 ∷ []

-- 1 to 255 bytes from 33 to 126, and not `-`
unfoldable pub is_name : List ℕ → Bool
is_name word = nat_le 1 (length word) && (nat_le (length word) 255 && (list_all (λ byte. nat_le 33 byte && nat_le byte 126) word && not (bytes_eq word dash)))

-- a name
unfoldable pub name_of : List ℕ → Option (List ℕ)
name_of word = if is_name word then Some word else None

-- a name or none
unfoldable pub file_of : List ℕ → Option (Option (List ℕ))
file_of word = if bytes_eq word dash then Some None else option_map Some (name_of word)

-- a name's text, `-` for none
abbrev pub file_text : Option (List ℕ) → List ℕ
file_text (Some name) = name
file_text None = dash
