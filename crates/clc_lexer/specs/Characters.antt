-- Kinds of bytes, and what is a token (OpenCL C 1.2, 6; C99, 5.2.1 and 6.4).
use Rattle.std.specs.Prelude.{ℕ, Bool, true, false, cond, nat_le, ◌||◌, ◌&&◌, ◌==◌, List, [], ◌∷◌}
use Rattle.clc_lexer.specs.Tables.{among, mark_spellings}

-- tab, line feed, carriage return, space
abbrev pub is_space : ℕ → Bool
is_space b = b == 9 || b == 10 || b == 13 || b == 32

-- 0 to 9
abbrev pub is_digit : ℕ → Bool
is_digit b = nat_le 48 b && nat_le b 57

-- A to Z, a to z, and the low line
abbrev pub is_letter : ℕ → Bool
is_letter b = (nat_le 65 b && nat_le b 90) || (nat_le 97 b && nat_le b 122) || b == 95

-- a byte that names and numbers go on with
abbrev pub is_word : ℕ → Bool
is_word b = is_letter b || is_digit b

abbrev pub all_word : List ℕ → Bool
all_word [] = true
all_word (b ∷ bs) = cond (is_word b) (all_word bs) false

-- letters and digits, at least one: a name or a reserved word where a letter stands first, else a number
abbrev pub is_run : List ℕ → Bool
is_run [] = false
is_run (b ∷ bs) = cond (is_word b) (all_word bs) false

abbrev pub begins_with_digit : List ℕ → Bool
begins_with_digit [] = false
begins_with_digit (b ∷ bs) = is_digit b

abbrev pub begins_with_letter : List ℕ → Bool
begins_with_letter [] = false
begins_with_letter (b ∷ bs) = is_letter b

abbrev pub is_token : List ℕ → Bool
is_token bytes = is_run bytes || among mark_spellings bytes
