-- The bytes of a module file: what a module may have, its bytes, and the first place where bytes are no module's.
use Rattle.std.specs.Prelude.{ℕ, zero, suc, ◌+◌, ◌-◌, ◌*◌, ◌^◌, ◌≤◌, ◌<◌, min, Bool, true, false, not, ◌&&◌, nat_le, nat_lt, ◌==◌, if◌then◌else◌, List, [], ◌∷◌, ◌++◌, All, length, take, drop, map, replicate, codes, Option, Some, None}
use Rattle.std.specs.List.{flat_map}
use Rattle.std.specs.Str.{bytes_eq}
use Rattle.byteorder.specs.Endian.{little_bytes, little_number}
use Rattle.q_lane.specs.declared.kinds.Kind.{Kind}
use Rattle.q_lane.specs.declared.kinds.Kind.TheVariants.{Value, Pointer}
use Rattle.q_lane.specs.declared.kinds.Scalar.TheVariants.{Char, Uchar, Short, Ushort, Int, Uint}

-- ---- modules

-- the rows of scratch that each processor needs, the kinds of the parameters in their order, and the words
pub record ModuleOf : Type 0 where
  pub rows : ℕ
  pub kinds : List Kind
  pub words : List ℕ

-- the limits: at most 262,144 rows and 16 parameters, and 1 to 16,777,216 words, each below 2^64
pub record IsModule (m : ModuleOf) : Type 0 where
  pub few_rows : m.rows ≤ 262144
  pub few_kinds : length m.kinds ≤ 16
  pub some_words : 1 ≤ length m.words
  pub few_words : length m.words ≤ 16777216
  pub fits : All (λ w. w < 2 ^ 64) m.words

-- ---- their bytes

-- a number in four bytes, the lowest first
abbrev pub le32 : ℕ → List ℕ
le32 n = little_bytes 4 n

-- a number in eight bytes, the lowest first
abbrev pub le64 : ℕ → List ℕ
le64 n = little_bytes 8 n

-- the byte of a kind
abbrev pub kind_byte : Kind → ℕ
kind_byte (Value Char) = 0
kind_byte (Value Uchar) = 1
kind_byte (Value Short) = 2
kind_byte (Value Ushort) = 3
kind_byte (Value Int) = 4
kind_byte (Value Uint) = 5
kind_byte Pointer = 6

-- the sixteen kind bytes: those of the parameters, and 255 in the others
abbrev pub kind_bytes : List Kind → List ℕ
kind_bytes kinds = map kind_byte kinds ++ replicate (16 - length kinds) 255

-- the bytes of a module: the letters, the version, the rows, the number of words, the number of parameters, the kind bytes, a zero, and
-- the words
unfoldable pub module_bytes : ModuleOf → List ℕ
module_bytes m =
    codes "VC4Q" ++ (le32 1 ++ (le32 m.rows ++ (le32 (length m.words) ++ (le32 (length m.kinds) ++ (kind_bytes m.kinds ++ (le32 0 ++ flat_map le64 m.words))))))

-- ---- faults

-- the number in the four bytes from a place, the lowest first
unfoldable pub number_at : ℕ → List ℕ → ℕ
number_at place bytes = little_number 4 (drop place bytes)

-- the place, where the test has failed, else what the later tests give
abbrev pub fails_at : Bool → ℕ → Option ℕ → Option ℕ
fails_at true place later = Some place
fails_at false place later = later

-- a kind byte is right: 0 to 6 where parameters are still to come, and 255 where none is
abbrev pub is_kind_byte : ℕ → ℕ → Bool
is_kind_byte zero b = b == 255
is_kind_byte (suc n) b = nat_lt b 7

-- the place of the first wrong one of these kind bytes, of which the first has the place `place`; so many parameters are still to come
unfoldable pub kind_fault : ℕ → ℕ → List ℕ → Option ℕ
kind_fault left place [] = None
kind_fault left place (b ∷ bs) = fails_at (not (is_kind_byte left b)) place (kind_fault (left - 1) (place + 1) bs)

-- the first where there is one, else the second
abbrev pub or_later : Option ℕ → Option ℕ → Option ℕ
or_later None later = later
or_later (Some place) later = Some place

-- the length that the header names
abbrev pub due_length : List ℕ → ℕ
due_length bytes = 40 + 8 * number_at 12 bytes

-- the place of the first failing test, None where none fails
unfoldable pub first_fault : List ℕ → Option ℕ
first_fault bytes =
    fails_at (nat_lt (length bytes) 40) (length bytes)
    (fails_at (not (bytes_eq (take 4 bytes) (codes "VC4Q"))) 0
    (fails_at (not (number_at 4 bytes == 1)) 4
    (fails_at (not (nat_le (number_at 8 bytes) 262144)) 8
    (fails_at (not (nat_le 1 (number_at 12 bytes) && nat_le (number_at 12 bytes) 16777216)) 12
    (fails_at (not (nat_le (number_at 16 bytes) 16)) 16
    (or_later (kind_fault (number_at 16 bytes) 20 (take 16 (drop 20 bytes)))
    (fails_at (not (number_at 36 bytes == 0)) 36
    (fails_at (not (length bytes == due_length bytes)) (min (length bytes) (due_length bytes))
    None))))))))

-- ---- the module in some bytes, which is theirs where they have no fault

-- the kind of a byte, 6 and beyond is a pointer
abbrev pub kind_of : ℕ → Kind
kind_of b =
    if b == 0 then Value Char else if b == 1 then Value Uchar else if b == 2 then Value Short
    else if b == 3 then Value Ushort else if b == 4 then Value Int else if b == 5 then Value Uint else Pointer

-- the first n words in these bytes
unfoldable pub words_in : ℕ → List ℕ → List ℕ
words_in zero bytes = []
words_in (suc n) bytes = little_number 8 bytes ∷ words_in n (drop 8 bytes)

-- what stands at each place
unfoldable pub module_in : List ℕ → ModuleOf
module_in bytes = record {
  rows = number_at 8 bytes;
  kinds = map kind_of (take (number_at 16 bytes) (drop 20 bytes));
  words = words_in (number_at 12 bytes) (drop 40 bytes);
}
