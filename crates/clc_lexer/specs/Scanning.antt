-- What the scanner finds at a place, by the leaves that its functions are.
use Rattle.std.specs.Prelude.{◌≡◌, ℕ, ◌+◌, ◌≤◌, Bool, true, false, cond, ◌==◌, List, [], ◌∷◌, ◌++◌, length, drop, codes, Option, Some, None}
use Rattle.clc_lexer.specs.Tables.{mark_spelling, all_marks}
use Rattle.clc_lexer.specs.Characters.{is_space, is_word, is_run}
use Rattle.clc_lexer.specs.SourceText.{Piece, Text, bytes_of, IsPiece, IsStray, IsOpen}
use Rattle.clc_lexer.specs.declared.marks.Mark.{Mark as MarkType}
use Rattle.clc_lexer.specs.declared.scanning.Found.{Found}
use Rattle.clc_lexer.specs.declared.scanning.Found.TheVariants.{Blank, Run, Mark, Stray, Open}

-- the letters and digits at the front
abbrev pub run_of : List ℕ → List ℕ
run_of [] = []
run_of (b ∷ bs) = cond (is_word b) (b ∷ run_of bs) []

abbrev pub starts_with : List ℕ → List ℕ → Bool
starts_with [] bytes = true
starts_with (m ∷ ms) [] = false
starts_with (m ∷ ms) (b ∷ bs) = cond (m == b) (starts_with ms bs) false

-- the first of these marks that stands at the front
abbrev pub front_mark : List MarkType → List ℕ → Option MarkType
front_mark [] bytes = None
front_mark (m ∷ ms) bytes = cond (starts_with (mark_spelling m) bytes) (Some m) (front_mark ms bytes)

-- the bytes before the end of the line
abbrev pub line_of : List ℕ → List ℕ
line_of [] = []
line_of (b ∷ bs) = cond (b == 10) [] (b ∷ line_of bs)

abbrev pub more_by : ℕ → Option ℕ → Option ℕ
more_by k None = None
more_by k (Some n) = Some (k + n)

-- where the first closing mark of a comment begins
abbrev pub close_of : List ℕ → Option ℕ
close_of [] = None
close_of (a ∷ rest) = cond (starts_with (codes "*/") (a ∷ rest)) (Some 0) (more_by 1 (close_of rest))

abbrev pub closed : Option ℕ → Found
closed None = Open
closed (Some n) = Blank (n + 4)

-- the longest mark at the front
unfoldable pub mark_of_front : List ℕ → Option MarkType
mark_of_front bytes = front_mark all_marks bytes

abbrev pub mark_found : Option MarkType → Found
mark_found None = Stray
mark_found (Some mark) = Mark mark

abbrev pub first_found : List ℕ → Found
first_found [] = Stray
first_found (b ∷ bs) =
    cond (is_space b) (Blank 1) (cond (is_word b) (Run (length (run_of (b ∷ bs)))) (mark_found (mark_of_front (b ∷ bs))))

abbrev pub found : List ℕ → Found
found bytes =
    cond (starts_with (codes "//") bytes) (Blank (length (line_of (drop 2 bytes)) + 2))
    (cond (starts_with (codes "/*") bytes) (closed (close_of (drop 2 bytes))) (first_found bytes))

-- white space or a comment
abbrev pub IsBlank : Piece → Type 0
IsBlank (Text bytes) = ⊥
IsBlank p = Unit {0}

-- what the answer says of the bytes from the place on
abbrev pub IsFound : List ℕ → Found → Type 0
IsFound bytes (Blank n) = (p : Piece) × (after : List ℕ) × (bytes ≡ bytes_of p ++ after) × IsPiece p after × IsBlank p × (length (bytes_of p) ≡ n)
IsFound bytes (Run n) = (text : List ℕ) × (after : List ℕ) × (bytes ≡ text ++ after) × IsPiece (Text text) after × (is_run text ≡ true) × (length text ≡ n)
IsFound bytes (Mark mark) = (after : List ℕ) × (bytes ≡ mark_spelling mark ++ after) × IsPiece (Text (mark_spelling mark)) after
IsFound bytes Stray = IsStray bytes
IsFound bytes Open = IsOpen bytes

-- what was found is no longer than this
abbrev pub IsWithin : ℕ → Found → Type 0
IsWithin len (Blank n) = n ≤ len
IsWithin len (Run n) = n ≤ len
IsWithin len (Mark mark) = length (mark_spelling mark) ≤ len
IsWithin len Stray = Unit {0}
IsWithin len Open = Unit {0}
