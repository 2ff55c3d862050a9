-- The tables of the language: marks, reserved words and left-out words.
use Rattle.std.specs.Prelude.{ℕ, Bool, false, ◌||◌, List, [], ◌∷◌, ◌++◌, map, codes}
use Rattle.std.specs.List.{flat_map}
use Rattle.std.specs.Str.{bytes_eq}
use Rattle.clc_lexer.specs.declared.marks.Mark.{Mark}
use Rattle.clc_lexer.specs.declared.marks.Mark.TheVariants.{ShiftLeftAssign, ShiftRightAssign, PlusPlus, MinusMinus, ShiftLeft, ShiftRight, LessEqual, GreaterEqual, EqualEqual, BangEqual, AndAnd, OrOr, PlusAssign, MinusAssign, StarAssign, SlashAssign, PercentAssign, AndAssign, OrAssign, XorAssign, LeftParen, RightParen, LeftBrace, RightBrace, LeftBracket, RightBracket, Semicolon, Comma, Question, Colon, Plus, Minus, Star, Slash, Percent, Ampersand, Bar, Caret, Tilde, Bang, Less, Greater, Assign}
use Rattle.clc_lexer.specs.declared.words.Word.{Word}
use Rattle.clc_lexer.specs.declared.words.Word.TheVariants.{Kernel, UnderscoreKernel, Global, UnderscoreGlobal, Constant, UnderscoreConstant, Const, Restrict, Inline, Void, Char, Uchar, Short, Ushort, Int, Uint, SizeT, Unsigned, Signed, If, Else, While, Do, For, Break, Continue, Return}

-- the bytes are one of these
abbrev pub among : List (List ℕ) → List ℕ → Bool
among [] bytes = false
among (spelling ∷ table) bytes = bytes_eq spelling bytes || among table bytes

-- ---- marks (C99, 6.4.6)

abbrev pub mark_spelling : Mark → List ℕ
mark_spelling ShiftLeftAssign = codes "<<="
mark_spelling ShiftRightAssign = codes ">>="
mark_spelling PlusPlus = codes "++"
mark_spelling MinusMinus = codes "--"
mark_spelling ShiftLeft = codes "<<"
mark_spelling ShiftRight = codes ">>"
mark_spelling LessEqual = codes "<="
mark_spelling GreaterEqual = codes ">="
mark_spelling EqualEqual = codes "=="
mark_spelling BangEqual = codes "!="
mark_spelling AndAnd = codes "&&"
mark_spelling OrOr = codes "||"
mark_spelling PlusAssign = codes "+="
mark_spelling MinusAssign = codes "-="
mark_spelling StarAssign = codes "*="
mark_spelling SlashAssign = codes "/="
mark_spelling PercentAssign = codes "%="
mark_spelling AndAssign = codes "&="
mark_spelling OrAssign = codes "|="
mark_spelling XorAssign = codes "^="
mark_spelling LeftParen = codes "("
mark_spelling RightParen = codes ")"
mark_spelling LeftBrace = codes "{"
mark_spelling RightBrace = codes "}"
mark_spelling LeftBracket = codes "["
mark_spelling RightBracket = codes "]"
mark_spelling Semicolon = codes ";"
mark_spelling Comma = codes ","
mark_spelling Question = codes "?"
mark_spelling Colon = codes ":"
mark_spelling Plus = codes "+"
mark_spelling Minus = codes "-"
mark_spelling Star = codes "*"
mark_spelling Slash = codes "/"
mark_spelling Percent = codes "%"
mark_spelling Ampersand = codes "&"
mark_spelling Bar = codes "|"
mark_spelling Caret = codes "^"
mark_spelling Tilde = codes "~"
mark_spelling Bang = codes "!"
mark_spelling Less = codes "<"
mark_spelling Greater = codes ">"
mark_spelling Assign = codes "="

-- each mark once, longer ones before shorter ones
abbrev pub all_marks : List Mark
all_marks =
    ShiftLeftAssign ∷ ShiftRightAssign ∷ PlusPlus ∷ MinusMinus ∷ ShiftLeft ∷ ShiftRight ∷ LessEqual ∷
    GreaterEqual ∷ EqualEqual ∷ BangEqual ∷ AndAnd ∷ OrOr ∷ PlusAssign ∷ MinusAssign ∷ StarAssign ∷
    SlashAssign ∷ PercentAssign ∷ AndAssign ∷ OrAssign ∷ XorAssign ∷ LeftParen ∷ RightParen ∷ LeftBrace ∷
    RightBrace ∷ LeftBracket ∷ RightBracket ∷ Semicolon ∷ Comma ∷ Question ∷ Colon ∷ Plus ∷ Minus ∷ Star ∷
    Slash ∷ Percent ∷ Ampersand ∷ Bar ∷ Caret ∷ Tilde ∷ Bang ∷ Less ∷ Greater ∷ Assign ∷ []

-- the spellings in that order
abbrev pub mark_spellings : List (List ℕ)
mark_spellings = map mark_spelling all_marks

-- ---- reserved words (C99, 6.4.1; OpenCL C 1.2, 6.1.9)

abbrev pub word_spelling : Word → List ℕ
word_spelling Kernel = codes "kernel"
word_spelling UnderscoreKernel = codes "__kernel"
word_spelling Global = codes "global"
word_spelling UnderscoreGlobal = codes "__global"
word_spelling Constant = codes "constant"
word_spelling UnderscoreConstant = codes "__constant"
word_spelling Const = codes "const"
word_spelling Restrict = codes "restrict"
word_spelling Inline = codes "inline"
word_spelling Void = codes "void"
word_spelling Char = codes "char"
word_spelling Uchar = codes "uchar"
word_spelling Short = codes "short"
word_spelling Ushort = codes "ushort"
word_spelling Int = codes "int"
word_spelling Uint = codes "uint"
word_spelling SizeT = codes "size_t"
word_spelling Unsigned = codes "unsigned"
word_spelling Signed = codes "signed"
word_spelling If = codes "if"
word_spelling Else = codes "else"
word_spelling While = codes "while"
word_spelling Do = codes "do"
word_spelling For = codes "for"
word_spelling Break = codes "break"
word_spelling Continue = codes "continue"
word_spelling Return = codes "return"

-- each word once
abbrev pub all_words : List Word
all_words =
    Kernel ∷ UnderscoreKernel ∷ Global ∷ UnderscoreGlobal ∷ Constant ∷ UnderscoreConstant ∷ Const ∷
    Restrict ∷ Inline ∷ Void ∷ Char ∷ Uchar ∷ Short ∷ Ushort ∷ Int ∷ Uint ∷ SizeT ∷ Unsigned ∷ Signed ∷ If ∷
    Else ∷ While ∷ Do ∷ For ∷ Break ∷ Continue ∷ Return ∷ []

abbrev pub word_spellings : List (List ℕ)
word_spellings = map word_spelling all_words

-- ---- left-out words: those of the language that no source here may have

abbrev pub single_left_out : List (List ℕ)
single_left_out =
    codes "float" ∷ codes "double" ∷ codes "half" ∷ codes "long" ∷ codes "ulong" ∷ codes "bool" ∷
    codes "struct" ∷ codes "union" ∷ codes "enum" ∷ codes "typedef" ∷ codes "goto" ∷ codes "switch" ∷
    codes "case" ∷ codes "default" ∷ codes "static" ∷ codes "extern" ∷ codes "register" ∷ codes "volatile" ∷
    codes "sizeof" ∷ codes "local" ∷ codes "__local" ∷ codes "private" ∷ codes "__private" ∷
    codes "barrier" ∷ codes "mem_fence" ∷ codes "read_mem_fence" ∷ codes "write_mem_fence" ∷ codes "printf" ∷
    codes "event_t" ∷ codes "sampler_t" ∷ codes "image2d_t" ∷ codes "image3d_t" ∷ codes "read_only" ∷
    codes "write_only" ∷ codes "read_write" ∷ codes "__read_only" ∷ codes "__write_only" ∷
    codes "__read_write" ∷ codes "__attribute__" ∷ codes "ptrdiff_t" ∷ codes "intptr_t" ∷ codes "uintptr_t" ∷ []

-- the types of vectors are an element's type followed by a number of components (OpenCL C 1.2, 6.1.2)
abbrev pub vector_elements : List (List ℕ)
vector_elements =
    codes "char" ∷ codes "uchar" ∷ codes "short" ∷ codes "ushort" ∷ codes "int" ∷ codes "uint" ∷
    codes "long" ∷ codes "ulong" ∷ codes "float" ∷ codes "double" ∷ codes "half" ∷ []

abbrev pub vector_sizes : List (List ℕ)
vector_sizes = codes "2" ∷ codes "3" ∷ codes "4" ∷ codes "8" ∷ codes "16" ∷ []

abbrev pub left_out_words : List (List ℕ)
left_out_words = single_left_out ++ flat_map (λ element. map (λ size. element ++ size) vector_sizes) vector_elements
