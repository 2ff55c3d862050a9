-- Each mark and each word stands in its table.
use Rattle.std.proofs.Common.{◌≡◌, true, refl}
use Rattle.clc_lexer.specs.Tables.{among, mark_spelling, mark_spellings, word_spelling, word_spellings}
use Rattle.clc_lexer.specs.declared.marks.Mark.{Mark}
use Rattle.clc_lexer.specs.declared.marks.Mark.TheVariants as mark
use Rattle.clc_lexer.specs.declared.words.Word.{Word}
use Rattle.clc_lexer.specs.declared.words.Word.TheVariants as word

pub mark_listed : (m : Mark) → among mark_spellings (mark_spelling m) ≡ true
mark_listed mark.ShiftLeftAssign = refl
mark_listed mark.ShiftRightAssign = refl
mark_listed mark.PlusPlus = refl
mark_listed mark.MinusMinus = refl
mark_listed mark.ShiftLeft = refl
mark_listed mark.ShiftRight = refl
mark_listed mark.LessEqual = refl
mark_listed mark.GreaterEqual = refl
mark_listed mark.EqualEqual = refl
mark_listed mark.BangEqual = refl
mark_listed mark.AndAnd = refl
mark_listed mark.OrOr = refl
mark_listed mark.PlusAssign = refl
mark_listed mark.MinusAssign = refl
mark_listed mark.StarAssign = refl
mark_listed mark.SlashAssign = refl
mark_listed mark.PercentAssign = refl
mark_listed mark.AndAssign = refl
mark_listed mark.OrAssign = refl
mark_listed mark.XorAssign = refl
mark_listed mark.LeftParen = refl
mark_listed mark.RightParen = refl
mark_listed mark.LeftBrace = refl
mark_listed mark.RightBrace = refl
mark_listed mark.LeftBracket = refl
mark_listed mark.RightBracket = refl
mark_listed mark.Semicolon = refl
mark_listed mark.Comma = refl
mark_listed mark.Question = refl
mark_listed mark.Colon = refl
mark_listed mark.Plus = refl
mark_listed mark.Minus = refl
mark_listed mark.Star = refl
mark_listed mark.Slash = refl
mark_listed mark.Percent = refl
mark_listed mark.Ampersand = refl
mark_listed mark.Bar = refl
mark_listed mark.Caret = refl
mark_listed mark.Tilde = refl
mark_listed mark.Bang = refl
mark_listed mark.Less = refl
mark_listed mark.Greater = refl
mark_listed mark.Assign = refl

pub word_listed : (w : Word) → among word_spellings (word_spelling w) ≡ true
word_listed word.Kernel = refl
word_listed word.UnderscoreKernel = refl
word_listed word.Global = refl
word_listed word.UnderscoreGlobal = refl
word_listed word.Constant = refl
word_listed word.UnderscoreConstant = refl
word_listed word.Const = refl
word_listed word.Restrict = refl
word_listed word.Inline = refl
word_listed word.Void = refl
word_listed word.Char = refl
word_listed word.Uchar = refl
word_listed word.Short = refl
word_listed word.Ushort = refl
word_listed word.Int = refl
word_listed word.Uint = refl
word_listed word.SizeT = refl
word_listed word.Unsigned = refl
word_listed word.Signed = refl
word_listed word.If = refl
word_listed word.Else = refl
word_listed word.While = refl
word_listed word.Do = refl
word_listed word.For = refl
word_listed word.Break = refl
word_listed word.Continue = refl
word_listed word.Return = refl
