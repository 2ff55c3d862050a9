-- A prefix operator is one token before its operand.
use Rattle.std.proofs.Common.{◌≡◌, ℕ, suc, ◌+◌, arith}
use Rattle.clc_lexer.specs.declared.token.Token.{Token}
use Rattle.clc_lexer.specs.declared.marks.Mark.{Mark}
use Rattle.clc_lexer.specs.declared.marks.Mark.TheVariants as m
use Rattle.clc_types.specs.declared.forms.Form.{Form}
use Rattle.clc_types.specs.Judged.{Part}
use Rattle.clc_types.specs.Typing.{prefixed}

pub prefixed_tokens : (t : Token) (o : Mark) (a : Part Form) → (prefixed t o a).tokens ≡ suc a.tokens
prefixed_tokens t m.ShiftLeftAssign a = omega arith
prefixed_tokens t m.ShiftRightAssign a = omega arith
prefixed_tokens t m.PlusPlus a = omega arith
prefixed_tokens t m.MinusMinus a = omega arith
prefixed_tokens t m.ShiftLeft a = omega arith
prefixed_tokens t m.ShiftRight a = omega arith
prefixed_tokens t m.LessEqual a = omega arith
prefixed_tokens t m.GreaterEqual a = omega arith
prefixed_tokens t m.EqualEqual a = omega arith
prefixed_tokens t m.BangEqual a = omega arith
prefixed_tokens t m.AndAnd a = omega arith
prefixed_tokens t m.OrOr a = omega arith
prefixed_tokens t m.PlusAssign a = omega arith
prefixed_tokens t m.MinusAssign a = omega arith
prefixed_tokens t m.StarAssign a = omega arith
prefixed_tokens t m.SlashAssign a = omega arith
prefixed_tokens t m.PercentAssign a = omega arith
prefixed_tokens t m.AndAssign a = omega arith
prefixed_tokens t m.OrAssign a = omega arith
prefixed_tokens t m.XorAssign a = omega arith
prefixed_tokens t m.LeftParen a = omega arith
prefixed_tokens t m.RightParen a = omega arith
prefixed_tokens t m.LeftBrace a = omega arith
prefixed_tokens t m.RightBrace a = omega arith
prefixed_tokens t m.LeftBracket a = omega arith
prefixed_tokens t m.RightBracket a = omega arith
prefixed_tokens t m.Semicolon a = omega arith
prefixed_tokens t m.Comma a = omega arith
prefixed_tokens t m.Question a = omega arith
prefixed_tokens t m.Colon a = omega arith
prefixed_tokens t m.Plus a = omega arith
prefixed_tokens t m.Minus a = omega arith
prefixed_tokens t m.Star a = omega arith
prefixed_tokens t m.Slash a = omega arith
prefixed_tokens t m.Percent a = omega arith
prefixed_tokens t m.Ampersand a = omega arith
prefixed_tokens t m.Bar a = omega arith
prefixed_tokens t m.Caret a = omega arith
prefixed_tokens t m.Tilde a = omega arith
prefixed_tokens t m.Bang a = omega arith
prefixed_tokens t m.Less a = omega arith
prefixed_tokens t m.Greater a = omega arith
prefixed_tokens t m.Assign a = omega arith
