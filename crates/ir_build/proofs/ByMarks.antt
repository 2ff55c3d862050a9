-- What holds of the code of each mark holds of the code of any.
use Rattle.std.proofs.Common.{ℕ}
use Rattle.clc_lexer.specs.declared.marks.Mark.{Mark}
use Rattle.clc_lexer.specs.declared.marks.Mark.TheVariants as m
use Rattle.clc_types.specs.declared.typed.Ty.{Ty}
use Rattle.item_ir.specs.declared.form.Def.TheVariants as d
use Rattle.q_lane.specs.declared.operations.UnOp.TheVariants.{Not, Neg}
use Rattle.ir_build.specs.declared.places.Target.{Target}
use Rattle.ir_build.specs.Code.{v, Code, one, none, with_code, zero_test, prefix_code, combined_code, operator_code, and_code, or_code, assign_code, compound_code, assigned_code}

pub prefix_by : (P : Code → Type 0) (o : Mark) (x k : ℕ) → P (one k (d.One Neg (v x))) → P (one k (d.One Not (v x))) → P (zero_test x k) → P (none x k) → P (prefix_code o x k)
prefix_by P m.ShiftLeftAssign x k a b c e = e
prefix_by P m.ShiftRightAssign x k a b c e = e
prefix_by P m.PlusPlus x k a b c e = e
prefix_by P m.MinusMinus x k a b c e = e
prefix_by P m.ShiftLeft x k a b c e = e
prefix_by P m.ShiftRight x k a b c e = e
prefix_by P m.LessEqual x k a b c e = e
prefix_by P m.GreaterEqual x k a b c e = e
prefix_by P m.EqualEqual x k a b c e = e
prefix_by P m.BangEqual x k a b c e = e
prefix_by P m.AndAnd x k a b c e = e
prefix_by P m.OrOr x k a b c e = e
prefix_by P m.PlusAssign x k a b c e = e
prefix_by P m.MinusAssign x k a b c e = e
prefix_by P m.StarAssign x k a b c e = e
prefix_by P m.SlashAssign x k a b c e = e
prefix_by P m.PercentAssign x k a b c e = e
prefix_by P m.AndAssign x k a b c e = e
prefix_by P m.OrAssign x k a b c e = e
prefix_by P m.XorAssign x k a b c e = e
prefix_by P m.LeftParen x k a b c e = e
prefix_by P m.RightParen x k a b c e = e
prefix_by P m.LeftBrace x k a b c e = e
prefix_by P m.RightBrace x k a b c e = e
prefix_by P m.LeftBracket x k a b c e = e
prefix_by P m.RightBracket x k a b c e = e
prefix_by P m.Semicolon x k a b c e = e
prefix_by P m.Comma x k a b c e = e
prefix_by P m.Question x k a b c e = e
prefix_by P m.Colon x k a b c e = e
prefix_by P m.Plus x k a b c e = e
prefix_by P m.Minus x k a b c e = a
prefix_by P m.Star x k a b c e = e
prefix_by P m.Slash x k a b c e = e
prefix_by P m.Percent x k a b c e = e
prefix_by P m.Ampersand x k a b c e = e
prefix_by P m.Bar x k a b c e = e
prefix_by P m.Caret x k a b c e = e
prefix_by P m.Tilde x k a b c e = b
prefix_by P m.Bang x k a b c e = c
prefix_by P m.Less x k a b c e = e
prefix_by P m.Greater x k a b c e = e
prefix_by P m.Assign x k a b c e = e

pub assigned_by : (P : Code → Type 0) (t : Ty) (o : Mark) (from : Ty) (value : ℕ → Code) (to : Target) (k : ℕ) → P (assign_code t value to k) → P (compound_code t o from value to k)
    → P (assigned_code t o from value to k)
assigned_by P t m.ShiftLeftAssign from value to k a b = b
assigned_by P t m.ShiftRightAssign from value to k a b = b
assigned_by P t m.PlusPlus from value to k a b = b
assigned_by P t m.MinusMinus from value to k a b = b
assigned_by P t m.ShiftLeft from value to k a b = b
assigned_by P t m.ShiftRight from value to k a b = b
assigned_by P t m.LessEqual from value to k a b = b
assigned_by P t m.GreaterEqual from value to k a b = b
assigned_by P t m.EqualEqual from value to k a b = b
assigned_by P t m.BangEqual from value to k a b = b
assigned_by P t m.AndAnd from value to k a b = b
assigned_by P t m.OrOr from value to k a b = b
assigned_by P t m.PlusAssign from value to k a b = b
assigned_by P t m.MinusAssign from value to k a b = b
assigned_by P t m.StarAssign from value to k a b = b
assigned_by P t m.SlashAssign from value to k a b = b
assigned_by P t m.PercentAssign from value to k a b = b
assigned_by P t m.AndAssign from value to k a b = b
assigned_by P t m.OrAssign from value to k a b = b
assigned_by P t m.XorAssign from value to k a b = b
assigned_by P t m.LeftParen from value to k a b = b
assigned_by P t m.RightParen from value to k a b = b
assigned_by P t m.LeftBrace from value to k a b = b
assigned_by P t m.RightBrace from value to k a b = b
assigned_by P t m.LeftBracket from value to k a b = b
assigned_by P t m.RightBracket from value to k a b = b
assigned_by P t m.Semicolon from value to k a b = b
assigned_by P t m.Comma from value to k a b = b
assigned_by P t m.Question from value to k a b = b
assigned_by P t m.Colon from value to k a b = b
assigned_by P t m.Plus from value to k a b = b
assigned_by P t m.Minus from value to k a b = b
assigned_by P t m.Star from value to k a b = b
assigned_by P t m.Slash from value to k a b = b
assigned_by P t m.Percent from value to k a b = b
assigned_by P t m.Ampersand from value to k a b = b
assigned_by P t m.Bar from value to k a b = b
assigned_by P t m.Caret from value to k a b = b
assigned_by P t m.Tilde from value to k a b = b
assigned_by P t m.Bang from value to k a b = b
assigned_by P t m.Less from value to k a b = b
assigned_by P t m.Greater from value to k a b = b
assigned_by P t m.Assign from value to k a b = a

pub operator_by : (P : Code → Type 0) (a : Ty) (o : Mark) (c : Ty) (x k : ℕ) (operand : ℕ → Code) → P (and_code x k operand) → P (or_code x k operand) → P (operand k)
    → P (with_code (operand k) (λ y l. combined_code a o c x y l)) → P (operator_code a o c x k operand)
operator_by P a m.ShiftLeftAssign c x k operand p q s e = e
operator_by P a m.ShiftRightAssign c x k operand p q s e = e
operator_by P a m.PlusPlus c x k operand p q s e = e
operator_by P a m.MinusMinus c x k operand p q s e = e
operator_by P a m.ShiftLeft c x k operand p q s e = e
operator_by P a m.ShiftRight c x k operand p q s e = e
operator_by P a m.LessEqual c x k operand p q s e = e
operator_by P a m.GreaterEqual c x k operand p q s e = e
operator_by P a m.EqualEqual c x k operand p q s e = e
operator_by P a m.BangEqual c x k operand p q s e = e
operator_by P a m.AndAnd c x k operand p q s e = p
operator_by P a m.OrOr c x k operand p q s e = q
operator_by P a m.PlusAssign c x k operand p q s e = e
operator_by P a m.MinusAssign c x k operand p q s e = e
operator_by P a m.StarAssign c x k operand p q s e = e
operator_by P a m.SlashAssign c x k operand p q s e = e
operator_by P a m.PercentAssign c x k operand p q s e = e
operator_by P a m.AndAssign c x k operand p q s e = e
operator_by P a m.OrAssign c x k operand p q s e = e
operator_by P a m.XorAssign c x k operand p q s e = e
operator_by P a m.LeftParen c x k operand p q s e = e
operator_by P a m.RightParen c x k operand p q s e = e
operator_by P a m.LeftBrace c x k operand p q s e = e
operator_by P a m.RightBrace c x k operand p q s e = e
operator_by P a m.LeftBracket c x k operand p q s e = e
operator_by P a m.RightBracket c x k operand p q s e = e
operator_by P a m.Semicolon c x k operand p q s e = e
operator_by P a m.Comma c x k operand p q s e = s
operator_by P a m.Question c x k operand p q s e = e
operator_by P a m.Colon c x k operand p q s e = e
operator_by P a m.Plus c x k operand p q s e = e
operator_by P a m.Minus c x k operand p q s e = e
operator_by P a m.Star c x k operand p q s e = e
operator_by P a m.Slash c x k operand p q s e = e
operator_by P a m.Percent c x k operand p q s e = e
operator_by P a m.Ampersand c x k operand p q s e = e
operator_by P a m.Bar c x k operand p q s e = e
operator_by P a m.Caret c x k operand p q s e = e
operator_by P a m.Tilde c x k operand p q s e = e
operator_by P a m.Bang c x k operand p q s e = e
operator_by P a m.Less c x k operand p q s e = e
operator_by P a m.Greater c x k operand p q s e = e
operator_by P a m.Assign c x k operand p q s e = e
