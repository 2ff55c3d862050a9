-- Operators by their marks.
use Rattle.std.proofs.Common.{ℕ, ◌+◌, ◌*◌, ◌≤◌, Bool, true, false, arith}
use Rattle.clc_lexer.specs.declared.marks.Mark.{Mark}
use Rattle.clc_lexer.specs.declared.marks.Mark.TheVariants as m
use Rattle.q_lane.specs.declared.kinds.Scalar.{Scalar}
use Rattle.q_lane.specs.declared.kinds.Scalar.TheVariants.{Char, Uchar, Short, Ushort, Int, Uint}
use Rattle.q_lane.specs.declared.operations.BinOp.{BinOp}
use Rattle.q_lane.specs.declared.operations.BinOp.TheVariants.{Add, Sub}
use Rattle.q_functions.specs.NumberFunctions.{bytes_of}
use Rattle.clc_types.specs.declared.typed.Ty.{Ty}
use Rattle.clc_types.specs.declared.typed.Ty.TheVariants as ty
use Rattle.clc_types.specs.TypeArithmetic.{operator_of, works_in}
use Rattle.clc_counts.specs.Counts.{weight, weight_if, is_quotient}
use Rattle.item_meaning.specs.Operators.{operator_in}
use Rattle.item_meaning.specs.NodeMeanings.{mark_of_step}
use Rattle.ir_build.specs.Code.{Code, way_of, way_code, moved_code, move_of, combined_code, prefix_code}
use Rattle.item_weights.proofs.Sums.{rows}

-- code has at most so many rows, and takes no more numbers than it has rows
abbrev pub Fits : (w k : ℕ) → Code → Type 0
Fits w k c = (rows c.stmts ≤ w) × (c.next ≤ k + rows c.stmts)

some_if : (b : Bool) → 1 ≤ weight_if b
some_if true = omega arith
some_if false = omega arith

pub some_weight : (o : Mark) → 1 ≤ weight o
some_weight o = some_if (is_quotient o)

-- an assigned operator counts as the operator does
pub inner_weight : (o : Mark) → weight (operator_in o) ≤ weight o
inner_weight m.ShiftLeftAssign = omega arith
inner_weight m.ShiftRightAssign = omega arith
inner_weight m.PlusPlus = omega arith
inner_weight m.MinusMinus = omega arith
inner_weight m.ShiftLeft = omega arith
inner_weight m.ShiftRight = omega arith
inner_weight m.LessEqual = omega arith
inner_weight m.GreaterEqual = omega arith
inner_weight m.EqualEqual = omega arith
inner_weight m.BangEqual = omega arith
inner_weight m.AndAnd = omega arith
inner_weight m.OrOr = omega arith
inner_weight m.PlusAssign = omega arith
inner_weight m.MinusAssign = omega arith
inner_weight m.StarAssign = omega arith
inner_weight m.SlashAssign = omega arith
inner_weight m.PercentAssign = omega arith
inner_weight m.AndAssign = omega arith
inner_weight m.OrAssign = omega arith
inner_weight m.XorAssign = omega arith
inner_weight m.LeftParen = omega arith
inner_weight m.RightParen = omega arith
inner_weight m.LeftBrace = omega arith
inner_weight m.RightBrace = omega arith
inner_weight m.LeftBracket = omega arith
inner_weight m.RightBracket = omega arith
inner_weight m.Semicolon = omega arith
inner_weight m.Comma = omega arith
inner_weight m.Question = omega arith
inner_weight m.Colon = omega arith
inner_weight m.Plus = omega arith
inner_weight m.Minus = omega arith
inner_weight m.Star = omega arith
inner_weight m.Slash = omega arith
inner_weight m.Percent = omega arith
inner_weight m.Ampersand = omega arith
inner_weight m.Bar = omega arith
inner_weight m.Caret = omega arith
inner_weight m.Tilde = omega arith
inner_weight m.Bang = omega arith
inner_weight m.Less = omega arith
inner_weight m.Greater = omega arith
inner_weight m.Assign = omega arith

shift_fits : (t : Scalar) (i j k : ℕ) → Fits (15 * 1) k (way_code (way_of t m.ShiftRight) i j k)
shift_fits Char i j k = (omega arith, omega arith)
shift_fits Uchar i j k = (omega arith, omega arith)
shift_fits Short i j k = (omega arith, omega arith)
shift_fits Ushort i j k = (omega arith, omega arith)
shift_fits Int i j k = (omega arith, omega arith)
shift_fits Uint i j k = (omega arith, omega arith)

way_fits : (t : Scalar) (o : Mark) (i j k : ℕ) → Fits (15 * weight o) k (way_code (way_of t o) i j k)
way_fits t m.ShiftLeftAssign i j k = (omega arith, omega arith)
way_fits t m.ShiftRightAssign i j k = (omega arith, omega arith)
way_fits t m.PlusPlus i j k = (omega arith, omega arith)
way_fits t m.MinusMinus i j k = (omega arith, omega arith)
way_fits t m.ShiftLeft i j k = (omega arith, omega arith)
way_fits t m.ShiftRight i j k = shift_fits t i j k
way_fits t m.LessEqual i j k = (omega arith, omega arith)
way_fits t m.GreaterEqual i j k = (omega arith, omega arith)
way_fits t m.EqualEqual i j k = (omega arith, omega arith)
way_fits t m.BangEqual i j k = (omega arith, omega arith)
way_fits t m.AndAnd i j k = (omega arith, omega arith)
way_fits t m.OrOr i j k = (omega arith, omega arith)
way_fits t m.PlusAssign i j k = (omega arith, omega arith)
way_fits t m.MinusAssign i j k = (omega arith, omega arith)
way_fits t m.StarAssign i j k = (omega arith, omega arith)
way_fits t m.SlashAssign i j k = (omega arith, omega arith)
way_fits t m.PercentAssign i j k = (omega arith, omega arith)
way_fits t m.AndAssign i j k = (omega arith, omega arith)
way_fits t m.OrAssign i j k = (omega arith, omega arith)
way_fits t m.XorAssign i j k = (omega arith, omega arith)
way_fits t m.LeftParen i j k = (omega arith, omega arith)
way_fits t m.RightParen i j k = (omega arith, omega arith)
way_fits t m.LeftBrace i j k = (omega arith, omega arith)
way_fits t m.RightBrace i j k = (omega arith, omega arith)
way_fits t m.LeftBracket i j k = (omega arith, omega arith)
way_fits t m.RightBracket i j k = (omega arith, omega arith)
way_fits t m.Semicolon i j k = (omega arith, omega arith)
way_fits t m.Comma i j k = (omega arith, omega arith)
way_fits t m.Question i j k = (omega arith, omega arith)
way_fits t m.Colon i j k = (omega arith, omega arith)
way_fits t m.Plus i j k = (omega arith, omega arith)
way_fits t m.Minus i j k = (omega arith, omega arith)
way_fits t m.Star i j k = (omega arith, omega arith)
way_fits t m.Slash i j k = (omega arith, omega arith)
way_fits t m.Percent i j k = (omega arith, omega arith)
way_fits t m.Ampersand i j k = (omega arith, omega arith)
way_fits t m.Bar i j k = (omega arith, omega arith)
way_fits t m.Caret i j k = (omega arith, omega arith)
way_fits t m.Tilde i j k = (omega arith, omega arith)
way_fits t m.Bang i j k = (omega arith, omega arith)
way_fits t m.Less i j k = (omega arith, omega arith)
way_fits t m.Greater i j k = (omega arith, omega arith)
way_fits t m.Assign i j k = (omega arith, omega arith)

move_by : (P : BinOp → Type 0) (o : Mark) → P Add → P Sub → P (move_of o)
move_by P m.ShiftLeftAssign a b = a
move_by P m.ShiftRightAssign a b = a
move_by P m.PlusPlus a b = a
move_by P m.MinusMinus a b = a
move_by P m.ShiftLeft a b = a
move_by P m.ShiftRight a b = a
move_by P m.LessEqual a b = a
move_by P m.GreaterEqual a b = a
move_by P m.EqualEqual a b = a
move_by P m.BangEqual a b = a
move_by P m.AndAnd a b = a
move_by P m.OrOr a b = a
move_by P m.PlusAssign a b = a
move_by P m.MinusAssign a b = a
move_by P m.StarAssign a b = a
move_by P m.SlashAssign a b = a
move_by P m.PercentAssign a b = a
move_by P m.AndAssign a b = a
move_by P m.OrAssign a b = a
move_by P m.XorAssign a b = a
move_by P m.LeftParen a b = a
move_by P m.RightParen a b = a
move_by P m.LeftBrace a b = a
move_by P m.RightBrace a b = a
move_by P m.LeftBracket a b = a
move_by P m.RightBracket a b = a
move_by P m.Semicolon a b = a
move_by P m.Comma a b = a
move_by P m.Question a b = a
move_by P m.Colon a b = a
move_by P m.Plus a b = a
move_by P m.Minus a b = b
move_by P m.Star a b = a
move_by P m.Slash a b = a
move_by P m.Percent a b = a
move_by P m.Ampersand a b = a
move_by P m.Bar a b = a
move_by P m.Caret a b = a
move_by P m.Tilde a b = a
move_by P m.Bang a b = a
move_by P m.Less a b = a
move_by P m.Greater a b = a
move_by P m.Assign a b = a

move_fits : (o : Mark) (size i j k : ℕ) → Fits 3 k (moved_code (move_of o) size i j k)
move_fits o size i j k = move_by (λ op. Fits 3 k (moved_code op size i j k)) o (omega arith, omega arith) (omega arith, omega arith)

few_fits : (o : Mark) (k : ℕ) (c : Code) → Fits 3 k c → Fits (15 * weight o) k c
few_fits o k c p = let w = some_weight o in let a = p.0 in (omega (arith, w, a), p.1)

none_fits : (o : Mark) (k : ℕ) → (0 ≤ 15 * weight o) × (k ≤ k + 0)
none_fits o k = (omega arith, omega arith)

pub combined_fits : (a : Ty) (o : Mark) (b : Ty) (i j k : ℕ) → Fits (15 * weight o) k (combined_code a o b i j k)
combined_fits (ty.Value a) o (ty.Value b) i j k = way_fits (works_in (operator_of o) a b) o i j k
combined_fits (ty.Pointer a c) o (ty.Value b) i j k = few_fits o k (moved_code (move_of o) (bytes_of a) i j k) (move_fits o (bytes_of a) i j k)
combined_fits (ty.Value a) o (ty.Pointer b c) i j k = few_fits o k (moved_code (move_of o) (bytes_of b) j i k) (move_fits o (bytes_of b) j i k)
combined_fits (ty.Pointer a c) o (ty.Pointer b e) i j k = none_fits o k
combined_fits (ty.Pointer a c) o ty.Void i j k = none_fits o k
combined_fits (ty.Value a) o ty.Void i j k = none_fits o k
combined_fits ty.Void o b i j k = none_fits o k

-- a step up or down
pub moves_fit : (t : Ty) (up : Bool) (b : Scalar) (i j k : ℕ) → Fits 3 k (combined_code t (mark_of_step up) (ty.Value b) i j k)
moves_fit (ty.Value s) true b i j k = (omega arith, omega arith)
moves_fit (ty.Value s) false b i j k = (omega arith, omega arith)
moves_fit (ty.Pointer e c) true b i j k = (omega arith, omega arith)
moves_fit (ty.Pointer e c) false b i j k = (omega arith, omega arith)
moves_fit ty.Void up b i j k = (omega arith, omega arith)

pub prefix_fits : (o : Mark) (i k : ℕ) → Fits 11 k (prefix_code o i k)
prefix_fits m.ShiftLeftAssign i k = (omega arith, omega arith)
prefix_fits m.ShiftRightAssign i k = (omega arith, omega arith)
prefix_fits m.PlusPlus i k = (omega arith, omega arith)
prefix_fits m.MinusMinus i k = (omega arith, omega arith)
prefix_fits m.ShiftLeft i k = (omega arith, omega arith)
prefix_fits m.ShiftRight i k = (omega arith, omega arith)
prefix_fits m.LessEqual i k = (omega arith, omega arith)
prefix_fits m.GreaterEqual i k = (omega arith, omega arith)
prefix_fits m.EqualEqual i k = (omega arith, omega arith)
prefix_fits m.BangEqual i k = (omega arith, omega arith)
prefix_fits m.AndAnd i k = (omega arith, omega arith)
prefix_fits m.OrOr i k = (omega arith, omega arith)
prefix_fits m.PlusAssign i k = (omega arith, omega arith)
prefix_fits m.MinusAssign i k = (omega arith, omega arith)
prefix_fits m.StarAssign i k = (omega arith, omega arith)
prefix_fits m.SlashAssign i k = (omega arith, omega arith)
prefix_fits m.PercentAssign i k = (omega arith, omega arith)
prefix_fits m.AndAssign i k = (omega arith, omega arith)
prefix_fits m.OrAssign i k = (omega arith, omega arith)
prefix_fits m.XorAssign i k = (omega arith, omega arith)
prefix_fits m.LeftParen i k = (omega arith, omega arith)
prefix_fits m.RightParen i k = (omega arith, omega arith)
prefix_fits m.LeftBrace i k = (omega arith, omega arith)
prefix_fits m.RightBrace i k = (omega arith, omega arith)
prefix_fits m.LeftBracket i k = (omega arith, omega arith)
prefix_fits m.RightBracket i k = (omega arith, omega arith)
prefix_fits m.Semicolon i k = (omega arith, omega arith)
prefix_fits m.Comma i k = (omega arith, omega arith)
prefix_fits m.Question i k = (omega arith, omega arith)
prefix_fits m.Colon i k = (omega arith, omega arith)
prefix_fits m.Plus i k = (omega arith, omega arith)
prefix_fits m.Minus i k = (omega arith, omega arith)
prefix_fits m.Star i k = (omega arith, omega arith)
prefix_fits m.Slash i k = (omega arith, omega arith)
prefix_fits m.Percent i k = (omega arith, omega arith)
prefix_fits m.Ampersand i k = (omega arith, omega arith)
prefix_fits m.Bar i k = (omega arith, omega arith)
prefix_fits m.Caret i k = (omega arith, omega arith)
prefix_fits m.Tilde i k = (omega arith, omega arith)
prefix_fits m.Bang i k = (omega arith, omega arith)
prefix_fits m.Less i k = (omega arith, omega arith)
prefix_fits m.Greater i k = (omega arith, omega arith)
prefix_fits m.Assign i k = (omega arith, omega arith)
