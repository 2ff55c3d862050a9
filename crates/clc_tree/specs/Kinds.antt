-- Which tokens a place of the grammar takes: kinds of tokens, and the tightness of binary operators.
use Rattle.std.specs.Prelude.{ℕ, Bool, true, false, eqb}
use Rattle.clc_lexer.specs.declared.token.Token.{Token}
use Rattle.clc_lexer.specs.declared.token.Tok.{Tok}
use Rattle.clc_lexer.specs.declared.token.Tok.TheVariants as tok
use Rattle.clc_lexer.specs.declared.marks.Mark as marks
use Rattle.clc_lexer.specs.declared.marks.Mark.TheVariants as m
use Rattle.clc_lexer.specs.declared.words.Word as words
use Rattle.clc_lexer.specs.declared.words.Word.TheVariants as w
use Rattle.clc_tree.specs.declared.kinds.Kind.{Kind}
use Rattle.clc_tree.specs.declared.kinds.Kind.TheVariants as k

-- what the grammar sees of a token
pub data Class : Type 0 where
  Name : Class
  Number : Class
  Word : words.Word → Class
  Mark : marks.Mark → Class

abbrev pub class_of : Tok → Class
class_of (tok.Name text) = Name
class_of (tok.Number value unsigned) = Number
class_of (tok.Word word) = Word word
class_of (tok.Mark mark) = Mark mark

abbrev pub left_paren : Class → Bool
left_paren (Mark m.LeftParen) = true
left_paren _ = false

abbrev pub right_paren : Class → Bool
right_paren (Mark m.RightParen) = true
right_paren _ = false

abbrev pub left_bracket : Class → Bool
left_bracket (Mark m.LeftBracket) = true
left_bracket _ = false

abbrev pub right_bracket : Class → Bool
right_bracket (Mark m.RightBracket) = true
right_bracket _ = false

abbrev pub left_brace : Class → Bool
left_brace (Mark m.LeftBrace) = true
left_brace _ = false

abbrev pub right_brace : Class → Bool
right_brace (Mark m.RightBrace) = true
right_brace _ = false

abbrev pub semicolon : Class → Bool
semicolon (Mark m.Semicolon) = true
semicolon _ = false

abbrev pub comma : Class → Bool
comma (Mark m.Comma) = true
comma _ = false

abbrev pub question : Class → Bool
question (Mark m.Question) = true
question _ = false

abbrev pub colon : Class → Bool
colon (Mark m.Colon) = true
colon _ = false

-- the `=` of an initialiser
abbrev pub equals : Class → Bool
equals (Mark m.Assign) = true
equals _ = false

-- the `*` of a pointer
abbrev pub star : Class → Bool
star (Mark m.Star) = true
star _ = false

-- `++` or `--`
abbrev pub step : Class → Bool
step (Mark m.PlusPlus) = true
step (Mark m.MinusMinus) = true
step _ = false

-- a prefix operator that takes a cast
abbrev pub prefix : Class → Bool
prefix (Mark m.Plus) = true
prefix (Mark m.Minus) = true
prefix (Mark m.Tilde) = true
prefix (Mark m.Bang) = true
prefix (Mark m.Star) = true
prefix _ = false

-- an assignment operator
abbrev pub assignment : Class → Bool
assignment (Mark m.Assign) = true
assignment (Mark m.PlusAssign) = true
assignment (Mark m.MinusAssign) = true
assignment (Mark m.StarAssign) = true
assignment (Mark m.SlashAssign) = true
assignment (Mark m.PercentAssign) = true
assignment (Mark m.ShiftLeftAssign) = true
assignment (Mark m.ShiftRightAssign) = true
assignment (Mark m.AndAssign) = true
assignment (Mark m.OrAssign) = true
assignment (Mark m.XorAssign) = true
assignment _ = false

-- what goes on with a primary expression
abbrev pub post_step : Class → Bool
post_step (Mark m.LeftBracket) = true
post_step (Mark m.PlusPlus) = true
post_step (Mark m.MinusMinus) = true
post_step _ = false

abbrev pub name : Class → Bool
name Name = true
name _ = false

abbrev pub number : Class → Bool
number Number = true
number _ = false

abbrev pub const_word : Class → Bool
const_word (Word w.Const) = true
const_word _ = false

abbrev pub restrict_word : Class → Bool
restrict_word (Word w.Restrict) = true
restrict_word _ = false

abbrev pub void_word : Class → Bool
void_word (Word w.Void) = true
void_word _ = false

abbrev pub if_word : Class → Bool
if_word (Word w.If) = true
if_word _ = false

abbrev pub else_word : Class → Bool
else_word (Word w.Else) = true
else_word _ = false

abbrev pub while_word : Class → Bool
while_word (Word w.While) = true
while_word _ = false

abbrev pub do_word : Class → Bool
do_word (Word w.Do) = true
do_word _ = false

abbrev pub for_word : Class → Bool
for_word (Word w.For) = true
for_word _ = false

abbrev pub break_word : Class → Bool
break_word (Word w.Break) = true
break_word _ = false

abbrev pub continue_word : Class → Bool
continue_word (Word w.Continue) = true
continue_word _ = false

abbrev pub return_word : Class → Bool
return_word (Word w.Return) = true
return_word _ = false

-- what may stand before a function's result
abbrev pub lead : Class → Bool
lead (Word w.Kernel) = true
lead (Word w.UnderscoreKernel) = true
lead (Word w.Inline) = true
lead _ = false

-- an address space
abbrev pub space : Class → Bool
space (Word w.Global) = true
space (Word w.UnderscoreGlobal) = true
space (Word w.Constant) = true
space (Word w.UnderscoreConstant) = true
space _ = false

-- a word that is a type of numbers alone
abbrev pub plain_word : Class → Bool
plain_word (Word w.Char) = true
plain_word (Word w.Uchar) = true
plain_word (Word w.Short) = true
plain_word (Word w.Ushort) = true
plain_word (Word w.Int) = true
plain_word (Word w.Uint) = true
plain_word (Word w.SizeT) = true
plain_word _ = false

-- `unsigned` or `signed`
abbrev pub sign_word : Class → Bool
sign_word (Word w.Unsigned) = true
sign_word (Word w.Signed) = true
sign_word _ = false

-- a word that may stand after `unsigned` or `signed`
abbrev pub base_word : Class → Bool
base_word (Word w.Char) = true
base_word (Word w.Short) = true
base_word (Word w.Int) = true
base_word _ = false

-- what a type of numbers begins with
abbrev pub scalar_word : Class → Bool
scalar_word (Word w.Char) = true
scalar_word (Word w.Uchar) = true
scalar_word (Word w.Short) = true
scalar_word (Word w.Ushort) = true
scalar_word (Word w.Int) = true
scalar_word (Word w.Uint) = true
scalar_word (Word w.SizeT) = true
scalar_word (Word w.Unsigned) = true
scalar_word (Word w.Signed) = true
scalar_word _ = false

-- what an expression begins with
abbrev pub expr_start : Class → Bool
expr_start Name = true
expr_start Number = true
expr_start (Mark m.LeftParen) = true
expr_start (Mark m.PlusPlus) = true
expr_start (Mark m.MinusMinus) = true
expr_start (Mark m.Plus) = true
expr_start (Mark m.Minus) = true
expr_start (Mark m.Tilde) = true
expr_start (Mark m.Bang) = true
expr_start (Mark m.Star) = true
expr_start _ = false

-- what a declaration or a parameter begins with
abbrev pub declare_start : Class → Bool
declare_start (Word w.Const) = true
declare_start (Word w.Global) = true
declare_start (Word w.UnderscoreGlobal) = true
declare_start (Word w.Constant) = true
declare_start (Word w.UnderscoreConstant) = true
declare_start (Word w.Char) = true
declare_start (Word w.Uchar) = true
declare_start (Word w.Short) = true
declare_start (Word w.Ushort) = true
declare_start (Word w.Int) = true
declare_start (Word w.Uint) = true
declare_start (Word w.SizeT) = true
declare_start (Word w.Unsigned) = true
declare_start (Word w.Signed) = true
declare_start _ = false

-- what a statement begins with
abbrev pub stmt_start : Class → Bool
stmt_start Name = true
stmt_start Number = true
stmt_start (Mark m.LeftParen) = true
stmt_start (Mark m.PlusPlus) = true
stmt_start (Mark m.MinusMinus) = true
stmt_start (Mark m.Plus) = true
stmt_start (Mark m.Minus) = true
stmt_start (Mark m.Tilde) = true
stmt_start (Mark m.Bang) = true
stmt_start (Mark m.Star) = true
stmt_start (Mark m.LeftBrace) = true
stmt_start (Mark m.Semicolon) = true
stmt_start (Word w.If) = true
stmt_start (Word w.While) = true
stmt_start (Word w.Do) = true
stmt_start (Word w.For) = true
stmt_start (Word w.Break) = true
stmt_start (Word w.Continue) = true
stmt_start (Word w.Return) = true
stmt_start _ = false

-- what a part of a block begins with
abbrev pub part_start : Class → Bool
part_start Name = true
part_start Number = true
part_start (Mark m.LeftParen) = true
part_start (Mark m.PlusPlus) = true
part_start (Mark m.MinusMinus) = true
part_start (Mark m.Plus) = true
part_start (Mark m.Minus) = true
part_start (Mark m.Tilde) = true
part_start (Mark m.Bang) = true
part_start (Mark m.Star) = true
part_start (Mark m.LeftBrace) = true
part_start (Mark m.Semicolon) = true
part_start (Word w.Const) = true
part_start (Word w.Global) = true
part_start (Word w.UnderscoreGlobal) = true
part_start (Word w.Constant) = true
part_start (Word w.UnderscoreConstant) = true
part_start (Word w.Char) = true
part_start (Word w.Uchar) = true
part_start (Word w.Short) = true
part_start (Word w.Ushort) = true
part_start (Word w.Int) = true
part_start (Word w.Uint) = true
part_start (Word w.SizeT) = true
part_start (Word w.Unsigned) = true
part_start (Word w.Signed) = true
part_start (Word w.If) = true
part_start (Word w.While) = true
part_start (Word w.Do) = true
part_start (Word w.For) = true
part_start (Word w.Break) = true
part_start (Word w.Continue) = true
part_start (Word w.Return) = true
part_start _ = false

-- what a function begins with
abbrev pub function_start : Class → Bool
function_start (Word w.Kernel) = true
function_start (Word w.UnderscoreKernel) = true
function_start (Word w.Inline) = true
function_start (Word w.Void) = true
function_start (Word w.Char) = true
function_start (Word w.Uchar) = true
function_start (Word w.Short) = true
function_start (Word w.Ushort) = true
function_start (Word w.Int) = true
function_start (Word w.Uint) = true
function_start (Word w.SizeT) = true
function_start (Word w.Unsigned) = true
function_start (Word w.Signed) = true
function_start _ = false

-- ---- binary operators (C99, 6.5.5 to 6.5.14)

-- how tightly an operator binds: those of rank 0 bind most. Other marks have rank 10.
abbrev pub mark_rank : marks.Mark → ℕ
mark_rank m.Star = 0
mark_rank m.Slash = 0
mark_rank m.Percent = 0
mark_rank m.Plus = 1
mark_rank m.Minus = 1
mark_rank m.ShiftLeft = 2
mark_rank m.ShiftRight = 2
mark_rank m.Less = 3
mark_rank m.Greater = 3
mark_rank m.LessEqual = 3
mark_rank m.GreaterEqual = 3
mark_rank m.EqualEqual = 4
mark_rank m.BangEqual = 4
mark_rank m.Ampersand = 5
mark_rank m.Caret = 6
mark_rank m.Bar = 7
mark_rank m.AndAnd = 8
mark_rank m.OrOr = 9
mark_rank _ = 10

-- how many ranks there are
abbrev pub ranks : ℕ
ranks = 10

abbrev pub class_rank : Class → ℕ
class_rank (Mark x) = mark_rank x
class_rank _ = 10

abbrev pub rank : Token → ℕ
rank t = class_rank (class_of t.kind)

-- ---- tokens of a kind

abbrev pub takes : Kind → Class → Bool
takes k.LeftParen = left_paren
takes k.RightParen = right_paren
takes k.LeftBracket = left_bracket
takes k.RightBracket = right_bracket
takes k.LeftBrace = left_brace
takes k.RightBrace = right_brace
takes k.Semicolon = semicolon
takes k.Comma = comma
takes k.Question = question
takes k.Colon = colon
takes k.Equals = equals
takes k.Star = star
takes k.Step = step
takes k.Prefix = prefix
takes k.Assignment = assignment
takes k.PostStep = post_step
takes k.Name = name
takes k.Number = number
takes k.Const = const_word
takes k.Restrict = restrict_word
takes k.Void = void_word
takes k.If = if_word
takes k.Else = else_word
takes k.While = while_word
takes k.Do = do_word
takes k.For = for_word
takes k.Break = break_word
takes k.Continue = continue_word
takes k.Return = return_word
takes k.Lead = lead
takes k.Space = space
takes k.PlainWord = plain_word
takes k.SignWord = sign_word
takes k.BaseWord = base_word
takes k.ScalarWord = scalar_word
takes k.ExprStart = expr_start
takes k.DeclareStart = declare_start
takes k.StmtStart = stmt_start
takes k.PartStart = part_start
takes k.FunctionStart = function_start
takes (k.Rank n) = λ c. eqb (class_rank c) n

abbrev pub is : Kind → Token → Bool
is kind t = takes kind (class_of t.kind)
