-- What the tokens of a tree say: names, numbers, marks and types (C99, 6.4; OpenCL C 1.2, 6.1.1). Where a token isn't of the kind that
-- its place takes, so in no proper tree, it says an empty name, the number 0, a comma or an int.
use Rattle.std.specs.Prelude.{ℕ, Bool, true, false, List, [], Option, Some, None, is_some, ◌||◌}
use Rattle.clc_lexer.specs.declared.token.Token.{Token}
use Rattle.clc_lexer.specs.declared.token.Tok.{Tok}
use Rattle.clc_lexer.specs.declared.token.Tok.TheVariants as tok
use Rattle.clc_lexer.specs.declared.marks.Mark.{Mark}
use Rattle.clc_lexer.specs.declared.marks.Mark.TheVariants as m
use Rattle.clc_lexer.specs.declared.words.Word.TheVariants as w
use Rattle.clc_tree.specs.declared.expressions.Scalar.{Scalar as Written}
use Rattle.clc_tree.specs.declared.expressions.Scalar.TheVariants as written
use Rattle.q_lane.specs.declared.kinds.Scalar.{Scalar}
use Rattle.q_lane.specs.declared.kinds.Scalar.TheVariants.{Char, Uchar, Short, Ushort, Int, Uint}
use Rattle.clc_types.specs.declared.forms.Space.{Space}
use Rattle.clc_types.specs.declared.forms.Space.TheVariants as space

abbrev pub name_in : Tok → List ℕ
name_in (tok.Name x) = x
name_in _ = []

abbrev pub name_of : Token → List ℕ
name_of t = name_in t.kind

abbrev pub mark_in : Tok → Mark
mark_in (tok.Mark o) = o
mark_in _ = m.Comma

abbrev pub mark_of : Token → Mark
mark_of t = mark_in t.kind

abbrev pub value_in : Tok → ℕ
value_in (tok.Number value unsigned) = value
value_in _ = 0

abbrev pub value_of : Token → ℕ
value_of t = value_in t.kind

abbrev pub is_unsigned_in : Tok → Bool
is_unsigned_in (tok.Number value unsigned) = unsigned
is_unsigned_in _ = false

abbrev pub is_unsigned : Token → Bool
is_unsigned t = is_unsigned_in t.kind

abbrev pub is_increment : Mark → Bool
is_increment m.PlusPlus = true
is_increment _ = false

-- a word that is a type of numbers by itself
abbrev pub plain_type : Tok → Scalar
plain_type (tok.Word w.Char) = Char
plain_type (tok.Word w.Uchar) = Uchar
plain_type (tok.Word w.Short) = Short
plain_type (tok.Word w.Ushort) = Ushort
plain_type (tok.Word w.Uint) = Uint
plain_type (tok.Word w.SizeT) = Uint
plain_type _ = Int

abbrev pub unsigned_type : Scalar → Scalar
unsigned_type Char = Uchar
unsigned_type Short = Ushort
unsigned_type _ = Uint

abbrev pub says_unsigned : Tok → Bool
says_unsigned (tok.Word w.Unsigned) = true
says_unsigned _ = false

-- `unsigned` and `signed` alone are uint and int
abbrev pub base_type : Option Token → Scalar
base_type None = Int
base_type (Some t) = plain_type t.kind

abbrev pub signed_type : Bool → Scalar → Scalar
signed_type true s = unsigned_type s
signed_type false s = s

abbrev pub type_of : Written → Scalar
type_of (written.Plain t) = plain_type t.kind
type_of (written.Signed t u) = signed_type (says_unsigned t.kind) (base_type u)

abbrev pub space_in : Tok → Space
space_in (tok.Word w.Constant) = space.Constant
space_in (tok.Word w.UnderscoreConstant) = space.Constant
space_in _ = space.Global

-- `kernel` or `__kernel`, not `inline`
abbrev pub is_kernel_in : Tok → Bool
is_kernel_in (tok.Word w.Kernel) = true
is_kernel_in (tok.Word w.UnderscoreKernel) = true
is_kernel_in _ = false

abbrev pub is_kernel : Option Token → Bool
is_kernel None = false
is_kernel (Some t) = is_kernel_in t.kind

-- ---- counts of tokens

abbrev pub one_if : {A : Type 0} → Option A → ℕ
one_if None = 0
one_if (Some t) = 1

abbrev pub type_tokens : Written → ℕ
type_tokens (written.Plain t) = 1
type_tokens (written.Signed t u) = Rattle.std.specs.Prelude.suc (one_if u)
