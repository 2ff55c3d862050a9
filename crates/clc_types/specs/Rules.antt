-- The typing rules, by the types of operands and their places, and the types that expressions get (OpenCL C 1.2, 6.2, 6.3 and 6.5;
-- C99, 6.3.1.8 and 6.5). p, q and r are the numbers of the operands' first tokens.
use Rattle.std.specs.Prelude.{ℕ, Bool, true, false, not, ◌&&◌, ◌||◌, eqb, nat_eq, nat_le, List, [], ◌∷◌, ◌++◌, Option, Some, None, length, map, bytes_eq, slice_get}
use Rattle.clc_lexer.specs.declared.marks.Mark.{Mark}
use Rattle.clc_lexer.specs.declared.marks.Mark.TheVariants as m
use Rattle.q_lane.specs.declared.kinds.Scalar.{Scalar}
use Rattle.q_lane.specs.declared.kinds.Scalar.TheVariants.{Int, Uint}
use Rattle.clc_types.specs.declared.type_rule.TypeRule.TheVariants.{S3, S4, S5, S6, S7, S8, S9, S12, S13}
use Rattle.clc_types.specs.declared.typed.Builtin.{Builtin}
use Rattle.clc_types.specs.declared.typed.Builtin.TheVariants as b
use Rattle.clc_types.specs.declared.typed.Ty.{Ty}
use Rattle.clc_types.specs.declared.typed.Ty.TheVariants as ty
use Rattle.clc_types.specs.declared.typed.Var.{Var}
use Rattle.clc_types.specs.declared.typed.Var.TheVariants as var
use Rattle.clc_types.specs.declared.forms.Fault.{Fault}
use Rattle.clc_types.specs.declared.forms.Space.{Space}
use Rattle.clc_types.specs.declared.forms.Space.TheVariants as space
use Rattle.clc_types.specs.declared.forms.Shape.{Shape}
use Rattle.clc_types.specs.declared.forms.Shape.TheVariants as shape
use Rattle.clc_types.specs.declared.forms.Kind.{Kind}
use Rattle.clc_types.specs.declared.forms.Kind.TheVariants as k
use Rattle.clc_types.specs.declared.forms.Place.{Place}
use Rattle.clc_types.specs.declared.forms.Place.TheVariants as place
use Rattle.clc_types.specs.declared.forms.Form.{Form}
use Rattle.clc_types.specs.declared.forms.Sofar.{Sofar}
use Rattle.clc_types.specs.declared.forms.Argument.{Argument}
use Rattle.clc_types.specs.declared.forms.Signature.{Signature}
use Rattle.clc_types.specs.declared.forms.Home.{Home}
use Rattle.clc_types.specs.Judged.{violations}
pub use Rattle.clc_types.specs.TypeArithmetic.{same_scalar, is_uint, int_or_uint, common, promoted, unsigned_of, Operator, Sum, Arithmetic, Shift, Truth, Comma, operator_of}

-- ---- kinds of operands

abbrev pub is_void : Kind → Bool
is_void k.Void = true
is_void _ = false

abbrev pub is_scalar : Kind → Bool
is_scalar (k.Value s) = true
is_scalar _ = false

abbrev pub is_pointer : Kind → Bool
is_pointer (k.Pointer s c e) = true
is_pointer _ = false

abbrev pub is_array : Kind → Bool
is_array (k.Array v e) = true
is_array _ = false

abbrev pub is_nowhere : Place → Bool
is_nowhere place.Nowhere = true
is_nowhere _ = false

abbrev pub is_constant : Place → Bool
is_constant place.Constant = true
is_constant _ = false

abbrev pub same_space : Space → Space → Bool
same_space space.Global space.Global = true
same_space space.Constant space.Constant = true
same_space _ _ = false

-- a pointer fits where its space and elements are the same, and where no const is lost
abbrev pub matches : (place value : Kind) → Bool
matches (k.Value s) (k.Value t) = true
matches (k.Pointer s c e) (k.Pointer t d g) = same_space s t && (same_scalar e g && (c || not d))
matches _ _ = false

-- ---- what declarations give

abbrev pub kind_of : ℕ → Shape → Kind
kind_of v (shape.Value s f) = k.Value s
kind_of v (shape.Pointer s c e f) = k.Pointer s c e
kind_of v (shape.Array e n f) = k.Array v e

abbrev pub place_if : Bool → Place
place_if true = place.Constant
place_if false = place.Writable

abbrev pub place_of : Shape → Place
place_of (shape.Value s f) = place_if f
place_of (shape.Pointer s c e f) = place_if f
place_of (shape.Array e n f) = place_if f

-- whether the elements behind a pointer may not be written
abbrev pub is_locked : Space → Bool → Bool
is_locked space.Constant c = true
is_locked space.Global c = c

abbrev pub var_of : Shape → Var
var_of (shape.Value s f) = var.Value s
var_of (shape.Pointer s c e f) = var.Pointer e (is_locked s c)
var_of (shape.Array e n f) = var.Array e n

abbrev pub ty_of : Kind → Ty
ty_of k.Void = ty.Void
ty_of (k.Value s) = ty.Value s
ty_of (k.Pointer s c e) = ty.Pointer e (is_locked s c)
ty_of (k.Array v e) = ty.Void

abbrev pub result_kind : Option Scalar → Kind
result_kind None = k.Void
result_kind (Some s) = k.Value s

-- ---- operands

-- S3: a value is needed; S12: a scalar is needed
abbrev pub scalar_needed : ℕ → Kind → List Fault
scalar_needed p t = violations p ((S3, is_void t) ∷ (S12, is_pointer t || is_array t) ∷ [])

-- S3, S12: what stands before `[` is a pointer or an array
abbrev pub indexed_needed : ℕ → Kind → List Fault
indexed_needed p t = violations p ((S3, is_void t) ∷ (S12, is_scalar t) ∷ [])

-- S3, S12: what stands after `*` is a pointer
abbrev pub pointer_needed : ℕ → Kind → List Fault
pointer_needed p t = violations p ((S3, is_void t) ∷ (S12, is_scalar t || is_array t) ∷ [])

-- S12: an array stands before `[` alone
abbrev pub no_array : ℕ → Kind → List Fault
no_array p t = violations p ((S12, is_array t) ∷ [])

-- S3, S12: a variable gets a value
abbrev pub fit_needed : (place : Kind) → ℕ → Kind → List Fault
fit_needed t q a = violations q ((S3, is_void a) ∷ (S12, not (is_void a) && not (matches t a)) ∷ [])

-- S3, S4, S5, S12: the operand of `++` or `--`
abbrev pub step_needs : ℕ → Form → List Fault
step_needs p x = violations p ((S3, is_void x.kind) ∷ (S4, is_nowhere x.place) ∷ (S5, is_constant x.place) ∷ (S12, is_array x.kind) ∷ [])

abbrev pub index_needs : ℕ → Form → ℕ → Form → List Fault
index_needs p x q y = indexed_needed p x.kind ++ scalar_needed q y.kind

-- ---- operators of chains

-- `+` and `-` take a pointer first
abbrev pub is_sum : Mark → Bool
is_sum m.Plus = true
is_sum m.Minus = true
is_sum _ = false

abbrev pub is_plus : Mark → Bool
is_plus m.Plus = true
is_plus _ = false

-- `+` takes a pointer after a scalar
abbrev pub operands_needed : Mark → ℕ → Kind → ℕ → Kind → List Fault
operands_needed m.Comma p a q b = no_array p a ++ no_array q b
operands_needed o p a q b =
    violations p ((S3, is_void a) ∷ (S12, is_array a || (is_pointer a && not (is_sum o))) ∷ [])
    ++ violations q ((S3, is_void b) ∷ (S12, is_array b || (is_pointer b && not (is_plus o && is_scalar a))) ∷ [])

abbrev pub operator_needs : Mark → ℕ → Sofar → ℕ → Form → List Fault
operator_needs o p a q y = operands_needed o p a.kind q y.kind

-- the scalar of a number; of anything else a test has refused before
abbrev pub scalar_of : Kind → Scalar
scalar_of (k.Value s) = s
scalar_of _ = Int

abbrev pub sum_kind : Kind → Kind → Kind
sum_kind (k.Pointer s c e) b = k.Pointer s c e
sum_kind a (k.Pointer s c e) = k.Pointer s c e
sum_kind a b = k.Value (common (scalar_of a) (scalar_of b))

abbrev pub result_of : Operator → Kind → Kind → Kind
result_of Sum a b = sum_kind a b
result_of Arithmetic a b = k.Value (common (scalar_of a) (scalar_of b))
result_of Shift a b = k.Value (promoted (scalar_of a))
result_of Truth a b = k.Value Int
result_of Comma a b = b

-- ---- prefix operators

-- `!` gives an int
abbrev pub prefix_kind : Mark → Kind → Kind
prefix_kind m.Bang a = k.Value Int
prefix_kind o a = k.Value (promoted (scalar_of a))

-- ---- elements

abbrev pub element_kind : Kind → Kind
element_kind (k.Pointer s c e) = k.Value e
element_kind (k.Array v e) = k.Value e
element_kind _ = k.Void

-- an element of an array is const where the array is; one behind a pointer where the pointer says so
abbrev pub element_place : Kind → Place → Place
element_place (k.Pointer s c e) x = place_if (is_locked s c)
element_place (k.Array v e) x = x
element_place _ x = place.Nowhere

-- ---- conditionals

abbrev pub conditional_needs : ℕ → Form → ℕ → Form → ℕ → Form → List Fault
conditional_needs p x q y r z = scalar_needed p x.kind ++ (scalar_needed q y.kind ++ scalar_needed r z.kind)

-- ---- assignments

-- `=`, `+=` and `-=` take a pointer variable
abbrev pub takes_pointer : Mark → Bool
takes_pointer m.Assign = true
takes_pointer m.PlusAssign = true
takes_pointer m.MinusAssign = true
takes_pointer _ = false

abbrev pub gets : Mark → Kind → Kind → Bool
gets m.Assign a b = matches a b
gets o a b = is_scalar b

-- S3, S4, S5, S12: what is assigned to
abbrev pub assigned_needed : Mark → ℕ → Kind → Place → List Fault
assigned_needed o p t x = violations p ((S3, is_void t) ∷ (S4, is_nowhere x) ∷ (S5, is_constant x) ∷ (S12, is_array t || (is_pointer t && not (takes_pointer o))) ∷ [])

-- S3, S12: the value that is assigned
abbrev pub value_needed : Mark → Kind → ℕ → Kind → List Fault
value_needed o t q a = violations q ((S3, is_void a) ∷ (S12, not (is_void a) && not (gets o t a)) ∷ [])

abbrev pub assign_needs : Mark → ℕ → Form → ℕ → Form → List Fault
assign_needs o p x q y = assigned_needed o p x.kind x.place ++ value_needed o x.kind q y.kind

-- ---- calls

-- S7 of each argument
abbrev pub fits : List Shape → List Argument → List Fault
fits [] xs = []
fits (s ∷ ss) [] = []
fits (s ∷ ss) (x ∷ xs) = violations x.place ((S7, not (matches (kind_of 0 s) x.kind)) ∷ []) ++ fits ss xs

-- a function that must not be called from another one, since it would be too high then
abbrev pub is_highest : Option ℕ → Bool
is_highest None = false
is_highest (Some h) = nat_le 16 h

-- S6, S8, S9, S7: a call of function f in the function after those that have a height
abbrev pub signed_needs : ℕ → Home → ℕ → Option Signature → List Argument → List Fault
signed_needs p home f None args = []
signed_needs p home f (Some s) args =
    violations p
    ((S6, not (eqb (length s.params) (length args)))
    ∷ (S8, s.kernel && not (eqb f (length home.heights)))
    ∷ (S9, eqb f (length home.heights) || is_highest (slice_get home.heights f)) ∷ [])
    ++ fits s.params args

abbrev pub call_needs : ℕ → Home → ℕ → List Argument → List Fault
call_needs p home f args = signed_needs p home f (slice_get home.functions f) args

abbrev pub call_kind : Option Signature → Kind
call_kind None = k.Void
call_kind (Some s) = result_kind s.result

-- ---- built-in functions (OpenCL C 1.2, 6.12.1 and 6.12.3)

-- whether it asks about the work-item
abbrev pub is_work : Builtin → Bool
is_work b.GetWorkDim = true
is_work b.GetGlobalId = true
is_work b.GetGlobalSize = true
is_work b.GetLocalId = true
is_work b.GetLocalSize = true
is_work b.GetGroupId = true
is_work b.GetNumGroups = true
is_work _ = false

abbrev pub number : Shape
number = shape.Value Int false

abbrev pub builtin_params : Builtin → List Shape
builtin_params b.GetWorkDim = []
builtin_params b.GetGlobalId = number ∷ []
builtin_params b.GetGlobalSize = number ∷ []
builtin_params b.GetLocalId = number ∷ []
builtin_params b.GetLocalSize = number ∷ []
builtin_params b.GetGroupId = number ∷ []
builtin_params b.GetNumGroups = number ∷ []
builtin_params b.Min = number ∷ number ∷ []
builtin_params b.Max = number ∷ number ∷ []
builtin_params b.Clamp = number ∷ number ∷ number ∷ []
builtin_params b.Abs = number ∷ []
builtin_params b.AbsDiff = number ∷ number ∷ []
builtin_params b.Mul24 = number ∷ number ∷ []
builtin_params b.MulHi = number ∷ number ∷ []
builtin_params b.Rotate = number ∷ number ∷ []
builtin_params b.Clz = number ∷ []
builtin_params b.Popcount = number ∷ []
builtin_params b.AddSat = number ∷ number ∷ []
builtin_params b.SubSat = number ∷ number ∷ []

-- S6, S7
abbrev pub builtin_needs : ℕ → Builtin → List Argument → List Fault
builtin_needs p f args = violations p ((S6, not (eqb (length (builtin_params f)) (length args))) ∷ []) ++ fits (builtin_params f) args

-- all arguments are of one type, or some is a uint
abbrev pub all_are : Scalar → List Argument → Bool
all_are s [] = true
all_are s (x ∷ xs) = same_scalar s (scalar_of x.kind) && all_are s xs

abbrev pub some_uint : List Argument → Bool
some_uint [] = false
some_uint (x ∷ xs) = is_uint (scalar_of x.kind) || some_uint xs

abbrev pub one_or_common : Scalar → List Argument → Bool → Scalar
one_or_common s xs true = s
one_or_common s xs false = int_or_uint (some_uint xs)

-- the type in which it works: that of all arguments, or else their common one
abbrev pub number_type : List Argument → Scalar
number_type [] = Uint
number_type (x ∷ xs) = one_or_common (scalar_of x.kind) (x ∷ xs) (all_are (scalar_of x.kind) xs)

-- those that ask about the work-item work in uint, and mul24 in int or uint
abbrev pub work_of : Builtin → List Argument → Scalar
work_of b.GetWorkDim xs = Uint
work_of b.GetGlobalId xs = Uint
work_of b.GetGlobalSize xs = Uint
work_of b.GetLocalId xs = Uint
work_of b.GetLocalSize xs = Uint
work_of b.GetGroupId xs = Uint
work_of b.GetNumGroups xs = Uint
work_of b.Mul24 xs = int_or_uint (some_uint xs)
work_of _ xs = number_type xs

-- what it gives: abs and abs_diff the unsigned form of the type in which they work
abbrev pub gives : Builtin → Scalar → Scalar
gives b.Abs s = unsigned_of s
gives b.AbsDiff s = unsigned_of s
gives _ s = s

-- ---- statements

-- S13: a value is returned where the function gives one, and only there
abbrev pub return_needs : Option Scalar → ℕ → Kind → List Fault
return_needs None p a = violations p ((S13, true) ∷ [])
return_needs (Some s) p a = violations p ((S13, not (is_scalar a)) ∷ [])

abbrev pub bare_needs : Option Scalar → ℕ → List Fault
bare_needs None p = []
bare_needs (Some s) p = violations p ((S13, true) ∷ [])

-- S11: an array has from 1 to 1,024 elements
abbrev pub is_size : ℕ → Bool
is_size n = not (eqb n 0) && nat_le n 1024
