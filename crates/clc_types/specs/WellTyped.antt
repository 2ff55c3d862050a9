-- What makes a typed program well typed (OpenCL C 1.2, 6.2, 6.3, 6.5, 6.8 and 6.9; C99, 6.5, 6.8 and 6.9): each expression has the type
-- that its operands give it, each number names what its place takes, and each mark is an operator of its place. Which variables are const
-- no tree says.
use Rattle.std.specs.Prelude.{ℕ, suc, Bool, true, false, not, ◌&&◌, ◌||◌, eqb, nat_lt, nat_le, List, [], ◌∷◌, ◌++◌, Option, Some, None, is_some, length, map, take, slice_get}
use Rattle.clc_lexer.specs.declared.marks.Mark.{Mark}
use Rattle.clc_lexer.specs.declared.marks.Mark.TheVariants as m
use Rattle.clc_tree.specs.Kinds as kinds
use Rattle.q_lane.specs.declared.kinds.Scalar.{Scalar}
use Rattle.q_lane.specs.declared.kinds.Scalar.TheVariants.{Int, Uint}
use Rattle.clc_types.specs.declared.typed.Ty.{Ty}
use Rattle.clc_types.specs.declared.typed.Ty.TheVariants as ty
use Rattle.clc_types.specs.declared.typed.Var.{Var}
use Rattle.clc_types.specs.declared.typed.Var.TheVariants as var
use Rattle.clc_types.specs.declared.typed.Node.TheOpen as e
use Rattle.clc_types.specs.declared.typed.Node.TheOpen.{Node-F}
use Rattle.clc_types.specs.declared.typed.Node.TheFolds.{fold-TExpr}
use Rattle.clc_types.specs.declared.typed.Node.TheVariants as n
use Rattle.clc_types.specs.declared.typed.TExpr.{TExpr, roll-TExpr}
use Rattle.clc_types.specs.declared.typed.TStmt.{TStmt, out-TStmt}
use Rattle.clc_types.specs.declared.typed.TStmt.TheOpen as s
use Rattle.clc_types.specs.declared.typed.TStmt.TheOpen.{TStmt-F}
use Rattle.clc_types.specs.declared.typed.TStmt.TheFolds.{fold-TStmt}
use Rattle.clc_types.specs.declared.typed.TFunction.{TFunction}
use Rattle.clc_types.specs.declared.forms.Kind.{Kind}
use Rattle.clc_types.specs.declared.forms.Kind.TheVariants as k
use Rattle.clc_types.specs.declared.forms.Space.TheVariants as space
use Rattle.clc_types.specs.declared.forms.Argument.{Argument}
use Rattle.clc_types.specs.Rules.{same_scalar, is_sum, is_plus, takes_pointer, common, scalar_of, operator_of, result_of, prefix_kind, result_kind, ty_of, builtin_params, work_of, gives, is_size}

-- ---- types

abbrev pub is_number : Ty → Bool
is_number (ty.Value s) = true
is_number _ = false

abbrev pub is_pointer : Ty → Bool
is_pointer (ty.Pointer e c) = true
is_pointer _ = false

-- a pointer to elements that may be written
abbrev pub is_open : Ty → Bool
is_open (ty.Pointer e c) = not c
is_open _ = false

abbrev pub same_flag : Bool → Bool → Bool
same_flag true d = d
same_flag false d = not d

abbrev pub same_type : Ty → Ty → Bool
same_type ty.Void ty.Void = true
same_type (ty.Value s) (ty.Value u) = same_scalar s u
same_type (ty.Pointer e c) (ty.Pointer f d) = same_scalar e f && same_flag c d
same_type _ _ = false

-- a pointer, with the type of its elements
abbrev pub points_to : Ty → Ty → Bool
points_to (ty.Pointer e c) t = same_type (ty.Value e) t
points_to _ t = false

-- a variable of the first type takes a value of the second: a number any number, a pointer one to such elements, where no const is lost
abbrev pub accepts : Ty → Ty → Bool
accepts (ty.Value s) (ty.Value u) = true
accepts (ty.Pointer e c) (ty.Pointer f d) = same_scalar e f && (c || not d)
accepts _ _ = false

-- a type as the rules look at it. Which space a pointer has decides no more than whether its elements may be written
abbrev pub kind_of_type : Ty → Kind
kind_of_type ty.Void = k.Void
kind_of_type (ty.Value s) = k.Value s
kind_of_type (ty.Pointer e c) = k.Pointer space.Global c e

-- an argument of a type, here a 0: the rules look at its type alone
abbrev pub argument_of : Ty → Argument
argument_of t = record { place = 0; kind = kind_of_type t; expr = roll-TExpr (record { at = 0; ty = t; node = n.Number 0 }) }

-- ---- marks

-- `+`, `-`, `~` or `!`
abbrev pub is_prefix : Mark → Bool
is_prefix o = kinds.prefix (kinds.Mark o) && not (kinds.star (kinds.Mark o))

abbrev pub is_comma : Mark → Bool
is_comma o = kinds.comma (kinds.Mark o)

-- a binary operator or a comma
abbrev pub is_operator : Mark → Bool
is_operator o = nat_lt (kinds.mark_rank o) kinds.ranks || is_comma o

abbrev pub is_assignment : Mark → Bool
is_assignment o = kinds.assignment (kinds.Mark o)

-- the operands that an operator takes: two numbers; `+` and `-` a pointer first, `+` a pointer after a number; a comma whatever there is
abbrev pub takes : Mark → Ty → Ty → Bool
takes o (ty.Value s) (ty.Value u) = true
takes o (ty.Pointer e c) (ty.Value u) = is_sum o || is_comma o
takes o (ty.Value s) (ty.Pointer e c) = is_plus o || is_comma o
takes o t u = is_comma o

-- the place and the value that an assignment operator takes: `=` a value that the place accepts; `+=` and `-=` a pointer or a number
-- with a number, the others two numbers
abbrev pub assigns : Mark → Ty → Ty → Bool
assigns m.Assign t u = accepts t u
assigns o t u = (is_number t || (is_pointer t && takes_pointer o)) && is_number u

-- ---- variables

-- the type of a variable's value. An array has none
abbrev pub value_type : Var → Ty
value_type (var.Value s) = ty.Value s
value_type (var.Pointer e c) = ty.Pointer e c
value_type (var.Array e n) = ty.Void

abbrev pub is_array : Var → Bool
is_array (var.Array e n) = true
is_array _ = false

-- a number or a pointer, of this type
abbrev pub is_variable : Option Var → Ty → Bool
is_variable None t = false
is_variable (Some v) t = not (is_array v) && same_type (value_type v) t

-- an array of elements of this type
abbrev pub is_array_of : Option Var → Ty → Bool
is_array_of (Some (var.Array e n)) t = same_type (ty.Value e) t
is_array_of _ t = false

-- ---- expressions

-- what is seen of an expression: its type, whether it is a place that may be written as far as its parts say, and whether it is well typed
pub record Seen : Type 0 where
  pub ty : Ty
  pub place : Bool
  pub valid : Bool

-- a well-typed number
abbrev pub is_value : Seen → Bool
is_value x = x.valid && is_number x.ty

abbrev pub all_values : List Seen → Bool
all_values [] = true
all_values (x ∷ xs) = is_value x && all_values xs

abbrev pub typed_arguments : List Seen → List Argument
typed_arguments xs = map (λ x. argument_of x.ty) xs

-- a part of a chain, with one operator and one operand more
abbrev pub combined : Seen → Mark × Seen → Seen
combined a x = record {
  ty = ty_of (result_of (operator_of x.0) (kind_of_type a.ty) (kind_of_type x.1.ty));
  place = false;
  valid = a.valid && x.1.valid && is_operator x.0 && takes x.0 a.ty x.1.ty;
}

-- from left to right
abbrev pub chained : Seen → List (Mark × Seen) → Seen
chained a [] = a
chained a (x ∷ xs) = chained (combined a x) xs

-- one argument for each parameter, of a type that it accepts
abbrev pub all_accepted : List Var → List Seen → Bool
all_accepted [] [] = true
all_accepted (v ∷ vs) (x ∷ xs) = (x.valid && accepts (value_type v) x.ty) && all_accepted vs xs
all_accepted _ _ = false

-- a call of an earlier function that is no kernel
abbrev pub is_call : Option TFunction → List Seen → Ty → Bool
is_call None xs t = false
is_call (Some f) xs t = not f.kernel && all_accepted (take f.params f.vars) xs && same_type (ty_of (result_kind f.result)) t

abbrev pub seen_value : Ty → Bool → Seen
seen_value t v = record { ty = t; place = false; valid = v }

abbrev pub seen_place : Ty → Bool → Bool → Seen
seen_place t p v = record { ty = t; place = p; valid = v }

-- the variables of a function, the functions before it, and what it returns
module _ (vars : List Var) (before : List TFunction) (result : Option Scalar) where
  -- each node with its type
  abbrev pub node_seen : Node-F (Ty → Seen) Seen → Ty → Seen
  node_seen (e.Number w) t = seen_value t (same_type t (ty.Value Int) || same_type t (ty.Value Uint))
  node_seen (e.Name v) t = seen_place t true (is_variable (slice_get vars v) t)
  node_seen (e.Index a b) t = seen_place t (is_open a.ty) (a.valid && points_to a.ty t && is_value b)
  node_seen (e.Element v b) t = seen_place t true (is_array_of (slice_get vars v) t && is_value b)
  node_seen (e.Deref a) t = seen_place t (is_open a.ty) (a.valid && points_to a.ty t)
  node_seen (e.Prefix o a) t = seen_value t (is_value a && is_prefix o && same_type t (ty_of (prefix_kind o (kind_of_type a.ty))))
  node_seen (e.Step a u p) t = seen_value t (a.valid && a.place && same_type t a.ty)
  node_seen (e.Cast a) t = seen_value t (is_value a && is_number t)
  node_seen (e.Paren a) t = seen_place t a.place (a.valid && same_type t a.ty)
  node_seen (e.Chain a more) t = seen_value t ((chained a more).valid && same_type t (chained a more).ty)
  node_seen (e.Cond a b d) t = seen_value t (is_value a && is_value b && is_value d && same_type t (ty.Value (common (scalar_of (kind_of_type b.ty)) (scalar_of (kind_of_type d.ty)))))
  node_seen (e.Assign a o b) t = seen_value t (a.valid && a.place && b.valid && is_assignment o && assigns o a.ty b.ty && same_type t a.ty)
  node_seen (e.Call f xs) t = seen_value t (is_call (slice_get before f) xs t)
  node_seen (e.Builtin f w xs) t = seen_value t (eqb (length (builtin_params f)) (length xs) && all_values xs && same_scalar w (work_of f (typed_arguments xs)) && same_type t (ty.Value (gives f w)))

  abbrev pub seen : TExpr → Seen
  seen = fold-TExpr (Ty → Seen) Seen node_seen (λ x. x.node x.ty)

  abbrev pub is_condition : TExpr → Bool
  is_condition x = is_value (seen x)

  abbrev pub maybe_condition : Option TExpr → Bool
  maybe_condition None = true
  maybe_condition (Some x) = is_condition x

  abbrev pub maybe_valid : Option TExpr → Bool
  maybe_valid None = true
  maybe_valid (Some x) = (seen x).valid

  -- ---- statements

  -- a variable, with its initial value. An array has from 1 to 1,024 elements and none
  abbrev pub is_declared : Option Var → Option TExpr → Bool
  is_declared None i = false
  is_declared (Some (var.Array e n)) None = is_size n
  is_declared (Some v) None = true
  is_declared (Some v) (Some x) = (seen x).valid && accepts (value_type v) (seen x).ty

  abbrev pub is_returned : Option Scalar → Option TExpr → Bool
  is_returned None None = true
  is_returned (Some s) (Some x) = is_condition x
  is_returned _ _ = false

  abbrev pub all_fit : List (Bool → Bool) → Bool → Bool
  all_fit [] l = true
  all_fit (x ∷ xs) l = x l && all_fit xs l

  abbrev pub fits_or_none : Option (Bool → Bool) → Bool → Bool
  fits_or_none None l = true
  fits_or_none (Some x) l = x l

  -- a statement in a loop or in none
  abbrev pub stmt_layer : TStmt-F (Bool → Bool) → (looped : Bool) → Bool
  stmt_layer (s.Block xs) l = all_fit xs l
  stmt_layer (s.Declare v i) l = is_declared (slice_get vars v) i
  stmt_layer (s.Eval x) l = (seen x).valid
  stmt_layer s.Empty l = true
  stmt_layer (s.If x a b) l = is_condition x && a l && fits_or_none b l
  stmt_layer (s.While x a) l = is_condition x && a true
  stmt_layer (s.Do a x) l = a true && is_condition x
  stmt_layer (s.For xs x y a) l = all_fit xs l && maybe_condition x && maybe_valid y && a true
  stmt_layer s.Break l = l
  stmt_layer s.Continue l = l
  stmt_layer (s.Return x) l = is_returned result x

  abbrev pub stmt_fits : TStmt → (looped : Bool) → Bool
  stmt_fits = fold-TStmt (Bool → Bool) stmt_layer

-- ---- functions

abbrev pub together : List (List ℕ) → List ℕ
together [] = []
together (x ∷ xs) = x ++ together xs

abbrev pub or_nothing : Option (List ℕ) → List ℕ
or_nothing None = []
or_nothing (Some x) = x

-- the numbers of the variables that a statement declares, in order
abbrev pub declared_layer : TStmt-F (List ℕ) → List ℕ
declared_layer (s.Block xs) = together xs
declared_layer (s.Declare v i) = v ∷ []
declared_layer (s.Eval x) = []
declared_layer s.Empty = []
declared_layer (s.If x a b) = a ++ or_nothing b
declared_layer (s.While x a) = a
declared_layer (s.Do a x) = a
declared_layer (s.For xs x y a) = together xs ++ a
declared_layer s.Break = []
declared_layer s.Continue = []
declared_layer (s.Return x) = []

abbrev pub declared : TStmt → List ℕ
declared = fold-TStmt (List ℕ) declared_layer

-- the numbers from one up to but without another
abbrev pub counts : (from upto : ℕ) → List ℕ → Bool
counts n m [] = eqb n m
counts n m (v ∷ vs) = eqb v n && counts (suc n) m vs

abbrev pub no_arrays : List Var → Bool
no_arrays [] = true
no_arrays (v ∷ vs) = not (is_array v) && no_arrays vs

abbrev pub is_block : TStmt-F TStmt → Bool
is_block (s.Block xs) = true
is_block _ = false

-- at most 16 parameters, none an array; every other variable is declared once, in order; a kernel returns nothing; the body is a block
abbrev pub function_fits : List TFunction → TFunction → Bool
function_fits before f =
    nat_le f.params 16 && nat_le f.params (length f.vars) && no_arrays (take f.params f.vars) && not (f.kernel && is_some f.result)
    && counts f.params (length f.vars) (declared f.body) && is_block (out-TStmt f.body) && stmt_fits f.vars before f.result f.body false

-- functions after others. Each may call those before it alone
abbrev pub functions_fit : List TFunction → List TFunction → Bool
functions_fit before [] = true
functions_fit before (f ∷ more) = function_fits before f && functions_fit (before ++ f ∷ []) more

abbrev pub is_well_typed : List TFunction → Bool
is_well_typed functions = functions_fit [] functions
