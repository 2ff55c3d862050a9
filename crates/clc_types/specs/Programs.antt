-- The faults of functions and of a whole program, and its typed tree (OpenCL C 1.2, 6.7 and 6.9; C99, 6.2.1 and 6.9).
use Rattle.std.specs.Prelude.{◌≡◌, ℕ, suc, ◌+◌, false, ◌&&◌, eqb, bytes_eq, if◌then◌else◌, List, [], ◌∷◌, ◌++◌, Option, Some, None, is_some, length, map, Result, Ok, Err}
use Rattle.clc_lexer.specs.declared.token.Token.{Token}
use Rattle.clc_tree.specs.declared.functions.Param.{Param}
use Rattle.clc_tree.specs.declared.functions.Param.TheVariants as param
use Rattle.clc_tree.specs.declared.functions.ParamStep.{ParamStep}
use Rattle.clc_tree.specs.declared.functions.Params.{Params}
use Rattle.clc_tree.specs.declared.functions.Params.TheVariants as params
use Rattle.clc_tree.specs.declared.functions.Returns.{Returns}
use Rattle.clc_tree.specs.declared.functions.Returns.TheVariants as returns
use Rattle.clc_tree.specs.declared.functions.Function.{Function}
use Rattle.clc_tree.specs.declared.functions.Tree.{Tree}
use Rattle.q_lane.specs.declared.kinds.Scalar.{Scalar}
use Rattle.clc_types.specs.declared.type_rule.TypeRule.TheVariants.{S2, S8, S14}
use Rattle.clc_types.specs.declared.typed.TStmt.{TStmt}
use Rattle.clc_types.specs.declared.typed.TStmt.TheVariants as st
use Rattle.clc_types.specs.declared.typed.TFunction.{TFunction}
use Rattle.clc_types.specs.declared.typed.TypeFault.{TypeFault}
use Rattle.clc_types.specs.declared.typed.TypeFault.TheVariants.{Rule, Memory}
use Rattle.clc_types.specs.declared.forms.Shape.{Shape}
use Rattle.clc_types.specs.declared.forms.Shape.TheVariants as shape
use Rattle.clc_types.specs.declared.forms.Named.{Named}
use Rattle.clc_types.specs.declared.forms.Signature.{Signature}
use Rattle.clc_types.specs.declared.forms.Home.{Home}
use Rattle.clc_types.specs.Judged.{Judged, Fine, Faulty, both, next, unless, violations, Context, Part, IsLeast}
use Rattle.clc_types.specs.Words.{name_of, type_of, type_tokens, one_if, is_kernel}
use Rattle.clc_types.specs.Rules.{var_of}
use Rattle.clc_types.specs.Heights.{stmt_reach}
use Rattle.clc_types.specs.Names.{or_else, outermost}
use Rattle.clc_types.specs.Blocks.{Decl, last_visible, Piece, nothing, quiet, past, ending, seq, made, declared, pointer_shape, pointer_tokens, block}

-- what is in force at a token: all declarations are looked through
abbrev pub in_force : List Decl → List (List ℕ) → ℕ → List ℕ → Option Named
in_force all fs q x = or_else (last_visible 0 all q x) (outermost fs x)

-- ---- functions

abbrev pub param_shape : Param → Shape
param_shape (param.Value c s t) = shape.Value (type_of s) (is_some c)
param_shape (param.Pointer x t) = pointer_shape x

-- the tokens of a parameter before its name
abbrev pub param_tokens : Param → ℕ
param_tokens (param.Value c s t) = one_if c + type_tokens s
param_tokens (param.Pointer x t) = pointer_tokens x

abbrev pub param_name : Param → Token
param_name (param.Value c s t) = t
param_name (param.Pointer x t) = t

-- S14: a 17th parameter. n parameters stand before it
abbrev pub counted : ℕ → ℕ → Part (Unit {0})
counted n k = record { tokens = k; at = λ c p. unless (violations p ((S14, eqb n 16) ∷ [])) tt }

abbrev pub param_piece : ℕ → Param → Piece (Unit {0})
param_piece n x = made (λ y. tt) (seq (quiet (counted n (param_tokens x))) (declared (param_shape x) (param_name x)))

abbrev pub further_params : ℕ → List ParamStep → Piece (Unit {0})
further_params n [] = nothing tt
further_params n (x ∷ xs) = made (λ y. tt) (seq (past 1 (param_piece n x.param)) (further_params (suc n) xs))

abbrev pub params_piece : Option Params → Piece (Unit {0})
params_piece None = nothing tt
params_piece (Some (params.Void t)) = ending (nothing tt) 1
params_piece (Some (params.List x xs)) = made (λ y. tt) (seq (param_piece 0 x) (further_params 1 xs))

abbrev pub shapes_of : Option Params → List Shape
shapes_of None = []
shapes_of (Some (params.Void t)) = []
shapes_of (Some (params.List x xs)) = param_shape x ∷ map (λ s. param_shape s.param) xs

abbrev pub result_of : Returns → Option Scalar
result_of (returns.Void t) = None
result_of (returns.Value s) = Some (type_of s)

abbrev pub returns_tokens : Returns → ℕ
returns_tokens (returns.Void t) = 1
returns_tokens (returns.Value s) = type_tokens s

-- S2: an earlier function or a built-in has its name; S8: it is a kernel and gives a value
abbrev pub heading : List (List ℕ) → Function → Part (Unit {0})
heading fs f = record {
  tokens = 1;
  at = λ c p. unless (violations p ((S2, is_some (outermost fs (name_of f.name))) ∷ (S8, is_kernel f.lead && is_some (result_of f.returns)) ∷ [])) tt;
}

-- what is before the parameters
abbrev pub head : List (List ℕ) → Function → Piece (Unit {0})
head fs f = past (one_if f.lead + returns_tokens f.returns) (quiet (heading fs f))

-- `(`, the parameters, `)`, `{` and the statements
abbrev pub inside : Function → Piece (List TStmt)
inside f = made (λ y. y.1) (seq (past 1 (params_piece f.params)) (past 2 (block f.body)))

abbrev pub function_piece : List (List ℕ) → Function → Piece (List TStmt)
function_piece fs f = made (λ y. y.1) (seq (head fs f) (inside f))

abbrev pub signature : Function → Signature
signature f = record { kernel = is_kernel f.lead; result = result_of f.returns; params = shapes_of f.params }

-- the functions before one, by their names, signatures and heights
pub record Before : Type 0 where
  pub names : List (List ℕ)
  pub signatures : List Signature
  pub heights : List ℕ

abbrev pub home_of : Before → Function → Home
home_of before f = record { functions = before.signatures ++ signature f ∷ []; heights = before.heights; result = result_of f.returns }

-- the function whose first token has the number p. Its parameters and statements belong to one block
abbrev pub function_at : Before → ℕ → Function → Judged TFunction
function_at before p f =
    let piece = function_piece before.names f in
    let all = piece.decls p (p + piece.tokens) p in
    let names : Context = record { look = in_force all (before.names ++ name_of f.name ∷ []); home = home_of before f } in
    next (piece.at (record { names = names; all = all }) false p p) (λ body. Fine (record {
      name = name_of f.name;
      at = f.name.from;
      kernel = is_kernel f.lead;
      result = result_of f.returns;
      params = length (shapes_of f.params);
      vars = map (λ d. var_of d.shape) all;
      body = st.Block body;
    }))

-- one more than it reaches. The height of a function at fault decides nothing, since its fault stands before each call of it
abbrev pub height_in : List ℕ → Judged TFunction → ℕ
height_in heights (Fine f) = suc (stmt_reach heights f.body)
height_in heights (Faulty f fs) = 0

abbrev pub with_function : Before → ℕ → Function → Before
with_function before p f = record {
  names = before.names ++ name_of f.name ∷ [];
  signatures = before.signatures ++ signature f ∷ [];
  heights = before.heights ++ height_in before.heights (function_at before p f) ∷ [];
}

abbrev pub functions_at : Before → ℕ → List Function → Judged (List TFunction)
functions_at before p [] = Fine []
functions_at before p (f ∷ more) =
    next (both (function_at before p f) (functions_at (with_function before p f) (p + (function_piece before.names f).tokens) more)) (λ y. Fine (y.0 ∷ y.1))

abbrev pub no_function : Before
no_function = record { names = []; signatures = []; heights = [] }

-- ---- programs

abbrev pub program : Tree → Judged (List TFunction)
program tree = functions_at no_function 0 tree.functions

-- ---- kernels

-- the kernel of the name; the first n functions stand before these
abbrev pub kernel_of : ℕ → List TFunction → List ℕ → Option ℕ
kernel_of n [] x = None
kernel_of n (f ∷ fs) x = if f.kernel && bytes_eq f.name x then Some n else kernel_of (suc n) fs x

-- what a checker answers: the typed form where no rule is violated, and else the least fault. Memory may always run out
abbrev pub Judges : {A : Type 0} → Judged A → Result A TypeFault → Type 0
Judges (Fine a) (Ok b) = a ≡ b
Judges (Fine a) (Err Memory) = Unit {0}
Judges (Fine a) (Err (Rule r t)) = ⊥
Judges (Faulty f fs) (Ok b) = ⊥
Judges (Faulty f fs) (Err (Rule r t)) = IsLeast (record { token = t; rule = r }) (f ∷ fs)
Judges (Faulty f fs) (Err Memory) = Unit {0}
