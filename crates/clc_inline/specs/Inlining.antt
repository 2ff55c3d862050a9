-- The body that a kernel becomes: each call is a scope with variables of its own, which stand behind all that there are.
use Rattle.std.specs.Prelude.{ℕ, zero, suc, ◌+◌, nat_eq, if◌then◌else◌, List, [], ◌∷◌, ◌++◌, Option, Some, None, length, slice_get}
use Rattle.clc_lexer.specs.declared.marks.Mark.{Mark}
use Rattle.clc_types.specs.declared.typed.Var.{Var}
use Rattle.clc_types.specs.declared.typed.TExpr.{TExpr as Typed}
use Rattle.clc_types.specs.declared.typed.Node.TheOpen as e
use Rattle.clc_types.specs.declared.typed.Node.TheOpen.{Node-F, TExpr-F}
use Rattle.clc_types.specs.declared.typed.Node.TheFolds.{fold-TExpr, fold-Node}
use Rattle.clc_types.specs.declared.typed.Node.{Node as TypedNode}
use Rattle.clc_types.specs.declared.typed.TStmt.{TStmt as TypedStmt}
use Rattle.clc_types.specs.declared.typed.TStmt.TheOpen as s
use Rattle.clc_types.specs.declared.typed.TStmt.TheOpen.{TStmt-F}
use Rattle.clc_types.specs.declared.typed.TStmt.TheFolds.{fold-TStmt}
use Rattle.clc_types.specs.declared.typed.TFunction.{TFunction}
use Rattle.clc_inline.specs.declared.body.TExpr.{TExpr, roll-TExpr}
use Rattle.clc_inline.specs.declared.body.Node.{Node}
use Rattle.clc_inline.specs.declared.body.Node.TheVariants as n
use Rattle.clc_inline.specs.declared.body.TStmt.{TStmt}
use Rattle.clc_inline.specs.declared.body.TStmt.TheVariants as st

-- ---- what is made, one after the other

-- something that was made, and all variables after it
pub record Made (A : Type 0) : Type 0 where
  pub made : A
  pub vars : List Var

-- it depends on the variables that there are
abbrev pub Makes : Type 0 → Type 0
Makes A = List Var → Made A

abbrev pub just : {A : Type 0} → A → Makes A
just a vars = record { made = a; vars = vars }

abbrev pub mapped : {A B : Type 0} → (A → B) → Made A → Made B
mapped f a = record { made = f a.made; vars = a.vars }

abbrev pub two : {A B C : Type 0} → (A → B → C) → Made A → Makes B → Made C
two f a g = record { made = f a.made (g a.vars).made; vars = (g a.vars).vars }

abbrev pub three : {A B C D : Type 0} → (A → B → C → D) → Made A → Makes B → Makes C → Made D
three f a g h = two (λ x c. x c) (two f a g) h

abbrev pub four : {A B C D E : Type 0} → (A → B → C → D → E) → Made A → Makes B → Makes C → Makes D → Made E
four f a g h i = two (λ x d. x d) (three f a g h) i

-- behind those that are made
abbrev pub listed : {A : Type 0} → List A → List (Makes A) → Makes (List A)
listed done [] vars = just done vars
listed done (x ∷ xs) vars = listed (done ++ (x vars).made ∷ []) xs (x vars).vars

abbrev pub operands : List (Mark × TExpr) → List (Mark × Makes TExpr) → Makes (List (Mark × TExpr))
operands done [] vars = just done vars
operands done (x ∷ xs) vars = operands (done ++ (x.0, (x.1 vars).made) ∷ []) xs (x.1 vars).vars

abbrev pub possibly : {A : Type 0} → Option (Makes A) → Makes (Option A)
possibly None vars = just None vars
possibly (Some x) vars = mapped Some (x vars)

-- ---- the tree

-- the bodies of functions, with their variables from `base` on
abbrev pub Bodies : Type 0
Bodies = (function base : ℕ) → Makes TStmt

-- so many numbers from this one on
abbrev pub numbers : (from count : ℕ) → List ℕ
numbers from zero = []
numbers from (suc c) = from ∷ numbers (suc from) c

-- a scope for a call of this function, whose variables stand behind those that there are
abbrev pub scope : Bodies → ℕ → Option TFunction → List TExpr → Makes Node
scope bodies k None args vars = just (n.Scope [] args None st.Empty) vars
scope bodies k (Some f) args vars = mapped (n.Scope (numbers (length vars) f.params) args f.result) (bodies k (length vars) (vars ++ f.vars))

module _ (functions : List TFunction) (bodies : Bodies) (base : ℕ) where
  abbrev pub node_layer : Node-F (Makes Node) (Makes TExpr) → Makes Node
  node_layer (e.Number w) vars = just (n.Number w) vars
  node_layer (e.Name v) vars = just (n.Name (base + v)) vars
  node_layer (e.Index a b) vars = two n.Index (a vars) b
  node_layer (e.Element v b) vars = mapped (n.Element (base + v)) (b vars)
  node_layer (e.Deref a) vars = mapped n.Deref (a vars)
  node_layer (e.Prefix o a) vars = mapped (n.Prefix o) (a vars)
  node_layer (e.Step a up post) vars = mapped (λ x. n.Step x up post) (a vars)
  node_layer (e.Cast a) vars = mapped n.Cast (a vars)
  node_layer (e.Paren a) vars = mapped n.Paren (a vars)
  node_layer (e.Chain a more) vars = two n.Chain (a vars) (operands [] more)
  node_layer (e.Cond a b c) vars = three n.Cond (a vars) b c
  node_layer (e.Assign a o b) vars = two (λ x y. n.Assign x o y) (a vars) b
  node_layer (e.Call f args) vars = scope bodies f (slice_get functions f) (listed [] args vars).made (listed [] args vars).vars
  node_layer (e.Builtin which work args) vars = mapped (n.Builtin which work) (listed [] args vars)

  abbrev pub expr_layer : TExpr-F (Makes Node) (Makes TExpr) → Makes TExpr
  expr_layer x vars = mapped (λ y. roll-TExpr (record { at = x.at; ty = x.ty; node = y })) (x.node vars)

  abbrev pub expr_made : Typed → Makes TExpr
  expr_made = fold-TExpr (Makes Node) (Makes TExpr) node_layer expr_layer

  abbrev pub node_made : TypedNode → Makes Node
  node_made = fold-Node (Makes Node) (Makes TExpr) node_layer expr_layer

  abbrev pub maybe_made : Option Typed → Makes (Option TExpr)
  maybe_made None vars = just None vars
  maybe_made (Some x) vars = mapped Some (expr_made x vars)

  abbrev pub stmt_layer : TStmt-F (Makes TStmt) → Makes TStmt
  stmt_layer (s.Block xs) vars = mapped st.Block (listed [] xs vars)
  stmt_layer (s.Declare v i) vars = mapped (st.Declare (base + v)) (maybe_made i vars)
  stmt_layer (s.Eval x) vars = mapped st.Eval (expr_made x vars)
  stmt_layer s.Empty vars = just st.Empty vars
  stmt_layer (s.If x a b) vars = three st.If (expr_made x vars) a (possibly b)
  stmt_layer (s.While x a) vars = two st.While (expr_made x vars) a
  stmt_layer (s.Do a x) vars = two st.Do (a vars) (expr_made x)
  stmt_layer (s.For xs x y a) vars = four st.For (listed [] xs vars) (maybe_made x) (maybe_made y) a
  stmt_layer s.Break vars = just st.Break vars
  stmt_layer s.Continue vars = just st.Continue vars
  stmt_layer (s.Return x) vars = mapped st.Return (maybe_made x vars)

  abbrev pub stmt_made : TypedStmt → Makes TStmt
  stmt_made = fold-TStmt (Makes TStmt) stmt_layer

-- ---- functions

abbrev pub body_of : List TFunction → Bodies → Option TFunction → (base : ℕ) → Makes TStmt
body_of functions bodies None base vars = just st.Empty vars
body_of functions bodies (Some f) base vars = stmt_made functions bodies base f.body vars

-- a function calls earlier ones alone: the bodies of those below number n
abbrev pub bodies_below : List TFunction → (n : ℕ) → Bodies
bodies_below functions zero k base vars = just st.Empty vars
bodies_below functions (suc n) k base vars =
    if nat_eq k n then body_of functions (bodies_below functions n) (slice_get functions k) base vars else bodies_below functions n k base vars

-- the kernel of this number, whose own variables are the first
abbrev pub kernel_made : List TFunction → ℕ → Option TFunction → Made TStmt
kernel_made functions k None = just st.Empty []
kernel_made functions k (Some f) = stmt_made functions (bodies_below functions k) 0 f.body f.vars

abbrev pub inlined : List TFunction → (kernel : ℕ) → Made TStmt
inlined functions kernel = kernel_made functions kernel (slice_get functions kernel)

abbrev pub params_in : Option TFunction → ℕ
params_in None = 0
params_in (Some f) = f.params
