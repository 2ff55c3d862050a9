-- What is seen of a typed tree, node by node.
use Rattle.std.proofs.Common.{◌≡◌, ℕ, Bool, List, Option, Some, None, sym, ap, ◌∙◌}
use Rattle.std.specs.Prelude.{map}
use Rattle.clc_lexer.specs.declared.marks.Mark.{Mark}
use Rattle.q_lane.specs.declared.kinds.Scalar.{Scalar}
use Rattle.clc_types.specs.declared.typed.Builtin.{Builtin}
use Rattle.clc_types.specs.declared.typed.Ty.{Ty}
use Rattle.clc_types.specs.declared.typed.Var.{Var}
use Rattle.clc_types.specs.declared.typed.Node.{Node}
use Rattle.clc_types.specs.declared.typed.Node.TheVariants as n
use Rattle.clc_types.specs.declared.typed.Node.TheOpen as e
use Rattle.clc_types.specs.declared.typed.Node.TheFolds.{fold-Node, fold-roll-Node, fold-roll-TExpr}
use Rattle.clc_types.specs.declared.typed.TExpr.{TExpr}
use Rattle.clc_types.specs.declared.typed.TStmt.{TStmt}
use Rattle.clc_types.specs.declared.typed.TStmt.TheVariants as st
use Rattle.clc_types.specs.declared.typed.TStmt.TheOpen as s
use Rattle.clc_types.specs.declared.typed.TStmt.TheFolds.{fold-roll-TStmt}
use Rattle.clc_types.specs.declared.typed.TFunction.{TFunction}
use Rattle.clc_types.specs.declared.forms.Kind.{Kind}
use Rattle.clc_types.specs.Rules.{ty_of}
use Rattle.clc_types.specs.Typing.{expr_of}
use Rattle.clc_types.specs.WellTyped.{Seen, node_seen, seen, stmt_layer, stmt_fits, declared_layer, declared}

module _ (vars : List Var) (before : List TFunction) (result : Option Scalar) where
  abbrev see : TExpr → Seen
  see = seen vars before result

  abbrev pub each_seen : Mark × TExpr → Mark × Seen
  each_seen x = (x.0, see x.1)

  abbrev node_of : Node → Ty → Seen
  node_of = fold-Node (Ty → Seen) Seen (node_seen vars before result) (λ x. x.node x.ty)

  at_node : (a : ℕ) (t : Kind) (x : Node) → see (expr_of a t x) ≡ node_of x (ty_of t)
  at_node a t x = fold-roll-TExpr (Ty → Seen) Seen (node_seen vars before result) (λ x. x.node x.ty) (record { at = a; ty = ty_of t; node = x })

  here : (x y : Ty → Seen) (t : Ty) → x ≡ y → x t ≡ y t
  here x y t h = ap (λ (z : Ty → Seen). z t) h

  pub seen_number : (a : ℕ) (t : Kind) (w : ℕ) → see (expr_of a t (n.Number w)) ≡ node_seen vars before result (e.Number w) (ty_of t)
  seen_number a t w = at_node a t (n.Number w) ∙ here _ _ (ty_of t) (ap node_of (sym (n.rolls-Number w)) ∙ fold-roll-Node (Ty → Seen) Seen (node_seen vars before result) (λ x. x.node x.ty) (e.Number w))

  pub seen_name : (a : ℕ) (t : Kind) (v : ℕ) → see (expr_of a t (n.Name v)) ≡ node_seen vars before result (e.Name v) (ty_of t)
  seen_name a t v = at_node a t (n.Name v) ∙ here _ _ (ty_of t) (ap node_of (sym (n.rolls-Name v)) ∙ fold-roll-Node (Ty → Seen) Seen (node_seen vars before result) (λ x. x.node x.ty) (e.Name v))

  pub seen_index : (a : ℕ) (t : Kind) (x : TExpr) (y : TExpr) → see (expr_of a t (n.Index x y)) ≡ node_seen vars before result (e.Index (see x) (see y)) (ty_of t)
  seen_index a t x y = at_node a t (n.Index x y) ∙ here _ _ (ty_of t) (ap node_of (sym (n.rolls-Index x y)) ∙ fold-roll-Node (Ty → Seen) Seen (node_seen vars before result) (λ x. x.node x.ty) (e.Index x y))

  pub seen_element : (a : ℕ) (t : Kind) (v : ℕ) (y : TExpr) → see (expr_of a t (n.Element v y)) ≡ node_seen vars before result (e.Element v (see y)) (ty_of t)
  seen_element a t v y = at_node a t (n.Element v y) ∙ here _ _ (ty_of t) (ap node_of (sym (n.rolls-Element v y)) ∙ fold-roll-Node (Ty → Seen) Seen (node_seen vars before result) (λ x. x.node x.ty) (e.Element v y))

  pub seen_deref : (a : ℕ) (t : Kind) (x : TExpr) → see (expr_of a t (n.Deref x)) ≡ node_seen vars before result (e.Deref (see x)) (ty_of t)
  seen_deref a t x = at_node a t (n.Deref x) ∙ here _ _ (ty_of t) (ap node_of (sym (n.rolls-Deref x)) ∙ fold-roll-Node (Ty → Seen) Seen (node_seen vars before result) (λ x. x.node x.ty) (e.Deref x))

  pub seen_prefix : (a : ℕ) (t : Kind) (o : Mark) (x : TExpr) → see (expr_of a t (n.Prefix o x)) ≡ node_seen vars before result (e.Prefix o (see x)) (ty_of t)
  seen_prefix a t o x = at_node a t (n.Prefix o x) ∙ here _ _ (ty_of t) (ap node_of (sym (n.rolls-Prefix o x)) ∙ fold-roll-Node (Ty → Seen) Seen (node_seen vars before result) (λ x. x.node x.ty) (e.Prefix o x))

  pub seen_step : (a : ℕ) (t : Kind) (x : TExpr) (u : Bool) (p : Bool) → see (expr_of a t (n.Step x u p)) ≡ node_seen vars before result (e.Step (see x) u p) (ty_of t)
  seen_step a t x u p = at_node a t (n.Step x u p) ∙ here _ _ (ty_of t) (ap node_of (sym (n.rolls-Step x u p)) ∙ fold-roll-Node (Ty → Seen) Seen (node_seen vars before result) (λ x. x.node x.ty) (e.Step x u p))

  pub seen_cast : (a : ℕ) (t : Kind) (x : TExpr) → see (expr_of a t (n.Cast x)) ≡ node_seen vars before result (e.Cast (see x)) (ty_of t)
  seen_cast a t x = at_node a t (n.Cast x) ∙ here _ _ (ty_of t) (ap node_of (sym (n.rolls-Cast x)) ∙ fold-roll-Node (Ty → Seen) Seen (node_seen vars before result) (λ x. x.node x.ty) (e.Cast x))

  pub seen_paren : (a : ℕ) (t : Kind) (x : TExpr) → see (expr_of a t (n.Paren x)) ≡ node_seen vars before result (e.Paren (see x)) (ty_of t)
  seen_paren a t x = at_node a t (n.Paren x) ∙ here _ _ (ty_of t) (ap node_of (sym (n.rolls-Paren x)) ∙ fold-roll-Node (Ty → Seen) Seen (node_seen vars before result) (λ x. x.node x.ty) (e.Paren x))

  pub seen_chain : (a : ℕ) (t : Kind) (x : TExpr) (more : List (Mark × TExpr)) → see (expr_of a t (n.Chain x more)) ≡ node_seen vars before result (e.Chain (see x) (map each_seen more)) (ty_of t)
  seen_chain a t x more = at_node a t (n.Chain x more) ∙ here _ _ (ty_of t) (ap node_of (sym (n.rolls-Chain x more)) ∙ fold-roll-Node (Ty → Seen) Seen (node_seen vars before result) (λ x. x.node x.ty) (e.Chain x more))

  pub seen_cond : (a : ℕ) (t : Kind) (x : TExpr) (y : TExpr) (z : TExpr) → see (expr_of a t (n.Cond x y z)) ≡ node_seen vars before result (e.Cond (see x) (see y) (see z)) (ty_of t)
  seen_cond a t x y z = at_node a t (n.Cond x y z) ∙ here _ _ (ty_of t) (ap node_of (sym (n.rolls-Cond x y z)) ∙ fold-roll-Node (Ty → Seen) Seen (node_seen vars before result) (λ x. x.node x.ty) (e.Cond x y z))

  pub seen_assign : (a : ℕ) (t : Kind) (x : TExpr) (o : Mark) (y : TExpr) → see (expr_of a t (n.Assign x o y)) ≡ node_seen vars before result (e.Assign (see x) o (see y)) (ty_of t)
  seen_assign a t x o y = at_node a t (n.Assign x o y) ∙ here _ _ (ty_of t) (ap node_of (sym (n.rolls-Assign x o y)) ∙ fold-roll-Node (Ty → Seen) Seen (node_seen vars before result) (λ x. x.node x.ty) (e.Assign x o y))

  pub seen_call : (a : ℕ) (t : Kind) (f : ℕ) (xs : List TExpr) → see (expr_of a t (n.Call f xs)) ≡ node_seen vars before result (e.Call f (map see xs)) (ty_of t)
  seen_call a t f xs = at_node a t (n.Call f xs) ∙ here _ _ (ty_of t) (ap node_of (sym (n.rolls-Call f xs)) ∙ fold-roll-Node (Ty → Seen) Seen (node_seen vars before result) (λ x. x.node x.ty) (e.Call f xs))

  pub seen_builtin : (a : ℕ) (t : Kind) (f : Builtin) (w : Scalar) (xs : List TExpr) → see (expr_of a t (n.Builtin f w xs)) ≡ node_seen vars before result (e.Builtin f w (map see xs)) (ty_of t)
  seen_builtin a t f w xs = at_node a t (n.Builtin f w xs) ∙ here _ _ (ty_of t) (ap node_of (sym (n.rolls-Builtin f w xs)) ∙ fold-roll-Node (Ty → Seen) Seen (node_seen vars before result) (λ x. x.node x.ty) (e.Builtin f w xs))

  abbrev fit : TStmt → Bool → Bool
  fit = stmt_fits vars before result

  flat : (x y : Bool → Bool) (l : Bool) → x ≡ y → x l ≡ y l
  flat x y l h = ap (λ (z : Bool → Bool). z l) h

  pub fits_block : (xs : List TStmt) (l : Bool) → fit (st.Block xs) l ≡ stmt_layer vars before result (s.Block (map fit xs)) l
  fits_block xs l = flat _ _ l (ap fit (sym (st.rolls-Block xs)) ∙ fold-roll-TStmt (Bool → Bool) (stmt_layer vars before result) (s.Block xs))

  pub fits_declare : (v : ℕ) (i : Option TExpr) (l : Bool) → fit (st.Declare v i) l ≡ stmt_layer vars before result (s.Declare v i) l
  fits_declare v i l = flat _ _ l (ap fit (sym (st.rolls-Declare v i)) ∙ fold-roll-TStmt (Bool → Bool) (stmt_layer vars before result) (s.Declare v i))

  pub fits_eval : (x : TExpr) (l : Bool) → fit (st.Eval x) l ≡ stmt_layer vars before result (s.Eval x) l
  fits_eval x l = flat _ _ l (ap fit (sym (st.rolls-Eval x)) ∙ fold-roll-TStmt (Bool → Bool) (stmt_layer vars before result) (s.Eval x))

  pub fits_empty : (l : Bool) → fit st.Empty l ≡ stmt_layer vars before result s.Empty l
  fits_empty l = flat _ _ l (ap fit (sym st.rolls-Empty) ∙ fold-roll-TStmt (Bool → Bool) (stmt_layer vars before result) s.Empty)

  pub fits_if0 : (x : TExpr) (a : TStmt) (l : Bool) → fit (st.If x a None) l ≡ stmt_layer vars before result (s.If x (fit a) None) l
  fits_if0 x a l = flat _ _ l (ap fit (sym (st.rolls-If x a None)) ∙ fold-roll-TStmt (Bool → Bool) (stmt_layer vars before result) (s.If x a None))

  pub fits_if1 : (x : TExpr) (a : TStmt) (b : TStmt) (l : Bool) → fit (st.If x a (Some b)) l ≡ stmt_layer vars before result (s.If x (fit a) (Some (fit b))) l
  fits_if1 x a b l = flat _ _ l (ap fit (sym (st.rolls-If x a (Some b))) ∙ fold-roll-TStmt (Bool → Bool) (stmt_layer vars before result) (s.If x a (Some b)))

  pub fits_while : (x : TExpr) (a : TStmt) (l : Bool) → fit (st.While x a) l ≡ stmt_layer vars before result (s.While x (fit a)) l
  fits_while x a l = flat _ _ l (ap fit (sym (st.rolls-While x a)) ∙ fold-roll-TStmt (Bool → Bool) (stmt_layer vars before result) (s.While x a))

  pub fits_do : (a : TStmt) (x : TExpr) (l : Bool) → fit (st.Do a x) l ≡ stmt_layer vars before result (s.Do (fit a) x) l
  fits_do a x l = flat _ _ l (ap fit (sym (st.rolls-Do a x)) ∙ fold-roll-TStmt (Bool → Bool) (stmt_layer vars before result) (s.Do a x))

  pub fits_for : (xs : List TStmt) (x : Option TExpr) (y : Option TExpr) (a : TStmt) (l : Bool) → fit (st.For xs x y a) l ≡ stmt_layer vars before result (s.For (map fit xs) x y (fit a)) l
  fits_for xs x y a l = flat _ _ l (ap fit (sym (st.rolls-For xs x y a)) ∙ fold-roll-TStmt (Bool → Bool) (stmt_layer vars before result) (s.For xs x y a))

  pub fits_break : (l : Bool) → fit st.Break l ≡ stmt_layer vars before result s.Break l
  fits_break l = flat _ _ l (ap fit (sym st.rolls-Break) ∙ fold-roll-TStmt (Bool → Bool) (stmt_layer vars before result) s.Break)

  pub fits_continue : (l : Bool) → fit st.Continue l ≡ stmt_layer vars before result s.Continue l
  fits_continue l = flat _ _ l (ap fit (sym st.rolls-Continue) ∙ fold-roll-TStmt (Bool → Bool) (stmt_layer vars before result) s.Continue)

  pub fits_return : (x : Option TExpr) (l : Bool) → fit (st.Return x) l ≡ stmt_layer vars before result (s.Return x) l
  fits_return x l = flat _ _ l (ap fit (sym (st.rolls-Return x)) ∙ fold-roll-TStmt (Bool → Bool) (stmt_layer vars before result) (s.Return x))

pub declared_block : (xs : List TStmt) → declared (st.Block xs) ≡ declared_layer (s.Block (map declared xs))
declared_block xs = ap declared (sym (st.rolls-Block xs)) ∙ fold-roll-TStmt (List ℕ) declared_layer (s.Block xs)

pub declared_declare : (v : ℕ) (i : Option TExpr) → declared (st.Declare v i) ≡ declared_layer (s.Declare v i)
declared_declare v i = ap declared (sym (st.rolls-Declare v i)) ∙ fold-roll-TStmt (List ℕ) declared_layer (s.Declare v i)

pub declared_eval : (x : TExpr) → declared (st.Eval x) ≡ declared_layer (s.Eval x)
declared_eval x = ap declared (sym (st.rolls-Eval x)) ∙ fold-roll-TStmt (List ℕ) declared_layer (s.Eval x)

pub declared_empty : declared st.Empty ≡ declared_layer s.Empty
declared_empty = ap declared (sym st.rolls-Empty) ∙ fold-roll-TStmt (List ℕ) declared_layer s.Empty

pub declared_if0 : (x : TExpr) (a : TStmt) → declared (st.If x a None) ≡ declared_layer (s.If x (declared a) None)
declared_if0 x a = ap declared (sym (st.rolls-If x a None)) ∙ fold-roll-TStmt (List ℕ) declared_layer (s.If x a None)

pub declared_if1 : (x : TExpr) (a : TStmt) (b : TStmt) → declared (st.If x a (Some b)) ≡ declared_layer (s.If x (declared a) (Some (declared b)))
declared_if1 x a b = ap declared (sym (st.rolls-If x a (Some b))) ∙ fold-roll-TStmt (List ℕ) declared_layer (s.If x a (Some b))

pub declared_while : (x : TExpr) (a : TStmt) → declared (st.While x a) ≡ declared_layer (s.While x (declared a))
declared_while x a = ap declared (sym (st.rolls-While x a)) ∙ fold-roll-TStmt (List ℕ) declared_layer (s.While x a)

pub declared_do : (a : TStmt) (x : TExpr) → declared (st.Do a x) ≡ declared_layer (s.Do (declared a) x)
declared_do a x = ap declared (sym (st.rolls-Do a x)) ∙ fold-roll-TStmt (List ℕ) declared_layer (s.Do a x)

pub declared_for : (xs : List TStmt) (x : Option TExpr) (y : Option TExpr) (a : TStmt) → declared (st.For xs x y a) ≡ declared_layer (s.For (map declared xs) x y (declared a))
declared_for xs x y a = ap declared (sym (st.rolls-For xs x y a)) ∙ fold-roll-TStmt (List ℕ) declared_layer (s.For xs x y a)

pub declared_break : declared st.Break ≡ declared_layer s.Break
declared_break = ap declared (sym st.rolls-Break) ∙ fold-roll-TStmt (List ℕ) declared_layer s.Break

pub declared_continue : declared st.Continue ≡ declared_layer s.Continue
declared_continue = ap declared (sym st.rolls-Continue) ∙ fold-roll-TStmt (List ℕ) declared_layer s.Continue

pub declared_return : (x : Option TExpr) → declared (st.Return x) ≡ declared_layer (s.Return x)
declared_return x = ap declared (sym (st.rolls-Return x)) ∙ fold-roll-TStmt (List ℕ) declared_layer (s.Return x)
