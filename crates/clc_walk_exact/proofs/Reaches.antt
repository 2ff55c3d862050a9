-- No typed tree reaches higher than the greatest height that there is, so no function is higher than its place among all.
use Rattle.std.proofs.Common.{◌≡◌, ℕ, zero, suc, ◌+◌, ◌≤◌, max, List, [], ◌∷◌, ◌++◌, Option, Some, None, map, sym, subst, arith}
use Rattle.std.specs.Prelude.{slice_get}
use Rattle.clc_lexer.specs.declared.marks.Mark.{Mark}
use Rattle.clc_types.specs.declared.typed.Node.{Node, roll-Node}
use Rattle.clc_types.specs.declared.typed.Node.TheOpen as e
use Rattle.clc_types.specs.declared.typed.Node.TheOpen.{Node-F, TExpr-F}
use Rattle.clc_types.specs.declared.typed.Node.TheFolds.{fold-Node, fold-TExpr, fold-roll-Node, fold-roll-TExpr, map-Node, map-TExpr, ind-TExpr}
use Rattle.clc_types.specs.declared.typed.TExpr.{TExpr, roll-TExpr}
use Rattle.clc_types.specs.declared.typed.TStmt.{TStmt, roll-TStmt}
use Rattle.clc_types.specs.declared.typed.TStmt.TheOpen as s
use Rattle.clc_types.specs.declared.typed.TStmt.TheOpen.{TStmt-F}
use Rattle.clc_types.specs.declared.typed.TStmt.TheFolds.{fold-roll-TStmt, map-TStmt, ind-TStmt}
use Rattle.clc_types.specs.Heights.{or_zero, greatest, greatest_operand, node_reach, expr_reach, maybe_expr_reach, stmt_step, stmt_reach}

low_max : (m n k : ℕ) → m ≤ k → n ≤ k → max m n ≤ k
low_max m n k h i = omega (arith, h, i)

low_height : (hs : List ℕ) (f : ℕ) → or_zero (slice_get hs f) ≤ greatest hs
low_height [] f = omega arith
low_height (h ∷ hs) zero = omega arith
low_height (h ∷ hs) (suc f) = let k = low_height hs f in omega (arith, k)

pub greatest_last : (hs : List ℕ) (n k : ℕ) → greatest hs ≤ k → n ≤ k → greatest (hs ++ n ∷ []) ≤ k
greatest_last [] n k h i = omega (arith, i)
greatest_last (x ∷ hs) n k h i = let l = greatest_last hs n k (omega (arith, h)) i in omega (arith, h, l)

module _ (hs : List ℕ) where
  abbrev node_of : Node → ℕ
  node_of = fold-Node ℕ ℕ (node_reach hs) (λ x. x.node)

  abbrev LowNode : Node → Type 0
  LowNode x = node_of x ≤ greatest hs

  abbrev LowExpr : TExpr → Type 0
  LowExpr x = expr_reach hs x ≤ greatest hs

  abbrev SubNode : Type 0
  SubNode = (x : Node) × LowNode x

  abbrev SubExpr : Type 0
  SubExpr = (x : TExpr) × LowExpr x

  rolled : (x : Node-F Node TExpr) → node_reach hs (map-Node _ _ _ _ node_of (expr_reach hs) x) ≤ greatest hs → LowNode (roll-Node x)
  rolled x h = subst (λ n. n ≤ greatest hs) (sym (fold-roll-Node ℕ ℕ (node_reach hs) (λ x. x.node) x)) h

  exprs_low : (xs : List SubExpr) → greatest (map (expr_reach hs) (map (λ x. x.0) xs)) ≤ greatest hs
  exprs_low [] = omega arith
  exprs_low (x ∷ xs) = low_max _ _ _ x.1 (exprs_low xs)

  operands_low : (xs : List (Mark × SubExpr)) → greatest_operand (map (λ (x : Mark × TExpr). (x.0, expr_reach hs x.1)) (map (λ (x : Mark × SubExpr). (x.0, x.1.0)) xs)) ≤ greatest hs
  operands_low [] = omega arith
  operands_low (x ∷ xs) = low_max _ _ _ x.1.1 (operands_low xs)

  node_low : (y : Node-F SubNode SubExpr) → LowNode (roll-Node (map-Node SubNode SubExpr Node TExpr (λ x. x.0) (λ x. x.0) y))
  node_low (e.Number w) = rolled (e.Number w) (omega arith)
  node_low (e.Name v) = rolled (e.Name v) (omega arith)
  node_low (e.Index a b) = rolled (e.Index a.0 b.0) (low_max _ _ _ a.1 b.1)
  node_low (e.Element v b) = rolled (e.Element v b.0) b.1
  node_low (e.Deref a) = rolled (e.Deref a.0) a.1
  node_low (e.Prefix o a) = rolled (e.Prefix o a.0) a.1
  node_low (e.Step a u p) = rolled (e.Step a.0 u p) a.1
  node_low (e.Cast a) = rolled (e.Cast a.0) a.1
  node_low (e.Paren a) = rolled (e.Paren a.0) a.1
  node_low (e.Chain a more) = rolled (e.Chain a.0 (map (λ (x : Mark × SubExpr). (x.0, x.1.0)) more)) (low_max _ _ _ a.1 (operands_low more))
  node_low (e.Cond a b d) = rolled (e.Cond a.0 b.0 d.0) (low_max _ _ _ a.1 (low_max _ _ _ b.1 d.1))
  node_low (e.Assign a o b) = rolled (e.Assign a.0 o b.0) (low_max _ _ _ a.1 b.1)
  node_low (e.Call f args) = rolled (e.Call f (map (λ x. x.0) args)) (low_max _ _ _ (low_height hs f) (exprs_low args))
  node_low (e.Builtin f w args) = rolled (e.Builtin f w (map (λ x. x.0) args)) (exprs_low args)

  texpr_low : (y : TExpr-F SubNode SubExpr) → LowExpr (roll-TExpr (map-TExpr SubNode SubExpr Node TExpr (λ x. x.0) (λ x. x.0) y))
  texpr_low y = subst (λ n. n ≤ greatest hs) (sym (fold-roll-TExpr ℕ ℕ (node_reach hs) (λ x. x.node) (map-TExpr SubNode SubExpr Node TExpr (λ x. x.0) (λ x. x.0) y))) y.node.1

  expr_low : (x : TExpr) → LowExpr x
  expr_low = ind-TExpr LowNode LowExpr (λ x y is. subst (λ z. LowNode (roll-Node z)) is (node_low y)) (λ x y is. subst (λ z. LowExpr (roll-TExpr z)) is (texpr_low y))

  maybe_low : (x : Option TExpr) → maybe_expr_reach hs x ≤ greatest hs
  maybe_low None = omega arith
  maybe_low (Some x) = expr_low x

  abbrev LowStmt : TStmt → Type 0
  LowStmt x = stmt_reach hs x ≤ greatest hs

  abbrev SubStmt : Type 0
  SubStmt = (x : TStmt) × LowStmt x

  placed : (x : TStmt-F TStmt) → stmt_step hs (map-TStmt _ _ (stmt_reach hs) x) ≤ greatest hs → LowStmt (roll-TStmt x)
  placed x h = subst (λ n. n ≤ greatest hs) (sym (fold-roll-TStmt ℕ (stmt_step hs) x)) h

  stmts_low : (xs : List SubStmt) → greatest (map (stmt_reach hs) (map (λ x. x.0) xs)) ≤ greatest hs
  stmts_low [] = omega arith
  stmts_low (x ∷ xs) = low_max _ _ _ x.1 (stmts_low xs)

  stmt_case : (y : TStmt-F SubStmt) → LowStmt (roll-TStmt (map-TStmt SubStmt TStmt (λ x. x.0) y))
  stmt_case (s.Block xs) = placed (s.Block (map (λ x. x.0) xs)) (stmts_low xs)
  stmt_case (s.Declare v i) = placed (s.Declare v i) (maybe_low i)
  stmt_case (s.Eval x) = placed (s.Eval x) (expr_low x)
  stmt_case s.Empty = placed s.Empty (omega arith)
  stmt_case (s.If x a None) = placed (s.If x a.0 None) (low_max _ _ _ (expr_low x) (low_max _ _ _ a.1 (omega arith)))
  stmt_case (s.If x a (Some b)) = placed (s.If x a.0 (Some b.0)) (low_max _ _ _ (expr_low x) (low_max _ _ _ a.1 b.1))
  stmt_case (s.While x a) = placed (s.While x a.0) (low_max _ _ _ (expr_low x) a.1)
  stmt_case (s.Do a x) = placed (s.Do a.0 x) (low_max _ _ _ a.1 (expr_low x))
  stmt_case (s.For xs x y a) = placed (s.For (map (λ x. x.0) xs) x y a.0) (low_max _ _ _ (stmts_low xs) (low_max _ _ _ (maybe_low x) (low_max _ _ _ (maybe_low y) a.1)))
  stmt_case s.Break = placed s.Break (omega arith)
  stmt_case s.Continue = placed s.Continue (omega arith)
  stmt_case (s.Return x) = placed (s.Return x) (maybe_low x)

  pub stmt_low : (x : TStmt) → stmt_reach hs x ≤ greatest hs
  stmt_low = ind-TStmt LowStmt (λ x y is. subst (λ z. LowStmt (roll-TStmt z)) is (stmt_case y))
