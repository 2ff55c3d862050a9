-- How many nodes a kernel has and how many elements its private arrays have, each call counted with the called function.
use Rattle.std.specs.Prelude.{ℕ, ◌+◌, min, Bool, true, false, List, [], ◌∷◌, ◌++◌, map, Option, Some, None, slice_index_or}
use Rattle.clc_lexer.specs.declared.marks.Mark.{Mark}
use Rattle.clc_lexer.specs.declared.marks.Mark.TheVariants as m
use Rattle.clc_types.specs.declared.typed.Var.{Var}
use Rattle.clc_types.specs.declared.typed.Var.TheVariants as var
use Rattle.clc_types.specs.declared.typed.TExpr.{TExpr}
use Rattle.clc_types.specs.declared.typed.Node.TheOpen as e
use Rattle.clc_types.specs.declared.typed.Node.TheOpen.{Node-F, TExpr-F}
use Rattle.clc_types.specs.declared.typed.Node.TheFolds.{fold-TExpr}
use Rattle.clc_types.specs.declared.typed.TStmt.{TStmt}
use Rattle.clc_types.specs.declared.typed.TStmt.TheOpen as s
use Rattle.clc_types.specs.declared.typed.TStmt.TheOpen.{TStmt-F}
use Rattle.clc_types.specs.declared.typed.TStmt.TheFolds.{fold-TStmt}
use Rattle.clc_types.specs.declared.typed.TFunction.{TFunction}
use Rattle.clc_counts.specs.declared.tally.Tally.{Tally}

abbrev pub so_many : ℕ → Tally
so_many n = record { nodes = n; elements = 0 }

abbrev pub none : Tally
none = so_many 0

abbrev pub sum : Tally → Tally → Tally
sum a b = record { nodes = a.nodes + b.nodes; elements = a.elements + b.elements }

-- what fits into 32 bits; what is greater is the greatest such number
abbrev pub cut : ℕ → ℕ
cut n = min n 4294967295

abbrev pub cap : Tally → Tally
cap a = record { nodes = cut a.nodes; elements = cut a.elements }

abbrev pub plus : Tally → Tally → Tally
plus a b = cap (sum a b)

-- a quotient and a remainder, also one that is assigned
abbrev pub is_quotient : Mark → Bool
is_quotient m.Slash = true
is_quotient m.Percent = true
is_quotient m.SlashAssign = true
is_quotient m.PercentAssign = true
is_quotient _ = false

-- they count as 16 nodes
abbrev pub weight_if : Bool → ℕ
weight_if true = 16
weight_if false = 1

abbrev pub weight : Mark → ℕ
weight o = weight_if (is_quotient o)

abbrev pub array_tally : Var → Tally
array_tally (var.Value t) = none
array_tally (var.Pointer t c) = none
array_tally (var.Array t n) = record { nodes = 0; elements = n }

-- a statement: by itself, and where it stands first in a `for`
pub record Counted : Type 0 where
  pub whole : Tally
  pub begun : Tally

abbrev pub else_count : Option Counted → Tally
else_count None = none
else_count (Some x) = x.whole

-- with how tallies are added
module _ (add : Tally → Tally → Tally) where
  abbrev pub summed : Tally → List Tally → Tally
  summed n [] = n
  summed n (x ∷ xs) = summed (add n x) xs

  abbrev pub operands_summed : Tally → List (Mark × Tally) → Tally
  operands_summed n [] = n
  operands_summed n (x ∷ xs) = operands_summed (add n (add (so_many (weight x.0)) x.1)) xs

  abbrev pub wholes_summed : Tally → List Counted → Tally
  wholes_summed n [] = n
  wholes_summed n (x ∷ xs) = wholes_summed (add n x.whole) xs

  abbrev pub begins_summed : Tally → List Counted → Tally
  begins_summed n [] = n
  begins_summed n (x ∷ xs) = begins_summed (add n x.begun) xs

  abbrev pub one_and : Tally → Tally
  one_and x = add (so_many 1) x

  -- with the tallies of the functions
  module _ (tallies : List Tally) where
    -- an element of an array is a name and an index; parentheses are no node
    abbrev pub node_count : Node-F Tally Tally → Tally
    node_count (e.Number w) = so_many 1
    node_count (e.Name v) = so_many 1
    node_count (e.Index a b) = one_and (add a b)
    node_count (e.Element v b) = add (so_many 2) b
    node_count (e.Deref a) = one_and a
    node_count (e.Prefix o a) = one_and a
    node_count (e.Step a u p) = one_and a
    node_count (e.Cast a) = one_and a
    node_count (e.Paren a) = a
    node_count (e.Chain a more) = operands_summed a more
    node_count (e.Cond a b d) = one_and (add a (add b d))
    node_count (e.Assign a o b) = add (so_many (weight o)) (add a b)
    node_count (e.Call f args) = summed (one_and (slice_index_or tallies f none)) args
    node_count (e.Builtin f w args) = summed (so_many 16) args

    abbrev pub expr_count : TExpr → Tally
    expr_count = fold-TExpr Tally Tally node_count (λ x. x.node)

    abbrev pub maybe_count : Option TExpr → Tally
    maybe_count None = none
    maybe_count (Some x) = expr_count x

    abbrev pub whole_count : TStmt-F Counted → Tally
    whole_count (s.Block xs) = wholes_summed (so_many 1) xs
    whole_count (s.Declare v i) = one_and (maybe_count i)
    whole_count (s.Eval x) = one_and (expr_count x)
    whole_count s.Empty = so_many 1
    whole_count (s.If x a b) = one_and (add (expr_count x) (add a.whole (else_count b)))
    whole_count (s.While x a) = one_and (add (expr_count x) a.whole)
    whole_count (s.Do a x) = one_and (add a.whole (expr_count x))
    whole_count (s.For xs x y a) = add (begins_summed (so_many 1) xs) (add (maybe_count x) (add (maybe_count y) a.whole))
    whole_count s.Break = so_many 1
    whole_count s.Continue = so_many 1
    whole_count (s.Return x) = one_and (maybe_count x)

    -- declared items are nodes; an expression is no expression statement there
    abbrev pub begun_count : TStmt-F Counted → Tally
    begun_count (s.Eval x) = expr_count x
    begun_count (s.Declare v i) = one_and (maybe_count i)
    begun_count _ = none

    abbrev pub stmt_count : TStmt-F Counted → Counted
    stmt_count x = record { whole = whole_count x; begun = begun_count x }

    abbrev pub stmt_counts : TStmt → Counted
    stmt_counts = fold-TStmt Counted stmt_count

    abbrev pub function_count : TFunction → Tally
    function_count f = summed (stmt_counts f.body).whole (map array_tally f.vars)

-- the tallies of functions, each with those before it
abbrev pub counted_after : (Tally → Tally → Tally) → List Tally → List TFunction → List Tally
counted_after add tallies [] = tallies
counted_after add tallies (f ∷ more) = counted_after add (tallies ++ function_count add tallies f ∷ []) more

-- the nodes and the elements of the function of this number
abbrev pub tally_of : List TFunction → ℕ → Tally
tally_of functions k = slice_index_or (counted_after sum [] functions) k none
