-- Which forms of an item name only what is there: a value is defined once in its scope and before it is used, and a way to leave ends at a loop or a
-- scope that is open.
use Rattle.std.specs.Prelude.{ℕ, ◌^◌, Bool, true, false, ◌&&◌, ◌||◌, not, ◌==◌, nat_lt, List, [], ◌∷◌}
use Rattle.item_ir.specs.declared.form.Val.{Val}
use Rattle.item_ir.specs.declared.form.Def.{Def}
use Rattle.item_ir.specs.declared.form.Def.TheVariants as d
use Rattle.item_ir.specs.declared.form.Stmt.{Stmt, Row_of-Stmt, end_of-Stmt, more_of-Stmt}
use Rattle.item_ir.specs.declared.form.Stmt.TheVariants.{Let, Set, Store, SetElement, Clear, If', Loop', Scope', Leave, Break, Continue}

-- how many values, variables, private arrays and parameters there are
pub record Counts : Type 0 where
  pub vals : ℕ
  pub vars : ℕ
  pub arrays : ℕ
  pub params : ℕ

abbrev pub counted : (vals vars arrays params : ℕ) → Counts
counted vals vars arrays params = record { vals = vals; vars = vars; arrays = arrays; params = params }

-- what a way to leave may end at: a loop or a scope
pub record Around : Type 0 where
  pub loop : Bool
  pub scope : Bool

-- in a scope no loop around it is left
abbrev pub in_scope : Around
in_scope = record { loop = false; scope = true }

abbrev pub in_loop : Around → Around
in_loop r = record { loop = true; scope = r.scope }

-- the head and the step of a loop are left by their end alone
abbrev pub at_edge : Around
at_edge = record { loop = false; scope = false }

-- the values that are defined
abbrev pub Known : Type 0
Known = ℕ → Bool

abbrev pub none_known : Known
none_known j = false

abbrev pub with_known : ℕ → Known → Known
with_known x known j = j == x || known j

abbrev pub are_known : Known → List Val → Bool
are_known known [] = true
are_known known (a ∷ rest) = known a.0 && are_known known rest

-- only a batch has a flat id and the number of items
abbrev pub is_def : Counts → Known → Def → Bool
is_def c known (d.Const x) = nat_lt x (2 ^ 32)
is_def c known (d.Param p) = nat_lt p c.params
is_def c known (d.Work which dim) = known dim.0
is_def c known (d.Get u) = nat_lt u c.vars
is_def c known (d.Bin op a b) = known a.0 && known b.0
is_def c known (d.One op a) = known a.0
is_def c known (d.Built which t args) = are_known known args
is_def c known (d.Choose a b x) = known a.0 && (known b.0 && known x.0)
is_def c known (d.Load t a) = known a.0
is_def c known (d.Element r i) = nat_lt r c.arrays && known i.0
is_def c known d.Flat = false
is_def c known d.Items = false

-- the values that are defined after a statement: those of a branch, a loop and a scope stay in it
abbrev pub known_after : Known → Stmt → Known
known_after known (Let x e) = with_known x.0 known
known_after known (Set u x) = known
known_after known (Store t a x) = known
known_after known (SetElement r i x) = known
known_after known (Clear r) = known
known_after known (If' c n a m b) = known
known_after known (Loop' n h c m b i s) = known
known_after known (Scope' n a) = known
known_after known Leave = known
known_after known Break = known
known_after known Continue = known

abbrev pub known_row : {k : _} → Known → Row_of-Stmt k → Known
known_row known end_of-Stmt = known
known_row known (more_of-Stmt a rest) = known_row (known_after known a) rest

module _ (c : Counts) where
  abbrev mutual
    pub is_stmt : Around → Known → Stmt → Bool
    is_stmt r known (Let x e) = nat_lt x.0 c.vals && (not (known x.0) && is_def c known e)
    is_stmt r known (Set u x) = nat_lt u c.vars && known x.0
    is_stmt r known (Store t a x) = known a.0 && known x.0
    is_stmt r known (SetElement a i x) = nat_lt a c.arrays && (known i.0 && known x.0)
    is_stmt r known (Clear a) = nat_lt a c.arrays
    is_stmt r known (If' x n a m b) = known x.0 && (is_row r known a && is_row r known b)
    is_stmt r known (Loop' n head x m body i step) =
        is_row at_edge known head && (known_row known head x.0 && (is_row (in_loop r) (known_row known head) body && is_row at_edge (known_row known head) step))
    is_stmt r known (Scope' n a) = is_row in_scope known a
    is_stmt r known Leave = r.scope
    is_stmt r known Break = r.loop
    is_stmt r known Continue = r.loop

    pub is_row : {k : _} → Around → Known → Row_of-Stmt k → Bool
    is_row r known end_of-Stmt = true
    is_row r known (more_of-Stmt a rest) = is_stmt r known a && is_row r (known_after known a) rest

  abbrev pub are_stmts : Around → Known → List Stmt → Bool
  are_stmts r known [] = true
  are_stmts r known (a ∷ rest) = is_stmt r known a && are_stmts r (known_after known a) rest

  -- a whole item, which is a scope
  abbrev pub is_item : List Stmt → Bool
  is_item body = are_stmts in_scope none_known body
