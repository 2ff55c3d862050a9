-- How deep statements stand in each other, and how many values and variables their masks take.
use Rattle.std.specs.Prelude.{ℕ, ◌+◌, ◌*◌, max, List, [], ◌∷◌}
use Rattle.item_ir.specs.declared.form.Stmt.{Stmt, Row_of-Stmt, end_of-Stmt, more_of-Stmt}
use Rattle.item_ir.specs.declared.form.Stmt.TheVariants.{Let, Set, Store, SetElement, Clear, If', Loop', Scope', Leave, Break, Continue}

abbrev mutual
  pub height : Stmt → ℕ
  height (Let x e) = 0
  height (Set u x) = 0
  height (Store t a x) = 0
  height (SetElement a i x) = 0
  height (Clear a) = 0
  height (If' c n a m b) = max (height_row a) (height_row b) + 1
  height (Loop' n head c m body l step) = max (height_row head) (max (height_row body) (height_row step)) + 1
  height (Scope' n a) = height_row a + 1
  height Leave = 0
  height Break = 0
  height Continue = 0

  pub height_row : {k : _} → Row_of-Stmt k → ℕ
  height_row end_of-Stmt = 0
  height_row (more_of-Stmt a rest) = max (height a) (height_row rest)

abbrev pub height_all : List Stmt → ℕ
height_all [] = 0
height_all (a ∷ rest) = max (height a) (height_all rest)

-- one that holds others takes up to five values and two variables beyond theirs, and a statement takes six values
abbrev pub vals_after : (k height : ℕ) → ℕ
vals_after k h = k + (5 * h + 6)

abbrev pub vars_after : (nu height : ℕ) → ℕ
vars_after nu h = nu + (2 * h + 1)
