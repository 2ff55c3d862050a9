-- Which statements of a batch name only what is there.
use Rattle.std.specs.Prelude.{ℕ, ◌+◌, ◌^◌, Bool, true, false, ◌&&◌, nat_lt, List, [], ◌∷◌}
use Rattle.item_ir.specs.declared.form.Val.{Val}
use Rattle.q_functions.specs.declared.functions.WorkFunction.{WorkFunction}
use Rattle.q_functions.specs.declared.functions.WorkFunction.TheVariants.{WorkDim, GlobalId, GlobalSize, LocalId, LocalSize, GroupId, NumGroups}
use Rattle.item_ir.specs.declared.form.Def.{Def}
use Rattle.item_ir.specs.declared.form.Def.TheVariants.{Const, Param, Work, Get, Bin, One, Built, Choose, Load as Loads, Element, Flat, Items}
use Rattle.lane_ir.specs.declared.form.LaneStmt.{LaneStmt, Row_of-LaneStmt, end_of-LaneStmt, more_of-LaneStmt}
use Rattle.lane_ir.specs.declared.form.LaneStmt.TheVariants.{Let, Put, Load, Store, GetElement, PutElement, Clear, WhileAny'}

-- how many values, variables, private arrays and parameters there are
pub record Counts : Type 0 where
  pub vals : ℕ
  pub vars : ℕ
  pub arrays : ℕ
  pub params : ℕ

abbrev pub is_val : Counts → Val → Bool
is_val c v = nat_lt v.0 c.vals

abbrev pub are_vals : Counts → List Val → Bool
are_vals c [] = true
are_vals c (a ∷ rest) = is_val c a && are_vals c rest

-- a number of the work that isn't an id
abbrev pub is_size : WorkFunction → Bool
is_size WorkDim = true
is_size GlobalId = false
is_size GlobalSize = true
is_size LocalId = false
is_size LocalSize = true
is_size GroupId = false
is_size NumGroups = true

-- a definition of a batch: it holds no access and no element of an array, and its number of the work is no id
abbrev pub is_def : Counts → Def → Bool
is_def c (Const x) = nat_lt x (2 ^ 32)
is_def c (Param p) = nat_lt p c.params
is_def c (Work which d) = is_size which && is_val c d
is_def c (Get x) = nat_lt x c.vars
is_def c (Bin op a b) = is_val c a && is_val c b
is_def c (One op a) = is_val c a
is_def c (Built n t args) = are_vals c args
is_def c (Choose a b d) = is_val c a && (is_val c b && is_val c d)
is_def c (Loads t a) = false
is_def c (Element a i) = false
is_def c Flat = true
is_def c Items = true

abbrev mutual
  pub is_stmt : Counts → LaneStmt → Bool
  is_stmt c (Let v d) = is_val c v && is_def c d
  is_stmt c (Put v x m) = nat_lt v c.vars && (is_val c x && is_val c m)
  is_stmt c (Load t d a m) = is_val c d && (is_val c a && is_val c m)
  is_stmt c (Store t a x m) = is_val c a && (is_val c x && is_val c m)
  is_stmt c (GetElement r d j m) = nat_lt r c.arrays && (is_val c d && (is_val c j && is_val c m))
  is_stmt c (PutElement r j x m) = nat_lt r c.arrays && (is_val c j && (is_val c x && is_val c m))
  is_stmt c (Clear r m) = nat_lt r c.arrays && is_val c m
  is_stmt c (WhileAny' h head m b body) = is_val c m && (is_row c head && is_row c body)

  pub is_row : {k : _} → Counts → Row_of-LaneStmt k → Bool
  is_row c end_of-LaneStmt = true
  is_row c (more_of-LaneStmt a rest) = is_stmt c a && is_row c rest

abbrev pub is_body : Counts → List LaneStmt → Bool
is_body c [] = true
is_body c (a ∷ rest) = is_stmt c a && is_body c rest

-- the same with n more values
abbrev pub more : Counts → ℕ → Counts
more c n = record { vals = c.vals + n; vars = c.vars; arrays = c.arrays; params = c.params }

-- the counts of a batch's fields
abbrev pub counted : ℕ → ℕ → ℕ → ℕ → Counts
counted vals vars arrays params = record { vals = vals; vars = vars; arrays = arrays; params = params }
