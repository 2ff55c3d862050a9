-- The statements of a batch that are made of an item's. Masks stand in variables. Each way to leave clears two of them, the one where it ends and
-- the one on top; a mask that comes to the top again is settled.
use Rattle.std.specs.Prelude.{ℕ, ◌+◌, List, [], ◌∷◌, ◌++◌, get_or, Option, Some, None}
use Rattle.q_lane.specs.declared.operations.BinOp.TheVariants.{Equal}
use Rattle.q_functions.specs.declared.functions.WorkFunction.{WorkFunction}
use Rattle.q_functions.specs.declared.functions.WorkFunction.TheVariants.{WorkDim, GlobalId, GlobalSize, LocalId, LocalSize, GroupId, NumGroups}
use Rattle.item_ir.specs.declared.form.Val.{Val}
use Rattle.item_ir.specs.declared.form.Def.{Def}
use Rattle.item_ir.specs.declared.form.Def.TheVariants as d
use Rattle.item_ir.specs.declared.form.Stmt.{Stmt, Row_of-Stmt, end_of-Stmt, more_of-Stmt}
use Rattle.item_ir.specs.declared.form.Stmt.TheVariants as i
use Rattle.lane_ir.specs.declared.form.LaneStmt.{LaneStmt}
use Rattle.lane_ir.specs.declared.form.LaneStmt.TheVariants.{Let, Put, Load, Store, GetElement, PutElement, Clear, WhileAny}
use Rattle.mask_flow.specs.declared.place.Place.{Place}

abbrev pub val : ℕ → Val
val k = record { 0 = k }

-- ---- where a statement stands

abbrev pub or_top : Option ℕ → ℕ → ℕ
or_top None top = top
or_top (Some v) top = v

-- the mask of the innermost round within the innermost scope; the top one where there is none
abbrev pub round_of : Place → ℕ
round_of at = or_top at.round at.top

-- the mask of the innermost loop
abbrev pub loop_of : Place → ℕ
loop_of at = or_top at.in_loop at.top

abbrev pub branch : Place → Place
branch at = record { value = at.value + 5; var = at.var + 1; top = at.var; round = at.round; in_loop = at.in_loop; in_scope = at.in_scope }

abbrev pub scope : Place → Place
scope at = record { value = at.value; var = at.var + 1; top = at.var; round = None; in_loop = None; in_scope = at.var }

-- in a loop's head and step
abbrev pub turning : Place → Place
turning at = record { value = at.value; var = at.var + 2; top = at.var; round = at.round; in_loop = Some at.var; in_scope = at.in_scope }

-- in a loop's body
abbrev pub in_round : Place → Place
in_round at = record { value = at.value; var = at.var + 2; top = at.var + 1; round = Some (at.var + 1); in_loop = Some at.var; in_scope = at.in_scope }

-- in the whole item, whose own variables are below nu
abbrev pub outermost : (k nu : ℕ) → Place
outermost k nu = record { value = k; var = nu + 1; top = nu; round = None; in_loop = None; in_scope = nu }

-- ---- masks

-- leaving for where a mask ends
unfoldable pub leaves_to : ℕ → Place → List LaneStmt
leaves_to end at =
    Let (val at.value) (d.Get at.top) ∷ Let (val (at.value + 1)) (d.Const 0) ∷ Put end (val (at.value + 1)) (val at.value)
    ∷ Put at.top (val (at.value + 1)) (val at.value) ∷ []

-- the top mask falls where the innermost round's, loop's or scope's has fallen
unfoldable pub settles : Place → List LaneStmt
settles at =
    Let (val at.value) (d.Get (round_of at)) ∷ Let (val (at.value + 1)) (d.Get (loop_of at)) ∷ Let (val (at.value + 2)) (d.Get at.in_scope)
    ∷ Let (val (at.value + 3)) (d.Choose (val at.value) (val (at.value + 1)) (val at.value))
    ∷ Let (val (at.value + 4)) (d.Choose (val (at.value + 3)) (val (at.value + 2)) (val (at.value + 3)))
    ∷ Let (val (at.value + 5)) (d.Get at.top) ∷ Put at.top (val (at.value + 4)) (val (at.value + 5)) ∷ []

-- a mask that begins as another
unfoldable pub opens : (k var outer : ℕ) → List LaneStmt
opens k var outer = Let (val k) (d.Get outer) ∷ Let (val (k + 1)) (d.Const 1) ∷ Put var (val k) (val (k + 1)) ∷ []

-- the first value is the mask, then come zeros, ones and the masks of both branches
unfoldable pub chooses : Place → Val → List LaneStmt
chooses at c =
    Let (val at.value) (d.Get at.top) ∷ Let (val (at.value + 1)) (d.Const 0) ∷ Let (val (at.value + 2)) (d.Const 1)
    ∷ Let (val (at.value + 3)) (d.Choose c (val at.value) (val (at.value + 1))) ∷ Let (val (at.value + 4)) (d.Choose c (val (at.value + 1)) (val at.value))
    ∷ Put at.var (val (at.value + 3)) (val (at.value + 2)) ∷ []

-- the loop's mask falls where the condition is 0; the third value is the mask then
unfoldable pub tests : Place → Val → List LaneStmt
tests at c =
    Let (val at.value) (d.Get at.var) ∷ Let (val (at.value + 1)) (d.Const 0) ∷ Let (val (at.value + 2)) (d.Choose c (val at.value) (val (at.value + 1)))
    ∷ Put at.var (val (at.value + 2)) (val at.value) ∷ []

-- ---- statements

-- an access under the top mask
abbrev pub under : Place → (Val → LaneStmt) → List LaneStmt
under at access = Let (val at.value) (d.Get at.top) ∷ access (val at.value) ∷ []

abbrev pub id : List Val → ℕ → Val
id ids n = get_or ids n (val 0)

unfoldable pub small_numbers : ℕ → List LaneStmt
small_numbers k = Let (val k) (d.Const 0) ∷ Let (val (k + 1)) (d.Const 1) ∷ Let (val (k + 2)) (d.Const 2) ∷ []

-- one of three ids by the value of a dimension, 0 past 2. They are those from the n-th on
unfoldable pub picks : ℕ → Val → Val → List Val → ℕ → List LaneStmt
picks k x dim ids n =
    small_numbers k
    ++ Let (val (k + 3)) (d.Bin Equal dim (val (k + 2))) ∷ Let (val (k + 3)) (d.Choose (val (k + 3)) (id ids (n + 2)) (val k))
    ∷ Let (val (k + 4)) (d.Bin Equal dim (val (k + 1))) ∷ Let (val (k + 3)) (d.Choose (val (k + 4)) (id ids (n + 1)) (val (k + 3)))
    ∷ Let x (d.Choose dim (val (k + 3)) (id ids n)) ∷ []

-- a number of the work; the ids are the global ones, then the local ones, then those of the groups
abbrev pub asks : List Val → ℕ → Val → WorkFunction → Val → List LaneStmt
asks ids k x GlobalId dim = picks k x dim ids 0
asks ids k x LocalId dim = picks k x dim ids 3
asks ids k x GroupId dim = picks k x dim ids 6
asks ids k x WorkDim dim = Let x (d.Work WorkDim dim) ∷ []
asks ids k x GlobalSize dim = Let x (d.Work GlobalSize dim) ∷ []
asks ids k x LocalSize dim = Let x (d.Work LocalSize dim) ∷ []
asks ids k x NumGroups dim = Let x (d.Work NumGroups dim) ∷ []

abbrev pub defining : List Val → Place → Val → Def → List LaneStmt
defining ids at x (d.Work which dim) = asks ids at.value x which dim
defining ids at x (d.Load t a) = under at (λ m. Load t x a m)
defining ids at x (d.Element a j) = under at (λ m. GetElement a x j m)
defining ids at x e = Let x e ∷ []

-- the parts of a loop: the opening, the loop over head and test, and in it the round, and what settles the top mask after it
abbrev pub loops : Place → Val → (head body step : List LaneStmt) → List LaneStmt
loops at c head body step =
    opens at.value at.var at.top
    ++ (WhileAny (head ++ tests at c) (val (at.value + 2)) (opens at.value (at.var + 1) at.var ++ (body ++ (settles (turning at) ++ step))) ∷ settles at)

-- both branches, each under its mask
abbrev pub branches : Place → Val → (first other : List LaneStmt) → List LaneStmt
branches at c first other = chooses at c ++ (first ++ (Put at.var (val (at.value + 4)) (val (at.value + 2)) ∷ (other ++ settles at)))

-- the values and variables of a place are free again after the statement
abbrev mutual
  pub masked : List Val → Place → Stmt → List LaneStmt
  masked ids at (i.Let x e) = defining ids at x e
  masked ids at (i.Set u x) = under at (λ m. Put u x m)
  masked ids at (i.Store t a x) = under at (λ m. Store t a x m)
  masked ids at (i.SetElement a j x) = under at (λ m. PutElement a j x m)
  masked ids at (i.Clear a) = under at (λ m. Clear a m)
  masked ids at (i.If' c n first m other) = branches at c (masked_row ids (branch at) first) (masked_row ids (branch at) other)
  masked ids at (i.Loop' n head c m body l step) =
      loops at c (masked_row ids (turning at) head) (masked_row ids (in_round at) body) (masked_row ids (turning at) step)
  masked ids at (i.Scope' n body) = opens at.value at.var at.top ++ masked_row ids (scope at) body
  masked ids at i.Leave = leaves_to at.in_scope at
  masked ids at i.Break = leaves_to (loop_of at) at
  masked ids at i.Continue = leaves_to (round_of at) at

  pub masked_row : {n : _} → List Val → Place → Row_of-Stmt n → List LaneStmt
  masked_row ids at end_of-Stmt = []
  masked_row ids at (more_of-Stmt a rest) = masked ids at a ++ masked_row ids at rest

abbrev pub masked_all : List Val → Place → List Stmt → List LaneStmt
masked_all ids at [] = []
masked_all ids at (a ∷ rest) = masked ids at a ++ masked_all ids at rest

-- the whole item, in the lanes where value `live` isn't 0. Its scope's mask is the first variable past the item's
abbrev pub masked_item : List Val → (live : Val) → (k nu : ℕ) → List Stmt → List LaneStmt
masked_item ids live k nu body = Let (val k) (d.Const 1) ∷ Put nu live (val k) ∷ masked_all ids (outermost k nu) body
