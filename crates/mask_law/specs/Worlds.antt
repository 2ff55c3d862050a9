-- The world of a batch and those of its items.
use Rattle.std.specs.Prelude.{◌≡◌, ℕ, true, ◌+◌, ◌<◌, ◌≤◌, ◌&&◌, Bool, List, [], ◌∷◌, nat_lt, if◌then◌else◌}
use Rattle.q_functions.specs.WorkFunctions.{global_id, local_id, group_id, global_size, local_size}
use Rattle.q_functions.specs.declared.functions.WorkFunction.{WorkFunction}
use Rattle.q_functions.specs.declared.functions.WorkFunction.TheVariants.{GlobalId, LocalId, GroupId}
use Rattle.item_ir.specs.declared.form.Def.{Def}
use Rattle.item_ir.specs.declared.form.Def.TheVariants as d
use Rattle.item_ir.specs.declared.form.Stmt.{Stmt, Row_of-Stmt, end_of-Stmt, more_of-Stmt}
use Rattle.item_ir.specs.declared.form.Stmt.TheVariants.{Let, Set, Store, SetElement, Clear, If', Loop', Scope', Leave, Break, Continue}
use Rattle.item_ir.specs.IrMeaning.{World as ItemWorld}
use Rattle.item_ir.specs.declared.form.Val.{Val}
use Rattle.lane_ir.specs.LaneMeaning.{World, State}
use Rattle.lane_mapper.specs.declared.uses.Uses.{Uses}
use Rattle.mask_flow.specs.Masked.{id}

-- the world of a batch, and that of the item in one of its lanes
pub record SameWorld (w : World) (x : ItemWorld) : Type 0 where
  pub regions : x.regions ≡ w.regions
  pub params : (p : ℕ) → x.params p ≡ w.params p
  pub lens : (r : ℕ) → x.lens r ≡ w.lens r
  pub dims : x.work.dims ≡ w.dims
  pub global : (d : ℕ) → global_size x.work d ≡ (if nat_lt d 3 then w.global d else 1)
  pub local : (d : ℕ) → local_size x.work d ≡ (if nat_lt d 3 then w.local d else 1)
  pub past : (d : ℕ) → 3 ≤ d → global_id x.work d ≡ 0

-- the values that stand for the ids of a lane's item, and the kinds of ids that they are right for
pub record Ids : Type 0 where
  pub vals : List Val
  pub uses : Uses

pub record HasIds (ids : Ids) (x : ItemWorld) (t : State) (l : ℕ) : Type 0 where
  pub global : ids.uses.global ≡ true → (d : ℕ) → d < 3 → t.vals (id ids.vals d).0 l ≡ global_id x.work d
  pub local : ids.uses.local ≡ true → (d : ℕ) → d < 3 → t.vals (id ids.vals (3 + d)).0 l ≡ local_id x.work d
  pub group : ids.uses.group ≡ true → (d : ℕ) → d < 3 → t.vals (id ids.vals (6 + d)).0 l ≡ group_id x.work d

-- they stand among the prolog's values, from nv up to k
abbrev pub BelowIds : (ids : List Val) (nv k : ℕ) → Type 0
BelowIds ids nv k = (j : ℕ) → j < 9 → (nv ≤ (id ids j).0) × ((id ids j).0 < k)

-- ---- a statement asks for ids of those kinds alone

abbrev pub asks_work : Uses → WorkFunction → Bool
asks_work u GlobalId = u.global
asks_work u LocalId = u.local
asks_work u GroupId = u.group
asks_work u which = true

abbrev pub asks_def : Uses → Def → Bool
asks_def u (d.Work which dim) = asks_work u which
asks_def u e = true

abbrev mutual
  pub asks : Uses → Stmt → Bool
  asks u (Let x e) = asks_def u e
  asks u (If' c n a m b) = asks_row u a && asks_row u b
  asks u (Loop' n head c m body i step) = asks_row u head && (asks_row u body && asks_row u step)
  asks u (Scope' n a) = asks_row u a
  asks u (Set v x) = true
  asks u (Store t a x) = true
  asks u (SetElement a i x) = true
  asks u (Clear a) = true
  asks u Leave = true
  asks u Break = true
  asks u Continue = true

  pub asks_row : {k : _} → Uses → Row_of-Stmt k → Bool
  asks_row u end_of-Stmt = true
  asks_row u (more_of-Stmt a rest) = asks u a && asks_row u rest

abbrev pub asks_all : Uses → List Stmt → Bool
asks_all u [] = true
asks_all u (a ∷ rest) = asks u a && asks_all u rest
