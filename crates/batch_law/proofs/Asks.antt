-- The uses that are gathered of a body hold all that its statements ask for.
use Rattle.std.proofs.Common.{◌≡◌, Bool, true, false, List, [], ◌∷◌, refl}
use Rattle.std.specs.Prelude.{◌&&◌}
use Rattle.q_functions.specs.declared.functions.WorkFunction.{WorkFunction}
use Rattle.q_functions.specs.declared.functions.WorkFunction.TheVariants.{WorkDim, GlobalId, GlobalSize, LocalId, LocalSize, GroupId, NumGroups}
use Rattle.item_ir.specs.declared.form.Def.{Def}
use Rattle.item_ir.specs.declared.form.Def.TheVariants as d
use Rattle.item_ir.specs.declared.form.Stmt.{Stmt, Row_of-Stmt, end_of-Stmt, more_of-Stmt}
use Rattle.item_ir.specs.declared.form.Stmt.TheVariants.{Let, Set, Store, SetElement, Clear, If', Loop', Scope', Leave, Break, Continue}
use Rattle.lane_mapper.specs.declared.uses.Uses.{Uses}
use Rattle.lane_mapper.specs.Asked.{asked_work, asked_def, asked, asked_row, asked_all}
use Rattle.mask_law.specs.Worlds.{asks_work, asks_def, asks, asks_row, asks_all}

-- all that are in u are in v
record In (u v : Uses) : Type 0 where
  global : u.global ≡ true → v.global ≡ true
  local : u.local ≡ true → v.local ≡ true
  group : u.group ≡ true → v.group ≡ true

same : (u : Uses) → In u u
same u = record { global = λ h. h; local = λ h. h; group = λ h. h }

then_in : (u v x : Uses) → In u v → In v x → In u x
then_in u v x a b = record { global = λ h. b.global (a.global h); local = λ h. b.local (a.local h); group = λ h. b.group (a.group h) }

in_work : (u : Uses) (which : WorkFunction) → In u (asked_work u which)
in_work u GlobalId = record { global = λ h. refl; local = λ h. h; group = λ h. h }
in_work u LocalId = record { global = λ h. h; local = λ h. refl; group = λ h. h }
in_work u GroupId = record { global = λ h. h; local = λ h. h; group = λ h. refl }
in_work u WorkDim = same u
in_work u GlobalSize = same u
in_work u LocalSize = same u
in_work u NumGroups = same u

in_def : (u : Uses) (e : Def) → In u (asked_def u e)
in_def u (d.Work which dim) = in_work u which
in_def u (d.Const x) = same u
in_def u (d.Param x) = same u
in_def u (d.Get x) = same u
in_def u (d.Bin op a b) = same u
in_def u (d.One op a) = same u
in_def u (d.Built f t args) = same u
in_def u (d.Choose c a b) = same u
in_def u (d.Load t a) = same u
in_def u (d.Element r i) = same u
in_def u d.Flat = same u
in_def u d.Items = same u

mutual
  in_stmt : (u : Uses) (a : Stmt) → In u (asked u a)
  in_stmt u (Let x e) = in_def u e
  in_stmt u (Set v x) = same u
  in_stmt u (Store t a x) = same u
  in_stmt u (SetElement a i x) = same u
  in_stmt u (Clear a) = same u
  in_stmt u (If' c n a m b) = then_in u (asked_row u a) (asked_row (asked_row u a) b) (in_row u a) (in_row (asked_row u a) b)
  in_stmt u (Loop' n head c m body l step) =
      then_in u (asked_row u head) (asked_row (asked_row (asked_row u head) body) step) (in_row u head)
      (then_in (asked_row u head) (asked_row (asked_row u head) body) (asked_row (asked_row (asked_row u head) body) step) (in_row (asked_row u head) body) (in_row (asked_row (asked_row u head) body) step))
  in_stmt u (Scope' n a) = in_row u a
  in_stmt u Leave = same u
  in_stmt u Break = same u
  in_stmt u Continue = same u

  in_row : {k : _} (u : Uses) (r : Row_of-Stmt k) → In u (asked_row u r)
  in_row u end_of-Stmt = same u
  in_row u (more_of-Stmt a rest) = then_in u (asked u a) (asked_row (asked u a) rest) (in_stmt u a) (in_row (asked u a) rest)

both : (a b : Bool) → a ≡ true → b ≡ true → (a && b) ≡ true
both true b h i = i
both false b h i = absurd (cc)

-- what is asked for stays so among more uses
work_asks : (u v : Uses) (which : WorkFunction) → In (asked_work u which) v → asks_work v which ≡ true
work_asks u v GlobalId h = h.global refl
work_asks u v LocalId h = h.local refl
work_asks u v GroupId h = h.group refl
work_asks u v WorkDim h = refl
work_asks u v GlobalSize h = refl
work_asks u v LocalSize h = refl
work_asks u v NumGroups h = refl

def_asks : (u v : Uses) (e : Def) → In (asked_def u e) v → asks_def v e ≡ true
def_asks u v (d.Work which dim) h = work_asks u v which h
def_asks u v (d.Const x) h = refl
def_asks u v (d.Param x) h = refl
def_asks u v (d.Get x) h = refl
def_asks u v (d.Bin op a b) h = refl
def_asks u v (d.One op a) h = refl
def_asks u v (d.Built f t args) h = refl
def_asks u v (d.Choose c a b) h = refl
def_asks u v (d.Load t a) h = refl
def_asks u v (d.Element r i) h = refl
def_asks u v d.Flat h = refl
def_asks u v d.Items h = refl

mutual
  stmt_asks : (u v : Uses) (a : Stmt) → In (asked u a) v → asks v a ≡ true
  stmt_asks u v (Let x e) h = def_asks u v e h
  stmt_asks u v (Set y x) h = refl
  stmt_asks u v (Store t a x) h = refl
  stmt_asks u v (SetElement a i x) h = refl
  stmt_asks u v (Clear a) h = refl
  stmt_asks u v (If' c n a m b) h =
      both (asks_row v a) (asks_row v b) (row_asks u v a (then_in (asked_row u a) (asked_row (asked_row u a) b) v (in_row (asked_row u a) b) h)) (row_asks (asked_row u a) v b h)
  stmt_asks u v (Loop' n head c m body l step) h =
      let u1 = asked_row u head in
      let u2 = asked_row u1 body in
      let u3 = asked_row u2 step in
      let h2 : In u2 v = then_in u2 u3 v (in_row u2 step) h in
      let h1 : In u1 v = then_in u1 u2 v (in_row u1 body) h2 in
      both (asks_row v head) (asks_row v body && asks_row v step) (row_asks u v head h1) (both (asks_row v body) (asks_row v step) (row_asks u1 v body h2) (row_asks u2 v step h))
  stmt_asks u v (Scope' n a) h = row_asks u v a h
  stmt_asks u v Leave h = refl
  stmt_asks u v Break h = refl
  stmt_asks u v Continue h = refl

  row_asks : {k : _} (u v : Uses) (r : Row_of-Stmt k) → In (asked_row u r) v → asks_row v r ≡ true
  row_asks u v end_of-Stmt h = refl
  row_asks u v (more_of-Stmt a rest) h =
      both (asks v a) (asks_row v rest) (stmt_asks u v a (then_in (asked u a) (asked_row (asked u a) rest) v (in_row (asked u a) rest) h)) (row_asks (asked u a) v rest h)

in_all : (u : Uses) (l : List Stmt) → In u (asked_all u l)
in_all u [] = same u
in_all u (a ∷ rest) = then_in u (asked u a) (asked_all (asked u a) rest) (in_stmt u a) (in_all (asked u a) rest)

all_asks : (u v : Uses) (l : List Stmt) → In (asked_all u l) v → asks_all v l ≡ true
all_asks u v [] h = refl
all_asks u v (a ∷ rest) h = both (asks v a) (asks_all v rest) (stmt_asks u v a (then_in (asked u a) (asked_all (asked u a) rest) v (in_all (asked u a) rest) h)) (all_asks (asked u a) v rest h)

pub body_asks : (u : Uses) (l : List Stmt) → asks_all (asked_all u l) l ≡ true
body_asks u l = all_asks u (asked_all u l) l (same (asked_all u l))
