-- Which ids of its item a body asks for.
use Rattle.std.specs.Prelude.{Bool, true, false, List, [], ◌∷◌}
use Rattle.q_functions.specs.declared.functions.WorkFunction.{WorkFunction}
use Rattle.q_functions.specs.declared.functions.WorkFunction.TheVariants.{WorkDim, GlobalId, GlobalSize, LocalId, LocalSize, GroupId, NumGroups}
use Rattle.item_ir.specs.declared.form.Def.{Def}
use Rattle.item_ir.specs.declared.form.Def.TheVariants as d
use Rattle.item_ir.specs.declared.form.Stmt.{Stmt, Row_of-Stmt, end_of-Stmt, more_of-Stmt}
use Rattle.item_ir.specs.declared.form.Stmt.TheVariants.{Let, Set, Store, SetElement, Clear, If', Loop', Scope', Leave, Break, Continue}
use Rattle.lane_mapper.specs.declared.uses.Uses.{Uses}

abbrev pub no_uses : Uses
no_uses = record { global = false; local = false; group = false }

abbrev pub asked_work : Uses → WorkFunction → Uses
asked_work u GlobalId = record u { global = true }
asked_work u LocalId = record u { local = true }
asked_work u GroupId = record u { group = true }
asked_work u WorkDim = u
asked_work u GlobalSize = u
asked_work u LocalSize = u
asked_work u NumGroups = u

abbrev pub asked_def : Uses → Def → Uses
asked_def u (d.Work which dim) = asked_work u which
asked_def u e = u

abbrev mutual
  -- those that were asked for, and those of a statement
  pub asked : Uses → Stmt → Uses
  asked u (Let x e) = asked_def u e
  asked u (Set v x) = u
  asked u (Store t a x) = u
  asked u (SetElement a i x) = u
  asked u (Clear a) = u
  asked u (If' c n a m b) = asked_row (asked_row u a) b
  asked u (Loop' n head c m body l step) = asked_row (asked_row (asked_row u head) body) step
  asked u (Scope' n a) = asked_row u a
  asked u Leave = u
  asked u Break = u
  asked u Continue = u

  pub asked_row : {k : _} → Uses → Row_of-Stmt k → Uses
  asked_row u end_of-Stmt = u
  asked_row u (more_of-Stmt a rest) = asked_row (asked u a) rest

abbrev pub asked_all : Uses → List Stmt → Uses
asked_all u [] = u
asked_all u (a ∷ rest) = asked_all (asked u a) rest
