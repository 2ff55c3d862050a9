-- A valid item fits, and its flow ends at a mask that is open.
use Rattle.std.specs.Prelude.{◌≡◌, ℕ, ◌+◌, true, List, []}
use Rattle.item_ir.specs.IrMeaning.{World, State, Run, Ends, Stops, Spent, run_all}
use Rattle.item_ir.specs.Valid.{Counts, is_item}
use Rattle.item_ir.specs.declared.form.Stmt.{Stmt}
use Rattle.mask_law.specs.Stacks.{Entry, in_scope}
use Rattle.mask_law.specs.Masks.{flow_has}
use Rattle.mask_law.specs.Lanes.{FitsAll}

abbrev pub FlowsTo : List Entry → Run → Type 0
FlowsTo st (Ends f s) = flow_has f st ≡ true
FlowsTo st Stops = Unit {0}
FlowsTo st Spent = Unit {0}

-- of statements in which each number names something: no values are there where they begin
abbrev pub FlowsFit : Type 0
FlowsFit = (w : World) (nu nv v : ℕ) (st : List Entry) (body : List Stmt) (s : State) → FitsAll nu nv v st (λ j. ⊥) body → FlowsTo st (run_all w body s)

-- the scope's mask stands in the first variable past the item's
abbrev pub ValidFits : Type 0
ValidFits = (c : Counts) (body : List Stmt) → is_item c body ≡ true → FitsAll c.vars c.vals (c.vars + 1) (in_scope c.vars []) (λ j. ⊥) body
