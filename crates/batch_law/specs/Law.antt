-- What the code of a batch does: the prolog that map_ids gives, and after it the statements that mask makes of an item.
use Rattle.std.specs.Prelude.{◌≡◌, ℕ, suc, ◌+◌, ◌*◌, ◌<◌, ◌≤◌, Bool, true, List, [], ◌++◌, nat_lt}
use Rattle.item_ir.specs.IrMeaning.{World as ItemWorld, State as Item, Flow, run_all as run_items}
use Rattle.item_ir.specs.Valid.{Counts, is_item}
use Rattle.item_ir.specs.declared.form.Stmt.{Stmt}
use Rattle.lane_ir.specs.LaneMeaning.{World, State, Ends, run_all}
use Rattle.lane_ir.specs.declared.form.LaneStmt.{LaneStmt}
use Rattle.lane_mapper.specs.Asked.{no_uses, asked_all}
use Rattle.lane_mapper.specs.Prolog.{val, prolog, prolog_vals, ids_from}
use Rattle.launch_file.specs.Launches.{LaunchOf, IsLaunch}
use Rattle.mask_flow.specs.Masked.{masked_item}
use Rattle.mask_law.specs.Lanes.{lane_log, total}
use Rattle.mask_law.specs.Law.{mem_before, OneByOne}
use Rattle.mask_law.specs.Weights.{weight_all}
use Rattle.prolog_law.specs.Laws.{IsBatchOf, item}

-- the code of a batch of sixteen of these items
abbrev pub batch_code : Counts → List Stmt → List LaneStmt
batch_code c body = prolog c.vals (asked_all no_uses body) ++ masked_item (ids_from c.vals) (val (c.vals + 2)) (c.vals + prolog_vals) c.vars body

-- the lanes that have an item
abbrev pub has_item : World → ℕ → Bool
has_item w l = nat_lt (16 * w.batch + l) w.items

-- what the item of lane l runs on
abbrev pub item_world : LaunchOf → World → ℕ → ItemWorld
item_world launch w l = record { regions = w.regions; params = w.params; lens = w.lens; work = item launch w l }

-- the lanes open with their items' variables and arrays, and nothing is accessed yet
pub record OpensAs (nu : ℕ) (starts : ℕ → Item) (t : State) : Type 0 where
  pub vars : (l u : ℕ) → l < 16 → u < nu → t.vars u l ≡ (starts l).vars u
  pub arrays : (l r e : ℕ) → l < 16 → t.arrays r e l ≡ (starts l).arrays r e
  pub log : t.log ≡ []

-- the memory is the one that the last item leaves, each lane that has an item makes that item's accesses in their order, and no other makes any. The
-- operations are at most those of the prolog and those of the text, once and for each round of an item
pub record Did (w : World) (weight : ℕ) (old : State) (starts ends : ℕ → Item) (t : State) : Type 0 where
  pub mem : (a : ℕ) → t.mem a ≡ mem_before (has_item w) ends old.mem 16 a
  pub log : (l : ℕ) → l < 16 → lane_log l t.log ≡ (ends l).touches
  pub falls : total 16 ends ≤ total 16 starts
  pub steps : t.steps + weight * total 16 ends ≤ old.steps + 8135 + weight * suc (total 16 starts)

-- the items of a batch run one by one, come to their ends and don't conflict. No loop is tested more often, each time that it is entered, than there are
-- rounds left to the items together, and once
abbrev pub BatchesDoTheirItems : Type 0
BatchesDoTheirItems =
    (launch : LaunchOf) (w : World) (c : Counts) (body : List Stmt) (i : ℕ) (starts ends : ℕ → Item) (flows : ℕ → Flow) (t : State)
    → IsLaunch launch → IsBatchOf launch w → w.dims ≡ launch.dims → is_item c body ≡ true → OpensAs c.vars starts t
    → OneByOne 16 (has_item w) (λ l. run_items (item_world launch w l) body) t.mem starts ends flows
    → total 16 starts < i
    → (t' : State) × (run_all w 16 i (batch_code c body) t ≡ Ends t') × Did w (weight_all body) t starts ends t'
