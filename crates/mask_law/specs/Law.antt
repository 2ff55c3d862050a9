-- What the code of a batch keeps of its items.
use Rattle.std.specs.Prelude.{◌≡◌, ℕ, zero, suc, ◌+◌, ◌*◌, ◌<◌, ◌≤◌, ◌≢◌, Bool, true, false, List, [], if◌then◌else◌}
use Rattle.item_ir.specs.IrMeaning.{World as ItemWorld, State as Item, Run as Ran, Ends as Done, Flow, run_all as run_items}
use Rattle.item_ir.specs.declared.form.Stmt.{Stmt}
use Rattle.lane_ir.specs.LaneMeaning.{World, State, Ends, is_on, run_all}
use Rattle.item_ir.specs.Valid.{Counts, is_item}
use Rattle.mask_flow.specs.Masked.{val, masked_item}
use Rattle.mask_law.specs.Worlds.{Ids, SameWorld, HasIds, BelowIds, asks_all}
use Rattle.mask_law.specs.Lanes.{lane_log, touches, writes, total}
use Rattle.mask_law.specs.Weights.{weight_all}

-- the memory before lane l, where each live item begins on what the last one left
abbrev pub mem_before : (ℕ → Bool) → (ℕ → Item) → (ℕ → ℕ) → ℕ → ℕ → ℕ
mem_before act ends mem zero = mem
mem_before act ends mem (suc l) = if act l then (ends l).mem else mem_before act ends mem l

-- the items of the live lanes run one by one, end, and don't conflict
pub record OneByOne (n : ℕ) (act : ℕ → Bool) (x : ℕ → Item → Ran) (mem : ℕ → ℕ) (starts ends : ℕ → Item) (flows : ℕ → Flow) : Type 0 where
  pub begins : (l : ℕ) → l < n → act l ≡ true → (a : ℕ) → (starts l).mem a ≡ mem_before act ends mem l a
  pub fresh : (l : ℕ) → l < n → (starts l).touches ≡ []
  pub runs : (l : ℕ) → l < n → act l ≡ true → x l (starts l) ≡ Done (flows l) (ends l)
  pub idle : (l : ℕ) → l < n → act l ≡ false → ends l ≡ starts l
  pub alone : (l m a : ℕ) → l < n → m < n → l ≢ m → act l ≡ true → act m ≡ true → writes (ends l).touches a ≡ true → touches (ends m).touches a ≡ true → ⊥

-- a batch before its body: the items' variables and arrays, the live lanes in a value, and the ids
pub record Begins (n nu nv k live : ℕ) (ids : Ids) (act : ℕ → Bool) (xs : ℕ → ItemWorld) (starts : ℕ → Item) (t : State) : Type 0 where
  pub vars : (l u : ℕ) → l < n → u < nu → t.vars u l ≡ (starts l).vars u
  pub arrays : (l r e : ℕ) → l < n → t.arrays r e l ≡ (starts l).arrays r e
  pub mask : (l : ℕ) → l < n → is_on (t.vals live l) ≡ act l
  pub has_ids : (l : ℕ) → l < n → act l ≡ true → HasIds ids (xs l) t l
  pub log : t.log ≡ []
  pub below : BelowIds ids.vals nv k
  pub prolog : nv ≤ live
  pub free : live < k

-- the batch ends with the memory that the last item leaves. Each live lane has its item's accesses, and no other lane has any. Its steps are at most
-- the text's, once and for each round of an item, where a round is one of `left` that is used up
pub record EndsAs (n weight : ℕ) (act : ℕ → Bool) (old : State) (starts ends : ℕ → Item) (t : State) : Type 0 where
  pub mem : (a : ℕ) → t.mem a ≡ mem_before act ends old.mem n a
  pub log : (l : ℕ) → l < n → lane_log l t.log ≡ (ends l).touches
  pub falls : total n ends ≤ total n starts
  pub steps : t.steps + weight * total n ends ≤ old.steps + 2 + weight * suc (total n starts)

-- no loop of the batch is tested more often, each time that it is entered, than there are rounds left to its items together, and once
abbrev pub KeepsItems : (w : World) (n : ℕ) → Counts → List Stmt → Type 0
KeepsItems w n c body =
    (ids : Ids) (live k i : ℕ) (act : ℕ → Bool) (xs : ℕ → ItemWorld) (starts ends : ℕ → Item) (flows : ℕ → Flow) (t : State)
    → is_item c body ≡ true → asks_all ids.uses body ≡ true
    → ((l : ℕ) → l < n → SameWorld w (xs l))
    → Begins n c.vars c.vals k live ids act xs starts t
    → OneByOne n act (λ l. run_items (xs l) body) t.mem starts ends flows
    → total n starts < i
    → (t' : State) × (run_all w n i (masked_item ids.vals (val live) k c.vars body) t ≡ Ends t')
    × EndsAs n (weight_all body) act t starts ends t'

abbrev pub BatchesKeepItems : Type 0
BatchesKeepItems = (w : World) (n : ℕ) (c : Counts) (body : List Stmt) → KeepsItems w n c body
