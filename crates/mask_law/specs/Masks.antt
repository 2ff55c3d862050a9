-- The masks of one lane: whether each mask that is open is on, the innermost first, and what leaving and settling make of them.
use Rattle.std.specs.Prelude.{ℕ, Bool, true, false, not, ◌&&◌, ◌||◌, if◌then◌else◌, List, [], ◌∷◌}
use Rattle.item_ir.specs.IrMeaning.{Flow, Next, Broke, Again, Gone}
use Rattle.lane_ir.specs.LaneMeaning.{is_on}
use Rattle.mask_law.specs.Stacks.{Kind, Round, In_loop, In_scope, same, Entry}

pub record Mask : Type 0 where
  pub kind : Kind
  pub on : Bool

-- the masks of a lane whose variables hold these words
abbrev pub column : List Entry → (ℕ → ℕ) → List Mask
column [] words = []
column (e ∷ st) words = record { kind = e.kind; on = is_on (words e.var) } ∷ column st words

abbrev pub top_on : List Mask → Bool
top_on [] = false
top_on (m ∷ ms) = m.on

-- the innermost mask of a kind within the innermost scope is on, or there is none
abbrev pub on_at : Kind → List Mask → Bool
on_at k [] = true
on_at k (m ∷ ms) = if same k m.kind then m.on else (if same In_scope m.kind then true else on_at k ms)

abbrev pub all_on : List Mask → Bool
all_on ms = on_at Round ms && (on_at In_loop ms && on_at In_scope ms)

abbrev pub settle : List Mask → List Mask
settle [] = []
settle (m ∷ ms) = record m { on = m.on && all_on (m ∷ ms) } ∷ ms

abbrev pub clear_top : List Mask → List Mask
clear_top [] = []
clear_top (m ∷ ms) = record m { on = false } ∷ ms

abbrev pub clear_end : Kind → List Mask → List Mask
clear_end k [] = []
clear_end k (m ∷ ms) = if same k m.kind then record m { on = false } ∷ ms else (if same In_scope m.kind then m ∷ ms else m ∷ clear_end k ms)

abbrev pub left_to : Kind → List Mask → List Mask
left_to k ms = clear_top (clear_end k ms)

-- the masks of a lane whose item went on or left so: the top one and the one where the flow ends have fallen, those between are stale
abbrev pub after : Flow → List Mask → List Mask
after Next ms = ms
after Broke ms = left_to In_loop ms
after Again ms = left_to Round ms
after Gone ms = left_to In_scope ms

-- a mask of this kind is open in the innermost scope
abbrev pub has : Kind → List Entry → Bool
has k [] = false
has k (e ∷ st) = same k e.kind || (not (same In_scope e.kind) && has k st)

abbrev pub flow_has : Flow → List Entry → Bool
flow_has Next st = true
flow_has Broke st = has In_loop st
flow_has Again st = has Round st
flow_has Gone st = has In_scope st
