-- The law of masking for rows of statements, and for the statements that hold rows.
use Rattle.std.specs.Prelude.{◌≡◌, ℕ, ◌<◌, Bool, true, false, List, ◌∷◌}
use Rattle.item_ir.specs.IrMeaning.{World as ItemWorld, State as Item, Flow, run_row as run_items}
use Rattle.item_ir.specs.Valid.{Counts, Around, Known, known_row, is_row}
use Rattle.item_ir.specs.declared.form.Stmt.{Stmt, Row_of-Stmt}
use Rattle.item_ir.specs.declared.form.Stmt.TheVariants.{Let, Set, Store, SetElement, Clear, If', Loop', Scope', Leave, Break, Continue}
use Rattle.lane_ir.specs.LaneMeaning.{World, State, Ends, run_all}
use Rattle.mask_flow.specs.Masked.{masked_row}
use Rattle.mask_law.specs.Stacks.{Entry, place}
use Rattle.mask_law.specs.Weights.{weight_row}
use Rattle.mask_law.specs.Worlds.{Ids, SameWorld, asks_row}
use Rattle.mask_law.specs.Lanes.{Bytes, Before, Items, After, Open}
use Rattle.mask_law.specs.Leave.{IsMasked}

-- the law for a row, as for one statement
abbrev pub IsRowMasked : {m : _} → Row_of-Stmt m → Type 0
IsRowMasked row =
    (w : World) (xs : ℕ → ItemWorld) (ids : Ids) (n tests : ℕ) (c : Counts) (r : Around) (b : Bytes n) (act : ℕ → Bool) (known : Known) (knowns : ℕ → Known) (k v : ℕ) (e : Entry) (st : List Entry) (t : State)
    (s s' : ℕ → Item) (f : ℕ → Flow)
    → is_row c r known row ≡ true → asks_row ids.uses row ≡ true → Open r (e ∷ st) → ((l : ℕ) → l < n → SameWorld w (xs l))
    → Before n c.vars c.vals tests b ids xs act (λ l j. knowns l j ≡ true) (λ j. known j ≡ true) k v (e ∷ st) t s
    → Items n b act (λ l. run_items (xs l) row) s f s'
    → (t' : State) × (run_all w n tests (masked_row ids.vals (place k v (e ∷ st)) row) t ≡ Ends t')
    × After n c.vars c.vals (weight_row row) b act (λ l j. knowns l j ≡ true) (λ j. known_row known row j ≡ true) k v (e ∷ st) t t' s s' f

-- a statement without parts
abbrev pub is_leaf : Stmt → Bool
is_leaf (Let x e) = true
is_leaf (Set u x) = true
is_leaf (Store t a x) = true
is_leaf (SetElement a i x) = true
is_leaf (Clear a) = true
is_leaf (If' c n a m b) = false
is_leaf (Loop' n h c m b i s) = false
is_leaf (Scope' n a) = false
is_leaf Leave = true
is_leaf Break = true
is_leaf Continue = true

abbrev pub LeavesMasked : Type 0
LeavesMasked = (a : Stmt) → is_leaf a ≡ true → IsMasked a

abbrev pub AllMasked : Type 0
AllMasked = (a : Stmt) → IsMasked a
