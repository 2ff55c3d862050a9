-- The law of masking for one statement.
use Rattle.std.specs.Prelude.{◌≡◌, ℕ, ◌<◌, Bool, true, List, ◌∷◌}
use Rattle.item_ir.specs.IrMeaning.{World as ItemWorld, State as Item, Flow, run as run_item}
use Rattle.item_ir.specs.Valid.{Counts, Around, Known, known_after, is_stmt}
use Rattle.item_ir.specs.declared.form.Stmt.{Stmt}
use Rattle.lane_ir.specs.LaneMeaning.{World, State, Ends, run_all}
use Rattle.mask_flow.specs.Masked.{masked}
use Rattle.mask_law.specs.Stacks.{Entry, place}
use Rattle.mask_law.specs.Weights.{weight}
use Rattle.mask_law.specs.Worlds.{Ids, SameWorld, asks}
use Rattle.mask_law.specs.Lanes.{Bytes, Before, Items, After, Open}

-- `known` are the values that the test of the form knows, `knowns` those that each lane has
abbrev pub IsMasked : Stmt → Type 0
IsMasked a =
    (w : World) (xs : ℕ → ItemWorld) (ids : Ids) (n tests : ℕ) (c : Counts) (r : Around) (b : Bytes n) (act : ℕ → Bool) (known : Known) (knowns : ℕ → Known) (k v : ℕ) (e : Entry) (st : List Entry) (t : State)
    (s s' : ℕ → Item) (f : ℕ → Flow)
    → is_stmt c r known a ≡ true → asks ids.uses a ≡ true → Open r (e ∷ st) → ((l : ℕ) → l < n → SameWorld w (xs l))
    → Before n c.vars c.vals tests b ids xs act (λ l j. knowns l j ≡ true) (λ j. known j ≡ true) k v (e ∷ st) t s
    → Items n b act (λ l. run_item (xs l) a) s f s'
    → (t' : State) × (run_all w n tests (masked ids.vals (place k v (e ∷ st)) a) t ≡ Ends t')
    × After n c.vars c.vals (weight a) b act (λ l j. knowns l j ≡ true) (λ j. known_after known a j ≡ true) k v (e ∷ st) t t' s s' f
