use Rattle.std.proofs.Common.{◌≡◌, ◌∙◌, ℕ, ◌/◌, ◌%◌, List, [], ◌∷◌, get_or, ap}
use native.Mathlib.Nat.{div-div-eq-div-mul}
use Rattle.q_functions.specs.declared.work.Work.{Work}
use Rattle.q_functions.specs.WorkFunctions.{work_of as item_of}
use Rattle.q_functions.proofs.work.work_of.Goals as goal

abbrev with_ids : ℕ → (global local : List ℕ) → (x y z : ℕ) → Work
with_ids dims global local x y z = record { dims = dims; global = global; local = local; id = x ∷ y ∷ z ∷ [] }

ids : (dims : ℕ) (global local : List ℕ) (flat a b : ℕ) → a ≡ get_or global 0 1 → b ≡ get_or global 1 1 → with_ids dims global local (flat % a) (flat / a % b) (flat / a / b) ≡ item_of dims global local flat
ids dims global local flat a b e f =
    (λ i. with_ids dims global local (flat % e i) (flat / e i % f i) (flat / e i / f i))
    ∙ ap (with_ids dims global local (flat % get_or global 0 1) (flat / get_or global 0 1 % get_or global 1 1)) (div-div-eq-div-mul flat (get_or global 0 1) (get_or global 1 1))

pub returns : goal.returns
returns c = ids c.args.dims c.args.global c.args.local c.args.flat c.in_dimension-first.result c.in_dimension-second.result c.in_dimension-first.ensures c.in_dimension-second.ensures
