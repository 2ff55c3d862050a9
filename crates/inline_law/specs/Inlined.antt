-- What inlining keeps.
use Rattle.std.specs.Prelude.{◌≡◌, ℕ, ◌≤◌, ◌++◌, true, List, Some, length, slice_get}
use Rattle.launch_file.specs.Launches.{LaunchOf}
use Rattle.clc_types.specs.declared.typed.Var.{Var}
use Rattle.clc_types.specs.declared.typed.TFunction.{TFunction}
use Rattle.clc_types.specs.WellTyped.{is_well_typed}
use Rattle.item_meaning.specs.ItemMeaning.{item as typed_item}
use Rattle.clc_inline.specs.declared.whole.Body.{Body}
use Rattle.clc_inline.specs.Inlines.{IsInlined}
use Rattle.body_meaning.specs.BodyMeaning.{item as body_item}

-- A body does what the kernel does: the same end, the same bytes, and the same turns, whatever the item, the buffers and the turns given. The launch
-- has an argument for each parameter at least.
abbrev pub Means : List TFunction → (kernel : ℕ) → Body → Type 0
Means functions kernel body =
    (launch : LaunchOf) (id : ℕ) (buffers : List (List ℕ)) (turns : ℕ) → body.params ≤ length launch.args → body_item body launch id buffers turns ≡ typed_item functions kernel launch id buffers turns

-- What a kernel of a well-typed program is inlined to does what the kernel does.
abbrev pub InliningKeeps : Type 0
InliningKeeps =
    (functions : List TFunction) (kernel : ℕ) (f : TFunction) (body : Body) → is_well_typed functions ≡ true → slice_get functions kernel ≡ Some f → IsInlined functions kernel body → Means functions kernel body

-- The kernel's parameters are the body's, and its own variables are the first of the body's.
abbrev pub BodiesBegin : Type 0
BodiesBegin =
    (functions : List TFunction) (kernel : ℕ) (f : TFunction) (body : Body) → is_well_typed functions ≡ true → slice_get functions kernel ≡ Some f → IsInlined functions kernel body
    → (body.params ≡ f.params) × (f.params ≤ length f.vars) × ((more : List Var) × (body.vars.items ≡ f.vars ++ more))
