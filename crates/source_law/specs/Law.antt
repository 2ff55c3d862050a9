-- From the source to the form of one work-item.
use Rattle.std.specs.Prelude.{◌≡◌, ℕ, ◌≤◌, true, List, [], Some, length, slice_get}
use Rattle.clc_tree.specs.SourceText.{IsProper}
use Rattle.clc_tree.specs.declared.functions.Tree.{Tree}
use Rattle.clc_types.specs.declared.typed.TFunction.{TFunction}
use Rattle.clc_types.specs.Judged.{Fine}
use Rattle.clc_types.specs.Programs.{program}
use Rattle.clc_types.specs.WellTyped.{is_well_typed}
use Rattle.clc_front.specs.Kinds.{kinds_at}
use Rattle.launch_file.specs.declared.places.Region2.{Region2}
use Rattle.launch_file.specs.Launches.{LaunchOf}
use Rattle.launch_file.specs.Laws.{Fits}
use Rattle.launch_meaning.specs.declared.ends.Ended.{Ended}
use Rattle.launch_meaning.specs.declared.ends.ItemEnd.TheVariants.{Ends as Comes_to}
use Rattle.item_meaning.specs.ItemMeaning.{item}
use Rattle.item_bounds.specs.Laws.{StaysWithin, AreBytes}
use Rattle.clc_inline.specs.declared.whole.Body.{Body}
use Rattle.clc_inline.specs.Inlines.{IsInlined}
use Rattle.body_meaning.specs.BodyMeaning.{item as body_item}
use Rattle.item_ir.specs.declared.ir.Ir.{Ir}
use Rattle.item_ir.specs.IrMeaning.{State as Item, Next as Falls, Ends, left_scope, run_all}
use Rattle.ir_build.specs.Build.{body_code}
use Rattle.ir_weights.specs.Weights.{IsAtMost, weight_of_item}
use Rattle.item_weights.specs.Law.{limit, total}
use Rattle.build_law.specs.Launched.{IsFormOf, AreApart, Holds, Did, world_of}

-- a kernel of a well-typed program, and what it is inlined to
abbrev pub IsBodyOf : List TFunction → (kernel : ℕ) → TFunction → Body → Type 0
IsBodyOf functions kernel f body = (is_well_typed functions ≡ true) × (slice_get functions kernel ≡ Some f) × IsInlined functions kernel body

-- The launch fits the kernel, and its buffers lie apart. Where a work-item comes to its end by the meaning of its source, the form of its body does so
-- on each memory that holds the buffers, from whatever values, variables and arrays it opens with, if as many rounds are left as the item is given turns
abbrev pub SourceFollows : Type 0
SourceFollows =
    (functions : List TFunction) (kernel : ℕ) (f : TFunction) (body : Body) (ir : Ir) → IsBodyOf functions kernel f body → IsFormOf body ir
    → (launch : LaunchOf) (taken : List (List ℕ)) → Fits launch (kinds_at functions kernel) taken
    → (places : List Region2) → AreApart places
    → (id : ℕ) (buffers : List (List ℕ)) (turns : ℕ) (one : Ended) → item functions kernel launch id buffers turns ≡ Comes_to one
    → (n : Item) → Holds places buffers n.mem → n.touches ≡ [] → turns ≤ n.left
    → (m : Item) × (left_scope (run_all (world_of launch places ir.arrays.items id) ir.body.items n) ≡ Ends Falls m) × Did places one n m

-- an item of a body keeps what an item of a source keeps: the buffers' sizes, bytes, and accesses inside them
abbrev pub BodiesStayWithin : Type 0
BodiesStayWithin =
    (functions : List TFunction) (kernel : ℕ) (f : TFunction) (body : Body) → IsBodyOf functions kernel f body
    → (launch : LaunchOf) → body.params ≤ length launch.args
    → (id : ℕ) (buffers : List (List ℕ)) (turns : ℕ) (one : Ended) → body_item body launch id buffers turns ≡ Comes_to one
    → StaysWithin buffers turns one × (AreBytes buffers → AreBytes one.buffers)

-- the parameters of the form are those of the kernel
abbrev pub KindsAreThose : Type 0
KindsAreThose =
    (functions : List TFunction) (kernel : ℕ) (f : TFunction) (body : Body) (ir : Ir) → IsBodyOf functions kernel f body → IsFormOf body ir → ir.kinds.items ≡ kinds_at functions kernel

-- the form has so many values and variables
pub record HasNumbers (body : Body) (ir : Ir) : Type 0 where
  pub vals : ir.vals ≡ (body_code body.vars.items body.params body.body).next
  pub vars : ir.vars ≡ (body_code body.vars.items body.params body.body).next

-- the form of a kernel of a program that breaks no typing rule weighs no more than its nodes allow, of which there are at most 16,384, and its arrays have at
-- most 1,024 elements
abbrev pub FormsAreSmall : Type 0
FormsAreSmall =
    (tree : Tree) (functions : List TFunction) (kernel : ℕ) (f : TFunction) (body : Body) (ir : Ir) → IsProper tree → program tree ≡ Fine functions → slice_get functions kernel ≡ Some f
    → IsInlined functions kernel body → IsFormOf body ir → HasNumbers body ir
    → (1 ≤ body.nodes) × (body.nodes ≤ 16384) × IsAtMost (weight_of_item ir.vals ir.vars ir.body.items) (limit body.nodes) × (total ir.arrays.items ≤ 1024)
