-- A work-item of a launch: where it comes to its end, the form that is built of its kernel's body does so too, on a memory that holds the buffers.
use Rattle.std.specs.Prelude.{◌≡◌, ℕ, ◌+◌, ◌%◌, ◌^◌, ◌<◌, ◌≤◌, List, [], map, length, get_or, slice_index}
use Rattle.launch_file.specs.declared.places.Region2.{Region2}
use Rattle.launch_file.specs.Launches.{LaunchOf, IsLaunch}
use Rattle.launch_file.specs.Layout.{PlacesOf, ArePlaces}
use Rattle.launch_file.specs.Laws.{Fits}
use Rattle.launch_file.specs.Uniforms.{no_region, address, arg_word}
use Rattle.launch_meaning.specs.declared.ends.Ended.{Ended}
use Rattle.launch_meaning.specs.declared.ends.ItemEnd.TheVariants.{Ends as Comes_to}
use Rattle.q_functions.specs.WorkFunctions.{work_of}
use Rattle.item_meaning.specs.Places.{buffer_of}
use Rattle.clc_inline.specs.declared.whole.Body.{Body}
use Rattle.body_meaning.specs.BodyMeaning.{item}
use Rattle.item_ir.specs.declared.ir.Ir.{Ir}
use Rattle.item_ir.specs.Memory.{Region}
use Rattle.item_ir.specs.IrMeaning.{World, State as Item, Next as Falls, Ends, left_scope, run_all}
use Rattle.ir_build.specs.Build.{body_code, array_length, kinds_of}
use Rattle.build_law.specs.Keeps.{placed}

-- what is said of the form that is built of a body
pub record IsFormOf (body : Body) (ir : Ir) : Type 0 where
  pub code : ir.body.items ≡ (body_code body.vars.items body.params body.body).stmts
  pub arrays : ir.arrays.items ≡ map array_length body.vars.items
  pub kinds : ir.kinds.items ≡ kinds_of body.vars.items body.params

-- how many bytes a buffer has
abbrev pub len_at : List Region2 → ℕ → ℕ
len_at places k = (get_or places k no_region).len

-- buffers begin at multiples of 4 below 2^32, end within 2^32, and have no byte in common
pub record AreApart (places : List Region2) : Type 0 where
  pub aligned : (k : ℕ) → address places k % 4 ≡ 0
  pub begun : (k : ℕ) → address places k < 2 ^ 32
  pub below : (k : ℕ) → address places k + len_at places k ≤ 2 ^ 32
  pub apart : (k l i j : ℕ) → i < len_at places k → j < len_at places l → address places k + i ≡ address places l + j → k ≡ l

abbrev pub region_of : Region2 → Region
region_of place = record { start = place.start; len = place.len }

-- what the form of the item of this flat id runs on. A parameter is the word of its argument
abbrev pub world_of : LaunchOf → (places : List Region2) (lens : List ℕ) (id : ℕ) → World
world_of launch places lens id =
    record {
      regions = map region_of places;
      params = λ p. get_or (map (arg_word places) launch.args) p 0;
      lens = λ a. get_or lens a 0;
      work = work_of launch.dims launch.global launch.local id;
    }

-- the memory holds these buffers at their places
pub record Holds (places : List Region2) (buffers : List (List ℕ)) (mem : ℕ → ℕ) : Type 0 where
  pub lens : (k : ℕ) → length (buffer_of buffers k) ≡ len_at places k
  pub bytes : (k o : ℕ) → o < len_at places k → mem (address places k + o) ≡ slice_index (buffer_of buffers k) o

-- the memory holds the buffers that are left; the bytes read and written are the same, in the same order; and as many rounds at most were made as
-- turns were taken
pub record Did (places : List Region2) (one : Ended) (from to : Item) : Type 0 where
  pub holds : Holds places one.buffers to.mem
  pub touches : to.touches ≡ map (placed (address places)) one.marks
  pub rounds : from.left ≤ to.left + one.turns

-- The launch fits the kernel's parameters, and the buffers lie apart. Where its item comes to its end, the item's form does so from whatever values,
-- variables and arrays it opens with, if as many rounds are left as the item is given turns. It ends at its end or at a `return`
abbrev pub ItemFollows : Type 0
ItemFollows =
    (body : Body) (ir : Ir) → IsFormOf body ir
    → (launch : LaunchOf) (taken : List (List ℕ)) → Fits launch ir.kinds.items taken
    → (places : List Region2) → AreApart places
    → (id : ℕ) (buffers : List (List ℕ)) (turns : ℕ) (one : Ended) → item body launch id buffers turns ≡ Comes_to one
    → (n : Item) → Holds places buffers n.mem → n.touches ≡ [] → turns ≤ n.left
    → (m : Item) × (left_scope (run_all (world_of launch places ir.arrays.items id) ir.body.items n) ≡ Ends Falls m) × Did places one n m

-- where a valid launch has its buffers they lie apart
abbrev pub BuffersLieApart : Type 0
BuffersLieApart = (launch : LaunchOf) (places : PlacesOf) → IsLaunch launch → ArePlaces launch places → AreApart places.buffers
