-- What holds of every work-item of a typed program, whatever it does.
use Rattle.std.specs.Prelude.{◌≡◌, ◌⊎◌, ℕ, ◌<◌, ◌≤◌, List, [], length, map, get_or}
use Rattle.std.specs.List.{All}
use Rattle.footprint.specs.declared.marks.Mark.{Mark}
use Rattle.clc_types.specs.declared.typed.TFunction.{TFunction}
use Rattle.launch_file.specs.Launches.{LaunchOf}
use Rattle.launch_meaning.specs.declared.ends.Ended.{Ended}
use Rattle.launch_meaning.specs.declared.ends.ItemEnd.TheVariants.{Ends, Spent}
use Rattle.item_meaning.specs.ItemMeaning.{item}

-- a mark has some bytes, and they lie in a buffer of these sizes
abbrev pub IsWithin : List ℕ → Mark → Type 0
IsWithin sizes mark = (mark.from < mark.to) × (mark.to ≤ get_or sizes mark.buffer 0)

-- an item leaves the buffers' sizes as they are, accesses bytes of theirs alone, and takes no more turns than it is given
pub record StaysWithin (buffers : List (List ℕ)) (turns : ℕ) (ended : Ended) : Type 0 where
  pub sizes : map length ended.buffers ≡ map length buffers
  pub within : All (IsWithin (map length buffers)) ended.marks
  pub few : ended.turns ≤ turns

abbrev pub ItemsStayWithin : Type 0
ItemsStayWithin =
    (functions : List TFunction) (kernel : ℕ) (launch : LaunchOf) (id : ℕ) (buffers : List (List ℕ)) (turns : ℕ) (ended : Ended)
    → item functions kernel launch id buffers turns ≡ Ends ended → StaysWithin buffers turns ended

-- an item that isn't spent does the same with more turns
abbrev pub EnoughIsEnough : Type 0
EnoughIsEnough =
    (functions : List TFunction) (kernel : ℕ) (launch : LaunchOf) (id : ℕ) (buffers : List (List ℕ)) (turns more : ℕ) → turns ≤ more
    → (item functions kernel launch id buffers turns ≡ Spent) ⊎ (item functions kernel launch id buffers more ≡ item functions kernel launch id buffers turns)

-- all numbers of these buffers are bytes
abbrev pub AreBytes : List (List ℕ) → Type 0
AreBytes buffers = (k o : ℕ) → get_or (get_or buffers k []) o 0 < 256

-- an item leaves bytes where it finds bytes
abbrev pub ItemsKeepBytes : Type 0
ItemsKeepBytes =
    (functions : List TFunction) (kernel : ℕ) (launch : LaunchOf) (id : ℕ) (buffers : List (List ℕ)) (turns : ℕ) (ended : Ended)
    → AreBytes buffers → item functions kernel launch id buffers turns ≡ Ends ended → AreBytes ended.buffers
