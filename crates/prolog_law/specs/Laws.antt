-- The values that a prolog defines are the ids of each lane's item.
use Rattle.std.specs.Prelude.{◌≡◌, ℕ, ◌+◌, ◌*◌, ◌<◌, ◌≤◌, ◌||◌, true, get_or, nat_lt}
use Rattle.q_lane.specs.Numbers.{flag}
use Rattle.q_functions.specs.declared.work.Work.{Work}
use Rattle.q_functions.specs.declared.functions.WorkFunction.{WorkFunction}
use Rattle.q_functions.specs.declared.functions.WorkFunction.TheVariants.{GlobalId, LocalId, GroupId}
use Rattle.q_functions.specs.WorkFunctions.{work_of, work_function}
use Rattle.launch_file.specs.Launches.{LaunchOf, IsLaunch, items_of}
use Rattle.lane_ir.specs.LaneMeaning.{World, State, Ends, run_all}
use Rattle.lane_ir.specs.Kept.{IsWorld, Words}
use Rattle.lane_mapper.specs.declared.uses.Uses.{Uses}
use Rattle.lane_mapper.specs.Prolog.{prolog, prolog_vals}

-- a batch of the launch, which has an item
pub record IsBatchOf (launch : LaunchOf) (w : World) : Type 0 where
  pub global : (d : ℕ) → w.global d ≡ get_or launch.global d 1
  pub local : (d : ℕ) → w.local d ≡ get_or launch.local d 1
  pub items : w.items ≡ items_of launch.global
  pub batch : 16 * w.batch < w.items

-- the item of lane l
abbrev pub item : LaunchOf → World → ℕ → Work
item launch w l = work_of launch.dims launch.global launch.local (16 * w.batch + l)

-- in each lane three values are what the function gives for the item of its flat id, also past the last item
abbrev pub Gives : LaunchOf → World → ℕ → State → WorkFunction → ℕ → ℕ → ℕ → Type 0
Gives launch w n t f a b c =
    (l : ℕ) → l < n → (t.vals a l ≡ work_function f (item launch w l) 0) × (t.vals b l ≡ work_function f (item launch w l) 1) × (t.vals c l ≡ work_function f (item launch w l) 2)

-- what a prolog has done, whose values begin at k
pub record Opened (launch : LaunchOf) (w : World) (n k : ℕ) (u : Uses) (s t : State) : Type 0 where
  pub live : (l : ℕ) → l < n → t.vals (k + 2) l ≡ flag (nat_lt (16 * w.batch + l) w.items)
  pub global : u.global || (u.local || u.group) ≡ true → Gives launch w n t GlobalId (k + 8) (k + 10) (k + 11)
  pub local : u.local ≡ true → Gives launch w n t LocalId (k + 15) (k + 16) (k + 17)
  pub group : u.group ≡ true → Gives launch w n t GroupId (k + 18) (k + 19) (k + 20)
  pub old : (v : ℕ) → v < k → t.vals v ≡ s.vals v
  pub past : (v : ℕ) → k + prolog_vals ≤ v → t.vals v ≡ s.vals v
  pub words : IsWorld w → Words (k + prolog_vals) s → Words (k + prolog_vals) t
  pub vars : t.vars ≡ s.vars
  pub arrays : t.arrays ≡ s.arrays
  pub mem : t.mem ≡ s.mem
  pub log : t.log ≡ s.log
  pub transfers : t.transfers ≡ s.transfers

abbrev pub PrologsRight : Type 0
PrologsRight =
    (launch : LaunchOf) (w : World) (n i k : ℕ) (u : Uses) (s : State) → IsLaunch launch → IsBatchOf launch w → n ≤ 16
    → (t : State) × (run_all w n i (prolog k u) s ≡ Ends t) × Opened launch w n k u s t

-- a prolog always ends, and the operations done are few: each is one of the processor, but for a quotient or a remainder, which stands for those of its loop
abbrev pub PrologsAreShort : Type 0
PrologsAreShort = (w : World) (n i k : ℕ) (u : Uses) (s : State) → (t : State) × (run_all w n i (prolog k u) s ≡ Ends t) × (t.steps ≤ s.steps + 8133)
