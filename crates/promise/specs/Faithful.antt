-- What a module owes to the source that it was made from. It is this project's own.
use Rattle.std.specs.Prelude.{◌≡◌, ◌≢◌, ◌⊎◌, ℕ, ◌+◌, ◌*◌, ◌/◌, ◌%◌, ◌^◌, ◌<◌, ◌≤◌, List, length, map, true, get_or, ⊤}
use Rattle.footprint.specs.declared.marks.Use.{Use}
use Rattle.footprint.specs.declared.marks.Use.TheVariants.{Read}
use Rattle.footprint.specs.Marks.{Uses}
use Rattle.launch_file.specs.declared.places.Region2.{Region2}
use Rattle.launch_file.specs.Launches.{LaunchOf, items_of}
use Rattle.launch_file.specs.Layout.{layout_of}
use Rattle.launch_file.specs.Uniforms.{batches, address, no_region}
use Rattle.vc4q_module.specs.ModuleBytes.{ModuleOf}
use Rattle.vpm_words.specs.declared.state.Element.{Element}
use Rattle.vpm_words.specs.declared.state.Rule.{Rule}
use Rattle.qpu_machine.specs.declared.state.Step.{Step}
use Rattle.qpu_machine.specs.declared.state.Stop.TheVariants as stop
use Rattle.qpu_machine.specs.Planned.{bytes_of}
use Rattle.qpu_machine.specs.MachineState.{MachineState, stop_of}
use Rattle.qpu_machine.specs.MachineRun.{happens, machine_run, is_effective, effective_steps}
use Rattle.qpu_machine.specs.SoloRun.{AnyCovers}
use Rattle.solo_law.specs.Laws.{load_started, store_started}
use Rattle.launch_meaning.specs.declared.ends.Ended.{Ended}
use Rattle.launch_meaning.specs.LaunchMeaning.{marks_at, left_by, turns_of, IsSafe}
use Rattle.promise.specs.Kernel.{Kernel}
use Rattle.promise.specs.Language.{Language}
use Rattle.promise.specs.Openings.{Setting, IsSetting, opening_of, Covered}

-- ---- six clauses on all runs of a machine from one opening

-- no restriction is broken
abbrev pub NotBroken : MachineState → Type 0
NotBroken w = (steps : List Step) (rule : Rule) (k place : ℕ) → stop_of (machine_run steps w) ≢ stop.Broken rule k place

-- at most so many steps are effective
abbrev pub Bounded : ℕ → MachineState → Type 0
Bounded limit w = (steps : List Step) → effective_steps steps w ≤ limit

-- where the run isn't finished, some step is effective
abbrev pub NeverStuck : MachineState → Type 0
NeverStuck w =
    (steps : List Step) → stop_of (machine_run steps w) ≢ stop.Finished
    → (step : Step) × (is_effective (happens (machine_run steps w) step).effect ≡ true)

-- the bytes of the machine's buffers
unfoldable pub buffers_of : MachineState → List (List ℕ)
buffers_of w = map (bytes_of w.memory) w.fixed.buffers

-- a finished run leaves these buffers
abbrev pub Exact : List (List ℕ) → MachineState → Type 0
Exact after w = (steps : List Step) → stop_of (machine_run steps w) ≡ stop.Finished → buffers_of (machine_run steps w) ≡ after

-- at each moment each byte of the memory outside these regions is 165
abbrev pub Untouched : List Region2 → List Region2 → MachineState → Type 0
Untouched buffers scratch w =
    (steps : List Step) (a : ℕ) → a < length w.memory → ¬ (Covered buffers a) → ¬ (Covered scratch a)
    → get_or (machine_run steps w).memory a 0 ≡ 165

-- all bytes that these elements move are of a kind
abbrev pub AllIn : List Element → (ℕ → Type 0) → Type 0
AllIn elements P = (a : ℕ) → AnyCovers elements a → P a

-- where QPU k starts a transfer, all of it is in the scratch of this QPU; or it loads nothing but bytes that this QPU may touch, or stores to none but
-- those that it may set
pub record Confined (scratch touched set : (k : ℕ) → ℕ → Type 0) (w : MachineState) : Type 0 where
  pub loads : (steps : List Step) (k : ℕ)
      → AllIn (load_started (machine_run steps w) k) (scratch k) ⊎ AllIn (load_started (machine_run steps w) k) (touched k)
  pub stores : (steps : List Step) (k : ℕ)
      → AllIn (store_started (machine_run steps w) k) (scratch k) ⊎ AllIn (store_started (machine_run steps w) k) (set k)

-- ---- whose bytes they are

-- item i is in a batch of QPU k: sixteen items are a batch, and the QPUs take the batches in turn
abbrev pub IsItemOf : LaunchOf → ℕ → ℕ → Type 0
IsItemOf launch k i = (i < items_of launch.global) × (i / 16 % launch.qpus ≡ k)

-- the address is that of a byte of a buffer that an item of QPU k uses so
pub record IsUsed (code : ModuleOf) (launch : LaunchOf) (ended : List Ended) (how : Use) (k a : ℕ) : Type 0 where
  pub item : ℕ
  pub buffer : ℕ
  pub byte : ℕ
  pub own : IsItemOf launch k item
  pub uses : Uses (marks_at ended item) how buffer byte
  pub place : a ≡ address (layout_of launch code.rows).buffers buffer + byte

-- an item of QPU k uses it
abbrev pub IsTouched : ModuleOf → LaunchOf → List Ended → ℕ → ℕ → Type 0
IsTouched code launch ended k a = (how : Use) × IsUsed code launch ended how k a

-- and not to read it
abbrev pub IsSet : ModuleOf → LaunchOf → List Ended → ℕ → ℕ → Type 0
IsSet code launch ended k a = (how : Use) × (how ≢ Read) × IsUsed code launch ended how k a

-- it lies in QPU k's scratch
abbrev pub IsInScratch : ModuleOf → LaunchOf → ℕ → ℕ → Type 0
IsInScratch code launch k a =
    let region : Region2 = get_or (layout_of launch code.rows).scratch k no_region in
    (region.start ≤ a) × (a < region.start + region.len)

-- ---- faithful modules

-- how many steps of a launch may be effective
abbrev pub most_steps : Kernel → LaunchOf → ℕ → ℕ
most_steps kernel launch turns = 2 ^ 28 * kernel.nodes * (launch.qpus + batches launch + turns)

-- all runs from the opening of a module in a setting keep the six clauses, where the items of the launch come to these ends
pub record KeepsAll (kernel : Kernel) (code : ModuleOf) (s : Setting) (ended : List Ended) : Type 0 where
  pub not_broken : NotBroken (opening_of code s)
  pub bounded : Bounded (most_steps kernel s.launch (turns_of ended)) (opening_of code s)
  pub never_stuck : NeverStuck (opening_of code s)
  pub exact : Exact (left_by s.buffers ended) (opening_of code s)
  pub untouched : Untouched (layout_of s.launch code.rows).buffers (layout_of s.launch code.rows).scratch (opening_of code s)
  pub confined : Confined (IsInScratch code s.launch) (IsTouched code s.launch ended) (IsSet code s.launch ended) (opening_of code s)

-- The module is faithful to the kernel of that name in a source of the language, as far as these launches and clauses go: it has the kinds of the
-- kernel's parameters; and for each such launch, all buffers, scratches, registers, flags and VPM and each number of turns within which the launch is
-- safe, the clauses hold
pub record IsFaithfulFor (l : Language) (which : LaunchOf → Type 0) (clauses : Kernel → ModuleOf → Setting → List Ended → Type 0) (source name : List ℕ) (code : ModuleOf) : Type 0 where
  pub kernel : Kernel
  pub is_kernel : l.has_kernel source name kernel
  pub kinds : code.kinds ≡ kernel.kinds
  pub keeps : (s : Setting) → IsSetting code s → which s.launch → (turns : ℕ) (ended : List Ended)
      → IsSafe (kernel.item s.launch) (items_of s.launch.global) s.buffers turns ended
      → clauses kernel code s ended

-- faithful: for all valid launches, in all runs, whatever the schedule
abbrev pub IsFaithful : Language → (source name : List ℕ) → ModuleOf → Type 0
IsFaithful l source name code = IsFaithfulFor l (λ launch. ⊤) KeepsAll source name code
