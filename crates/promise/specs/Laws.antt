-- That first violations are one, what openings hold, that launches can be safe, and what faithful modules give to whoever runs them.
use Rattle.std.specs.Prelude.{◌≡◌, ℕ, ◌<◌, ◌≤◌, List, length, get_or, map, replicate}
use Rattle.launch_file.specs.Launches.{LaunchOf, items_of}
use Rattle.launch_file.specs.Layout.{layout_of, buffer_lens, scratch_lens}
use Rattle.vc4q_module.specs.ModuleBytes.{ModuleOf, IsModule}
use Rattle.qpu_machine.specs.declared.plan.Fill.{Fill}
use Rattle.qpu_machine.specs.declared.state.Stop.TheVariants as stop
use Rattle.qpu_machine.specs.Planned.{IsPlan, bytes_of}
use Rattle.qpu_machine.specs.Opening.{contents_of}
use Rattle.qpu_machine.specs.MachineState.{stop_of}
use Rattle.qpu_machine.specs.MachineRun.{machine_run}
use Rattle.qpu_machine.specs.Reachable.{AreWords, AreBytes}
use Rattle.qpu_machine.specs.Schedules.{rounds_of}
use Rattle.launch_meaning.specs.declared.ends.Ended.{Ended}
use Rattle.launch_meaning.specs.LaunchMeaning.{left_by, turns_of, IsSafe}
use Rattle.promise.specs.declared.refusal.SourceRule.{SourceRule}
use Rattle.promise.specs.Kernel.{Meaning, Kernel, idle_kernel}
use Rattle.promise.specs.Language.{Language, Meanings}
use Rattle.promise.specs.Openings.{Setting, IsValid, IsSetting, Covered, plan_for, opening_of}
use Rattle.promise.specs.Faithful.{buffers_of, most_steps, IsFaithful}

-- ---- sources

-- a source has one first violation at most for a kernel's name, and none where it is in the profile
pub record HasOneViolation (l : Language) : Type 0 where
  pub one : (source kernel : List ℕ) (rule other : SourceRule) (at place : ℕ)
      → l.violates_first source kernel rule at → l.violates_first source kernel other place → (rule ≡ other) × (at ≡ place)
  pub none : (source kernel : List ℕ) (rule : SourceRule) (at : ℕ) → l.in_profile source kernel → ¬ (l.violates_first source kernel rule at)

-- a source has one meaning of a kernel's name at most, or else one first violation at most, and not both
pub record MeaningsAreOne (m : Meanings) : Type 0 where
  pub one : (source name : List ℕ) (one other : Meaning) → m.means source name one → m.means source name other → one ≡ other
  pub none : (source name : List ℕ) (meaning : Meaning) (rule : SourceRule) (at : ℕ) → m.means source name meaning → ¬ (m.violates_first source name rule at)
  pub first : (source name : List ℕ) (rule other : SourceRule) (at place : ℕ)
      → m.violates_first source name rule at → m.violates_first source name other place → (rule ≡ other) × (at ≡ place)

-- ---- openings

-- a setting of a module opens with a plan that a machine may be begun with, and with words and bytes
pub record IsPlanned (code : ModuleOf) (s : Setting) : Type 0 where
  pub plan : IsPlan (plan_for code s.launch s.buffers s.scratch)
  pub uniforms : AreWords (plan_for code s.launch s.buffers s.scratch).uniforms
  pub memory : AreBytes (plan_for code s.launch s.buffers s.scratch).memory

-- the opening has the bytes of each buffer and of each scratch at its place, 165 in each byte outside them, and a QPU for each that is launched
pub record Holds (code : ModuleOf) (s : Setting) : Type 0 where
  pub buffers : buffers_of (opening_of code s) ≡ s.buffers
  pub scratch : map (bytes_of (opening_of code s).memory) (opening_of code s).fixed.scratch ≡ s.scratch
  pub size : length (opening_of code s).memory ≡ (layout_of s.launch code.rows).size
  pub gaps : (a : ℕ) → a < length (opening_of code s).memory
      → ¬ (Covered (layout_of s.launch code.rows).buffers a) → ¬ (Covered (layout_of s.launch code.rows).scratch a)
      → get_or (opening_of code s).memory a 0 ≡ 165
  pub qpus : length (opening_of code s).qpus ≡ s.launch.qpus

abbrev pub SettingsOpen : Type 0
SettingsOpen = (code : ModuleOf) (s : Setting) → IsModule code → IsSetting code s → IsPlanned code s × Holds code s

-- zeros in all buffers and scratches, and zeros or a seed's numbers in the registers and the VPM, are a setting of each valid launch
abbrev pub blank : ModuleOf → LaunchOf → Fill → Setting
blank code launch fill =
    record {
      launch = launch;
      buffers = map (λ size. replicate size 0) (buffer_lens launch.buffers);
      scratch = map (λ size. replicate size 0) (scratch_lens launch.qpus code.rows);
      contents = contents_of fill launch.qpus;
    }

abbrev pub ValidLaunchesHaveSettings : Type 0
ValidLaunchesHaveSettings = (code : ModuleOf) (launch : LaunchOf) (fill : Fill) → IsValid code launch → IsSetting code (blank code launch fill)

-- ---- kernels

-- a source has one kernel of a name at most, and has one exactly where it is in the profile for that name
pub record KernelsAreOne (l : Language) : Type 0 where
  pub one : (source name : List ℕ) (k other : Kernel) → l.has_kernel source name k → l.has_kernel source name other → k ≡ other
  pub some : (source name : List ℕ) → l.in_profile source name → (k : Kernel) × l.has_kernel source name k
  pub lawful : (source name : List ℕ) (k : Kernel) → l.has_kernel source name k → l.in_profile source name

-- each launch of the kernel that does nothing is safe within one turn for each item, uses one turn for each item, and leaves the buffers
abbrev pub IdleLaunchesAreSafe : Type 0
IdleLaunchesAreSafe =
    (launch : LaunchOf) (buffers : List (List ℕ)) (turns : ℕ) → 1 ≤ turns
    → (ended : List Ended) × IsSafe (idle_kernel.item launch) (items_of launch.global) buffers turns ended
    × (turns_of ended ≡ items_of launch.global) × (left_by buffers ended ≡ buffers)

-- ---- faithful modules

-- where a launch is safe, as many rounds of all QPUs and engines as the bound of the steps finish the run, and leave the buffers of the items
abbrev pub SafeRunsFinish : Language → Type 0
SafeRunsFinish l =
    (source name : List ℕ) (code : ModuleOf) (k : Kernel) → IsFaithful l source name code → l.has_kernel source name k
    → (s : Setting) → IsSetting code s → (turns : ℕ) (ended : List Ended)
    → IsSafe (k.item s.launch) (items_of s.launch.global) s.buffers turns ended
    → (rounds : ℕ) → most_steps k s.launch (turns_of ended) ≤ rounds
    → (stop_of (machine_run (rounds_of rounds s.launch.qpus) (opening_of code s)) ≡ stop.Finished)
    × (buffers_of (machine_run (rounds_of rounds s.launch.qpus) (opening_of code s)) ≡ left_by s.buffers ended)
