-- Three modules that are faithful to no kernel: one never ends, and two run past their last word.
use Rattle.std.proofs.Common.{◌≡◌, ℕ, zero, suc, ◌+◌, List, [], ◌∷◌, replicate, refl, ap, ◌∙◌, arith}
use Rattle.std.specs.Prelude.{false, None, if◌then◌else◌}
use Rattle.vpm_words.specs.Access.{Site, Private, no_setups}
use Rattle.vpm_words.specs.declared.state.Rule.TheVariants.{H0}
use Rattle.vpm_words.specs.declared.state.Shared.{Shared}
use Rattle.qpu_machine.specs.declared.state.Qpu.{Qpu}
use Rattle.qpu_machine.specs.declared.state.Counts.{Counts}
use Rattle.qpu_machine.specs.declared.state.Step.TheVariants.{Issue}
use Rattle.qpu_machine.specs.IssueStep.{one_more}
use Rattle.qpu_machine.specs.MachineRun.{Next, machine_run, is_effective, effective_steps}
use Rattle.qpu_machine.specs.MachineState.{MachineState, stop_of}
use Rattle.qpu_machine.specs.Opening.{opening_qpu, opening, zero_regs}
use Rattle.qpu_machine.specs.Planned.{Fixed, site_of}
use Rattle.qpu_machine.specs.SoloRun.{Breaks, Wants, want, done_alone}
use Rattle.promise.specs.Language.{Language}
use Rattle.promise.specs.Openings.{plan_for, opening_of}
use Rattle.promise.specs.Faithful.{most_steps, KeepsAll, IsFaithful}
use Rattle.promise.specs.WrongModules.{bare, endless_loop, no_program_end, end_in_the_last_word, WrongModules, OnlyIdle}
use Rattle.promise.proofs.Computing.{computes}
use Rattle.promise.proofs.SmallSetting.{launch, smallest, smallest_is, one_turn, smallest_safe}
use Rattle.promise.proofs.WrongRuns.{alone, one_issued, goes_on, broken_at_last}

-- the QPU before a word that stands in so many slots or behind a program end
abbrev qpu_before : (place slots ending issued : ℕ) → Qpu
qpu_before place slots ending issued =
    record {
      regs = zero_regs;
      flow = record { place = place; ended = false; slots = slots; target = 0; ending = ending; issued = issued };
      written = record { file_a = None; file_b = None; accs = 0; five = false };
      ports = no_setups;
    }

-- ---- the opening

abbrev world : List ℕ → MachineState
world words = opening_of (bare words) smallest

opened : (words : List ℕ) → world words ≡ alone (world words).fixed (qpu_before 0 0 0 0) (world words).shared (world words).counts (world words).memory
unfolding opening_of opening opening_qpu
opened words = refl

code_is : (words : List ℕ) → (world words).fixed.code ≡ words
unfolding opening_of opening plan_for
code_is words = refl

keeps : (l : Language) → OnlyIdle l → (words source name : List ℕ) (faithful : IsFaithful l source name (bare words)) → KeepsAll faithful.kernel (bare words) smallest (one_turn ∷ [])
keeps l only words source name faithful =
    faithful.keeps smallest (smallest_is words) tt 1 (one_turn ∷ []) (smallest_safe faithful.kernel (only source name faithful.kernel faithful.is_kernel))

-- ---- past the last word

module _ (g : Site) where
  idle0 : want no_program_end g (qpu_before 0 0 0 0) ≡ Wants (Private None)
  unfolding no_program_end computes
  idle0 = refl

  idle1 : want no_program_end g (qpu_before 1 0 0 1) ≡ Wants (Private None)
  unfolding no_program_end computes
  idle1 = refl

  idle2 : want no_program_end g (qpu_before 2 0 0 2) ≡ Wants (Private None)
  unfolding no_program_end computes
  idle2 = refl

  past : want no_program_end g (qpu_before 3 0 0 3) ≡ Breaks H0
  unfolding no_program_end computes
  past = refl

  on0 : done_alone no_program_end g (qpu_before 0 0 0 0) [] ≡ qpu_before 1 0 0 1
  unfolding no_program_end computes
  on0 = refl

  on1 : done_alone no_program_end g (qpu_before 1 0 0 1) [] ≡ qpu_before 2 0 0 2
  unfolding no_program_end computes
  on1 = refl

  on2 : done_alone no_program_end g (qpu_before 2 0 0 2) [] ≡ qpu_before 3 0 0 3
  unfolding no_program_end computes
  on2 = refl

  last0 : want end_in_the_last_word g (qpu_before 0 0 0 0) ≡ Wants (Private None)
  unfolding end_in_the_last_word computes
  last0 = refl

  last1 : want end_in_the_last_word g (qpu_before 1 0 0 1) ≡ Wants (Private None)
  unfolding end_in_the_last_word computes
  last1 = refl

  last2 : want end_in_the_last_word g (qpu_before 2 0 0 2) ≡ Wants (Private None)
  unfolding end_in_the_last_word computes
  last2 = refl

  last3 : want end_in_the_last_word g (qpu_before 3 0 2 3) ≡ Breaks H0
  unfolding end_in_the_last_word computes
  last3 = refl

  to1 : done_alone end_in_the_last_word g (qpu_before 0 0 0 0) [] ≡ qpu_before 1 0 0 1
  unfolding end_in_the_last_word computes
  to1 = refl

  to2 : done_alone end_in_the_last_word g (qpu_before 1 0 0 1) [] ≡ qpu_before 2 0 0 2
  unfolding end_in_the_last_word computes
  to2 = refl

  to3 : done_alone end_in_the_last_word g (qpu_before 2 0 0 2) [] ≡ qpu_before 3 0 2 3
  unfolding end_in_the_last_word computes
  to3 = refl

runs_out : (l : Language) → OnlyIdle l → (source name : List ℕ) → ¬ (IsFaithful l source name (bare no_program_end))
runs_out l only source name faithful =
    let w : MachineState = world no_program_end in
    let g : Site = site_of w.fixed 0 in
    (keeps l only no_program_end source name faithful).not_broken (replicate 4 (Issue 0)) H0 0 3
    (ap (λ (s : MachineState). stop_of (machine_run (replicate 4 (Issue 0)) s)) (opened no_program_end)
    ∙ broken_at_last w.fixed no_program_end (code_is no_program_end) (qpu_before 0 0 0 0) (qpu_before 1 0 0 1) (qpu_before 2 0 0 2) (qpu_before 3 0 0 3)
    w.shared w.counts w.memory H0 (idle0 g) (on0 g) (idle1 g) (on1 g) (idle2 g) (on2 g) (past g))

cut_short : (l : Language) → OnlyIdle l → (source name : List ℕ) → ¬ (IsFaithful l source name (bare end_in_the_last_word))
cut_short l only source name faithful =
    let w : MachineState = world end_in_the_last_word in
    let g : Site = site_of w.fixed 0 in
    (keeps l only end_in_the_last_word source name faithful).not_broken (replicate 4 (Issue 0)) H0 0 3
    (ap (λ (s : MachineState). stop_of (machine_run (replicate 4 (Issue 0)) s)) (opened end_in_the_last_word)
    ∙ broken_at_last w.fixed end_in_the_last_word (code_is end_in_the_last_word) (qpu_before 0 0 0 0) (qpu_before 1 0 0 1) (qpu_before 2 0 0 2)
    (qpu_before 3 0 2 3) w.shared w.counts w.memory H0 (last0 g) (to1 g) (last1 g) (to2 g) (last2 g) (to3 g) (last3 g))

-- ---- a loop without end

-- the QPU before the branch, and before each of the words in its slots
abbrev turn : (phase issued : ℕ) → Qpu
turn zero issued = qpu_before 0 0 0 issued
turn (suc zero) issued = qpu_before 1 3 0 issued
turn (suc (suc zero)) issued = qpu_before 2 2 0 issued
turn (suc (suc (suc phase))) issued = qpu_before 3 1 0 issued

abbrev next : ℕ → ℕ
next zero = 1
next (suc zero) = 2
next (suc (suc zero)) = 3
next (suc (suc (suc phase))) = 0

loop_wants : (g : Site) (phase issued : ℕ) → want endless_loop g (turn phase issued) ≡ Wants (Private None)
unfolding endless_loop computes
loop_wants g zero issued = refl
loop_wants g (suc zero) issued = refl
loop_wants g (suc (suc zero)) issued = refl
loop_wants g (suc (suc (suc phase))) issued = refl

loop_on : (g : Site) (phase issued : ℕ) → done_alone endless_loop g (turn phase issued) [] ≡ turn (next phase) (one_more issued)
unfolding endless_loop computes
loop_on g zero issued = refl
loop_on g (suc zero) issued = refl
loop_on g (suc (suc zero)) issued = refl
loop_on g (suc (suc (suc phase))) issued = refl

loop_steps : (g : Fixed) → g.code ≡ endless_loop → (n phase issued : ℕ) (s : Shared) (c : Counts) (m : List ℕ)
    → effective_steps (replicate n (Issue 0)) (alone g (turn phase issued) s c m) ≡ n
unfolding effective_steps
loop_steps g is zero phase issued s c m = refl
loop_steps g is (suc n) phase issued s c m =
    ap (λ (x : Next). (if is_effective x.effect then 1 else 0) + effective_steps (replicate n (Issue 0)) x.state)
    (goes_on g endless_loop is (turn phase issued) s c m (turn (next phase) (one_more issued)) (loop_wants (site_of g 0) phase issued) (loop_on (site_of g 0) phase issued))
    ∙ ap (λ k. 1 + k) (loop_steps g is n (next phase) (one_more issued) s (one_issued c) m)
    ∙ (let one_on : 1 + n ≡ suc n = omega arith in one_on)

never_ends : (l : Language) → OnlyIdle l → (source name : List ℕ) → ¬ (IsFaithful l source name (bare endless_loop))
never_ends l only source name faithful =
    let w : MachineState = world endless_loop in
    let most : ℕ = most_steps faithful.kernel launch 1 in
    let steps : effective_steps (replicate (suc most) (Issue 0)) w ≡ suc most =
    ap (λ (s : MachineState). effective_steps (replicate (suc most) (Issue 0)) s) (opened endless_loop)
    ∙ loop_steps w.fixed (code_is endless_loop) (suc most) 0 0 w.shared w.counts w.memory in
    let few = (keeps l only endless_loop source name faithful).bounded (replicate (suc most) (Issue 0)) in
    omega (arith, steps, few)

pub wrong_modules : (l : Language) → OnlyIdle l → WrongModules l
wrong_modules l only = record { never_ends = never_ends l only; runs_out = runs_out l only; cut_short = cut_short l only }
