-- Runs of modules that are faithful to no kernel.
use Rattle.std.proofs.Common.{◌≡◌, ℕ, List, [], ◌∷◌, replicate, refl, ap, ◌∙◌}
use Rattle.std.specs.Prelude.{None}
use Rattle.vpm_words.specs.Access.{Site, Private}
use Rattle.vpm_words.specs.declared.state.Rule.{Rule}
use Rattle.qpu_machine.specs.declared.state.Effect.TheVariants as effect
use Rattle.qpu_machine.specs.declared.state.Qpu.{Qpu}
use Rattle.qpu_machine.specs.declared.state.Counts.{Counts}
use Rattle.vpm_words.specs.declared.state.Shared.{Shared}
use Rattle.qpu_machine.specs.declared.state.Step.TheVariants.{Issue}
use Rattle.qpu_machine.specs.declared.state.Stop.TheVariants as stop
use Rattle.qpu_machine.specs.IssueStep.{Local, local, one_more}
use Rattle.qpu_machine.specs.MachineRun.{Next, turn, fault_after, step_of, happens, machine_run}
use Rattle.qpu_machine.specs.MachineState.{MachineState, stop_of}
use Rattle.qpu_machine.specs.Planned.{Fixed, site_of}
use Rattle.qpu_machine.specs.SoloRun.{Want, Breaks, Wants, want, done_alone, row_wanted, performed}
use Rattle.qpu_machine.proofs.Split.{step_splits}
use Rattle.solo_law.proofs.Words.{number_is}

-- ---- one QPU that goes on, or breaks a rule

-- QPU 0 is alone, and its run goes on
abbrev pub alone : Fixed → Qpu → Shared → Counts → List ℕ → MachineState
alone g q s c m = record { fixed = g; qpus = q ∷ []; shared = s; counts = c; memory = m; broken = None }

-- the state after its issue, by what the issue leaves
abbrev after_issue : Fixed → List ℕ → Local → MachineState
after_issue g m l = record { fixed = g; qpus = l.qpu ∷ []; shared = l.shared; counts = l.counts; memory = m; broken = fault_after l.effect None }

issue_alone : (g : Fixed) (q : Qpu) (s : Shared) (c : Counts) (m : List ℕ) (l : Local) → local g.code (site_of g 0) q s c ≡ l
    → happens (alone g q s c m) (Issue 0) ≡ record { state = after_issue g m l; effect = l.effect }
unfolding happens step_of turn
issue_alone g q s c m l e = ap (λ (l : Local). let n : Next = record { state = after_issue g m l; effect = l.effect } in n) e

abbrev pub one_issued : Counts → Counts
one_issued c = record c { issued = one_more c.issued }

module _ (g : Fixed) (code : List ℕ) (is : g.code ≡ code) (q : Qpu) (s : Shared) (c : Counts) (m : List ℕ) where
  abbrev site : Site
  site = site_of g 0

  left : (w : Want) → want code site q ≡ w → (r : Qpu) → done_alone code site q (row_wanted w s.vpm) ≡ r
      → local g.code site q s c ≡ performed w 0 q s c r
  left w wants r after =
      ap (λ code. local code site q s c) is ∙ step_splits code site q s c
      ∙ ap (λ w. performed w site.number q s c (done_alone code site q (row_wanted w s.vpm))) wants
      ∙ ap (λ r. performed w site.number q s c r) after
      ∙ ap (λ k. performed w k q s c r) (number_is g 0)

  -- a word that uses nothing shared is done
  pub goes_on : (r : Qpu) → want code site q ≡ Wants (Private None) → done_alone code site q [] ≡ r
      → happens (alone g q s c m) (Issue 0) ≡ record { state = alone g r s (one_issued c) m; effect = effect.Did }
  goes_on r wants after = issue_alone g q s c m (performed (Wants (Private None)) 0 q s c r) (left (Wants (Private None)) wants r after)

  -- a word that breaks a rule stops the run
  breaks_here : (rule : Rule) → want code site q ≡ Breaks rule → stop_of (happens (alone g q s c m) (Issue 0)).state ≡ stop.Broken rule 0 q.flow.place
  unfolding stop_of
  breaks_here rule wants =
      ap (λ (n : Next). stop_of n.state)
      (issue_alone g q s c m (performed (Breaks rule) 0 q s c (done_alone code site q [])) (left (Breaks rule) wants (done_alone code site q []) refl))

-- ---- words that end outside the code

-- what is done by three words that use nothing shared, and a fourth one that breaks a rule
pub broken_at_last : (g : Fixed) (code : List ℕ) → g.code ≡ code → (q0 q1 q2 q3 : Qpu) (s : Shared) (c : Counts) (m : List ℕ) (rule : Rule)
    → want code (site_of g 0) q0 ≡ Wants (Private None) → done_alone code (site_of g 0) q0 [] ≡ q1
    → want code (site_of g 0) q1 ≡ Wants (Private None) → done_alone code (site_of g 0) q1 [] ≡ q2
    → want code (site_of g 0) q2 ≡ Wants (Private None) → done_alone code (site_of g 0) q2 [] ≡ q3
    → want code (site_of g 0) q3 ≡ Breaks rule
    → stop_of (machine_run (replicate 4 (Issue 0)) (alone g q0 s c m)) ≡ stop.Broken rule 0 q3.flow.place
unfolding machine_run
broken_at_last g code is q0 q1 q2 q3 s c m rule w0 d0 w1 d1 w2 d2 w3 =
    ap (λ (n : Next). stop_of (machine_run (replicate 3 (Issue 0)) n.state)) (goes_on g code is q0 s c m q1 w0 d0)
    ∙ ap (λ (n : Next). stop_of (machine_run (replicate 2 (Issue 0)) n.state)) (goes_on g code is q1 s (one_issued c) m q2 w1 d1)
    ∙ ap (λ (n : Next). stop_of (machine_run (replicate 1 (Issue 0)) n.state)) (goes_on g code is q2 s (one_issued (one_issued c)) m q3 w2 d2)
    ∙ breaks_here g code is q3 s (one_issued (one_issued (one_issued c))) m rule w3
