use Rattle.std.proofs.Common.{◌∙◌, sym, ap, arith, ◌≡◌, ℕ}
use Rattle.qpu_machine.specs.declared.state.Step.TheVariants.{Store}
use Rattle.qpu_machine.specs.MachineState.{MachineState}
use Rattle.qpu_machine.specs.MachineRun.{happens, machine_run}
use Rattle.qpu_machine.specs.Schedules.{round}
use Rattle.qpu_machine.proofs.ScheduleRuns.{run_issued, run_from, round_done}
use Rattle.qpu_machine.proofs.schedules.run_round.Goals as goal

pub loop-k-init : goal.loop-k-init
loop-k-init c = run_from c.args.machine.now

pub loop-k-preserved : goal.loop-k-preserved
loop-k-preserved c = run_issued c.loop-k.k c.args.machine.now c.loop-k.machine c.loop-k.invariant ∙ sym c.step.ensures.state

pub returns : goal.returns
returns c =
    let all : c.loop-k.k ≡ c.args.qpus = omega arith in
    c.step-3.ensures.state
    ∙ ap (λ (s : MachineState). (happens s (Store 0)).state) c.step-2.ensures.state
    ∙ sym (round_done c.loop-k.k c.args.machine.now c.loop-k.machine c.loop-k.invariant)
    ∙ ap (λ (n : ℕ). machine_run (round n) c.args.machine.now) all
