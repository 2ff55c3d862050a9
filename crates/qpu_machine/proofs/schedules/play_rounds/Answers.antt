use Rattle.std.proofs.Common.{◌∙◌, sym, ap, arith, ◌≡◌, ◌-◌, ◌+◌, suc, ℕ}
use Rattle.qpu_machine.specs.MachineRun.{machine_run}
use Rattle.qpu_machine.specs.Schedules.{rounds_of}
use Rattle.qpu_machine.proofs.Runs.{stopped_stays}
use Rattle.qpu_machine.proofs.ScheduleRuns.{rounds_next, no_rounds}
use Rattle.qpu_machine.proofs.schedules.play_rounds.Goals as goal

pub returns-then-has_stopped : goal.returns-then-has_stopped
returns-then-has_stopped c =
    sym (stopped_stays (rounds_of (c.args.rounds - c.loop-round._round) c.count-qpus.result) c.loop-round.machine (c.has_stopped.ensures.0 c.if-has_stopped.true))
    ∙ c.loop-round.invariant
    ∙ ap (λ n. machine_run (rounds_of c.args.rounds n) c.args.machine.now) c.count-qpus.ensures

pub loop-round-preserved : goal.loop-round-preserved
loop-round-preserved c =
    let left = c.args.rounds - c.loop-round._round in
    let rest = c.args.rounds - (c.loop-round._round + 1) in
    let e : left ≡ suc rest = omega arith in
    ap (machine_run (rounds_of rest c.count-qpus.result)) c.run_round.ensures
    ∙ sym (rounds_next left rest c.count-qpus.result c.loop-round.machine e)
    ∙ c.loop-round.invariant

pub returns : goal.returns
returns c =
    let none : c.args.rounds - c.loop-round._round ≡ 0 = omega arith in
    sym (no_rounds c.count-qpus.result c.loop-round.machine)
    ∙ ap (λ (n : ℕ). machine_run (rounds_of n c.count-qpus.result) c.loop-round.machine) (sym none)
    ∙ c.loop-round.invariant
    ∙ ap (λ n. machine_run (rounds_of c.args.rounds n) c.args.machine.now) c.count-qpus.ensures
