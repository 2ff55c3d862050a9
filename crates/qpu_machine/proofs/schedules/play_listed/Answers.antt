use Rattle.std.proofs.Common.{◌∙◌, sym, ap, arith, ◌≡◌, ◌-◌, ◌+◌, suc, ℕ, length}
use Rattle.std.proofs.lemmas.Bool.{eqb-true}
use Rattle.qpu_machine.specs.MachineRun.{machine_run}
use Rattle.qpu_machine.specs.Schedules.{listed_of}
use Rattle.qpu_machine.proofs.Runs.{stopped_stays}
use Rattle.qpu_machine.proofs.ScheduleRuns.{listed_next, no_listed, run_listed_none}
use Rattle.qpu_machine.proofs.schedules.play_listed.Goals as goal

pub returns-then-stops_in : goal.returns-then-stops_in
returns-then-stops_in c =
    let left = c.args.times - c.loop-time._time in
    let rest = c.args.times - (c.loop-time._time + 1) in
    let e : left ≡ suc rest = omega arith in
    sym (stopped_stays (listed_of c.args.bytes.now rest) c.stops_in.new.machine (c.stops_in.ensures.stopped c.if-stops_in.true))
    ∙ ap (machine_run (listed_of c.args.bytes.now rest)) c.stops_in.ensures.state
    ∙ sym (listed_next c.args.bytes.now left rest c.loop-time.machine e)
    ∙ c.loop-time.invariant

pub loop-time-preserved : goal.loop-time-preserved
loop-time-preserved c =
    let left = c.args.times - c.loop-time._time in
    let rest = c.args.times - (c.loop-time._time + 1) in
    let e : left ≡ suc rest = omega arith in
    ap (machine_run (listed_of c.args.bytes.now rest)) c.stops_in.ensures.state
    ∙ sym (listed_next c.args.bytes.now left rest c.loop-time.machine e)
    ∙ c.loop-time.invariant

pub returns : goal.returns
returns c =
    let none : c.args.times - c.loop-time._time ≡ 0 = omega arith in
    sym (no_listed c.args.bytes.now c.loop-time.machine)
    ∙ ap (λ (n : ℕ). machine_run (listed_of c.args.bytes.now n) c.loop-time.machine) (sym none)
    ∙ c.loop-time.invariant

pub returns-then-is_empty : goal.returns-then-is_empty
returns-then-is_empty c =
    let none : length c.args.bytes.now ≡ 0 = eqb-true (length c.args.bytes.now) 0 (sym c.is_empty.ensures ∙ c.if-is_empty.true) in
    sym (run_listed_none c.args.bytes.now c.args.times c.args.machine.now none)
