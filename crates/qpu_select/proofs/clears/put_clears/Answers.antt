use Rattle.std.proofs.Common.{false, take, subst, sym}
use Rattle.std.proofs.lemmas.List.{take_all}
use Rattle.qpu_select.specs.Clears.{Naming, seen_after, Marks}
use Rattle.qpu_select.proofs.Clearing.{seen_next, clears_next}
use Rattle.qpu_select.proofs.clears.put_clears.Goals as goal

abbrev none : Naming
none = record { reg = 0; in_part = false }

pub loop-w-preserved : goal.loop-w-preserved
loop-w-preserved c seen marks =
    let list = c.args.list.now in
    let i = c.loop-w.w-index in
    let so_far = c.loop-w.invariant seen marks in
    let before = seen_after seen (take i list) in
    let step = c.in_ok-put_clear.ensures in (
      clears_next seen list i none _ _ _ c.loop-w-test.true (step.code before so_far.1) so_far.0,
      subst (Marks c.put_clear.new.flags.items) (sym (seen_next seen list i none c.loop-w-test.true)) (step.marks before so_far.1),
    )

pub returns-clause-marks : goal.returns-clause-marks
returns-clause-marks c seen marks =
    let list = c.args.list.now in
    subst (λ ws. Marks c.loop-w.flags.items (seen_after seen ws)) (take_all c.loop-w.w-index list c.loop-w-test.false) (c.loop-w.invariant seen marks).1
