use Rattle.std.proofs.Common.{◌≡◌, ℕ, ◌-◌, arith, ap}
use Rattle.launch_file.specs.Layout.{scratch_lens}
use Rattle.launch_file.proofs.RegionSteps.{scratch_lens-at, placed_next, after_next, placed_all, after_all}
use Rattle.launch_file.proofs.places.place_scratch.Goals as goal

pub place-requires : goal.place-requires
place-requires c = omega arith

pub loop-qpu-preserved : goal.loop-qpu-preserved
loop-qpu-preserved c =
    let at = scratch_lens-at c.args.qpus c.loop-qpu._qpu c.args.rows c.loop-qpu-test.true in
    record {
      regions = placed_next _ _ _ _ _ _ _ _ at c.loop-qpu.invariant.regions c.in_ok-place.ensures.regions c.in_ok-place.ensures.next;
      next = after_next _ _ _ _ _ _ at c.loop-qpu.invariant.next c.in_ok-place.ensures.next;
      below = omega (arith, c.in_ok-place.ensures.next);
    }

pub returns : goal.returns
returns c =
    let left : c.args.qpus - c.loop-qpu._qpu ≡ 0 = omega arith in
    let none = ap (λ (n : ℕ). scratch_lens n c.args.rows) left in
    record {
      regions = placed_all _ _ _ _ none c.loop-qpu.invariant.regions;
      next = after_all _ _ _ none c.loop-qpu.invariant.next;
    }
