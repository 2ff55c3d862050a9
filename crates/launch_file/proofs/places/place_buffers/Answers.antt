use Rattle.std.proofs.Common.{◌≤◌, arith}
use Rattle.launch_file.proofs.RegionSteps.{buffer_lens-at, buffer_lens-end, small_buffer, placed_next, after_next, placed_all, after_all}
use Rattle.launch_file.proofs.places.place_buffers.Goals as goal

pub place-requires : goal.place-requires
place-requires c =
    let small : c.buffer-item.result.size ≤ 16777216 = small_buffer c.args.buffers.now c.loop-buffer.buffer-index c.buffer-item.result c.loop-buffer-test.true c.buffer-item.is c.requires.buffers in
    omega arith

pub loop-buffer-preserved : goal.loop-buffer-preserved
loop-buffer-preserved c =
    let buffers = c.args.buffers.now in
    let i = c.loop-buffer.buffer-index in
    let buffer = c.buffer-item.result in
    let small : buffer.size ≤ 16777216 = small_buffer buffers i buffer c.loop-buffer-test.true c.buffer-item.is c.requires.buffers in
    let at = buffer_lens-at buffers i buffer c.loop-buffer-test.true c.buffer-item.is in
    record {
      regions = placed_next _ _ _ _ _ _ _ _ at c.loop-buffer.invariant.regions c.in_ok-place.ensures.regions c.in_ok-place.ensures.next;
      next = after_next _ _ _ _ _ _ at c.loop-buffer.invariant.next c.in_ok-place.ensures.next;
      below = omega (arith, c.in_ok-place.ensures.next);
    }

pub returns : goal.returns
returns c =
    let none = buffer_lens-end c.args.buffers.now c.loop-buffer.buffer-index c.loop-buffer-test.false in
    record {
      regions = placed_all _ _ _ _ none c.loop-buffer.invariant.regions;
      next = after_all _ _ _ none c.loop-buffer.invariant.next;
      below = omega arith;
    }
