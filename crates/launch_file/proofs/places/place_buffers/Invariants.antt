use Rattle.std.proofs.Common.{◌≡◌, ◌+◌, ◌*◌, ◌≤◌, ◌++◌, drop}
use Rattle.launch_file.specs.Layout.{first_start, regions, start_after, buffer_lens}
use Rattle.launch_file.proofs.places.place_buffers.Given as goal

abbrev pub invariant-loop-buffer : goal.invariant-loop-buffer
invariant-loop-buffer l = record {
  regions : l.placed.regions.items ++ regions l.placed.next (buffer_lens (drop l.buffer-index l.buffers)) ≡ regions first_start (buffer_lens l.buffers);
  next : start_after l.placed.next (buffer_lens (drop l.buffer-index l.buffers)) ≡ start_after first_start (buffer_lens l.buffers);
  below : l.placed.next ≤ first_start + l.buffer-index * (16777216 + 127);
}
