use Rattle.std.proofs.Common.{◌≡◌, ◌+◌, ◌-◌, ◌*◌, ◌≤◌, ◌++◌}
use Rattle.launch_file.specs.Layout.{regions, start_after, scratch_lens}
use Rattle.launch_file.proofs.places.place_scratch.Given as goal

abbrev pub invariant-loop-qpu : goal.invariant-loop-qpu
invariant-loop-qpu l = record {
  regions : l.placed.regions.items ++ regions l.placed.next (scratch_lens (l.qpus - l._qpu) l.rows) ≡ regions l.start (scratch_lens l.qpus l.rows);
  next : start_after l.placed.next (scratch_lens (l.qpus - l._qpu) l.rows) ≡ start_after l.start (scratch_lens l.qpus l.rows);
  below : l.placed.next ≤ l.start + l._qpu * (16777216 + 127);
}
