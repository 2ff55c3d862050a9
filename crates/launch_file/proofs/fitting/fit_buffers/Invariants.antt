use Rattle.std.proofs.Common.{◌≡◌, ◌+◌, map, drop}
use Rattle.launch_file.specs.Fit.{buffer_rule, first_fault}
use Rattle.launch_file.proofs.fitting.fit_buffers.Given as goal

abbrev pub invariant-loop-buffer : goal.invariant-loop-buffer
invariant-loop-buffer l = record {
  line : l.line ≡ 5 + l.buffer-index;
  rest : first_fault l.line (map (buffer_rule l.taken) (drop l.buffer-index l.buffers)) ≡ first_fault 5 (map (buffer_rule l.taken) l.buffers);
}
