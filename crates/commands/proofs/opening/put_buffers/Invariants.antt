use Rattle.std.proofs.Common.{◌≡◌, drop}
use Rattle.promise.specs.Openings.{with_regions}
use Rattle.commands.proofs.opening.put_buffers.Given as goal

abbrev pub invariant-loop-buffer : goal.invariant-loop-buffer
invariant-loop-buffer l = with_regions l.memory.items (drop l.buffer-index l.buffers) ≡ with_regions l.initial.memory.items l.buffers
