use Rattle.std.proofs.Common.{◌≡◌, false, take}
use Rattle.launch_file.specs.Launches.{is_written}
use Rattle.launch_file.proofs.body.is_output.Given as goal

abbrev pub invariant-loop-buffer : goal.invariant-loop-buffer
invariant-loop-buffer l = is_written (take l.buffer-index l.buffers) l.name ≡ false
