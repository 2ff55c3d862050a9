use Rattle.std.proofs.Common.{◌≡◌, flat_map}
use Rattle.std.specs.List.{range_with_len}
use Rattle.launch_file.specs.Uniforms.{uniforms_of}
use Rattle.commands.proofs.opening.uniforms_for.Given as goal

abbrev pub invariant-loop-qpu : goal.invariant-loop-qpu
invariant-loop-qpu l = l.words.items ≡ flat_map (uniforms_of l.launch l.places) (range_with_len 0 l.qpu)
