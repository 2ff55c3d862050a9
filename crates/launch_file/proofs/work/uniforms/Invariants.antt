use Rattle.std.proofs.Common.{◌≡◌, ◌++◌, map, take}
use Rattle.launch_file.specs.Uniforms.{arg_word, work_words}
use Rattle.launch_file.proofs.work.uniforms.Given as goal

abbrev pub invariant-loop-arg : goal.invariant-loop-arg
invariant-loop-arg l = l.words.items ≡ work_words l.launch l.places l.qpu ++ map (arg_word l.places.buffers) (take l.arg-index l.launch.args)
