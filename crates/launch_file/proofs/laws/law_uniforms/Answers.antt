use Rattle.launch_file.proofs.UniformLaws.{uniforms_are_counted}
use Rattle.launch_file.proofs.laws.law_uniforms.Goals as goal

pub returns : goal.returns
returns c = uniforms_are_counted
