use Rattle.promise.proofs.WrongModules.{wrong_modules}
use Rattle.compile_pipe.specs.Kernels.{opencl}
use Rattle.compile_pipe.proofs.KernelLaws.{only_idle}
use Rattle.compile_pipe.proofs.laws.law_wrong_modules.Goals as goal

pub returns : goal.returns
returns c = wrong_modules opencl only_idle
