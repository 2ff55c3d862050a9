use Rattle.promise.proofs.Finishing.{safe_runs_finish}
use Rattle.compile_pipe.specs.Kernels.{opencl}
use Rattle.compile_pipe.proofs.KernelLaws.{kernels_are_one}
use Rattle.compile_pipe.proofs.laws.law_finishes.Goals as goal

pub returns : goal.returns
returns c = safe_runs_finish opencl kernels_are_one
