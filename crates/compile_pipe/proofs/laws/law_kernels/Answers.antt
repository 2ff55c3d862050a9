use Rattle.compile_pipe.proofs.KernelLaws.{kernels_are_one, idle_launches}
use Rattle.compile_pipe.proofs.laws.law_kernels.Goals as goal

pub returns-clause-one : goal.returns-clause-one
returns-clause-one c = kernels_are_one

pub returns-clause-safe : goal.returns-clause-safe
returns-clause-safe c = idle_launches
