use Rattle.std.proofs.Common.{sym, ap, subst, Err}
use Rattle.compile_pipe.specs.Kernels.{IsFaithful}
use Rattle.compile_pipe.proofs.EmptyFaithful.{empty_is_faithful}
use Rattle.compile_pipe.proofs.Violations.{handed_on}
use Rattle.compile_pipe.proofs.compiling.module_of.Goals as goal

pub returns-in_err-front-clause-refused : goal.returns-in_err-front-clause-refused
returns-in_err-front-clause-refused c =
    handed_on c.args.source.now c.args.kernel.now c.from_residual.result c.in_err-front.field-0.0 c.from_residual.ensures.1
    (λ rule at is. c.in_err-front.ensures.refused rule at (ap Err is))

pub returns-in-Ok-clause-faithful : goal.returns-in-Ok-clause-faithful
returns-in-Ok-clause-faithful c =
    subst (IsFaithful c.args.source.now c.args.kernel.now) (sym c.in-Ok.ensures)
    (empty_is_faithful c.args.source.now c.args.kernel.now (c.in_ok-allow.ensures.ok c.args.source.now c.args.kernel.now c.in_ok-front.ensures.kernel))
