use Rattle.std.proofs.Common.{sym}
use Rattle.clc_grammar_laws.proofs.ProgramsExact.{params_loop}
use Rattle.clc_parser.proofs.functions.parameter_steps.Goals as goal

pub turns-smaller : goal.turns-smaller
turns-smaller c = (params_loop c.args.room).falls c.turns.tokens.left.now c.in_ok-parameter_step.field-0 c.parameter_step.new.tokens.left.now c.in_ok-parameter_step.ensures

pub turns-preserved : goal.turns-preserved
turns-preserved c =
    rw c.in_ok-push.ensures.ok ((params_loop c.args.room).more _ c.turns.rest c.turns.tokens.left.now c.in_ok-parameter_step.field-0 c.parameter_step.new.tokens.left.now c.turns.invariant (sym c.turns-test.ensures) c.in_ok-parameter_step.ensures)
