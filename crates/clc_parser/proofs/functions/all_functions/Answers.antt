use Rattle.std.proofs.Common.{sym}
use Rattle.clc_grammar_laws.proofs.ProgramsExact.{functions_loop}
use Rattle.clc_parser.proofs.functions.all_functions.Goals as goal

pub turns-smaller : goal.turns-smaller
turns-smaller c = (functions_loop c.args.room).falls c.turns.tokens.left.now c.in_ok-function.field-0 c.function.new.tokens.left.now c.in_ok-function.ensures

pub turns-preserved : goal.turns-preserved
turns-preserved c =
    rw c.in_ok-push.ensures.ok ((functions_loop c.args.room).more _ c.turns.all c.turns.tokens.left.now c.in_ok-function.field-0 c.function.new.tokens.left.now c.turns.invariant (sym c.turns-test.ensures) c.in_ok-function.ensures)
