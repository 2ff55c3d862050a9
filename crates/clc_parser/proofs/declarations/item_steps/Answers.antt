use Rattle.std.proofs.Common.{sym}
use Rattle.clc_grammar_laws.proofs.DeclarationsExact.{items_loop}
use Rattle.clc_parser.proofs.declarations.item_steps.Goals as goal

pub turns-smaller : goal.turns-smaller
turns-smaller c = (items_loop c.args.inner).falls c.turns.tokens.left.now c.in_ok-item_step.field-0 c.item_step.new.tokens.left.now c.in_ok-item_step.ensures

pub turns-preserved : goal.turns-preserved
turns-preserved c =
    rw c.in_ok-push.ensures.ok ((items_loop c.args.inner).more _ c.turns.rest c.turns.tokens.left.now c.in_ok-item_step.field-0 c.item_step.new.tokens.left.now c.turns.invariant (sym c.turns-test.ensures) c.in_ok-item_step.ensures)
