use Rattle.std.proofs.Common.{◌+◌, length, Err, refl, sym, ap, ◌∙◌, subst}
use Rattle.std.proofs.lemmas.Result.{err_from_is_err_and}
use Rattle.clc_lexer.specs.Walking.{Steps}
use Rattle.clc_lexer.proofs.Walks.{run_steps, run_stops, mark_steps}
use Rattle.clc_lexer.proofs.lexing.read_piece.Goals as goal

pub returns-in_err-kind-in-Run : goal.returns-in_err-kind-in-Run
returns-in_err-kind-in-Run c =
    let p = err_from_is_err_and c.from_residual.result c.from_residual.ensures.1 in
    subst (Steps c.args.bytes.now c.args.at) (sym (p.1 ∙ ap Err p.2))
    (run_stops c.args.bytes.now c.in-Run.len c.args.at c.in_err-kind-in-Run.field-0.0 c.in-Run.ensures.found c.in_err-kind-in-Run.ensures)

pub returns-in_ok-kind-in-Run : goal.returns-in_ok-kind-in-Run
returns-in_ok-kind-in-Run c =
    run_steps c.args.bytes.now c.in-Run.len c.args.at (c.args.at + c.in-Run.len) c.in_ok-kind-in-Run.kind c.with_token.result c.in-Run.ensures.found c.in_ok-kind-in-Run.ensures refl c.with_token.ensures

pub returns-in-Mark : goal.returns-in-Mark
returns-in-Mark c =
    mark_steps c.args.bytes.now c.in-Mark.mark c.args.at (c.args.at + length c.spelling.result.now) c.with_token-in-Mark.result c.in-Mark.ensures.found (ap (λ z. c.args.at + length z) c.spelling.ensures) c.with_token-in-Mark.ensures
