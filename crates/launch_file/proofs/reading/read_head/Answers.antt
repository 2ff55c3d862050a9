use Rattle.std.proofs.Common.{rules}
use Rattle.std.proofs.lemmas.Result.{err_from_is_err_and}
use Rattle.launch_file.proofs.LineSteps.{leads_start}
use Rattle.launch_file.proofs.reading.read_head.Goals as goal

pub returns-in_err-rest-clause-err : goal.returns-in_err-rest-clause-err
returns-in_err-rest-clause-err c =
    let p = err_from_is_err_and c.from_residual.result c.from_residual.ensures.1 in
    let bytes = c.args.bytes.now in
    rw (p.1, p.2) (c.in_err-rest.ensures.err bytes (leads_start bytes))

pub returns-in_err-qpus-clause-err : goal.returns-in_err-qpus-clause-err
returns-in_err-qpus-clause-err c =
    let p = err_from_is_err_and c.from_residual-in_err-qpus.result c.from_residual-in_err-qpus.ensures.1 in
    let bytes = c.args.bytes.now in
    rw (p.1, p.2) (c.in_err-qpus.ensures.err bytes (c.in_ok-rest.ensures.ok bytes (leads_start bytes)))

pub returns-in_err-global-clause-err : goal.returns-in_err-global-clause-err
returns-in_err-global-clause-err c =
    let p = err_from_is_err_and c.from_residual-in_err-global.result c.from_residual-in_err-global.ensures.1 in
    let bytes = c.args.bytes.now in
    rw (p.1, p.2) (c.in_err-global.ensures.err c.in_ok-qpus.qpus bytes (c.in_ok-qpus.ensures.ok bytes (c.in_ok-rest.ensures.ok bytes (leads_start bytes))))

pub returns-in_err-local-clause-err : goal.returns-in_err-local-clause-err
returns-in_err-local-clause-err c =
    let p = err_from_is_err_and c.from_residual-in_err-local.result c.from_residual-in_err-local.ensures.1 in
    let bytes = c.args.bytes.now in
    rw (p.1, p.2) (c.in_err-local.ensures.err c.in_ok-qpus.qpus bytes (c.in_ok-global.ensures.ok c.in_ok-qpus.qpus bytes (c.in_ok-qpus.ensures.ok bytes (c.in_ok-rest.ensures.ok bytes (leads_start bytes)))))

pub returns-clause-leads : goal.returns-clause-leads
returns-clause-leads c =
    let bytes = c.args.bytes.now in
    c.in_ok-local.ensures.ok c.in_ok-qpus.qpus bytes (c.in_ok-global.ensures.ok c.in_ok-qpus.qpus bytes (c.in_ok-qpus.ensures.ok bytes (c.in_ok-rest.ensures.ok bytes (leads_start bytes))))
