use Rattle.std.proofs.Common.{◌≡◌, rules, refl}
use Rattle.std.specs.Prelude.{Ok, Err}
use Rattle.launch_file.specs.Fit.{fit_fault, answer_of}
use Rattle.commands.proofs.LaunchSteps.{unfit, no_fault}
use Rattle.commands.proofs.launching.fitting.Goals as goal

pub returns-in-Ok-clause-ok : goal.returns-in-Ok-clause-ok
returns-in-Ok-clause-ok g c =
    let launch = c.args.launch in
    let kinds = c.args.kinds.now in
    let taken = c.args.taken.now in
    let is : answer_of (fit_fault launch kinds taken) ≡ Ok tt = search rules in
    (refl, no_fault (fit_fault launch kinds taken) is, refl)

pub returns-in-Err-clause-err : goal.returns-in-Err-clause-err
returns-in-Err-clause-err g c = λ files next.
    let is : answer_of (fit_fault c.args.launch c.args.kinds.now c.args.taken.now) ≡ Err c.in-Err.fault = search rules in
    unfit _ c.args.taken.now c.args.kinds.now next c.args.launch c.in-Err.fault files _ _ _ is c.refuse_launch.ensures
