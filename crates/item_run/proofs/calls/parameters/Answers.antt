use Rattle.std.proofs.Common.{◌++◌, sym, ap, ◌∙◌, arith, min, length, ◌≤◌}
use Rattle.std.proofs.lemmas.List.{append-nil}
use Rattle.item_run.proofs.Frames.{params_end}
use Rattle.item_run.proofs.calls.parameters.Goals as goal

pub returns : goal.returns
returns c =
    let ps = c.args.params.now in
    let xs = c.args.args.now in
    let v = c.loop-i.values in
    let le : min (length ps) (length xs) ≤ c.loop-i.i = omega (arith, c.min-i-end.ensures) in
    sym (ap (λ z. v ++ z) (params_end ps xs c.loop-i.i le) ∙ append-nil v) ∙ c.loop-i.invariant
