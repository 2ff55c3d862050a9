use Rattle.std.proofs.Common.{◌≡◌, ◌++◌, drop, sym, ap, ◌∙◌, arith, min, length, ◌≤◌}
use Rattle.std.proofs.lemmas.List.{append-nil}
use Rattle.ir_build.specs.Code.{Stmts, nothing, pass_code}
use Rattle.ir_build.proofs.Rows.{pass_end}
use Rattle.ir_build.proofs.scopes.pass.Goals as goal

pub returns : goal.returns
returns c =
    let ps = c.args.params.now in
    let xs = c.args.args.now in
    let out = c.loop-i.out.items in
    let le : min (length ps) (length xs) ≤ c.loop-i.i = omega (arith, c.min-i-end.ensures) in
    let e : pass_code c.args.vars.now (drop c.loop-i.i ps) (drop c.loop-i.i xs) c.loop-i.next ≡ nothing c.loop-i.next = pass_end c.args.vars.now ps xs c.loop-i.i c.loop-i.next le in
    (sym (ap (λ (z : Stmts). out ++ z.stmts) e ∙ append-nil out) ∙ c.loop-i.invariant.stmts, sym (ap (λ (z : Stmts). z.next) e) ∙ c.loop-i.invariant.next)
