use Rattle.std.proofs.Common.{sym, subst}
use Rattle.clc_types.specs.InternalSteps.{Stands, view_of, for_start_walk, declare_walk}
use Rattle.clc_walk.proofs.Listed.{alone}
use Rattle.clc_walk.proofs.statements.for_start.Goals as goal

pub returns-in-Declare : goal.returns-in-Declare
returns-in-Declare c l =
    let v = view_of c.args.state.now in
    let r = c.declaration.result in
    let new = c.declaration.new.state in
    let h = rw c.new.ensures at (c.declaration.ensures l) in
    subst (λ x. Stands (for_start_walk x l v) r new) (sym c.in-Declare.is) (subst (λ s. Stands s r new) (alone (declare_walk c.in-Declare.d) l v) h)
