use Rattle.std.proofs.Common.{◌≡◌, ◌-◌, length, arith, sym, subst, ap, ◌∙◌}
use Rattle.clc_reading.specs.Reading.{Wrong}
use Rattle.clc_parser.specs.SourceTree.{FaultAt, IsFirstFault, fault_at}
use Rattle.clc_parser.proofs.Top.{top_tree, tree_of, top_over, top_stops}
use Rattle.clc_parser.proofs.parse_within.Goals as goal

pub returns-then-left-eq0-clause-tree : goal.returns-then-left-eq0-clause-tree
returns-then-left-eq0-clause-tree c =
    let h = rw c.in-Ok.is at c.program-outcome.ensures in
    tree_of c.args.depths c.args.tokens.now c.in-Ok.tree (top_tree c.args.depths c.args.tokens.now c.in-Ok.tree c.program-outcome.new.tokens.left.now h c.if-left-eq0.true)

pub returns-then-left-eq0-clause-text : goal.returns-then-left-eq0-clause-text
returns-then-left-eq0-clause-text c =
    let h = rw c.in-Ok.is at c.program-outcome.ensures in
    top_tree c.args.depths c.args.tokens.now c.in-Ok.tree c.program-outcome.new.tokens.left.now h c.if-left-eq0.true

pub returns-else-left-eq0-clause-fault : goal.returns-else-left-eq0-clause-fault
returns-else-left-eq0-clause-fault c =
    let h = rw c.in-Ok.is at c.program-outcome.ensures in
    let k : length c.args.tokens.now - length c.program-outcome.new.tokens.left.now ≡ c.saturating_sub-token.result = omega arith in
    subst (λ n. FaultAt c.args.depths Wrong n c.args.tokens.now) k
    (top_over c.args.depths c.args.tokens.now c.in-Ok.tree c.program-outcome.new.tokens.left.now h (omega arith))

pub returns-in-Err-clause-fault : goal.returns-in-Err-clause-fault
returns-in-Err-clause-fault c =
    let h = rw c.in-Err.is at c.program-outcome.ensures in
    let k : length c.args.tokens.now - length c.program-outcome.new.tokens.left.now ≡ c.saturating_sub-token.result = omega arith in
    let e = ap (λ n. fault_at c.in-Err.stop n) k ∙ sym c.fault_of.ensures in
    subst (λ f. IsFirstFault c.args.depths f c.args.tokens.now) e
    (top_stops c.args.depths c.args.tokens.now c.program-outcome.new.tokens.left.now c.in-Err.stop h)
