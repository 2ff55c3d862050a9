use Rattle.std.proofs.Common.{◌≡◌, suc, ◌-◌, sym, subst, arith}
use Rattle.clc_parser.specs.Reads.{Reads}
use Rattle.clc_tree.specs.StatementRules as spec
use Rattle.clc_parser.proofs.declarations.declare.Goals as goal

pub returns : goal.returns
returns c =
    let e : c.args.room ≡ suc (c.args.room - 1) = omega arith in
    subst (λ n. Reads ((spec.levels n).declare c.args.tokens.now.left.now) c.declaration.result c.declaration.new.tokens.left.now) (sym e) c.declaration.ensures
