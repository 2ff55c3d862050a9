use Rattle.clc_tree.specs.StatementRules as spec
use Rattle.clc_parser.proofs.Handing.{handed_on, stops_here, stops_later}
use Rattle.clc_parser.proofs.declarations.named_from.Goals as goal

pub returns-in_err-end : goal.returns-in_err-end
unfolding spec.named_from
returns-in_err-end c =
    handed_on (spec.named_from c.args.inner c.args.pointer c.args.tokens.now.left.now) c.from_residual-in_err-end.result c.in_err-end.field-0.0 c.take-2.new.self.left.now c.from_residual-in_err-end.ensures.1
    (stops_later _ _ _ _ _ _ c.in_ok-name.ensures (stops_later _ _ _ _ _ _ c.in_ok-value.ensures (stops_here _ _ _ _ c.in_err-end.ensures)))
