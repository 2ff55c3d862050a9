use Rattle.std.proofs.Common.{◌≡◌, ◌∷◌, [], ap, ◌∙◌, arith}
use Rattle.std.proofs.lemmas.Grind.{common_steps}
use Rattle.lane_ir.specs.Kept.{rewritten, rewritten_all}
use Rattle.lane_ir.specs.declared.form.LaneStmt.TheVariants.{WhileAny}
use Rattle.lane_ir.proofs.Lists.{rewritten-WhileAny}
use Rattle.builtin_lower.specs.Lower.{lowered}
use Rattle.builtin_lower.proofs.walk.+walk.Goals as goal

pub put_stmt-returns-in_ok-push-in-WhileAny : goal.put_stmt-returns-in_ok-push-in-WhileAny
put_stmt-returns-in_ok-push-in-WhileAny t c =
    let f = lowered c.args.first in
    let e : rewritten f c.args.stmt.now ≡ WhileAny (rewritten_all f c.in-WhileAny.head) c.in-WhileAny.mask (rewritten_all f c.in-WhileAny.body) ∷ [] = ap (rewritten f) c.in-WhileAny.is ∙ rewritten-WhileAny f c.in-WhileAny.head c.in-WhileAny.mask c.in-WhileAny.body in
    let h : c.from_vec.result ≡ rewritten_all f c.in-WhileAny.head = c.from_vec.ensures ∙ c.in_ok-head-in-WhileAny.ensures ∙ ap (rewritten_all f) c.as_slice.ensures in
    let b : c.from_vec-in-WhileAny.result ≡ rewritten_all f c.in-WhileAny.body = c.from_vec-in-WhileAny.ensures ∙ c.in_ok-body-in-WhileAny.ensures ∙ ap (rewritten_all f) c.as_slice-in-WhileAny.ensures in
    grind (arith, common_steps, e, h, b)
