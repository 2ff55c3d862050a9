use Rattle.std.proofs.Common.{◌≡◌, suc, ◌-◌, sym, subst, arith}
use Rattle.clc_parser.specs.Reads.{Reads}
use Rattle.clc_tree.specs.StatementRules as spec
use Rattle.clc_grammar_laws.proofs.StatementLevels.{parts_loop}
use Rattle.clc_reading.specs.Reading.{taken}
use Rattle.clc_tree.specs.Kinds.{is}
use Rattle.clc_tree.specs.ExpressionRules as e
use Rattle.clc_tree.specs.declared.kinds.Kind.TheVariants as k
use Rattle.clc_parser.specs.Parts as own
use Rattle.clc_parser.proofs.Handing.{handed_on, stops_here, reads_later}
use Rattle.clc_parser.proofs.Parts.{if_other}
use Rattle.clc_parser.proofs.statements.+rules.Goals as goal

pub stmt-returns : goal.stmt-returns
stmt-returns t c =
    let e : c.args.room ≡ suc (c.args.room - 1) = omega arith in
    subst (λ n. Reads ((spec.levels n).stmt c.args.tokens.now.left.now) c.statement.result c.statement.new.tokens.left.now) (sym e) c.statement.ensures

pub parts-turns-smaller : goal.parts-turns-smaller
parts-turns-smaller t c = (parts_loop c.args.inner).falls c.turns.tokens.left.now c.in_ok-block_part.field-0 c.block_part.new.tokens.left.now c.in_ok-block_part.ensures

pub parts-turns-preserved : goal.parts-turns-preserved
parts-turns-preserved t c =
    rw c.in_ok-push.ensures.ok ((parts_loop c.args.inner).more _ c.turns.all c.turns.tokens.left.now c.in_ok-block_part.field-0 c.block_part.new.tokens.left.now c.turns.invariant (sym c.turns-test.ensures) c.in_ok-block_part.ensures)

pub if_from-returns-in_err-other : goal.if_from-returns-in_err-other
unfolding spec.if_from spec.tested
if_from-returns-in_err-other t c =
    let n = c.args.inner in
    let inner = spec.levels c.args.inner in
    let ts = c.args.tokens.now.left.now in
    let t1 = c.take.new.self.left.now in
    let t2 = c.boxed.new.tokens.left.now in
    let t3 = c.take-2.new.self.left.now in
    let t4 = c.governed.new.tokens.left.now in
    let left = c.other_part.new.tokens.left.now in
    let result = c.from_residual-in_err-other.result in
    reads_later (taken (is k.LeftParen) ts) c.in_ok-opening.opening t1 _ result left c.in_ok-opening.ensures
    (reads_later ((e.levels n).expr t1) c.in_ok-test.test t2 _ result left c.in_ok-test.ensures
    (reads_later (taken (is k.RightParen) t2) c.in_ok-closing.closing t3 _ result left c.in_ok-closing.ensures
    (reads_later (inner.stmt t3) (c.in_ok-body.body, c.in_ok-body.open_end) t4 _ result left c.in_ok-body.ensures
    (subst (λ o. Reads o result left)
    (sym (if_other n inner c.args.word c.in_ok-opening.opening c.in_ok-test.test c.in_ok-closing.closing c.in_ok-body.body c.in_ok-body.open_end t4))
    (handed_on _ result c.in_err-other.field-0.0 left c.from_residual-in_err-other.ensures.1
    (stops_here (own.other_part n inner c.in_ok-body.open_end t4) _ c.in_err-other.field-0.0 left c.in_err-other.ensures))))))
