use Rattle.std.proofs.Common.{◌≡◌, ◌+◌, suc, sym, subst, arith}
use Rattle.clc_reading.specs.Reading.{Got}
use Rattle.clc_tree.specs.StatementRules.{optional}
use Rattle.clc_tree.specs.ProgramRules as spec
use Rattle.clc_tree.specs.declared.kinds.Kind.TheVariants as k
use Rattle.clc_parser.specs.Parts as own
use Rattle.clc_parser.proofs.Handing.{reads_later}
use Rattle.clc_parser.proofs.functions.function_rule.Goals as goal

pub returns : goal.returns
unfolding spec.function_rule
returns c =
    let e : c.args.inner + 1 ≡ suc c.args.inner = omega arith in
    let ts = c.args.tokens.now.left.now in
    let mid = c.optional.new.tokens.left.now in
    let late = c.returns.new.tokens.left.now in
    let h = subst (λ n. optional n k.Lead ts ≡ Got c.in_ok-lead.lead mid) e c.in_ok-lead.ensures in
    let g = subst (λ n. spec.result n mid ≡ Got c.in_ok-returns.field-0 late) e c.in_ok-returns.ensures in
    let boxed = subst (λ r. spec.result (suc c.args.inner) mid ≡ Got r late) (sym c.in_ok-returns-2.ensures) g in
    reads_later (optional (suc c.args.inner) k.Lead ts) c.in_ok-lead.lead mid _ c.function_from.result c.function_from.new.tokens.left.now h
    (reads_later (spec.result (suc c.args.inner) mid) c.in_ok-returns-2.returns late (own.function_from c.args.inner c.in_ok-lead.lead) c.function_from.result c.function_from.new.tokens.left.now boxed c.function_from.ensures)
