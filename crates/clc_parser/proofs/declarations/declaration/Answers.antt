use Rattle.std.proofs.Common.{◌≡◌, ◌∙◌, ◌+◌, suc, Bool, cond, sym, subst, arith}
use Rattle.clc_reading.specs.Reading.{Got}
use Rattle.clc_tree.specs.StatementRules as spec
use Rattle.clc_tree.specs.declared.kinds.Kind.TheVariants as k
use Rattle.clc_parser.specs.Parts as own
use Rattle.clc_parser.specs.Reads.{Reads}
use Rattle.clc_parser.proofs.Handing.{reads_later}
use Rattle.clc_parser.proofs.declarations.declaration.Goals as goal

pub returns-then-sees : goal.returns-then-sees
unfolding spec.declaration
returns-then-sees c =
    let e : c.args.inner + 1 ≡ suc c.args.inner = omega arith in
    let h = subst (λ n. spec.optional n k.Const c.args.tokens.now.left.now ≡ Got c.in_ok-constant.constant c.optional.new.tokens.left.now) e c.in_ok-constant.ensures in
    reads_later (spec.optional (suc c.args.inner) k.Const c.args.tokens.now.left.now) c.in_ok-constant.constant c.optional.new.tokens.left.now _ c.pointed.result c.pointed.new.tokens.left.now h
    (subst (λ (b : Bool). Reads (cond b (own.pointed c.args.inner c.in_ok-constant.constant c.optional.new.tokens.left.now) (spec.values_from c.args.inner c.in_ok-constant.constant c.optional.new.tokens.left.now)) c.pointed.result c.pointed.new.tokens.left.now)
    (sym c.if-sees.true ∙ c.sees.ensures) c.pointed.ensures)

pub returns : goal.returns
unfolding spec.declaration
returns c =
    let e : c.args.inner + 1 ≡ suc c.args.inner = omega arith in
    let h = subst (λ n. spec.optional n k.Const c.args.tokens.now.left.now ≡ Got c.in_ok-constant.constant c.optional.new.tokens.left.now) e c.in_ok-constant.ensures in
    reads_later (spec.optional (suc c.args.inner) k.Const c.args.tokens.now.left.now) c.in_ok-constant.constant c.optional.new.tokens.left.now _ c.values_from.result c.values_from.new.tokens.left.now h
    (subst (λ (b : Bool). Reads (cond b (own.pointed c.args.inner c.in_ok-constant.constant c.optional.new.tokens.left.now) (spec.values_from c.args.inner c.in_ok-constant.constant c.optional.new.tokens.left.now)) c.values_from.result c.values_from.new.tokens.left.now)
    (sym c.if-sees.false ∙ c.sees.ensures) c.values_from.ensures)
