use Rattle.std.proofs.Common.{sym, ◌∙◌}
use Rattle.clc_types.specs.Names.{builtins}
use Rattle.clc_types.proofs.Finding.{spelled_hit, spelled_miss}
use Rattle.clc_types.specs.declared.typed.Builtin.TheVariants.{GetWorkDim}
use Rattle.clc_types.proofs.typed.Builtin.named.Goals as goal

pub returns-then-eq : goal.returns-then-eq
returns-then-eq c =
    spelled_hit builtins c.loop-which.which-index GetWorkDim _ _ c.loop-which-test.true c.loop-which.invariant c.spelling.ensures (sym c.eq.ensures ∙ c.if-eq.true)

pub loop-which-preserved : goal.loop-which-preserved
loop-which-preserved c =
    spelled_miss builtins c.loop-which.which-index GetWorkDim _ _ c.loop-which-test.true c.loop-which.invariant c.spelling.ensures (sym c.eq.ensures ∙ c.if-eq.false)
