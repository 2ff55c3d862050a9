use Rattle.std.proofs.Common.{subst, ap}
use Rattle.std.specs.Prelude.{Err}
use Rattle.commands.specs.Plan.{both, no_language}
use Rattle.commands.specs.Compile.{RefusesSource}
use Rattle.commands.proofs.JudgeSteps.{source_understood, source_refuted}
use Rattle.commands.proofs.judging.understand.Goals as goal

pub returns-in-Ok-of_source-clause-ok : goal.returns-in-Ok-of_source-clause-ok
returns-in-Ok-of_source-clause-ok g c = λ next.
    let meaning = g.K.JudgedKernel.meaning c.in-Ok-of_source.kernel in
    let means = subst (λ text. g.K.JudgedKernel.meanings.means text c.args.kernel.now meaning) c.deref.ensures.value
    (subst (λ name. g.K.JudgedKernel.meanings.means c.deref.result.now name meaning) c.as_bytes.ensures.value c.in-Ok-of_source.ensures.means) in
    source_understood (both no_language g.K.JudgedKernel.meanings) c.args.source_name.now c.args.kernel.now c.in-Ok.source.items next (g.F.Files.state c.args.files.now) (g.F.Files.state c.read_place.new.files) (g.S.Sink.state c.args.out.now)
    c.in-Ok.ensures.read meaning means

pub returns-in-Err-of_source-clause-err : goal.returns-in-Err-of_source-clause-err
returns-in-Err-of_source-clause-err g c = λ next.
    let out_now = g.S.Sink.state c.refuse_source.new.out in
    source_refuted (both no_language g.K.JudgedKernel.meanings) c.args.source_name.now c.args.kernel.now c.in-Ok.source.items next (g.F.Files.state c.args.files.now) (g.F.Files.state c.read_place.new.files) (g.S.Sink.state c.args.out.now)
    c.in-Ok.ensures.read c.in-Err-of_source.refusal out_now c.refuse_source.result
    (λ rule at is.
    subst (λ text. g.K.JudgedKernel.meanings.violates_first text c.args.kernel.now rule at) c.deref.ensures.value
    (subst (λ name. g.K.JudgedKernel.meanings.violates_first c.deref.result.now name rule at) c.as_bytes.ensures.value (c.in-Err-of_source.ensures.refused rule at (ap Err is))))
    (subst (λ text. RefusesSource text c.in-Err-of_source.refusal (g.S.Sink.state c.args.out.now) out_now c.refuse_source.result) c.deref-in-Err-of_source.ensures.value c.refuse_source.ensures)
