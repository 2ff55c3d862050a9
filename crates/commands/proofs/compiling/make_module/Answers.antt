use Rattle.std.proofs.Common.{subst}
use Rattle.promise.specs.Faithful.{IsFaithful}
use Rattle.commands.specs.Plan.{both, no_meanings}
use Rattle.commands.specs.Compile.{RefusesSource}
use Rattle.commands.proofs.SourceRuns.{source_compiled, source_refused}
use Rattle.commands.proofs.compiling.make_module.Goals as goal

pub returns-in-Ok-compile-clause-ok : goal.returns-in-Ok-compile-clause-ok
returns-in-Ok-compile-clause-ok g c = λ next.
    let code = c.in-Ok-compile.module in
    let faithful = subst (λ text. IsFaithful g.C.Compiler.language text c.args.kernel.now code) c.deref.ensures.value
    (subst (λ name. IsFaithful g.C.Compiler.language c.deref.result.now name code) c.as_bytes.ensures.value c.in-Ok-compile.ensures.faithful) in
    source_compiled (both g.C.Compiler.language no_meanings) c.args.source_name.now c.args.kernel.now c.in-Ok.source.items next (g.F.Files.state c.args.files.now) (g.F.Files.state c.read_place.new.files) (g.S.Sink.state c.args.out.now)
    code c.in-Ok.ensures.read c.in-Ok-compile.ensures.limits faithful

pub returns-clause-err : goal.returns-clause-err
returns-clause-err g c = λ next.
    let out_now = g.S.Sink.state c.refuse_source.new.out in
    source_refused (both g.C.Compiler.language no_meanings) c.args.source_name.now c.args.kernel.now c.in-Ok.source.items next (g.F.Files.state c.args.files.now) (g.F.Files.state c.read_place.new.files) (g.S.Sink.state c.args.out.now)
    c.in-Err-compile.refusal out_now c.refuse_source.result c.in-Ok.ensures.read
    (λ rule at is.
    subst (λ text. g.C.Compiler.language.violates_first text c.args.kernel.now rule at) c.deref.ensures.value
    (subst (λ name. g.C.Compiler.language.violates_first c.deref.result.now name rule at) c.as_bytes.ensures.value (c.in-Err-compile.ensures.refused rule at is)))
    (subst (λ text. RefusesSource text c.in-Err-compile.refusal (g.S.Sink.state c.args.out.now) out_now c.refuse_source.result) c.deref-in-Err-compile.ensures.value c.refuse_source.ensures)
