use Rattle.std.proofs.Common.{◌≡◌, rules, ap, subst}
use Rattle.std.specs.Prelude.{None, Err}
use Rattle.vc4q_module.specs.ModuleBytes.{first_fault, module_bytes}
use Rattle.commands.specs.Plan.{HasRead, no_sources}
use Rattle.commands.specs.Loading.{module_limit, IsModuleFault}
use Rattle.commands.proofs.LoadSteps.{module_refused, module_loads, module_fault_is, module_read}
use Rattle.commands.proofs.loading.fill_module.Goals as goal

pub returns-in-Ok-read-clause-ok : goal.returns-in-Ok-read-clause-ok
returns-in-Ok-read-clause-ok g c = λ next.
    let before = g.F.Files.state c.args.files.now in
    let now = g.F.Files.state c.read_place.new.files in
    let bytes = c.in-Ok.bytes.items in
    let read : HasRead before now c.args.module_name.now module_limit bytes = search rules in
    let none : first_fault bytes ≡ None = subst (λ b. first_fault b ≡ None) c.deref.ensures.value c.in-Ok-read.ensures.none in
    let spelled : bytes ≡ module_bytes c.in-Ok-read.module = subst (λ b. b ≡ module_bytes c.in-Ok-read.module) c.deref.ensures.value c.in-Ok-read.ensures.spelling in
    module_loads no_sources c.args.module_name.now bytes next before now (g.S.Sink.state c.args.out.now) read c.in-Ok-read.module none (module_read bytes c.in-Ok-read.module c.in-Ok-read.ensures.limits spelled)

pub returns-clause-err : goal.returns-clause-err
returns-clause-err g c = λ next.
    let before = g.F.Files.state c.args.files.now in
    let now = g.F.Files.state c.read_place.new.files in
    let bytes = c.in-Ok.bytes.items in
    let read : HasRead before now c.args.module_name.now module_limit bytes = search rules in
    let fault : IsModuleFault (first_fault bytes) c.in-Err-read.fault =
    subst (λ b. IsModuleFault (first_fault b) c.in-Err-read.fault) c.deref.ensures.value (module_fault_is c.deref.result.now c.in-Err-read.fault (λ place e. c.in-Err-read.ensures.place place (ap Err e))) in
    module_refused no_sources c.args.module_name.now bytes next before now (g.S.Sink.state c.args.out.now) read c.in-Err-read.fault _ _ fault c.refuse_module.ensures
