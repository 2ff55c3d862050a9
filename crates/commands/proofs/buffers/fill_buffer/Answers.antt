use Rattle.std.proofs.Common.{◌≡◌, Some, rules}
use Rattle.commands.specs.Plan.{HasRead}
use Rattle.commands.proofs.Steps.{gives_up_as, if_err_map, buffer_read}
use Rattle.commands.proofs.buffers.fill_buffer.Goals as goal

pub returns-in-None-clause-err : goal.returns-in-None-clause-err
returns-in-None-clause-err g c = if_err_map c.fill.result _ _ (λ status e next. gives_up_as _ status _ _ _ e) c.fill.ensures.err

pub returns-in-Ok-clause-err : goal.returns-in-Ok-clause-err
returns-in-Ok-clause-err g c =
    let line = c.args.line.now in
    let before = g.F.Files.state c.args.files.now in
    let now = g.F.Files.state c.read_place.new.files in
    let out = g.S.Sink.state c.args.out.now in
    let name : line.from ≡ Some c.in-Some.name = search rules in
    let read : HasRead before now c.in-Some.name line.size c.in-Ok.bytes.items = search rules in
    if_err_map c.fill-in-Ok.result _ _
    (λ status e next. buffer_read _ line _ _ next before now out name read now out status (gives_up_as _ status _ now out e))
    c.fill-in-Ok.ensures.err
