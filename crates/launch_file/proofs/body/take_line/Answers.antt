use Rattle.std.proofs.Common.{refl}
use Rattle.launch_file.specs.Views.{line_view}
use Rattle.launch_file.proofs.BodyLaws.{late_head}
use Rattle.launch_file.proofs.body.take_line.Goals as goal

pub returns-in-First : goal.returns-in-First
returns-in-First c =
    let b = c.args.body.now in
    late_head b.buffers.items b.args.items b.schedule (line_view c.args.line) (rw c.in-First.is refl)

pub returns-in-Qpus : goal.returns-in-Qpus
returns-in-Qpus c =
    let b = c.args.body.now in
    late_head b.buffers.items b.args.items b.schedule (line_view c.args.line) (rw c.in-Qpus.is refl)

pub returns-in-Global : goal.returns-in-Global
returns-in-Global c =
    let b = c.args.body.now in
    late_head b.buffers.items b.args.items b.schedule (line_view c.args.line) (rw c.in-Global.is refl)

pub returns-in-Local : goal.returns-in-Local
returns-in-Local c =
    let b = c.args.body.now in
    late_head b.buffers.items b.args.items b.schedule (line_view c.args.line) (rw c.in-Local.is refl)
