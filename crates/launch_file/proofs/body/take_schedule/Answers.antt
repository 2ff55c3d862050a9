use Rattle.std.proofs.Common.{rules}
use Rattle.launch_file.proofs.BodyLaws.{late_schedule, taken_schedule}
use Rattle.launch_file.proofs.body.take_schedule.Goals as goal

pub returns-then-is_some : goal.returns-then-is_some
returns-then-is_some c =
    let b = c.args.body.now in
    late_schedule b.buffers.items b.args.items b.schedule c.args.schedule (search rules)

pub returns : goal.returns
returns c =
    let b = c.args.body.now in
    taken_schedule b.buffers.items b.args.items b.schedule c.args.schedule (search rules) c.requires.allowed c.requires.proper
