use Rattle.std.proofs.Common.{rules}
use Rattle.launch_file.proofs.BodyLaws.{late_value, taken_value}
use Rattle.launch_file.proofs.body.take_value.Goals as goal

pub returns-then-is_some : goal.returns-then-is_some
returns-then-is_some c =
    let b = c.args.body.now in
    late_value b.buffers.items b.args.items b.schedule c.args.value (search rules)

pub returns : goal.returns
returns c =
    let b = c.args.body.now in
    taken_value b.buffers.items b.args.items c.push.new.self.items b.schedule c.args.value (search rules) c.requires.allowed c.requires.proper (search rules)
