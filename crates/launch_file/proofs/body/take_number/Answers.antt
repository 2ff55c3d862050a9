use Rattle.std.proofs.Common.{rules, arith}
use Rattle.launch_file.proofs.BodyLaws.{late_number, other_number, taken_number}
use Rattle.launch_file.proofs.body.take_number.Goals as goal

pub returns-then-is_some : goal.returns-then-is_some
returns-then-is_some c =
    let b = c.args.body.now in
    late_number b.buffers.items b.args.items b.schedule c.args.number (search rules)

pub returns-then-number-len : goal.returns-then-number-len
returns-then-number-len c =
    let b = c.args.body.now in
    other_number b.buffers.items b.args.items b.schedule c.args.number (search rules) (search rules)

pub returns : goal.returns
returns c =
    let b = c.args.body.now in
    taken_number b.buffers.items b.args.items c.push.new.self.items b.schedule c.args.number (search rules) c.requires.allowed (search rules) (search rules)
