use Rattle.std.proofs.Common.{rules}
use Rattle.launch_file.proofs.TailLaws.{onward}
use Rattle.launch_file.proofs.reading.read_next.Goals as goal

pub returns-in-Ok-clause-onward : goal.returns-in-Ok-clause-onward
returns-in-Ok-clause-onward c =
    onward c.args.body.now c.take_line.new.body c.args.rest.now c.in-Some.left.now _ (search rules) c.in-Ok.ensures.1 c.in-Ok.ensures.2
