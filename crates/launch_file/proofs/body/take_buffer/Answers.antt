use Rattle.std.proofs.Common.{rules, ◌∙◌, sym}
use Rattle.launch_file.proofs.BodyLaws.{least_buffer, taken_buffer}
use Rattle.launch_file.proofs.body.take_buffer.Goals as goal

pub returns-in-Some : goal.returns-in-Some
returns-in-Some c =
    let b = c.args.body.now in
    λ qpus global local. least_buffer b.buffers.items b.args.items b.schedule c.args.size _ _ qpus global local ∙ (search rules)

pub returns : goal.returns
returns c =
    let b = c.args.body.now in
    taken_buffer b.buffers.items c.push.new.self.items b.args.items b.schedule c.args.size _ _ c.in_ok-from.from c.in_ok-to.to (search rules) c.requires.allowed c.requires.proper (search rules) (search rules) (search rules)
