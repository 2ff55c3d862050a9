use Rattle.std.proofs.Common.{rules}
use Rattle.launch_file.proofs.WholeLaws.{made_valid, made_lines}
use Rattle.launch_file.proofs.reading.launch_of.Goals as goal

pub invariant_of-result : goal.invariant_of-result
invariant_of-result c =
    let t = c.args.tail in
    rw (c.padded-global.ensures, c.padded-local.ensures, c.count_of-dims.ensures) (made_valid c.args.head.qpus c.args.head.global c.args.head.local t.buffers.items t.args.items t.schedule c.requires.head c.requires.tail)

pub returns-clause-valid : goal.returns-clause-valid
returns-clause-valid c =
    let t = c.args.tail in
    rw (c.padded-global.ensures, c.padded-local.ensures, c.count_of-dims.ensures) (made_valid c.args.head.qpus c.args.head.global c.args.head.local t.buffers.items t.args.items t.schedule c.requires.head c.requires.tail)

pub returns-clause-lines : goal.returns-clause-lines
returns-clause-lines c =
    let t = c.args.tail in
    rw (c.padded-global.ensures, c.padded-local.ensures, c.count_of-dims.ensures) (made_lines c.args.head.qpus c.args.head.global c.args.head.local t.buffers.items t.args.items t.schedule c.requires.head.same)
