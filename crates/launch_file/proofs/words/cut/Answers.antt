use Rattle.std.proofs.Common.{rules, arith}
use Rattle.launch_file.proofs.Cuts.{slice_split-past, split_before, parts_before}
use Rattle.launch_file.proofs.words.cut.Goals as goal

pub returns-then-place-bytes-clause-split : goal.returns-then-place-bytes-clause-split
returns-then-place-bytes-clause-split c = split_before _ c.args.bytes.now c.place_of-place.result c.place_of-place.ensures c.if-place-bytes.true

pub returns-then-place-bytes-clause-parts : goal.returns-then-place-bytes-clause-parts
returns-then-place-bytes-clause-parts c = parts_before c.args.at c.args.bytes.now c.place_of-place.result c.place_of-place.ensures c.if-place-bytes.true

pub returns-else-place-bytes-clause-split : goal.returns-else-place-bytes-clause-split
returns-else-place-bytes-clause-split c = slice_split-past _ c.args.bytes.now (omega (arith, c.place_of-place.ensures))
