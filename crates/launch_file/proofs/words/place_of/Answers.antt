use Rattle.std.proofs.Common.{rules, arith}
use Rattle.launch_file.proofs.Cuts.{place_is}
use Rattle.launch_file.proofs.words.place_of.Goals as goal

pub returns-else-bytes-place : goal.returns-else-bytes-place
returns-else-bytes-place c =
    place_is c.args.at c.args.bytes.now c.loop-place.place c.loop-place.invariant.0 c.loop-place.invariant.1 (λ _. search rules)

pub returns-after-loop-place : goal.returns-after-loop-place
returns-after-loop-place c =
    place_is c.args.at c.args.bytes.now c.loop-place.place c.loop-place.invariant.0 c.loop-place.invariant.1 (λ l. absurd (omega arith))
