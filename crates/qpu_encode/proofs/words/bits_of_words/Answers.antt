use Rattle.std.proofs.Common.{arith, ◌∙◌, ap, w32}
use Rattle.std.specs.Prelude.{nat_abs}
use Rattle.std.proofs.lemmas.Int.{to_z-of_z}
use Rattle.qpu_encode.proofs.RoundTrip.{distance_size}
use Rattle.qpu_encode.proofs.words.bits_of_words.Goals as goal

pub overflow_sub-result : goal.overflow_sub-result
overflow_sub-result c =
    let v = c.unsigned_abs.ensures.value ∙ ap nat_abs (to_z-of_z w32 c.args.words c.ranges.words) in
    omega (arith, distance_size c.args.words c.requires, v)

pub returns-else-words-lt0-clause-fits : goal.returns-else-words-lt0-clause-fits
returns-else-words-lt0-clause-fits c =
    let v = c.unsigned_abs.ensures.value ∙ ap nat_abs (to_z-of_z w32 c.args.words c.ranges.words) in
    omega (arith, distance_size c.args.words c.requires, v)
