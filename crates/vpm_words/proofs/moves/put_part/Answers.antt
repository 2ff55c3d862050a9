use Rattle.std.proofs.Common.{rules, ◌*◌}
use Rattle.vpm_words.proofs.PartLaws.{shifted_below}
use Rattle.vpm_words.proofs.moves.put_part.Goals as goal

pub overflow_cast-result-2 : goal.overflow_cast-result-2
overflow_cast-result-2 c = search (
  rules,
  shifted_below c.args.low (8 * c.args.size) c.from-word.result c.from.result c.requires.within (search rules) (rw c.from.ensures c.requires.small),
)
