use Rattle.vpm_words.proofs.MoveLaws.{part_replaced, bytes_put, moved_again, vpm_kept, others_stay}
use Rattle.vpm_words.proofs.laws.law_moves.Goals as goal

pub returns-clause-part : goal.returns-clause-part
returns-clause-part c = λ mode word part m h k. part_replaced mode word part m h k

pub returns-clause-bytes : goal.returns-clause-bytes
returns-clause-bytes c = λ memory at n x h. bytes_put memory at n x h

pub returns-clause-again : goal.returns-clause-again
returns-clause-again c = λ mode e vpm other memory m s l a r k. moved_again mode e vpm other memory m s l a r k

pub returns-clause-vpm : goal.returns-clause-vpm
returns-clause-vpm c = λ vpm h. vpm_kept vpm h

pub returns-clause-others : goal.returns-clause-others
returns-clause-others c = others_stay
