use Rattle.tight_words.proofs.Signal.{other_signal}
use Rattle.tight_words.proofs.code.leads_to.Goals as goal

pub returns-else-get-eq15 : goal.returns-else-get-eq15
returns-else-get-eq15 c = other_signal c.args.word c.get.result c.args.b c.args.t c.get.ensures c.if-get-eq15.false
