use Rattle.std.proofs.Common.{rules}
use Rattle.qpu_encode.proofs.RoundTrip.{form_back, form_none}
use Rattle.qpu_encode.proofs.words.decode.Goals as goal

pub returns-clause-back : goal.returns-clause-back
returns-clause-back c = form_back c.args.word _ (search rules) c.decode_fields.ensures

pub returns-clause-none : goal.returns-clause-none
returns-clause-none c = form_none c.args.word _ c.decode_fields.ensures
