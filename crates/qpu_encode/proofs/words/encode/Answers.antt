use Rattle.std.proofs.Common.{ap, ◌∙◌}
use Rattle.std.specs.Prelude.{Some}
use Rattle.qpu_encode.specs.WordFields.{form_of}
use Rattle.qpu_encode.proofs.RoundTrip.{form_complete}
use Rattle.qpu_encode.proofs.words.encode.Goals as goal

pub returns-clause-again : goal.returns-clause-again
returns-clause-again c = ap form_of c.encode_fields.ensures ∙ form_complete _ c.instr.invariant ∙ ap Some c.instr.view_is
