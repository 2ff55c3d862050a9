use Rattle.qpu_disasm.proofs.SameWords.{texts_differ}
use Rattle.qpu_disasm.proofs.laws.law_lines_differ.Goals as goal

pub returns : goal.returns
returns c = texts_differ
