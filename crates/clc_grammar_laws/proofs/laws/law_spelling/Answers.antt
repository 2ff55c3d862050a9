use Rattle.clc_grammar_laws.proofs.FlatIs.{flat_tree}
use Rattle.clc_grammar_laws.proofs.laws.law_spelling.Goals as goal

pub returns : goal.returns
returns c = flat_tree
