use Rattle.clc_grammar_laws.proofs.OneTree.{has_one_tree}
use Rattle.clc_grammar_laws.proofs.laws.law_one_tree.Goals as goal

pub returns : goal.returns
returns c = has_one_tree
