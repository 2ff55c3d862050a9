-- A list of tokens has one tree at most, by their spellings.
use Rattle.std.proofs.Common.{◌≡◌, List, sym, ◌∙◌}
use Rattle.clc_lexer.specs.declared.token.Token.{Token}
use Rattle.clc_tree.specs.declared.functions.Tree.{Tree}
use Rattle.clc_tree.specs.SourceText.{IsTreeOf}
use Rattle.clc_grammar_laws.proofs.FlatIs.{flat_tree}
use Rattle.clc_grammar_laws.proofs.ProgramsExact.{one_tree}

pub has_one_tree : (a b : Tree) (tokens : List Token) → IsTreeOf a tokens → IsTreeOf b tokens → a ≡ b
has_one_tree a b tokens ((m, h), e) ((n, i), d) =
    one_tree a b m n h i (flat_tree a m h ∙ e ∙ sym (flat_tree b n i ∙ d))
