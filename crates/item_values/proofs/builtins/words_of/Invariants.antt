use Rattle.std.proofs.Common.{◌≡◌, ℕ, List, ◌++◌, drop}
use Rattle.item_meaning.specs.declared.values.Value.{Value}
use Rattle.item_meaning.specs.NodeMeanings.{with_words}
use Rattle.item_values.proofs.builtins.words_of.Given as goal

abbrev pub invariant-loop-value : goal.invariant-loop-value
invariant-loop-value l = (go : List ℕ → Value) → with_words (drop l.value-index l.values) (λ ws. go (l.words ++ ws)) ≡ with_words l.values go
