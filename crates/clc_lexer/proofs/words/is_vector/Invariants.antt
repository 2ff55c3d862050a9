use Rattle.std.proofs.Common.{◌≡◌, drop, map}
use Rattle.clc_lexer.specs.Reading.{is_vector_among}
use Rattle.clc_lexer.proofs.words.is_vector.Given as goal

abbrev pub invariant-loop-element : goal.invariant-loop-element
invariant-loop-element l =
    is_vector_among (map (λ element. element.now) l.elements) l.text ≡ is_vector_among (map (λ element. element.now) (drop l.element-index l.elements)) l.text
