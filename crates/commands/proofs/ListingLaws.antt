-- The lines of words, one after another.
use Rattle.std.proofs.Common.{◌≡◌, ℕ, ◌+◌, ◌<◌, ◌≤◌, List, [], ◌∷◌, ◌++◌, length, drop, get_or, add-one, sym, ap, ◌∙◌}
use Rattle.std.proofs.Math.Seq.{drop-cons}
use Rattle.std.proofs.lemmas.List.{drop_all}
use Rattle.q_io.specs.declared.Put.{Put}
use Rattle.q_io.specs.declared.Put.TheVariants.{Done}
use Rattle.q_io.specs.SinkMeaning.{SinkState, SinkCountsStay, Gains, PutsAll}
use Rattle.q_io.proofs.Steps.{puts_then, puts_more}
use Rattle.commands.specs.Disasm.{word_line, listing}

-- the lines from the i-th word on are that of the word and then the later ones
listing_at : (words : List ℕ) (i : ℕ) → i < length words → listing (drop i words) ≡ word_line (get_or words i 0) ++ listing (drop (i + 1) words)
unfolding listing
listing_at words i within = ap listing (drop-cons words i 0 within ∙ ap (λ n. get_or words i 0 ∷ drop n words) (sym (add-one i)))

pub listing_end : (words : List ℕ) (i : ℕ) → length words ≤ i → listing (drop i words) ≡ []
unfolding listing
listing_end words i past = ap listing (drop_all i words past)

-- the line of a word was put, and then the later ones
pub word_next : (before mid now : SinkState) (words : List ℕ) (i : ℕ) (put : Put) → i < length words → SinkCountsStay before mid
    → Gains before mid (word_line (get_or words i 0)) → PutsAll mid now (listing (drop (i + 1) words)) put → PutsAll before now (listing (drop i words)) put
word_next before mid now words i put within counts first rest =
    rw (listing_at words i within) (puts_then before mid now (word_line (get_or words i 0)) _ put counts first rest)

-- the line of a word wasn't put whole
pub word_stopped : (before now : SinkState) (words : List ℕ) (i : ℕ) (put : Put) → i < length words
    → (put ≡ Done → ⊥) → PutsAll before now (word_line (get_or words i 0)) put → PutsAll before now (listing (drop i words)) put
word_stopped before now words i put within not_done h = rw (listing_at words i within) (puts_more before now (word_line (get_or words i 0)) _ put not_done h)
