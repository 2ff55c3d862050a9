-- The words of values, one after the other.
use Rattle.std.proofs.Common.{◌≡◌, ℕ, suc, ◌+◌, ◌<◌, ◌≤◌, List, [], ◌∷◌, ◌++◌, length, drop, get_or, drop-cons, append_assoc, refl, sym, ap, ◌∙◌, arith}
use Rattle.std.proofs.Math.Path.{fun_ext}
use Rattle.std.proofs.lemmas.List.{append-nil}
use Rattle.item_meaning.specs.declared.values.Value.{Value}
use Rattle.item_meaning.specs.declared.values.Value.TheVariants.{Num, Null, At}
use Rattle.item_meaning.specs.NodeMeanings.{with_words}

pub item_at : {A : Type 0} (l : List A) (i : ℕ) (x : A) → x ≡ get_or l i x → i < length l → drop i l ≡ x ∷ drop (i + 1) l
item_at l i x e h = drop-cons l i x h ∙ (let n : suc i ≡ i + 1 = omega arith in ap (λ j. get_or l i x ∷ drop j l) n) ∙ ap (λ y. y ∷ drop (i + 1) l) (sym e)

pub word_more : (xs rest : List Value) (w : ℕ) (words : List ℕ) (go : List ℕ → Value) → xs ≡ Num w ∷ rest
    → with_words rest (λ ws. go ((words ++ w ∷ []) ++ ws)) ≡ with_words xs (λ ws. go (words ++ ws))
word_more xs rest w words go h =
    ap (with_words rest) (fun_ext λ ws. ap go (append_assoc words (w ∷ []) ws)) ∙ ap (λ ys. with_words ys (λ ws. go (words ++ ws))) (sym h)

pub word_null : (xs rest : List Value) (go : List ℕ → Value) → xs ≡ Null ∷ rest → with_words xs go ≡ Null
word_null xs rest go h = ap (λ ys. with_words ys go) h

pub word_pointer : (xs rest : List Value) (k o : ℕ) (go : List ℕ → Value) → xs ≡ At k o ∷ rest → with_words xs go ≡ Null
word_pointer xs rest k o go h = ap (λ ys. with_words ys go) h

pub words_end : (words : List ℕ) (go : List ℕ → Value) → with_words [] (λ ws. go (words ++ ws)) ≡ go words
words_end words go = ap go (append-nil words)
