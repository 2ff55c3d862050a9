-- A source has one list of tokens, and they lie in it.
use Rattle.std.proofs.Common.{◌≡◌, ℕ, ◌+◌, ◌<◌, ◌≤◌, List, [], ◌∷◌, All, refl, sym, ap, ◌∙◌, subst, arith, length}
use Rattle.std.proofs.lemmas.List.Elements.{All-nil, All-cons}
use Rattle.clc_lexer.specs.SourceText.{Piece, Space, LineComment, BlockComment, Text, bytes_of, IsSplit, AreTokens, IsLexed}
use Rattle.clc_lexer.specs.declared.token.Token.{Token}
use Rattle.clc_lexer.proofs.OnePiece.{one_split}
use Rattle.clc_lexer.proofs.Walks.{sizes, split_size, some_bytes}
use Rattle.clc_lexer.proofs.Sayings.{one_saying}

one_token : (t u : Token) → t.kind ≡ u.kind → t.from ≡ u.from → t.to ≡ u.to → t ≡ u
one_token t u e f g = λ i. record { kind = e i; from = f i; to = g i }

one_list : (at : ℕ) (ps : List Piece) (ts us : List Token) → AreTokens at ps ts → AreTokens at ps us → ts ≡ us
one_list at [] [] [] a b = refl
one_list at [] [] (u ∷ us) a b = absurd b
one_list at [] (t ∷ ts) us a b = absurd a
one_list at (Space c ∷ ps) ts us a b = one_list (at + 1) ps ts us a b
one_list at (LineComment body ∷ ps) ts us a b = one_list (at + length (bytes_of (LineComment body))) ps ts us a b
one_list at (BlockComment body ∷ ps) ts us a b = one_list (at + length (bytes_of (BlockComment body))) ps ts us a b
one_list at (Text bytes ∷ ps) [] us a b = absurd a
one_list at (Text bytes ∷ ps) (t ∷ ts) [] a b = absurd b
one_list at (Text bytes ∷ ps) (t ∷ ts) (u ∷ us) (f, g, s, a) (h, k, r, b) =
    let first : t ≡ u = one_token t u (one_saying bytes t.kind u.kind s r) (f ∙ sym h) (g ∙ sym k) in
    ap (λ z. z ∷ ts) first ∙ ap (λ z. u ∷ z) (one_list (at + length bytes) ps ts us a b)

pub lexed_once : (source : List ℕ) (one other : List Token) → IsLexed source one → IsLexed source other → one ≡ other
lexed_once source ts us (ps, (s, a)) (qs, (t, b)) = one_list 0 ps ts us a (subst (λ z. AreTokens 0 z us) (one_split qs ps source t s) b)

abbrev LiesBefore : ℕ → Token → Type 0
LiesBefore end t = (t.from < t.to) × (t.to ≤ end)

abbrev Within : ℕ → List Token → Type 0
Within end tokens = All (LiesBefore end) tokens

lie_within : (at end : ℕ) (ps : List Piece) (ts : List Token) (source : List ℕ) → IsSplit ps source [] → AreTokens at ps ts → at + sizes ps ≤ end
    → Within end ts × (length ts ≤ sizes ps)
lie_within at end [] [] source s a le = (All-nil (LiesBefore end), omega arith)
lie_within at end [] (t ∷ ts) source s a le = absurd a
lie_within at end (Space b ∷ ps) ts source (after, e, i, s) a le =
    let r = lie_within (at + 1) end ps ts after s a (omega (arith, le)) in (r.0, omega (arith, r.1))
lie_within at end (LineComment body ∷ ps) ts source (after, e, i, s) a le =
    let r = lie_within (at + length (bytes_of (LineComment body))) end ps ts after s a (omega (arith, le)) in (r.0, omega (arith, r.1))
lie_within at end (BlockComment body ∷ ps) ts source (after, e, i, s) a le =
    let r = lie_within (at + length (bytes_of (BlockComment body))) end ps ts after s a (omega (arith, le)) in (r.0, omega (arith, r.1))
lie_within at end (Text bytes ∷ ps) [] source s a le = absurd a
lie_within at end (Text bytes ∷ ps) (t ∷ ts) source (after, e, i, s) (f, g, k, a) le =
    let r = lie_within (at + length bytes) end ps ts after s a (omega (arith, le)) in
    let some = some_bytes (Text bytes) after i in
    let order : t.from < t.to = omega (arith, f, g, some) in
    let inside : t.to ≤ end = omega (arith, g, le) in
    (All-cons (LiesBefore end) t ts (order, inside) r.0, omega (arith, r.1, some))

pub tokens_within : (source : List ℕ) (tokens : List Token) → IsLexed source tokens
    → All (λ t. (t.from < t.to) × (t.to ≤ length source)) tokens × (length tokens ≤ length source)
tokens_within source tokens (ps, (s, a)) =
    let size : sizes ps ≡ length source = omega (arith, split_size ps source [] s) in
    let r = lie_within 0 (length source) ps tokens source s a (omega (arith, size)) in
    (r.0, omega (arith, r.1, size))
