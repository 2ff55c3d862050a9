-- From piece to piece.
use Rattle.std.proofs.Common.{◌≡◌, ℕ, ◌+◌, ◌<◌, ◌≤◌, List, [], ◌∷◌, ◌++◌, Option, Some, None, Ok, Err, refl, sym, ap, ◌∙◌, subst, arith, length, length-append, length-take, length-drop, append_assoc, take, drop}
use Rattle.std.proofs.Math.Seq.{drop-append_seam, take-append_seam}
use Rattle.std.proofs.lemmas.List.{take-append-drop}
use Rattle.clc_lexer.specs.Tables.{mark_spelling}
use Rattle.clc_lexer.specs.SourceText.{Piece, Space, LineComment, BlockComment, Text, bytes_of, IsPiece, IsSplit, Says, AreTokens}
use Rattle.clc_lexer.specs.Scanning.{IsBlank, IsFound}
use Rattle.clc_lexer.specs.Reading.{Is, run_kind}
use Rattle.clc_lexer.specs.Walking.{IsKind, IsTokenStep, HasToken, Steps, IsWalked}
use Rattle.clc_lexer.specs.declared.token.Tok.{Tok}
use Rattle.clc_lexer.specs.declared.token.Tok.TheVariants.{Mark as MarkTok}
use Rattle.clc_lexer.specs.declared.token.Token.{Token}
use Rattle.clc_lexer.specs.declared.token.LexFault.{LexFault}
use Rattle.clc_lexer.specs.declared.token.LexFault.TheVariants.{Rule, Memory}
use Rattle.clc_lexer.specs.declared.lexing.Step.{Step}
use Rattle.clc_lexer.specs.declared.scanning.Found.TheVariants.{Run, Mark}
use Rattle.clc_lexer.specs.declared.marks.Mark.{Mark as MarkType}
use Rattle.clc_lexer.proofs.RunKinds.{run_says, run_breaks}

-- ---- one piece

has_token : (at to : ℕ) (text : List ℕ) (kind : Tok) (token : Option Token) → token ≡ Some (record { kind = kind; from = at; to = to }) → to ≡ at + length text → Says text kind → HasToken at (Text text) token
has_token at to text kind token e len s = subst (HasToken at (Text text)) (sym e) (refl, len, s)

pub run_steps : (bytes : List ℕ) (n at to : ℕ) (kind : Tok) (step : Step) → IsFound bytes (Run n) → run_kind (take n bytes) ≡ Is kind → to ≡ at + n → IsTokenStep kind at to step → Steps bytes at (Ok step)
run_steps bytes n at to kind step (text, after, e, i, r, len) k t s =
    let front : take n bytes ≡ text = ap (λ z. take z bytes) (sym len) ∙ ap (take (length text)) e ∙ take-append_seam text after in
    (Text text, after, e, i, s.0 ∙ t ∙ ap (λ z. at + z) (sym len), has_token at to text kind step.token s.1 (t ∙ ap (λ z. at + z) (sym len)) (run_says text kind r (ap run_kind (sym front) ∙ k)))

pub run_stops : (bytes : List ℕ) (n at : ℕ) (fault : LexFault) → IsFound bytes (Run n) → IsKind (run_kind (take n bytes)) at (Err fault) → Steps bytes at (Err fault)
run_stops bytes n at Memory f k = tt
run_stops bytes n at (Rule rule place) (text, after, e, i, r, len) k =
    let front : take n bytes ≡ text = ap (λ z. take z bytes) (sym len) ∙ ap (take (length text)) e ∙ take-append_seam text after in
    (k.1, run_breaks bytes text after rule e i r (ap run_kind (sym front) ∙ k.0))

pub mark_steps : (bytes : List ℕ) (mark : MarkType) (at to : ℕ) (step : Step) → IsFound bytes (Mark mark) → to ≡ at + length (mark_spelling mark) → IsTokenStep (MarkTok mark) at to step → Steps bytes at (Ok step)
mark_steps bytes mark at to step (after, e, i) t s = (Text (mark_spelling mark), after, e, i, s.0 ∙ t, has_token at to (mark_spelling mark) (MarkTok mark) step.token s.1 t refl)

-- ---- the pieces so far

abbrev pub sizes : List Piece → ℕ
sizes [] = 0
sizes (p ∷ ps) = length (bytes_of p) + sizes ps

pub split_size : (ps : List Piece) (source rest : List ℕ) → IsSplit ps source rest → sizes ps + length rest ≡ length source
split_size [] source rest s = let e = ap length s in omega (arith, e)
split_size (p ∷ ps) source rest (after, e, i, s) = omega (arith, ap length e, length-append (bytes_of p) after, split_size ps after rest s)

pub split_more : (ps : List Piece) (source mid after : List ℕ) (p : Piece) → IsSplit ps source mid → mid ≡ bytes_of p ++ after → IsPiece p after → IsSplit (ps ++ p ∷ []) source after
split_more [] source mid after p s e i = (after, s ∙ e, i, refl)
split_more (q ∷ ps) source mid after p (x, a, b, c) e i = (x, a, b, split_more ps x mid after p c e i)

pub some_bytes : (p : Piece) (after : List ℕ) → IsPiece p after → 0 < length (bytes_of p)
some_bytes (Space b) after h = omega arith
some_bytes (LineComment body) after h = omega arith
some_bytes (BlockComment body) after h = omega arith
some_bytes (Text []) after h = absurd (cc (h.0))
some_bytes (Text (b ∷ bs)) after h = omega arith

token_last : (at : ℕ) (p : Piece) (t : Token) → HasToken at p (Some t) → AreTokens at (p ∷ []) (t ∷ [])
token_last at (Space b) t h = absurd h
token_last at (LineComment body) t h = absurd h
token_last at (BlockComment body) t h = absurd h
token_last at (Text bytes) t (a, b, c) = (a, b, c, tt)

tokens_more : (at : ℕ) (ps : List Piece) (ts : List Token) (p : Piece) (t : Token) → AreTokens at ps ts → HasToken (at + sizes ps) p (Some t) → AreTokens at (ps ++ p ∷ []) (ts ++ t ∷ [])
tokens_more at [] [] p t a h = let same : at + 0 ≡ at = omega arith in token_last at p t (subst (λ z. HasToken z p (Some t)) same h)
tokens_more at [] (u ∷ ts) p t a h = absurd a
tokens_more at (Space b ∷ ps) ts p t a h =
    let same : at + sizes (Space b ∷ ps) ≡ (at + 1) + sizes ps = omega arith in tokens_more (at + 1) ps ts p t a (subst (λ z. HasToken z p (Some t)) same h)
tokens_more at (LineComment body ∷ ps) ts p t a h =
    let n = length (bytes_of (LineComment body)) in
    let same : at + (n + sizes ps) ≡ (at + n) + sizes ps = omega arith in tokens_more (at + n) ps ts p t a (subst (λ z. HasToken z p (Some t)) same h)
tokens_more at (BlockComment body ∷ ps) ts p t a h =
    let n = length (bytes_of (BlockComment body)) in
    let same : at + (n + sizes ps) ≡ (at + n) + sizes ps = omega arith in tokens_more (at + n) ps ts p t a (subst (λ z. HasToken z p (Some t)) same h)
tokens_more at (Text bytes ∷ ps) [] p t a h = absurd a
tokens_more at (Text bytes ∷ ps) (u ∷ ts) p t (x, y, z, a) h =
    let n = length bytes in
    let same : at + (n + sizes ps) ≡ (at + n) + sizes ps = omega arith in (x, y, z, tokens_more (at + n) ps ts p t a (subst (λ k. HasToken k p (Some t)) same h))

blank_last : (at : ℕ) (p : Piece) → IsBlank p → AreTokens at (p ∷ []) []
blank_last at (Space b) h = tt
blank_last at (LineComment body) h = tt
blank_last at (BlockComment body) h = tt
blank_last at (Text bytes) h = absurd h

tokens_blank : (at : ℕ) (ps : List Piece) (ts : List Token) (p : Piece) → AreTokens at ps ts → IsBlank p → AreTokens at (ps ++ p ∷ []) ts
tokens_blank at [] [] p a h = blank_last at p h
tokens_blank at [] (u ∷ ts) p a h = absurd a
tokens_blank at (Space b ∷ ps) ts p a h = tokens_blank (at + 1) ps ts p a h
tokens_blank at (LineComment body ∷ ps) ts p a h = tokens_blank (at + length (bytes_of (LineComment body))) ps ts p a h
tokens_blank at (BlockComment body ∷ ps) ts p a h = tokens_blank (at + length (bytes_of (BlockComment body))) ps ts p a h
tokens_blank at (Text bytes ∷ ps) [] p a h = absurd a
tokens_blank at (Text bytes ∷ ps) (u ∷ ts) p (x, y, z, a) h = (x, y, z, tokens_blank (at + length bytes) ps ts p a h)

-- ---- one piece further on

abbrev Further : List ℕ → ℕ → ℕ → (List Piece → Type 0) → Type 0
Further source at end P = (at < end) × (end ≤ length source) × ((ps : List Piece) × (IsSplit ps source (drop end source) × P ps))

further : (source : List ℕ) (at : ℕ) (ps : List Piece) (p : Piece) (after : List ℕ) (end : ℕ) (P : List Piece → Type 0)
    → at ≤ length source → IsSplit ps source (drop at source) → drop at source ≡ bytes_of p ++ after → IsPiece p after → end ≡ at + length (bytes_of p)
    → P (ps ++ p ∷ []) → Further source at end P
further source at ps p after end P le s e i len h =
    let front = take at source ++ bytes_of p in
    let whole : source ≡ front ++ after = sym (take-append-drop at source) ∙ ap (λ z. take at source ++ z) e ∙ sym (append_assoc (take at source) (bytes_of p) after) in
    let size : length front ≡ end = omega (arith, length-append (take at source) (bytes_of p), length-take at source, len, le) in
    let there : drop end source ≡ after = ap (λ k. drop k source) (sym size) ∙ ap (drop (length front)) whole ∙ drop-append_seam front after in (
      omega (arith, some_bytes p after i, len),
      omega (arith, ap length whole, length-append front after, size),
      (ps ++ p ∷ [], (subst (IsSplit (ps ++ p ∷ []) source) (sym there) (split_more ps source (drop at source) after p s e i), h)),
    )

offset_is : (source : List ℕ) (at : ℕ) (ps : List Piece) → at ≤ length source → IsSplit ps source (drop at source) → sizes ps ≡ at
offset_is source at ps le s = omega (arith, split_size ps source (drop at source) s, length-drop at source, le)

pub walk_token : (source : List ℕ) (at : ℕ) (tokens : List Token) (step : Step) (t : Token) → IsWalked source at tokens → Steps (drop at source) at (Ok step) → step.token ≡ Some t
    → (at < step.end) × IsWalked source step.end (tokens ++ t ∷ [])
walk_token source at tokens step t (le, (ps, (s, a))) (p, after, e, i, len, h) is =
    let here : HasToken (0 + sizes ps) p (Some t) = subst (λ k. HasToken k p (Some t)) (let same : at ≡ 0 + sizes ps = omega (arith, offset_is source at ps le s) in same) (subst (HasToken at p) is h) in
    let f = further source at ps p after step.end (λ z. AreTokens 0 z (tokens ++ t ∷ [])) le s e i len (tokens_more 0 ps tokens p t a here) in
    (f.0, (f.1, f.2))

pub walk_blank : (source : List ℕ) (at : ℕ) (tokens : List Token) (step : Step) → IsWalked source at tokens → Steps (drop at source) at (Ok step) → step.token ≡ None
    → (at < step.end) × IsWalked source step.end tokens
walk_blank source at tokens step (le, (ps, (s, a))) (p, after, e, i, len, h) is =
    let blank : IsBlank p = subst (HasToken at p) is h in
    let f = further source at ps p after step.end (λ z. AreTokens 0 z tokens) le s e i len (tokens_blank 0 ps tokens p a blank) in
    (f.0, (f.1, f.2))
