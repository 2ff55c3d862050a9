-- Up to a fault there is none, and where a source has tokens there is none at all.
use Rattle.std.proofs.Common.{◌≡◌, ◌⊎◌, inl, inr, ℕ, suc, ◌+◌, ◌<◌, ◌≤◌, true, List, [], ◌∷◌, ◌++◌, refl, sym, ap, ◌∙◌, subst, arith, length, length-append, length-drop, drop, append_assoc, Result, Ok, Err, IfOk}
use Rattle.clc_lexer.specs.Characters.{is_space}
use Rattle.clc_lexer.specs.SourceText.{Piece, Space, LineComment, BlockComment, Text, bytes_of, opens_comment, IsPiece, IsSplit, Says, AreTokens, IsLexed, IsStray, IsOpen, Violates, IsFault, ComesFirst, IsFirstFault, HasNoFault}
use Rattle.clc_lexer.specs.Reading.{Kind, Is, Breaks}
use Rattle.clc_lexer.specs.Walking.{IsStop}
use Rattle.clc_lexer.specs.declared.token.Tok.{Tok}
use Rattle.clc_lexer.specs.declared.token.Token.{Token}
use Rattle.clc_lexer.specs.declared.token.LexRule.{LexRule}
use Rattle.clc_lexer.specs.declared.token.LexRule.TheVariants.{L1, L2, L3, L4, L5}
use Rattle.clc_lexer.specs.declared.token.LexFault.{LexFault}
use Rattle.clc_lexer.specs.declared.token.LexFault.TheVariants.{Rule, Memory}
use Rattle.clc_lexer.proofs.OnePiece.{true_false, one_piece, one_after}
use Rattle.clc_lexer.proofs.Walks.{sizes, split_size, some_bytes}
use Rattle.clc_lexer.proofs.Sayings.{tok_of, said_is_read, no_number_breaks, is_l5, left_out_breaks}

abbrev head_of : List ℕ → ℕ
head_of [] = 0
head_of (b ∷ bs) = b

abbrev tail_of : List ℕ → List ℕ
tail_of [] = []
tail_of (b ∷ bs) = bs

apart : ◌≡◌ {A = ℕ} 47 42 → ⊥
apart h = omega arith

-- a token says something
abbrev IsClean : Piece → Type 0
IsClean (Text bytes) = (t : Tok) × Says bytes t
IsClean p = Unit {0}

-- ---- no rule is violated where a clean piece stands

stray_piece : (p : Piece) (after : List ℕ) (bytes : List ℕ) → IsPiece p after → bytes ≡ bytes_of p ++ after → IsStray bytes → ⊥
stray_piece p after [] h e s = s
stray_piece (Space c) after (b ∷ bs) h e (x, y, z) = true_false (sym h ∙ ap is_space (sym (ap head_of e)) ∙ x)
stray_piece (LineComment body) after (b ∷ bs) h e (x, y, z) = true_false (sym (ap opens_comment e) ∙ y)
stray_piece (BlockComment body) after (b ∷ bs) h e (x, y, z) = true_false (sym (ap opens_comment e) ∙ y)
stray_piece (Text text) after (b ∷ bs) h e (x, y, z) = z text after e h.0

open_piece : (p : Piece) (after : List ℕ) (bytes : List ℕ) → IsPiece p after → bytes ≡ bytes_of p ++ after → IsOpen bytes → ⊥
open_piece (Space c) after bytes h e (body, f, n) = true_false (sym h ∙ ap is_space (ap head_of (sym e ∙ f)))
open_piece (LineComment l) after bytes h e (body, f, n) = apart (ap (λ z. head_of (tail_of z)) (sym e ∙ f))
open_piece (BlockComment l) after bytes h e (body, f, n) =
    n (l, after, ap (λ z. tail_of (tail_of z)) (sym f ∙ e) ∙ append_assoc l (42 ∷ 47 ∷ []) after)
open_piece (Text text) after bytes h e (body, f, n) = true_false (sym (ap opens_comment (sym e ∙ f)) ∙ h.1)

number_says_none : (text : List ℕ) (t : Tok) → Says text t → tok_of text ≡ Breaks L3 → ⊥
number_says_none text t s h = by t (sym (said_is_read text t s) ∙ h)
  where
    by : (t : Tok) → ◌≡◌ {A = Kind} (Is t) (Breaks L3) → ⊥
    by t h = cc

left_out_says_none : (text : List ℕ) (t : Tok) → Says text t → is_l5 (tok_of text) ≡ true → ⊥
left_out_says_none text t s h = true_false (sym h ∙ ap is_l5 (said_is_read text t s))

-- the piece at a place at which a token stands
text_here : (p : Piece) (after text rest bytes : List ℕ) → IsPiece p after → IsClean p → bytes ≡ bytes_of p ++ after → bytes ≡ text ++ rest → IsPiece (Text text) rest → (t : Tok) × Says text t
text_here p after text rest bytes h c e f i = subst IsClean (one_piece p (Text text) after rest h i (sym e ∙ f)) c

pub no_violation : (p : Piece) (after bytes : List ℕ) (r : LexRule) → IsPiece p after → IsClean p → bytes ≡ bytes_of p ++ after → Violates r bytes → ⊥
no_violation p after bytes L1 h c e v = v
no_violation p after bytes L2 h c e v = stray_piece p after bytes h e v
no_violation p after bytes L3 h c e (text, (rest, f, i), run, d, none) =
    let s = text_here p after text rest bytes h c e f i in number_says_none text s.0 s.1 (no_number_breaks text d none)
no_violation p after bytes L4 h c e v = open_piece p after bytes h e v
no_violation p after bytes L5 h c e (text, (rest, f, i), a) =
    let s = text_here p after text rest bytes h c e f i in left_out_says_none text s.0 s.1 (left_out_breaks text a)

-- ---- no fault stands before a place up to which there are tokens

clean_first : (at : ℕ) (p : Piece) (ps : List Piece) (ts : List Token) → AreTokens at (p ∷ ps) ts → IsClean p × ((ts' : List Token) × AreTokens (at + length (bytes_of p)) ps ts')
clean_first at (Space b) ps ts a = (tt, (ts, a))
clean_first at (LineComment body) ps ts a = (tt, (ts, a))
clean_first at (BlockComment body) ps ts a = (tt, (ts, a))
clean_first at (Text bytes) ps [] a = absurd a
clean_first at (Text bytes) ps (t ∷ ts) (x, y, z, a) = ((t.kind, z), (ts, a))

pub no_earlier : (at : ℕ) (ps qs : List Piece) (ts : List Token) (source rest there : List ℕ) (r : LexRule)
    → IsSplit ps source rest → AreTokens at ps ts → IsSplit qs source there → Violates r there → sizes ps ≤ sizes qs
no_earlier at [] qs ts source rest there r s a t v = omega arith
no_earlier at (p ∷ ps) [] ts source rest there r (after, e, i, s) a t v =
    absurd (no_violation p after there r i (clean_first at p ps ts a).0 (sym t ∙ e) v)
no_earlier at (p ∷ ps) (q ∷ qs) ts source rest there r (after, e, i, s) a (next, f, j, t) v =
    let same : p ≡ q = one_piece p q after next i j (sym e ∙ f) in
    let here : after ≡ next = one_after p q after next same (sym e ∙ f) in
    let c = clean_first at p ps ts a in
    let le = no_earlier (at + length (bytes_of p)) ps qs c.1.0 next rest there r (subst (λ z. IsSplit ps z rest) here s) c.1.1 t v in
    let size = ap (λ z. length (bytes_of z)) same in
    omega (arith, le, size)

violates_somewhere : (r : LexRule) (bytes : List ℕ) → Violates r bytes → 0 < length bytes
violates_somewhere L1 bytes v = absurd v
violates_somewhere L2 [] v = absurd v
violates_somewhere L2 (b ∷ bs) v = omega arith
violates_somewhere L3 bytes (text, (rest, f, i), run, d, none) = some_text text rest bytes f i
  where
    some_text : (text rest bytes : List ℕ) → bytes ≡ text ++ rest → IsPiece (Text text) rest → 0 < length bytes
    some_text text rest bytes f i = omega (arith, ap length f, length-append text rest, some_bytes (Text text) rest i)
violates_somewhere L4 bytes (body, f, n) = omega (arith, ap length f)
violates_somewhere L5 bytes (text, (rest, f, i), a) = omega (arith, ap length f, length-append text rest, some_bytes (Text text) rest i)

-- the faults but for L1
abbrev Placed : List ℕ → LexRule → ℕ → Type 0
Placed source rule at = (ps : List Piece) × (rest : List ℕ) × IsSplit ps source rest × Violates rule rest × (at + length rest ≡ length source)

placed_after : (source : List ℕ) (at : ℕ) (ps : List Piece) (tokens : List Token) (rest : List ℕ) (r : LexRule) (place : ℕ)
    → IsSplit ps source rest → AreTokens 0 ps tokens → at + length rest ≡ length source → Placed source r place → at ≤ place
placed_after source at ps tokens rest r place s a e (qs, there, t, v, f) =
    let le = no_earlier 0 ps qs tokens source rest there r s a t v in
    omega (arith, le, e, f, split_size ps source rest s, split_size qs source there t)

not_long : (source : List ℕ) → length source ≤ 65536 → 65536 < length source → ⊥
not_long source le lt = omega (arith, le, lt)

fault_after : (source : List ℕ) (at : ℕ) (ps : List Piece) (tokens : List Token) (rest : List ℕ) (r : LexRule) (place : ℕ)
    → length source ≤ 65536 → IsSplit ps source rest → AreTokens 0 ps tokens → at + length rest ≡ length source → IsFault source r place → at ≤ place
fault_after source at ps tokens rest L1 place short s a e f = absurd (not_long source short f.0)
fault_after source at ps tokens rest L2 place short s a e f = placed_after source at ps tokens rest L2 place s a e f
fault_after source at ps tokens rest L3 place short s a e f = placed_after source at ps tokens rest L3 place s a e f
fault_after source at ps tokens rest L4 place short s a e f = placed_after source at ps tokens rest L4 place s a e f
fault_after source at ps tokens rest L5 place short s a e f = placed_after source at ps tokens rest L5 place s a e f

place_within : (source : List ℕ) (r : LexRule) (place : ℕ) → Placed source r place → place < length source
place_within source r place (qs, there, t, v, f) = omega (arith, f, violates_somewhere r there v)

pub lexed_is_lawful : (source : List ℕ) (tokens : List Token) → length source ≤ 65536 → IsLexed source tokens → HasNoFault source
lexed_is_lawful source tokens short (ps, (s, a)) rule place f = by rule f
  where
    after : (r : LexRule) → Placed source r place → ⊥
    after r g =
        let all : length source + length {A = ℕ} [] ≡ length source = omega arith in
        let le = placed_after source (length source) ps tokens [] r place s a all g in
        let lt = place_within source r place g in
        omega (arith, le, lt)

    by : (r : LexRule) → IsFault source r place → ⊥
    by L1 g = not_long source short g.0
    by L2 g = after L2 g
    by L3 g = after L3 g
    by L4 g = after L4 g
    by L5 g = after L5 g

-- ---- the fault at which the walk stops is the first

first_at : (source : List ℕ) (rule : LexRule) (at : ℕ) → length source ≤ 65536 → IsFault source rule at → ((r : LexRule) (place : ℕ) → IsFault source r place → at ≤ place)
    → (r : LexRule) (place : ℕ) → IsFault source r place → ComesFirst rule at r place
first_at source L1 at short f g r place h = tt
first_at source rule at short f g L1 place h = absurd (not_long source short h.0)
first_at source L2 at short f g L2 place h = g L2 place h
first_at source L2 at short f g L3 place h = g L3 place h
first_at source L2 at short f g L4 place h = g L4 place h
first_at source L2 at short f g L5 place h = g L5 place h
first_at source L3 at short f g L2 place h = g L2 place h
first_at source L3 at short f g L3 place h = g L3 place h
first_at source L3 at short f g L4 place h = g L4 place h
first_at source L3 at short f g L5 place h = g L5 place h
first_at source L4 at short f g L2 place h = g L2 place h
first_at source L4 at short f g L3 place h = g L3 place h
first_at source L4 at short f g L4 place h = g L4 place h
first_at source L4 at short f g L5 place h = g L5 place h
first_at source L5 at short f g L2 place h = g L2 place h
first_at source L5 at short f g L3 place h = g L3 place h
first_at source L5 at short f g L4 place h = g L4 place h
first_at source L5 at short f g L5 place h = g L5 place h

fault_at : (source : List ℕ) (rule : LexRule) (at : ℕ) → (rule ≡ L1 → ⊥) → Placed source rule at → IsFault source rule at
fault_at source L1 at n p = absurd (n refl)
fault_at source L2 at n p = p
fault_at source L3 at n p = p
fault_at source L4 at n p = p
fault_at source L5 at n p = p

pub stop_is_first : (source : List ℕ) (rule : LexRule) (at : ℕ) → length source ≤ 65536 → IsStop source rule at → IsFirstFault source rule at
stop_is_first source rule at short (tokens, (le, (ps, (s, a))), v) =
    let e : at + length (drop at source) ≡ length source = omega (arith, le, length-drop at source) in
    let f = fault_at source rule at (λ h. subst (λ r. Violates r (drop at source)) h v) (ps, drop at source, s, v, e) in
    (f, first_at source rule at short f (λ r place g. fault_after source at ps tokens (drop at source) r place short s a e g))

pub long_is_first : (source : List ℕ) → 65536 < length source → IsFirstFault source L1 65536
long_is_first source lt = ((lt, refl), λ r place h. tt)

-- ---- there is one first fault

split_drop : (ps : List Piece) (source rest : List ℕ) → IsSplit ps source rest → drop (sizes ps) source ≡ rest
split_drop [] source rest s = s
split_drop (p ∷ ps) source rest (after, e, i, s) =
    ap (drop (length (bytes_of p) + sizes ps)) e ∙ drop_both (bytes_of p) (sizes ps) after ∙ split_drop ps after rest s
  where
    drop_both : (xs : List ℕ) (n : ℕ) (ys : List ℕ) → drop (length xs + n) (xs ++ ys) ≡ drop n ys
    drop_both [] n ys = ap (λ k. drop k ys) (let z : 0 + n ≡ n = omega arith in z)
    drop_both (x ∷ xs) n ys = ap (λ k. drop k (x ∷ (xs ++ ys))) (let z : suc (length xs) + n ≡ suc (length xs + n) = omega arith in z) ∙ drop_both xs n ys

same_text : (t u : List ℕ) → ◌≡◌ {A = Piece} (Text t) (Text u) → t ≡ u
same_text t u h = ap text_in h
  where
    text_in : Piece → List ℕ
    text_in (Space b) = []
    text_in (LineComment body) = []
    text_in (BlockComment body) = []
    text_in (Text bytes) = bytes

not_l5 : is_l5 (Breaks L3) ≡ true → ⊥
not_l5 h = true_false (sym h)

-- a text that is no number is no left-out word
apart_3_5 : (bytes text rest other more : List ℕ) → bytes ≡ text ++ rest → IsPiece (Text text) rest → bytes ≡ other ++ more → IsPiece (Text other) more
    → tok_of text ≡ Breaks L3 → is_l5 (tok_of other) ≡ true → ⊥
apart_3_5 bytes text rest other more e i f j h k =
    let same : text ≡ other = same_text text other (one_piece (Text text) (Text other) rest more i j (sym e ∙ f)) in
    not_l5 (ap is_l5 (sym h ∙ ap tok_of same) ∙ k)

one_rule : (r s : LexRule) (bytes : List ℕ) → Violates r bytes → Violates s bytes → r ≡ s
one_rule L1 s bytes v w = absurd v
one_rule r L1 bytes v w = absurd w
one_rule L2 L2 bytes v w = refl
one_rule L2 L3 bytes v (text, (rest, f, i), run, d, none) = absurd (stray_piece (Text text) rest bytes i f v)
one_rule L2 L4 bytes v w = absurd (stray_open bytes v w)
  where
    stray_open : (bytes : List ℕ) → IsStray bytes → IsOpen bytes → ⊥
    stray_open [] s o = s
    stray_open (b ∷ bs) (x, y, z) (body, f, n) = true_false (sym (ap opens_comment f) ∙ y)
one_rule L2 L5 bytes v (text, (rest, f, i), a) = absurd (stray_piece (Text text) rest bytes i f v)
one_rule L3 L2 bytes (text, (rest, f, i), run, d, none) w = absurd (stray_piece (Text text) rest bytes i f w)
one_rule L3 L3 bytes v w = refl
one_rule L3 L4 bytes (text, (rest, f, i), run, d, none) w = absurd (open_piece (Text text) rest bytes i f w)
one_rule L3 L5 bytes (text, (rest, f, i), run, d, none) (other, (more, g, j), a) =
    absurd (apart_3_5 bytes text rest other more f i g j (no_number_breaks text d none) (left_out_breaks other a))
one_rule L4 L2 bytes v w = absurd (stray_open bytes w v)
  where
    stray_open : (bytes : List ℕ) → IsStray bytes → IsOpen bytes → ⊥
    stray_open [] s o = s
    stray_open (b ∷ bs) (x, y, z) (body, f, n) = true_false (sym (ap opens_comment f) ∙ y)
one_rule L4 L3 bytes v (text, (rest, f, i), run, d, none) = absurd (open_piece (Text text) rest bytes i f v)
one_rule L4 L4 bytes v w = refl
one_rule L4 L5 bytes v (text, (rest, f, i), a) = absurd (open_piece (Text text) rest bytes i f v)
one_rule L5 L2 bytes (text, (rest, f, i), a) w = absurd (stray_piece (Text text) rest bytes i f w)
one_rule L5 L3 bytes (other, (more, g, j), a) (text, (rest, f, i), run, d, none) =
    absurd (apart_3_5 bytes text rest other more f i g j (no_number_breaks text d none) (left_out_breaks other a))
one_rule L5 L4 bytes (text, (rest, f, i), a) w = absurd (open_piece (Text text) rest bytes i f w)
one_rule L5 L5 bytes v w = refl

Same : LexRule → ℕ → LexRule → ℕ → Type 0
Same r at s place = (r ≡ s) × (at ≡ place)

one_placed : (source : List ℕ) (r s : LexRule) (at place : ℕ) → Placed source r at → Placed source s place → at ≤ place → place ≤ at → Same r at s place
unfolding Same
one_placed source r s at place (ps, rest, t, v, e) (qs, there, u, w, f) le ge =
    let same : at ≡ place = omega (arith, le, ge) in
    let size : sizes ps ≡ sizes qs = omega (arith, same, e, f, split_size ps source rest t, split_size qs source there u) in
    let here : there ≡ rest = sym (split_drop qs source there u) ∙ ap (λ k. drop k source) (sym size) ∙ split_drop ps source rest t in
    (one_rule r s rest v (subst (Violates s) here w), same)

one_first_at : (source : List ℕ) (r s : LexRule) (at place : ℕ) → IsFault source r at → IsFault source s place → ComesFirst r at s place → ComesFirst s place r at → Same r at s place
unfolding Same
one_first_at source L1 L1 at place f g x y = (refl, f.1 ∙ sym g.1)
one_first_at source L1 L2 at place f g x y = absurd y
one_first_at source L1 L3 at place f g x y = absurd y
one_first_at source L1 L4 at place f g x y = absurd y
one_first_at source L1 L5 at place f g x y = absurd y
one_first_at source L2 L1 at place f g x y = absurd x
one_first_at source L3 L1 at place f g x y = absurd x
one_first_at source L4 L1 at place f g x y = absurd x
one_first_at source L5 L1 at place f g x y = absurd x
one_first_at source L2 L2 at place f g x y = one_placed source L2 L2 at place f g x y
one_first_at source L2 L3 at place f g x y = one_placed source L2 L3 at place f g x y
one_first_at source L2 L4 at place f g x y = one_placed source L2 L4 at place f g x y
one_first_at source L2 L5 at place f g x y = one_placed source L2 L5 at place f g x y
one_first_at source L3 L2 at place f g x y = one_placed source L3 L2 at place f g x y
one_first_at source L3 L3 at place f g x y = one_placed source L3 L3 at place f g x y
one_first_at source L3 L4 at place f g x y = one_placed source L3 L4 at place f g x y
one_first_at source L3 L5 at place f g x y = one_placed source L3 L5 at place f g x y
one_first_at source L4 L2 at place f g x y = one_placed source L4 L2 at place f g x y
one_first_at source L4 L3 at place f g x y = one_placed source L4 L3 at place f g x y
one_first_at source L4 L4 at place f g x y = one_placed source L4 L4 at place f g x y
one_first_at source L4 L5 at place f g x y = one_placed source L4 L5 at place f g x y
one_first_at source L5 L2 at place f g x y = one_placed source L5 L2 at place f g x y
one_first_at source L5 L3 at place f g x y = one_placed source L5 L3 at place f g x y
one_first_at source L5 L4 at place f g x y = one_placed source L5 L4 at place f g x y
one_first_at source L5 L5 at place f g x y = one_placed source L5 L5 at place f g x y

pub one_first : (source : List ℕ) (r s : LexRule) (at place : ℕ) → IsFirstFault source r at → IsFirstFault source s place → (r ≡ s) × (at ≡ place)
unfolding Same
one_first source r s at place f g = one_first_at source r s at place f.0 g.0 (f.1 s place g.0) (g.1 r at f.0)

-- an answer that is right where there are tokens and where there is a fault is the only one, but for want of memory
pub only_answer : {T : Type 0} (source : List ℕ) (result : Result T LexFault) → IfOk result (λ tokens. HasNoFault source)
    → ((r : LexRule) (at : ℕ) → result ≡ Err (Rule r at) → IsFirstFault source r at)
    → (r : LexRule) (at : ℕ) → IsFirstFault source r at → (result ≡ Err (Rule r at)) ⊎ (result ≡ Err Memory)
only_answer source (Ok tokens) lawful fault r at f = absurd (lawful r at f.0)
only_answer source (Err Memory) lawful fault r at f = inr refl
only_answer source (Err (Rule s place)) lawful fault r at f =
    let same = one_first source s r place at (fault s place refl) f in
    inl (ap (λ z. Err (Rule z place)) same.0 ∙ ap (λ z. Err (Rule r z)) same.1)

same_fault : {T : Type 0} (a b : LexRule) (k l : ℕ) → ◌≡◌ {A = Result T LexFault} (Err (Rule a k)) (Err (Rule b l)) → (a ≡ b) × (k ≡ l)
same_fault a b k l h = (cc, cc)

pub long_fault : {T : Type 0} (source : List ℕ) → 65536 < length source → (r : LexRule) (at : ℕ) → ◌≡◌ {A = Result T LexFault} (Err (Rule L1 65536)) (Err (Rule r at)) → IsFirstFault source r at
long_fault source lt r at h =
    let same = same_fault L1 r 65536 at h in
    subst (λ z. IsFirstFault source z at) same.0 (subst (IsFirstFault source L1) same.1 (long_is_first source lt))

pub fault_within : (source : List ℕ) (rule : LexRule) (at : ℕ) → IsFirstFault source rule at → at < length source
fault_within source L1 at f = omega (arith, f.0.0, f.0.1)
fault_within source L2 at f = place_within source L2 at f.0
fault_within source L3 at f = place_within source L3 at f.0
fault_within source L4 at f = place_within source L4 at f.0
fault_within source L5 at f = place_within source L5 at f.0
