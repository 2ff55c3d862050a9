-- At one place there is one piece.
use Rattle.std.proofs.Common.{◌≡◌, ◌⊎◌, inl, inr, ℕ, Bool, true, false, ◌||◌, eqb, List, [], ◌∷◌, ◌++◌, refl, sym, ap, ◌∙◌, subst, arith, append_assoc, append-nil}
use Rattle.std.proofs.lemmas.Bool.{eqb-true}
use Rattle.clc_lexer.specs.Characters.{is_space, is_token}
use Rattle.clc_lexer.specs.SourceText.{Piece, Space, LineComment, BlockComment, Text, bytes_of, opens_comment, has_newline, at_line_end, Closes, IsLongest, IsPiece, IsSplit}

abbrev head_of : List ℕ → ℕ
head_of [] = 0
head_of (b ∷ bs) = b

abbrev tail_of : List ℕ → List ℕ
tail_of [] = []
tail_of (b ∷ bs) = bs

pub true_false : ◌≡◌ {A = Bool} true false → ⊥
true_false h = cc

apart : ◌≡◌ {A = ℕ} 47 42 → ⊥
apart h = omega arith

-- ---- white space

space_at : (b : ℕ) (bs : List ℕ) (k : ℕ) → b ≡ k → is_token (k ∷ bs) ≡ false → is_token (b ∷ bs) ≡ false
space_at b bs k e h = ap (λ z. is_token (z ∷ bs)) e ∙ h

pub space_no_token : (b : ℕ) (bs : List ℕ) → is_space b ≡ true → is_token (b ∷ bs) ≡ false
space_no_token b bs h = by (eqb b 9) (eqb b 10) (eqb b 13) (eqb b 32) refl refl refl refl h
  where
    by : (v w x y : Bool) → eqb b 9 ≡ v → eqb b 10 ≡ w → eqb b 13 ≡ x → eqb b 32 ≡ y → (v || w || x || y) ≡ true → is_token (b ∷ bs) ≡ false
    by true w x y e f g i h = space_at b bs 9 (eqb-true b 9 e) refl
    by false true x y e f g i h = space_at b bs 10 (eqb-true b 10 f) refl
    by false false true y e f g i h = space_at b bs 13 (eqb-true b 13 g) refl
    by false false false true e f g i h = space_at b bs 32 (eqb-true b 32 i) refl
    by false false false false e f g i h = absurd (cc)

space_is_no_slash : (b : ℕ) → is_space b ≡ true → b ≡ 47 → ⊥
space_is_no_slash b h e = true_false (sym h ∙ ap is_space e)

space_text : (b : ℕ) (after text rest : List ℕ) → is_space b ≡ true → is_token text ≡ true → b ∷ after ≡ text ++ rest → ⊥
space_text b after [] rest s t e = true_false (sym t)
space_text b after (c ∷ cs) rest s t e =
    let first : b ≡ c = ap head_of e in
    true_false (sym t ∙ ap (λ z. is_token (z ∷ cs)) (sym first) ∙ space_no_token b cs s)

-- ---- comments

one_line : (l m after rest : List ℕ) → has_newline l ≡ false → has_newline m ≡ false → at_line_end after ≡ true → at_line_end rest ≡ true → l ++ after ≡ m ++ rest → l ≡ m
one_line [] [] after rest p q x y e = refl
one_line [] (c ∷ m) after rest p q x y e = absurd (by (eqb c 10) (sym (ap at_line_end e) ∙ x) q)
  where
    by : (v : Bool) → v ≡ true → (v || has_newline m) ≡ false → ⊥
    by true f g = true_false g
    by false f g = true_false (sym f)
one_line (b ∷ l) [] after rest p q x y e = absurd (by (eqb b 10) (ap at_line_end e ∙ y) p)
  where
    by : (v : Bool) → v ≡ true → (v || has_newline l) ≡ false → ⊥
    by true f g = true_false g
    by false f g = true_false (sym f)
one_line (b ∷ l) (c ∷ m) after rest p q x y e =
    let first : b ≡ c = ap head_of e in
    let others = one_line l m after rest (rest_of (eqb b 10) (has_newline l) p) (rest_of (eqb c 10) (has_newline m) q) x y (ap tail_of e) in
    ap (λ z. z ∷ l) first ∙ ap (λ z. c ∷ z) others
  where
    rest_of : (v w : Bool) → (v || w) ≡ false → w ≡ false
    rest_of true w h = absurd (true_false h)
    rest_of false w h = h

closes_more : (b : ℕ) (bs : List ℕ) → Closes bs → Closes (b ∷ bs)
closes_more b bs (front, rest, e) = (b ∷ front, rest, ap (λ z. b ∷ z) e)

-- a comment can't end within another one's body
early : (c : ℕ) (m after rest : List ℕ) → 42 ∷ 47 ∷ after ≡ (c ∷ m) ++ (42 ∷ 47 ∷ rest) → Closes ((c ∷ m) ++ 42 ∷ [])
early c [] after rest e = absurd (apart (ap (λ z. head_of (tail_of z)) e))
early c (d ∷ m) after rest e =
    let first : 42 ≡ c = ap head_of e in
    let second : 47 ≡ d = ap (λ z. head_of (tail_of z)) e in
    ([], m ++ 42 ∷ [], ap (λ z. z ∷ d ∷ (m ++ 42 ∷ [])) (sym first) ∙ ap (λ z. 42 ∷ z ∷ (m ++ 42 ∷ [])) (sym second))

one_block : (l m after rest : List ℕ) → (Closes (l ++ 42 ∷ []) → ⊥) → (Closes (m ++ 42 ∷ []) → ⊥) → l ++ (42 ∷ 47 ∷ after) ≡ m ++ (42 ∷ 47 ∷ rest) → l ≡ m
one_block [] [] after rest p q e = refl
one_block [] (c ∷ m) after rest p q e = absurd (q (early c m after rest e))
one_block (b ∷ l) [] after rest p q e = absurd (p (early b l rest after (sym e)))
one_block (b ∷ l) (c ∷ m) after rest p q e =
    let first : b ≡ c = ap head_of e in
    let others = one_block l m after rest (λ h. p (closes_more b (l ++ 42 ∷ []) h)) (λ h. q (closes_more c (m ++ 42 ∷ []) h)) (ap tail_of e) in
    ap (λ z. z ∷ l) first ∙ ap (λ z. c ∷ z) others

-- ---- tokens

-- of two fronts of a list one goes on with the other
abbrev pub GoesOn : List ℕ → List ℕ → List ℕ → List ℕ → Type 0
GoesOn t u after rest = (more : List ℕ) × (u ≡ t ++ more) × (after ≡ more ++ rest)

pub two_fronts : (t u after rest : List ℕ) → t ++ after ≡ u ++ rest → GoesOn t u after rest ⊎ GoesOn u t rest after
two_fronts [] u after rest e = inl (u, refl, e)
two_fronts (b ∷ t) [] after rest e = inr (b ∷ t, refl, sym e)
two_fronts (b ∷ t) (c ∷ u) after rest e =
    let first : b ≡ c = ap head_of e in by first (two_fronts t u after rest (ap tail_of e))
  where
    by : b ≡ c → GoesOn t u after rest ⊎ GoesOn u t rest after → GoesOn (b ∷ t) (c ∷ u) after rest ⊎ GoesOn (c ∷ u) (b ∷ t) rest after
    by f (inl (more, x, y)) = inl (more, ap (λ z. c ∷ z) x ∙ ap (λ z. z ∷ (t ++ more)) (sym f), y)
    by f (inr (more, x, y)) = inr (more, ap (λ z. b ∷ z) x ∙ ap (λ z. z ∷ (u ++ more)) f, y)

longest_same : (t u after rest : List ℕ) → is_token u ≡ true → IsLongest t after → GoesOn t u after rest → t ≡ u
longest_same t u after rest h longest (more, x, y) =
    let none : more ≡ [] = longest more rest y (ap is_token (sym x) ∙ h) in
    sym (append-nil t) ∙ ap (λ z. t ++ z) (sym none) ∙ sym x

one_text : (t u after rest : List ℕ) → is_token t ≡ true → is_token u ≡ true → IsLongest t after → IsLongest u rest → t ++ after ≡ u ++ rest → t ≡ u
one_text t u after rest h k l m e = by (two_fronts t u after rest e)
  where
    by : GoesOn t u after rest ⊎ GoesOn u t rest after → t ≡ u
    by (inl g) = longest_same t u after rest k l g
    by (inr g) = sym (longest_same u t rest after h m g)

-- ---- pieces

comment_text : (c : ℕ) (more text rest : List ℕ) → opens_comment (47 ∷ c ∷ more) ≡ true → opens_comment (text ++ rest) ≡ false → 47 ∷ c ∷ more ≡ text ++ rest → ⊥
comment_text c more text rest o n e = true_false (sym o ∙ ap opens_comment e ∙ n)

pub one_piece : (p q : Piece) (after rest : List ℕ) → IsPiece p after → IsPiece q rest → bytes_of p ++ after ≡ bytes_of q ++ rest → p ≡ q
one_piece (Space b) (Space c) after rest h k e = ap Space (ap head_of e)
one_piece (Space b) (LineComment m) after rest h k e = absurd (space_is_no_slash b h (ap head_of e))
one_piece (Space b) (BlockComment m) after rest h k e = absurd (space_is_no_slash b h (ap head_of e))
one_piece (Space b) (Text u) after rest h k e = absurd (space_text b after u rest h k.0 e)
one_piece (LineComment l) (Space c) after rest h k e = absurd (space_is_no_slash c k (sym (ap head_of e)))
one_piece (LineComment l) (LineComment m) after rest h k e = ap LineComment (one_line l m after rest h.0 k.0 h.1 k.1 (ap (λ z. tail_of (tail_of z)) e))
one_piece (LineComment l) (BlockComment m) after rest h k e = absurd (apart (ap (λ z. head_of (tail_of z)) e))
one_piece (LineComment l) (Text u) after rest h k e = absurd (comment_text 47 (l ++ after) u rest refl k.1 e)
one_piece (BlockComment l) (Space c) after rest h k e = absurd (space_is_no_slash c k (sym (ap head_of e)))
one_piece (BlockComment l) (LineComment m) after rest h k e = absurd (apart (sym (ap (λ z. head_of (tail_of z)) e)))
one_piece (BlockComment l) (BlockComment m) after rest h k e =
    ap BlockComment (one_block l m after rest h k (sym (append_assoc l (42 ∷ 47 ∷ []) after) ∙ ap (λ z. tail_of (tail_of z)) e ∙ append_assoc m (42 ∷ 47 ∷ []) rest))
one_piece (BlockComment l) (Text u) after rest h k e = absurd (comment_text 42 ((l ++ 42 ∷ 47 ∷ []) ++ after) u rest refl k.1 e)
one_piece (Text t) (Space c) after rest h k e = absurd (space_text c rest t after k h.0 (sym e))
one_piece (Text t) (LineComment m) after rest h k e = absurd (comment_text 47 (m ++ rest) t after refl h.1 (sym e))
one_piece (Text t) (BlockComment m) after rest h k e = absurd (comment_text 42 ((m ++ 42 ∷ 47 ∷ []) ++ rest) t after refl h.1 (sym e))
one_piece (Text t) (Text u) after rest h k e = ap Text (one_text t u after rest h.0 k.0 h.2 k.2 e)

pub cancel : (xs ys zs : List ℕ) → xs ++ ys ≡ xs ++ zs → ys ≡ zs
cancel [] ys zs e = e
cancel (x ∷ xs) ys zs e = cancel xs ys zs (ap tail_of e)

-- what comes after it is the same, too
pub one_after : (p q : Piece) (after rest : List ℕ) → p ≡ q → bytes_of p ++ after ≡ bytes_of q ++ rest → after ≡ rest
one_after p q after rest same e = cancel (bytes_of p) after rest (e ∙ ap (λ z. bytes_of z ++ rest) (sym same))

-- a piece has a byte
pub no_piece : (p : Piece) (after : List ℕ) → IsPiece p after → [] ≡ bytes_of p ++ after → ⊥
no_piece (Space b) after h e = absurd (cc)
no_piece (LineComment body) after h e = absurd (cc)
no_piece (BlockComment body) after h e = absurd (cc)
no_piece (Text []) after h e = true_false (sym h.0)
no_piece (Text (b ∷ bs)) after h e = absurd (cc)

-- a source has one split
pub one_split : (ps qs : List Piece) (source : List ℕ) → IsSplit ps source [] → IsSplit qs source [] → ps ≡ qs
one_split [] [] source s t = refl
one_split [] (q ∷ qs) source s (rest, e, i, t) = absurd (no_piece q rest i (sym s ∙ e))
one_split (p ∷ ps) [] source (after, e, i, s) t = absurd (no_piece p after i (sym t ∙ e))
one_split (p ∷ ps) (q ∷ qs) source (after, e, i, s) (rest, f, j, t) =
    let same : p ≡ q = one_piece p q after rest i j (sym e ∙ f) in
    let there : after ≡ rest = one_after p q after rest same (sym e ∙ f) in
    ap (λ z. z ∷ ps) same ∙ ap (λ z. q ∷ z) (one_split ps qs rest (subst (λ z. IsSplit ps z []) there s) t)
