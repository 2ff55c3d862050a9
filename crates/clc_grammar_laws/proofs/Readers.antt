-- How exact readers are put together from tokens, parts that lie deeper, and what follows.
use Rattle.std.proofs.Common.{◌≡◌, ℕ, suc, Bool, true, false, List, [], ◌∷◌, ◌++◌, refl, sym, ap, ◌∙◌, subst, append-nil}
use Rattle.clc_reading.specs.Reading.{Reader, ◌>>=◌, pure, one, sees, Spelling, tokens_of, deeper, Language}
use Rattle.clc_reading.proofs.Exact.{Exact, seq, as_lang, one_exact, pure_exact, deep_exact}
use Rattle.clc_lexer.specs.declared.token.Token.{Token}
use Rattle.clc_lexer.specs.declared.token.Tok.TheVariants as tok
use Rattle.clc_lexer.specs.declared.marks.Mark.{Mark}
use Rattle.clc_lexer.specs.declared.words.Word.{Word}
use Rattle.clc_tree.specs.Kinds.{takes, is}
use Rattle.clc_tree.specs.declared.kinds.Kind.{Kind}
use Rattle.clc_grammar_laws.proofs.Facts.{Apart, apart}

-- ---- tokens that stand for their kind

abbrev pub a_name : Token
a_name = record { kind = tok.Name []; from = 0; to = 0 }

abbrev pub a_number : Token
a_number = record { kind = tok.Number 0 false; from = 0; to = 0 }

abbrev pub a_mark : Mark → Token
a_mark x = record { kind = tok.Mark x; from = 0; to = 0 }

abbrev pub a_word : Word → Token
a_word x = record { kind = tok.Word x; from = 0; to = 0 }

-- ---- spellings

pub join : {ms m n x y : Spelling Token} → ms ≡ m ++ n → m ≡ x → n ≡ y → ms ≡ x ++ y
join {ms} {m} {n} {x} {y} e a b = e ∙ ap (λ z. z ++ n) a ∙ ap (λ z. x ++ z) b

-- a value and its spelling, rewritten
pub as_is : {A : Type 0} (G : A → Spelling Token → Type 0) {a b : A} {m o : Spelling Token} → a ≡ b → m ≡ o → G b o → G a m
as_is G {a} {b} {m} {o} e d h = subst (λ z. G z m) (sym e) (subst (λ z. G b z) (sym d) h)

pub join0 : {ms o x : Spelling Token} {t : Token} → ms ≡ (t, 0) ∷ o → o ≡ x → ms ≡ (t, 0) ∷ x
join0 {ms} {o} {x} {t} e h = e ∙ ap (λ z. (t, 0) ∷ z) h

-- a part, and what follows it, which ends there
pub last : {ms m n x : Spelling Token} → ms ≡ m ++ n → m ≡ x → n ≡ [] → ms ≡ x
last {ms} {m} {n} {x} e a b = e ∙ ap (λ z. z ++ n) a ∙ ap (λ z. x ++ z) b ∙ append-nil x

-- a text of a token and what follows begins with it
pub sees_head : (f : Token → Bool) {t : Token} {ms o : Spelling Token} (rest : List Token) → ms ≡ (t, 0) ∷ o → f t ≡ true → sees f (tokens_of ms ++ rest) ≡ true
sees_head f {t} {ms} {o} rest e h = ap (λ z. sees f (tokens_of z ++ rest)) e ∙ h

pub not_empty : {X : Type 0} {t : Token × ℕ} {o : Spelling Token} → [] ≡ t ∷ o → X
not_empty e = absurd (cc)

pub append_empty : (m o : Spelling Token) → m ++ o ≡ [] → m ≡ []
append_empty [] o e = refl
append_empty (x ∷ m) o e = absurd (cc)

-- what follows begins with a token of a kind
pub head : {o m : Spelling Token} (P : List Token → Type 0) (t : Token) (rest : List Token) → o ≡ (t, 0) ∷ m → ((r : List Token) → P (t ∷ r)) → P (tokens_of o ++ rest)
head {o} {m} P t rest e h = subst (λ z. P (tokens_of z ++ rest)) (sym e) (h (tokens_of m ++ rest))

pub at_end : {o : Spelling Token} (P : List Token → Type 0) (rest : List Token) → o ≡ [] → P rest → P (tokens_of o ++ rest)
at_end P rest e h = subst (λ z. P (tokens_of z ++ rest)) (sym e) h

-- ---- a token, and what follows

abbrev pub tok_lang : {R : Type 0} → (Token → Bool) → (Token → Language Token R) → Language Token R
tok_lang {R} f M = record {
  spells = λ r ms. (t : Token) × (o : Spelling Token) × (f t ≡ true) × (M t).spells r o × (ms ≡ (t, 0) ∷ o);
  halts = λ r rest. (t : Token) → (M t).halts r rest;
}

pub tok_exact : {R : Type 0} {n : ℕ} {F : Token → Reader Token R} {M : Token → Language Token R} (f : Token → Bool) (t : Token) → f t ≡ true
    → ((t : Token) → Exact n (F t) (M t)) → Exact n (one n f >>= F) (tok_lang f M)
tok_exact {R} {n} {F} {M} f t is Q =
    as_lang (tok_lang f M)
    (seq (one_exact f t is n) Q (λ a v o rest s h. tt))
    (λ v ms s. (s.0, s.2, s.3.0, s.4, join s.5 s.3.1 refl))
    (λ v ms s. (s.0, (s.0, 0) ∷ [], s.1, (s.2, refl), s.3, s.4))
    (λ v rest h. h)

pub kind_exact : {R : Type 0} {n : ℕ} {F : Token → Reader Token R} {M : Token → Language Token R} (f : Kind) (t : Token) → is f t ≡ true
    → ((t : Token) → Exact n (F t) (M t)) → Exact n (one n (is f) >>= F) (tok_lang (is f) M)
kind_exact f t h Q = tok_exact (is f) t h Q

-- ---- a part that lies a level deeper, and what follows

abbrev pub inner_lang : {A R : Type 0} → Language Token A → (A → Language Token R) → Language Token R
inner_lang {A} {R} L M = record {
  spells = λ r ms. (a : A) × (m : Spelling Token) × (o : Spelling Token) × L.spells a m × (M a).spells r o × (ms ≡ deeper m ++ o);
  halts = λ r rest. (a : A) → (M a).halts r rest;
}

pub inner_exact : {A R : Type 0} {n : ℕ} {p : Reader Token A} {F : A → Reader Token R} {L : Language Token A} {M : A → Language Token R}
    → Exact n p L → ((a : A) → Exact (suc n) (F a) (M a))
    → ((a : A) (v : R) (o : Spelling Token) (rest : List Token) → (M a).spells v o → (M a).halts v rest → L.halts a (tokens_of o ++ rest))
    → Exact (suc n) (p >>= F) (inner_lang L M)
inner_exact {A} {R} {n} {p} {F} {L} {M} P Q fits =
    as_lang (inner_lang L M)
    (seq (deep_exact n p L P) Q fits)
    (λ v ms s. (s.0, s.3.0, s.2, s.3.1, s.4, join s.5 s.3.2 refl))
    (λ v ms s. (s.0, deeper s.1, s.2, (s.1, s.3, refl), s.4, s.5))
    (λ v rest h. h)

-- ---- a value that is made without a further token, where what follows it is so

abbrev pub final_lang : {A : Type 0} → (List Token → Type 0) → A → Language Token A
final_lang {A} H a = record { spells = λ v ms. (v ≡ a) × (ms ≡ []); halts = λ v rest. H rest }

pub final_exact : {A : Type 0} (n : ℕ) (H : List Token → Type 0) (a : A) → Exact n (pure a) (final_lang H a)
final_exact n H a = as_lang (final_lang H a) (pure_exact n a) (λ v ms s. s) (λ v ms s. s) (λ v rest h. tt)

-- the same, where what follows hangs on the value
abbrev pub value_lang : {A : Type 0} → (List Token → Type 0) → A → Language Token A
value_lang {A} H a = record { spells = λ v ms. (v ≡ a) × (ms ≡ []); halts = λ v rest. v ≡ a → H rest }

pub value_exact : {A : Type 0} (n : ℕ) (H : List Token → Type 0) (a : A) → Exact n (pure a) (value_lang H a)
value_exact n H a = as_lang (value_lang H a) (pure_exact n a) (λ v ms s. s) (λ v ms s. s) (λ v rest h. tt)

-- ---- what a spelling begins with

abbrev pub StartsWith : (Token → Bool) → Spelling Token → Type 0
StartsWith f ms = (m : Token × ℕ) × (more : Spelling Token) × (ms ≡ m ∷ more) × (f m.0 ≡ true)

pub starts_append : (f : Token → Bool) (m o : Spelling Token) → StartsWith f m → StartsWith f (m ++ o)
starts_append f m o s = (s.0, s.1 ++ o, ap (λ z. z ++ o) s.2, s.3)

pub starts_is : (f : Token → Bool) {m o : Spelling Token} → m ≡ o → StartsWith f o → StartsWith f m
starts_is f e s = subst (StartsWith f) (sym e) s

pub starts_deeper : (f : Token → Bool) (m : Spelling Token) → StartsWith f m → StartsWith f (deeper m)
starts_deeper f m s = ((s.0.0, suc s.0.1), deeper s.1, ap deeper s.2, s.3)

pub starts_sees : (f : Token → Bool) (m : Spelling Token) (r : List Token) → StartsWith f m → sees f (tokens_of m ++ r) ≡ true
starts_sees f m r s = ap (λ z. sees f (tokens_of z ++ r)) s.2 ∙ s.3

pub starts_by : (f g : Token → Bool) → ((t : Token) → f t ≡ true → g t ≡ true) → (m : Spelling Token) → StartsWith f m → StartsWith g m
starts_by f g h m s = (s.0, s.1, s.2, h s.0.0 s.3)

pub never_empty : {X : Type 0} (f : Token → Bool) {m : Spelling Token} → StartsWith f m → m ≡ [] → X
never_empty f s e = not_empty (sym e ∙ s.2)

-- ---- what a part isn't followed by

pub avoids : (f g : Kind) → Apart (takes f) (takes g) → (m : Spelling Token) → StartsWith (is f) m → sees (is g) (tokens_of m) ≡ false
avoids f g a m s = ap (λ z. sees (is g) (tokens_of z)) s.2 ∙ apart f g a s.0.0 s.3

-- a text that begins with a part of this beginning
pub avoids_more : (f g : Kind) → Apart (takes f) (takes g) → {k : Spelling Token} (m o : Spelling Token) → k ≡ m ++ o → StartsWith (is f) m → (rest : List Token) → sees (is g) (tokens_of k ++ rest) ≡ false
avoids_more f g a {k} m o e s rest =
    ap (λ z. sees (is g) (tokens_of z ++ rest)) (e ∙ ap (λ z. z ++ o) s.2) ∙ apart f g a s.0.0 s.3
