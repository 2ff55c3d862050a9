-- Readers of a list of tokens, which know how many levels of nesting are left.
use Rattle.std.specs.Prelude.{◌≡◌, ℕ, zero, suc, Bool, true, false, cond, List, [], ◌∷◌, length}

-- why reading stops at a token: it cannot stand there, or it may stand there but lies too deep
pub data Reason : Type 0 where
  Wrong : Reason
  Deep : Reason

-- what was read with the tokens after it, or why reading stops with the tokens from that place on
pub data Outcome (T A : Type 0) : Type 0 where
  Got : A → (rest : List T) → Outcome T A
  Stops : Reason → (left : List T) → Outcome T A

abbrev pub Reader : Type 0 → Type 0 → Type 0
Reader T A = List T → Outcome T A

abbrev pub and_then : {T A B : Type 0} → Outcome T A → (A → Reader T B) → Outcome T B
and_then (Got a rest) f = f a rest
and_then (Stops why left) f = Stops why left

infixl 10 ◌>>=◌
abbrev pub ◌>>=◌ : {T A B : Type 0} → Reader T A → (A → Reader T B) → Reader T B
p >>= f = λ ts. and_then (p ts) f

abbrev pub pure : {T A : Type 0} → A → Reader T A
pure a = λ ts. Got a ts

-- one token of a kind, where some depth is left
abbrev pub taken : {T : Type 0} → (T → Bool) → Reader T T
taken f [] = Stops Wrong []
taken f (x ∷ xs) = cond (f x) (Got x xs) (Stops Wrong (x ∷ xs))

-- what may begin with a token of a kind, and does not go on, where no depth is left
abbrev pub deny : {T A : Type 0} → (T → Bool) → Reader T A
deny f [] = Stops Wrong []
deny f (x ∷ xs) = cond (f x) (Stops Deep (x ∷ xs)) (Stops Wrong (x ∷ xs))

-- one token of a kind, with n levels left
abbrev pub one : {T : Type 0} → ℕ → (T → Bool) → Reader T T
one zero f = deny f
one (suc n) f = taken f

-- whether the next token is of a kind
abbrev pub sees : {T : Type 0} → (T → Bool) → List T → Bool
sees f [] = false
sees f (x ∷ xs) = f x

abbrev pub pick : {T A : Type 0} → (T → Bool) → Reader T A → Reader T A → Reader T A
pick f p q = λ ts. cond (sees f ts) (p ts) (q ts)

-- at most this many times
abbrev pub turns : {T A : Type 0} → ℕ → (T → Bool) → Reader T A → Reader T (List A)
turns zero f p = pure []
turns (suc n) f p = pick f (p >>= λ a. turns n f p >>= λ more. pure (a ∷ more)) (pure [])

-- while the next token is of a kind
abbrev pub many : {T A : Type 0} → (T → Bool) → Reader T A → Reader T (List A)
many f p = λ ts. turns (length ts) f p ts

-- to the end of the tokens
abbrev pub ended : {T A : Type 0} → A → Reader T A
ended a [] = Got a []
ended a (x ∷ xs) = Stops Wrong (x ∷ xs)

abbrev pub whole : {T A : Type 0} → Reader T A → Reader T A
whole p = p >>= ended

-- ---- languages: tokens, each with its depth

abbrev pub Spelling : Type 0 → Type 0
Spelling T = List (T × ℕ)

abbrev pub tokens_of : {T : Type 0} → Spelling T → List T
tokens_of [] = []
tokens_of (m ∷ ms) = m.0 ∷ tokens_of ms

abbrev pub deeper : {T : Type 0} → Spelling T → Spelling T
deeper [] = []
deeper (m ∷ ms) = (m.0, suc m.1) ∷ deeper ms

-- e < n
abbrev pub below : ℕ → ℕ → Bool
below e zero = false
below zero (suc n) = true
below (suc e) (suc n) = below e n

abbrev pub AllBelow : {T : Type 0} → ℕ → Spelling T → Type 0
AllBelow n [] = Unit {0}
AllBelow n (m ∷ ms) = (below m.1 n ≡ true) × AllBelow n ms

-- which values are spelled how, and before what reading one ends
pub record Language (T A : Type 0) : Type 1 where
  pub spells : A → Spelling T → Type 0
  pub halts : A → List T → Type 0
