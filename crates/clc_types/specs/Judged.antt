-- A part of a program has faults, or else it has a typed form.
use Rattle.std.specs.Prelude.{◌≡◌, ℕ, ◌+◌, ◌<◌, ◌≤◌, Bool, true, false, List, [], ◌∷◌, ◌++◌, ◌⊎◌, Option}
use Rattle.clc_types.specs.declared.type_rule.TypeRule.{TypeRule}
use Rattle.clc_types.specs.declared.type_rule.TypeRule.TheVariants.{S1, S2, S3, S4, S5, S6, S7, S8, S9, S10, S11, S12, S13, S14}
use Rattle.clc_types.specs.declared.forms.Fault.{Fault}
use Rattle.clc_types.specs.declared.forms.Named.{Named}
use Rattle.clc_types.specs.declared.forms.Home.{Home}

pub data Judged (A : Type 0) : Type 0 where
  Fine : A → Judged A
  Faulty : (one : Fault) → (more : List Fault) → Judged A

-- the faults of two parts
abbrev pub both : {A B : Type 0} → Judged A → Judged B → Judged (A × B)
both (Fine a) (Fine b) = Fine (a, b)
both (Fine a) (Faulty g gs) = Faulty g gs
both (Faulty f fs) (Fine b) = Faulty f fs
both (Faulty f fs) (Faulty g gs) = Faulty f (fs ++ g ∷ gs)

-- what is tested only where the operands have no fault
abbrev pub next : {A B : Type 0} → Judged A → (A → Judged B) → Judged B
next (Fine a) go = go a
next (Faulty f fs) go = Faulty f fs

-- these faults, or else the form
abbrev pub unless : {A : Type 0} → List Fault → A → Judged A
unless [] a = Fine a
unless (f ∷ fs) a = Faulty f fs

-- the rules of a list that are violated at a token, each with whether it is
abbrev pub violations : (token : ℕ) → List (TypeRule × Bool) → List Fault
violations p [] = []
violations p ((rule, true) ∷ more) = record { token = p; rule = rule } ∷ violations p more
violations p ((rule, false) ∷ more) = violations p more

abbrev pub faults_of : {A : Type 0} → Judged A → List Fault
faults_of (Fine a) = []
faults_of (Faulty f fs) = f ∷ fs

-- the number of a rule
abbrev pub rank : TypeRule → ℕ
rank S1 = 1
rank S2 = 2
rank S3 = 3
rank S4 = 4
rank S5 = 5
rank S6 = 6
rank S7 = 7
rank S8 = 8
rank S9 = 9
rank S10 = 10
rank S11 = 11
rank S12 = 12
rank S13 = 13
rank S14 = 14

-- the order of faults: by the token, then by the number of the rule
abbrev pub Before : Fault → Fault → Type 0
Before f g = (f.token < g.token) ⊎ ((f.token ≡ g.token) × (rank f.rule ≤ rank g.rule))

abbrev pub Among : Fault → List Fault → Type 0
Among f [] = ⊥
Among f (g ∷ gs) = (f ≡ g) ⊎ Among f gs

pub record IsLeast (f : Fault) (fs : List Fault) : Type 0 where
  pub here : Among f fs
  pub least : (g : Fault) → Among g fs → Before f g

-- what an expression stands among: what is in force at a token for a name, and its function with those before it
pub record Context : Type 0 where
  pub look : ℕ → List ℕ → Option Named
  pub home : Home

-- a part has so many tokens, and is judged by the number of its first one
pub record Part (A : Type 0) : Type 0 where
  pub tokens : ℕ
  pub at : Context → ℕ → Judged A

-- no test
abbrev pub none : {A : Type 0} → ℕ → ℕ → A → List Fault
none p q x = []

-- a part with one operand: tokens before it and after it, the tests by the places of the part and the operand, and the form
abbrev pub one : {A B : Type 0} → ℕ → Part A → ℕ → (ℕ → ℕ → A → List Fault) → (A → B) → Part B
one before a after needs form = record {
  tokens = before + a.tokens + after;
  at = λ c p. next (a.at c (p + before)) (λ x. unless (needs p (p + before) x) (form x));
}

-- a part with two operands: tokens between them and after them, the tests by the places of the operands, and the form
abbrev pub two : {A B C : Type 0} → Part A → ℕ → Part B → ℕ → (ℕ → A → ℕ → B → List Fault) → (A → ℕ → B → C) → Part C
two a between b after needs form = record {
  tokens = a.tokens + between + b.tokens + after;
  at = λ c p.
      let q = p + a.tokens + between in
      next (both (a.at c p) (b.at c q)) (λ x. unless (needs p x.0 q x.1) (form x.0 q x.1));
}

-- a part without operands, of one token
abbrev pub leaf : {A : Type 0} → (Context → ℕ → Judged A) → Part A
leaf f = record { tokens = 1; at = f }
