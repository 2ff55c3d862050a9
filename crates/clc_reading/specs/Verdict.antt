-- Where a list of tokens leaves a language.
use Rattle.std.specs.Prelude.{◌≡◌, ℕ, false, List, [], ◌∷◌, ◌++◌}
use Rattle.clc_reading.specs.Reading.{Reason, Wrong, Deep, Spelling, tokens_of, below, AllBelow, Language}

-- some text of the language begins so
abbrev pub IsViable : {T A : Type 0} → Language T A → List T → Type 0
IsViable {T} {A} L pre = (a : A) × (ms : Spelling T) × (more : List T) × L.spells a ms × (tokens_of ms ≡ pre ++ more)

-- in each text that begins so, none of these tokens lies at depth n or deeper
abbrev pub IsShallow : {T A : Type 0} → ℕ → Language T A → List T → Type 0
IsShallow {T} {A} n L pre = (a : A) (m k : Spelling T) → L.spells a (m ++ k) → tokens_of m ≡ pre → AllBelow n m

-- no text goes on with the next token, or, at the end, none ends there
abbrev pub IsStuck : {T A : Type 0} → Language T A → List T → List T → Type 0
IsStuck {T} {A} L pre [] = (a : A) (ms : Spelling T) → L.spells a ms → tokens_of ms ≡ pre → ⊥
IsStuck L pre (x ∷ left) = IsViable L (pre ++ x ∷ []) → ⊥

-- some text goes on with the next token, and in each that does it lies at depth n or deeper
abbrev pub IsTooDeep : {T A : Type 0} → ℕ → Language T A → List T → List T → Type 0
IsTooDeep n L pre [] = ⊥
IsTooDeep {T} {A} n L pre (x ∷ left) = IsViable L (pre ++ x ∷ []) × ((a : A) (m k : Spelling T) (d : ℕ) → L.spells a (m ++ (x, d) ∷ k) → tokens_of m ≡ pre → below d n ≡ false)

-- the fault of a kind at its place, before which there is no fault
abbrev pub IsFault : {T A : Type 0} → ℕ → Language T A → Reason → List T → List T → Type 0
IsFault n L Wrong pre left = IsViable L pre × IsShallow n L pre × IsStuck L pre left
IsFault n L Deep pre left = IsShallow n L pre × IsTooDeep n L pre left
