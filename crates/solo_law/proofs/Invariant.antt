-- What holds at each moment of a run of many QPUs.
use Rattle.std.proofs.Common.{◌≡◌, ◌≢◌, ℕ, zero, suc, ◌+◌, ◌%◌, ◌<◌, ◌≤◌, ◌⊎◌, ⊎_elim, List, [], length, get_or, refl, sym, ap, subst, arith, true, false, eq-eqb, ne_eqb}
use Rattle.std.specs.Prelude.{slice_get, ◌==◌, if◌then◌else◌}
use Rattle.std.specs.declared.option.Option.{Option}
use Rattle.std.specs.declared.option.Option.TheVariants.{Some, None}
use Rattle.std.proofs.lemmas.Bool.{cases_eq}
use Rattle.vpm_words.specs.Access.{Given}
use Rattle.vpm_words.specs.Moves.{number_at, load_all, store_all}
use Rattle.vpm_words.specs.declared.state.Element.{Element}
use Rattle.vpm_words.specs.declared.state.Shared.{Shared}
use Rattle.qpu_machine.specs.declared.state.Qpu.{Qpu}
use Rattle.qpu_machine.specs.MachineState.{MachineState}
use Rattle.qpu_machine.specs.SoloRun.{Due, NoneDue, LoadDue, StoreDue, Note, Solo, AnyCovers}
use Rattle.solo_law.proofs.Changes.{changed_by_all}
use Rattle.solo_law.specs.Sharing.{Shares}
use Rattle.solo_law.specs.Premises.{solo_of, AreContentsFor, SetsOf, TouchesOf}
use Rattle.solo_law.specs.Laws.{sum_to, cost}
use Rattle.solo_law.proofs.Elements.{AreApartAll}

-- the run of QPU k alone reaches s
pub record IsReached (x : Shares) (w : MachineState) (k : ℕ) (s : Solo) : Type 0 where
  pub contents : List Given
  pub valid : AreContentsFor w contents
  pub is : solo_of x w k contents ≡ s

-- a QPU without the mutex: the memory is that of its run alone, on the bytes that it touches, but for shared bytes
pub record Out (x : Shares) (w : MachineState) (k : ℕ) (s : Solo) (memory : List ℕ) : Type 0 where
  pub free : s.shared.owner ≡ None
  pub due : s.due ≡ NoneDue
  pub agree : (a : ℕ) → TouchesOf x w k a → x.is_shared a ≡ false → get_or memory a 0 ≡ get_or s.memory a 0

-- what counts for the owner: what it touches, and all shared bytes
abbrev pub CountsFor : Shares → MachineState → ℕ → ℕ → Type 0
CountsFor x w k a = TouchesOf x w k a ⊎ (x.is_shared a ≡ true)

-- what may be in flight
abbrev pub Flight : Due → List Element → List Element → Type 0
Flight NoneDue loads stores = (loads ≡ []) × (stores ≡ [])
Flight LoadDue loads stores = stores ≡ []
Flight StoreDue loads stores = loads ≡ []

-- the owner: once what is in flight is moved, VPM and memory are those of its run alone
pub record Held (x : Shares) (w : MachineState) (k : ℕ) (s : Solo) (rows : List (List ℕ)) (memory : List ℕ) (loads stores : List Element) : Type 0 where
  pub own : s.shared.owner ≡ Some k
  pub flight : Flight s.due loads stores
  pub vpm : load_all loads memory rows ≡ s.shared.vpm
  pub agree : (a : ℕ) → CountsFor x w k a → get_or (store_all stores rows memory) a 0 ≡ get_or s.memory a 0
  pub loads_apart : AreApartAll loads
  pub stores_apart : AreApartAll stores
  pub covered : (a : ℕ) → AnyCovers stores a → SetsOf x w k a

-- what is shared agrees with all runs alone
abbrev pub Agrees : Shares → MachineState → (ℕ → Solo) → Option ℕ → List (List ℕ) → List ℕ → List Element → List Element → Type 0
Agrees x w at None vpm memory loads stores = (loads ≡ []) × (stores ≡ []) × ((j : ℕ) → j < length w.qpus → Out x w j (at j) memory)
Agrees x w at (Some k) vpm memory loads stores =
    (k < length w.qpus) × Held x w k (at k) vpm memory loads stores × ((j : ℕ) → j < length w.qpus → j ≢ k → Out x w j (at j) memory)

-- n steps were effective, among them the words c k of QPU k; and these are the QPUs, what they share, and the memory
pub record Inv (x : Shares) (w : MachineState) (n : ℕ) (c : ℕ → List Note) (qpus : List Qpu) (s : Shared) (memory : List ℕ) : Type 0 where
  -- where each QPU's run alone is
  pub at : ℕ → Solo
  pub many : length qpus ≡ length w.qpus
  pub reach : (k : ℕ) → k < length w.qpus → IsReached x w k (at k)
  pub here : (k : ℕ) → k < length w.qpus → slice_get qpus k ≡ Some (at k).qpu
  pub notes : (k : ℕ) → k < length w.qpus → (at k).notes ≡ c k
  pub size : length memory ≡ length w.memory
  pub agrees : Agrees x w at s.owner s.vpm memory s.loads s.stores
  pub rest : (a : ℕ) → ((k : ℕ) → k < length w.qpus → ¬ (SetsOf x w k a)) → get_or memory a 0 ≡ get_or w.memory a 0
  -- each shared word is what the changes so far make of the opening's
  pub totals : (a : ℕ) → a % 4 ≡ 0 → x.is_shared a ≡ true
      → number_at 4 (store_all s.stores s.vpm memory) a ≡ changed_by_all a (λ k. (at k).made) (length w.qpus) (number_at 4 w.memory a)
  pub count : n + (length s.loads + length s.stores) ≡ sum_to (length w.qpus) (λ k. cost (at k))

-- ---- functions with one value given anew

abbrev pub upd : (ℕ → Solo) → ℕ → Solo → ℕ → Solo
upd f k s j = if j == k then s else f j

pub upd_same : (f : ℕ → Solo) (k : ℕ) (s : Solo) → upd f k s k ≡ s
upd_same f k s = ap (λ b. if b then s else f k) (eq-eqb k k refl)

pub upd_other : (f : ℕ → Solo) (k : ℕ) (s : Solo) (j : ℕ) → j ≢ k → upd f k s j ≡ f j
upd_other f k s j n = ap (λ b. if b then s else f j) (ne_eqb j k n)

pub each_upd : (P : ℕ → Solo → Type 0) (f : ℕ → Solo) (k : ℕ) (s : Solo) (n : ℕ) → ((j : ℕ) → j < n → P j (f j)) → P k s → (j : ℕ) → j < n → P j (upd f k s j)
each_upd P f k s n h hk j lt =
    ⊎_elim
    (λ e. subst (λ i. P i (upd f k s i)) (sym e) (subst (λ t. P k t) (sym (upd_same f k s)) hk))
    (λ ne. subst (λ t. P j t) (sym (upd_other f k s j ne)) (h j lt))
    (cases_eq j k)

-- a sum after one value changed
sum_upd_past : (f : ℕ → Solo) (k : ℕ) (s : Solo) (n : ℕ) → n ≤ k → sum_to n (λ j. cost (upd f k s j)) ≡ sum_to n (λ j. cost (f j))
sum_upd_past f k s zero le = refl
sum_upd_past f k s (suc n) le =
    let e = ap cost (upd_other f k s n (λ p. omega arith)) in
    let r = sum_upd_past f k s n (omega arith) in
    omega arith

pub sum_upd : (f : ℕ → Solo) (k : ℕ) (s : Solo) (n : ℕ) → k < n → sum_to n (λ j. cost (upd f k s j)) + cost (f k) ≡ sum_to n (λ j. cost (f j)) + cost s
sum_upd f k s zero lt = absurd (omega arith)
sum_upd f k s (suc n) lt =
    ⊎_elim
    (λ e.
    let a : cost (upd f k s n) ≡ cost s = subst (λ i. cost (upd f k s i) ≡ cost s) (sym e) (ap cost (upd_same f k s)) in
    let b : cost (f n) ≡ cost (f k) = ap (λ i. cost (f i)) e in
    let r = sum_upd_past f k s n (omega arith) in
    omega arith)
    (λ ne.
    let a : cost (upd f k s n) ≡ cost (f n) = ap cost (upd_other f k s n ne) in
    let r = sum_upd f k s n (omega arith) in
    omega arith)
    (cases_eq n k)
