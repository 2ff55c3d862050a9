-- Every opening is in range, and every run keeps it.
use Rattle.std.proofs.Common.{arith, ◌≡◌, ℕ, zero, suc, ◌+◌, ◌-◌, ◌*◌, ◌<◌, ◌≤◌, List, [], ◌∷◌, length, map, refl, sym, ◌∙◌, subst}
use Rattle.std.proofs.lemmas.List.{length-set, length-take-le, length-drop, length-map}
use Rattle.std.proofs.lemmas.Nat.{mul-le}
use Rattle.std.proofs.lemmas.Option.{slice_get_within}
use Rattle.std.specs.Prelude.{Option, Some, None, IfSome, take, drop, is_some, slice_get, slice_set, slice_range}
use Rattle.vpm_words.specs.declared.state.Shared.{Shared}
use Rattle.qpu_machine.specs.declared.state.Effect.TheVariants as effect
use Rattle.qpu_machine.specs.declared.state.Step.{Step}
use Rattle.qpu_machine.specs.declared.state.Step.TheVariants.{Issue, Load, Store}
use Rattle.qpu_machine.specs.declared.state.Qpu.{Qpu}
use Rattle.qpu_machine.specs.declared.state.Regs.{Regs}
use Rattle.qpu_machine.specs.declared.state.Counts.{Counts}
use Rattle.qpu_machine.specs.Planned.{Planned, Fixed, IsPlan, site_of}
use Rattle.qpu_machine.specs.IssueStep.{local}
use Rattle.qpu_machine.specs.MoveStep.{Moved, load_move, store_move}
use Rattle.qpu_machine.specs.MachineState.{MachineState}
use Rattle.qpu_machine.specs.MachineRun.{Turn, turn_at, turn, turned, shifted, step_of, happens, machine_run}
use Rattle.qpu_machine.specs.Opening.{opening_qpu, opening_shared, fixed_of, opening}
use Rattle.qpu_machine.specs.Reachable.{AreWords, AreRegs, IsQpu, IsShared, AreCounts, IsFixed, IsInRange, OpeningInRange, RunInRange}
use Rattle.qpu_machine.proofs.RangeRegs.{chosen}
use Rattle.qpu_machine.proofs.RangeShared.{none-are, IsMemory}
use Rattle.qpu_machine.proofs.RangeSteps.{IsSite, IsLocal, local-keeps, IsMoved, load_move-keeps, store_move-keeps}

-- ---- the uniforms of one QPU

drop-words : (n : ℕ) (xs : List ℕ) → AreWords xs → AreWords (drop n xs)
drop-words zero xs h = h
drop-words (suc n) [] h = h
drop-words (suc n) (x ∷ xs) h = drop-words n xs (λ i. h (suc i))

take-words : (n : ℕ) (xs : List ℕ) → AreWords xs → AreWords (take n xs)
take-words zero xs h i = omega arith
take-words (suc n) [] h i = omega arith
take-words (suc n) (x ∷ xs) h zero = h zero
take-words (suc n) (x ∷ xs) h (suc i) = take-words n xs (λ j. h (suc j)) i

range-words : (xs : List ℕ) (a b : ℕ) → AreWords xs → AreWords (slice_range xs a b)
range-words xs a b h = take-words (b - a) (drop a xs) (drop-words a xs h)

range-many : (xs : List ℕ) (qpus per k : ℕ) → length xs ≡ qpus * per → k < qpus → length (slice_range xs (k * per) (k * per + per)) ≡ per
range-many xs qpus per k e l =
    let room : (k + 1) * per ≤ qpus * per = mul-le (k + 1) per qpus per (omega (arith, l)) (omega arith) in
    let left : length (drop (k * per) xs) ≡ length xs - k * per = length-drop (k * per) xs in
    let wide : k * per + per - k * per ≡ per = omega arith in
    length-take-le (k * per + per - k * per) (drop (k * per) xs) (omega (arith, room, left, e)) ∙ wide

site-fits : (qpus size : ℕ) (g : Fixed) (k : ℕ) → IsFixed qpus size g → k < qpus → IsSite qpus (site_of g k)
unfolding site_of
site-fits qpus size g k h l = record { words = range-words g.uniforms (k * g.per) (k * g.per + g.per) h.words; number = l; few = h.built.few }

site-many : (qpus size : ℕ) (g : Fixed) (k : ℕ) → IsFixed qpus size g → k < qpus → length (site_of g k).uniforms ≡ g.per
unfolding site_of
site-many qpus size g k h l = range-many g.uniforms qpus g.per k h.built.sites.uniforms l

-- ---- an issue of one of the QPUs

abbrev AreQpus : ℕ → List Qpu → Type 0
AreQpus uniforms qs = (k : ℕ) → IfSome (slice_get qs k) (IsQpu uniforms)

set-qpus : (uniforms : ℕ) (qs : List Qpu) (k : ℕ) (q : Qpu) → AreQpus uniforms qs → IsQpu uniforms q → AreQpus uniforms (slice_set qs k q)
set-qpus uniforms [] k q h v i = h i
set-qpus uniforms (x ∷ qs) zero q h v zero = v
set-qpus uniforms (x ∷ qs) zero q h v (suc i) = h (suc i)
set-qpus uniforms (x ∷ qs) (suc k) q h v zero = h zero
set-qpus uniforms (x ∷ qs) (suc k) q h v (suc i) = set-qpus uniforms qs k q (λ j. h (suc j)) v i

record IsTurn (uniforms qpus : ℕ) (t : Turn) : Type 0 where
  pub many : length t.qpus ≡ qpus
  pub each : AreQpus uniforms t.qpus
  pub shared : IsShared qpus t.shared
  pub counts : AreCounts t.counts

-- the QPU that was found is in range
found : (uniforms : ℕ) (o : Option Qpu) (q : Qpu) → o ≡ Some q → IfSome o (IsQpu uniforms) → IsQpu uniforms q
found uniforms o q e h = subst (λ p. IfSome p (IsQpu uniforms)) e h

issued-at : (size : ℕ) (g : Fixed) (qs : List Qpu) (s : Shared) (c : Counts) (k : ℕ) (q : Qpu) → slice_get qs k ≡ Some q
    → IsFixed (length qs) size g → AreQpus g.per qs → IsShared (length qs) s → AreCounts c → IsLocal g.per (length qs) (local g.code (site_of g k) q s c)
issued-at size g qs s c k q e f h t n =
    let l : k < length qs = slice_get_within qs k q e in
    let many : length (site_of g k).uniforms ≡ g.per = site-many (length qs) size g k f l in
    subst (λ u. IsLocal u (length qs) (local g.code (site_of g k) q s c)) many
    (local-keeps (length qs) g.code (site_of g k) q s c (site-fits (length qs) size g k f l)
    (subst (λ u. IsQpu u q) (sym many) (found g.per (slice_get qs k) q e (h k))) t n)

turn_at-keeps : (size : ℕ) (g : Fixed) (qs : List Qpu) (s : Shared) (c : Counts) (k : ℕ) (o : Option Qpu) → slice_get qs k ≡ o
    → IsFixed (length qs) size g → AreQpus g.per qs → IsShared (length qs) s → AreCounts c → IsTurn g.per (length qs) (turn_at g qs s c k o)
turn_at-keeps size g qs s c k None e f h t n = record { many = refl; each = h; shared = t; counts = n }
turn_at-keeps size g qs s c k (Some q) e f h t n =
    let after : IsLocal g.per (length qs) (local g.code (site_of g k) q s c) = issued-at size g qs s c k q e f h t n in
    record {
      many = length-set qs k (local g.code (site_of g k) q s c).qpu;
      each = set-qpus g.per qs k (local g.code (site_of g k) q s c).qpu h after.qpu;
      shared = after.shared;
      counts = after.counts;
    }

turn-keeps : (s : MachineState) (k : ℕ) → IsInRange s → IsTurn s.fixed.per (length s.qpus) (turn s.fixed s.qpus s.shared s.counts k)
unfolding turn
turn-keeps s k h = turn_at-keeps (length s.memory) s.fixed s.qpus s.shared s.counts k (slice_get s.qpus k) refl h.fixed h.qpus h.shared h.counts

-- ---- one step, and a run

turned-keeps : (s : MachineState) (t : Turn) → IsInRange s → IsTurn s.fixed.per (length s.qpus) t → IsInRange (turned s t).state
turned-keeps s t h v =
    record {
      fixed = subst (λ n. IsFixed n (length s.memory) s.fixed) (sym v.many) h.fixed;
      qpus = v.each;
      shared = subst (λ n. IsShared n t.shared) (sym v.many) v.shared;
      counts = v.counts;
      memory = h.memory;
    }

shifted-keeps : (s : MachineState) (m : Moved) → IsInRange s → IsMoved (length s.qpus) (length s.memory) m → IsInRange (shifted s m).state
shifted-keeps s m h v =
    record {
      fixed = subst (λ n. IsFixed (length s.qpus) n s.fixed) (sym v.memory.many) h.fixed;
      qpus = h.qpus;
      shared = v.shared;
      counts = v.counts;
      memory = v.memory.bytes;
    }

memory-is : (s : MachineState) → IsInRange s → IsMemory (length s.memory) s.memory
memory-is s h = record { many = refl; bytes = h.memory }

pub step-keeps : (s : MachineState) (step : Step) → IsInRange s → IsInRange (step_of s step).state
unfolding step_of
step-keeps s (Issue k) h = turned-keeps s (turn s.fixed s.qpus s.shared s.counts k) h (turn-keeps s k h)
step-keeps s (Load i) h =
    shifted-keeps s (load_move s.shared s.counts s.memory i) h (load_move-keeps (length s.qpus) (length s.memory) s.shared s.counts s.memory i h.shared h.counts (memory-is s h))
step-keeps s (Store i) h =
    shifted-keeps s (store_move s.shared s.counts s.memory i) h (store_move-keeps (length s.qpus) (length s.memory) s.shared s.counts s.memory i h.shared h.counts (memory-is s h))

pub happens-keeps : (s : MachineState) (step : Step) → IsInRange s → IsInRange (happens s step).state
unfolding happens
happens-keeps s step h =
    chosen (λ n. IsInRange n.state) (is_some s.broken) (record { state = s; effect = effect.Nothing }) (step_of s step) (λ _. h) (λ _. step-keeps s step h)

pub run_in_range : RunInRange
unfolding machine_run
run_in_range [] s h = h
run_in_range (step ∷ steps) s h = run_in_range steps (happens s step).state (happens-keeps s step h)

-- ---- an opening

opening_qpu-is : (uniforms : ℕ) (regs : Regs) → AreRegs regs → IsQpu uniforms (opening_qpu regs)
unfolding opening_qpu
opening_qpu-is uniforms regs h =
    record {
      regs = h;
      flow = record { place = omega arith; slots = omega arith; target = omega arith; ending = omega arith; issued = omega arith };
      written = record { file_a = tt; file_b = tt; accs = omega arith };
      ports = record { taken = omega arith; read_row = omega arith; rows_left = omega arith; age = omega arith; write_row = tt; load = tt; store = tt };
    }

opening_qpus-are : (uniforms : ℕ) (rs : List Regs) → ((k : ℕ) → IfSome (slice_get rs k) AreRegs) → AreQpus uniforms (map opening_qpu rs)
opening_qpus-are uniforms [] h k = tt
opening_qpus-are uniforms (r ∷ rs) h zero = opening_qpu-is uniforms r (h zero)
opening_qpus-are uniforms (r ∷ rs) h (suc k) = opening_qpus-are uniforms rs (λ j. h (suc j)) k

fixed-is : (plan : Planned) → IsPlan plan → AreWords plan.uniforms → IsFixed plan.qpus (length plan.memory) (fixed_of plan)
fixed-is plan h w =
    record {
      built = record { few = h.few; buffers = h.buffers_within; sites = record { uniforms = h.uniforms; scratch = h.scratch } };
      scratch = h.scratch_within;
      words = w;
      per = h.per;
    }

pub opening_in_range : OpeningInRange
unfolding opening opening_shared
opening_in_range plan contents h c w b =
    let many : length (map opening_qpu contents.regs) ≡ plan.qpus = length-map contents.regs opening_qpu ∙ c.many in
    record {
      fixed = subst (λ n. IsFixed n (length plan.memory) (fixed_of plan)) (sym many) (fixed-is plan h w);
      qpus = opening_qpus-are plan.per contents.regs c.regs;
      shared = record { vpm = c.vpm; owner = tt; loads = none-are; stores = none-are };
      counts = record { issued = omega arith; moved = omega arith; loads = omega arith; stores = omega arith };
      memory = b;
    }
