-- One step: what it is, and what it leaves as it was.
use Rattle.std.specs.Prelude.{◌≡◌, ◌≢◌, ◌<◌, ◌%◌, ◌&&◌, ℕ, List, ◌∷◌, Bool, true, false, not, length, slice_get, slice_set, is_some, if◌then◌else◌, refl}
use Rattle.std.specs.declared.option.Option.{Option}
use Rattle.std.specs.declared.option.Option.TheVariants.{Some, None}
use Rattle.std.proofs.Common.{arith, ap, sym, ◌∙◌, subst, get_or}
use Rattle.std.proofs.lemmas.Bool.{and_parts}
use Rattle.std.proofs.lemmas.Nat.{mod_below}
use Rattle.std.proofs.lemmas.List.{set-get_or, length-set}
use Rattle.std.proofs.lemmas.Option.{get_or_from_slice_get, slice_get_within, slice_get-get_or}
use Rattle.std.proofs.lemmas.List.Folds.{list_all_at}
use Rattle.qpu_encode.specs.declared.form.Form.{Form}
use Rattle.vpm_words.specs.Access.{Site, is_busy}
use Rattle.vpm_words.specs.Moves.{store_element, bytes_out}
use Rattle.vpm_words.specs.declared.state.Element.{Element}
use Rattle.vpm_words.specs.declared.state.Rule.{Rule}
use Rattle.vpm_words.specs.declared.state.Shared.{Shared}
use Rattle.vpm_words.proofs.MoveLaws.{length-put_bytes}
use Rattle.qpu_machine.specs.declared.state.Effect.{Effect}
use Rattle.qpu_machine.specs.declared.state.Effect.TheVariants as effect
use Rattle.qpu_machine.specs.declared.state.Stop.TheVariants as stop
use Rattle.qpu_machine.specs.declared.state.Step.{Step}
use Rattle.qpu_machine.specs.declared.state.Step.TheVariants.{Issue, Load, Store}
use Rattle.qpu_machine.specs.declared.state.Qpu.{Qpu}
use Rattle.qpu_machine.specs.declared.state.Counts.{Counts}
use Rattle.qpu_machine.specs.declared.state.Fault.{Fault}
use Rattle.qpu_machine.specs.Planned.{site_of}
use Rattle.qpu_machine.specs.IssueStep.{Local, local, judged, idle, done, tried, attempted, fetched}
use Rattle.qpu_machine.specs.MoveStep.{unmoved, loaded, load_move, stored, store_move}
use Rattle.qpu_machine.specs.MachineState.{MachineState, stop_of, stop_at, all_ended, are_idle}
use Rattle.qpu_machine.specs.MachineRun.{IsIdle, fault_after, turn, turn_at, turned, shifted, step_of, happens}

-- ---- what a step is

pub happens_goes : (s : MachineState) (step : Step) → s.broken ≡ None → happens s step ≡ step_of s step
unfolding happens
happens_goes s step e = rw e refl

pub happens_broken : (s : MachineState) (step : Step) (fault : Fault) → s.broken ≡ Some fault → happens s step ≡ record { state = s; effect = effect.Nothing }
unfolding happens
happens_broken s step fault e = rw e refl

-- an issue of a QPU that is there
pub issue_is : (s : MachineState) (k : ℕ) (q : Qpu) → slice_get s.qpus k ≡ Some q → step_of s (Issue k) ≡ turned s (turn_at s.fixed s.qpus s.shared s.counts k (Some q))
unfolding step_of turn
issue_is s k q e = ap (λ o. turned s (turn_at s.fixed s.qpus s.shared s.counts k o)) e

-- by number i there is always one of the elements that are left
pub chosen : (e : Element) (es : List Element) (i : ℕ) → slice_get (e ∷ es) (i % length (e ∷ es)) ≡ Some (get_or (e ∷ es) (i % length (e ∷ es)) e)
chosen e es i = slice_get-get_or (e ∷ es) (i % length (e ∷ es)) e (mod_below i (length (e ∷ es)) (omega arith))

pub load_is : (s : Shared) (c : Counts) (memory : List ℕ) (i : ℕ) (e : Element) (es : List Element) → s.loads ≡ e ∷ es
    → load_move s c memory i ≡ loaded s c memory (i % length (e ∷ es)) (Some (get_or (e ∷ es) (i % length (e ∷ es)) e))
unfolding load_move
load_is s c memory i e es h =
    ap (λ xs. if is_busy xs then loaded s c memory (i % length xs) (slice_get xs (i % length xs)) else unmoved s c memory) h
    ∙ ap (loaded s c memory (i % length (e ∷ es))) (chosen e es i)

pub store_is : (s : Shared) (c : Counts) (memory : List ℕ) (i : ℕ) (e : Element) (es : List Element) → s.stores ≡ e ∷ es
    → store_move s c memory i ≡ stored s c memory (i % length (e ∷ es)) (Some (get_or (e ∷ es) (i % length (e ∷ es)) e))
unfolding store_move
store_is s c memory i e es h =
    ap (λ xs. if is_busy xs then stored s c memory (i % length xs) (slice_get xs (i % length xs)) else unmoved s c memory) h
    ∙ ap (stored s c memory (i % length (e ∷ es))) (chosen e es i)

-- ---- an issue that changes nothing

judged_idle : (rule : Option Rule) (waits : Bool) (k : ℕ) (q : Qpu) (s : Shared) (c : Counts) (after : Local) → after.effect ≡ effect.Did
    → IsIdle (judged rule waits k q s c after).effect → judged rule waits k q s c after ≡ idle q s c (judged rule waits k q s c after).effect
judged_idle (Some rule) waits k q s c after e h = absurd h
judged_idle None true k q s c after e h = refl
judged_idle None false k q s c after e h = absurd (subst IsIdle e h)

attempted_idle : (g : Site) (o : Option Form) (q : Qpu) (s : Shared) (c : Counts) → IsIdle (attempted g o q s c).effect → attempted g o q s c ≡ idle q s c (attempted g o q s c).effect
unfolding attempted tried done
attempted_idle g None q s c h = absurd h
attempted_idle g (Some f) q s c h = judged_idle _ _ g.number q s c _ refl h

local_idle : (code : List ℕ) (g : Site) (q : Qpu) (s : Shared) (c : Counts) → IsIdle (local code g q s c).effect → local code g q s c ≡ idle q s c (local code g q s c).effect
unfolding local
local_idle code g q s c =
    let other : Local = attempted g (fetched code q.flow.place) q s c in
    elim q.flow.ended as (λ b. IsIdle (if b then idle q s c effect.Nothing else other).effect → (if b then idle q s c effect.Nothing else other) ≡ idle q s c (if b then idle q s c effect.Nothing else other).effect) [
      | true ↦ λ h. refl
      | false ↦ λ h. attempted_idle g (fetched code q.flow.place) q s c h
    ]

fault_stays : (e : Effect) (old : Option Fault) → IsIdle e → fault_after e old ≡ old
fault_stays effect.Nothing old h = refl
fault_stays effect.Stalled old h = refl
fault_stays effect.Did old h = absurd h
fault_stays effect.Moved old h = absurd h
fault_stays (effect.Broken rule k place) old h = absurd h

set_same : (qpus : List Qpu) (k : ℕ) (q : Qpu) → slice_get qpus k ≡ Some q → slice_set qpus k q ≡ qpus
set_same qpus k q e = ap (λ x. slice_set qpus k x) (sym (get_or_from_slice_get qpus k q q e)) ∙ set-get_or qpus k q

idle_at : (s : MachineState) (k : ℕ) (o : Option Qpu) → slice_get s.qpus k ≡ o → IsIdle (turn_at s.fixed s.qpus s.shared s.counts k o).effect → (turned s (turn_at s.fixed s.qpus s.shared s.counts k o)).state ≡ s
idle_at s k None e h = refl
idle_at s k (Some q) e h =
    let what = (local s.fixed.code (site_of s.fixed k) q s.shared s.counts).effect in
    let is : local s.fixed.code (site_of s.fixed k) q s.shared s.counts ≡ idle q s.shared s.counts what = local_idle s.fixed.code (site_of s.fixed k) q s.shared s.counts h in
    ap (λ l. record s { qpus = slice_set s.qpus k l.qpu; shared = l.shared; counts = l.counts; broken = fault_after l.effect s.broken }) is
    ∙ ap (λ qpus. record s { qpus = qpus; broken = fault_after what s.broken }) (set_same s.qpus k q e)
    ∙ ap (λ broken. record s { broken = broken }) (fault_stays what s.broken h)

-- ---- a move that changes nothing

loaded_idle : (s : Shared) (c : Counts) (memory : List ℕ) (j : ℕ) (o : Option Element) → IsIdle (loaded s c memory j o).effect → loaded s c memory j o ≡ unmoved s c memory
loaded_idle s c memory j None h = refl
loaded_idle s c memory j (Some e) h = absurd h

load_idle : (s : Shared) (c : Counts) (memory : List ℕ) (i : ℕ) → IsIdle (load_move s c memory i).effect → load_move s c memory i ≡ unmoved s c memory
unfolding load_move
load_idle s c memory i =
    let j = i % length s.loads in
    let o = slice_get s.loads j in
    elim (is_busy s.loads) as (λ b. IsIdle (if b then loaded s c memory j o else unmoved s c memory).effect → (if b then loaded s c memory j o else unmoved s c memory) ≡ unmoved s c memory) [
      | true ↦ λ h. loaded_idle s c memory j o h
      | false ↦ λ h. refl
    ]

stored_idle : (s : Shared) (c : Counts) (memory : List ℕ) (j : ℕ) (o : Option Element) → IsIdle (stored s c memory j o).effect → stored s c memory j o ≡ unmoved s c memory
stored_idle s c memory j None h = refl
stored_idle s c memory j (Some e) h = absurd h

store_idle : (s : Shared) (c : Counts) (memory : List ℕ) (i : ℕ) → IsIdle (store_move s c memory i).effect → store_move s c memory i ≡ unmoved s c memory
unfolding store_move
store_idle s c memory i =
    let j = i % length s.stores in
    let o = slice_get s.stores j in
    elim (is_busy s.stores) as (λ b. IsIdle (if b then stored s c memory j o else unmoved s c memory).effect → (if b then stored s c memory j o else unmoved s c memory) ≡ unmoved s c memory) [
      | true ↦ λ h. stored_idle s c memory j o h
      | false ↦ λ h. refl
    ]

step_idle : (s : MachineState) (step : Step) → IsIdle (step_of s step).effect → (step_of s step).state ≡ s
unfolding step_of turn
step_idle s (Issue k) h = idle_at s k (slice_get s.qpus k) refl h
step_idle s (Load i) h = ap (λ m. (shifted s m).state) (load_idle s.shared s.counts s.memory i h)
step_idle s (Store i) h = ap (λ m. (shifted s m).state) (store_idle s.shared s.counts s.memory i h)

-- after a step that did nothing all is as before
pub happens_idle : (s : MachineState) (step : Step) → IsIdle (happens s step).effect → (happens s step).state ≡ s
unfolding happens
happens_idle s step =
    elim (is_some s.broken) as (λ b. IsIdle (if b then record { state = s; effect = effect.Nothing } else step_of s step).effect → (if b then record { state = s; effect = effect.Nothing } else step_of s step).state ≡ s) [
      | true ↦ λ h. refl
      | false ↦ λ h. step_idle s step h
    ]

-- ---- what no step changes

-- a fact of the old state that each step of a machine that goes on keeps
kept : (P : MachineState → Type 0) (s : MachineState) (step : Step) → P s → P (step_of s step).state → P (happens s step).state
unfolding happens
kept P s step old new =
    elim (is_some s.broken) as (λ b. P (if b then record { state = s; effect = effect.Nothing } else step_of s step).state) [
      | true ↦ old
      | false ↦ new
    ]

turned_count : (s : MachineState) (k : ℕ) (o : Option Qpu) → length (turned s (turn_at s.fixed s.qpus s.shared s.counts k o)).state.qpus ≡ length s.qpus
turned_count s k None = refl
turned_count s k (Some q) = length-set s.qpus k (local s.fixed.code (site_of s.fixed k) q s.shared s.counts).qpu

step_count : (s : MachineState) (step : Step) → length (step_of s step).state.qpus ≡ length s.qpus
unfolding step_of turn
step_count s (Issue k) = turned_count s k (slice_get s.qpus k)
step_count s (Load i) = refl
step_count s (Store i) = refl

pub happens_count : (s : MachineState) (step : Step) → length (happens s step).state.qpus ≡ length s.qpus
happens_count s step = kept (λ t. length t.qpus ≡ length s.qpus) s step refl (step_count s step)

step_fixed : (s : MachineState) (step : Step) → (step_of s step).state.fixed ≡ s.fixed
unfolding step_of
step_fixed s (Issue k) = refl
step_fixed s (Load i) = refl
step_fixed s (Store i) = refl

pub happens_fixed : (s : MachineState) (step : Step) → (happens s step).state.fixed ≡ s.fixed
happens_fixed s step = kept (λ t. t.fixed ≡ s.fixed) s step refl (step_fixed s step)

pub length-store_element : (e : Element) (vpm : List (List ℕ)) (memory : List ℕ) → length (store_element e vpm memory) ≡ length memory
unfolding store_element
length-store_element e vpm memory = length-put_bytes (bytes_out e vpm) memory e.address

loaded_memory : (s : Shared) (c : Counts) (memory : List ℕ) (j : ℕ) (o : Option Element) → (loaded s c memory j o).memory ≡ memory
loaded_memory s c memory j None = refl
loaded_memory s c memory j (Some e) = refl

-- a load doesn't touch the memory
pub load_memory : (s : Shared) (c : Counts) (memory : List ℕ) (i : ℕ) → (load_move s c memory i).memory ≡ memory
unfolding load_move
load_memory s c memory i =
    let j = i % length s.loads in
    let o = slice_get s.loads j in
    elim (is_busy s.loads) as (λ b. (if b then loaded s c memory j o else unmoved s c memory).memory ≡ memory) [
      | true ↦ loaded_memory s c memory j o
      | false ↦ refl
    ]

stored_size : (s : Shared) (c : Counts) (memory : List ℕ) (j : ℕ) (o : Option Element) → length (stored s c memory j o).memory ≡ length memory
stored_size s c memory j None = refl
stored_size s c memory j (Some e) = length-store_element e s.vpm memory

pub store_size : (s : Shared) (c : Counts) (memory : List ℕ) (i : ℕ) → length (store_move s c memory i).memory ≡ length memory
unfolding store_move
store_size s c memory i =
    let j = i % length s.stores in
    let o = slice_get s.stores j in
    elim (is_busy s.stores) as (λ b. length (if b then stored s c memory j o else unmoved s c memory).memory ≡ length memory) [
      | true ↦ stored_size s c memory j o
      | false ↦ refl
    ]

step_size : (s : MachineState) (step : Step) → length (step_of s step).state.memory ≡ length s.memory
unfolding step_of
step_size s (Issue k) = refl
step_size s (Load i) = ap length (load_memory s.shared s.counts s.memory i)
step_size s (Store i) = store_size s.shared s.counts s.memory i

pub happens_size : (s : MachineState) (step : Step) → length (happens s step).state.memory ≡ length s.memory
happens_size s step = kept (λ t. length t.memory ≡ length s.memory) s step refl (step_size s step)

-- ---- a machine that has stopped

-- where all QPUs have ended, one that is there has
ended_at : (qpus : List Qpu) (k : ℕ) (q : Qpu) → all_ended qpus ≡ true → slice_get qpus k ≡ Some q → q.flow.ended ≡ true
ended_at qpus k q all e =
    let within : k < length qpus = slice_get_within qpus k q e in
    let there : get_or qpus k q ≡ q = get_or_from_slice_get qpus k q q e in
    elim q.flow.ended as (λ b. q.flow.ended ≡ b → b ≡ true) [
      | true ↦ λ t. refl
      | false ↦ λ t.
          let not_all : all_ended qpus ≡ false = list_all_at (λ x. x.flow.ended) qpus k q within (ap (λ x. x.flow.ended) there ∙ t) in
          cc
    ] refl

pub local_ended : (code : List ℕ) (g : Site) (q : Qpu) (s : Shared) (c : Counts) → q.flow.ended ≡ true → (local code g q s c).effect ≡ effect.Nothing
unfolding local
local_ended code g q s c e = rw e refl

turn_over : (s : MachineState) (k : ℕ) (o : Option Qpu) → slice_get s.qpus k ≡ o → all_ended s.qpus ≡ true → (turn_at s.fixed s.qpus s.shared s.counts k o).effect ≡ effect.Nothing
turn_over s k None e all = refl
turn_over s k (Some q) e all = local_ended s.fixed.code (site_of s.fixed k) q s.shared s.counts (ended_at s.qpus k q all e)

pub load_none : (s : Shared) (c : Counts) (memory : List ℕ) (i : ℕ) → is_busy s.loads ≡ false → (load_move s c memory i).effect ≡ effect.Nothing
unfolding load_move
load_none s c memory i e = rw e refl

pub store_none : (s : Shared) (c : Counts) (memory : List ℕ) (i : ℕ) → is_busy s.stores ≡ false → (store_move s c memory i).effect ≡ effect.Nothing
unfolding store_move
store_none s c memory i e = rw e refl

not_busy : (b : Bool) → not b ≡ true → b ≡ false
not_busy true h = sym h
not_busy false h = refl

step_over : (s : MachineState) (step : Step) → (are_idle s.shared && all_ended s.qpus) ≡ true → (step_of s step).effect ≡ effect.Nothing
unfolding step_of turn
step_over s (Issue k) h = turn_over s k (slice_get s.qpus k) refl (and_parts (are_idle s.shared) (all_ended s.qpus) h).1
step_over s (Load i) h =
    let engines = and_parts (not (is_busy s.shared.loads)) (not (is_busy s.shared.stores)) (and_parts (are_idle s.shared) (all_ended s.qpus) h).0 in
    load_none s.shared s.counts s.memory i (not_busy (is_busy s.shared.loads) engines.0)
step_over s (Store i) h =
    let engines = and_parts (not (is_busy s.shared.loads)) (not (is_busy s.shared.stores)) (and_parts (are_idle s.shared) (all_ended s.qpus) h).0 in
    store_none s.shared s.counts s.memory i (not_busy (is_busy s.shared.stores) engines.1)

stopped_at : (s : MachineState) (step : Step) (broken : Option Fault) (over : Bool) → (are_idle s.shared && all_ended s.qpus) ≡ over → stop_at broken over ≢ stop.Going
    → (if is_some broken then record { state = s; effect = effect.Nothing } else step_of s step).effect ≡ effect.Nothing
stopped_at s step (Some fault) over e h = refl
stopped_at s step None true e h = step_over s step e
stopped_at s step None false e h = absurd (h refl)

-- on a machine that has stopped nothing happens
pub happens_stopped : (s : MachineState) (step : Step) → stop_of s ≢ stop.Going → (happens s step).effect ≡ effect.Nothing
unfolding happens stop_of
happens_stopped s step h = stopped_at s step s.broken (are_idle s.shared && all_ended s.qpus) refl h
