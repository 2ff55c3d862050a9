-- Each step keeps what holds of a run.
use Rattle.std.proofs.Common.{◌≡◌, ℕ, zero, suc, ◌+◌, ◌%◌, ◌<◌, ⊎_elim, List, [], ◌∷◌, length, get_or, refl, sym, ap, ◌∙◌, subst, arith, Bool, true, false}
use Rattle.std.specs.Prelude.{slice_get, ◌==◌, ◌&&◌, if◌then◌else◌}
use Rattle.std.specs.declared.option.Option.{Option}
use Rattle.std.specs.declared.option.Option.TheVariants.{Some, None}
use Rattle.std.proofs.lemmas.Bool.{cases_lt}
use Rattle.std.proofs.lemmas.Option.{slice_get_past, slice_get-get_or}
use Rattle.vpm_words.specs.Access.{is_busy}
use Rattle.vpm_words.specs.Moves.{number_at, load_element, store_all}
use Rattle.vpm_words.specs.declared.state.Element.{Element}
use Rattle.vpm_words.specs.declared.state.Shared.{Shared}
use Rattle.qpu_machine.specs.declared.state.Effect.{Effect}
use Rattle.qpu_machine.specs.declared.state.Effect.TheVariants as effect
use Rattle.qpu_machine.specs.declared.state.Step.{Step}
use Rattle.qpu_machine.specs.declared.state.Step.TheVariants.{Issue, Load, Store}
use Rattle.qpu_machine.specs.declared.state.Qpu.{Qpu}
use Rattle.qpu_machine.specs.Planned.{site_of}
use Rattle.qpu_machine.specs.IssueStep.{Local, local}
use Rattle.qpu_machine.specs.MoveStep.{unmoved, loaded, load_move, stored, store_move}
use Rattle.qpu_machine.specs.MachineState.{MachineState}
use Rattle.qpu_machine.specs.MachineRun.{Next, turn_at, turn, turned, shifted, step_of, happens, machine_run, is_effective, effective_steps, fault_after}
use Rattle.qpu_machine.specs.Reachable.{IsInRange}
use Rattle.qpu_machine.specs.SoloRun.{Want, want, done_alone, row_wanted, performed, IsGiven, KeepsApart, Note, Solo, alone, solo, noted, notes_after, run_notes}
use Rattle.qpu_machine.specs.Opening.{opening_qpu, zero_regs}
use Rattle.qpu_machine.proofs.Split.{step_splits}
use Rattle.qpu_machine.proofs.Steps.{happens_goes, issue_is, chosen, load_is, store_is, happens_fixed}
use Rattle.qpu_machine.proofs.RangeRuns.{happens-keeps}
use Rattle.solo_law.proofs.Changes.{changed_by_all}
use Rattle.solo_law.specs.Sharing.{Shares, of_qpu}
use Rattle.solo_law.specs.Premises.{qpu_at, solo_of, next_of, Premises}
use Rattle.solo_law.specs.Laws.{sum_to, cost}
use Rattle.solo_law.proofs.Elements.{HasAt, has_at, store_length, store_elsewhere, store_first, remove_length}
use Rattle.solo_law.proofs.Alone.{solo_size}
use Rattle.solo_law.proofs.Invariant.{Agrees, Inv}
use Rattle.solo_law.proofs.Allowed.{Allowed, allowed}
use Rattle.solo_law.proofs.Agreeing.{load_agreed, store_agreed, stores_none, stores_apart_of, writer}
use Rattle.solo_law.proofs.Words.{number_is, step_count, IsKept, word_kept}

-- a state of the machine's run, after n effective steps and the words c k of each QPU k
pub record Now (x : Shares) (w : MachineState) (n : ℕ) (c : ℕ → List Note) (s : MachineState) : Type 0 where
  pub fixed : s.fixed ≡ w.fixed
  pub unbroken : s.broken ≡ None
  pub range : IsInRange s
  pub inv : Inv x w n c s.qpus s.shared s.memory

-- the same count and notes, written in another way
pub renamed : (x : Shares) (w : MachineState) (n : ℕ) (c : ℕ → List Note) (qpus : List Qpu) (sh : Shared) (mem : List ℕ) → Inv x w n c qpus sh mem
    → (m : ℕ) (d : ℕ → List Note) → n ≡ m → ((j : ℕ) → c j ≡ d j) → Inv x w m d qpus sh mem
renamed x w n c qpus sh mem i m d en ec =
    record {
      at = i.at;
      many = i.many;
      reach = i.reach;
      here = i.here;
      notes = λ j lt. i.notes j lt ∙ ec j;
      size = i.size;
      agrees = i.agrees;
      rest = i.rest;
      totals = i.totals;
      count = let b = i.count in omega arith;
    }

-- what is seen of a word hangs on what no run changes
noted_same : (s t : MachineState) (k : ℕ) (o : Option Qpu) (ns : List Note) → s.fixed ≡ t.fixed → noted s k o ns ≡ noted t k o ns
noted_same s t k None ns e = refl
noted_same s t k (Some q) ns e = ap (λ f. noted (record s { fixed = f }) k (Some q) ns) e

module _ (x : Shares) (w : MachineState) (fits : Premises x w) (n : ℕ) (c : ℕ → List Note) (now : MachineState) (h : Now x w n c now) where
  abbrev i : Inv x w n c now.qpus now.shared now.memory
  i = h.inv

  pub given_now : IsGiven (length w.memory) (record { vpm = now.shared.vpm; memory = now.memory })
  given_now = record { vpm = h.range.shared.vpm; many = i.size; bytes = h.range.memory }

  pub allowed_at : (k : ℕ) → k < length w.qpus → Allowed (want w.fixed.code (site_of w.fixed k) (i.at k).qpu) k (i.at k).shared.owner (i.at k).due
  allowed_at k lt =
      let r = i.reach k lt in
      let s : Solo = solo_of x w k r.contents in
      let d : Want = next_of w k s in
      subst (λ s. Allowed (want w.fixed.code (site_of w.fixed k) s.qpu) k s.shared.owner s.due) r.is
      (subst (λ m. Allowed d m s.shared.owner s.due) (number_is w.fixed k)
      (allowed (of_qpu x k) d (site_of w.fixed k).number s ((fits.clean k lt).fine r.contents r.valid)))

  apart_at : (k : ℕ) → k < length w.qpus → KeepsApart (of_qpu x k) (want w.fixed.code (site_of w.fixed k) (i.at k).qpu) (i.at k) (i.at k).change
  apart_at k lt =
      let r = i.reach k lt in
      subst (λ s. KeepsApart (of_qpu x k) (want w.fixed.code (site_of w.fixed k) s.qpu) s s.change) r.is ((fits.clean k lt).fine r.contents r.valid).apart

  size_at : (k : ℕ) → k < length w.qpus → length (i.at k).memory ≡ length w.memory
  size_at k lt =
      let r = i.reach k lt in
      subst (λ s. length s.memory ≡ length w.memory) r.is (solo_size (of_qpu x k) w.fixed.code (site_of w.fixed k) w (qpu_at w k) r.contents)

  -- ---- an issue

  -- what an issue of QPU k leaves
  abbrev left : ℕ → Local
  left k = local now.fixed.code (site_of now.fixed k) (i.at k).qpu now.shared now.counts

  -- what an issue leaves is what its word wants, performed
  pub left_is : (k : ℕ) → left k ≡ performed (want w.fixed.code (site_of w.fixed k) (i.at k).qpu) k (i.at k).qpu now.shared now.counts
      (done_alone w.fixed.code (site_of w.fixed k) (i.at k).qpu (row_wanted (want w.fixed.code (site_of w.fixed k) (i.at k).qpu) now.shared.vpm))
  left_is k =
      let q : Qpu = (i.at k).qpu in
      let e : left k ≡ local w.fixed.code (site_of w.fixed k) q now.shared now.counts = ap (λ f. local f.code (site_of f k) q now.shared now.counts) h.fixed in
      let d : Want = want w.fixed.code (site_of w.fixed k) q in
      e ∙ step_splits w.fixed.code (site_of w.fixed k) q now.shared now.counts
      ∙ ap (λ m. performed d m q now.shared now.counts (done_alone w.fixed.code (site_of w.fixed k) q (row_wanted d now.shared.vpm))) (number_is w.fixed k)

  left_kept : (k : ℕ) → k < length w.qpus → IsKept x w n c now.qpus now.memory k (left k)
  left_kept k lt =
      subst (λ l. IsKept x w n c now.qpus now.memory k l) (sym (left_is k))
      (word_kept x w fits n c now.qpus now.shared now.memory i given_now k lt (want w.fixed.code (site_of w.fixed k) (i.at k).qpu) refl (size_at k lt) (apart_at k lt)
      (allowed_at k lt) now.counts)

  -- the notes after a step that did this
  abbrev noted_by : Step → Effect → ℕ → List Note
  noted_by (Issue k) e t = if (k == t) && is_effective e then noted now t (slice_get now.qpus t) (c t) else c t
  noted_by (Load j) e t = c t
  noted_by (Store j) e t = c t

  -- what is to be shown of a step to this state
  record Fine (step : Step) (next : Next) : Type 0 where
    pub unbroken : next.state.broken ≡ None
    pub inv : Inv x w (n + step_count next.effect) (λ t. noted_by step next.effect t) next.state.qpus next.state.shared next.state.memory

  issued : (k : ℕ) → k < length w.qpus → Fine (Issue k) (turned now (turn_at now.fixed now.qpus now.shared now.counts k (Some (i.at k).qpu)))
  issued k lt =
      let kept = left_kept k lt in
      record {
        unbroken = ap (λ o. fault_after (left k).effect o) h.unbroken ∙ kept.sound;
        inv = renamed x w _ _ _ _ _ kept.inv _ _ refl
            (λ t. ap (λ l. if (k == t) && is_effective (left k).effect then l else c t) (sym (noted_same now w t (slice_get now.qpus t) (c t) h.fixed)));
      }

  nobody : (k : ℕ) → Fine (Issue k) (turned now (turn_at now.fixed now.qpus now.shared now.counts k None))
  nobody k = record { unbroken = h.unbroken; inv = renamed x w _ _ _ _ _ i _ _ (omega arith) (λ t. sym (no (k == t) _ (c t))) }
    where
      no : (b : Bool) (l m : List Note) → (if b && false then l else m) ≡ m
      no true l m = refl
      no false l m = refl

  step_is : (step : Step) → step_of now step ≡ happens now step
  step_is step = sym (happens_goes now step h.unbroken)

  issue_fine : (k : ℕ) → Fine (Issue k) (happens now (Issue k))
  unfolding step_of turn
  issue_fine k =
      ⊎_elim
      (λ lt. subst (Fine (Issue k)) (sym (issue_is now k (i.at k).qpu (i.here k lt)) ∙ step_is (Issue k)) (issued k lt))
      (λ le.
      let e : slice_get now.qpus k ≡ None = slice_get_past now.qpus k (let m = i.many in omega arith) in
      let y : turned now (turn_at now.fixed now.qpus now.shared now.counts k None) ≡ step_of now (Issue k) =
      ap (λ o. turned now (turn_at now.fixed now.qpus now.shared now.counts k o)) (sym e) in
      subst (Fine (Issue k)) (y ∙ step_is (Issue k)) (nobody k))
      (cases_lt k (length w.qpus))

  -- ---- a moved element

  load_moved : (j : ℕ) (e : Element) → slice_get now.shared.loads j ≡ Some e → (m : ℕ) → Fine (Load m) (shifted now (loaded now.shared now.counts now.memory j (Some e)))
  load_moved j e at m =
      let all : Shared = now.shared in
      let has : HasAt all.loads j e = has_at all.loads j e at in
      let z = stores_none x w i.at all.owner all.vpm now.memory all.loads all.stores j e has i.agrees in
      record {
        unbroken = h.unbroken;
        inv = record {
          at = i.at;
          many = i.many;
          reach = i.reach;
          here = i.here;
          notes = i.notes;
          size = i.size;
          agrees = load_agreed x w i.at all.owner all.vpm now.memory all.loads all.stores j e has i.agrees;
          rest = i.rest;
          totals = λ a al sx.
              ap (λ l. number_at 4 l a) (ap (λ l. store_all l (load_element e now.memory all.vpm) now.memory) z ∙ sym (ap (λ l. store_all l all.vpm now.memory) z)) ∙ i.totals a al sx;
          count = let b = i.count in let l = remove_length all.loads j e has in omega arith;
        };
      }

  store_moved : (j : ℕ) (e : Element) → slice_get now.shared.stores j ≡ Some e → (m : ℕ) → Fine (Store m) (shifted now (stored now.shared now.counts now.memory j (Some e)))
  store_moved j e at m =
      let all : Shared = now.shared in
      let has : HasAt all.stores j e = has_at all.stores j e at in
      record {
        unbroken = h.unbroken;
        inv = record {
          at = i.at;
          many = i.many;
          reach = i.reach;
          here = i.here;
          notes = i.notes;
          size = store_length e all.vpm now.memory ∙ i.size;
          agrees = store_agreed x w fits i.at all.owner all.vpm now.memory all.loads all.stores j e has i.agrees;
          rest = λ a no.
              store_elsewhere e all.vpm now.memory a
              (λ cov. let y = writer x w i.at all.owner all.vpm now.memory all.loads all.stores j e has i.agrees a cov in no y.0 y.1 y.2)
              ∙ i.rest a no;
          totals = λ a al sx.
              ap (λ l. number_at 4 l a) (store_first all.stores j e all.vpm now.memory has (stores_apart_of x w i.at all.owner all.vpm now.memory all.loads all.stores i.agrees))
              ∙ i.totals a al sx;
          count = let b = i.count in let l = remove_length all.stores j e has in omega arith;
        };
      }

  unmoved_fine : (step : Step) → ((e : Effect) (t : ℕ) → noted_by step e t ≡ c t) → Fine step (shifted now (unmoved now.shared now.counts now.memory))
  unmoved_fine step same = record { unbroken = h.unbroken; inv = renamed x w _ _ _ _ _ i _ _ (omega arith) (λ t. sym (same effect.Nothing t)) }

  load_fine : (m : ℕ) → Fine (Load m) (happens now (Load m))
  unfolding step_of load_move
  load_fine m = go now.shared.loads refl
    where
      go : (ls : List Element) → now.shared.loads ≡ ls → Fine (Load m) (happens now (Load m))
      go [] el =
          let y : shifted now (unmoved now.shared now.counts now.memory) ≡ step_of now (Load m) =
          ap (λ l. shifted now (if is_busy l then loaded now.shared now.counts now.memory (m % length l) (slice_get l (m % length l)) else unmoved now.shared now.counts now.memory)) (sym el) in
          subst (Fine (Load m)) (y ∙ step_is (Load m)) (unmoved_fine (Load m) (λ e t. refl))
      go (f ∷ ls) el =
          let e : Element = get_or (f ∷ ls) (m % length (f ∷ ls)) f in
          let y : step_of now (Load m) ≡ shifted now (loaded now.shared now.counts now.memory (m % length (f ∷ ls)) (Some e)) =
          ap (shifted now) (load_is now.shared now.counts now.memory m f ls el) in
          let at : slice_get now.shared.loads (m % length (f ∷ ls)) ≡ Some e = ap (λ l. slice_get l (m % length (f ∷ ls))) el ∙ chosen f ls m in
          subst (Fine (Load m)) (sym y ∙ step_is (Load m)) (load_moved (m % length (f ∷ ls)) e at m)

  store_fine : (m : ℕ) → Fine (Store m) (happens now (Store m))
  unfolding step_of store_move
  store_fine m = go now.shared.stores refl
    where
      go : (ss : List Element) → now.shared.stores ≡ ss → Fine (Store m) (happens now (Store m))
      go [] es =
          let y : shifted now (unmoved now.shared now.counts now.memory) ≡ step_of now (Store m) =
          ap (λ l. shifted now (if is_busy l then stored now.shared now.counts now.memory (m % length l) (slice_get l (m % length l)) else unmoved now.shared now.counts now.memory)) (sym es) in
          subst (Fine (Store m)) (y ∙ step_is (Store m)) (unmoved_fine (Store m) (λ e t. refl))
      go (f ∷ ss) es =
          let e : Element = get_or (f ∷ ss) (m % length (f ∷ ss)) f in
          let y : step_of now (Store m) ≡ shifted now (stored now.shared now.counts now.memory (m % length (f ∷ ss)) (Some e)) =
          ap (shifted now) (store_is now.shared now.counts now.memory m f ss es) in
          let at : slice_get now.shared.stores (m % length (f ∷ ss)) ≡ Some e = ap (λ l. slice_get l (m % length (f ∷ ss))) es ∙ chosen f ss m in
          subst (Fine (Store m)) (sym y ∙ step_is (Store m)) (store_moved (m % length (f ∷ ss)) e at m)

  step_fine : (step : Step) → Fine step (happens now step)
  step_fine (Issue k) = issue_fine k
  step_fine (Load m) = load_fine m
  step_fine (Store m) = store_fine m

  notes_are : (step : Step) (t : ℕ) → noted_by step (happens now step).effect t ≡ notes_after t now step (c t)
  notes_are (Issue k) t = refl
  notes_are (Load m) t = refl
  notes_are (Store m) t = refl

  pub step_kept : (step : Step) → Now x w (n + step_count (happens now step).effect) (λ t. notes_after t now step (c t)) (happens now step).state
  step_kept step =
      let f = step_fine step in
      record {
        fixed = happens_fixed now step ∙ h.fixed;
        unbroken = f.unbroken;
        range = happens-keeps now step h.range;
        inv = renamed x w _ _ _ _ _ f.inv _ _ refl (notes_are step);
      }

-- ---- a run

pub run_kept : (x : Shares) (w : MachineState) → Premises x w → (steps : List Step) (now : MachineState) (n : ℕ) (c : ℕ → List Note) → Now x w n c now
    → Now x w (n + effective_steps steps now) (λ t. run_notes t steps now (c t)) (machine_run steps now)
unfolding machine_run effective_steps run_notes
run_kept x w fits [] now n c h = record { fixed = h.fixed; unbroken = h.unbroken; range = h.range; inv = renamed x w n c _ _ _ h.inv (n + 0) c (omega arith) (λ t. refl) }
run_kept x w fits (step ∷ steps) now n c h =
    let r = run_kept x w fits steps (happens now step).state (n + step_count (happens now step).effect) (λ t. notes_after t now step (c t)) (step_kept x w fits n c now h step) in
    record { fixed = r.fixed; unbroken = r.unbroken; range = r.range; inv = renamed x w _ _ _ _ _ r.inv _ _ (omega arith) (λ t. refl) }

total_nothing : (a n b : ℕ) → changed_by_all a (λ k. []) n b ≡ b
total_nothing a zero b = refl
total_nothing a (suc n) b = total_nothing a n b

sum_nothing : (w : MachineState) (n : ℕ) → sum_to n (λ k. cost (alone w (qpu_at w k))) ≡ 0
sum_nothing w zero = refl
sum_nothing w (suc n) = let r = sum_nothing w n in omega arith

pub start_now : (x : Shares) (w : MachineState) → Premises x w → Now x w 0 (λ t. []) w
unfolding solo
start_now x w fits =
    let all : Shared = w.shared in
    record {
      fixed = refl;
      unbroken = fits.start.broken;
      range = fits.start.range;
      inv = record {
        at = λ k. alone w (qpu_at w k);
        many = refl;
        reach = λ k lt. record { contents = []; valid = tt; is = refl };
        here = λ k lt. slice_get-get_or w.qpus k (opening_qpu zero_regs) lt;
        notes = λ k lt. refl;
        size = refl;
        agrees = subst (λ o. Agrees x w (λ k. alone w (qpu_at w k)) o all.vpm w.memory all.loads all.stores) (sym fits.start.owner)
            (fits.start.loads, fits.start.stores, λ j lt. record { free = fits.start.owner; due = refl; agree = λ a t f. refl });
        rest = λ a no. refl;
        totals = λ a al sx.
            subst (λ l. number_at 4 (store_all l all.vpm w.memory) a ≡ changed_by_all a (λ k. []) (length w.qpus) (number_at 4 w.memory a)) (sym fits.start.stores)
            (sym (total_nothing a (length w.qpus) (number_at 4 w.memory a)));
        count = let z = sum_nothing w (length w.qpus) in let l : length all.loads ≡ 0 = ap length fits.start.loads in let s : length all.stores ≡ 0 = ap length fits.start.stores in omega arith;
      };
    }

pub run_now : (x : Shares) (w : MachineState) → Premises x w → (steps : List Step) → Now x w (effective_steps steps w) (λ t. run_notes t steps w []) (machine_run steps w)
run_now x w fits steps =
    let r = run_kept x w fits steps w 0 (λ t. []) (start_now x w fits) in
    record { fixed = r.fixed; unbroken = r.unbroken; range = r.range; inv = renamed x w _ _ _ _ _ r.inv _ _ (omega arith) (λ t. refl) }
