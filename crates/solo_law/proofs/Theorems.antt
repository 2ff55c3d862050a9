-- The laws.
use Rattle.std.proofs.Common.{◌≡◌, ◌≢◌, ℕ, zero, suc, ◌<◌, ◌≤◌, ◌%◌, ◌⊎◌, inl, inr, ⊎_elim, List, [], ◌∷◌, ◌++◌, length, get_or, refl, sym, ap, ◌∙◌, subst, arith, Bool, true, false}
use Rattle.std.specs.Prelude.{slice_get, not, ◌&&◌, if◌then◌else◌}
use Rattle.std.specs.List.{list_all}
use Rattle.std.specs.declared.option.Option.{Option}
use Rattle.std.specs.declared.option.Option.TheVariants.{Some, None}
use Rattle.std.proofs.lemmas.Bool.{cases_lt}
use Rattle.std.proofs.lemmas.Option.{slice_get_past, slice_get_within}
use Rattle.vpm_words.specs.Access.{Given, Demand, share, Private, Setup, Take, Give, ReadRow, WriteRow, StartLoad, StartStore, AwaitLoad, AwaitStore, owner_seen, is_busy}
use Rattle.vpm_words.specs.Rules.{is_other}
use Rattle.vpm_words.specs.Moves.{number_at, store_all}
use Rattle.vpm_words.specs.declared.state.Element.{Element}
use Rattle.vpm_words.specs.declared.state.Rule.{Rule}
use Rattle.vpm_words.specs.declared.state.Rule.TheVariants.{H8, H9, H10, H11}
use Rattle.vpm_words.specs.declared.state.Shared.{Shared}
use Rattle.qpu_machine.specs.declared.state.Effect.{Effect}
use Rattle.qpu_machine.specs.declared.state.Effect.TheVariants as effect
use Rattle.qpu_machine.specs.declared.state.Stop.TheVariants as stop
use Rattle.qpu_machine.specs.declared.state.Step.{Step}
use Rattle.qpu_machine.specs.declared.state.Step.TheVariants.{Issue, Load, Store}
use Rattle.qpu_machine.specs.declared.state.Qpu.{Qpu}
use Rattle.qpu_machine.specs.declared.state.Counts.{Counts}
use Rattle.qpu_machine.specs.Planned.{site_of}
use Rattle.qpu_machine.specs.IssueStep.{Local, idle, local, judged}
use Rattle.qpu_machine.specs.MachineState.{MachineState, stop_of, stop_at, all_ended, are_idle}
use Rattle.qpu_machine.specs.MachineRun.{turn, turn_at, turned, step_of, happens, machine_run, is_effective}
use Rattle.qpu_machine.specs.SoloRun.{Want, Rests, Breaks, Wants, done_alone, row_wanted, performed, Due, Note, Made, Solo, AnyCovers}
use Rattle.qpu_machine.proofs.Split.{step_splits}
use Rattle.qpu_machine.proofs.SplitUses.{ended_rests, rests_ended}
use Rattle.qpu_machine.proofs.Steps.{happens_goes, issue_is, load_is, store_is}
use Rattle.solo_law.specs.Sharing.{Shares, of_qpu, changed_by, Commute, own, without_numbers, IsOrder}
use Rattle.solo_law.specs.Premises.{qpu_at, solo_of, next_of, ChangesOf, SetsOf, TouchesOf, Premises}
use Rattle.solo_law.specs.Laws.{load_started, store_started, Ends, EveryRunProjects, sum_to, cost, EveryRunIsBounded, NoRunIsStuck}
use Rattle.solo_law.proofs.Changes.{AreSmall, all_same, changed_by_all}
use Rattle.solo_law.proofs.Orders.{AllOf, all_of, any_order}
use Rattle.solo_law.proofs.Alone.{AreKnown, cost_most, notes_most, same_end, same_made, made_known, made_small}
use Rattle.solo_law.proofs.Invariant.{Out, Agrees, Inv}
use Rattle.solo_law.proofs.Allowed.{Allowed, mine_none, first_none, take_none, rows_free, none_busy}
use Rattle.solo_law.proofs.Words.{number_is, word_below, reads, sets}
use Rattle.solo_law.proofs.Steps.{Now, given_now, allowed_at, left_is, run_now}

-- ---- the stop of a run that breaks nothing

stops_sound : (o : Bool) (rule : Rule) (k place : ℕ) → stop_at None o ≢ stop.Broken rule k place
stops_sound true rule k place h = cc
stops_sound false rule k place h = cc

unbroken_stop : (s : MachineState) → s.broken ≡ None → (rule : Rule) (k place : ℕ) → stop_of s ≢ stop.Broken rule k place
unfolding stop_of
unbroken_stop s e rule k place h = stops_sound (are_idle s.shared && all_ended s.qpus) rule k place (sym (ap (λ b. stop_at b (are_idle s.shared && all_ended s.qpus)) e) ∙ h)

over_if_finished : (o : Bool) → stop_at None o ≡ stop.Finished → o ≡ true
over_if_finished true h = refl
over_if_finished false h = cc

-- all QPUs have ended and no element is left
record IsOver (s : MachineState) : Type 0 where
  pub ended : list_all (λ q. q.flow.ended) s.qpus ≡ true
  pub loads : s.shared.loads ≡ []
  pub stores : s.shared.stores ≡ []

not_busy : (es : List Element) → not (is_busy es) ≡ true → es ≡ []
not_busy [] h = refl
not_busy (e ∷ es) h = cc

and_both : (a b c : Bool) → ((a && b) && c) ≡ true → (a ≡ true) × (b ≡ true) × (c ≡ true)
and_both true true true h = (refl, refl, refl)
and_both true true false h = cc
and_both true false c h = cc
and_both false b c h = cc

is_over : (s : MachineState) → s.broken ≡ None → stop_of s ≡ stop.Finished → IsOver s
unfolding stop_of
is_over s e h =
    let y = over_if_finished (are_idle s.shared && all_ended s.qpus) (sym (ap (λ b. stop_at b (are_idle s.shared && all_ended s.qpus)) e) ∙ h) in
    let z = and_both (not (is_busy s.shared.loads)) (not (is_busy s.shared.stores)) (all_ended s.qpus) y in
    record { ended = z.2; loads = not_busy s.shared.loads z.0; stores = not_busy s.shared.stores z.1 }

over_finished : (s : MachineState) → s.broken ≡ None → IsOver s → stop_of s ≡ stop.Finished
unfolding stop_of
over_finished s e h =
    ap (λ b. stop_at b (are_idle s.shared && all_ended s.qpus)) e
    ∙ ap (λ l. stop_at None ((not (is_busy l) && not (is_busy s.shared.stores)) && all_ended s.qpus)) h.loads
    ∙ ap (λ l. stop_at None ((true && not (is_busy l)) && all_ended s.qpus)) h.stores
    ∙ ap (λ b. stop_at None ((true && true) && b)) h.ended

ended_each : (qs : List Qpu) (k : ℕ) (q : Qpu) → list_all (λ q. q.flow.ended) qs ≡ true → slice_get qs k ≡ Some q → q.flow.ended ≡ true
ended_each [] k q h e = cc
ended_each (p ∷ qs) zero q h e = let both = first_of_two p.flow.ended (list_all (λ q. q.flow.ended) qs) h in let same : p ≡ q = cc in subst (λ y. y.flow.ended ≡ true) same both.0
  where
    first_of_two : (a b : Bool) → (a && b) ≡ true → (a ≡ true) × (b ≡ true)
    first_of_two true true h = (refl, refl)
    first_of_two true false h = cc
    first_of_two false b h = cc
ended_each (p ∷ qs) (suc k) q h e = ended_each qs k q (rest p.flow.ended (list_all (λ q. q.flow.ended) qs) h) e
  where
    rest : (a b : Bool) → (a && b) ≡ true → b ≡ true
    rest true b h = h
    rest false b h = cc

all_end : (qs : List Qpu) → ((k : ℕ) (q : Qpu) → slice_get qs k ≡ Some q → q.flow.ended ≡ true) → list_all (λ q. q.flow.ended) qs ≡ true
all_end [] h = refl
all_end (q ∷ qs) h = rw (h 0 q refl) (all_end qs (λ k p e. h (suc k) p e))

-- once all have ended, none owns the mutex
none_owns : (x : Shares) (w : MachineState) (at : ℕ → Solo) (o : Option ℕ) (v : List (List ℕ)) (mem : List ℕ) (ls ss : List Element) → Agrees x w at o v mem ls ss
    → ((k : ℕ) → k < length w.qpus → (at k).shared.owner ≡ None) → (k : ℕ) → k < length w.qpus → Out x w k (at k) mem
none_owns x w at None v mem ls ss ag h k lt = ag.2 k lt
none_owns x w at (Some j) v mem ls ss ag h k lt = let a = h j ag.0 in let b = ag.1.own in absurd cc

module _ (x : Shares) (w : MachineState) (fits : Premises x w) (n : ℕ) (c : ℕ → List Note) (now : MachineState) (h : Now x w n c now) where
  abbrev i : Inv x w n c now.qpus now.shared now.memory
  i = h.inv

  ended_at : IsOver now → (k : ℕ) → k < length w.qpus → next_of w k (i.at k) ≡ Rests
  ended_at over k lt = ended_rests w.fixed.code (site_of w.fixed k) (i.at k).qpu (ended_each now.qpus k (i.at k).qpu over.ended (i.here k lt))

  freed : (k : ℕ) → k < length w.qpus → next_of w k (i.at k) ≡ Rests → (i.at k).shared.owner ≡ None
  freed k lt e = subst (λ d. Allowed d k (i.at k).shared.owner (i.at k).due) e (allowed_at x w fits n c now h k lt)

  reached_end : IsOver now → (k : ℕ) → (lt : k < length w.qpus) → next_of w k (solo_of x w k (i.reach k lt).contents) ≡ Rests
  reached_end over k lt = let r = i.reach k lt in ap (λ s. next_of w k s) r.is ∙ ended_at over k lt

  left : IsOver now → (k : ℕ) → k < length w.qpus → (contents : List Given) → Ends x w k contents → (a : ℕ) → TouchesOf x w k a → x.is_shared a ≡ false
      → get_or now.memory a 0 ≡ get_or (solo_of x w k contents).memory a 0
  left over k lt contents ends a t f =
      let all : Shared = now.shared in
      let out = none_owns x w i.at all.owner all.vpm now.memory all.loads all.stores i.agrees (λ j ltj. freed j ltj (ended_at over j ltj)) k lt in
      let r = i.reach k lt in
      out.agree a t f ∙ ap (λ s. get_or s.memory a 0) (sym r.is)
      ∙ same_end (of_qpu x k) w.fixed.code (site_of w.fixed k) w (qpu_at w k) (fits.clean k lt) r.contents contents r.valid ends.valid (reached_end over k lt) ends.rests a f

  left_changed : IsOver now → (contents : ℕ → List Given) → ((k : ℕ) → k < length w.qpus → Ends x w k (contents k)) → (a : ℕ) → a % 4 ≡ 0 → x.is_shared a ≡ true
      → number_at 4 now.memory a ≡ changed_by_all a (λ k. (solo_of x w k (contents k)).made) (length w.qpus) (number_at 4 w.memory a)
  left_changed over contents ends a al sx =
      let all : Shared = now.shared in
      ap (λ l. number_at 4 (store_all l all.vpm now.memory) a) (sym over.stores) ∙ i.totals a al sx
      ∙ all_same a (λ k. (i.at k).made) (λ k. (solo_of x w k (contents k)).made) (length w.qpus) (number_at 4 w.memory a)
      (λ k lt.
      let r = i.reach k lt in
      ap (λ s. s.made) (sym r.is)
      ∙ same_made (of_qpu x k) w.fixed.code (site_of w.fixed k) w (qpu_at w k) (fits.clean k lt) r.contents (contents k) r.valid (ends k lt).valid (reached_end over k lt) (ends k lt).rests)

-- a fact of what an issue leaves holds where nothing is changed and where the word is done
judged_either : (P : Local → Type 0) (b : Option Rule) (y : Bool) (k : ℕ) (q : Qpu) (s : Shared) (counts : Counts) (l : Local)
    → ((e : Effect) → P (idle q s counts e)) → P l → P (judged b y k q s counts l)
judged_either P (Some rule) y k q s counts l hi hl = hi _
judged_either P None true k q s counts l hi hl = hi _
judged_either P None false k q s counts l hi hl = hl

-- ---- the transfers that are started

module _ (x : Shares) (w : MachineState) (fits : Premises x w) (n : ℕ) (c : ℕ → List Note) (now : MachineState) (h : Now x w n c now) where
  abbrev inv : Inv x w n c now.qpus now.shared now.memory
  inv = h.inv

  -- what an issue of QPU k leaves, and whose it is
  abbrev Left : (Shared → List Element) → (ℕ → Type 0) → Local → Type 0
  Left part Mine l = (a : ℕ) → AnyCovers (part l.shared) a → Mine a

  from_none : (part : Shared → List Element) (Mine : ℕ → Type 0) → part now.shared ≡ [] → (s : Shared) → part s ≡ part now.shared → (a : ℕ) → AnyCovers (part s) a → Mine a
  from_none part Mine e s es a cov = absurd (subst (λ l. AnyCovers l a) (es ∙ e) cov)

  load_mine : (k : ℕ) → k < length w.qpus → now.shared.loads ≡ [] → (d : Want) → next_of w k (inv.at k) ≡ d → (after : Qpu)
      → Left (λ s. s.loads) (TouchesOf x w k) (performed d k (inv.at k).qpu now.shared now.counts after)
  load_mine k lt e Rests ed after = from_none (λ s. s.loads) (TouchesOf x w k) e now.shared refl
  load_mine k lt e (Breaks rule) ed after = from_none (λ s. s.loads) (TouchesOf x w k) e now.shared refl
  load_mine k lt e (Wants d) ed after =
      judged_either (Left (λ s. s.loads) (TouchesOf x w k)) _ _ k (inv.at k).qpu now.shared now.counts _
      (λ y. from_none (λ s. s.loads) (TouchesOf x w k) e now.shared refl) (shared_after d ed)
    where
      same : (s : Shared) → s.loads ≡ now.shared.loads → (a : ℕ) → AnyCovers s.loads a → TouchesOf x w k a
      same = from_none (λ s. s.loads) (TouchesOf x w k) e

      shared_after : (d : Demand) → next_of w k (inv.at k) ≡ Wants d → (a : ℕ) → AnyCovers (share d k now.shared).loads a → TouchesOf x w k a
      shared_after (Private late) ed = same (share (Private late) k now.shared) refl
      shared_after (Setup late) ed = same (share (Setup late) k now.shared) refl
      shared_after Take ed = same (share Take k now.shared) refl
      shared_after Give ed = same (share Give k now.shared) refl
      shared_after (ReadRow row late) ed = same (share (ReadRow row late) k now.shared) refl
      shared_after (WriteRow row words late) ed = same (share (WriteRow row words late) k now.shared) refl
      shared_after (StartLoad es late) ed = λ a cov. reads x w fits n c now.qpus now.shared now.memory inv (given_now x w fits n c now h) k lt es late ed (inv.at k).change refl a cov
      shared_after (StartStore es late) ed = same (share (StartStore es late) k now.shared) refl
      shared_after AwaitLoad ed = same (share AwaitLoad k now.shared) refl
      shared_after AwaitStore ed = same (share AwaitStore k now.shared) refl

  store_mine : (k : ℕ) → k < length w.qpus → now.shared.stores ≡ [] → (d : Want) → next_of w k (inv.at k) ≡ d → (after : Qpu)
      → Left (λ s. s.stores) (SetsOf x w k) (performed d k (inv.at k).qpu now.shared now.counts after)
  store_mine k lt e Rests ed after = from_none (λ s. s.stores) (SetsOf x w k) e now.shared refl
  store_mine k lt e (Breaks rule) ed after = from_none (λ s. s.stores) (SetsOf x w k) e now.shared refl
  store_mine k lt e (Wants d) ed after =
      judged_either (Left (λ s. s.stores) (SetsOf x w k)) _ _ k (inv.at k).qpu now.shared now.counts _
      (λ y. from_none (λ s. s.stores) (SetsOf x w k) e now.shared refl) (shared_after d ed)
    where
      same : (s : Shared) → s.stores ≡ now.shared.stores → (a : ℕ) → AnyCovers s.stores a → SetsOf x w k a
      same = from_none (λ s. s.stores) (SetsOf x w k) e

      shared_after : (d : Demand) → next_of w k (inv.at k) ≡ Wants d → (a : ℕ) → AnyCovers (share d k now.shared).stores a → SetsOf x w k a
      shared_after (Private late) ed = same (share (Private late) k now.shared) refl
      shared_after (Setup late) ed = same (share (Setup late) k now.shared) refl
      shared_after Take ed = same (share Take k now.shared) refl
      shared_after Give ed = same (share Give k now.shared) refl
      shared_after (ReadRow row late) ed = same (share (ReadRow row late) k now.shared) refl
      shared_after (WriteRow row words late) ed = same (share (WriteRow row words late) k now.shared) refl
      shared_after (StartLoad es late) ed = same (share (StartLoad es late) k now.shared) refl
      shared_after (StartStore es late) ed = λ a cov. sets x w fits n c now.qpus now.shared now.memory inv (given_now x w fits n c now h) k lt es late ed (inv.at k).change refl a cov
      shared_after AwaitLoad ed = same (share AwaitLoad k now.shared) refl
      shared_after AwaitStore ed = same (share AwaitStore k now.shared) refl

  -- what is shared after an issue
  issue_shared : (k : ℕ) → k < length w.qpus → (happens now (Issue k)).state.shared ≡ (local now.fixed.code (site_of now.fixed k) (inv.at k).qpu now.shared now.counts).shared
  issue_shared k lt = ap (λ y. y.state.shared) (happens_goes now (Issue k) h.unbroken ∙ issue_is now k (inv.at k).qpu (inv.here k lt))

  issue_past : (k : ℕ) → length w.qpus ≤ k → (happens now (Issue k)).state.shared ≡ now.shared
  unfolding step_of turn
  issue_past k le =
      ap (λ y. y.state.shared) (happens_goes now (Issue k) h.unbroken)
      ∙ ap (λ o. (turned now (turn_at now.fixed now.qpus now.shared now.counts k o)).state.shared) (slice_get_past now.qpus k (let m = inv.many in omega arith))

  started : (part : Shared → List Element) (Mine : ℕ → ℕ → Type 0)
      → ((k : ℕ) → k < length w.qpus → part now.shared ≡ [] → (d : Want) → next_of w k (inv.at k) ≡ d → (after : Qpu) → Left part (Mine k) (performed d k (inv.at k).qpu now.shared now.counts after))
      → (k a : ℕ) → AnyCovers (if is_busy (part now.shared) then [] else part (happens now (Issue k)).state.shared) a → Mine k a
  started part Mine mine k a = go (part now.shared) refl
    where
      go : (es : List Element) → part now.shared ≡ es → AnyCovers (if is_busy (part now.shared) then [] else part (happens now (Issue k)).state.shared) a → Mine k a
      go (f ∷ es) e cov = absurd (subst (λ l. AnyCovers (if is_busy l then [] else part (happens now (Issue k)).state.shared) a) e cov)
      go [] e cov =
          let c0 : AnyCovers (part (happens now (Issue k)).state.shared) a = subst (λ l. AnyCovers (if is_busy l then [] else part (happens now (Issue k)).state.shared) a) e cov in
          ⊎_elim
          (λ lt. subst (λ l. Left part (Mine k) l) (sym (left_is x w fits n c now h k)) (mine k lt e (next_of w k (inv.at k)) refl _) a (subst (λ s. AnyCovers (part s) a) (issue_shared k lt) c0))
          (λ le. absurd (subst (λ l. AnyCovers l a) (ap part (issue_past k le) ∙ e) c0))
          (cases_lt k (length w.qpus))

  pub loads_mine : (k a : ℕ) → AnyCovers (load_started now k) a → TouchesOf x w k a
  loads_mine = started (λ s. s.loads) (TouchesOf x w) load_mine

  pub stores_mine : (k a : ℕ) → AnyCovers (store_started now k) a → SetsOf x w k a
  stores_mine = started (λ s. s.stores) (SetsOf x w) store_mine

  abbrev AreMine : ℕ → Made → Type 0
  AreMine k m = (k < length w.qpus) × ChangesOf x w k m.address m.change

  one_word : (a j k : ℕ) (m o : Made) → j ≢ k → AreMine j m → AreMine k o → m.address ≡ a → o.address ≡ a → Commute o.change m.change
  one_word a j k m o ne p q em eo =
      (fits.apart k j q.0 p.0 (λ z. ne (sym z))).commute a o.change m.change (subst (λ b. ChangesOf x w k b o.change) eo q.1) (subst (λ b. ChangesOf x w j b m.change) em p.1)

  all_mine : (a k : ℕ) → (lt : k < length w.qpus) → (ms : List Made) → AreKnown (of_qpu x k) w.fixed.code (site_of w.fixed k) w (qpu_at w k) (fits.clean k lt) ms → AreSmall ms
      → AllOf AreMine (length w.qpus) a (one_word a) k ms
  all_mine a k lt [] h s = tt
  all_mine a k lt (m ∷ ms) h s = ((lt, h.0), s.0, all_mine a k lt ms h.1 s.1)

  left_in_order : IsOver now → (contents : ℕ → List Given) → ((k : ℕ) → k < length w.qpus → Ends x w k (contents k))
      → (ms : List (ℕ × Made)) → IsOrder (length w.qpus) (λ k. (solo_of x w k (contents k)).made) ms → (a : ℕ) → a % 4 ≡ 0 → x.is_shared a ≡ true
      → number_at 4 now.memory a ≡ changed_by a (without_numbers ms) (number_at 4 w.memory a)
  left_in_order over contents ends ms order a al sx =
      let all =
      all_of AreMine (length w.qpus) a (one_word a) ms order.there
      (λ k lt.
      subst (AllOf AreMine (length w.qpus) a (one_word a) k) (sym (order.each k lt))
      (all_mine a k lt _
      (made_known (of_qpu x k) w.fixed.code (site_of w.fixed k) w (qpu_at w k) (fits.clean k lt) (contents k) (ends k lt).valid)
      (made_small (of_qpu x k) w.fixed.code (site_of w.fixed k) w (qpu_at w k) (fits.clean k lt) (λ n. fits.operands k n) (contents k)))) in
      left_changed x w fits n c now h over contents ends a al sx
      ∙ all_same a (λ k. (solo_of x w k (contents k)).made) (λ k. own k ms) (length w.qpus) (number_at 4 w.memory a) (λ k lt. sym (order.each k lt))
      ∙ sym (any_order AreMine (length w.qpus) a (one_word a) ms (number_at 4 w.memory a) all (word_below w.memory a fits.start.range.memory))

pub projects : EveryRunProjects
projects x w fits steps =
    let now : MachineState = machine_run steps w in
    let h = run_now x w fits steps in
    let i = h.inv in
    record {
      unbroken = unbroken_stop now h.unbroken;
      follows = λ k lt.
          let r = i.reach k lt in
          record {
            contents = r.contents;
            valid = r.valid;
            qpu = i.here k lt ∙ ap (λ s. Some s.qpu) (sym r.is);
            notes = sym (i.notes k lt) ∙ ap (λ s. s.notes) (sym r.is);
          };
      prefix = λ k lt contents ends.
          let r = i.reach k lt in
          let m = notes_most (of_qpu x k) w.fixed.code (site_of w.fixed k) w (qpu_at w k) (fits.clean k lt) contents r.contents ends.valid r.valid ends.rests in
          (m.0, m.1 ∙ ap (λ l. m.0 ++ l) (ap (λ s. s.notes) r.is ∙ i.notes k lt));
      written = λ f. left x w fits _ _ now h (is_over now h.unbroken f);
      changed = λ f. left_in_order x w fits _ _ now h (is_over now h.unbroken f);
      loads = loads_mine x w fits _ _ now h;
      stores = stores_mine x w fits _ _ now h;
      unwritten = i.rest;
    }

sum_most : (n : ℕ) (f g : ℕ → ℕ) → ((k : ℕ) → k < n → f k ≤ g k) → sum_to n f ≤ sum_to n g
sum_most zero f g h = omega arith
sum_most (suc n) f g h = let a = h n (omega arith) in let r = sum_most n f g (λ k lt. h k (omega arith)) in omega arith

pub bound : EveryRunIsBounded
bound x w fits contents ends steps =
    let i = (run_now x w fits steps).inv in
    let m = sum_most (length w.qpus) (λ k. cost (i.at k)) (λ k. cost (solo_of x w k (contents k)))
    (λ k lt.
    let r = i.reach k lt in
    subst (λ s. cost s ≤ cost (solo_of x w k (contents k))) r.is
    (cost_most (of_qpu x k) w.fixed.code (site_of w.fixed k) w (qpu_at w k) (fits.clean k lt) (contents k) r.contents (ends k lt).valid r.valid (ends k lt).rests)) in
    let b = i.count in
    omega arith

-- ---- going on

rests_or : (d : Want) → (d ≡ Rests) ⊎ (d ≢ Rests)
rests_or Rests = inl refl
rests_or (Breaks rule) = inr (λ e. cc)
rests_or (Wants d) = inr (λ e. cc)

some_works : (at : ℕ → Want) (n : ℕ) → ((k : ℕ) → k < n → at k ≡ Rests) ⊎ ((k : ℕ) × (k < n) × (at k ≢ Rests))
some_works at zero = inl (λ k lt. absurd (omega arith))
some_works at (suc n) =
    ⊎_elim
    (λ e. ⊎_elim
    (λ all. inl (λ k lt. ⊎_elim (λ z. all k z) (λ z. let q : k ≡ n = omega arith in subst (λ y. at y ≡ Rests) (sym q) e) (cases_lt k n)))
    (λ y. inr (y.0, omega (arith, y.1), y.2))
    (some_works at n))
    (λ ne. inr (n, omega arith, ne))
    (rests_or (at n))

module _ (k : ℕ) (q : Qpu) (s : Shared) (counts : Counts) (after : Qpu) (el : s.loads ≡ []) (es : s.stores ≡ []) where
  acts : (b : Option Rule) (y : Bool) (l : Local) → b ≡ None → y ≡ false → l.effect ≡ effect.Did → is_effective (judged b y k q s counts l).effect ≡ true
  acts b y l eb ey d =
      ap (λ z. is_effective (judged z y k q s counts l).effect) eb ∙ ap (λ z. is_effective (judged None z k q s counts l).effect) ey ∙ ap is_effective d

  -- with idle engines a word of the owner, or of anybody where there is none, is done
  goes : (d : Want) (o : Option ℕ) (due : Due) → Allowed d k o due → d ≢ Rests → (o ≡ Some k → s.owner ≡ Some k) → (o ≢ Some k → s.owner ≡ None)
      → is_effective (performed d k q s counts after).effect ≡ true
  goes Rests o due al ne own free = absurd (ne refl)
  goes (Breaks rule) o due al ne own free = absurd al
  goes (Wants (Private late)) o due al ne own free = acts late false _ al refl refl
  goes (Wants (Setup late)) o due al ne own free = acts _ false _ (mine_none s.owner k H9 late (own al.0) al.2) refl refl
  goes (Wants Take) o due al ne own free =
      let none = free al.0 in
      acts _ _ _ (take_none s.owner k (λ h. cc)) (ap (λ y. is_other (owner_seen y k)) none) refl
  goes (Wants Give) o due al ne own free = acts _ false _ (mine_none s.owner k H8 _ (own al.0) (first_none _ H11 None (none_busy s.loads s.stores el es) refl)) refl refl
  goes (Wants (ReadRow row late)) o due al ne own free =
      acts _ false _ (mine_none s.owner k H9 _ (own al.0) (first_none _ H10 late (rows_free row s.loads s.stores el es) al.2)) refl refl
  goes (Wants (WriteRow row words late)) o due al ne own free =
      acts _ false _ (mine_none s.owner k H9 _ (own al.0) (first_none _ H10 late (rows_free row s.loads s.stores el es) al.2)) refl refl
  goes (Wants (StartLoad xs late)) o due al ne own free = acts _ false _ (mine_none s.owner k H9 _ (own al.0) (first_none _ H11 late (ap is_busy el) al.2)) refl refl
  goes (Wants (StartStore xs late)) o due al ne own free = acts _ false _ (mine_none s.owner k H9 _ (own al.0) (first_none _ H11 late (ap is_busy es) al.2)) refl refl
  goes (Wants AwaitLoad) o due al ne own free = acts _ _ _ (mine_none s.owner k H9 None (own al.0) refl) (ap is_busy el) refl
  goes (Wants AwaitStore) o due al ne own free = acts _ _ _ (mine_none s.owner k H9 None (own al.0) refl) (ap is_busy es) refl

module _ (x : Shares) (w : MachineState) (fits : Premises x w) (n : ℕ) (c : ℕ → List Note) (now : MachineState) (h : Now x w n c now) where
  abbrev j : Inv x w n c now.qpus now.shared now.memory
  j = h.inv

  abbrev Goes : Type 0
  Goes = (step : Step) × (is_effective (happens now step).effect ≡ true)

  by_step : (step : Step) → is_effective (step_of now step).effect ≡ true → Goes
  by_step step e = (step, ap (λ y. is_effective y.effect) (happens_goes now step h.unbroken) ∙ e)

  word_goes : now.shared.loads ≡ [] → now.shared.stores ≡ [] → (k : ℕ) → k < length w.qpus → next_of w k (j.at k) ≢ Rests
      → ((j.at k).shared.owner ≡ Some k → now.shared.owner ≡ Some k) → ((j.at k).shared.owner ≢ Some k → now.shared.owner ≡ None) → Goes
  word_goes el es k lt ne own free =
      let q : Qpu = (j.at k).qpu in
      let d : Want = next_of w k (j.at k) in
      let after : Qpu = done_alone w.fixed.code (site_of w.fixed k) q (row_wanted d now.shared.vpm) in
      let e0 = ap (λ y. is_effective y.effect) (issue_is now k q (j.here k lt)) in
      let e1 = ap (λ f. is_effective (local f.code (site_of f k) q now.shared now.counts).effect) h.fixed in
      let e2 = ap (λ l. is_effective l.effect) (step_splits w.fixed.code (site_of w.fixed k) q now.shared now.counts) in
      let e3 = ap (λ m. is_effective (performed d m q now.shared now.counts after).effect) (number_is w.fixed k) in
      by_step (Issue k) (e0 ∙ e1 ∙ e2 ∙ e3 ∙ goes k q now.shared now.counts after el es d (j.at k).shared.owner (j.at k).due (allowed_at x w fits n c now h k lt) ne own free)

  over : now.shared.loads ≡ [] → now.shared.stores ≡ [] → ((k : ℕ) → k < length w.qpus → next_of w k (j.at k) ≡ Rests) → IsOver now
  over el es all =
      record {
        ended = all_end now.qpus (λ k q e.
            let lt : k < length w.qpus = let y = slice_get_within now.qpus k q e in let m = j.many in omega arith in
            let same : Some q ≡ Some (j.at k).qpu = sym e ∙ j.here k lt in
            let r = rests_ended w.fixed.code (site_of w.fixed k) (j.at k).qpu (all k lt) in
            let p : (j.at k).qpu ≡ q = cc in
            subst (λ y. y.flow.ended ≡ true) p r);
        loads = el;
        stores = es;
      }

  owner_goes : (o : Option ℕ) → now.shared.owner ≡ o → Agrees x w j.at o now.shared.vpm now.memory now.shared.loads now.shared.stores
      → now.shared.loads ≡ [] → now.shared.stores ≡ [] → stop_of now ≢ stop.Finished → Goes
  owner_goes None eo ag el es nf =
      ⊎_elim
      (λ all. absurd (nf (over_finished now h.unbroken (over el es all))))
      (λ y. word_goes el es y.0 y.1 y.2 (λ h. let f = (ag.2 y.0 y.1).free in absurd cc) (λ h. eo))
      (some_works (λ k. next_of w k (j.at k)) (length w.qpus))
  owner_goes (Some k) eo ag el es nf =
      word_goes el es k ag.0
      (λ e. let f = freed x w fits n c now h k ag.0 e in let t = ag.1.own in cc)
      (λ e. eo)
      (λ e. absurd (e ag.1.own))

  any_goes : (ls ss : List Element) → now.shared.loads ≡ ls → now.shared.stores ≡ ss → stop_of now ≢ stop.Finished → Goes
  unfolding step_of
  any_goes (f ∷ ls) ss el es nf = by_step (Load 0) (ap (λ m. is_effective m.effect) (load_is now.shared now.counts now.memory 0 f ls el))
  any_goes [] (f ∷ ss) el es nf = by_step (Store 0) (ap (λ m. is_effective m.effect) (store_is now.shared now.counts now.memory 0 f ss es))
  any_goes [] [] el es nf = owner_goes now.shared.owner refl j.agrees el es nf

pub never_stuck : NoRunIsStuck
never_stuck x w fits steps nf =
    let now : MachineState = machine_run steps w in
    any_goes x w fits _ _ now (run_now x w fits steps) now.shared.loads now.shared.stores refl refl nf
