-- Rounds of all QPUs and engines reach the end of a run that is never stuck.
use Rattle.std.proofs.Common.{◌≡◌, ◌≢◌, ◌⊎◌, inl, inr, ⊎_elim, ℕ, zero, suc, ◌+◌, ◌%◌, ◌<◌, ◌≤◌, List, [], ◌∷◌, ◌++◌, length, map, refl, sym, ap, ◌∙◌, subst, arith, true, false}
use Rattle.std.specs.Prelude.{slice_get, if◌then◌else◌, ◌&&◌, ⊤}
use Rattle.std.specs.List.{range_with_len}
use Rattle.std.specs.declared.option.Option.{Option}
use Rattle.std.specs.declared.option.Option.TheVariants.{Some, None}
use Rattle.std.proofs.lemmas.Bool.{cases_lt}
use Rattle.std.proofs.lemmas.Option.{slice_get_past}
use Rattle.vpm_words.specs.Access.{is_busy}
use Rattle.vpm_words.specs.declared.state.Element.{Element}
use Rattle.vpm_words.specs.declared.state.Rule.{Rule}
use Rattle.vpm_words.specs.declared.state.Shared.{Shared}
use Rattle.qpu_machine.specs.declared.state.Effect.{Effect}
use Rattle.qpu_machine.specs.declared.state.Effect.TheVariants as effect
use Rattle.qpu_machine.specs.declared.state.Fault.{Fault}
use Rattle.qpu_machine.specs.declared.state.Counts.{Counts}
use Rattle.qpu_machine.specs.declared.state.Stop.{Stop}
use Rattle.qpu_machine.specs.declared.state.Stop.TheVariants as stop
use Rattle.qpu_machine.specs.declared.state.Step.{Step}
use Rattle.qpu_machine.specs.declared.state.Step.TheVariants.{Issue, Load, Store}
use Rattle.qpu_machine.specs.MoveStep.{unmoved, loaded, load_move, stored, store_move}
use Rattle.qpu_machine.specs.MachineState.{MachineState, stop_of, stop_at, are_idle, all_ended}
use Rattle.qpu_machine.specs.MachineRun.{fault_after, step_of, happens, machine_run, is_effective, effective_steps, IsIdle, IsGone, HasNothing}
use Rattle.qpu_machine.specs.Schedules.{round, rounds_of}
use Rattle.qpu_machine.proofs.Steps.{happens_goes, happens_idle, load_is, store_is}
use Rattle.qpu_machine.proofs.Nothing.{nothing_where}
use Rattle.qpu_machine.proofs.Runs.{runs_compose, stopped_stays, runs_keep}
use Rattle.solo_law.specs.Laws.{RoundsFinish}

-- ---- one step

not_broken : (s : MachineState) → ((rule : Rule) (k place : ℕ) → stop_of s ≢ stop.Broken rule k place) → s.broken ≡ None
unfolding stop_of
not_broken s h = go s.broken refl
  where
    go : (o : Option Fault) → s.broken ≡ o → s.broken ≡ None
    go None e = e
    go (Some fault) e = absurd (h fault.rule fault.qpu fault.place (ap (λ o. stop_at o (are_idle s.shared && all_ended s.qpus)) e))

load_sound : (s : Shared) (c : Counts) (memory : List ℕ) (i : ℕ) (rule : Rule) (k place : ℕ) → (load_move s c memory i).effect ≢ effect.Broken rule k place
unfolding load_move
load_sound s c memory i rule k place =
    elim (is_busy s.loads) as (λ b. (if b then loaded s c memory (i % length s.loads) (slice_get s.loads (i % length s.loads)) else unmoved s c memory).effect ≢ effect.Broken rule k place) [
      | true ↦ sound (slice_get s.loads (i % length s.loads))
      | false ↦ λ h. cc
    ]
  where
    sound : (o : Option Element) → (loaded s c memory (i % length s.loads) o).effect ≢ effect.Broken rule k place
    sound None h = cc
    sound (Some e) h = cc

store_sound : (s : Shared) (c : Counts) (memory : List ℕ) (i : ℕ) (rule : Rule) (k place : ℕ) → (store_move s c memory i).effect ≢ effect.Broken rule k place
unfolding store_move
store_sound s c memory i rule k place =
    elim (is_busy s.stores) as (λ b. (if b then stored s c memory (i % length s.stores) (slice_get s.stores (i % length s.stores)) else unmoved s c memory).effect ≢ effect.Broken rule k place) [
      | true ↦ sound (slice_get s.stores (i % length s.stores))
      | false ↦ λ h. cc
    ]
  where
    sound : (o : Option Element) → (stored s c memory (i % length s.stores) o).effect ≢ effect.Broken rule k place
    sound None h = cc
    sound (Some e) h = cc

-- a step that breaks a rule leaves a broken machine
step_breaks : (s : MachineState) (step : Step) (rule : Rule) (k place : ℕ) → s.broken ≡ None → (step_of s step).effect ≡ effect.Broken rule k place
    → (step_of s step).state.broken ≡ Some (record { rule = rule; qpu = k; place = place })
unfolding step_of
step_breaks s (Issue j) rule k place e h = ap (λ y. fault_after y s.broken) h
step_breaks s (Load i) rule k place e h = absurd (load_sound s.shared s.counts s.memory i rule k place h)
step_breaks s (Store i) rule k place e h = absurd (store_sound s.shared s.counts s.memory i rule k place h)

broken_stop : (s : MachineState) (fault : Fault) → s.broken ≡ Some fault → stop_of s ≡ stop.Broken fault.rule fault.qpu fault.place
unfolding stop_of
broken_stop s fault e = ap (λ o. stop_at o (are_idle s.shared && all_ended s.qpus)) e

effective_append : (xs ys : List Step) (s : MachineState) → effective_steps (xs ++ ys) s ≡ effective_steps xs s + effective_steps ys (machine_run xs s)
unfolding effective_steps machine_run
effective_append [] ys s = omega arith
effective_append (x ∷ xs) ys s = let r = effective_append xs ys (happens s x).state in omega arith

-- ---- steps that do nothing

abbrev EachQuiet : MachineState → List Step → Type 0
EachQuiet s [] = ⊤
EachQuiet s (x ∷ xs) = (is_effective (happens s x).effect ≡ false) × EachQuiet s xs

quiet_last : (s : MachineState) (xs ys : List Step) → EachQuiet s (xs ++ ys) → EachQuiet s ys
quiet_last s [] ys h = h
quiet_last s (x ∷ xs) ys h = quiet_last s xs ys h.1

quiet_issue : (s : MachineState) (a n k : ℕ) (ys : List Step) → EachQuiet s (map Issue (range_with_len a n) ++ ys) → a ≤ k → k < a + n → is_effective (happens s (Issue k)).effect ≡ false
quiet_issue s a zero k ys h le lt = absurd (omega arith)
quiet_issue s a (suc n) k ys h le lt =
    ⊎_elim
    (λ l. quiet_issue s (a + 1) n k ys h.1 (omega arith) (omega arith))
    (λ g. let e : a ≡ k = omega arith in subst (λ j. is_effective (happens s (Issue j)).effect ≡ false) e h.0)
    (cases_lt a k)

load_acts : (s : MachineState) (e : Element) (es : List Element) → s.broken ≡ None → s.shared.loads ≡ e ∷ es → is_effective (happens s (Load 0)).effect ≡ true
unfolding step_of
load_acts s e es b h = ap (λ y. is_effective y.effect) (happens_goes s (Load 0) b) ∙ ap (λ m. is_effective m.effect) (load_is s.shared s.counts s.memory 0 e es h)

store_acts : (s : MachineState) (e : Element) (es : List Element) → s.broken ≡ None → s.shared.stores ≡ e ∷ es → is_effective (happens s (Store 0)).effect ≡ true
unfolding step_of
store_acts s e es b h = ap (λ y. is_effective y.effect) (happens_goes s (Store 0) b) ∙ ap (λ m. is_effective m.effect) (store_is s.shared s.counts s.memory 0 e es h)

nothing_idle : (s : MachineState) (step : Step) → HasNothing s step → is_effective (happens s step).effect ≡ false
nothing_idle s step h = ap is_effective (nothing_where s step (inr h))

-- ---- rounds

module _ (w : MachineState) (limit : ℕ)
    (sound : (steps : List Step) (rule : Rule) (k place : ℕ) → stop_of (machine_run steps w) ≢ stop.Broken rule k place)
    (going : (steps : List Step) → stop_of (machine_run steps w) ≢ stop.Finished → (step : Step) × (is_effective (happens (machine_run steps w) step).effect ≡ true))
    (few : (steps : List Step) → effective_steps steps w ≤ limit) where
  abbrev at : List Step → MachineState
  at p = machine_run p w

  abbrev qpus : ℕ
  qpus = length w.qpus

  unbroken : (p : List Step) → (at p).broken ≡ None
  unbroken p = not_broken (at p) (sound p)

  then_one : (p : List Step) (x : Step) → at (p ++ x ∷ []) ≡ (happens (at p) x).state
  unfolding machine_run
  then_one p x = runs_compose p (x ∷ []) w

  one : (p : List Step) (x : Step) → (is_effective (happens (at p) x).effect ≡ true) ⊎ ((is_effective (happens (at p) x).effect ≡ false) × ((happens (at p) x).state ≡ at p))
  one p x = go (happens (at p) x).effect refl
    where
      go : (e : Effect) → (happens (at p) x).effect ≡ e → (is_effective (happens (at p) x).effect ≡ true) ⊎ ((is_effective (happens (at p) x).effect ≡ false) × ((happens (at p) x).state ≡ at p))
      go effect.Did e = inl (ap is_effective e)
      go effect.Moved e = inl (ap is_effective e)
      go effect.Stalled e = inr (ap is_effective e, happens_idle (at p) x (subst IsIdle (sym e) tt))
      go effect.Nothing e = inr (ap is_effective e, happens_idle (at p) x (subst IsIdle (sym e) tt))
      go (effect.Broken rule k place) e =
          let y = happens_goes (at p) x (unbroken p) in
          let b = step_breaks (at p) x rule k place (unbroken p) (sym (ap (λ z. z.effect) y) ∙ e) in
          let c = broken_stop (happens (at p) x).state (record { rule = rule; qpu = k; place = place }) (ap (λ z. z.state.broken) y ∙ b) in
          absurd (sound (p ++ x ∷ []) rule k place (ap stop_of (then_one p x) ∙ c))

  quiet : (xs p : List Step) → (1 ≤ effective_steps xs (at p)) ⊎ EachQuiet (at p) xs
  unfolding effective_steps
  quiet [] p = inr tt
  quiet (x ∷ xs) p =
      ⊎_elim
      (λ y. inl (let z : ◌≡◌ {A = ℕ} (if is_effective (happens (at p) x).effect then 1 else 0) 1 = ap (λ b. if b then 1 else 0) y in omega arith))
      (λ y. ⊎_elim
      (λ l. inl (let z : effective_steps xs (happens (at p) x).state ≡ effective_steps xs (at p) = ap (effective_steps xs) y.1 in omega arith))
      (λ q. inr (y.0, q))
      (quiet xs p))
      (one p x)

  -- a round from a state that isn't finished has an effective step
  in_round : (p : List Step) (x : Step) → is_effective (happens (at p) x).effect ≡ true → EachQuiet (at p) (round qpus) → ⊥
  unfolding round
  in_round p (Issue k) e h =
      ⊎_elim
      (λ l. let f = quiet_issue (at p) 0 qpus k (Load 0 ∷ Store 0 ∷ []) h (omega arith) (omega arith) in cc)
      (λ g. let m = (runs_keep p w).1 in
      let f = nothing_idle (at p) (Issue k) (subst IsGone (sym (slice_get_past (at p).qpus k (omega arith))) tt) in cc)
      (cases_lt k qpus)
  in_round p (Load i) e h = go (at p).shared.loads refl
    where
      go : (es : List Element) → (at p).shared.loads ≡ es → ⊥
      go [] z = let f = nothing_idle (at p) (Load i) z in cc
      go (f ∷ es) z = let a = load_acts (at p) f es (unbroken p) z in let b = (quiet_last (at p) (map Issue (range_with_len 0 qpus)) (Load 0 ∷ Store 0 ∷ []) h).0 in cc
  in_round p (Store i) e h = go (at p).shared.stores refl
    where
      go : (es : List Element) → (at p).shared.stores ≡ es → ⊥
      go [] z = let f = nothing_idle (at p) (Store i) z in cc
      go (f ∷ es) z = let a = store_acts (at p) f es (unbroken p) z in let b = (quiet_last (at p) (map Issue (range_with_len 0 qpus)) (Load 0 ∷ Store 0 ∷ []) h).1.0 in cc

  round_acts : (p : List Step) → stop_of (at p) ≢ stop.Finished → 1 ≤ effective_steps (round qpus) (at p)
  round_acts p nf =
      let y = going p nf in
      ⊎_elim (λ l. l) (λ q. absurd (in_round p y.0 y.1 q)) (quiet (round qpus) p)

  many : (n : ℕ) (p : List Step) → stop_of (machine_run (rounds_of n qpus) (at p)) ≢ stop.Finished → n ≤ effective_steps (rounds_of n qpus) (at p)
  unfolding rounds_of
  many zero p nf = omega arith
  many (suc n) p nf =
      let here : stop_of (at p) ≢ stop.Finished =
      λ f. nf (ap stop_of (stopped_stays (round qpus ++ rounds_of n qpus) (at p) (λ g. let z = sym f ∙ g in cc)) ∙ f) in
      let a = round_acts p here in
      let e : machine_run (round qpus) (at p) ≡ at (p ++ round qpus) = sym (runs_compose p (round qpus) w) in
      let rest : stop_of (machine_run (rounds_of n qpus) (at (p ++ round qpus))) ≢ stop.Finished =
      λ f. nf (ap stop_of (runs_compose (round qpus) (rounds_of n qpus) (at p) ∙ ap (machine_run (rounds_of n qpus)) e) ∙ f) in
      let b = many n (p ++ round qpus) rest in
      let c = effective_append (round qpus) (rounds_of n qpus) (at p) in
      let d : effective_steps (rounds_of n qpus) (machine_run (round qpus) (at p)) ≡ effective_steps (rounds_of n qpus) (at (p ++ round qpus)) = ap (effective_steps (rounds_of n qpus)) e in
      omega arith

  not_going : (n : ℕ) → limit ≤ n → stop_of (at (rounds_of n qpus)) ≢ stop.Finished → ⊥
  unfolding machine_run effective_steps
  not_going n le nf =
      let all : List Step = rounds_of n qpus in
      let m = many n [] nf in
      let y = going all nf in
      let z : ◌≡◌ {A = ℕ} (if is_effective (happens (at all) y.0).effect then 1 else 0) 1 = ap (λ b. if b then 1 else 0) y.1 in
      let c = effective_append all (y.0 ∷ []) w in
      let f = few (all ++ y.0 ∷ []) in
      omega arith

  finish : (n : ℕ) → limit ≤ n → stop_of (at (rounds_of n qpus)) ≡ stop.Finished
  finish n le = go (stop_of (at (rounds_of n qpus))) refl
    where
      go : (s : Stop) → stop_of (at (rounds_of n qpus)) ≡ s → stop_of (at (rounds_of n qpus)) ≡ stop.Finished
      go stop.Finished e = e
      go stop.Going e = absurd (not_going n le (λ f. let z = sym f ∙ e in cc))
      go (stop.Broken rule k place) e = absurd (sound (rounds_of n qpus) rule k place e)

pub rounds_finish : RoundsFinish
rounds_finish w limit sound going few n le = finish w limit sound going few n le
