-- The run of each QPU of the example alone is clean, and its footprint is its own place.
use Rattle.std.proofs.Common.{◌≡◌, ℕ, zero, suc, ◌+◌, ◌<◌, ◌≤◌, List, [], ◌∷◌, length, get_or, refl, sym, ap, ◌∙◌, subst, arith, inl, inr}
use Rattle.std.proofs.lemmas.Bool.{cases_lt}
use Rattle.std.proofs.lemmas.List.{get_or-map, get_or-replicate, get_or_past, length-replicate}
use Rattle.std.specs.Prelude.{Option, Some, None, replicate}
use Rattle.vpm_words.specs.Access.{Given}
use Rattle.vpm_words.specs.Moves.{part_of, number_at, bytes_of, put_bytes}
use Rattle.qpu_machine.specs.declared.state.Regs.{Regs}
use Rattle.qpu_machine.specs.MachineState.{MachineState}
use Rattle.qpu_machine.specs.Opening.{Contents, opening_qpu, opening_shared, opening, zero_regs}
use Rattle.qpu_machine.specs.Planned.{site_of}
use Rattle.qpu_machine.specs.Reachable.{AreBytes, AreContents}
use Rattle.qpu_machine.specs.SoloRun.{Rests, NoneDue, StoreDue, deed, want, setup_value, Solo, Change, alone, solo, does, IsGiven, AreGiven, IsFine, AreAlike, IsClean, LoadsByte, StoresByte, Reads, Writes, Changes}
use Rattle.solo_law.specs.Example.{example, example_words, place_of}
use Rattle.solo_law.specs.Premises.{qpu_at}
use Rattle.solo_law.specs.Sharing.{no_shares, of_qpu}
use Rattle.solo_law.proofs.ExampleMoments.{Moment, IsAt, IsOwn, Leads, at, private_leads, setup_leads, take_leads, write_leads, stored, start_leads, await_leads, give_leads, rests_leads}
use Rattle.solo_law.proofs.ExampleWords.{site, row_words, stored_word, q0, q1, q2, q3, q4, q5, q6, q7, q8, q9, q10, q11, want0, want1, want2, want3, want4, want5, want6, want7, want8, want9, want10, want11, done0, done1, done2, done3, done4, done5, done6, done7, done8, done9, done10}
use Rattle.solo_law.proofs.Forward.{Stages, stage_at, stages_clean}

-- ---- moment after moment

-- each moment leads to the next one, and the last to itself
infixr 10 ◌▸◌
data Chain (k : ℕ) : Moment → List Moment → Type 0 where
  stays : {m : Moment} → Leads k m m → Chain k m []
  ◌▸◌ : {m n : Moment} {ns : List Moment} → Leads k m n → Chain k n ns → Chain k m (n ∷ ns)

-- the moment after so many words; the last one stays
abbrev moment_at : Moment → List Moment → ℕ → Moment
moment_at m ns zero = m
moment_at m [] (suc i) = m
moment_at m (n ∷ ns) (suc i) = moment_at n ns i

leads_at : (k : ℕ) (m : Moment) (ns : List Moment) → Chain k m ns → (i : ℕ) → Leads k (moment_at m ns i) (moment_at m ns (suc i))
leads_at k m ns (stays l) zero = l
leads_at k m ns (stays l) (suc i) = l
leads_at k m ns (l ▸ c) zero = l
leads_at k m ns (l ▸ c) (suc i) = leads_at k _ _ c i

abbrev bytes : List ℕ
bytes = replicate 24 165

pub opened_bytes : AreBytes bytes
opened_bytes i = elim (cases_lt i 24) [
  | inl l ↦ subst (λ n. n < 256) (sym (get_or-replicate 24 i 165 0 l)) (omega arith)
  | inr g ↦ subst (λ n. n < 256) (sym (get_or_past bytes i 0 (subst (λ n. n ≤ i) (sym (length-replicate {A = ℕ} 24 165)) g))) (omega arith)
]

-- a small number that is put into the memory is there
number_stored : (k : ℕ) → k < 3 → number_at 4 (put_bytes bytes (place_of k) (bytes_of 4 (part_of 0 4 (k + 3)))) (place_of k) ≡ k + 3
number_stored zero l = refl
number_stored (suc zero) l = refl
number_stored (suc (suc zero)) l = refl
number_stored (suc (suc (suc k))) l = absurd (omega arith)

-- before the first word, before each of the others, and after the last
module _ (k : ℕ) (regs : Regs) where
  abbrev words : Option (List ℕ)
  words = Some (row_words k)

  abbrev after : List ℕ
  after = stored k bytes (row_words k)

  abbrev first : Moment
  first = at k (q0 k regs) None bytes NoneDue None

  abbrev others : List Moment
  others =
      at k (q1 k regs) None bytes NoneDue None
      ∷ at k (q2 k regs) (Some k) bytes NoneDue None
      ∷ at k (q3 k regs) (Some k) bytes NoneDue None
      ∷ at k (q4 k regs) (Some k) bytes NoneDue words
      ∷ at k (q5 k regs) (Some k) bytes NoneDue words
      ∷ at k (q6 k regs) (Some k) after StoreDue words
      ∷ at k (q7 k regs) (Some k) after NoneDue words
      ∷ at k (q8 k regs) None after NoneDue words
      ∷ at k (q9 k regs) None after NoneDue words
      ∷ at k (q10 k regs) None after NoneDue words
      ∷ at k (q11 k regs) None after NoneDue words
      ∷ []

  is_stored : k < 3 → number_at 4 after (place_of k) ≡ k + 3
  is_stored l = ap (λ n. number_at 4 (put_bytes bytes (place_of k) (bytes_of 4 (part_of 0 4 n))) (place_of k)) (stored_word k l) ∙ number_stored k l

  chain : k < 3 → Chain k first others
  chain l =
      private_leads k (q0 k regs) (q1 k regs) (done0 k l regs) bytes None NoneDue None (want0 k regs)
      ▸ take_leads k (q1 k regs) (q2 k regs) (done1 k regs) bytes (want1 k regs)
      ▸ setup_leads k (q2 k regs) (q3 k regs) (done2 k regs) bytes None (want2 k regs)
      ▸ write_leads k (q3 k regs) (q4 k regs) (done3 k regs) bytes (row_words k) (want3 k regs)
      ▸ setup_leads k (q4 k regs) (q5 k regs) (done4 k regs) bytes words (want4 k regs)
      ▸ start_leads k (q5 k regs) (q6 k regs) (done5 k regs) bytes (row_words k) (want5 k l regs)
      ▸ await_leads k (q6 k regs) (q7 k regs) (done6 k regs) after words (want6 k regs)
      ▸ give_leads k (q7 k regs) (q8 k regs) (done7 k regs) after words (want7 k regs)
      ▸ private_leads k (q8 k regs) (q9 k regs) (done8 k regs) after None NoneDue words (want8 k regs)
      ▸ private_leads k (q9 k regs) (q10 k regs) (done9 k regs) after None NoneDue words (want9 k regs)
      ▸ private_leads k (q10 k regs) (q11 k regs) (done10 k regs) after None NoneDue words (want10 k regs)
      ▸ stays (rests_leads k (q11 k regs) after words (want11 k regs) (is_stored l))

-- ---- the opening

module _ (contents : Contents) (good : AreContents 3 contents) where
  abbrev pub world : MachineState
  world = opening example contents

  abbrev pub start : ℕ → Solo
  start k = alone world (qpu_at world k)

  abbrev regs_of : ℕ → Regs
  regs_of k = get_or contents.regs k zero_regs

  abbrev pub stage : ℕ → ℕ → Moment
  stage k n = moment_at (first k (regs_of k)) (others k (regs_of k)) n

  -- a QPU's site, by its number
  pub site_is : (k : ℕ) → k < 3 → site_of world.fixed k ≡ site k
  unfolding opening example site_of
  site_is zero l = refl
  site_is (suc zero) l = refl
  site_is (suc (suc zero)) l = refl
  site_is (suc (suc (suc k))) l = absurd (omega arith)

  pub size_is : length world.memory ≡ 24
  unfolding opening example
  size_is = refl

  begins : (k : ℕ) → k < 3 → IsAt (first k (regs_of k)) (start k)
  unfolding opening opening_shared example
  begins k l =
      record {
        qpu = get_or-map opening_qpu contents.regs k zero_regs (opening_qpu zero_regs) (let many = good.many in omega arith);
        owner = refl;
        loads = refl;
        stores = refl;
        memory = refl;
        due = refl;
        change = refl;
        rows = good.vpm.rows;
        row = tt;
      }

  leads : (k : ℕ) → k < 3 → (n : ℕ) → Leads k (stage k n) (stage k (suc n))
  leads k l n = leads_at k (first k (regs_of k)) (others k (regs_of k)) (chain k (regs_of k) l) n

  wants_is : (k : ℕ) (l : k < 3) (n : ℕ) (s : Solo) → IsAt (stage k n) s → want example_words (site k) s.qpu ≡ (leads k l n).wants
  wants_is k l n s h = ap (λ q. want example_words (site k) q) h.qpu ∙ (leads k l n).is

  alike : (k n : ℕ) (s t : Solo) → IsAt (stage k n) s → IsAt (stage k n) t → AreAlike (of_qpu no_shares k) example_words (site k) s t
  alike k n s t h i =
      let same = h.qpu ∙ sym i.qpu in
      record {
        place = ap (λ q. q.flow.place) same;
        setup = ap (λ q. setup_value example_words (site k) q) same;
        deed = ap (λ q. deed (want example_words (site k) q)) same;
        memory = λ a shared. ap (λ (m : List ℕ). get_or m a 0) (h.memory ∙ sym i.memory);
        change = h.change ∙ sym i.change;
      }

  stages : (k : ℕ) → k < 3 → Stages (of_qpu no_shares k) example_words (site k) (start k) (λ n s. IsAt (stage k n) s)
  stages k l =
      record {
        begins = begins k l;
        fine = λ n s h. subst (λ w. IsFine (of_qpu no_shares k) k w s) (sym (wants_is k l n s h)) ((leads k l n).fine s h);
        alike = alike k;
        goes = λ n s v ok h. subst (λ w. IsAt (stage k (suc n)) (does (of_qpu no_shares k) example_words (site k) w v s)) (sym (wants_is k l n s h))
            ((leads k l n).goes s v (subst (λ size. IsGiven size v) size_is ok) h);
        last = 11;
        rests = λ s h. ap (λ q. want example_words (site k) q) h.qpu ∙ want11 k (regs_of k);
      }

  some_given : Given
  some_given = record { vpm = contents.vpm; memory = bytes }

  some_given_is : IsGiven 24 some_given
  unfolding some_given
  some_given_is = record { vpm = good.vpm; many = length-replicate {A = ℕ} 24 165; bytes = opened_bytes }

  -- the run alone of each QPU is clean
  pub runs_clean : (k : ℕ) → k < 3 → IsClean (of_qpu no_shares k) example_words (site k) (start k)
  runs_clean k l =
      stages_clean (of_qpu no_shares k) example_words (site k) (start k) (λ n s. IsAt (stage k n) s) (stages k l)
      some_given (subst (λ size. IsGiven size some_given) (sym size_is) some_given_is)

  -- ---- footprints

  -- where it stands after these contents
  stands : (k : ℕ) → k < 3 → (vs : List Given) → AreGiven (length world.memory) vs → IsAt (stage k (length vs)) (solo (of_qpu no_shares k) example_words (site k) (start k) vs)
  stands k l vs ok = stage_at (of_qpu no_shares k) example_words (site k) (start k) (λ n s. IsAt (stage k n) s) (stages k l) vs ok

  pub reads_none : (k : ℕ) → k < 3 → (a : ℕ) → ¬ (Reads (of_qpu no_shares k) example_words (site k) (start k) a)
  reads_none k l a r =
      let n = length r.contents in
      let h = stands k l r.contents r.valid in
      (leads k l n).loads a (subst (λ w. LoadsByte w a) (wants_is k l n _ h) r.here)

  pub writes_own : (k : ℕ) → k < 3 → (a : ℕ) → Writes (of_qpu no_shares k) example_words (site k) (start k) a → IsOwn k a
  writes_own k l a w =
      let n = length w.contents in
      let h = stands k l w.contents w.valid in
      (leads k l n).stores a (subst (λ w. StoresByte w a) (wants_is k l n _ h) w.here)

  pub changes_none : (k : ℕ) → k < 3 → (a : ℕ) (c : Change) → ¬ (Changes (of_qpu no_shares k) example_words (site k) (start k) a c)
  changes_none k l a c h = not_both c (sym (stands k l h.contents h.valid).change ∙ h.change)
    where
      not_both : (c : Change) → (let none : Option Change = None in none) ≡ Some c → ⊥
      not_both c e = cc

  -- ---- what it leaves

  pub leaves : (k : ℕ) → k < 3 → (vs : List Given) → AreGiven (length world.memory) vs
      → want example_words (site k) (solo (of_qpu no_shares k) example_words (site k) (start k) vs).qpu ≡ Rests
      → number_at 4 (solo (of_qpu no_shares k) example_words (site k) (start k) vs).memory (place_of k) ≡ k + 3
  leaves k l vs ok e =
      let n = length vs in
      let h = stands k l vs ok in
      ap (λ (m : List ℕ). number_at 4 m (place_of k)) h.memory ∙ (leads k l n).ended (sym (wants_is k l n _ h) ∙ e)
