-- The run of a QPU alone through the words of a kernel that does nothing: it is clean, it touches no byte, and it does three words.
use Rattle.std.proofs.Common.{◌≡◌, ℕ, zero, suc, ◌+◌, List, [], length, get_or, refl, sym, ap, ◌∙◌, subst, arith}
use Rattle.std.specs.Prelude.{Bool, true, false, Option, Some, None}
use Rattle.vpm_words.specs.Access.{Site, Given, Private, no_setups}
use Rattle.qpu_machine.specs.declared.state.Qpu.{Qpu}
use Rattle.qpu_machine.specs.declared.state.Regs.{Regs}
use Rattle.qpu_machine.specs.Opening.{opening_qpu}
use Rattle.qpu_machine.specs.SoloRun.{Want, Rests, Wants, want, done_alone, deed, setup_value, NoneDue, Solo, Change, solo, does, IsGiven, AreGiven, IsFine, AreAlike, IsClean, LoadsByte, StoresByte, Reads, Writes, Changes, KeepsApart}
use Rattle.solo_law.specs.Sharing.{no_shares, of_qpu}
use Rattle.solo_law.proofs.Forward.{Stages, stage_at, stages_clean, keeps_apart}
use Rattle.compile_pipe.specs.EmptyCode.{empty_module}
use Rattle.promise.proofs.Computing.{computes}

abbrev code : List ℕ
code = empty_module.words

-- the QPU before word n
abbrev qpu_before : Regs → (n : ℕ) → (ending : ℕ) → (ended : Bool) → Qpu
qpu_before regs n ending ended =
    record {
      regs = regs;
      flow = record { place = n; ended = ended; slots = 0; target = 0; ending = ending; issued = n };
      written = record { file_a = None; file_b = None; accs = 0; five = false };
      ports = no_setups;
    }

-- the QPU after n words
abbrev pub stage : Regs → ℕ → Qpu
stage regs zero = opening_qpu regs
stage regs (suc zero) = qpu_before regs 1 2 false
stage regs (suc (suc zero)) = qpu_before regs 2 1 false
stage regs (suc (suc (suc n))) = qpu_before regs 3 0 true

-- how many words it has done
abbrev pub words_done : ℕ → ℕ
words_done zero = 0
words_done (suc zero) = 1
words_done (suc (suc zero)) = 2
words_done (suc (suc (suc n))) = 3

-- what it wants next
abbrev wanted_at : ℕ → Want
wanted_at zero = Wants (Private None)
wanted_at (suc zero) = Wants (Private None)
wanted_at (suc (suc zero)) = Wants (Private None)
wanted_at (suc (suc (suc n))) = Rests

module _ (g : Site) (regs : Regs) where
  wants : (n : ℕ) → want code g (stage regs n) ≡ wanted_at n
  unfolding empty_module computes
  wants zero = refl
  wants (suc zero) = refl
  wants (suc (suc zero)) = refl
  wants (suc (suc (suc n))) = refl

  done0 : done_alone code g (stage regs 0) [] ≡ stage regs 1
  unfolding empty_module computes
  done0 = refl

  done1 : done_alone code g (stage regs 1) [] ≡ stage regs 2
  unfolding empty_module computes
  done1 = refl

  done2 : done_alone code g (stage regs 2) [] ≡ stage regs 3
  unfolding empty_module computes
  done2 = refl

-- what is known after n words
pub record IsAt (regs : Regs) (memory : List ℕ) (n : ℕ) (s : Solo) : Type 0 where
  pub qpu : s.qpu ≡ stage regs n
  pub owner : s.shared.owner ≡ None
  pub kept : s.memory ≡ memory
  pub due : s.due ≡ NoneDue
  pub change : s.change ≡ None
  pub notes : length s.notes ≡ words_done n
  pub moved : s.moved ≡ 0

module _ (k : ℕ) (g : Site) (regs : Regs) (memory : List ℕ) where
  abbrev goes_to : ℕ → Want → Type 0
  goes_to n w = (s : Solo) (v : Given) → IsAt regs memory n s → IsAt regs memory (suc n) (does (of_qpu no_shares k) code g w v s)

  idle_goes : (n : ℕ) → words_done (suc n) ≡ words_done n + 1 → done_alone code g (stage regs n) [] ≡ stage regs (suc n) → goes_to n (Wants (Private None))
  idle_goes n more after s v h =
      record {
        qpu = ap (λ q. done_alone code g q []) h.qpu ∙ after;
        owner = h.owner;
        kept = h.kept;
        due = h.due;
        change = h.change;
        notes = (let m = h.notes in omega (arith, m, more));
        moved = (let m = h.moved in omega (arith, m));
      }

  goes : (n : ℕ) → goes_to n (wanted_at n)
  goes zero = idle_goes 0 refl (done0 g regs)
  goes (suc zero) = idle_goes 1 refl (done1 g regs)
  goes (suc (suc zero)) = idle_goes 2 refl (done2 g regs)
  goes (suc (suc (suc n))) = λ s v h. record { qpu = h.qpu; owner = h.owner; kept = h.kept; due = h.due; change = h.change; notes = h.notes; moved = h.moved }

  want_of : (n : ℕ) (s : Solo) → IsAt regs memory n s → want code g s.qpu ≡ wanted_at n
  want_of n s h = ap (λ q. want code g q) h.qpu ∙ wants g regs n

  loads_none : (n a : ℕ) → ¬ (LoadsByte (wanted_at n) a)
  loads_none zero a l = l
  loads_none (suc zero) a l = l
  loads_none (suc (suc zero)) a l = l
  loads_none (suc (suc (suc n))) a l = l

  stores_none : (n a : ℕ) → ¬ (StoresByte (wanted_at n) a)
  stores_none zero a l = l
  stores_none (suc zero) a l = l
  stores_none (suc (suc zero)) a l = l
  stores_none (suc (suc (suc n))) a l = l

  idle_fine : (s : Solo) → s.change ≡ None → IsFine (of_qpu no_shares k) g.number (Wants (Private None)) s
  idle_fine s unchanged =
      record {
        unbroken = refl;
        in_turn = tt;
        freed = λ e. cc;
        apart = subst (λ c. KeepsApart (of_qpu no_shares k) (Wants (Private None)) s c) (sym unchanged)
            (keeps_apart (of_qpu no_shares k) (Wants (Private None)) s (λ a touched. refl));
      }

  fine : (n : ℕ) (s : Solo) → IsAt regs memory n s → IsFine (of_qpu no_shares k) g.number (wanted_at n) s
  fine zero s h = idle_fine s h.change
  fine (suc zero) s h = idle_fine s h.change
  fine (suc (suc zero)) s h = idle_fine s h.change
  fine (suc (suc (suc n))) s h =
      record {
        unbroken = refl;
        in_turn = tt;
        freed = λ e. h.owner;
        apart = subst (λ c. KeepsApart (of_qpu no_shares k) Rests s c) (sym h.change) (keeps_apart (of_qpu no_shares k) Rests s (λ a touched. refl));
      }

  alike : (n : ℕ) (s t : Solo) → IsAt regs memory n s → IsAt regs memory n t → AreAlike (of_qpu no_shares k) code g s t
  alike n s t h i =
      let same = h.qpu ∙ sym i.qpu in
      record {
        place = ap (λ q. q.flow.place) same;
        setup = ap (λ q. setup_value code g q) same;
        deed = ap (λ q. deed (want code g q)) same;
        memory = λ a shared. ap (λ (m : List ℕ). get_or m a 0) (h.kept ∙ sym i.kept);
        change = h.change ∙ sym i.change;
      }

  -- ---- from a start

  module _ (start : Solo) (begins : IsAt regs memory 0 start) where
    stages : Stages (of_qpu no_shares k) code g start (λ n s. IsAt regs memory n s)
    stages =
        record {
          begins = begins;
          fine = λ n s h. subst (λ w. IsFine (of_qpu no_shares k) g.number w s) (sym (want_of n s h)) (fine n s h);
          alike = alike;
          goes = λ n s v ok h. subst (λ w. IsAt regs memory (suc n) (does (of_qpu no_shares k) code g w v s)) (sym (want_of n s h)) (goes n s v h);
          last = 3;
          rests = λ s h. want_of 3 s h;
        }

    pub runs_clean : (v : Given) → IsGiven (length start.memory) v → IsClean (of_qpu no_shares k) code g start
    runs_clean v ok = stages_clean (of_qpu no_shares k) code g start (λ n s. IsAt regs memory n s) stages v ok

    -- where it stands after these contents
    pub stands : (vs : List Given) → AreGiven (length start.memory) vs → IsAt regs memory (length vs) (solo (of_qpu no_shares k) code g start vs)
    stands vs ok = stage_at (of_qpu no_shares k) code g start (λ n s. IsAt regs memory n s) stages vs ok

    pub rests_after : (vs : List Given) → AreGiven (length start.memory) vs → length vs ≡ 3
        → want code g (solo (of_qpu no_shares k) code g start vs).qpu ≡ Rests
    rests_after vs ok e =
        let h = stands vs ok in
        want_of 3 _ (subst (λ n. IsAt regs memory n (solo (of_qpu no_shares k) code g start vs)) e h)

    pub reads_none : (a : ℕ) → ¬ (Reads (of_qpu no_shares k) code g start a)
    reads_none a r =
        let h = stands r.contents r.valid in
        loads_none (length r.contents) a (subst (λ w. LoadsByte w a) (want_of (length r.contents) _ h) r.here)

    pub writes_none : (a : ℕ) → ¬ (Writes (of_qpu no_shares k) code g start a)
    writes_none a w =
        let h = stands w.contents w.valid in
        stores_none (length w.contents) a (subst (λ w. StoresByte w a) (want_of (length w.contents) _ h) w.here)

    pub changes_none : (a : ℕ) (c : Change) → ¬ (Changes (of_qpu no_shares k) code g start a c)
    changes_none a c h = not_both c (sym (stands h.contents h.valid).change ∙ h.change)
      where
        not_both : (c : Change) → (let none : Option Change = None in none) ≡ Some c → ⊥
        not_both c e = cc
