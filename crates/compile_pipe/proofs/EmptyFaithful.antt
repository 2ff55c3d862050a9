-- The module of a kernel that does nothing is faithful to each such kernel.
use Rattle.std.proofs.Common.{◌≡◌, ℕ, zero, suc, ◌+◌, ◌*◌, ◌^◌, ◌<◌, ◌≤◌, List, [], ◌∷◌, length, get_or, map, refl, sym, ap, ◌∙◌, arith, inl, inr}
use Rattle.std.proofs.lemmas.List.{length-map, ext_get_or}
use Rattle.std.specs.Prelude.{Bool, true, false, if◌then◌else◌, nat_lt, All}
use Rattle.launch_file.specs.Launches.{LaunchOf, items_of}
use Rattle.launch_file.specs.Uniforms.{batches}
use Rattle.vc4q_module.specs.ModuleBytes.{IsModule}
use Rattle.vpm_words.specs.Access.{Given, Site}
use Rattle.qpu_machine.specs.declared.state.Regs.{Regs}
use Rattle.qpu_machine.specs.declared.state.Step.{Step}
use Rattle.qpu_machine.specs.Planned.{bytes_of, site_of}
use Rattle.qpu_machine.specs.Opening.{opening_qpu, opening_shared, opening, zero_regs}
use Rattle.qpu_machine.specs.MachineState.{MachineState}
use Rattle.qpu_machine.specs.MachineRun.{machine_run, effective_steps}
use Rattle.qpu_machine.specs.SoloRun.{Solo, Change, alone, AnyCovers, AreGiven, IsGiven}
use Rattle.qpu_machine.proofs.Runs.{runs_keep}
use Rattle.solo_law.specs.Laws.{Ends, Projects, cost, sum_to, load_started, store_started}
use Rattle.solo_law.specs.Premises.{solo_of, qpu_at, IsCleanOf, IsStart, ReadsOf, WritesOf, ChangesOf, SetsOf, TouchesOf, Premises}
use Rattle.solo_law.specs.Sharing.{no_shares}
use Rattle.solo_law.proofs.Opening.{openings_start}
use Rattle.solo_law.proofs.Theorems.{projects, bound, never_stuck}
use Rattle.compile_pipe.specs.Profile.{IsInProfile}
use Rattle.launch_meaning.specs.declared.ends.Ended.{Ended}
use Rattle.launch_meaning.specs.declared.ends.ItemEnd.{ItemEnd}
use Rattle.launch_meaning.specs.declared.ends.ItemEnd.TheVariants.{Ends as Comes, Bounds, Spent}
use Rattle.launch_meaning.specs.LaunchMeaning.{AreRun, left_by, turns_of, IsSafe}
use Rattle.promise.specs.Kernel.{idle_item, idle_kernel}
use Rattle.promise.specs.Openings.{Setting, IsSetting, plan_for, opening_of}
use Rattle.compile_pipe.specs.EmptyCode.{empty_module}
use Rattle.promise.specs.Faithful.{buffers_of, KeepsAll}
use Rattle.compile_pipe.specs.Kernels.{IsFaithful}
use Rattle.compile_pipe.proofs.IdleItems.{idle_is_kernel}
use Rattle.compile_pipe.proofs.EmptyRun.{IsAt, runs_clean, stands, rests_after, reads_none, writes_none, changes_none}
use Rattle.promise.proofs.OpeningLaws.{is_planned}
use Rattle.promise.proofs.OpeningBytes.{buffers_back}
use Rattle.promise.proofs.OpeningGaps.{gaps_in_opening}

words_fit : All (λ w. w < 2 ^ 64) empty_module.words
unfolding empty_module
words_fit zero d l = omega arith
words_fit (suc zero) d l = omega arith
words_fit (suc (suc zero)) d l = omega arith
words_fit (suc (suc (suc i))) d l = absurd (omega arith)

-- the module is within the limits
pub empty_is_module : IsModule empty_module
unfolding empty_module
empty_is_module =
    record {
      few_rows = omega arith;
      few_kinds = omega arith;
      some_words = omega arith;
      few_words = omega arith;
      fits = words_fit;
    }

-- an entry of a mapped list, past the end too
mapped_at : {A B : Type 0} (f : A → B) (xs : List A) (k : ℕ) (d : A) → get_or (map f xs) k (f d) ≡ f (get_or xs k d)
mapped_at f [] k d = refl
mapped_at f (x ∷ xs) zero d = refl
mapped_at f (x ∷ xs) (suc k) d = mapped_at f xs k d

-- three words of each QPU are few
within : (q batches turns steps : ℕ) → steps ≤ 3 * q → steps ≤ 2 ^ 28 * 1 * (q + batches + turns)
within q batches turns steps few = omega (arith, few)

-- ---- items that do nothing

idle_end : List (List ℕ) → Ended
idle_end buffers = record { buffers = buffers; marks = []; turns = 1 }

-- such an item leaves the buffers as they were
left_one : (launch : LaunchOf) (id : ℕ) (buffers : List (List ℕ)) (turns : ℕ) (one : Ended) → idle_item launch id buffers turns ≡ Comes one → one.buffers ≡ buffers
unfolding idle_item
left_one launch id buffers turns one e = by_clock (nat_lt turns 1) e
  where
    buffers_in : ItemEnd → List (List ℕ)
    buffers_in (Comes one) = one.buffers
    buffers_in (Bounds at) = []
    buffers_in Spent = []

    by_clock : (late : Bool) → (if late then Spent else Comes (record { buffers = buffers; marks = []; turns = 1 })) ≡ Comes one → one.buffers ≡ buffers
    by_clock true e = cc
    by_clock false e = ap buffers_in (sym e)

left_same : (launch : LaunchOf) (turns first : ℕ) (buffers : List (List ℕ)) (ended : List Ended)
    → AreRun (idle_item launch) turns first buffers ended → left_by buffers ended ≡ buffers
left_same launch turns first buffers [] run = refl
left_same launch turns first buffers (one ∷ more) run =
    left_same launch turns (suc first) one.buffers more run.1 ∙ left_one launch first buffers turns one run.0

module _ (s : Setting) (good : IsSetting empty_module s) where
  abbrev world : MachineState
  world = opening_of empty_module s

  starts : IsStart world
  unfolding opening_of
  starts =
      let planned = is_planned empty_module s empty_is_module good in
      openings_start (plan_for empty_module s.launch s.buffers s.scratch) s.contents planned.plan (unfold plan_for in good.contents) planned.uniforms planned.memory

  many : length world.qpus ≡ s.launch.qpus
  unfolding opening_of opening
  many = length-map s.contents.regs opening_qpu ∙ good.contents.many

  -- ---- each QPU alone

  abbrev start : ℕ → Solo
  start k = alone world (qpu_at world k)

  abbrev regs_of : ℕ → Regs
  regs_of k = get_or s.contents.regs k zero_regs

  begins : (k : ℕ) → IsAt (regs_of k) world.memory 0 (start k)
  unfolding opening_of opening opening_shared
  begins k =
      record {
        qpu = mapped_at opening_qpu s.contents.regs k zero_regs;
        owner = refl;
        kept = refl;
        due = refl;
        change = refl;
        notes = refl;
        moved = refl;
      }

  abbrev site : ℕ → Site
  site k = site_of world.fixed k

  code_is : world.fixed.code ≡ empty_module.words
  unfolding opening_of opening plan_for
  code_is = refl

  some_given : Given
  some_given = record { vpm = s.contents.vpm; memory = world.memory }

  some_given_is : IsGiven (length world.memory) some_given
  unfolding some_given
  some_given_is = record { vpm = good.contents.vpm; many = refl; bytes = starts.range.memory }

  clean : (k : ℕ) → IsCleanOf no_shares world k
  unfolding opening_of opening plan_for
  clean k = runs_clean k (site k) (regs_of k) world.memory (start k) (begins k) some_given some_given_is

  no_reads : (k : ℕ) → (a : ℕ) → ¬ (ReadsOf no_shares world k a)
  unfolding opening_of opening plan_for
  no_reads k a r = reads_none k (site k) (regs_of k) world.memory (start k) (begins k) a r

  no_writes : (k : ℕ) → (a : ℕ) → ¬ (WritesOf no_shares world k a)
  unfolding opening_of opening plan_for
  no_writes k a r = writes_none k (site k) (regs_of k) world.memory (start k) (begins k) a r

  no_changes : (k : ℕ) → (a : ℕ) (c : Change) → ¬ (ChangesOf no_shares world k a c)
  unfolding opening_of opening plan_for
  no_changes k a c h = changes_none k (site k) (regs_of k) world.memory (start k) (begins k) a c h

  sets_none : (k : ℕ) → (a : ℕ) → ¬ (SetsOf no_shares world k a)
  sets_none k a (inl w) = no_writes k a w
  sets_none k a (inr (c, h)) = no_changes k a c h

  touches_none : (k : ℕ) → (a : ℕ) → ¬ (TouchesOf no_shares world k a)
  touches_none k a (inl r) = no_reads k a r
  touches_none k a (inr t) = sets_none k a t

  premises : Premises no_shares world
  premises =
      record {
        start = starts;
        clean = λ k l. clean k;
        apart = λ j k m l other. record {
          writes = λ a w t. no_writes j a w;
          changes = λ a c h r. no_changes j a c h;
          commute = λ a c d h i. absurd (no_changes j a c h);
          shared = λ a c d h i. absurd (no_changes j a c h);
        };
        whole = λ a b same. refl;
        operands = λ k n. tt;
      }

  abbrev law : (steps : List Step) → Projects no_shares world steps
  law = projects no_shares world premises

  -- ---- how many words are done

  abbrev three : List Given
  three = some_given ∷ some_given ∷ some_given ∷ []

  three_are : AreGiven (length world.memory) three
  three_are = (some_given_is, (some_given_is, (some_given_is, tt)))

  ends : (k : ℕ) → Ends no_shares world k three
  unfolding opening_of opening plan_for
  ends k = record { valid = three_are; rests = rests_after k (site k) (regs_of k) world.memory (start k) (begins k) three three_are refl }

  costs : (k : ℕ) → cost (solo_of no_shares world k three) ≡ 3
  unfolding opening_of opening plan_for
  costs k =
      let h = stands k (site k) (regs_of k) world.memory (start k) (begins k) three three_are in
      let notes = h.notes in
      let moved = h.moved in
      omega (arith, notes, moved)

  sum_is : (n : ℕ) → n ≤ length world.qpus → sum_to n (λ k. cost (solo_of no_shares world k three)) ≡ 3 * n
  sum_is zero l = refl
  sum_is (suc n) l =
      let one = costs n in
      let others = sum_is n (omega (arith, l)) in
      omega (arith, one, others)

  few_steps : (steps : List Step) → effective_steps steps world ≤ 3 * s.launch.qpus
  few_steps steps =
      let most = bound no_shares world premises (λ k. three) (λ k l. ends k) steps in
      let all = sum_is (length world.qpus) (omega arith) in
      let q = many in
      omega (arith, most, all, q)

  -- ---- the memory stays

  memory_stays : (steps : List Step) → (machine_run steps world).memory ≡ world.memory
  memory_stays steps =
      ext_get_or 0 (machine_run steps world).memory world.memory (runs_keep steps world).2
      (λ a inside. (law steps).unwritten a (λ k l. sets_none k a))

  buffers_stay : (steps : List Step) → buffers_of (machine_run steps world) ≡ s.buffers
  unfolding buffers_of
  buffers_stay steps =
      ap (λ (m : List ℕ). map (bytes_of m) (machine_run steps world).fixed.buffers) (memory_stays steps)
      ∙ ap (λ f. map (bytes_of world.memory) f.buffers) (runs_keep steps world).0
      ∙ buffers_back empty_module s good

  nothing_loaded : (steps : List Step) (k a : ℕ) → ¬ (AnyCovers (load_started (machine_run steps world) k) a)
  nothing_loaded steps k a c = touches_none k a ((law steps).loads k a c)

  nothing_stored : (steps : List Step) (k a : ℕ) → ¬ (AnyCovers (store_started (machine_run steps world) k) a)
  nothing_stored steps k a c = sets_none k a ((law steps).stores k a c)

  keeps_all : (turns : ℕ) (ended : List Ended) → IsSafe (idle_item s.launch) (items_of s.launch.global) s.buffers turns ended
      → KeepsAll idle_kernel empty_module s ended
  keeps_all turns ended safe =
      record {
        not_broken = λ steps. (law steps).unbroken;
        bounded = λ steps. (let few = few_steps steps in within s.launch.qpus (batches s.launch) (turns_of ended) (effective_steps steps world) few);
        never_stuck = never_stuck no_shares world premises;
        exact = λ steps finished. buffers_stay steps ∙ sym (left_same s.launch turns 0 s.buffers ended safe.run);
        untouched = λ steps a inside buffers scratch.
            ap (λ (m : List ℕ). get_or m a 0) (memory_stays steps) ∙ gaps_in_opening empty_module s good a inside buffers scratch;
        confined = record {
          loads = λ steps k. inl (λ a c. absurd (nothing_loaded steps k a c));
          stores = λ steps k. inl (λ a c. absurd (nothing_stored steps k a c));
        };
      }

pub empty_is_faithful : (source name : List ℕ) → IsInProfile source name → IsFaithful source name empty_module
unfolding empty_module
empty_is_faithful source name lawful =
    record {
      kernel = idle_kernel;
      is_kernel = idle_is_kernel source name lawful;
      kinds = refl;
      keeps = λ s good which turns ended safe. keeps_all s good turns ended safe;
    }
