-- The premises of the laws hold of the example.
use Rattle.std.proofs.Common.{◌≡◌, ◌≢◌, ℕ, zero, suc, ◌+◌, ◌/◌, ◌<◌, List, [], ◌∷◌, ◌++◌, length, refl, sym, ◌∙◌, subst, arith, inl, inr}
use Rattle.std.proofs.lemmas.List.{length-map}
use Rattle.std.specs.Prelude.{Option, Some, None, IfSome, slice_get, replicate}
use Rattle.vpm_words.specs.Access.{Given}
use Rattle.vpm_words.specs.Moves.{number_at}
use Rattle.vpm_words.specs.declared.state.Region.{Region}
use Rattle.qpu_machine.specs.Opening.{Contents, opening_qpu, opening, contents_of}
use Rattle.qpu_machine.specs.Planned.{no_region, Covers, LieIn, IsPlan}
use Rattle.qpu_machine.specs.Reachable.{AreWords, AreBytes, AreContents}
use Rattle.qpu_machine.specs.SoloRun.{Rests, want, solo, Change, IsClean, Reads, Writes, Changes}
use Rattle.qpu_machine.proofs.RangeFill.{fill_in_range}
use Rattle.solo_law.specs.Example.{example, example_words, buffer_of, place_of, ExampleFits, FilledExampleFits, ExampleStores}
use Rattle.solo_law.specs.Laws.{Ends}
use Rattle.solo_law.proofs.Opening.{openings_start}
use Rattle.solo_law.specs.Premises.{solo_of, IsStart, DontConflict, IsCleanOf, ReadsOf, WritesOf, ChangesOf, TouchesOf}
use Rattle.solo_law.specs.Sharing.{no_shares, of_qpu}
use Rattle.solo_law.proofs.ExampleMoments.{IsOwn}
use Rattle.solo_law.proofs.ExampleRuns.{opened_bytes, start, site_is, runs_clean, reads_none, writes_own, changes_none, leaves}

-- ---- the plan

abbrev buffers : List Region
buffers = buffer_of 0 ∷ buffer_of 1 ∷ buffer_of 2 ∷ []

abbrev scratch : List Region
scratch = replicate 3 no_region

buffers_lie : LieIn buffers 24
buffers_lie zero = omega arith
buffers_lie (suc zero) = omega arith
buffers_lie (suc (suc zero)) = omega arith
buffers_lie (suc (suc (suc i))) = tt

scratch_lies : LieIn scratch 24
scratch_lies zero = omega arith
scratch_lies (suc zero) = omega arith
scratch_lies (suc (suc zero)) = omega arith
scratch_lies (suc (suc (suc i))) = tt

-- a byte tells which region covers it
tells : (address i : ℕ) → IfSome (slice_get (buffers ++ scratch) i) (λ region. Covers address region → address / 8 ≡ i)
tells address zero = λ c. omega arith
tells address (suc zero) = λ c. omega arith
tells address (suc (suc zero)) = λ c. omega arith
tells address (suc (suc (suc zero))) = λ c. omega arith
tells address (suc (suc (suc (suc zero)))) = λ c. omega arith
tells address (suc (suc (suc (suc (suc zero))))) = λ c. omega arith
tells address (suc (suc (suc (suc (suc (suc i)))))) = tt

if_both : {A : Type 0} (p q : Option A) (P Q : A → Type 0) (R : A → A → Type 0) → IfSome p P → IfSome q Q → ((a b : A) → P a → Q b → R a b)
    → IfSome p (λ a. IfSome q (λ b. R a b))
if_both None q P Q R h i f = tt
if_both (Some a) None P Q R h i f = tt
if_both (Some a) (Some b) P Q R h i f = f a b h i

plan_is : IsPlan example
unfolding example example_words
plan_is =
    record {
      some = omega arith;
      few = omega arith;
      per = omega arith;
      uniforms = refl;
      scratch = refl;
      code = omega arith;
      short = omega arith;
      memory = omega arith;
      buffers_within = buffers_lie;
      scratch_within = scratch_lies;
      apart = λ address i j.
          if_both (slice_get (buffers ++ scratch) i) (slice_get (buffers ++ scratch) j) (λ one. Covers address one → address / 8 ≡ i)
          (λ other. Covers address other → address / 8 ≡ j) (λ one other. Covers address one → Covers address other → i ≡ j)
          (tells address i) (tells address j) (λ one other f g c d. sym (f c) ∙ g d);
    }

uniforms_are : AreWords example.uniforms
unfolding example
uniforms_are zero = omega arith
uniforms_are (suc zero) = omega arith
uniforms_are (suc (suc zero)) = omega arith
uniforms_are (suc (suc (suc i))) = omega arith

memory_is : AreBytes example.memory
unfolding example
memory_is = opened_bytes

-- ---- the premises

module _ (contents : Contents) (good : AreContents 3 contents) where
  starts : IsStart (opening example contents)
  starts = openings_start example contents plan_is (unfold example in good) uniforms_are memory_is

  many : length (opening example contents).qpus ≡ 3
  unfolding opening
  many = length-map contents.regs opening_qpu ∙ good.many

  clean : (k : ℕ) → k < 3 → IsCleanOf no_shares (opening example contents) k
  unfolding opening example
  clean k l =
      subst (λ g. IsClean (of_qpu no_shares k) example_words g (start contents good k)) (sym (site_is contents good k l)) (runs_clean contents good k l)

  no_reads : (k : ℕ) → k < 3 → (a : ℕ) → ¬ (ReadsOf no_shares (opening example contents) k a)
  unfolding opening example
  no_reads k l a r =
      reads_none contents good k l a
      (subst (λ g. Reads (of_qpu no_shares k) example_words g (start contents good k) a) (site_is contents good k l) r)

  own_writes : (k : ℕ) → k < 3 → (a : ℕ) → WritesOf no_shares (opening example contents) k a → IsOwn k a
  unfolding opening example
  own_writes k l a w =
      writes_own contents good k l a
      (subst (λ g. Writes (of_qpu no_shares k) example_words g (start contents good k) a) (site_is contents good k l) w)

  no_changes : (k : ℕ) → k < 3 → (a : ℕ) (c : Change) → ¬ (ChangesOf no_shares (opening example contents) k a c)
  unfolding opening example
  no_changes k l a c h =
      changes_none contents good k l a c
      (subst (λ g. Changes (of_qpu no_shares k) example_words g (start contents good k) a c) (site_is contents good k l) h)

  stored_alone : (k : ℕ) → k < 3 → (found : List Given) → Ends no_shares (opening example contents) k found
      → number_at 4 (solo_of no_shares (opening example contents) k found).memory (place_of k) ≡ k + 3
  unfolding opening example
  stored_alone k l found ends =
      subst (λ g. number_at 4 (solo (of_qpu no_shares k) example_words g (start contents good k) found).memory (place_of k) ≡ k + 3) (sym (site_is contents good k l))
      (leaves contents good k l found ends.valid
      (subst (λ g. want example_words g (solo (of_qpu no_shares k) example_words g (start contents good k) found).qpu ≡ Rests) (site_is contents good k l) ends.rests))

  -- a byte that QPU k touches is its own
  own_touches : (k : ℕ) → k < 3 → (a : ℕ) → TouchesOf no_shares (opening example contents) k a → IsOwn k a
  own_touches k l a (inl r) = absurd (no_reads k l a r)
  own_touches k l a (inr (inl w)) = own_writes k l a w
  own_touches k l a (inr (inr (c, h))) = absurd (no_changes k l a c h)

  apart : (j k : ℕ) → j < 3 → k < 3 → j ≢ k → DontConflict no_shares (opening example contents) j k
  apart j k m n other =
      record {
        writes = λ a w t. places_apart a (own_writes j m a w) (own_touches k n a t);
        changes = λ a c h r. no_changes j m a c h;
        commute = λ a c d h i. absurd (no_changes j m a c h);
        shared = λ a c d h i. absurd (no_changes j m a c h);
      }
    where
      places_apart : (a : ℕ) → IsOwn j a → IsOwn k a → ⊥
      places_apart a p q = omega arith

pub example_stores : ExampleStores
example_stores contents good k l found ends = stored_alone contents good k l found ends

pub example_fits : ExampleFits
example_fits contents good =
    let three = many contents good in
    record {
      start = starts contents good;
      clean = λ k l. clean contents good k (omega arith);
      apart = λ j k l m other. apart contents good j k (omega arith) (omega arith) other;
      whole = λ a b same. refl;
      operands = λ k n. tt;
    }

pub filled_example_fits : FilledExampleFits
filled_example_fits fill = example_fits (contents_of fill 3) (fill_in_range fill 3)
