-- The opening of a launch that fits is one of its module's settings.
use Rattle.std.proofs.Common.{zero, suc, ◌≡◌, ℕ, ◌*◌, ◌<◌, List, [], ◌∷◌, ◌++◌, length, replicate, get_or, map, refl, ap, ◌∙◌, arith}
use Rattle.std.specs.Prelude.{Option, Some, None, Ok, IfSome, slice_get}
use Rattle.std.specs.List.{Contains}
use Rattle.std.proofs.lemmas.List.{length-map, length-replicate}
use Rattle.q_lane.specs.declared.kinds.Kind.{Kind}
use Rattle.launch_file.specs.declared.launch.BufferLine.{BufferLine}
use Rattle.launch_file.specs.Launches.{LaunchOf, IsLaunch}
use Rattle.launch_file.specs.Layout.{regions, first_start, next_start, buffer_lens, layout_of}
use Rattle.launch_file.specs.Fit.{FaultAt, fit_fault, answer_of}
use Rattle.launch_file.specs.Laws.{Fits}
use Rattle.launch_file.proofs.FitLaws.{no_fault_is_fit}
use Rattle.launch_file.proofs.RegionSteps.{regions_none, regions_next}
use Rattle.vc4q_module.specs.ModuleBytes.{ModuleOf}
use Rattle.qpu_machine.specs.Planned.{Planned}
use Rattle.qpu_machine.specs.Opening.{opening, opening_qpu, contents_of, zero_regs}
use Rattle.qpu_machine.specs.Reachable.{AreBytes}
use Rattle.qpu_machine.specs.declared.plan.Fill.TheVariants.{Zero}
use Rattle.qpu_machine.proofs.RangeFill.{fill_in_range}
use Rattle.promise.specs.Openings.{region_of, plan_for, opening_of, IsSetting, AreAllBytes}
use Rattle.commands.specs.Openings.{empty_scratch, zero_setting, opening_for}

-- a name that isn't one of those of a command isn't one of none
free_of_none : (to : Option (List ℕ)) (taken : List (List ℕ)) → IfSome to (λ name. Contains taken name → ⊥) → IfSome to (λ name. Contains [] name → ⊥)
free_of_none None taken h = tt
free_of_none (Some name) taken h = λ there. omega (arith, there.1)

line_of_none : (line : Option BufferLine) (taken : List (List ℕ)) → IfSome line (λ buffer. IfSome buffer.to (λ name. Contains taken name → ⊥)) → IfSome line (λ buffer. IfSome buffer.to (λ name. Contains [] name → ⊥))
line_of_none None taken h = tt
line_of_none (Some line) taken h = free_of_none line.to taken h

pub fits_alone : (launch : LaunchOf) (kinds : List Kind) (taken : List (List ℕ)) → Fits launch kinds taken → Fits launch kinds []
fits_alone launch kinds taken h = record { count = h.count; args = h.args; names = λ i. line_of_none (slice_get launch.buffers i) taken (h.names i) }

zero_at : (n i : ℕ) → get_or (replicate n 0) i 0 < 256
zero_at zero i = omega arith
zero_at (suc n) zero = omega arith
zero_at (suc n) (suc i) = zero_at n i

scratch_bytes : (rows : ℕ) → AreBytes (empty_scratch rows)
unfolding empty_scratch
scratch_bytes rows = λ i. zero_at (64 * rows) i

some_scratch : (xs : List (List ℕ)) (bytes : List ℕ) → AreBytes bytes → AreAllBytes xs → (i : ℕ) → IfSome (slice_get (bytes ∷ xs) i) AreBytes
some_scratch xs bytes one more zero = one
some_scratch xs bytes one more (suc i) = more i

all_scratch : (n rows : ℕ) → AreAllBytes (replicate n (empty_scratch rows))
all_scratch zero rows = λ i. tt
all_scratch (suc n) rows = some_scratch (replicate n (empty_scratch rows)) (empty_scratch rows) (scratch_bytes rows) (all_scratch n rows)

scratch_sizes : (n rows : ℕ) → map length (replicate n (empty_scratch rows)) ≡ replicate n (64 * rows)
unfolding empty_scratch
scratch_sizes zero rows = refl
scratch_sizes (suc n) rows = ap (λ k. k ∷ map length (replicate n (empty_scratch rows))) (length-replicate {A = ℕ} (64 * rows) 0) ∙ ap (λ ks. 64 * rows ∷ ks) (scratch_sizes n rows)

-- a valid launch that fits, with bytes of the size of each buffer
pub zero_is_setting : (code : ModuleOf) (launch : LaunchOf) (buffers : List (List ℕ)) → IsLaunch launch → Fits launch code.kinds []
    → map length buffers ≡ buffer_lens launch.buffers → AreAllBytes buffers → IsSetting code (zero_setting code launch buffers)
zero_is_setting code launch buffers launch_is fits sizes bytes = record {
  valid = record { is_launch = launch_is; fits = fits };
  buffer_sizes = sizes;
  buffer_bytes = bytes;
  scratch_sizes = scratch_sizes launch.qpus code.rows;
  scratch_bytes = all_scratch launch.qpus code.rows;
  contents = fill_in_range Zero launch.qpus;
}

pub opened_for : (plan : Planned) (code : ModuleOf) (launch : LaunchOf) (buffers : List (List ℕ)) → plan ≡ plan_for code launch buffers (replicate launch.qpus (empty_scratch code.rows))
    → opening plan (contents_of Zero plan.qpus) ≡ opening_for code launch buffers
unfolding opening_for opening_of plan_for
opened_for plan code launch buffers e = ap (λ p. opening p (contents_of Zero p.qpus)) e

-- the opening has the QPUs and the buffers of its launch
pub count_qpus : (code : ModuleOf) (launch : LaunchOf) (buffers : List (List ℕ)) → length (opening_for code launch buffers).qpus ≡ launch.qpus
unfolding opening_for opening_of plan_for opening
count_qpus code launch buffers = length-map (contents_of Zero launch.qpus).regs opening_qpu ∙ length-replicate launch.qpus zero_regs

count_placed : (start : ℕ) (lens : List ℕ) → length (regions start lens) ≡ length lens
count_placed start [] = ap length (regions_none start)
count_placed start (len ∷ lens) = ap length (regions_next start len lens) ∙ ap suc (count_placed (next_start start len) lens)

pub count_regions : (code : ModuleOf) (launch : LaunchOf) (buffers : List (List ℕ)) → length (opening_for code launch buffers).fixed.buffers ≡ length launch.buffers
unfolding opening_for opening_of plan_for opening layout_of
count_regions code launch buffers =
    length-map (regions first_start (buffer_lens launch.buffers)) region_of ∙ count_placed first_start (buffer_lens launch.buffers) ∙ length-map launch.buffers (λ buffer. buffer.size)

more_bytes : (xs : List (List ℕ)) (bytes : List ℕ) → AreAllBytes xs → AreBytes bytes → (i : ℕ) → IfSome (slice_get (xs ++ bytes ∷ []) i) AreBytes
more_bytes [] bytes all one zero = one
more_bytes [] bytes all one (suc i) = tt
more_bytes (x ∷ xs) bytes all one zero = all 0
more_bytes (x ∷ xs) bytes all one (suc i) = more_bytes xs bytes (λ k. all (suc k)) one i

-- one more buffer of bytes
pub all_more : (xs : List (List ℕ)) (bytes : List ℕ) → AreAllBytes xs → AreBytes bytes → AreAllBytes (xs ++ bytes ∷ [])
all_more xs bytes all one = more_bytes xs bytes all one

-- a launch that the test of its fit passes
pub fits_by : (launch : LaunchOf) (kinds : List Kind) (taken : List (List ℕ)) → answer_of (fit_fault launch kinds taken) ≡ Ok tt → Fits launch kinds []
fits_by launch kinds taken e = fits_alone launch kinds taken ((no_fault_is_fit launch kinds taken).0 (no_fault (fit_fault launch kinds taken) e))
  where
    no_fault : (there : Option FaultAt) → answer_of there ≡ Ok tt → there ≡ None
    no_fault None e = refl
    no_fault (Some fault) e = absurd (cc)
