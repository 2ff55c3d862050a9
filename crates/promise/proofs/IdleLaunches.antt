-- Launches of the kernel that does nothing are safe.
use Rattle.std.proofs.Common.{◌≡◌, ℕ, zero, suc, ◌+◌, ◌≤◌, List, [], replicate, refl, sym, ap, ◌∙◌, subst, arith}
use Rattle.std.proofs.lemmas.Bool.{le-ltb}
use Rattle.std.proofs.lemmas.List.{length-replicate}
use Rattle.std.specs.Prelude.{Bool, false, if◌then◌else◌, nat_lt}
use Rattle.footprint.specs.declared.marks.Mark.{Mark}
use Rattle.footprint.specs.declared.marks.Use.{Use}
use Rattle.footprint.specs.Marks.{Uses, ConflictAt}
use Rattle.launch_file.specs.Launches.{LaunchOf, items_of}
use Rattle.launch_meaning.specs.declared.ends.Ended.{Ended}
use Rattle.launch_meaning.specs.declared.ends.ItemEnd.TheVariants.{Ends, Spent}
use Rattle.launch_meaning.specs.LaunchMeaning.{AreRun, left_by, turns_of, marks_at, IsSafe}
use Rattle.promise.specs.Kernel.{idle_item}
use Rattle.promise.specs.Laws.{IdleLaunchesAreSafe}

module _ (launch : LaunchOf) (buffers : List (List ℕ)) where
  abbrev one : Ended
  one = record { buffers = buffers; marks = []; turns = 1 }

  in_time : (turns : ℕ) → 1 ≤ turns → nat_lt turns 1 ≡ false
  in_time turns enough = le-ltb turns 1 enough

  runs : (turns first n : ℕ) → 1 ≤ turns → AreRun (idle_item launch) turns first buffers (replicate n one)
  unfolding idle_item
  runs turns first zero enough = tt
  runs turns first (suc n) enough = (ap (λ (late : Bool). if late then Spent else Ends one) (in_time turns enough), runs turns (suc first) n enough)

  all_turns : (n : ℕ) → turns_of (replicate n one) ≡ n
  all_turns zero = refl
  all_turns (suc n) = ap (λ k. 1 + k) (all_turns n) ∙ (let one_on : 1 + n ≡ suc n = omega arith in one_on)

  all_left : (n : ℕ) → left_by buffers (replicate n one) ≡ buffers
  all_left zero = refl
  all_left (suc n) = all_left n

  no_marks : (n i : ℕ) → marks_at (replicate n one) i ≡ []
  no_marks zero i = refl
  no_marks (suc n) zero = refl
  no_marks (suc n) (suc i) = no_marks n i

  no_clash : {f g : List Mark} (buffer byte : ℕ) → f ≡ [] → g ≡ [] → ¬ (ConflictAt f g buffer byte)
  no_clash buffer byte f_none g_none (how, other, used, more, conflicts) = no_use how buffer byte (subst (λ (marks : List Mark). Uses marks how buffer byte) f_none used)
    where
      no_use : (how : Use) (buffer byte : ℕ) → ¬ (Uses [] how buffer byte)
      no_use how buffer byte u = (let there = u.1.1 in absurd (omega (arith, there)))

  safe : (turns n : ℕ) → 1 ≤ turns → IsSafe (idle_item launch) n buffers turns (replicate n one)
  safe turns n enough =
      record {
        many = length-replicate {A = Ended} n one;
        run = runs turns 0 n enough;
        apart = λ clash is. no_clash clash.buffer clash.byte (no_marks n clash.first) (no_marks n clash.second) is.conflict;
      }

pub idle_launches : IdleLaunchesAreSafe
idle_launches launch buffers turns enough =
    let n : ℕ = items_of launch.global in
    (replicate n (one launch buffers), safe launch buffers turns n enough, all_turns launch buffers n, all_left launch buffers n)
