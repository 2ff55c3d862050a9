-- What is known once some items of a launch have come to their ends.
use Rattle.std.specs.Prelude.{◌≡◌, ℕ, ◌*◌, ◌≤◌, List, Option, MatchOption, length}
use Rattle.launch_meaning.specs.declared.ends.Ended.{Ended}
use Rattle.launch_meaning.specs.declared.verdict.Clash.{Clash}
use Rattle.launch_meaning.specs.declared.verdict.Verdict.{Verdict}
use Rattle.launch_meaning.specs.declared.verdict.Verdict.TheVariants.{Safe, Race, Bounds, Spent}
use Rattle.launch_meaning.specs.LaunchMeaning.{Item, AreRun, left_by, turns_of}
use Rattle.touches.specs.declared.touch.Touch.{Touch}
use Rattle.touches.specs.Tells.{Tells}

-- the first n items were run, and these are the buffers, the turns together and the table of what they read and wrote
pub record Ran (item : Item) (turns : ℕ) (buffers : List (List ℕ)) (n : ℕ) (ended : List Ended) (left : List (List ℕ)) (rows : List (List Touch)) (all : ℕ) : Type 0 where
  pub many : length ended ≡ n
  pub run : AreRun item turns 0 buffers ended
  pub left_is : left_by buffers ended ≡ left
  pub tells : Tells ended rows
  pub all_is : turns_of ended ≡ all
  pub all_fits : all ≤ n * 4294967295

-- the race, where there is one, else the turns and the buffers
abbrev pub IsVerdictOf : Option Clash → (turns : ℕ) → List (List ℕ) → Verdict → Type 0
IsVerdictOf race turns buffers (Race buffer byte first second) =
    MatchOption race ⊥ (λ clash. clash ≡ record { buffer = buffer; byte = byte; first = first; second = second })
IsVerdictOf race turns buffers (Safe all after) = MatchOption race ((all ≡ turns) × (after.items ≡ buffers)) (λ clash. ⊥)
IsVerdictOf race turns buffers (Bounds item at) = ⊥
IsVerdictOf race turns buffers (Spent item) = ⊥
