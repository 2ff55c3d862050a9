-- What shows that the definitions fit together.
use Rattle.std.specs.Prelude.{◌≡◌, ℕ, List}
use Rattle.launch_meaning.specs.declared.verdict.Verdict.{Verdict}
use Rattle.launch_meaning.specs.declared.verdict.Verdict.TheVariants.{Safe}
use Rattle.launch_meaning.specs.LaunchMeaning.{Item, IsVerdict}

-- they say the same
abbrev pub SaySame : Verdict → Verdict → Type 0
SaySame (Safe all after) (Safe all' after') = (all ≡ all') × (after.items ≡ after'.items)
SaySame v w = v ≡ w

abbrev pub OneVerdict : Type 0
OneVerdict =
    (item : Item) (items : ℕ) (buffers : List (List ℕ)) (turns : ℕ) (v w : Verdict)
    → IsVerdict item items buffers turns v → IsVerdict item items buffers turns w → SaySame v w
