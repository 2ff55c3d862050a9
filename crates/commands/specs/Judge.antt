-- The command `judge`: its places, and the line of a verdict.
use Rattle.std.specs.Prelude.{ℕ, ◌^◌, List, [], ◌∷◌, ◌++◌, Option, Some, None, option_and_then, if◌then◌else◌, nat_lt, codes, decimal}
use Rattle.launch_file.specs.Launches.{LaunchOf, items_of}
use Rattle.launch_file.specs.Words.{number_of}
use Rattle.launch_meaning.specs.declared.verdict.Verdict.{Verdict}
use Rattle.launch_meaning.specs.declared.verdict.Verdict.TheVariants.{Safe, Race, Bounds, Spent}
use Rattle.promise.specs.Kernel.{Meaning}
use Rattle.commands.specs.Buffers.{read_buffers}
use Rattle.commands.specs.Compile.{source_limit}
use Rattle.commands.specs.Launching.{launch_plan}
use Rattle.commands.specs.Plan.{Answer, done, refused, not_safe, Plan, reads, makes, answers, Understanding, understood, refuted, a_meaning, a_verdict}
use Rattle.commands.specs.Refusals.{line_col, refused_line}

-- a number below 2 ^ 32
abbrev pub below_limit : ℕ → Option ℕ
below_limit n = if nat_lt n (2 ^ 32) then Some n else None

-- the turns that a word says: in decimal, without leading zeros, at most 4,294,967,295
unfoldable pub turns_in : List ℕ → Option ℕ
turns_in word = option_and_then below_limit (number_of word)

-- the line of a race: the buffer and the byte, and the two items
unfoldable pub race_line : (buffer byte first second : ℕ) → List ℕ
race_line buffer byte first second =
    codes "race buffer " ++ (decimal buffer ++ (codes " byte " ++ (decimal byte ++ (codes " items " ++ (decimal first ++ (codes " " ++ (decimal second ++ codes "\n")))))))

-- the line of a verdict. An access out of bounds is told by the line and the column of its first token
unfoldable pub verdict_line : (source : List ℕ) → Verdict → List ℕ
verdict_line source (Safe turns buffers) = codes "safe turns " ++ (decimal turns ++ codes "\n")
verdict_line source (Race buffer byte first second) = race_line buffer byte first second
verdict_line source (Bounds item at) =
    codes "bounds item " ++ (decimal item ++ (codes " " ++ (decimal (line_col source at).0 ++ (codes " " ++ (decimal (line_col source at).1 ++ codes "\n")))))
verdict_line source (Spent item) = codes "spent item " ++ (decimal item ++ codes "\n")

-- a launch is safe or isn't
abbrev pub answer_to : Verdict → Answer
answer_to (Safe turns buffers) = done
answer_to (Race buffer byte first second) = not_safe
answer_to (Bounds item at) = not_safe
answer_to (Spent item) = not_safe

abbrev pub tell : (source : List ℕ) → Verdict → Plan
tell source verdict = answers (answer_to verdict) (verdict_line source verdict)

-- from the buffers on: the launch is judged, and the verdict is told
unfoldable pub verdict_plan : (source : List ℕ) → Meaning → (turns : ℕ) → LaunchOf → List (List ℕ) → Plan
verdict_plan source meaning turns launch buffers = makes (a_verdict (meaning.item launch) (items_of launch.global) buffers turns) (tell source)

-- from the buffers of a launch that fits on. The file of its schedule isn't read
unfoldable pub judged_plan : (source : List ℕ) → Meaning → (turns : ℕ) → LaunchOf → Plan
judged_plan source meaning turns launch = read_buffers launch.buffers [] (verdict_plan source meaning turns launch)

-- what is understood is taken further, and a source that violates a rule is refused with it
abbrev pub after_reading : (source : List ℕ) → (Meaning → Plan) → Understanding → Plan
after_reading source next (understood meaning) = next meaning
after_reading source next (refuted rule at) = answers refused (refused_line source rule at)

-- from the read of the source on
unfoldable pub meaning_plan : (source_name kernel : List ℕ) → ((source : List ℕ) → Meaning → Plan) → Plan
meaning_plan source_name kernel next = reads source_name source_limit (λ source. makes (a_meaning source kernel) (after_reading source (next source)))

-- from the read of the launch on; the command names these two files
unfoldable pub judged_launch_plan : (source_name launch_name : List ℕ) → (turns : ℕ) → (source : List ℕ) → Meaning → Plan
judged_launch_plan source_name launch_name turns source meaning =
    launch_plan (source_name ∷ launch_name ∷ []) meaning.kinds launch_name (judged_plan source meaning turns)

unfoldable pub judge_plan : (source_name kernel launch_name : List ℕ) → (turns : ℕ) → Plan
judge_plan source_name kernel launch_name turns = meaning_plan source_name kernel (judged_launch_plan source_name launch_name turns)
