-- What `judge` has done where it ends with an answer of its own, and where it comes to its verdict.
use Rattle.std.specs.Prelude.{◌≡◌, ◌≢◌, ◌⊎◌, ◌≤◌, ℕ, List, [], ◌∷◌, length, Some, None, ⊤}
use Rattle.q_io.specs.FilesMeaning.{Tree, FilesState, Holds}
use Rattle.q_io.specs.SinkMeaning.{SinkState, Gains}
use Rattle.launch_file.specs.Launches.{IsLaunch, items_of}
use Rattle.launch_file.specs.LaunchText.{launch_text}
use Rattle.launch_file.specs.LaunchIn.{launch_in}
use Rattle.launch_file.specs.Rules.{first_fault as launch_fault}
use Rattle.launch_file.specs.Fit.{fit_fault}
use Rattle.launch_meaning.specs.declared.verdict.Verdict.{Verdict}
use Rattle.launch_meaning.specs.LaunchMeaning.{IsVerdict}
use Rattle.promise.specs.declared.refusal.SourceRule.{SourceRule}
use Rattle.promise.specs.Kernel.{Meaning}
use Rattle.promise.specs.Language.{Meanings}
use Rattle.commands.specs.Plan.{status_of}
use Rattle.commands.specs.Launching.{launch_limit}
use Rattle.commands.specs.Compile.{source_limit}
use Rattle.commands.specs.Judge.{answer_to, verdict_line}
use Rattle.commands.specs.ExecClauses.{AreRead, RefusedLaunch}
use Rattle.commands.specs.CompileClauses.{IsEarly, RefusedSource}
use Rattle.commands.specs.declared.status.Status.{Status}
use Rattle.commands.specs.declared.status.Status.TheVariants.{Done, Memory, Usage, ReadFault, WriteFault, Missing, TooLong, Refused, BadModule, BadLaunch, Broken, Unfinished, NotSafe}

-- The kernel of that name in the source that was read has this meaning.
pub record IsUnderstood (meanings : Meanings) (source_name kernel : List ℕ) (before : FilesState) (source : List ℕ) (meaning : Meaning) : Type 0 where
  pub read : Holds before source_name source
  pub short : length source ≤ source_limit
  pub means : meanings.means source kernel meaning

-- The launch that was read was judged, over the buffers that were read, with so many turns for each work-item. The status and the line are those of
-- the verdict.
pub record HasJudged (meanings : Meanings) (source_name kernel launch_name : List ℕ) (turns : ℕ) (before : FilesState) (out_before out_now : SinkState) (result : Status) : Type 0 where
  pub source : List ℕ
  pub meaning : Meaning
  pub text : List ℕ
  pub buffers : List (List ℕ)
  pub verdict : Verdict
  pub understood : IsUnderstood meanings source_name kernel before source meaning
  pub launch_file : Holds before launch_name text
  pub launch_is : IsLaunch (launch_in text)
  pub spelling : text ≡ launch_text (launch_in text)
  pub no_fault : launch_fault text ≡ None
  pub fits : fit_fault (launch_in text) meaning.kinds (source_name ∷ launch_name ∷ []) ≡ None
  pub contents : AreRead before (launch_in text).buffers buffers
  pub is_verdict : IsVerdict (meaning.item (launch_in text)) (items_of (launch_in text).global) buffers turns verdict
  pub status : result ≡ status_of (answer_to verdict)
  pub line : Gains out_before out_now (verdict_line source verdict)

-- The launch's file violates a rule, by itself or with the kernel that was read, and the line says which and where.
pub record RefusedJudgement (meanings : Meanings) (source_name kernel launch_name : List ℕ) (before : FilesState) (out_before : SinkState) (now : FilesState) (out_now : SinkState) : Type 0 where
  pub source : List ℕ
  pub meaning : Meaning
  pub understood : IsUnderstood meanings source_name kernel before source meaning
  pub launch : RefusedLaunch meaning.kinds (source_name ∷ launch_name ∷ []) launch_name before out_before now out_now

-- the answers of a verdict
abbrev pub IsVerdictStatus : Status → Type 0
IsVerdictStatus Done = ⊤
IsVerdictStatus NotSafe = ⊤
IsVerdictStatus Memory = ⊥
IsVerdictStatus Usage = ⊥
IsVerdictStatus ReadFault = ⊥
IsVerdictStatus WriteFault = ⊥
IsVerdictStatus Missing = ⊥
IsVerdictStatus TooLong = ⊥
IsVerdictStatus Refused = ⊥
IsVerdictStatus BadModule = ⊥
IsVerdictStatus BadLaunch = ⊥
IsVerdictStatus Broken = ⊥
IsVerdictStatus Unfinished = ⊥

-- What each answer of the program's own says of a `judge`. No file changes.
pub record JudgeAnswers (meanings : Meanings) (source_name kernel launch_name : List ℕ) (turns : ℕ) (before : FilesState) (out_before : SinkState) (now : FilesState) (out_now : SinkState) (result : Status) : Type 0 where
  pub judged : IsVerdictStatus result → HasJudged meanings source_name kernel launch_name turns before out_before out_now result
  pub refused : result ≡ Refused → RefusedSource meanings.violates_first source_name kernel before out_before now out_now
  pub bad_launch : result ≡ BadLaunch → RefusedJudgement meanings source_name kernel launch_name before out_before now out_now
  pub own : IsVerdictStatus result ⊎ ((result ≡ BadLaunch) ⊎ IsEarly result)
  pub files : now.told ≡ before.told

-- A `judge` of a kernel of a source by a valid launch that fits comes to the verdict on it, or wants memory.
abbrev pub JudgeEnds : (meanings : Meanings) (source_name kernel launch_name : List ℕ) (turns : ℕ) → Tree → FilesState → Status → Type 0
JudgeEnds meanings source_name kernel launch_name turns tree before result =
    (source text : List ℕ) (meaning : Meaning) (buffers : List (List ℕ)) (verdict : Verdict) → source_name ≢ launch_name
    → tree source_name ≡ Some source → length source ≤ source_limit → meanings.means source kernel meaning
    → tree launch_name ≡ Some text → length text ≤ launch_limit → launch_fault text ≡ None
    → fit_fault (launch_in text) meaning.kinds (source_name ∷ launch_name ∷ []) ≡ None
    → AreRead before (launch_in text).buffers buffers
    → IsVerdict (meaning.item (launch_in text)) (items_of (launch_in text).global) buffers turns verdict
    → (result ≡ status_of (answer_to verdict)) ⊎ (result ≡ Memory)

-- A `judge` of a source that violates a rule is refused, or wants memory, whatever its launch.
abbrev pub JudgeRefuses : (meanings : Meanings) (source_name kernel launch_name : List ℕ) → Tree → Status → Type 0
JudgeRefuses meanings source_name kernel launch_name tree result =
    (source : List ℕ) (rule : SourceRule) (at : ℕ) → source_name ≢ launch_name
    → tree source_name ≡ Some source → length source ≤ source_limit → meanings.violates_first source kernel rule at
    → (result ≡ Refused) ⊎ (result ≡ Memory)
