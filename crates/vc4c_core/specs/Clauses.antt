-- The clauses of the top call, for the language that this program compiles and by whose meaning it judges.
use Rattle.std.specs.Prelude.{ℕ, Bool, List, Option}
use Rattle.q_io.specs.FilesMeaning.{Tree, FilesState}
use Rattle.q_io.specs.SinkMeaning.{SinkState}
use Rattle.promise.specs.Language.{Sources}
use Rattle.compile_pipe.specs.Kernels.{opencl}
use Rattle.clc_meanings.specs.Meanings.{opencl_meanings}
use Rattle.commands.specs.declared.status.Status.{Status}
use Rattle.commands.specs.Plan.{both, Plan}
use Rattle.commands.specs.Due.{Due, Made, EndsAsMade as EndsAsMadeIn, AnswersAsMade as AnswersAsMadeIn, OnlyWritesMade as OnlyWritesMadeIn}
use Rattle.commands.specs.Commands.{Runs as RunsIn}
use Rattle.commands.specs.CompileClauses.{CompileAnswers as CompileAnswersIn, RunAnswers as RunAnswersIn, CompileEnds as CompileEndsIn, CompileRefuses as CompileRefusesIn, RunEnds as RunEndsIn, RunRefuses as RunRefusesIn}
use Rattle.commands.specs.JudgeClauses.{JudgeAnswers as JudgeAnswersIn, JudgeEnds as JudgeEndsIn, JudgeRefuses as JudgeRefusesIn}

-- OpenCL C, as it is compiled and as it is judged
abbrev pub sources : Sources
sources = both opencl opencl_meanings

-- a run of the program
abbrev pub Runs : Option Plan → FilesState → SinkState → FilesState → SinkState → Status → Type 0
Runs = RunsIn sources

-- how a command ends of which this is due where this is made of what it wants
abbrev pub EndsAsMade : Bool → (List Made → Due) → Tree → FilesState → SinkState → FilesState → SinkState → Status → Type 0
EndsAsMade = EndsAsMadeIn sources

-- the status is the one that is due with what is made of what it wants, or want of memory
abbrev pub AnswersAsMade : (List Made → Due) → Status → Type 0
AnswersAsMade = AnswersAsMadeIn sources

-- no file has changed but those that are due to be written with what is made of what it wants
abbrev pub OnlyWritesMade : (List Made → Due) → Tree → FilesState → Type 0
OnlyWritesMade = OnlyWritesMadeIn sources

-- what each answer of the program's own says of a `compile`
abbrev pub CompileAnswers : (source_name kernel module_name : List ℕ) → FilesState → SinkState → FilesState → SinkState → Status → Type 0
CompileAnswers = CompileAnswersIn opencl

-- what a `run` has done
abbrev pub RunAnswers : (source_name kernel module_name launch_name : List ℕ) → FilesState → SinkState → FilesState → SinkState → Status → Type 0
RunAnswers = RunAnswersIn sources

-- a `compile` with a source in the profile comes to its end, or wants memory
abbrev pub CompileEnds : (source_name kernel module_name : List ℕ) → Tree → Status → Type 0
CompileEnds = CompileEndsIn opencl

-- a `compile` of a source that violates a rule is refused, or wants memory
abbrev pub CompileRefuses : (source_name kernel module_name : List ℕ) → Tree → Status → Type 0
CompileRefuses = CompileRefusesIn opencl

-- a `run` of a kernel of a source by a valid launch that fits and is finite comes to its end, or wants memory
abbrev pub RunEnds : (source_name kernel module_name launch_name : List ℕ) → Tree → Status → Type 0
RunEnds = RunEndsIn opencl

-- a `run` of a source that violates a rule is refused, or wants memory
abbrev pub RunRefuses : (source_name kernel module_name launch_name : List ℕ) → Tree → Status → Type 0
RunRefuses = RunRefusesIn opencl

-- what each answer of the program's own says of a `judge`
abbrev pub JudgeAnswers : (source_name kernel launch_name : List ℕ) (turns : ℕ) → FilesState → SinkState → FilesState → SinkState → Status → Type 0
JudgeAnswers = JudgeAnswersIn opencl_meanings

-- a `judge` of a kernel of a source by a valid launch that fits comes to the verdict on it, or wants memory
abbrev pub JudgeEnds : (source_name kernel launch_name : List ℕ) (turns : ℕ) → Tree → FilesState → Status → Type 0
JudgeEnds = JudgeEndsIn opencl_meanings

-- a `judge` of a source that violates a rule is refused, or wants memory
abbrev pub JudgeRefuses : (source_name kernel launch_name : List ℕ) → Tree → Status → Type 0
JudgeRefuses = JudgeRefusesIn opencl_meanings
