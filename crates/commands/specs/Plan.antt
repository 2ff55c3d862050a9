-- A command as its places in order, and what a run of it may do.
use Rattle.std.specs.Prelude.{◌≡◌, ◌⊎◌, ℕ, ◌≤◌, Bool, true, false, List, length, slice_index, ◌<◌, Some, option_map}
use Rattle.q_io.specs.Rose.{Rose}
use Rattle.q_io.specs.FilesMeaning.{FilesState, FilesCountsStay, Holds, Lacks, Passes, Spoils, with_file}
use Rattle.q_io.specs.SinkMeaning.{SinkState}
use Rattle.vc4q_module.specs.ModuleBytes.{ModuleOf, IsModule}
use Rattle.launch_meaning.specs.declared.verdict.Verdict.{Verdict}
use Rattle.launch_meaning.specs.LaunchMeaning.{Item, IsVerdict}
use Rattle.promise.specs.declared.refusal.SourceRule.{SourceRule}
use Rattle.promise.specs.Kernel.{Meaning}
use Rattle.promise.specs.Language.{Language, Meanings, Sources}
use Rattle.promise.specs.Faithful.{IsFaithful}
use Rattle.commands.specs.Lines.{Says, SaysTrouble}
use Rattle.commands.specs.declared.status.Status.{Status}
use Rattle.commands.specs.declared.status.Status.TheVariants.{Done, Memory, Refused, BadModule, BadLaunch, Broken, Unfinished, NotSafe}
use Rattle.commands.specs.declared.places.Trouble.{Trouble}
use Rattle.commands.specs.declared.places.Trouble.TheVariants.{Missing as IsMissing, TooLong as IsTooLong, ReadFault as IsReadFault, WriteFault as IsWriteFault, Memory as IsMemory}

-- the answers of a command that met no trouble at its places
pub data Answer : Type 0 where
  done : Answer
  refused : Answer
  bad_module : Answer
  bad_launch : Answer
  broken : Answer
  unfinished : Answer
  not_safe : Answer

abbrev pub status_of : Answer → Status
status_of done = Done
status_of refused = Refused
status_of bad_module = BadModule
status_of bad_launch = BadLaunch
status_of broken = Broken
status_of unfinished = Unfinished
status_of not_safe = NotSafe

-- what is made of a source: a module, or none, since this rule is violated at this byte
pub data Compilation : Type 0 where
  compiled : (code : ModuleOf) → Compilation
  violated : (rule : SourceRule) (at : ℕ) → Compilation

-- what a kernel of a source means, or that this rule is violated at this byte
pub data Understanding : Type 0 where
  understood : (meaning : Meaning) → Understanding
  refuted : (rule : SourceRule) (at : ℕ) → Understanding

-- a module is one and is faithful to the kernel of that name in the source, and a rule is the first that is violated
abbrev pub IsCompilation : (language : Language) (source kernel : List ℕ) → Compilation → Type 0
IsCompilation language source kernel (compiled code) = IsModule code × IsFaithful language source kernel code
IsCompilation language source kernel (violated rule at) = language.violates_first source kernel rule at

-- the kernel of that name in the source has the meaning, and a rule is the first that is violated
abbrev pub IsUnderstanding : (meanings : Meanings) (source kernel : List ℕ) → Understanding → Type 0
IsUnderstanding meanings source kernel (understood meaning) = meanings.means source kernel meaning
IsUnderstanding meanings source kernel (refuted rule at) = meanings.violates_first source kernel rule at

-- no source compiles, and none means anything
abbrev pub no_language : Language
no_language = record { in_profile = λ source name. ⊥; has_kernel = λ source name kernel. ⊥; violates_first = λ source name rule at. ⊥ }

abbrev pub no_meanings : Meanings
no_meanings = record { means = λ source name meaning. ⊥; violates_first = λ source name rule at. ⊥ }

abbrev pub both : Language → Meanings → Sources
both language meanings = record { compiled = language; judged = meanings }

-- what neither compiles nor judges is said of these
abbrev pub no_sources : Sources
no_sources = both no_language no_meanings

-- what a command wants to be made of what it has read
pub data Wanted : Type 0 where
  -- a module of the kernel of that name in a source
  a_module : (source kernel : List ℕ) → Wanted
  -- what that kernel means
  a_meaning : (source kernel : List ℕ) → Wanted
  -- the verdict on a launch of so many items
  a_verdict : (item : Item) (items : ℕ) (buffers : List (List ℕ)) (turns : ℕ) → Wanted

-- what is made then
abbrev pub MadeOf : Wanted → Type 0
MadeOf (a_module source kernel) = Compilation
MadeOf (a_meaning source kernel) = Understanding
MadeOf (a_verdict item items buffers turns) = Verdict

-- it is made rightly
abbrev pub IsMadeOf : Sources → (wanted : Wanted) → MadeOf wanted → Type 0
IsMadeOf sources (a_module source kernel) made = IsCompilation sources.compiled source kernel made
IsMadeOf sources (a_meaning source kernel) made = IsUnderstanding sources.judged source kernel made
IsMadeOf sources (a_verdict item items buffers turns) made = IsVerdict item items buffers turns made

-- what a command has still to do
pub data Plan : Type 0 where
  -- it reads a file of at most so many bytes, and goes on with these
  reads : (name : List ℕ) (limit : ℕ) (next : List ℕ → Plan) → Plan
  -- it writes a file
  writes : (name bytes : List ℕ) (next : Plan) → Plan
  -- it makes what it wants, and goes on with that
  makes : (wanted : Wanted) (next : MadeOf wanted → Plan) → Plan
  -- from here on it asks for no memory: the machine's first step, or the write of a module that isn't run
  commits : (next : Plan) → Plan
  -- it writes its line and ends
  answers : (answer : Answer) (line : List ℕ) → Plan

-- the file was read: no file has changed, and these bytes are its own where the files are told
pub record HasRead (before now : FilesState) (name : List ℕ) (limit : ℕ) (bytes : List ℕ) : Type 0 where
  pub counts : FilesCountsStay before now
  pub files : now.told ≡ before.told
  pub fits : length bytes ≤ limit
  pub are_bytes : (i : ℕ) → slice_index bytes i < 256
  pub holds : Holds before name bytes

-- the file was written, and no other has changed
pub record HasWritten (before now : FilesState) (name bytes : List ℕ) : Type 0 where
  pub counts : FilesCountsStay before now
  pub files : now.told ≡ option_map (with_file name (Some bytes)) before.told

-- what stops a read, with its cause
abbrev pub ReadTrouble : FilesState → FilesState → List ℕ → ℕ → Trouble → Type 0
ReadTrouble before now name limit IsMissing = Rose before.misses now.misses × Lacks before name
ReadTrouble before now name limit IsTooLong = Rose before.over_long now.over_long × Passes before name limit
ReadTrouble before now name limit IsReadFault = Rose before.read_faults now.read_faults
ReadTrouble before now name limit IsWriteFault = ⊥
ReadTrouble before now name limit IsMemory = Rose before.shortages now.shortages

-- what stops a write, with its cause
abbrev pub WriteTrouble : FilesState → FilesState → Trouble → Type 0
WriteTrouble before now IsMissing = ⊥
WriteTrouble before now IsTooLong = ⊥
WriteTrouble before now IsReadFault = ⊥
WriteTrouble before now IsWriteFault = Rose before.write_faults now.write_faults
WriteTrouble before now IsMemory = Rose before.shortages now.shortages

-- a read stopped the command, with no file changed
pub record StopsAtRead (before now : FilesState) (out_before out_now : SinkState) (name : List ℕ) (limit : ℕ) (result : Status) : Type 0 where
  pub counts : FilesCountsStay before now
  pub files : now.told ≡ before.told
  pub trouble : Trouble
  pub cause : ReadTrouble before now name limit trouble
  pub says : SaysTrouble out_before out_now trouble name result

-- a write stopped the command: its file may hold anything, and no other has changed
pub record StopsAtWrite (before now : FilesState) (out_before out_now : SinkState) (name : List ℕ) (result : Status) : Type 0 where
  pub counts : FilesCountsStay before now
  pub files : Spoils before now name
  pub trouble : Trouble
  pub cause : WriteTrouble before now trouble
  pub says : SaysTrouble out_before out_now trouble name result

-- want of memory, while memory may be asked for: nothing has changed and nothing is written
pub record GivesUp (asks : Bool) (before now : FilesState) (out_before out_now : SinkState) (result : Status) : Type 0 where
  pub may : asks ≡ true
  pub is : result ≡ Memory
  pub files : now ≡ before
  pub out : out_now ≡ out_before

-- A run of what is still to do, from these files and this sink to those, with this result
abbrev pub Ends : Sources → Bool → Plan → FilesState → SinkState → FilesState → SinkState → Status → Type 0
Ends sources asks (reads name limit next) before out_before now out_now result =
    GivesUp asks before now out_before out_now result
    ⊎ (StopsAtRead before now out_before out_now name limit result
    ⊎ ((bytes : List ℕ) × (mid : FilesState) × HasRead before mid name limit bytes × Ends sources asks (next bytes) mid out_before now out_now result))
Ends sources asks (writes name bytes next) before out_before now out_now result =
    GivesUp asks before now out_before out_now result
    ⊎ (StopsAtWrite before now out_before out_now name result
    ⊎ ((mid : FilesState) × HasWritten before mid name bytes × Ends sources asks next mid out_before now out_now result))
Ends sources asks (makes wanted next) before out_before now out_now result =
    GivesUp asks before now out_before out_now result
    ⊎ ((made : MadeOf wanted) × IsMadeOf sources wanted made × Ends sources asks (next made) before out_before now out_now result)
Ends sources asks (commits next) before out_before now out_now result =
    GivesUp asks before now out_before out_now result
    ⊎ Ends sources false next before out_before now out_now result
Ends sources asks (answers answer line) before out_before now out_now result =
    GivesUp asks before now out_before out_now result
    ⊎ ((now ≡ before) × Says out_before out_now line (status_of answer) result)

-- each end of a run of the rest is an end of a run of the plan
abbrev pub Leads : Sources → Bool → Plan → FilesState → SinkState → Plan → FilesState → SinkState → Type 0
Leads sources asks plan before out_before rest mid out_mid =
    (now : FilesState) (out_now : SinkState) (result : Status) → Ends sources asks rest mid out_mid now out_now result → Ends sources asks plan before out_before now out_now result
