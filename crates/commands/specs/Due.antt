-- What is due of a command where the files are told, and how it may end.
use Rattle.std.specs.Prelude.{◌≡◌, ◌⊎◌, ℕ, Bool, true, false, List, [], ◌∷◌, ◌++◌, length, Option, Some, None, option_map, bytes_eq, nat_le, if◌then◌else◌, ⊤}
use Rattle.q_io.specs.Rose.{Rose}
use Rattle.q_io.specs.FilesMeaning.{Tree, with_file, FilesState}
use Rattle.q_io.specs.SinkMeaning.{SinkState}
use Rattle.launch_meaning.specs.declared.verdict.Verdict.{Verdict}
use Rattle.promise.specs.Language.{Sources}
use Rattle.commands.specs.Plan.{Compilation, Understanding, Wanted, a_module, a_meaning, a_verdict, MadeOf, IsMadeOf, Plan, reads, writes, makes, commits, answers, status_of}
use Rattle.commands.specs.Lines.{Says, SaysTrouble, trouble_line, trouble_status}
use Rattle.commands.specs.declared.status.Status.{Status}
use Rattle.commands.specs.declared.status.Status.TheVariants.{Memory}
use Rattle.commands.specs.declared.places.Trouble.{Trouble}
use Rattle.commands.specs.declared.places.Trouble.TheVariants.{Missing as IsMissing, TooLong as IsTooLong, ReadFault as IsReadFault, WriteFault as IsWriteFault, Memory as IsMemory}

-- a place that the command comes to
pub data Place : Type 0 where
  read : (name : List ℕ) → Place
  write : (name bytes : List ℕ) → Place
  -- what is wanted is made
  make : (wanted : Wanted) (made : MadeOf wanted) → Place
  -- from here on no memory is asked for
  commit : Place

-- the places that the command comes to, and the answer at the end of them
pub record Due : Type 0 where
  pub places : List Place
  pub status : Status
  pub line : List ℕ

abbrev pub then_due : Place → Due → Due
then_due place due = record { places = place ∷ due.places; status = due.status; line = due.line }

abbrev pub trouble_due : Trouble → List ℕ → Due
trouble_due trouble name = record { places = read name ∷ []; status = trouble_status trouble; line = trouble_line trouble name }

-- a read of what the name has
abbrev pub due_read : List ℕ → ℕ → Option (List ℕ) → (List ℕ → Due) → Due
due_read name limit None next = trouble_due IsMissing name
due_read name limit (Some bytes) next = if nat_le (length bytes) limit then then_due (read name) (next bytes) else trouble_due IsTooLong name

-- something that is made
pub data Made : Type 0 where
  module_made : Compilation → Made
  meaning_made : Understanding → Made
  verdict_made : Verdict → Made

-- it as what is wanted, if it is of that kind
abbrev pub made_for : (wanted : Wanted) → Made → Option (MadeOf wanted)
made_for (a_module source kernel) (module_made made) = Some made
made_for (a_module source kernel) (meaning_made made) = None
made_for (a_module source kernel) (verdict_made made) = None
made_for (a_meaning source kernel) (module_made made) = None
made_for (a_meaning source kernel) (meaning_made made) = Some made
made_for (a_meaning source kernel) (verdict_made made) = None
made_for (a_verdict item items buffers turns) (module_made made) = None
made_for (a_verdict item items buffers turns) (meaning_made made) = None
made_for (a_verdict item items buffers turns) (verdict_made made) = Some made

-- where it isn't made, memory is wanting
abbrev pub due_made : (wanted : Wanted) → Option (MadeOf wanted) → (MadeOf wanted → Due) → Due
due_made wanted None next = record { places = []; status = Memory; line = [] }
due_made wanted (Some made) next = then_due (make wanted made) (next made)

-- what is due of a plan with these files, where this is made of what it wants, one after another: the first place where a name isn't there, its file
-- passes the limit or a rule is violated, else the answer of the run. Where no more is made, memory is wanting
abbrev pub due_of : Plan → Tree → List Made → Due
due_of (reads name limit next) tree all = due_read name limit (tree name) (λ bytes. due_of (next bytes) tree all)
due_of (writes name bytes next) tree all = then_due (write name bytes) (due_of next (with_file name (Some bytes) tree) all)
due_of (makes wanted next) tree [] = record { places = []; status = Memory; line = [] }
due_of (makes wanted next) tree (made ∷ all) = due_made wanted (made_for wanted made) (λ it. due_of (next it) tree all)
due_of (commits next) tree all = then_due commit (due_of next tree all)
due_of (answers answer line) tree all = record { places = []; status = status_of answer; line = line }

-- what is made is made rightly
abbrev pub AreMade : Sources → List Place → Type 0
AreMade sources [] = ⊤
AreMade sources (read name ∷ places) = AreMade sources places
AreMade sources (write name bytes ∷ places) = AreMade sources places
AreMade sources (make wanted made ∷ places) = IsMadeOf sources wanted made × AreMade sources places
AreMade sources (commit ∷ places) = AreMade sources places

-- the files after these places
abbrev pub after : List Place → Tree → Tree
after [] tree = tree
after (read name ∷ places) tree = after places tree
after (write name bytes ∷ places) tree = after places (with_file name (Some bytes) tree)
after (make wanted made ∷ places) tree = after places tree
after (commit ∷ places) tree = after places tree

-- none of these places writes this file
abbrev pub spares : List ℕ → List Place → Bool
spares name [] = true
spares name (read other ∷ places) = spares name places
spares name (write other bytes ∷ places) = if bytes_eq other name then false else spares name places
spares name (make wanted made ∷ places) = spares name places
spares name (commit ∷ places) = spares name places

-- a file that none of these places writes is as it was
pub record OnlyWrites (places : List Place) (tree : Tree) (now : FilesState) : Type 0 where
  pub left : Tree
  pub told : now.told ≡ Some left
  pub others : (name : List ℕ) → spares name places ≡ true → left name ≡ tree name

abbrev pub has_committed : List Place → Bool
has_committed [] = false
has_committed (read name ∷ places) = has_committed places
has_committed (write name bytes ∷ places) = has_committed places
has_committed (make wanted made ∷ places) = has_committed places
has_committed (commit ∷ places) = true

-- a place where a fault stopped the command, its cause and what it left of the files: a file whose write failed may hold anything
abbrev pub StoppedAt : Place → Tree → FilesState → FilesState → Trouble → Type 0
StoppedAt (read name) tree before now trouble =
    (now.told ≡ Some tree)
    × (((trouble ≡ IsReadFault) × Rose before.read_faults now.read_faults)
    ⊎ ((trouble ≡ IsMemory) × Rose before.shortages now.shortages))
StoppedAt (write name bytes) tree before now trouble =
    ((left : Option (List ℕ)) × (now.told ≡ Some (with_file name left tree)))
    × (((trouble ≡ IsWriteFault) × Rose before.write_faults now.write_faults)
    ⊎ ((trouble ≡ IsMemory) × Rose before.shortages now.shortages))
StoppedAt (make wanted made) tree before now trouble = ⊥
StoppedAt commit tree before now trouble = ⊥

abbrev pub name_of : Place → List ℕ
name_of (read name) = name
name_of (write name bytes) = name
name_of (make wanted made) = []
name_of commit = []

-- all places were passed, and the answer is the one that is due
pub record AsDue (due : Due) (tree : Tree) (now : FilesState) (out_before out_now : SinkState) (result : Status) : Type 0 where
  pub files : now.told ≡ Some (after due.places tree)
  pub says : Says out_before out_now due.line due.status result

-- a fault of the files came at a place: the places before it were passed and the later ones weren't begun
pub record AtFault (due : Due) (tree : Tree) (before : FilesState) (now : FilesState) (out_before out_now : SinkState) (result : Status) : Type 0 where
  pub passed : List Place
  pub place : Place
  pub rest : List Place
  pub order : due.places ≡ passed ++ place ∷ rest
  pub trouble : Trouble
  pub stopped : StoppedAt place (after passed tree) before now trouble
  pub says : SaysTrouble out_before out_now trouble (name_of place) result

-- want of memory while memory may be asked for: the places before it were passed and nothing was written to the sink
pub record ShortOfMemory (asks : Bool) (due : Due) (tree : Tree) (now : FilesState) (out_before out_now : SinkState) (result : Status) : Type 0 where
  pub may : asks ≡ true
  pub is : result ≡ Memory
  pub passed : List Place
  pub rest : List Place
  pub order : due.places ≡ passed ++ rest
  pub no_step : has_committed passed ≡ false
  pub files : now.told ≡ Some (after passed tree)
  pub out : out_now ≡ out_before

-- how a command ends of which this is due
abbrev pub EndsAsDue : Bool → Due → Tree → FilesState → SinkState → FilesState → SinkState → Status → Type 0
EndsAsDue asks due tree before out_before now out_now result =
    AsDue due tree now out_before out_now result
    ⊎ (AtFault due tree before now out_before out_now result
    ⊎ ShortOfMemory asks due tree now out_before out_now result)

-- how a command ends of which this is due where this is made of what it wants
abbrev pub EndsAsMade : Sources → Bool → (List Made → Due) → Tree → FilesState → SinkState → FilesState → SinkState → Status → Type 0
EndsAsMade sources asks due tree before out_before now out_now result =
    (all : List Made) × AreMade sources (due all).places × EndsAsDue asks (due all) tree before out_before now out_now result

-- no fault of the files or the sink came
pub record IsQuiet (before : FilesState) (out_before : SinkState) (now : FilesState) (out_now : SinkState) : Type 0 where
  pub reads : ¬ (Rose before.read_faults now.read_faults)
  pub writes : ¬ (Rose before.write_faults now.write_faults)
  pub sink : ¬ (Rose out_before.faults out_now.faults)

-- the status is the one that is due with what is made of what it wants, or want of memory
abbrev pub AnswersAsMade : Sources → (List Made → Due) → Status → Type 0
AnswersAsMade sources due result = (all : List Made) × AreMade sources (due all).places × ((result ≡ (due all).status) ⊎ (result ≡ Memory))

-- no file has changed but those that are due to be written with what is made of what it wants
abbrev pub OnlyWritesMade : Sources → (List Made → Due) → Tree → FilesState → Type 0
OnlyWritesMade sources due tree now = (all : List Made) × AreMade sources (due all).places × OnlyWrites (due all).places tree now

-- no file has changed, but for this one, if any, that was written
abbrev pub KeptBut : Option (List ℕ) → FilesState → FilesState → Type 0
KeptBut None before now = now.told ≡ before.told
KeptBut (Some name) before now = (now.told ≡ before.told) ⊎ ((bytes : List ℕ) × (now.told ≡ option_map (with_file name (Some bytes)) before.told))

-- where memory was wanting: a shortage was counted, or nothing was written to the sink and no file has changed but for the one that is named here
abbrev pub ShortOrKept : Option (List ℕ) → FilesState → SinkState → FilesState → SinkState → Type 0
ShortOrKept first before out_before now out_now =
    Rose before.shortages now.shortages
    ⊎ (Rose out_before.shortages out_now.shortages
    ⊎ (KeptBut first before now × (out_now ≡ out_before)))
