-- The clauses of the top call, from a run of the places.
use Rattle.std.proofs.Common.{◌≡◌, ◌⊎◌, inl, inr, ℕ, Bool, true, false, cond, List, [], ◌∷◌, ◌++◌, refl, sym, ap, ◌∙◌, subst}
use Rattle.std.specs.Prelude.{Option, Some, None, IfSome, bytes_eq, ⊤}
use Rattle.q_io.specs.Rose.{Rose}
use Rattle.q_io.specs.FilesMeaning.{Tree, with_file, FilesState}
use Rattle.q_io.specs.SinkMeaning.{SinkState, PutsAll}
use Rattle.q_io.specs.declared.Put.{Put}
use Rattle.q_io.specs.declared.Put.TheVariants.{Done as WasPut, Failed as PutFailed, Memory as PutShort}
use Rattle.commands.specs.Lines.{Says, SaysTrouble, status_after}
use Rattle.commands.specs.Plan.{Plan, reads, writes, makes, commits, answers, Ends}
use Rattle.commands.specs.Due.{Place, read, write, make, commit, Due, Made, then_due, EndsAsDue, EndsAsMade, AnswersAsMade, OnlyWritesMade, StoppedAt, IsQuiet, OnlyWrites, name_of, after, spares, due_of}
use Rattle.launch_file.specs.declared.launch.BufferLine.{BufferLine}
use Rattle.launch_file.specs.Launches.{LaunchOf}
use Rattle.qpu_machine.specs.MachineState.{MachineState}
use Rattle.promise.specs.Faithful.{buffers_of}
use Rattle.commands.specs.Buffers.{write_buffer, write_buffers}
use Rattle.commands.specs.Play.{ran, report_plan, play_plan}
use Rattle.commands.specs.Commands.{Runs, due_for, usage_line}
use Rattle.commands.proofs.Causes.{EndCause}
use Rattle.commands.proofs.EndsAsDue.{ends_as_due}
use Rattle.commands.proofs.Caused.{ends_caused}
use Rattle.commands.specs.declared.status.Status.{Status}
use Rattle.commands.specs.declared.status.Status.TheVariants.{Memory, Usage, ReadFault, WriteFault, Missing, TooLong}
use Rattle.commands.specs.declared.places.Trouble.{Trouble}
use Rattle.promise.specs.Language.{Sources}

pub if_told : (told : Option Tree) (P : Tree → Type 0) → ((tree : Tree) → told ≡ Some tree → P tree) → IfSome told P
if_told None P h = tt
if_told (Some tree) P h = h tree refl

runs_due_at : (sources : Sources) (plan : Option Plan) (tree : Tree) (before : FilesState) (out_before : SinkState) (now : FilesState) (out_now : SinkState) (result : Status)
    → before.told ≡ Some tree → Runs sources plan before out_before now out_now result
    → EndsAsMade sources true (due_for plan tree) tree before out_before now out_now result
runs_due_at sources None tree before out_before now out_now result told h = ([], tt, inl (record { files = ap (λ f. f.told) h.0 ∙ told; says = h.1 }))
runs_due_at sources (Some plan) tree before out_before now out_now result told h = ends_as_due sources true plan tree before out_before now out_now result told h

pub runs_due : (sources : Sources) (plan : Option Plan) (before : FilesState) (out_before : SinkState) (now : FilesState) (out_now : SinkState) (result : Status)
    → Runs sources plan before out_before now out_now result
    → IfSome before.told (λ tree. EndsAsMade sources true (due_for plan tree) tree before out_before now out_now result)
runs_due sources plan before out_before now out_now result h = if_told before.told _ (λ tree told. runs_due_at sources plan tree before out_before now out_now result told h)

-- the status after a line where the sink has no fault
put_quiet : (before now : SinkState) (line : List ℕ) (status : Status) (put : Put) → ¬ (Rose before.faults now.faults) → PutsAll before now line put → (status_after put status ≡ status) ⊎ (status_after put status ≡ Memory)
put_quiet before now line status WasPut q taken = inl refl
put_quiet before now line status PutFailed q taken = absurd (q taken.0)
put_quiet before now line status PutShort q taken = inr refl

says_quiet : (before now : SinkState) (line : List ℕ) (status result : Status) → ¬ (Rose before.faults now.faults) → Says before now line status result → (result ≡ status) ⊎ (result ≡ Memory)
says_quiet before now line status result q says =
    elim (put_quiet before now line status says.put q says.taken) [ inl e ↦ inl (says.is ∙ e) | inr e ↦ inr (says.is ∙ e) ]

fault_quiet : (place : Place) (tree : Tree) (before now : FilesState) (out_before out_now : SinkState) (name : List ℕ) (trouble : Trouble) (result : Status)
    → IsQuiet before out_before now out_now → StoppedAt place tree before now trouble → SaysTrouble out_before out_now trouble name result → result ≡ Memory
fault_quiet (read place_name) tree before now out_before out_now name trouble result q h says =
    elim h.1 [ inl rose ↦ absurd (q.reads rose.1) | inr short ↦ (subst (λ t. SaysTrouble out_before out_now t name result) short.0 says).1 ]
fault_quiet (write place_name bytes) tree before now out_before out_now name trouble result q h says =
    elim h.1 [ inl rose ↦ absurd (q.writes rose.1) | inr short ↦ (subst (λ t. SaysTrouble out_before out_now t name result) short.0 says).1 ]
fault_quiet (make wanted made) tree before now out_before out_now name trouble result q h says = absurd h
fault_quiet commit tree before now out_before out_now name trouble result q h says = absurd h

due_quiet : (asks : Bool) (due : Due) (tree : Tree) (before : FilesState) (out_before : SinkState) (now : FilesState) (out_now : SinkState) (result : Status)
    → EndsAsDue asks due tree before out_before now out_now result → IsQuiet before out_before now out_now → (result ≡ due.status) ⊎ (result ≡ Memory)
due_quiet asks due tree before out_before now out_now result (inl h) q = says_quiet out_before out_now due.line due.status result q.sink h.says
due_quiet asks due tree before out_before now out_now result (inr (inl h)) q = inr (fault_quiet h.place _ before now out_before out_now (name_of h.place) h.trouble result q h.stopped h.says)
due_quiet asks due tree before out_before now out_now result (inr (inr h)) q = inr h.is

pub runs_quiet : (sources : Sources) (plan : Option Plan) (before : FilesState) (out_before : SinkState) (now : FilesState) (out_now : SinkState) (result : Status)
    → Runs sources plan before out_before now out_now result
    → IfSome before.told (λ tree. IsQuiet before out_before now out_now → AnswersAsMade sources (due_for plan tree) result)
runs_quiet sources plan before out_before now out_now result h =
    if_told before.told _ (λ tree told quiet.
    let ends = runs_due_at sources plan tree before out_before now out_now result told h in
    (ends.0, ends.1, due_quiet true (due_for plan tree ends.0) tree before out_before now out_now result ends.2 quiet))

-- Usage only where the words are of no form
pub runs_usage : (sources : Sources) (plan : Option Plan) (before : FilesState) (out_before : SinkState) (now : FilesState) (out_now : SinkState) (result : Status) → Runs sources plan before out_before now out_now result → result ≡ Usage → plan ≡ None
runs_usage sources None before out_before now out_now result h e = refl
runs_usage sources (Some plan) before out_before now out_now result h e =
    absurd (subst (λ s. EndCause true before out_before now out_now s) e (ends_caused sources true plan before out_before now out_now result h))

-- the cause of each status but Usage
usage_caused : (before now : FilesState) (out_before out_now : SinkState) (line : List ℕ) (put : Put) (P : Status → Type 0) → P Usage → (Rose out_before.shortages out_now.shortages → P Memory) → (Rose out_before.faults out_now.faults → P WriteFault) → PutsAll out_before out_now line put → P (status_after put Usage)
usage_caused before now out_before out_now line WasPut P u m w taken = u
usage_caused before now out_before out_now line PutFailed P u m w taken = w taken.0
usage_caused before now out_before out_now line PutShort P u m w taken = m taken.0

pub record Caused (before : FilesState) (out_before : SinkState) (now : FilesState) (out_now : SinkState) (result : Status) : Type 0 where
  pub memory : result ≡ Memory → Rose before.shortages now.shortages ⊎ (Rose out_before.shortages out_now.shortages ⊎ (out_now ≡ out_before))
  pub read_fault : result ≡ ReadFault → Rose before.read_faults now.read_faults
  pub write_fault : result ≡ WriteFault → Rose before.write_faults now.write_faults ⊎ Rose out_before.faults out_now.faults
  pub missing : result ≡ Missing → Rose before.misses now.misses
  pub too_long : result ≡ TooLong → Rose before.over_long now.over_long

memory_known : (A B C : Type 0) → ((true ≡ true) × A) ⊎ (B ⊎ C) → B ⊎ (C ⊎ A)
memory_known A B C (inl h) = inr (inr h.1)
memory_known A B C (inr (inl h)) = inl h
memory_known A B C (inr (inr h)) = inr (inl h)

cause_known : (before : FilesState) (out_before : SinkState) (now : FilesState) (out_now : SinkState) (result : Status) → EndCause true before out_before now out_now result → Caused before out_before now out_now result
cause_known before out_before now out_now result c = record {
  memory = λ e. memory_known _ _ _ (subst (λ s. EndCause true before out_before now out_now s) e c);
  read_fault = λ e. subst (λ s. EndCause true before out_before now out_now s) e c;
  write_fault = λ e. subst (λ s. EndCause true before out_before now out_now s) e c;
  missing = λ e. subst (λ s. EndCause true before out_before now out_now s) e c;
  too_long = λ e. subst (λ s. EndCause true before out_before now out_now s) e c;
}

usage_known : (before : FilesState) (out_before : SinkState) (now : FilesState) (out_now : SinkState) → Caused before out_before now out_now Usage
usage_known before out_before now out_now = record {
  memory = λ e. absurd (cc);
  read_fault = λ e. absurd (cc);
  write_fault = λ e. absurd (cc);
  missing = λ e. absurd (cc);
  too_long = λ e. absurd (cc);
}

short_known : (before : FilesState) (out_before : SinkState) (now : FilesState) (out_now : SinkState) → Rose out_before.shortages out_now.shortages → Caused before out_before now out_now Memory
short_known before out_before now out_now rose = record {
  memory = λ e. inr (inl rose);
  read_fault = λ e. absurd (cc);
  write_fault = λ e. absurd (cc);
  missing = λ e. absurd (cc);
  too_long = λ e. absurd (cc);
}

fault_known : (before : FilesState) (out_before : SinkState) (now : FilesState) (out_now : SinkState) → Rose out_before.faults out_now.faults → Caused before out_before now out_now WriteFault
fault_known before out_before now out_now rose = record {
  memory = λ e. absurd (cc);
  read_fault = λ e. absurd (cc);
  write_fault = λ e. inr rose;
  missing = λ e. absurd (cc);
  too_long = λ e. absurd (cc);
}

pub runs_caused : (sources : Sources) (plan : Option Plan) (before : FilesState) (out_before : SinkState) (now : FilesState) (out_now : SinkState) (result : Status) → Runs sources plan before out_before now out_now result → Caused before out_before now out_now result
runs_caused sources None before out_before now out_now result h =
    subst (λ s. Caused before out_before now out_now s) (sym h.1.is)
    (usage_caused before now out_before out_now usage_line h.1.put (λ s. Caused before out_before now out_now s) (usage_known before out_before now out_now) (short_known before out_before now out_now) (fault_known before out_before now out_now) h.1.taken)
runs_caused sources (Some plan) before out_before now out_now result h = cause_known before out_before now out_now result (ends_caused sources true plan before out_before now out_now result h)

-- words of no form
pub runs_no_form : (sources : Sources) (plan : Option Plan) (before : FilesState) (out_before : SinkState) (now : FilesState) (out_now : SinkState) (result : Status)
    → Runs sources plan before out_before now out_now result → plan ≡ None → (now ≡ before) × Says out_before out_now usage_line Usage result
runs_no_form sources plan before out_before now out_now result h e = subst (λ p. Runs sources p before out_before now out_now result) e h

-- a file that these places spare is the same after them
spares_same : (content : Option (List ℕ)) (name other : List ℕ) (places : List Place) (tree : Tree)
    → cond (bytes_eq other name) false (spares name places) ≡ true → with_file other content tree name ≡ tree name
spares_same content name other places tree h = spared_case (bytes_eq other name) h
  where
    spared_case : (same : Bool) → cond same false (spares name places) ≡ true → cond same content (tree name) ≡ tree name
    spared_case true e = absurd (let no : false ≡ true = e in cc)
    spared_case false e = refl

spares_rest : (same : Bool) (rest : Bool) → cond same false rest ≡ true → rest ≡ true
spares_rest true rest e = absurd (let no : false ≡ true = e in cc)
spares_rest false rest e = e

spares_both : (same : Bool) (rest other : Bool) → (rest ≡ true → other ≡ true) → cond same false rest ≡ true → cond same false other ≡ true
spares_both true rest other h e = e
spares_both false rest other h e = h e

after_spares : (places : List Place) (tree : Tree) (name : List ℕ) → spares name places ≡ true → after places tree name ≡ tree name
after_spares [] tree name h = refl
after_spares (read other ∷ places) tree name h = after_spares places tree name h
after_spares (write other bytes ∷ places) tree name h =
    after_spares places (with_file other (Some bytes) tree) name (spares_rest (bytes_eq other name) (spares name places) h) ∙ spares_same (Some bytes) name other places tree h
after_spares (make wanted made ∷ places) tree name h = after_spares places tree name h
after_spares (commit ∷ places) tree name h = after_spares places tree name h

-- what is spared by places is spared by the first of them
spares_first : (first rest : List Place) (name : List ℕ) → spares name (first ++ rest) ≡ true → spares name first ≡ true
spares_first [] rest name h = refl
spares_first (read other ∷ first) rest name h = spares_first first rest name h
spares_first (write other bytes ∷ first) rest name h = spares_both (bytes_eq other name) _ _ (λ e. spares_first first rest name e) h
spares_first (make wanted made ∷ first) rest name h = spares_first first rest name h
spares_first (commit ∷ first) rest name h = spares_first first rest name h

spares_last : (first rest : List Place) (name : List ℕ) → spares name (first ++ rest) ≡ true → spares name rest ≡ true
spares_last [] rest name h = h
spares_last (read other ∷ first) rest name h = spares_last first rest name h
spares_last (write other bytes ∷ first) rest name h = spares_last first rest name (spares_rest (bytes_eq other name) (spares name (first ++ rest)) h)
spares_last (make wanted made ∷ first) rest name h = spares_last first rest name h
spares_last (commit ∷ first) rest name h = spares_last first rest name h

stopped_spares : (place : Place) (passed rest : List Place) (tree : Tree) (before now : FilesState) (trouble : Trouble)
    → StoppedAt place (after passed tree) before now trouble → OnlyWrites (passed ++ place ∷ rest) tree now
stopped_spares (read other) passed rest tree before now trouble h = record {
  left = after passed tree;
  told = h.0;
  others = λ name spared. after_spares passed tree name (spares_first passed _ name spared);
}
stopped_spares (write other bytes) passed rest tree before now trouble h = record {
  left = with_file other h.0.0 (after passed tree);
  told = h.0.1;
  others = λ name spared. spares_same h.0.0 name other rest (after passed tree) (spares_last passed _ name spared) ∙ after_spares passed tree name (spares_first passed _ name spared);
}
stopped_spares (make wanted made) passed rest tree before now trouble h = absurd h
stopped_spares commit passed rest tree before now trouble h = absurd h

due_files : (asks : Bool) (due : Due) (tree : Tree) (before : FilesState) (out_before : SinkState) (now : FilesState) (out_now : SinkState) (result : Status)
    → EndsAsDue asks due tree before out_before now out_now result → OnlyWrites due.places tree now
due_files asks due tree before out_before now out_now result (inl h) = record { left = after due.places tree; told = h.files; others = λ name spared. after_spares due.places tree name spared }
due_files asks due tree before out_before now out_now result (inr (inl h)) =
    subst (λ places. OnlyWrites places tree now) (sym h.order) (stopped_spares h.place h.passed h.rest tree before now h.trouble h.stopped)
due_files asks due tree before out_before now out_now result (inr (inr h)) = record {
  left = after h.passed tree;
  told = h.files;
  others = λ name spared. after_spares h.passed tree name (spares_first h.passed h.rest name (subst (λ places. spares name places ≡ true) h.order spared));
}

-- only the files that are due to be written may change
pub runs_files : (sources : Sources) (plan : Option Plan) (before : FilesState) (out_before : SinkState) (now : FilesState) (out_now : SinkState) (result : Status)
    → Runs sources plan before out_before now out_now result
    → IfSome before.told (λ tree. OnlyWritesMade sources (due_for plan tree) tree now)
runs_files sources plan before out_before now out_now result h =
    if_told before.told _ (λ tree told.
    let ends = runs_due_at sources plan tree before out_before now out_now result told h in
    (ends.0, ends.1, due_files true (due_for plan tree ends.0) tree before out_before now out_now result ends.2))

-- a plan that only writes
pub Stores : Plan → Type 0
Stores (reads name limit next) = ⊥
Stores (writes name bytes next) = Stores next
Stores (makes wanted next) = ⊥
Stores (commits next) = Stores next
Stores (answers answer line) = ⊤

-- it makes nothing
stores_due : (plan : Plan) (tree : Tree) (all : List Made) → Stores plan → due_of plan tree all ≡ due_of plan tree []
unfolding Stores
stores_due (reads name limit next) tree all h = absurd h
stores_due (writes name bytes next) tree all h = ap (then_due (write name bytes)) (stores_due next (with_file name (Some bytes) tree) all h)
stores_due (makes wanted next) tree all h = absurd h
stores_due (commits next) tree all h = ap (then_due commit) (stores_due next tree all h)
stores_due (answers answer line) tree all h = refl

write_stores : (size : ℕ) (from to : Option (List ℕ)) (bytes : List ℕ) (next : Plan) → Stores next → Stores (write_buffer (record { size = size; from = from; to = to }) bytes next)
unfolding Stores
write_stores size from None bytes next h = h
write_stores size from (Some name) bytes next h = h

writes_store : (lines : List BufferLine) (buffers : List (List ℕ)) (next : Plan) → Stores next → Stores (write_buffers lines buffers next)
writes_store [] buffers next h = h
writes_store (line ∷ lines) [] next h = h
writes_store (line ∷ lines) (bytes ∷ buffers) next h = write_stores line.size line.from line.to bytes (write_buffers lines buffers next) (writes_store lines buffers next h)

play_stores : (s : MachineState) (launch : LaunchOf) (file : List ℕ) → Stores (play_plan s launch file)
unfolding Stores play_plan report_plan
play_stores s launch file = writes_store launch.buffers (buffers_of (ran s launch.schedule file)) (report_plan (ran s launch.schedule file)) tt

pub play_due : (sources : Sources) (s : MachineState) (launch : LaunchOf) (file : List ℕ) (before : FilesState) (out_before : SinkState) (now : FilesState) (out_now : SinkState) (result : Status)
    → Ends sources false (play_plan s launch file) before out_before now out_now result
    → IfSome before.told (λ tree. EndsAsDue false (due_of (play_plan s launch file) tree []) tree before out_before now out_now result)
play_due sources s launch file before out_before now out_now result h =
    if_told before.told _ (λ tree told.
    let ends = ends_as_due sources false (play_plan s launch file) tree before out_before now out_now result told h in
    subst (λ due. EndsAsDue false due tree before out_before now out_now result) (stores_due (play_plan s launch file) tree ends.0 (play_stores s launch file)) ends.2)

pub record PlayCaused (before : FilesState) (out_before : SinkState) (now : FilesState) (out_now : SinkState) (result : Status) : Type 0 where
  pub memory : result ≡ Memory → Rose before.shortages now.shortages ⊎ Rose out_before.shortages out_now.shortages
  pub write_fault : result ≡ WriteFault → Rose before.write_faults now.write_faults ⊎ Rose out_before.faults out_now.faults

no_asking : (A B : Type 0) → ((false ≡ true) × A) ⊎ B → B
no_asking A B (inl h) = absurd (let no : false ≡ true = h.0 in cc)
no_asking A B (inr b) = b

pub play_caused : (sources : Sources) (plan : Plan) (before : FilesState) (out_before : SinkState) (now : FilesState) (out_now : SinkState) (result : Status)
    → Ends sources false plan before out_before now out_now result → PlayCaused before out_before now out_now result
play_caused sources plan before out_before now out_now result h = record {
  memory = λ e. no_asking _ _ (subst (λ s. EndCause false before out_before now out_now s) e (ends_caused sources false plan before out_before now out_now result h));
  write_fault = λ e. subst (λ s. EndCause false before out_before now out_now s) e (ends_caused sources false plan before out_before now out_now result h);
}
