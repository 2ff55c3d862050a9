-- What `exec` has done where it ends with its answer.
use Rattle.std.proofs.Common.{◌≡◌, ◌≢◌, ◌⊎◌, inl, inr, ℕ, ◌<◌, Bool, true, false, cond, List, [], ◌∷◌, ◌++◌, get_or, refl, sym, ap, ◌∙◌, subst, append_assoc, append-nil}
use Rattle.std.specs.Prelude.{Option, Some, None, option_map, bytes_eq, codes, ⊤}
use Rattle.std.specs.List.{All}
use Rattle.std.proofs.lemmas.Slice.Eq.{bytes_eq-Decides}
use Rattle.q_io.specs.FilesMeaning.{Tree, FilesState, Holds}
use Rattle.q_io.specs.SinkMeaning.{SinkState, Gains, PutsAll}
use Rattle.q_io.specs.declared.Put.{Put}
use Rattle.q_io.specs.declared.Put.TheVariants.{Done as WasPut, Failed as PutFailed, Memory as PutShort}
use Rattle.q_lane.specs.declared.kinds.Kind.{Kind}
use Rattle.launch_file.specs.Launches.{LaunchOf}
use Rattle.launch_file.specs.declared.launch.BufferLine.{BufferLine}
use Rattle.launch_file.specs.declared.launch.Schedule.{Schedule}
use Rattle.launch_file.specs.declared.launch.Schedule.TheVariants.{Rounds, Seed, File}
use Rattle.launch_file.specs.LaunchIn.{launch_in}
use Rattle.launch_file.specs.Rules.{first_fault as launch_fault}
use Rattle.launch_file.specs.Fit.{FaultAt, fit_fault}
use Rattle.vc4q_module.specs.ModuleBytes.{ModuleOf, module_in, first_fault as module_fault}
use Rattle.vc4q_module.proofs.ModuleLaws.{module_in-bytes}
use Rattle.vc4q_module.proofs.Faults.{passing_spells, spellings_pass}
use Rattle.std.proofs.lemmas.List.{get_or_default}
use Rattle.qpu_machine.specs.MachineState.{MachineState, stop_of}
use Rattle.qpu_machine.specs.declared.state.Stop.{Stop}
use Rattle.qpu_machine.specs.declared.state.Stop.TheVariants as stop
use Rattle.commands.proofs.LaunchValid.{launch_of_text}
use Rattle.commands.specs.Lines.{Says, SaysTrouble, status_after}
use Rattle.commands.specs.Plan.{Plan, Ends, HasRead, status_of}
use Rattle.commands.specs.Report.{report}
use Rattle.promise.specs.Faithful.{buffers_of}
use Rattle.commands.specs.Buffers.{filled, read_buffer, read_buffers, write_buffer, write_buffers}
use Rattle.commands.specs.Play.{answer_of, report_plan, play_plan}
use Rattle.commands.specs.Launching.{launch_line, launch_plan, after_launch, fit_plan, after_fit}
use Rattle.commands.specs.Loading.{module_limit, module_line, after_module, module_plan}
use Rattle.commands.specs.Exec.{exec_plan, exec_launch_plan, schedule_plan, buffers_plan, ready_plan, read_schedule}
use Rattle.commands.specs.ExecClauses.{IsRunStatus, IsRead, AreRead, IsScheduleFile, stored_one, stored, run_of, IsFaultOf, IsReadModule, Executed, RefusedModule, RefusedLaunch, ExecAnswers}
use Rattle.commands.specs.Commands.{plan_of, Runs, IfExec}
use Rattle.commands.specs.declared.status.Status.{Status}
use Rattle.commands.specs.declared.status.Status.TheVariants.{Done, Memory, Usage, ReadFault, WriteFault, Missing, TooLong, Refused, BadModule, BadLaunch, Broken, Unfinished, NotSafe}
use Rattle.commands.specs.declared.places.Trouble.{Trouble}
use Rattle.commands.specs.declared.places.Trouble.TheVariants.{Missing as IsMissing, TooLong as IsTooLong, ReadFault as IsReadFault, WriteFault as IsWriteFault, Memory as IsMemory}
use Rattle.promise.specs.Language.{Sources}

-- the answers of the outside
unfoldable pub IsOutside : Status → Type 0
IsOutside Memory = ⊤
IsOutside ReadFault = ⊤
IsOutside WriteFault = ⊤
IsOutside Missing = ⊤
IsOutside TooLong = ⊤
IsOutside Usage = ⊥
IsOutside Done = ⊥
IsOutside Refused = ⊥
IsOutside BadModule = ⊥
IsOutside BadLaunch = ⊥
IsOutside Broken = ⊥
IsOutside Unfinished = ⊥
IsOutside NotSafe = ⊥

-- how a command ends from the read of its launch on
pub data LaunchEnd (code : ModuleOf) (taken : List (List ℕ)) (launch_name : List ℕ) (before : FilesState) (out_before : SinkState) (now : FilesState) (out_now : SinkState) (result : Status) : Type 0 where
  outside : IsOutside result → LaunchEnd code taken launch_name before out_before now out_now result
  no_launch : result ≡ BadLaunch → RefusedLaunch code.kinds taken launch_name before out_before now out_now → LaunchEnd code taken launch_name before out_before now out_now result
  executed : Executed code taken launch_name before out_before now out_now result → LaunchEnd code taken launch_name before out_before now out_now result

pub put_cases : (before now : SinkState) (line : List ℕ) (status result : Status) (put : Put) → PutsAll before now line put → result ≡ status_after put status → IsOutside result ⊎ ((result ≡ status) × Gains before now line)
unfolding IsOutside
put_cases before now line status result WasPut taken e = inr (e, taken)
put_cases before now line status result PutFailed taken e = inl (subst IsOutside (sym e) tt)
put_cases before now line status result PutShort taken e = inl (subst IsOutside (sym e) tt)

pub says_cases : (before now : SinkState) (line : List ℕ) (status result : Status) → Says before now line status result → IsOutside result ⊎ ((result ≡ status) × Gains before now line)
says_cases before now line status result says = put_cases before now line status result says.put says.taken says.is

pub short_outside : (result : Status) → result ≡ Memory → IsOutside result
unfolding IsOutside
short_outside result e = subst IsOutside (sym e) tt

line_outside : (before now : SinkState) (line : List ℕ) (status result : Status) → Says before now line status result → IsOutside status → IsOutside result
line_outside before now line status result says h =
    elim (says_cases before now line status result says) [ inl other ↦ other | inr same ↦ subst IsOutside (sym same.0) h ]

pub says_outside : (before now : SinkState) (name : List ℕ) (trouble : Trouble) (result : Status) → SaysTrouble before now trouble name result → IsOutside result
unfolding IsOutside
says_outside before now name IsMissing result says = line_outside before now _ Missing result says tt
says_outside before now name IsTooLong result says = line_outside before now _ TooLong result says tt
says_outside before now name IsReadFault result says = line_outside before now _ ReadFault result says tt
says_outside before now name IsWriteFault result says = line_outside before now _ WriteFault result says tt
says_outside before now name IsMemory result says = short_outside result says.1

pub holds_earlier : (before mid : FilesState) (name bytes : List ℕ) → mid.told ≡ before.told → Holds mid name bytes → Holds before name bytes
holds_earlier before mid name bytes e h = subst (λ told. Holds (record before { told = told }) name bytes) e h

-- ---- what was read before the run

-- a buffer was read, and the run goes on with its bytes
abbrev BufferEnd : Sources → FilesState → BufferLine → (List ℕ → Plan) → SinkState → FilesState → SinkState → Status → Type 0
BufferEnd sources before line next out_before now out_now result =
    IsOutside result ⊎ ((bytes : List ℕ) × (last : FilesState) × (last.told ≡ before.told) × IsRead before line bytes × Ends sources true (next bytes) last out_before now out_now result)

buffer_end : (sources : Sources) (size : ℕ) (from to : Option (List ℕ)) (next : List ℕ → Plan) (before mid now : FilesState) (out_before out_now : SinkState) (result : Status)
    → mid.told ≡ before.told → Ends sources true (read_buffer (record { size = size; from = from; to = to }) next) mid out_before now out_now result
    → BufferEnd sources before (record { size = size; from = from; to = to }) next out_before now out_now result
buffer_end sources size None to next before mid now out_before out_now result same h = inr (filled size [], mid, same, refl, h)
buffer_end sources size (Some name) to next before mid now out_before out_now result same (inl h) = inl (short_outside result h.is)
buffer_end sources size (Some name) to next before mid now out_before out_now result same (inr (inl h)) = inl (says_outside out_before out_now _ h.trouble result h.says)
buffer_end sources size (Some name) to next before mid now out_before out_now result same (inr (inr (bytes, last, read, ends))) =
    inr (filled size bytes, last, read.files ∙ same, (bytes, holds_earlier before mid name bytes same read.holds, read.fits, read.are_bytes, refl), ends)

abbrev pub BuffersEnd : Sources → FilesState → List BufferLine → List (List ℕ) → (List (List ℕ) → Plan) → SinkState → FilesState → SinkState → Status → Type 0
BuffersEnd sources before lines got next out_before now out_now result =
    IsOutside result ⊎ ((buffers : List (List ℕ)) × (last : FilesState) × (last.told ≡ before.told) × AreRead before lines buffers × Ends sources true (next (got ++ buffers)) last out_before now out_now result)

pub buffers_end : (sources : Sources) (lines : List BufferLine) (got : List (List ℕ)) (next : List (List ℕ) → Plan) (before mid now : FilesState) (out_before out_now : SinkState) (result : Status)
    → mid.told ≡ before.told → Ends sources true (read_buffers lines got next) mid out_before now out_now result
    → BuffersEnd sources before lines got next out_before now out_now result
buffers_end sources [] got next before mid now out_before out_now result same h =
    inr ([], mid, same, tt, subst (λ bs. Ends sources true (next bs) mid out_before now out_now result) (sym (append-nil got)) h)
buffers_end sources (line ∷ lines) got next before mid now out_before out_now result same h =
    elim (buffer_end sources line.size line.from line.to (λ bytes. read_buffers lines (got ++ bytes ∷ []) next) before mid now out_before out_now result same h) [
      | inl out ↦ inl out
      | inr (bytes, last, told, read, ends) ↦ elim (buffers_end sources lines (got ++ bytes ∷ []) next before last now out_before out_now result told ends) [
        | inl out ↦ inl out
        | inr (buffers, end, told_end, are, rest) ↦
            inr (bytes ∷ buffers, end, told_end, (read, are), subst (λ bs. Ends sources true (next bs) end out_before now out_now result) (append_assoc got (bytes ∷ []) buffers) rest)
      ]
    ]

schedule_end : (sources : Sources) (schedule : Schedule) (next : List ℕ → Plan) (before mid now : FilesState) (out_before out_now : SinkState) (result : Status)
    → mid.told ≡ before.told → Ends sources true (read_schedule schedule next) mid out_before now out_now result
    → IsOutside result ⊎ ((file : List ℕ) × (last : FilesState) × (last.told ≡ before.told) × IsScheduleFile before schedule file × Ends sources true (next file) last out_before now out_now result)
schedule_end sources (Rounds rounds) next before mid now out_before out_now result same h = inr ([], mid, same, refl, h)
schedule_end sources (Seed seed steps) next before mid now out_before out_now result same h = inr ([], mid, same, refl, h)
schedule_end sources (File name times) next before mid now out_before out_now result same (inl h) = inl (short_outside result h.is)
schedule_end sources (File name times) next before mid now out_before out_now result same (inr (inl h)) = inl (says_outside out_before out_now _ h.trouble result h.says)
schedule_end sources (File name times) next before mid now out_before out_now result same (inr (inr (file, last, read, ends))) =
    inr (file, last, read.files ∙ same, (holds_earlier before mid name file same read.holds, read.fits), ends)

-- ---- what was written after it

mapped_same : (told : Option Tree) → told ≡ option_map (λ tree. tree) told
mapped_same None = refl
mapped_same (Some tree) = refl

mapped_twice : (f g : Tree → Tree) (told : Option Tree) → option_map f (option_map g told) ≡ option_map (λ tree. f (g tree)) told
mapped_twice f g None = refl
mapped_twice f g (Some tree) = refl

abbrev StoresEnd : Sources → FilesState → (Tree → Tree) → Plan → SinkState → FilesState → SinkState → Status → Type 0
StoresEnd sources before change next out_before now out_now result =
    IsOutside result ⊎ ((last : FilesState) × (last.told ≡ option_map change before.told) × Ends sources false next last out_before now out_now result)

store_end : (sources : Sources) (size : ℕ) (from to : Option (List ℕ)) (bytes : List ℕ) (next : Plan) (before now : FilesState) (out_before out_now : SinkState) (result : Status)
    → Ends sources false (write_buffer (record { size = size; from = from; to = to }) bytes next) before out_before now out_now result
    → StoresEnd sources before (stored_one to bytes) next out_before now out_now result
store_end sources size from None bytes next before now out_before out_now result h = inr (before, mapped_same before.told, h)
store_end sources size from (Some name) bytes next before now out_before out_now result (inl h) = inl (short_outside result h.is)
store_end sources size from (Some name) bytes next before now out_before out_now result (inr (inl h)) = inl (says_outside out_before out_now _ h.trouble result h.says)
store_end sources size from (Some name) bytes next before now out_before out_now result (inr (inr (last, wrote, ends))) = inr (last, wrote.files, ends)

stores_end : (sources : Sources) (lines : List BufferLine) (buffers : List (List ℕ)) (next : Plan) (before now : FilesState) (out_before out_now : SinkState) (result : Status)
    → Ends sources false (write_buffers lines buffers next) before out_before now out_now result
    → StoresEnd sources before (stored lines buffers) next out_before now out_now result
stores_end sources [] buffers next before now out_before out_now result h = inr (before, mapped_same before.told, h)
stores_end sources (line ∷ lines) [] next before now out_before out_now result h = inr (before, mapped_same before.told, h)
stores_end sources (line ∷ lines) (bytes ∷ buffers) next before now out_before out_now result h =
    elim (store_end sources line.size line.from line.to bytes (write_buffers lines buffers next) before now out_before out_now result h) [
      | inl out ↦ inl out
      | inr (mid, told, ends) ↦ elim (stores_end sources lines buffers next mid now out_before out_now result ends) [
        | inl out ↦ inl out
        | inr (last, told_last, rest) ↦ inr (last, told_last ∙ ap (option_map (stored lines buffers)) told ∙ mapped_twice (stored lines buffers) (stored_one line.to bytes) before.told, rest)
      ]
    ]

-- ---- the read of the launch

-- how a command ends from the read of its launch on: with a launch that fits it goes on
pub data FitEnd (sources : Sources) (kinds : List Kind) (taken : List (List ℕ)) (launch_name : List ℕ) (next : LaunchOf → Plan) (before : FilesState) (out_before : SinkState) (now : FilesState) (out_now : SinkState) (result : Status) : Type 0 where
  unread_launch : IsOutside result → FitEnd sources kinds taken launch_name next before out_before now out_now result
  unfit_launch : result ≡ BadLaunch → RefusedLaunch kinds taken launch_name before out_before now out_now → FitEnd sources kinds taken launch_name next before out_before now out_now result
  fit_launch : (text : List ℕ) (last : FilesState) → Holds before launch_name text → launch_fault text ≡ None → fit_fault (launch_in text) kinds taken ≡ None → last.told ≡ before.told
      → Ends sources true (next (launch_in text)) last out_before now out_now result → FitEnd sources kinds taken launch_name next before out_before now out_now result

module _ (sources : Sources) (kinds : List Kind) (taken : List (List ℕ)) (launch_name : List ℕ) (next : LaunchOf → Plan) (before mid now : FilesState) (out_before out_now : SinkState) (result : Status) where
  -- a launch that violates a rule
  refused_end : (text : List ℕ) (rule at : ℕ) (last : FilesState) → last.told ≡ before.told → Holds before launch_name text → IsFaultOf text kinds taken rule at
      → now ≡ last → Says out_before out_now (launch_line rule at) BadLaunch result → FitEnd sources kinds taken launch_name next before out_before now out_now result
  refused_end text rule at last told holds fault kept says =
      elim (says_cases out_before out_now (launch_line rule at) BadLaunch result says) [
        | inl h ↦ unread_launch h
        | inr h ↦ unfit_launch h.0 (record {
          text = text;
          rule = rule;
          at = at;
          read = holds;
          fault = fault;
          files = ap (λ f. f.told) kept ∙ told;
          line = h.1;
        })
      ]

  fit_end : (text : List ℕ) (fault : Option FaultAt) (last : FilesState) → last.told ≡ before.told → Holds before launch_name text → launch_fault text ≡ None
      → fit_fault (launch_in text) kinds taken ≡ fault → Ends sources true (after_fit fault next (launch_in text)) last out_before now out_now result
      → FitEnd sources kinds taken launch_name next before out_before now out_now result
  fit_end text None last told holds none is h = fit_launch text last holds none is told h
  fit_end text (Some fault) last told holds none is (inl h) = unread_launch (short_outside result h.is)
  fit_end text (Some fault) last told holds none is (inr h) = refused_end text fault.rule fault.line last told holds (inr (none, is)) h.0 h.1

  text_end : (text : List ℕ) (fault : Option (ℕ × ℕ)) (last : FilesState) → last.told ≡ before.told → Holds before launch_name text → launch_fault text ≡ fault
      → Ends sources true (after_launch fault taken kinds next (launch_in text)) last out_before now out_now result
      → FitEnd sources kinds taken launch_name next before out_before now out_now result
  unfolding fit_plan
  text_end text None last told holds is h = fit_end text (fit_fault (launch_in text) kinds taken) last told holds is refl h
  text_end text (Some fault) last told holds is (inl h) = unread_launch (short_outside result h.is)
  text_end text (Some fault) last told holds is (inr h) = refused_end text fault.0 fault.1 last told holds (inl is) h.0 h.1

  pub fitting : mid.told ≡ before.told → Ends sources true (launch_plan taken kinds launch_name next) mid out_before now out_now result → FitEnd sources kinds taken launch_name next before out_before now out_now result
  unfolding launch_plan
  fitting same (inl h) = unread_launch (short_outside result h.is)
  fitting same (inr (inl h)) = unread_launch (says_outside out_before out_now _ h.trouble result h.says)
  fitting same (inr (inr (text, last, read, ends))) =
      text_end text (launch_fault text) last (read.files ∙ same) (holds_earlier before mid launch_name text same read.holds) refl ends

-- ---- the ends from the launch on

report_end : (sources : Sources) (code : ModuleOf) (taken : List (List ℕ)) (launch_name text file : List ℕ) (buffers : List (List ℕ)) (before mid last now : FilesState) (out_before out_now : SinkState) (result : Status)
    → Holds before launch_name text → launch_fault text ≡ None → fit_fault (launch_in text) code.kinds taken ≡ None
    → IsScheduleFile before (launch_in text).schedule file → AreRead before (launch_in text).buffers buffers
    → mid.told ≡ before.told → last.told ≡ option_map (stored (launch_in text).buffers (buffers_of (run_of code (launch_in text) buffers file))) mid.told
    → Ends sources false (report_plan (run_of code (launch_in text) buffers file)) last out_before now out_now result
    → LaunchEnd code taken launch_name before out_before now out_now result
unfolding report_plan
report_end sources code taken launch_name text file buffers before mid last now out_before out_now result holds none fits schedule contents same told (inl h) = outside (short_outside result h.is)
report_end sources code taken launch_name text file buffers before mid last now out_before out_now result holds none fits schedule contents same told (inr (kept, says)) =
    let r : MachineState = run_of code (launch_in text) buffers file in
    elim (says_cases out_before out_now (report r) (status_of (answer_of (stop_of r))) result says) [
      | inl h ↦ outside h
      | inr h ↦ executed (record {
        text = text;
        file = file;
        buffers = buffers;
        launch_file = holds;
        launch_is = (launch_of_text text none).0;
        spelling = (launch_of_text text none).1;
        no_fault = none;
        fits = fits;
        schedule_file = schedule;
        contents = contents;
        status = h.0;
        files = ap (λ f. f.told) kept ∙ told ∙ ap (option_map (stored (launch_in text).buffers (buffers_of r))) same;
        line = h.1;
      })
    ]

ready_end : (sources : Sources) (code : ModuleOf) (taken : List (List ℕ)) (launch_name text file : List ℕ) (buffers : List (List ℕ)) (before mid now : FilesState) (out_before out_now : SinkState) (result : Status)
    → Holds before launch_name text → launch_fault text ≡ None → fit_fault (launch_in text) code.kinds taken ≡ None
    → IsScheduleFile before (launch_in text).schedule file → AreRead before (launch_in text).buffers buffers → mid.told ≡ before.told
    → Ends sources true (ready_plan code (launch_in text) file buffers) mid out_before now out_now result
    → LaunchEnd code taken launch_name before out_before now out_now result
unfolding play_plan
ready_end sources code taken launch_name text file buffers before mid now out_before out_now result holds none fits schedule contents same (inl h) = outside (short_outside result h.is)
ready_end sources code taken launch_name text file buffers before mid now out_before out_now result holds none fits schedule contents same (inr h) =
    let r : MachineState = run_of code (launch_in text) buffers file in
    elim (stores_end sources (launch_in text).buffers (buffers_of r) (report_plan r) mid now out_before out_now result h) [
      | inl out ↦ outside out
      | inr (last, told, ends) ↦ report_end sources code taken launch_name text file buffers before mid last now out_before out_now result holds none fits schedule contents same told ends
    ]

fitting_end : (sources : Sources) (code : ModuleOf) (taken : List (List ℕ)) (launch_name text : List ℕ) (before mid now : FilesState) (out_before out_now : SinkState) (result : Status)
    → Holds before launch_name text → launch_fault text ≡ None → fit_fault (launch_in text) code.kinds taken ≡ None → mid.told ≡ before.told
    → Ends sources true (schedule_plan code (launch_in text)) mid out_before now out_now result
    → LaunchEnd code taken launch_name before out_before now out_now result
unfolding schedule_plan buffers_plan
fitting_end sources code taken launch_name text before mid now out_before out_now result holds none fits same h =
    elim (schedule_end sources (launch_in text).schedule (buffers_plan code (launch_in text)) before mid now out_before out_now result same h) [
      | inl out ↦ outside out
      | inr (file, later, told, schedule, ends) ↦ elim (buffers_end sources (launch_in text).buffers [] (ready_plan code (launch_in text) file) before later now out_before out_now result told ends) [
        | inl out ↦ outside out
        | inr (buffers, last, told_last, contents, rest) ↦ ready_end sources code taken launch_name text file buffers before last now out_before out_now result holds none fits schedule contents told_last rest
      ]
    ]

pub launch_end : (sources : Sources) (code : ModuleOf) (taken : List (List ℕ)) (launch_name : List ℕ) (before mid now : FilesState) (out_before out_now : SinkState) (result : Status)
    → mid.told ≡ before.told → Ends sources true (exec_launch_plan taken code launch_name) mid out_before now out_now result
    → LaunchEnd code taken launch_name before out_before now out_now result
launch_end sources code taken launch_name before mid now out_before out_now result same h = by_fit (fitting sources code.kinds taken launch_name (schedule_plan code) before mid now out_before out_now result same h)
  where
    by_fit : FitEnd sources code.kinds taken launch_name (schedule_plan code) before out_before now out_now result → LaunchEnd code taken launch_name before out_before now out_now result
    by_fit (unread_launch h) = outside h
    by_fit (unfit_launch is h) = no_launch is h
    by_fit (fit_launch text last holds none fit same ends) = fitting_end sources code taken launch_name text before last now out_before out_now result holds none fit same ends

-- ---- the read of the module

-- how a command ends from the read of its module on: with a module it goes on
pub data ModuleEnd (sources : Sources) (module_name : List ℕ) (next : ModuleOf → Plan) (before : FilesState) (out_before : SinkState) (now : FilesState) (out_now : SinkState) (result : Status) : Type 0 where
  unread_module : IsOutside result → ModuleEnd sources module_name next before out_before now out_now result
  unfit_module : result ≡ BadModule → RefusedModule module_name before out_before now out_now → ModuleEnd sources module_name next before out_before now out_now result
  loaded : (code : ModuleOf) (last : FilesState) → IsReadModule module_name before code → last.told ≡ before.told → Ends sources true (next code) last out_before now out_now result
      → ModuleEnd sources module_name next before out_before now out_now result

pub all_bytes : (bytes : List ℕ) → ((i : ℕ) → get_or bytes i 0 < 256) → All (λ b. b < 256) bytes
all_bytes bytes h = λ k d within. subst (λ (b : ℕ). b < 256) (get_or_default bytes k 0 d within) (h k)

module _ (sources : Sources) (module_name : List ℕ) (next : ModuleOf → Plan) (before now : FilesState) (out_before out_now : SinkState) (result : Status) where
  module_end : (bytes : List ℕ) (fault : Option ℕ) (mid : FilesState) → HasRead before mid module_name module_limit bytes → module_fault bytes ≡ fault
      → Ends sources true (after_module fault next (module_in bytes)) mid out_before now out_now result
      → ModuleEnd sources module_name next before out_before now out_now result
  module_end bytes (Some place) mid read is (inl h) = unread_module (short_outside result h.is)
  module_end bytes (Some place) mid read is (inr (same, says)) =
      elim (says_cases out_before out_now (module_line place) BadModule result says) [
        | inl h ↦ unread_module h
        | inr h ↦ unfit_module h.0 (record {
          bytes = bytes;
          place = place;
          read = read.holds;
          fault = is;
          no_module = λ code valid e. let none : module_fault bytes ≡ None = ap module_fault e ∙ spellings_pass code valid in let some : module_fault bytes ≡ Some place = is in cc;
          files = ap (λ f. f.told) same ∙ read.files;
          line = h.1;
        })
      ]
  module_end bytes None mid read is h =
      let spelled = passing_spells bytes (all_bytes bytes read.are_bytes) is in
      let code : ModuleOf = spelled.0 in
      let known : module_in bytes ≡ code = ap module_in spelled.1.1 ∙ module_in-bytes code spelled.1.0 in
      loaded code mid (record { valid = spelled.1.0; file = subst (Holds before module_name) spelled.1.1 read.holds }) read.files
      (subst (λ m. Ends sources true (next m) mid out_before now out_now result) known h)

  pub loading : Ends sources true (module_plan module_name next) before out_before now out_now result → ModuleEnd sources module_name next before out_before now out_now result
  unfolding module_plan
  loading (inl h) = unread_module (short_outside result h.is)
  loading (inr (inl h)) = unread_module (says_outside out_before out_now _ h.trouble result h.says)
  loading (inr (inr (bytes, mid, read, ends))) = module_end bytes (module_fault bytes) mid read refl ends

-- ---- the ends of `exec`

data ExecEnd (module_name launch_name : List ℕ) (before : FilesState) (out_before : SinkState) (now : FilesState) (out_now : SinkState) (result : Status) : Type 0 where
  unread : IsOutside result → ExecEnd module_name launch_name before out_before now out_now result
  no_module : result ≡ BadModule → RefusedModule module_name before out_before now out_now → ExecEnd module_name launch_name before out_before now out_now result
  read_module : (code : ModuleOf) → IsReadModule module_name before code → LaunchEnd code (module_name ∷ launch_name ∷ []) launch_name before out_before now out_now result → ExecEnd module_name launch_name before out_before now out_now result

exec_end : (sources : Sources) (module_name launch_name : List ℕ) (before now : FilesState) (out_before out_now : SinkState) (result : Status)
    → Ends sources true (exec_plan module_name launch_name) before out_before now out_now result → ExecEnd module_name launch_name before out_before now out_now result
unfolding exec_plan
exec_end sources module_name launch_name before now out_before out_now result h = by_module (loading sources module_name next before now out_before out_now result h)
  where
    next : ModuleOf → Plan
    next code = exec_launch_plan (module_name ∷ launch_name ∷ []) code launch_name

    by_module : ModuleEnd sources module_name next before out_before now out_now result → ExecEnd module_name launch_name before out_before now out_now result
    by_module (unread_module out) = unread out
    by_module (unfit_module is refused) = no_module is refused
    by_module (loaded code last is same ends) = read_module code is (launch_end sources code (module_name ∷ launch_name ∷ []) launch_name before last now out_before out_now result same ends)

outside_no_run : (result : Status) → IsOutside result → IsRunStatus result → ⊥
unfolding IsOutside
outside_no_run Memory h r = r
outside_no_run ReadFault h r = r
outside_no_run WriteFault h r = r
outside_no_run Missing h r = r
outside_no_run TooLong h r = r
outside_no_run Usage h r = r
outside_no_run Done h r = h
outside_no_run Refused h r = h
outside_no_run BadModule h r = h
outside_no_run BadLaunch h r = h
outside_no_run Broken h r = h
outside_no_run Unfinished h r = h
outside_no_run NotSafe h r = h

outside_no_module : (result : Status) → IsOutside result → result ≡ BadModule → ⊥
unfolding IsOutside
outside_no_module result h e = subst IsOutside e h

outside_no_launch : (result : Status) → IsOutside result → result ≡ BadLaunch → ⊥
unfolding IsOutside
outside_no_launch result h e = subst IsOutside e h

stop_is_run : (s : Stop) → IsRunStatus (status_of (answer_of s))
stop_is_run stop.Going = tt
stop_is_run stop.Finished = tt
stop_is_run (stop.Broken rule k place) = tt

no_run : (s : Stop) (result other : Status) → result ≡ status_of (answer_of s) → result ≡ other → (IsRunStatus other → ⊥) → ⊥
no_run s result other e f hm = hm (subst IsRunStatus (sym e ∙ f) (stop_is_run s))

-- what each answer says from the launch on
pub record LaunchAnswers (code : ModuleOf) (taken : List (List ℕ)) (launch_name : List ℕ) (before : FilesState) (out_before : SinkState) (now : FilesState) (out_now : SinkState) (result : Status) : Type 0 where
  pub run : IsRunStatus result → Executed code taken launch_name before out_before now out_now result
  pub bad_launch : result ≡ BadLaunch → RefusedLaunch code.kinds taken launch_name before out_before now out_now
  pub module_good : result ≢ BadModule
  pub source_good : result ≢ Refused

pub launch_answers : (code : ModuleOf) (taken : List (List ℕ)) (launch_name : List ℕ) (before now : FilesState) (out_before out_now : SinkState) (result : Status)
    → LaunchEnd code taken launch_name before out_before now out_now result → LaunchAnswers code taken launch_name before out_before now out_now result
unfolding IsOutside
launch_answers code taken launch_name before now out_before out_now result (outside h) = record {
  run = λ r. absurd (outside_no_run result h r);
  bad_launch = λ e. absurd (subst IsOutside e h);
  module_good = λ e. subst IsOutside e h;
  source_good = λ e. subst IsOutside e h;
}
launch_answers code taken launch_name before now out_before out_now result (no_launch is h) = record {
  run = λ r. absurd (subst IsRunStatus is r);
  bad_launch = λ e. h;
  module_good = λ e. cc;
  source_good = λ e. cc;
}
launch_answers code taken launch_name before now out_before out_now result (executed h) = record {
  run = λ r. h;
  bad_launch = λ e. absurd (no_run _ result BadLaunch h.status e (λ r. r));
  module_good = λ e. no_run _ result BadModule h.status e (λ r. r);
  source_good = λ e. no_run _ result Refused h.status e (λ r. r);
}

answers_of : (module_name launch_name : List ℕ) (before now : FilesState) (out_before out_now : SinkState) (result : Status)
    → ExecEnd module_name launch_name before out_before now out_now result → ExecAnswers module_name launch_name before out_before now out_now result
answers_of module_name launch_name before now out_before out_now result (unread h) = record {
  run = λ r. absurd (outside_no_run result h r);
  bad_module = λ e. absurd (outside_no_module result h e);
  bad_launch = λ e. absurd (outside_no_launch result h e);
}
answers_of module_name launch_name before now out_before out_now result (no_module is h) = record {
  run = λ r. absurd (subst IsRunStatus is r);
  bad_module = λ e. h;
  bad_launch = λ e. absurd (cc);
}
answers_of module_name launch_name before now out_before out_now result (read_module code is end) =
    let said = launch_answers code (module_name ∷ launch_name ∷ []) launch_name before now out_before out_now result end in
    record {
      run = λ r. (code, is, said.run r);
      bad_module = λ e. absurd (said.module_good e);
      bad_launch = λ e. (code, is, said.bad_launch e);
    }

-- words of no form have none of these answers
usage_done : (module_name launch_name : List ℕ) (before now : FilesState) (out_before out_now : SinkState) (line : List ℕ) (result : Status)
    → Says out_before out_now line Usage result → ExecAnswers module_name launch_name before out_before now out_now result
unfolding IsOutside
usage_done module_name launch_name before now out_before out_now line result says =
    elim (says_cases out_before out_now line Usage result says) [
      | inl h ↦ answers_of module_name launch_name before now out_before out_now result (unread h)
      | inr h ↦ record {
        run = λ r. absurd (subst IsRunStatus h.0 r);
        bad_module = λ e. absurd (let is : result ≡ Usage = h.0 in cc);
        bad_launch = λ e. absurd (let is : result ≡ Usage = h.0 in cc);
      }
    ]

by_names : (sources : Sources) (same : Bool) (module_name launch_name : List ℕ) (before now : FilesState) (out_before out_now : SinkState) (result : Status)
    → Runs sources (cond same None (Some (exec_plan module_name launch_name))) before out_before now out_now result
    → ExecAnswers module_name launch_name before out_before now out_now result
by_names sources true module_name launch_name before now out_before out_now result h = usage_done module_name launch_name before now out_before out_now _ result h.1
by_names sources false module_name launch_name before now out_before out_now result h =
    answers_of module_name launch_name before now out_before out_now result (exec_end sources module_name launch_name before now out_before out_now result h)

pub runs_answers : (sources : Sources) (words : List (List ℕ)) (before : FilesState) (out_before : SinkState) (now : FilesState) (out_now : SinkState) (result : Status)
    → Runs sources (plan_of words) before out_before now out_now result
    → IfExec words (λ module_name launch_name. ExecAnswers module_name launch_name before out_before now out_now result)
unfolding plan_of
runs_answers sources (verb ∷ module_name ∷ launch_name ∷ []) before out_before now out_now result h = λ is.
    let P : Bool → Type 0 = λ b. Runs sources (cond b (cond (bytes_eq module_name launch_name) None (Some (exec_plan module_name launch_name))) None) before out_before now out_now result in
    by_names sources (bytes_eq module_name launch_name) module_name launch_name before now out_before out_now result (subst P ((bytes_eq-Decides verb (codes "exec")).1 is) h)
runs_answers sources [] before out_before now out_now result h = tt
runs_answers sources (one ∷ []) before out_before now out_now result h = tt
runs_answers sources (one ∷ two ∷ []) before out_before now out_now result h = tt
runs_answers sources (one ∷ two ∷ three ∷ four ∷ words) before out_before now out_now result h = tt
