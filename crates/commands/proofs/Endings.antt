-- A `compile` of a lawful source and a `run` by a finite launch come to their end.
use Rattle.std.proofs.Common.{◌≡◌, ◌≢◌, ◌⊎◌, inl, inr, ℕ, ◌≤◌, Bool, true, false, cond, List, [], ◌∷◌, length, refl, sym, ap, ◌∙◌, subst}
use Rattle.std.specs.Prelude.{Option, Some, None, IfSome, bytes_eq, codes, not, ◌&&◌}
use Rattle.std.proofs.lemmas.Slice.Eq.{bytes_eq-Decides}
use Rattle.q_io.specs.FilesMeaning.{Tree, with_file, FilesState}
use Rattle.q_io.specs.SinkMeaning.{SinkState}
use Rattle.launch_file.specs.declared.launch.BufferLine.{BufferLine}
use Rattle.launch_file.specs.declared.launch.Schedule.{Schedule}
use Rattle.launch_file.specs.declared.launch.Schedule.TheVariants.{Rounds}
use Rattle.launch_file.specs.Launches.{LaunchOf}
use Rattle.launch_file.specs.LaunchIn.{launch_in}
use Rattle.launch_file.specs.Rules.{first_fault as launch_fault}
use Rattle.launch_file.specs.Fit.{fit_fault}
use Rattle.vc4q_module.specs.ModuleBytes.{ModuleOf, IsModule, module_bytes}
use Rattle.qpu_machine.specs.declared.state.Stop.TheVariants as stop
use Rattle.qpu_machine.specs.MachineState.{MachineState, stop_of}
use Rattle.qpu_machine.specs.MachineRun.{machine_run}
use Rattle.qpu_machine.specs.Schedules.{rounds_of}
use Rattle.promise.specs.Kernel.{Kernel}
use Rattle.promise.specs.Openings.{IsSetting}
use Rattle.promise.specs.Faithful.{buffers_of}
use Rattle.promise.proofs.Finishing.{safe_runs_finish}
use Rattle.commands.specs.Plan.{Compilation, IsCompilation, compiled, violated, a_module, Plan, makes, status_of}
use Rattle.commands.specs.Due.{then_due, read, Made, module_made, meaning_made, verdict_made, due_of, AreMade, AnswersAsMade, IsQuiet}
use Rattle.commands.specs.Buffers.{write_buffer, write_buffers}
use Rattle.commands.specs.Openings.{zero_setting, opening_for}
use Rattle.commands.specs.Play.{answer_of, steps_of, ran, report_plan, play_plan}
use Rattle.commands.specs.Launching.{launch_limit}
use Rattle.commands.specs.Exec.{exec_launch_plan, schedule_plan, read_schedule, buffers_plan, ready_plan}
use Rattle.commands.specs.ExecClauses.{AreRead}
use Rattle.commands.specs.Compile.{source_limit, after_source, source_plan, store_plan, compile_plan, keep_plan, run_plan}
use Rattle.commands.specs.CompileClauses.{CompileEnds, IsFinite, RunEnds}
use Rattle.commands.specs.Commands.{plan_of, are_apart, judge_plan_of, due_for, Runs, IfCompile, IfRun}
use Rattle.commands.proofs.LaunchValid.{launch_of_text}
use Rattle.commands.proofs.OpeningLaws.{count_qpus}
use Rattle.commands.proofs.EndsAsDue.{told_at, due_found}
use Rattle.commands.proofs.Clauses.{if_told, runs_quiet}
use Rattle.commands.proofs.Continuing.{buffers_continue, launch_continues}
use Rattle.commands.proofs.RunDone.{read_is_setting}
use Rattle.commands.specs.declared.status.Status.{Status}
use Rattle.commands.specs.declared.status.Status.TheVariants.{Done, Memory}
use Rattle.promise.specs.Language.{Sources}
use Rattle.promise.specs.Laws.{HasOneViolation, KernelsAreOne}
use Rattle.promise.specs.Faithful.{IsFaithful}

either : (status result : Status) → (status ≡ Done) ⊎ (status ≡ Memory) → (result ≡ status) ⊎ (result ≡ Memory) → (result ≡ Done) ⊎ (result ≡ Memory)
either status result (inl d) (inl e) = inl (e ∙ d)
either status result (inr m) (inl e) = inr (e ∙ m)
either status result due (inr e) = inr e

-- ---- the source

-- what is due of a source that is read
pub source_due : (source_name kernel source : List ℕ) (next : ModuleOf → Plan) (tree : Tree) (all : List Made)
    → tree source_name ≡ Some source → length source ≤ source_limit
    → due_of (source_plan source_name kernel next) tree all ≡ then_due (read source_name) (due_of (makes (a_module source kernel) (after_source source next)) tree all)
unfolding source_plan
source_due source_name kernel source next tree all there short =
    due_found source_name source_limit (tree source_name) source (λ bytes. due_of (makes (a_module bytes kernel) (after_source bytes next)) tree all) there short

-- a source in the profile violates nothing, so a module decides
lawful_status : (sources : Sources) (violations : HasOneViolation sources.compiled) (source kernel : List ℕ) (next : ModuleOf → Plan) (tree : Tree) (made : Compilation) (more : List Made) → sources.compiled.in_profile source kernel → IsCompilation sources.compiled source kernel made
    → ((code : ModuleOf) (more : List Made) → IsModule code → IsFaithful sources.compiled source kernel code → (due_of (next code) tree more).status ≡ Done)
    → (due_of (after_source source next made) tree more).status ≡ Done
lawful_status sources violations source kernel next tree (compiled code) more lawful is ends = ends code more is.0 is.1
lawful_status sources violations source kernel next tree (violated rule at) more lawful is ends = absurd (violations.none source kernel rule at lawful is)

-- where nothing is made memory is wanting, and else the module decides
source_status : (sources : Sources) (violations : HasOneViolation sources.compiled) (source_name kernel source : List ℕ) (next : ModuleOf → Plan) (tree : Tree) (all : List Made)
    → tree source_name ≡ Some source → length source ≤ source_limit → sources.compiled.in_profile source kernel
    → AreMade sources (due_of (source_plan source_name kernel next) tree all).places
    → ((code : ModuleOf) (more : List Made) → IsModule code → IsFaithful sources.compiled source kernel code → (due_of (next code) tree more).status ≡ Done)
    → ((due_of (source_plan source_name kernel next) tree all).status ≡ Done) ⊎ ((due_of (source_plan source_name kernel next) tree all).status ≡ Memory)
source_status sources violations source_name kernel source next tree [] there short lawful are_made ends = inr (ap (λ due. due.status) (source_due source_name kernel source next tree [] there short))
source_status sources violations source_name kernel source next tree (module_made made ∷ more) there short lawful are_made ends =
    let is = source_due source_name kernel source next tree (module_made made ∷ more) there short in
    let own : IsCompilation sources.compiled source kernel made × AreMade sources (due_of (after_source source next made) tree more).places = subst (λ due. AreMade sources due.places) is are_made in
    inl (ap (λ due. due.status) is ∙ lawful_status sources violations source kernel next tree made more lawful own.0 ends)
source_status sources violations source_name kernel source next tree (meaning_made made ∷ more) there short lawful are_made ends =
    inr (ap (λ due. due.status) (source_due source_name kernel source next tree (meaning_made made ∷ more) there short))
source_status sources violations source_name kernel source next tree (verdict_made made ∷ more) there short lawful are_made ends =
    inr (ap (λ due. due.status) (source_due source_name kernel source next tree (verdict_made made ∷ more) there short))

-- ---- `compile`

store_status : (module_name : List ℕ) (code : ModuleOf) (tree : Tree) (all : List Made) → (due_of (store_plan module_name code) tree all).status ≡ Done
unfolding store_plan
store_status module_name code tree all = refl

compile_done : (sources : Sources) (violations : HasOneViolation sources.compiled) (source_name kernel module_name source : List ℕ) (tree : Tree) (result : Status)
    → AnswersAsMade sources (due_of (compile_plan source_name kernel module_name) tree) result
    → tree source_name ≡ Some source → length source ≤ source_limit → sources.compiled.in_profile source kernel
    → (result ≡ Done) ⊎ (result ≡ Memory)
unfolding compile_plan
compile_done sources violations source_name kernel module_name source tree result (all, made, answer) there short lawful =
    either _ result (source_status sources violations source_name kernel source (store_plan module_name) tree all there short lawful made (λ code more valid faithful. store_status module_name code tree more)) answer

pub is_other : (one two : List ℕ) → one ≢ two → bytes_eq one two ≡ false
is_other one two apart = other_case (bytes_eq one two) (λ e. apart ((bytes_eq-Decides one two).0 e))
  where
    other_case : (b : Bool) → (b ≡ true → ⊥) → b ≡ false
    other_case true never = absurd (never refl)
    other_case false never = refl

pub compile_form : (verb source_name kernel module_name : List ℕ) → verb ≡ codes "compile" → source_name ≢ module_name
    → plan_of (verb ∷ source_name ∷ kernel ∷ module_name ∷ []) ≡ Some (compile_plan source_name kernel module_name)
unfolding plan_of
compile_form verb source_name kernel module_name is apart =
    ap (λ b. cond b (cond (bytes_eq source_name module_name) None (Some (compile_plan source_name kernel module_name))) None) ((bytes_eq-Decides verb (codes "compile")).1 is)
    ∙ ap (λ b. cond b None (Some (compile_plan source_name kernel module_name))) (is_other source_name module_name apart)

compile_words : (sources : Sources) (violations : HasOneViolation sources.compiled) (words : List (List ℕ)) (tree : Tree) (result : Status) → AnswersAsMade sources (due_for (plan_of words) tree) result
    → IfCompile words (λ source_name kernel module_name. CompileEnds sources.compiled source_name kernel module_name tree result)
compile_words sources violations (verb ∷ source_name ∷ kernel ∷ module_name ∷ []) tree result h = λ is source apart there short lawful.
    compile_done sources violations source_name kernel module_name source tree result
    (subst (λ plan. AnswersAsMade sources (due_for plan tree) result) (compile_form verb source_name kernel module_name is apart) h) there short lawful
compile_words sources violations [] tree result h = tt
compile_words sources violations (one ∷ []) tree result h = tt
compile_words sources violations (one ∷ two ∷ []) tree result h = tt
compile_words sources violations (one ∷ two ∷ three ∷ []) tree result h = tt
compile_words sources violations (one ∷ two ∷ three ∷ four ∷ five ∷ words) tree result h = tt

pub runs_compile_ends : (sources : Sources) (violations : HasOneViolation sources.compiled) (words : List (List ℕ)) (before : FilesState) (out_before : SinkState) (now : FilesState) (out_now : SinkState) (result : Status)
    → Runs sources (plan_of words) before out_before now out_now result
    → IfSome before.told (λ tree. IsQuiet before out_before now out_now → IfCompile words (λ source_name kernel module_name. CompileEnds sources.compiled source_name kernel module_name tree result))
runs_compile_ends sources violations words before out_before now out_now result h =
    if_told before.told _ (λ tree told quiet.
    compile_words sources violations words tree result
    (told_at before.told tree (λ t. IsQuiet before out_before now out_now → AnswersAsMade sources (due_for (plan_of words) t) result) told (runs_quiet sources (plan_of words) before out_before now out_now result h) quiet))

-- ---- the launch

write_status : (size : ℕ) (from to : Option (List ℕ)) (bytes : List ℕ) (next : Plan) (tree : Tree) (all : List Made) (status : Status)
    → ((later : Tree) → (due_of next later all).status ≡ status)
    → (due_of (write_buffer (record { size = size; from = from; to = to }) bytes next) tree all).status ≡ status
write_status size from None bytes next tree all status h = h tree
write_status size from (Some name) bytes next tree all status h = h (with_file name (Some bytes) tree)

-- the writes leave the answer
writes_status : (lines : List BufferLine) (buffers : List (List ℕ)) (next : Plan) (tree : Tree) (all : List Made) (status : Status)
    → ((later : Tree) → (due_of next later all).status ≡ status) → (due_of (write_buffers lines buffers next) tree all).status ≡ status
writes_status [] buffers next tree all status h = h tree
writes_status (line ∷ lines) [] next tree all status h = h tree
writes_status (line ∷ lines) (bytes ∷ buffers) next tree all status h =
    write_status line.size line.from line.to bytes (write_buffers lines buffers next) tree all status (λ later. writes_status lines buffers next later all status h)

report_status : (s : MachineState) (tree : Tree) (all : List Made) → stop_of s ≡ stop.Finished → (due_of (report_plan s) tree all).status ≡ Done
unfolding report_plan
report_status s tree all is = ap (λ x. status_of (answer_of x)) is

play_status : (s : MachineState) (launch : LaunchOf) (file : List ℕ) (tree : Tree) (all : List Made) → stop_of (ran s launch.schedule file) ≡ stop.Finished
    → (due_of (play_plan s launch file) tree all).status ≡ Done
unfolding play_plan
play_status s launch file tree all is =
    let r : MachineState = ran s launch.schedule file in
    writes_status launch.buffers (buffers_of r) (report_plan r) tree all Done (λ later. report_status r later all is)

launch_status : (sources : Sources) (taken : List (List ℕ)) (code : ModuleOf) (launch_name text : List ℕ) (buffers : List (List ℕ)) (rounds : ℕ) (files : FilesState) (tree : Tree) (all : List Made)
    → tree launch_name ≡ Some text → length text ≤ launch_limit → launch_fault text ≡ None → fit_fault (launch_in text) code.kinds taken ≡ None
    → (launch_in text).schedule ≡ Rounds rounds → files.told ≡ Some tree → AreRead files (launch_in text).buffers buffers
    → stop_of (ran (opening_for code (launch_in text) buffers) (launch_in text).schedule []) ≡ stop.Finished
    → (due_of (exec_launch_plan taken code launch_name) tree all).status ≡ Done
unfolding schedule_plan buffers_plan
launch_status sources taken code launch_name text buffers rounds files tree all there short lawful fits schedule told are finished =
    let launch : LaunchOf = launch_in text in
    (launch_continues sources taken code.kinds launch_name text (schedule_plan code) tree all there short lawful fits).status
    ∙ ap (λ s. (due_of (read_schedule s (buffers_plan code launch)) tree all).status) schedule
    ∙ (buffers_continue sources launch.buffers [] buffers (ready_plan code launch []) files tree all told are).status
    ∙ play_status (opening_for code launch buffers) launch [] tree all finished

-- ---- `run`

ran_rounds : (code : ModuleOf) (launch : LaunchOf) (buffers : List (List ℕ)) (schedule : Schedule) (rounds : ℕ) → schedule ≡ Rounds rounds
    → ran (opening_for code launch buffers) schedule [] ≡ machine_run (rounds_of rounds launch.qpus) (opening_for code launch buffers)
unfolding ran
ran_rounds code launch buffers schedule rounds is =
    ap (λ s. machine_run (steps_of s [] (length (opening_for code launch buffers).qpus)) (opening_for code launch buffers)) is
    ∙ ap (λ n. machine_run (rounds_of rounds n) (opening_for code launch buffers)) (count_qpus code launch buffers)

finishes : (sources : Sources) (kernels : KernelsAreOne sources.compiled) (source kernel : List ℕ) (code : ModuleOf) (k : Kernel) (taken : List (List ℕ)) (text : List ℕ) (files : FilesState)
    → IsFaithful sources.compiled source kernel code → sources.compiled.has_kernel source kernel k → launch_fault text ≡ None → fit_fault (launch_in text) code.kinds taken ≡ None
    → (finite : IsFinite k (launch_in text) files)
    → stop_of (ran (opening_for code (launch_in text) finite.buffers) (launch_in text).schedule []) ≡ stop.Finished
unfolding opening_for
finishes sources kernels source kernel code k taken text files faithful is_k lawful fits finite =
    let launch : LaunchOf = launch_in text in
    let good : IsSetting code (zero_setting code launch finite.buffers) = read_is_setting code taken launch files finite.buffers (launch_of_text text lawful).0 fits finite.contents in
    ap stop_of (ran_rounds code launch finite.buffers launch.schedule finite.rounds finite.schedule)
    ∙ (safe_runs_finish sources.compiled kernels source kernel code k faithful is_k (zero_setting code launch finite.buffers) good finite.turns finite.ended finite.safe finite.rounds finite.enough).0

keep_status : (sources : Sources) (kernels : KernelsAreOne sources.compiled) (source_name module_name launch_name source kernel text : List ℕ) (k : Kernel) (code : ModuleOf) (tree : Tree) (all : List Made)
    → sources.compiled.has_kernel source kernel k → IsFaithful sources.compiled source kernel code → module_name ≢ launch_name
    → tree launch_name ≡ Some text → length text ≤ launch_limit → launch_fault text ≡ None
    → fit_fault (launch_in text) k.kinds (source_name ∷ module_name ∷ launch_name ∷ []) ≡ None
    → ((files : FilesState) → files.told ≡ Some (with_file module_name (Some (module_bytes code)) tree) → IsFinite k (launch_in text) files)
    → (due_of (keep_plan (source_name ∷ module_name ∷ launch_name ∷ []) module_name launch_name code) tree all).status ≡ Done
unfolding keep_plan
keep_status sources kernels source_name module_name launch_name source kernel text k code tree all is_k faithful apart there short lawful fits finite =
    let taken : List (List ℕ) = source_name ∷ module_name ∷ launch_name ∷ [] in
    let later : Tree = with_file module_name (Some (module_bytes code)) tree in
    let files : FilesState = record { told = Some later; read_faults = 0; write_faults = 0; misses = 0; over_long = 0; shortages = 0 } in
    let kinds : k.kinds ≡ code.kinds = ap (λ (x : Kernel). x.kinds) (kernels.one source kernel k faithful.kernel is_k faithful.is_kernel) ∙ sym faithful.kinds in
    let fits_code : fit_fault (launch_in text) code.kinds taken ≡ None = subst (λ kinds. fit_fault (launch_in text) kinds taken ≡ None) kinds fits in
    let still : later launch_name ≡ Some text = ap (λ b. cond b (Some (module_bytes code)) (tree launch_name)) (is_other module_name launch_name apart) ∙ there in
    let is : IsFinite k (launch_in text) files = finite files refl in
    launch_status sources taken code launch_name text is.buffers is.rounds files later all still short lawful fits_code is.schedule refl is.contents
    (finishes sources kernels source kernel code k taken text files faithful is_k lawful fits_code is)

pub run_form : (verb source_name kernel module_name launch_name : List ℕ) → verb ≡ codes "run" → source_name ≢ module_name → source_name ≢ launch_name → module_name ≢ launch_name
    → plan_of (verb ∷ source_name ∷ kernel ∷ module_name ∷ launch_name ∷ []) ≡ Some (run_plan source_name kernel module_name launch_name)
unfolding plan_of
run_form verb source_name kernel module_name launch_name is one two three =
    ap (λ b. cond b (cond (are_apart source_name module_name launch_name) (Some (run_plan source_name kernel module_name launch_name)) None) (cond (bytes_eq verb (codes "judge")) (judge_plan_of source_name kernel module_name launch_name) None)) ((bytes_eq-Decides verb (codes "run")).1 is)
    ∙ ap (λ b. cond b (Some (run_plan source_name kernel module_name launch_name)) None) (all_apart (is_other source_name module_name one) (is_other source_name launch_name two) (is_other module_name launch_name three))
  where
    all_apart : bytes_eq source_name module_name ≡ false → bytes_eq source_name launch_name ≡ false → bytes_eq module_name launch_name ≡ false → are_apart source_name module_name launch_name ≡ true
    all_apart a b c =
        ap (λ x. not x && not (bytes_eq source_name launch_name) && not (bytes_eq module_name launch_name)) a
        ∙ ap (λ x. not x && not (bytes_eq module_name launch_name)) b
        ∙ ap not c

run_words : (sources : Sources) (kernels : KernelsAreOne sources.compiled) (violations : HasOneViolation sources.compiled) (words : List (List ℕ)) (tree : Tree) (result : Status) → AnswersAsMade sources (due_for (plan_of words) tree) result
    → IfRun words (λ source_name kernel module_name launch_name. RunEnds sources.compiled source_name kernel module_name launch_name tree result)
unfolding run_plan
run_words sources kernels violations (verb ∷ source_name ∷ kernel ∷ module_name ∷ launch_name ∷ []) tree result h =
    λ is source text k one two three there short is_k launch_there launch_short lawful fits finite.
    let taken : List (List ℕ) = source_name ∷ module_name ∷ launch_name ∷ [] in
    let due : AnswersAsMade sources (due_of (run_plan source_name kernel module_name launch_name) tree) result =
    subst (λ plan. AnswersAsMade sources (due_for plan tree) result) (run_form verb source_name kernel module_name launch_name is one two three) h in
    either _ result
    (source_status sources violations source_name kernel source (keep_plan taken module_name launch_name) tree due.0 there short (kernels.lawful source kernel k is_k) due.1
    (λ code more valid faithful.
    keep_status sources kernels source_name module_name launch_name source kernel text k code tree more is_k faithful three launch_there launch_short lawful fits (λ files told. finite code files faithful told)))
    due.2
run_words sources kernels violations [] tree result h = tt
run_words sources kernels violations (one ∷ []) tree result h = tt
run_words sources kernels violations (one ∷ two ∷ []) tree result h = tt
run_words sources kernels violations (one ∷ two ∷ three ∷ []) tree result h = tt
run_words sources kernels violations (one ∷ two ∷ three ∷ four ∷ []) tree result h = tt
run_words sources kernels violations (one ∷ two ∷ three ∷ four ∷ five ∷ six ∷ words) tree result h = tt

pub runs_run_ends : (sources : Sources) (kernels : KernelsAreOne sources.compiled) (violations : HasOneViolation sources.compiled) (words : List (List ℕ)) (before : FilesState) (out_before : SinkState) (now : FilesState) (out_now : SinkState) (result : Status)
    → Runs sources (plan_of words) before out_before now out_now result
    → IfSome before.told (λ tree. IsQuiet before out_before now out_now → IfRun words (λ source_name kernel module_name launch_name. RunEnds sources.compiled source_name kernel module_name launch_name tree result))
runs_run_ends sources kernels violations words before out_before now out_now result h =
    if_told before.told _ (λ tree told quiet.
    run_words sources kernels violations words tree result
    (told_at before.told tree (λ t. IsQuiet before out_before now out_now → AnswersAsMade sources (due_for (plan_of words) t) result) told (runs_quiet sources (plan_of words) before out_before now out_now result h) quiet))
