-- Want of memory before any write: no file and nothing of the sink has changed.
use Rattle.std.proofs.Common.{◌≡◌, ◌⊎◌, inl, inr, ℕ, Bool, true, false, cond, List, [], ◌∷◌, ◌++◌, refl, sym, ap, ◌∙◌, subst, arith}
use Rattle.std.specs.Prelude.{Option, Some, None, IfSome, option_map, bytes_eq, codes, ⊤}
use Rattle.q_io.specs.Rose.{Rose}
use Rattle.q_io.specs.FilesMeaning.{with_file, FilesState, FilesCountsStay}
use Rattle.q_io.specs.SinkMeaning.{SinkState, PutsAll}
use Rattle.q_io.specs.declared.Put.{Put}
use Rattle.q_io.specs.declared.Put.TheVariants.{Done as WasPut, Failed as PutFailed, Memory as PutShort}
use Rattle.commands.specs.Plan.{Compilation, compiled, violated, Understanding, understood, refuted, MadeOf, Plan, reads, writes, makes, commits, answers, Ends, WriteTrouble}
use Rattle.commands.specs.Lines.{SaysTrouble, trouble_line, status_after}
use Rattle.commands.specs.Due.{KeptBut, ShortOrKept}
use Rattle.commands.specs.Commands.{Runs, plan_of, are_apart, judge_plan_of, first_written}
use Rattle.launch_file.specs.declared.launch.BufferLine.{BufferLine}
use Rattle.launch_file.specs.declared.launch.Schedule.{Schedule}
use Rattle.launch_file.specs.declared.launch.Schedule.TheVariants.{Rounds, Seed, File}
use Rattle.launch_file.specs.Launches.{LaunchOf}
use Rattle.launch_file.specs.LaunchIn.{launch_in}
use Rattle.launch_file.specs.Rules.{first_fault as launch_fault}
use Rattle.launch_file.specs.Fit.{FaultAt, fit_fault}
use Rattle.q_lane.specs.declared.kinds.Kind.{Kind}
use Rattle.vc4q_module.specs.ModuleBytes.{ModuleOf, module_in, first_fault as module_fault}
use Rattle.promise.specs.Kernel.{Meaning}
use Rattle.commands.specs.Buffers.{filled, read_buffer, read_buffers}
use Rattle.commands.specs.Launching.{launch_plan, after_launch, fit_plan, after_fit}
use Rattle.commands.specs.Loading.{after_module, module_plan}
use Rattle.commands.specs.Disasm.{list_plan, disasm_plan}
use Rattle.commands.specs.Exec.{exec_plan, exec_launch_plan, schedule_plan, buffers_plan, ready_plan, read_schedule}
use Rattle.commands.specs.Judge.{turns_in, verdict_plan, judged_plan, after_reading, meaning_plan, judged_launch_plan, judge_plan}
use Rattle.commands.specs.Compile.{after_source, source_plan, store_plan, compile_plan, keep_plan, run_plan}
use Rattle.commands.proofs.Causes.{EndCause}
use Rattle.commands.proofs.Caused.{ends_caused}
use Rattle.commands.proofs.Clauses.{runs_caused}
use Rattle.commands.specs.declared.status.Status.{Status}
use Rattle.commands.specs.declared.status.Status.TheVariants.{Memory, WriteFault}
use Rattle.commands.specs.declared.places.Trouble.{Trouble}
use Rattle.commands.specs.declared.places.Trouble.TheVariants.{Missing as IsMissing, TooLong as IsTooLong, ReadFault as IsReadFault, WriteFault as IsWriteFault, Memory as IsMemory}
use Rattle.promise.specs.Language.{Sources}

-- a plan whose writes all come once no more memory is asked for, but for a first one of this file
pub WritesLate : Option (List ℕ) → Plan → Type 0
WritesLate first (reads name limit next) = (bytes : List ℕ) → WritesLate first (next bytes)
WritesLate None (writes name bytes next) = ⊥
WritesLate (Some first) (writes name bytes next) = (name ≡ first) × WritesLate None next
WritesLate first (makes wanted next) = (made : MadeOf wanted) → WritesLate first (next made)
WritesLate first (commits next) = ⊤
WritesLate first (answers answer line) = ⊤

kept_by : (A B C D : Type 0) → ((true ≡ true) × A) ⊎ (B ⊎ C) → D → B ⊎ (C ⊎ (D × A))
kept_by A B C D (inl h) d = inr (inr (d, h.1))
kept_by A B C D (inr (inl h)) d = inl h
kept_by A B C D (inr (inr h)) d = inr (inl h)

short_by : (A B C D : Type 0) → ((false ≡ true) × A) ⊎ (B ⊎ C) → B ⊎ (C ⊎ D)
short_by A B C D (inl h) = absurd (let no : false ≡ true = h.0 in cc)
short_by A B C D (inr (inl h)) = inl h
short_by A B C D (inr (inr h)) = inr (inl h)

kept_all : (first : Option (List ℕ)) (before now : FilesState) → now.told ≡ before.told → KeptBut first before now
kept_all None before now e = e
kept_all (Some name) before now e = inl e

-- a run that has changed no file
kept_end : (sources : Sources) (first : Option (List ℕ)) (plan : Plan) (before : FilesState) (out_before : SinkState) (now : FilesState) (out_now : SinkState) (result : Status)
    → Ends sources true plan before out_before now out_now result → now.told ≡ before.told → result ≡ Memory → ShortOrKept first before out_before now out_now
kept_end sources first plan before out_before now out_now result h same e =
    kept_by _ _ _ _ (subst (λ s. EndCause true before out_before now out_now s) e (ends_caused sources true plan before out_before now out_now result h)) (kept_all first before now same)

kept_earlier : (first : Option (List ℕ)) (start before now : FilesState) → before.told ≡ start.told → KeptBut first before now → KeptBut first start now
kept_earlier None start before now same h = h ∙ same
kept_earlier (Some name) start before now same (inl h) = inl (h ∙ same)
kept_earlier (Some name) start before now same (inr h) = inr (h.0, h.1 ∙ ap (option_map (with_file name (Some h.0))) same)

-- what holds from a moment on holds from an earlier one that has the same files
short_earlier : (first : Option (List ℕ)) (start before now : FilesState) (out_before out_now : SinkState) → FilesCountsStay start before → before.told ≡ start.told
    → ShortOrKept first before out_before now out_now → ShortOrKept first start out_before now out_now
short_earlier first start before now out_before out_now counts same (inl h) = inl (omega arith)
short_earlier first start before now out_before out_now counts same (inr (inl h)) = inr (inl h)
short_earlier first start before now out_before out_now counts same (inr (inr h)) = inr (inr (kept_earlier first start before now same h.0, h.1))

-- the same from before the first write
short_written : (name bytes : List ℕ) (start before now : FilesState) (out_before out_now : SinkState) → FilesCountsStay start before
    → before.told ≡ option_map (with_file name (Some bytes)) start.told
    → ShortOrKept None before out_before now out_now → ShortOrKept (Some name) start out_before now out_now
short_written name bytes start before now out_before out_now counts wrote (inl h) = inl (omega arith)
short_written name bytes start before now out_before out_now counts wrote (inr (inl h)) = inr (inl h)
short_written name bytes start before now out_before out_now counts wrote (inr (inr h)) = inr (inr (inr (bytes, h.0 ∙ wrote), h.1))

-- a write that wasn't done for want of memory was short of it
write_short : (before now : FilesState) (out_before out_now : SinkState) (name : List ℕ) (trouble : Trouble) (result : Status)
    → WriteTrouble before now trouble → SaysTrouble out_before out_now trouble name result → result ≡ Memory
    → Rose before.shortages now.shortages ⊎ Rose out_before.shortages out_now.shortages
write_short before now out_before out_now name IsMissing result cause says e = absurd cause
write_short before now out_before out_now name IsTooLong result cause says e = absurd cause
write_short before now out_before out_now name IsReadFault result cause says e = absurd cause
write_short before now out_before out_now name IsWriteFault result cause says e = inr (put_short says.put says.taken (sym says.is ∙ e))
  where
    put_short : (put : Put) → PutsAll out_before out_now (trouble_line IsWriteFault name) put → status_after put WriteFault ≡ Memory → Rose out_before.shortages out_now.shortages
    put_short WasPut taken e = absurd (cc)
    put_short PutFailed taken e = absurd (cc)
    put_short PutShort taken e = taken.0
write_short before now out_before out_now name IsMemory result cause says e = inl cause

rose_first : (A B C : Type 0) → A ⊎ B → A ⊎ (B ⊎ C)
rose_first A B C (inl a) = inl a
rose_first A B C (inr b) = inr (inl b)

ends_short : (sources : Sources) (first : Option (List ℕ)) (plan : Plan) (before : FilesState) (out_before : SinkState) (now : FilesState) (out_now : SinkState) (result : Status)
    → WritesLate first plan → Ends sources true plan before out_before now out_now result → result ≡ Memory → ShortOrKept first before out_before now out_now
unfolding WritesLate
ends_short sources first (reads name limit next) before out_before now out_now result late (inl h) e = inr (inr (kept_all first before now (ap (λ f. f.told) h.files), h.out))
ends_short sources first (reads name limit next) before out_before now out_now result late (inr (inl h)) e =
    kept_end sources first (reads name limit next) before out_before now out_now result (inr (inl h)) h.files e
ends_short sources first (reads name limit next) before out_before now out_now result late (inr (inr h)) e =
    short_earlier first before h.1 now out_before out_now h.2.counts h.2.files (ends_short sources first (next h.0) h.1 out_before now out_now result (late h.0) h.3 e)
ends_short sources None (writes name bytes next) before out_before now out_now result late h e = absurd late
ends_short sources (Some first) (writes name bytes next) before out_before now out_now result late (inl h) e = inr (inr (inl (ap (λ f. f.told) h.files), h.out))
ends_short sources (Some first) (writes name bytes next) before out_before now out_now result late (inr (inl h)) e =
    rose_first _ _ _ (write_short before now out_before out_now name h.trouble result h.cause h.says e)
ends_short sources (Some first) (writes name bytes next) before out_before now out_now result late (inr (inr h)) e =
    subst (λ n. ShortOrKept (Some n) before out_before now out_now) late.0
    (short_written name bytes before h.0 now out_before out_now h.1.counts h.1.files (ends_short sources None next h.0 out_before now out_now result late.1 h.2 e))
ends_short sources first (makes wanted next) before out_before now out_now result late (inl h) e = inr (inr (kept_all first before now (ap (λ f. f.told) h.files), h.out))
ends_short sources first (makes wanted next) before out_before now out_now result late (inr h) e = ends_short sources first (next h.0) before out_before now out_now result (late h.0) h.2 e
ends_short sources first (commits next) before out_before now out_now result late (inl h) e = inr (inr (kept_all first before now (ap (λ f. f.told) h.files), h.out))
ends_short sources first (commits next) before out_before now out_now result late (inr h) e =
    short_by _ _ _ _ (subst (λ s. EndCause false before out_before now out_now s) e (ends_caused sources false next before out_before now out_now result h))
ends_short sources first (answers answer line) before out_before now out_now result late (inl h) e = inr (inr (kept_all first before now (ap (λ f. f.told) h.files), h.out))
ends_short sources first (answers answer line) before out_before now out_now result late (inr h) e =
    kept_end sources first (answers answer line) before out_before now out_now result (inr h) (ap (λ f. f.told) h.0) e

by_plan : (sources : Sources) (first : Option (List ℕ)) (plan : Option Plan) (before : FilesState) (out_before : SinkState) (now : FilesState) (out_now : SinkState) (result : Status)
    → IfSome plan (WritesLate first) → Runs sources plan before out_before now out_now result → result ≡ Memory → ShortOrKept first before out_before now out_now
by_plan sources first None before out_before now out_now result late h e =
    elim ((runs_caused sources None before out_before now out_now result h).memory e) [
      | inl rose ↦ inl rose
      | inr rest ↦ elim rest [ inl rose ↦ inr (inl rose) | inr same ↦ inr (inr (kept_all first before now (ap (λ f. f.told) h.0), same)) ]
    ]
by_plan sources first (Some plan) before out_before now out_now result late h e = ends_short sources first plan before out_before now out_now result late h e

-- ---- the plans

schedule_late : (schedule : Schedule) (next : List ℕ → Plan) → ((file : List ℕ) → WritesLate None (next file)) → WritesLate None (read_schedule schedule next)
unfolding WritesLate
schedule_late (Rounds rounds) next h = h []
schedule_late (Seed seed steps) next h = h []
schedule_late (File name times) next h = h

buffer_late : (size : ℕ) (from to : Option (List ℕ)) (next : List ℕ → Plan) → ((bytes : List ℕ) → WritesLate None (next bytes)) → WritesLate None (read_buffer (record { size = size; from = from; to = to }) next)
unfolding WritesLate
buffer_late size None to next h = h (filled size [])
buffer_late size (Some name) to next h = λ bytes. h (filled size bytes)

buffers_late : (lines : List BufferLine) (got : List (List ℕ)) (next : List (List ℕ) → Plan) → ((buffers : List (List ℕ)) → WritesLate None (next buffers)) → WritesLate None (read_buffers lines got next)
buffers_late [] got next h = h got
buffers_late (line ∷ lines) got next h = buffer_late line.size line.from line.to _ (λ bytes. buffers_late lines (got ++ bytes ∷ []) next h)

-- the read of a launch writes nothing, and goes on with it
fit_late : (fault : Option FaultAt) (next : LaunchOf → Plan) (launch : LaunchOf) → WritesLate None (next launch) → WritesLate None (after_fit fault next launch)
unfolding WritesLate
fit_late None next launch h = h
fit_late (Some fault) next launch h = tt

text_late : (fault : Option (ℕ × ℕ)) (taken : List (List ℕ)) (kinds : List Kind) (next : LaunchOf → Plan) (launch : LaunchOf) → WritesLate None (next launch) → WritesLate None (after_launch fault taken kinds next launch)
unfolding WritesLate fit_plan
text_late None taken kinds next launch h = fit_late (fit_fault launch kinds taken) next launch h
text_late (Some fault) taken kinds next launch h = tt

launch_late : (taken : List (List ℕ)) (kinds : List Kind) (launch_name : List ℕ) (next : LaunchOf → Plan) → ((launch : LaunchOf) → WritesLate None (next launch)) → WritesLate None (launch_plan taken kinds launch_name next)
unfolding WritesLate launch_plan
launch_late taken kinds launch_name next h = λ bytes. text_late (launch_fault bytes) taken kinds next (launch_in bytes) (h (launch_in bytes))

run_launch_late : (code : ModuleOf) (launch : LaunchOf) → WritesLate None (schedule_plan code launch)
unfolding WritesLate schedule_plan buffers_plan
run_launch_late code launch = schedule_late launch.schedule (buffers_plan code launch) (λ file. buffers_late launch.buffers [] (ready_plan code launch file) (λ buffers. tt))

module_late : (fault : Option ℕ) (next : ModuleOf → Plan) (code : ModuleOf) → WritesLate None (next code) → WritesLate None (after_module fault next code)
unfolding WritesLate
module_late None next code h = h
module_late (Some place) next code h = tt

load_late : (module_name : List ℕ) (next : ModuleOf → Plan) → ((code : ModuleOf) → WritesLate None (next code)) → WritesLate None (module_plan module_name next)
unfolding WritesLate module_plan
load_late module_name next h = λ bytes. module_late (module_fault bytes) next (module_in bytes) (h (module_in bytes))

exec_late : (module_name launch_name : List ℕ) → WritesLate None (exec_plan module_name launch_name)
unfolding exec_plan
exec_late module_name launch_name =
    let taken : List (List ℕ) = module_name ∷ launch_name ∷ [] in
    load_late module_name (λ code. exec_launch_plan taken code launch_name) (λ code. launch_late taken code.kinds launch_name (schedule_plan code) (run_launch_late code))

disasm_late : (module_name : List ℕ) → WritesLate None (disasm_plan module_name)
unfolding WritesLate disasm_plan
disasm_late module_name = load_late module_name list_plan (λ code. tt)

source_late : (first : Option (List ℕ)) (source : List ℕ) (next : ModuleOf → Plan) → ((code : ModuleOf) → WritesLate first (next code)) → (made : Compilation) → WritesLate first (after_source source next made)
unfolding WritesLate
source_late first source next h (compiled code) = h code
source_late first source next h (violated rule at) = tt

compile_late : (source_name kernel module_name : List ℕ) → WritesLate None (compile_plan source_name kernel module_name)
unfolding WritesLate compile_plan source_plan store_plan
compile_late source_name kernel module_name = λ source made. source_late None source (store_plan module_name) (λ code. tt) made

judge_launch_late : (source : List ℕ) (meaning : Meaning) (turns : ℕ) (launch : LaunchOf) → WritesLate None (judged_plan source meaning turns launch)
unfolding WritesLate judged_plan verdict_plan
judge_launch_late source meaning turns launch = buffers_late launch.buffers [] (verdict_plan source meaning turns launch) (λ buffers verdict. tt)

reading_late : (source : List ℕ) (next : Meaning → Plan) → ((meaning : Meaning) → WritesLate None (next meaning)) → (made : Understanding) → WritesLate None (after_reading source next made)
unfolding WritesLate
reading_late source next h (understood meaning) = h meaning
reading_late source next h (refuted rule at) = tt

judge_late : (source_name kernel launch_name : List ℕ) (turns : ℕ) → WritesLate None (judge_plan source_name kernel launch_name turns)
unfolding WritesLate judge_plan meaning_plan judged_launch_plan
judge_late source_name kernel launch_name turns =
    λ source made. reading_late source (judged_launch_plan source_name launch_name turns source)
    (λ meaning. launch_late (source_name ∷ launch_name ∷ []) meaning.kinds launch_name (judged_plan source meaning turns) (judge_launch_late source meaning turns)) made

run_late : (source_name kernel module_name launch_name : List ℕ) → WritesLate (Some module_name) (run_plan source_name kernel module_name launch_name)
unfolding WritesLate run_plan source_plan keep_plan
run_late source_name kernel module_name launch_name =
    let taken : List (List ℕ) = source_name ∷ module_name ∷ launch_name ∷ [] in
    λ source made. source_late (Some module_name) source (keep_plan taken module_name launch_name)
    (λ code. (refl, launch_late taken code.kinds launch_name (schedule_plan code) (run_launch_late code))) made

exec_words : (verb same : Bool) (module_name launch_name : List ℕ) → IfSome (cond verb (cond same None (Some (exec_plan module_name launch_name))) None) (WritesLate None)
exec_words true true module_name launch_name = tt
exec_words true false module_name launch_name = exec_late module_name launch_name
exec_words false same module_name launch_name = tt

compile_words : (verb same : Bool) (source_name kernel module_name : List ℕ)
    → IfSome (cond verb (cond same None (Some (compile_plan source_name kernel module_name))) None) (WritesLate None)
compile_words true true source_name kernel module_name = tt
compile_words true false source_name kernel module_name = compile_late source_name kernel module_name
compile_words false same source_name kernel module_name = tt

judge_words : (same : Bool) (source_name kernel launch_name : List ℕ) (turns : Option ℕ)
    → IfSome (cond same None (option_map (judge_plan source_name kernel launch_name) turns)) (WritesLate None)
judge_words true source_name kernel launch_name turns = tt
judge_words false source_name kernel launch_name None = tt
judge_words false source_name kernel launch_name (Some turns) = judge_late source_name kernel launch_name turns

-- a `run` or a `judge`
five_words : (runs judges apart : Bool) (source_name kernel one other : List ℕ)
    → IfSome (cond runs (cond apart (Some (run_plan source_name kernel one other)) None) (cond judges (judge_plan_of source_name kernel one other) None)) (WritesLate (cond runs (Some one) None))
five_words true judges true source_name kernel one other = run_late source_name kernel one other
five_words true judges false source_name kernel one other = tt
five_words false true apart source_name kernel one other = judge_words (bytes_eq source_name one) source_name kernel one (turns_in other)
five_words false false apart source_name kernel one other = tt

disasm_words : (verb : Bool) (module_name : List ℕ) → IfSome (cond verb (Some (disasm_plan module_name)) None) (WritesLate None)
disasm_words true module_name = disasm_late module_name
disasm_words false module_name = tt

plans_late : (words : List (List ℕ)) → IfSome (plan_of words) (WritesLate (first_written words))
unfolding plan_of
plans_late [] = tt
plans_late (one ∷ []) = tt
plans_late (verb ∷ module_name ∷ []) = disasm_words (bytes_eq verb (codes "disasm")) module_name
plans_late (verb ∷ module_name ∷ launch_name ∷ []) = exec_words (bytes_eq verb (codes "exec")) (bytes_eq module_name launch_name) module_name launch_name
plans_late (verb ∷ source_name ∷ kernel ∷ module_name ∷ []) = compile_words (bytes_eq verb (codes "compile")) (bytes_eq source_name module_name) source_name kernel module_name
plans_late (verb ∷ source_name ∷ kernel ∷ module_name ∷ launch_name ∷ []) =
    five_words (bytes_eq verb (codes "run")) (bytes_eq verb (codes "judge")) (are_apart source_name module_name launch_name) source_name kernel module_name launch_name
plans_late (one ∷ two ∷ three ∷ four ∷ five ∷ six ∷ words) = tt

pub runs_short : (sources : Sources) (words : List (List ℕ)) (before : FilesState) (out_before : SinkState) (now : FilesState) (out_now : SinkState) (result : Status)
    → Runs sources (plan_of words) before out_before now out_now result → result ≡ Memory → ShortOrKept (first_written words) before out_before now out_now
runs_short sources words before out_before now out_now result h e = by_plan sources (first_written words) (plan_of words) before out_before now out_now result (plans_late words) h e
