-- What `compile` and `run` have done where they end.
use Rattle.std.proofs.Common.{◌≡◌, ◌≢◌, ◌⊎◌, inl, inr, zero, suc, ℕ, ◌-◌, ◌≤◌, ◌<◌, Bool, true, false, cond, List, [], ◌∷◌, ◌++◌, length, replicate, get_or, map, refl, sym, ap, ◌∙◌, subst, arith}
use Rattle.std.specs.Prelude.{Option, Some, None, option_map, IfSome, slice_get, bytes_eq, codes}
use Rattle.std.specs.List.{Contains}
use Rattle.std.proofs.lemmas.Slice.Eq.{bytes_eq-Decides}
use Rattle.std.proofs.lemmas.List.{length-append, length-replicate}
use Rattle.q_io.specs.Rose.{Rose}
use Rattle.q_io.specs.FilesMeaning.{Tree, with_file, FilesState, FilesCountsStay, Holds, Spoils}
use Rattle.q_io.specs.SinkMeaning.{SinkState, Gains}
use Rattle.launch_file.specs.declared.launch.BufferLine.{BufferLine}
use Rattle.launch_file.specs.Launches.{LaunchOf, IsLaunch, items_of}
use Rattle.launch_file.specs.Layout.{buffer_lens}
use Rattle.launch_file.specs.LaunchIn.{launch_in}
use Rattle.launch_file.specs.Fit.{fit_fault}
use Rattle.launch_file.proofs.FitLaws.{no_fault_is_fit}
use Rattle.vc4q_module.specs.ModuleBytes.{ModuleOf, module_bytes}
use Rattle.qpu_machine.specs.MachineState.{MachineState, stop_of}
use Rattle.qpu_machine.specs.MachineRun.{machine_run}
use Rattle.qpu_machine.specs.Reachable.{AreBytes}
use Rattle.qpu_machine.specs.declared.state.Step.{Step}
use Rattle.qpu_machine.specs.declared.state.Stop.{Stop}
use Rattle.qpu_machine.specs.declared.state.Stop.TheVariants as stop
use Rattle.vpm_words.specs.declared.state.Rule.{Rule}
use Rattle.launch_meaning.specs.LaunchMeaning.{IsSafe}
use Rattle.promise.specs.Kernel.{Kernel}
use Rattle.promise.specs.Openings.{Setting, IsSetting, opening_of}
use Rattle.promise.specs.Faithful.{KeepsAll}
use Rattle.commands.specs.Plan.{Compilation, IsCompilation, compiled, violated, Plan, Ends, WriteTrouble, status_of}
use Rattle.commands.specs.Lines.{Says}
use Rattle.commands.specs.Buffers.{filled}
use Rattle.commands.specs.Openings.{zero_setting, opening_for}
use Rattle.commands.specs.Play.{answer_of, steps_of, ran}
use Rattle.commands.specs.Exec.{exec_launch_plan}
use Rattle.commands.specs.Refusals.{refused_line}
use Rattle.commands.specs.Compile.{source_limit, compiled_line, after_source, source_plan, store_plan, compile_plan, keep_plan, run_plan}
use Rattle.commands.specs.ExecClauses.{IsRead, AreRead, stored, Executed}
use Rattle.commands.specs.CompileClauses.{IsMade, RefusedSource, IsEarly, CompileAnswers, Ran, RunAnswers}
use Rattle.commands.specs.Commands.{plan_of, are_apart, judge_plan_of, usage_line, Runs, IfCompile, IfRun}
use Rattle.commands.proofs.OpeningLaws.{zero_is_setting, fits_alone}
use Rattle.commands.proofs.Spared.{ends_spare, launch_spares}
use Rattle.commands.proofs.ExecDone.{IsOutside, says_cases, short_outside, says_outside, launch_end, LaunchAnswers, launch_answers}
use Rattle.commands.specs.declared.status.Status.{Status}
use Rattle.commands.specs.declared.status.Status.TheVariants.{Done, Memory, Usage, ReadFault, WriteFault, Missing, TooLong, Refused, BadModule, BadLaunch, Broken, Unfinished, NotSafe}
use Rattle.commands.specs.declared.places.Trouble.{Trouble}
use Rattle.commands.specs.declared.places.Trouble.TheVariants.{Missing as IsMissing, TooLong as IsTooLong, ReadFault as IsReadFault, WriteFault as IsWriteFault, Memory as IsMemory}
use Rattle.promise.specs.Language.{Sources}
use Rattle.promise.specs.Laws.{KernelsAreOne}

pub outside_early : (result : Status) → IsOutside result → IsEarly result
unfolding IsOutside
outside_early Memory h = tt
outside_early ReadFault h = tt
outside_early WriteFault h = tt
outside_early Missing h = tt
outside_early TooLong h = tt
outside_early Usage h = tt
outside_early Refused h = tt
outside_early Done h = h
outside_early BadModule h = h
outside_early BadLaunch h = h
outside_early Broken h = h
outside_early Unfinished h = h
outside_early NotSafe h = h

pub outside_not : (result other : Status) → (IsOutside other → ⊥) → IsOutside result → result ≡ other → ⊥
outside_not result other never h e = never (subst IsOutside e h)

not_done : IsOutside Done → ⊥
unfolding IsOutside
not_done h = h

not_refused : IsOutside Refused → ⊥
unfolding IsOutside
not_refused h = h

-- ---- the source

-- how a command ends that begins with a source
data SourceEnd (sources : Sources) (source_name kernel : List ℕ) (next : ModuleOf → Plan) (before : FilesState) (out_before : SinkState) (now : FilesState) (out_now : SinkState) (result : Status) : Type 0 where
  unmade : IsOutside result → now.told ≡ before.told → SourceEnd sources source_name kernel next before out_before now out_now result
  unlawful : result ≡ Refused → RefusedSource sources.compiled.violates_first source_name kernel before out_before now out_now → SourceEnd sources source_name kernel next before out_before now out_now result
  made : (source : List ℕ) (code : ModuleOf) (mid : FilesState) → FilesCountsStay before mid → mid.told ≡ before.told → IsMade sources.compiled source_name kernel before source code → Ends sources true (next code) mid out_before now out_now result
      → SourceEnd sources source_name kernel next before out_before now out_now result

compiled_end : (sources : Sources) (kernels : KernelsAreOne sources.compiled) (source_name kernel source : List ℕ) (all : Compilation) (next : ModuleOf → Plan) (before mid now : FilesState) (out_before out_now : SinkState) (result : Status)
    → FilesCountsStay before mid → mid.told ≡ before.told → Holds before source_name source → length source ≤ source_limit → IsCompilation sources.compiled source kernel all
    → Ends sources true (after_source source next all) mid out_before now out_now result → SourceEnd sources source_name kernel next before out_before now out_now result
compiled_end sources kernels source_name kernel source (compiled code) next before mid now out_before out_now result counts same holds short is ends =
    made source code mid counts same (record { read = holds; short = short; in_profile = kernels.lawful source kernel is.1.kernel is.1.is_kernel; valid = is.0; faithful = is.1 }) ends
compiled_end sources kernels source_name kernel source (violated rule at) next before mid now out_before out_now result counts same holds short is (inl h) = unmade (short_outside result h.is) (ap (λ f. f.told) h.files ∙ same)
compiled_end sources kernels source_name kernel source (violated rule at) next before mid now out_before out_now result counts same holds short is (inr (kept, says)) =
    elim (says_cases out_before out_now (refused_line source rule at) Refused result says) [
      | inl h ↦ unmade h (ap (λ f. f.told) kept ∙ same)
      | inr h ↦ unlawful h.0 (record {
        source = source;
        rule = rule;
        at = at;
        read = holds;
        short = short;
        first = is;
        files = ap (λ f. f.told) kept ∙ same;
        line = h.1;
      })
    ]

source_end : (sources : Sources) (kernels : KernelsAreOne sources.compiled) (source_name kernel : List ℕ) (next : ModuleOf → Plan) (before now : FilesState) (out_before out_now : SinkState) (result : Status)
    → Ends sources true (source_plan source_name kernel next) before out_before now out_now result → SourceEnd sources source_name kernel next before out_before now out_now result
unfolding source_plan
source_end sources kernels source_name kernel next before now out_before out_now result (inl h) = unmade (short_outside result h.is) (ap (λ f. f.told) h.files)
source_end sources kernels source_name kernel next before now out_before out_now result (inr (inl h)) = unmade (says_outside out_before out_now _ h.trouble result h.says) h.files
source_end sources kernels source_name kernel next before now out_before out_now result (inr (inr (source, mid, read, inl h))) = unmade (short_outside result h.is) (ap (λ f. f.told) h.files ∙ read.files)
source_end sources kernels source_name kernel next before now out_before out_now result (inr (inr (source, mid, read, inr (all, is, ends)))) =
    compiled_end sources kernels source_name kernel source all next before mid now out_before out_now result read.counts read.files read.holds read.fits is ends

-- ---- `compile`

-- a module was written, and the line
store_end : (sources : Sources) (module_name : List ℕ) (code : ModuleOf) (before now : FilesState) (out_before out_now : SinkState) (result : Status)
    → Ends sources true (store_plan module_name code) before out_before now out_now result
    → IsOutside result ⊎ ((result ≡ Done) × (now.told ≡ option_map (with_file module_name (Some (module_bytes code))) before.told) × Gains out_before out_now (compiled_line code))
unfolding store_plan
store_end sources module_name code before now out_before out_now result (inl h) = inl (short_outside result h.is)
store_end sources module_name code before now out_before out_now result (inr (inl h)) = inl (short_outside result h.is)
store_end sources module_name code before now out_before out_now result (inr (inr (inl h))) = inl (says_outside out_before out_now _ h.trouble result h.says)
store_end sources module_name code before now out_before out_now result (inr (inr (inr (last, wrote, inl h)))) = inl (short_outside result h.is)
store_end sources module_name code before now out_before out_now result (inr (inr (inr (last, wrote, inr (kept, says))))) =
    elim (says_cases out_before out_now (compiled_line code) Done result says) [
      | inl h ↦ inl h
      | inr h ↦ inr (h.0, ap (λ f. f.told) kept ∙ wrote.files, h.1)
    ]

outside_compile : (sources : Sources) (source_name kernel module_name : List ℕ) (before now : FilesState) (out_before out_now : SinkState) (result : Status)
    → IsOutside result → CompileAnswers sources.compiled source_name kernel module_name before out_before now out_now result
outside_compile sources source_name kernel module_name before now out_before out_now result h = record {
  compiled = λ e. absurd (outside_not result Done not_done h e);
  refused = λ e. absurd (outside_not result Refused not_refused h e);
  own = inr (outside_early result h);
}

compile_answers : (sources : Sources) (source_name kernel module_name : List ℕ) (before now : FilesState) (out_before out_now : SinkState) (result : Status)
    → SourceEnd sources source_name kernel (store_plan module_name) before out_before now out_now result
    → CompileAnswers sources.compiled source_name kernel module_name before out_before now out_now result
compile_answers sources source_name kernel module_name before now out_before out_now result (unmade h same) = outside_compile sources source_name kernel module_name before now out_before out_now result h
compile_answers sources source_name kernel module_name before now out_before out_now result (unlawful is h) = record {
  compiled = λ e. absurd (cc);
  refused = λ e. h;
  own = inr (subst IsEarly (sym is) tt);
}
compile_answers sources source_name kernel module_name before now out_before out_now result (made source code mid counts same is ends) =
    elim (store_end sources module_name code mid now out_before out_now result ends) [
      | inl h ↦ outside_compile sources source_name kernel module_name before now out_before out_now result h
      | inr h ↦ record {
        compiled = λ e. record { source = source; code = code; made = is; files = h.1 ∙ ap (option_map (with_file module_name (Some (module_bytes code)))) same; line = h.2 };
        refused = λ e. absurd (let done : result ≡ Done = h.0 in cc);
        own = inl h.0;
      }
    ]

usage_compile : (sources : Sources) (source_name kernel module_name : List ℕ) (before now : FilesState) (out_before out_now : SinkState) (result : Status)
    → Says out_before out_now usage_line Usage result → CompileAnswers sources.compiled source_name kernel module_name before out_before now out_now result
usage_compile sources source_name kernel module_name before now out_before out_now result says =
    elim (says_cases out_before out_now usage_line Usage result says) [
      | inl h ↦ outside_compile sources source_name kernel module_name before now out_before out_now result h
      | inr h ↦ record {
        compiled = λ e. absurd (let usage : result ≡ Usage = h.0 in cc);
        refused = λ e. absurd (let usage : result ≡ Usage = h.0 in cc);
        own = inr (subst IsEarly (sym h.0) tt);
      }
    ]

compile_names : (sources : Sources) (kernels : KernelsAreOne sources.compiled) (same : Bool) (source_name kernel module_name : List ℕ) (before now : FilesState) (out_before out_now : SinkState) (result : Status)
    → Runs sources (cond same None (Some (compile_plan source_name kernel module_name))) before out_before now out_now result
    → CompileAnswers sources.compiled source_name kernel module_name before out_before now out_now result
unfolding compile_plan
compile_names sources kernels true source_name kernel module_name before now out_before out_now result h = usage_compile sources source_name kernel module_name before now out_before out_now result h.1
compile_names sources kernels false source_name kernel module_name before now out_before out_now result h =
    compile_answers sources source_name kernel module_name before now out_before out_now result (source_end sources kernels source_name kernel (store_plan module_name) before now out_before out_now result h)

pub runs_compile : (sources : Sources) (kernels : KernelsAreOne sources.compiled) (words : List (List ℕ)) (before : FilesState) (out_before : SinkState) (now : FilesState) (out_now : SinkState) (result : Status)
    → Runs sources (plan_of words) before out_before now out_now result
    → IfCompile words (λ source_name kernel module_name. CompileAnswers sources.compiled source_name kernel module_name before out_before now out_now result)
unfolding plan_of
runs_compile sources kernels (verb ∷ source_name ∷ kernel ∷ module_name ∷ []) before out_before now out_now result h = λ is.
    let P : Bool → Type 0 = λ b. Runs sources (cond b (cond (bytes_eq source_name module_name) None (Some (compile_plan source_name kernel module_name))) None) before out_before now out_now result in
    compile_names sources kernels (bytes_eq source_name module_name) source_name kernel module_name before now out_before out_now result (subst P ((bytes_eq-Decides verb (codes "compile")).1 is) h)
runs_compile sources kernels [] before out_before now out_now result h = tt
runs_compile sources kernels (one ∷ []) before out_before now out_now result h = tt
runs_compile sources kernels (one ∷ two ∷ []) before out_before now out_now result h = tt
runs_compile sources kernels (one ∷ two ∷ three ∷ []) before out_before now out_now result h = tt
runs_compile sources kernels (one ∷ two ∷ three ∷ four ∷ five ∷ words) before out_before now out_now result h = tt

-- ---- buffers that were read

length-filled : (size : ℕ) (bytes : List ℕ) → length bytes ≤ size → length (filled size bytes) ≡ size
length-filled size bytes few =
    let all = length-append bytes (replicate (size - length bytes) 0) in
    let zeros = length-replicate {A = ℕ} (size - length bytes) 0 in
    omega (arith, all, zeros, few)

zeros_at : (n i : ℕ) → get_or (replicate n 0) i 0 < 256
zeros_at zero i = omega arith
zeros_at (suc n) zero = omega arith
zeros_at (suc n) (suc i) = zeros_at n i

padded_bytes : (bytes : List ℕ) (n : ℕ) → AreBytes bytes → AreBytes (bytes ++ replicate n 0)
padded_bytes [] n h = zeros_at n
padded_bytes (byte ∷ bytes) n h = λ i. first_or_later (λ k. padded_bytes bytes n (λ j. h (suc j)) k) (h 0) i
  where
    first_or_later : ((k : ℕ) → get_or (bytes ++ replicate n 0) k 0 < 256) → byte < 256 → (i : ℕ) → get_or (byte ∷ (bytes ++ replicate n 0)) i 0 < 256
    first_or_later later first zero = first
    first_or_later later first (suc i) = later i

pub read_size : (before : FilesState) (size : ℕ) (from to : Option (List ℕ)) (bytes : List ℕ) → IsRead before (record { size = size; from = from; to = to }) bytes → length bytes ≡ size
read_size before size None to bytes h = ap length h ∙ length-filled size [] (omega arith)
read_size before size (Some name) to bytes (file, holds, few, are, is) = ap length is ∙ length-filled size file few

read_bytes : (before : FilesState) (size : ℕ) (from to : Option (List ℕ)) (bytes : List ℕ) → IsRead before (record { size = size; from = from; to = to }) bytes → AreBytes bytes
read_bytes before size None to bytes h = subst AreBytes (sym h) (padded_bytes [] (size - 0) (λ i. omega arith))
read_bytes before size (Some name) to bytes (file, holds, few, are, is) = subst AreBytes (sym is) (padded_bytes file (size - length file) are)

pub read_sizes : (before : FilesState) (lines : List BufferLine) (buffers : List (List ℕ)) → AreRead before lines buffers → map length buffers ≡ buffer_lens lines
read_sizes before [] [] h = refl
read_sizes before [] (bytes ∷ buffers) h = absurd h
read_sizes before (line ∷ lines) [] h = absurd h
read_sizes before (line ∷ lines) (bytes ∷ buffers) h =
    ap (λ n. n ∷ map length buffers) (read_size before line.size line.from line.to bytes h.0) ∙ ap (λ ns. line.size ∷ ns) (read_sizes before lines buffers h.1)

pub all_read_bytes : (before : FilesState) (lines : List BufferLine) (buffers : List (List ℕ)) → AreRead before lines buffers → (i : ℕ) → IfSome (slice_get buffers i) AreBytes
all_read_bytes before lines [] h i = tt
all_read_bytes before [] (bytes ∷ buffers) h i = absurd h
all_read_bytes before (line ∷ lines) (bytes ∷ buffers) h zero = read_bytes before line.size line.from line.to bytes h.0
all_read_bytes before (line ∷ lines) (bytes ∷ buffers) h (suc i) = all_read_bytes before lines buffers h.1 i

-- what was read for a launch that fits is a setting
pub read_is_setting : (code : ModuleOf) (taken : List (List ℕ)) (launch : LaunchOf) (before : FilesState) (buffers : List (List ℕ)) → IsLaunch launch → fit_fault launch code.kinds taken ≡ None
    → AreRead before launch.buffers buffers → IsSetting code (zero_setting code launch buffers)
read_is_setting code taken launch before buffers valid fits read =
    zero_is_setting code launch buffers valid (fits_alone launch code.kinds taken ((no_fault_is_fit launch code.kinds taken).0 fits))
    (read_sizes before launch.buffers buffers read) (all_read_bytes before launch.buffers buffers read)

-- ---- a safe run

finished_stop : (s : Stop) → status_of (answer_of s) ≡ Done → s ≡ stop.Finished
finished_stop stop.Finished e = refl
finished_stop stop.Going e = absurd (cc)
finished_stop (stop.Broken rule k place) e = absurd (cc)

broken_stop : (s : Stop) → status_of (answer_of s) ≡ Broken → ((rule : Rule) (k place : ℕ) → s ≢ stop.Broken rule k place) → ⊥
broken_stop stop.Finished e never = cc
broken_stop stop.Going e never = cc
broken_stop (stop.Broken rule k place) e never = never rule k place refl

safe_run : (sources : Sources) (kernels : KernelsAreOne sources.compiled) (source_name source kernel : List ℕ) (code : ModuleOf) (taken : List (List ℕ)) (launch_name : List ℕ) (first before now : FilesState) (out_before out_now : SinkState) (result : Status)
    → IsMade sources.compiled source_name kernel first source code → Executed code taken launch_name before out_before now out_now result
    → Ran sources.compiled source kernel code taken launch_name before out_before now out_now result
unfolding opening_for ran
safe_run sources kernels source_name source kernel code taken launch_name first before now out_before out_now result is run = record {
  run = run;
  safe = λ k is_k turns ended safe.
      let launch : LaunchOf = launch_in run.text in
      let s : Setting = zero_setting code launch run.buffers in
      let good : IsSetting code s = read_is_setting code taken launch before run.buffers run.launch_is run.fits run.contents in
      let own : Kernel = is.faithful.kernel in
      let same : k ≡ own = kernels.one source kernel k own is_k is.faithful.is_kernel in
      let safe_own = subst (λ kk. IsSafe (kk.item launch) (items_of launch.global) run.buffers turns ended) same safe in
      let keeps : KeepsAll own code s ended = is.faithful.keeps s good tt turns ended safe_own in
      let steps : List Step = steps_of launch.schedule run.file (length (opening_of code s).qpus) in
      let end : MachineState = machine_run steps (opening_of code s) in (
        (λ e. broken_stop (stop_of end) (sym run.status ∙ e) (λ rule q place. keeps.not_broken steps rule q place)),
        (λ e. run.files ∙ ap (λ bs. option_map (stored launch.buffers bs) before.told) (keeps.exact steps (finished_stop (stop_of end) (sym run.status ∙ e)))),
      );
}

-- ---- `run`

unwritten_run : (sources : Sources) (source_name kernel module_name launch_name : List ℕ) (before now : FilesState) (out_before out_now : SinkState) (result : Status)
    → IsOutside result → (now.told ≡ before.told) ⊎ (Spoils before now module_name × (Rose before.write_faults now.write_faults ⊎ Rose before.shortages now.shortages)) → RunAnswers sources source_name kernel module_name launch_name before out_before now out_now result
unwritten_run sources source_name kernel module_name launch_name before now out_before out_now result h files = record {
  refused = λ e. absurd (outside_not result Refused not_refused h e);
  stands = inr (record { early = outside_early result h; files = files });
}

second : (one two three : List ℕ) → Contains (one ∷ two ∷ three ∷ []) two
second one two three = (1, omega arith, refl)

holds_written : (told : Option Tree) (name bytes : List ℕ) → IfSome (option_map (with_file name (Some bytes)) told) (λ tree. tree name ≡ Some bytes)
holds_written None name bytes = tt
holds_written (Some tree) name bytes = ap (λ b. cond b (Some bytes) (tree name)) ((bytes_eq-Decides name name).1 refl)

-- a write that wasn't done failed or was short of memory
write_rose : (before mid now : FilesState) (trouble : Trouble) → FilesCountsStay before mid → WriteTrouble mid now trouble → Rose before.write_faults now.write_faults ⊎ Rose before.shortages now.shortages
write_rose before mid now IsMissing counts cause = absurd cause
write_rose before mid now IsTooLong counts cause = absurd cause
write_rose before mid now IsReadFault counts cause = absurd cause
write_rose before mid now IsWriteFault counts cause = inl (let more = counts.write_faults in omega (arith, more, cause))
write_rose before mid now IsMemory counts cause = inr (let more = counts.shortages in omega (arith, more, cause))

keep_end : (sources : Sources) (kernels : KernelsAreOne sources.compiled) (source_name kernel module_name launch_name source : List ℕ) (code : ModuleOf) (before mid now : FilesState) (out_before out_now : SinkState) (result : Status)
    → FilesCountsStay before mid → mid.told ≡ before.told → IsMade sources.compiled source_name kernel before source code
    → Ends sources true (keep_plan (source_name ∷ module_name ∷ launch_name ∷ []) module_name launch_name code) mid out_before now out_now result
    → RunAnswers sources source_name kernel module_name launch_name before out_before now out_now result
unfolding keep_plan
keep_end sources kernels source_name kernel module_name launch_name source code before mid now out_before out_now result counts same is (inl h) =
    unwritten_run sources source_name kernel module_name launch_name before now out_before out_now result (short_outside result h.is) (inl (ap (λ f. f.told) h.files ∙ same))
keep_end sources kernels source_name kernel module_name launch_name source code before mid now out_before out_now result counts same is (inr (inl h)) =
    unwritten_run sources source_name kernel module_name launch_name before now out_before out_now result (says_outside out_before out_now _ h.trouble result h.says)
    (inr ((h.files.0, h.files.1 ∙ ap (option_map (with_file module_name h.files.0)) same), write_rose before mid now h.trouble counts h.cause))
keep_end sources kernels source_name kernel module_name launch_name source code before mid now out_before out_now result counts same is (inr (inr (last, wrote, ends))) =
    let taken : List (List ℕ) = source_name ∷ module_name ∷ launch_name ∷ [] in
    let bytes : List ℕ = module_bytes code in
    let write = wrote.files ∙ ap (option_map (with_file module_name (Some bytes))) same in
    let there : Holds last module_name bytes = subst (λ told. IfSome told (λ tree. tree module_name ≡ Some bytes)) (sym write) (holds_written before.told module_name bytes) in
    let said : LaunchAnswers code taken launch_name last out_before now out_now result =
    launch_answers code taken launch_name last now out_before out_now result (launch_end sources code taken launch_name last last now out_before out_now result refl ends) in
    record {
      refused = λ e. absurd (said.source_good e);
      stands = inl (record {
        source = source;
        code = code;
        made = is;
        mid = last;
        write = write;
        kept = ends_spare sources true module_name bytes (exec_launch_plan taken code launch_name) last out_before now out_now result
            (launch_spares taken module_name (second source_name module_name launch_name) code launch_name) ends there;
        ran = λ r. safe_run sources kernels source_name source kernel code taken launch_name before last now out_before out_now result is (said.run r);
        bad_launch = said.bad_launch;
        rest = ends;
      });
    }

run_answers : (sources : Sources) (kernels : KernelsAreOne sources.compiled) (source_name kernel module_name launch_name : List ℕ) (before now : FilesState) (out_before out_now : SinkState) (result : Status)
    → SourceEnd sources source_name kernel (keep_plan (source_name ∷ module_name ∷ launch_name ∷ []) module_name launch_name) before out_before now out_now result
    → RunAnswers sources source_name kernel module_name launch_name before out_before now out_now result
run_answers sources kernels source_name kernel module_name launch_name before now out_before out_now result (unmade h same) =
    unwritten_run sources source_name kernel module_name launch_name before now out_before out_now result h (inl same)
run_answers sources kernels source_name kernel module_name launch_name before now out_before out_now result (unlawful is h) = record {
  refused = λ e. h;
  stands = inr (record { early = subst IsEarly (sym is) tt; files = inl h.files });
}
run_answers sources kernels source_name kernel module_name launch_name before now out_before out_now result (made source code mid counts same is ends) =
    keep_end sources kernels source_name kernel module_name launch_name source code before mid now out_before out_now result counts same is ends

usage_run : (sources : Sources) (source_name kernel module_name launch_name : List ℕ) (before now : FilesState) (out_before out_now : SinkState) (result : Status)
    → now ≡ before → Says out_before out_now usage_line Usage result → RunAnswers sources source_name kernel module_name launch_name before out_before now out_now result
usage_run sources source_name kernel module_name launch_name before now out_before out_now result same says =
    elim (says_cases out_before out_now usage_line Usage result says) [
      | inl h ↦ unwritten_run sources source_name kernel module_name launch_name before now out_before out_now result h (inl (ap (λ f. f.told) same))
      | inr h ↦ record {
        refused = λ e. absurd (let usage : result ≡ Usage = h.0 in cc);
        stands = inr (record { early = subst IsEarly (sym h.0) tt; files = inl (ap (λ f. f.told) same) });
      }
    ]

run_names : (sources : Sources) (kernels : KernelsAreOne sources.compiled) (apart : Bool) (source_name kernel module_name launch_name : List ℕ) (before now : FilesState) (out_before out_now : SinkState) (result : Status)
    → Runs sources (cond apart (Some (run_plan source_name kernel module_name launch_name)) None) before out_before now out_now result
    → RunAnswers sources source_name kernel module_name launch_name before out_before now out_now result
unfolding run_plan
run_names sources kernels false source_name kernel module_name launch_name before now out_before out_now result h =
    usage_run sources source_name kernel module_name launch_name before now out_before out_now result h.0 h.1
run_names sources kernels true source_name kernel module_name launch_name before now out_before out_now result h =
    run_answers sources kernels source_name kernel module_name launch_name before now out_before out_now result
    (source_end sources kernels source_name kernel (keep_plan (source_name ∷ module_name ∷ launch_name ∷ []) module_name launch_name) before now out_before out_now result h)

pub runs_run : (sources : Sources) (kernels : KernelsAreOne sources.compiled) (words : List (List ℕ)) (before : FilesState) (out_before : SinkState) (now : FilesState) (out_now : SinkState) (result : Status)
    → Runs sources (plan_of words) before out_before now out_now result
    → IfRun words (λ source_name kernel module_name launch_name. RunAnswers sources source_name kernel module_name launch_name before out_before now out_now result)
unfolding plan_of
runs_run sources kernels (verb ∷ source_name ∷ kernel ∷ module_name ∷ launch_name ∷ []) before out_before now out_now result h = λ is.
    let P : Bool → Type 0 = λ b. Runs sources (cond b (cond (are_apart source_name module_name launch_name) (Some (run_plan source_name kernel module_name launch_name)) None) (cond (bytes_eq verb (codes "judge")) (judge_plan_of source_name kernel module_name launch_name) None)) before out_before now out_now result in
    run_names sources kernels (are_apart source_name module_name launch_name) source_name kernel module_name launch_name before now out_before out_now result (subst P ((bytes_eq-Decides verb (codes "run")).1 is) h)
runs_run sources kernels [] before out_before now out_now result h = tt
runs_run sources kernels (one ∷ []) before out_before now out_now result h = tt
runs_run sources kernels (one ∷ two ∷ []) before out_before now out_now result h = tt
runs_run sources kernels (one ∷ two ∷ three ∷ []) before out_before now out_now result h = tt
runs_run sources kernels (one ∷ two ∷ three ∷ four ∷ []) before out_before now out_now result h = tt
runs_run sources kernels (one ∷ two ∷ three ∷ four ∷ five ∷ six ∷ words) before out_before now out_now result h = tt
