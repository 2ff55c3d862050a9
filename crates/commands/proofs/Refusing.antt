-- A `compile` and a `run` of a source that violates a rule are refused.
use Rattle.std.proofs.Common.{◌≡◌, ◌⊎◌, inl, inr, ℕ, ◌≤◌, List, [], ◌∷◌, length, refl, ap, ◌∙◌, subst}
use Rattle.std.specs.Prelude.{Some, IfSome}
use Rattle.q_io.specs.FilesMeaning.{Tree, FilesState}
use Rattle.q_io.specs.SinkMeaning.{SinkState}
use Rattle.vc4q_module.specs.ModuleBytes.{ModuleOf}
use Rattle.promise.specs.declared.refusal.SourceRule.{SourceRule}
use Rattle.commands.specs.Plan.{Compilation, IsCompilation, compiled, violated, Plan}
use Rattle.commands.specs.Due.{Made, module_made, meaning_made, verdict_made, due_of, AreMade, AnswersAsMade, IsQuiet}
use Rattle.commands.specs.Compile.{source_limit, after_source, source_plan, store_plan, compile_plan, keep_plan, run_plan}
use Rattle.commands.specs.CompileClauses.{CompileRefuses, RunRefuses}
use Rattle.commands.specs.Commands.{plan_of, due_for, Runs, IfCompile, IfRun}
use Rattle.commands.proofs.EndsAsDue.{told_at}
use Rattle.commands.proofs.Clauses.{if_told, runs_quiet}
use Rattle.commands.proofs.Endings.{source_due, compile_form, run_form}
use Rattle.commands.specs.declared.status.Status.{Status}
use Rattle.commands.specs.declared.status.Status.TheVariants.{Memory, Refused}
use Rattle.promise.specs.Language.{Sources}
use Rattle.promise.specs.Laws.{HasOneViolation, KernelsAreOne}

module _ (sources : Sources) (kernels : KernelsAreOne sources.compiled) (violations : HasOneViolation sources.compiled) (source kernel : List ℕ) (rule : SourceRule) (at : ℕ) (first : sources.compiled.violates_first source kernel rule at) (next : ModuleOf → Plan) (tree : Tree) where
  -- no module is made of the source
  refused_status : (made : Compilation) (more : List Made) → IsCompilation sources.compiled source kernel made → (due_of (after_source source next made) tree more).status ≡ Refused
  refused_status (compiled code) more is = absurd (violations.none source kernel rule at (kernels.lawful source kernel is.1.kernel is.1.is_kernel) first)
  refused_status (violated other place) more is = refl

  source_refused : (source_name : List ℕ) (all : List Made) (result : Status) → tree source_name ≡ Some source → length source ≤ source_limit
      → AreMade sources (due_of (source_plan source_name kernel next) tree all).places
      → (result ≡ (due_of (source_plan source_name kernel next) tree all).status) ⊎ (result ≡ Memory) → (result ≡ Refused) ⊎ (result ≡ Memory)
  source_refused source_name all result there short are_made (inr e) = inr e
  source_refused source_name [] result there short are_made (inl e) = inr (e ∙ ap (λ due. due.status) (source_due source_name kernel source next tree [] there short))
  source_refused source_name (module_made made ∷ more) result there short are_made (inl e) =
      let is = source_due source_name kernel source next tree (module_made made ∷ more) there short in
      let own : IsCompilation sources.compiled source kernel made × AreMade sources (due_of (after_source source next made) tree more).places = subst (λ due. AreMade sources due.places) is are_made in
      inl (e ∙ ap (λ due. due.status) is ∙ refused_status made more own.0)
  source_refused source_name (meaning_made made ∷ more) result there short are_made (inl e) =
      inr (e ∙ ap (λ due. due.status) (source_due source_name kernel source next tree (meaning_made made ∷ more) there short))
  source_refused source_name (verdict_made made ∷ more) result there short are_made (inl e) =
      inr (e ∙ ap (λ due. due.status) (source_due source_name kernel source next tree (verdict_made made ∷ more) there short))

compile_words : (sources : Sources) (kernels : KernelsAreOne sources.compiled) (violations : HasOneViolation sources.compiled) (words : List (List ℕ)) (tree : Tree) (result : Status) → AnswersAsMade sources (due_for (plan_of words) tree) result
    → IfCompile words (λ source_name kernel module_name. CompileRefuses sources.compiled source_name kernel module_name tree result)
unfolding compile_plan
compile_words sources kernels violations (verb ∷ source_name ∷ kernel ∷ module_name ∷ []) tree result h = λ is source rule at apart there short first.
    let due : AnswersAsMade sources (due_of (compile_plan source_name kernel module_name) tree) result =
    subst (λ plan. AnswersAsMade sources (due_for plan tree) result) (compile_form verb source_name kernel module_name is apart) h in
    source_refused sources kernels violations source kernel rule at first (store_plan module_name) tree source_name due.0 result there short due.1 due.2
compile_words sources kernels violations [] tree result h = tt
compile_words sources kernels violations (one ∷ []) tree result h = tt
compile_words sources kernels violations (one ∷ two ∷ []) tree result h = tt
compile_words sources kernels violations (one ∷ two ∷ three ∷ []) tree result h = tt
compile_words sources kernels violations (one ∷ two ∷ three ∷ four ∷ five ∷ words) tree result h = tt

pub runs_compile_refuses : (sources : Sources) (kernels : KernelsAreOne sources.compiled) (violations : HasOneViolation sources.compiled) (words : List (List ℕ)) (before : FilesState) (out_before : SinkState) (now : FilesState) (out_now : SinkState) (result : Status)
    → Runs sources (plan_of words) before out_before now out_now result
    → IfSome before.told (λ tree. IsQuiet before out_before now out_now → IfCompile words (λ source_name kernel module_name. CompileRefuses sources.compiled source_name kernel module_name tree result))
runs_compile_refuses sources kernels violations words before out_before now out_now result h =
    if_told before.told _ (λ tree told quiet.
    compile_words sources kernels violations words tree result
    (told_at before.told tree (λ t. IsQuiet before out_before now out_now → AnswersAsMade sources (due_for (plan_of words) t) result) told (runs_quiet sources (plan_of words) before out_before now out_now result h) quiet))

run_words : (sources : Sources) (kernels : KernelsAreOne sources.compiled) (violations : HasOneViolation sources.compiled) (words : List (List ℕ)) (tree : Tree) (result : Status) → AnswersAsMade sources (due_for (plan_of words) tree) result
    → IfRun words (λ source_name kernel module_name launch_name. RunRefuses sources.compiled source_name kernel module_name launch_name tree result)
unfolding run_plan
run_words sources kernels violations (verb ∷ source_name ∷ kernel ∷ module_name ∷ launch_name ∷ []) tree result h = λ is source rule at one two three there short first.
    let due : AnswersAsMade sources (due_of (run_plan source_name kernel module_name launch_name) tree) result =
    subst (λ plan. AnswersAsMade sources (due_for plan tree) result) (run_form verb source_name kernel module_name launch_name is one two three) h in
    source_refused sources kernels violations source kernel rule at first (keep_plan (source_name ∷ module_name ∷ launch_name ∷ []) module_name launch_name) tree source_name due.0 result there short due.1 due.2
run_words sources kernels violations [] tree result h = tt
run_words sources kernels violations (one ∷ []) tree result h = tt
run_words sources kernels violations (one ∷ two ∷ []) tree result h = tt
run_words sources kernels violations (one ∷ two ∷ three ∷ []) tree result h = tt
run_words sources kernels violations (one ∷ two ∷ three ∷ four ∷ []) tree result h = tt
run_words sources kernels violations (one ∷ two ∷ three ∷ four ∷ five ∷ six ∷ words) tree result h = tt

pub runs_run_refuses : (sources : Sources) (kernels : KernelsAreOne sources.compiled) (violations : HasOneViolation sources.compiled) (words : List (List ℕ)) (before : FilesState) (out_before : SinkState) (now : FilesState) (out_now : SinkState) (result : Status)
    → Runs sources (plan_of words) before out_before now out_now result
    → IfSome before.told (λ tree. IsQuiet before out_before now out_now → IfRun words (λ source_name kernel module_name launch_name. RunRefuses sources.compiled source_name kernel module_name launch_name tree result))
runs_run_refuses sources kernels violations words before out_before now out_now result h =
    if_told before.told _ (λ tree told quiet.
    run_words sources kernels violations words tree result
    (told_at before.told tree (λ t. IsQuiet before out_before now out_now → AnswersAsMade sources (due_for (plan_of words) t) result) told (runs_quiet sources (plan_of words) before out_before now out_now result h) quiet))
