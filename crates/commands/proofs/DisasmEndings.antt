-- A `disasm` of a file comes to its end.
use Rattle.std.proofs.Common.{◌≡◌, inl, inr, ℕ, ◌≤◌, cond, List, [], ◌∷◌, length, refl, ap, ◌∙◌, subst}
use Rattle.std.specs.Prelude.{Option, Some, None, IfSome, codes}
use Rattle.std.proofs.lemmas.Slice.Eq.{bytes_eq-Decides}
use Rattle.q_io.specs.FilesMeaning.{Tree, FilesState}
use Rattle.q_io.specs.SinkMeaning.{SinkState}
use Rattle.vc4q_module.specs.ModuleBytes.{ModuleOf, module_in, first_fault as module_fault}
use Rattle.promise.specs.Language.{Sources}
use Rattle.commands.specs.Due.{Made, due_of, AnswersAsMade, IsQuiet}
use Rattle.commands.specs.Loading.{module_limit, after_module, module_plan}
use Rattle.commands.specs.Disasm.{list_plan, disasm_plan}
use Rattle.commands.specs.DisasmClauses.{disasm_status, DisasmEnds}
use Rattle.commands.specs.Commands.{plan_of, due_for, Runs, IfDisasm}
use Rattle.commands.proofs.EndsAsDue.{told_at, due_found}
use Rattle.commands.proofs.Clauses.{if_told, runs_quiet}
use Rattle.commands.specs.declared.status.Status.{Status}

fault_status : (fault : Option ℕ) (code : ModuleOf) (tree : Tree) (all : List Made) → (due_of (after_module fault list_plan code) tree all).status ≡ disasm_status fault
fault_status None code tree all = refl
fault_status (Some place) code tree all = refl

plan_status : (module_name bytes : List ℕ) (tree : Tree) (all : List Made) → tree module_name ≡ Some bytes → length bytes ≤ module_limit
    → (due_of (disasm_plan module_name) tree all).status ≡ disasm_status (module_fault bytes)
unfolding disasm_plan module_plan
plan_status module_name bytes tree all there short =
    ap (λ due. due.status) (due_found module_name module_limit (tree module_name) bytes (λ found. due_of (after_module (module_fault found) list_plan (module_in found)) tree all) there short)
    ∙ fault_status (module_fault bytes) (module_in bytes) tree all

disasm_form : (verb module_name : List ℕ) → verb ≡ codes "disasm" → plan_of (verb ∷ module_name ∷ []) ≡ Some (disasm_plan module_name)
unfolding plan_of
disasm_form verb module_name is = ap (λ b. cond b (Some (disasm_plan module_name)) None) ((bytes_eq-Decides verb (codes "disasm")).1 is)

ends_words : (sources : Sources) (words : List (List ℕ)) (tree : Tree) (result : Status) → AnswersAsMade sources (due_for (plan_of words) tree) result
    → IfDisasm words (λ module_name. DisasmEnds module_name tree result)
ends_words sources (verb ∷ module_name ∷ []) tree result h = λ is bytes there short.
    let due : AnswersAsMade sources (due_of (disasm_plan module_name) tree) result = subst (λ plan. AnswersAsMade sources (due_for plan tree) result) (disasm_form verb module_name is) h in
    elim due.2 [ inl e ↦ inl (e ∙ plan_status module_name bytes tree due.0 there short) | inr e ↦ inr e ]
ends_words sources [] tree result h = tt
ends_words sources (one ∷ []) tree result h = tt
ends_words sources (one ∷ two ∷ three ∷ words) tree result h = tt

pub runs_disasm_ends : (sources : Sources) (words : List (List ℕ)) (before : FilesState) (out_before : SinkState) (now : FilesState) (out_now : SinkState) (result : Status)
    → Runs sources (plan_of words) before out_before now out_now result
    → IfSome before.told (λ tree. IsQuiet before out_before now out_now → IfDisasm words (λ module_name. DisasmEnds module_name tree result))
runs_disasm_ends sources words before out_before now out_now result h =
    if_told before.told _ (λ tree told quiet.
    ends_words sources words tree result
    (told_at before.told tree (λ t. IsQuiet before out_before now out_now → AnswersAsMade sources (due_for (plan_of words) t) result) told (runs_quiet sources (plan_of words) before out_before now out_now result h) quiet))
