-- What `disasm` has done where it ends.
use Rattle.std.proofs.Common.{◌≡◌, inl, inr, ℕ, Bool, true, cond, List, [], ◌∷◌, subst}
use Rattle.std.specs.Prelude.{Option, Some, None, codes}
use Rattle.std.proofs.lemmas.Slice.Eq.{bytes_eq-Decides}
use Rattle.q_io.specs.FilesMeaning.{FilesState}
use Rattle.q_io.specs.SinkMeaning.{SinkState}
use Rattle.vc4q_module.specs.ModuleBytes.{ModuleOf, module_in, first_fault as module_fault}
use Rattle.promise.specs.Language.{Sources}
use Rattle.commands.specs.Plan.{Ends}
use Rattle.commands.specs.Loading.{after_module, module_plan}
use Rattle.commands.specs.Disasm.{listing, list_plan, disasm_plan}
use Rattle.commands.specs.DisasmClauses.{DisasmAnswers}
use Rattle.commands.specs.Commands.{plan_of, Runs, IfDisasm}
use Rattle.commands.proofs.ExecDone.{IsOutside, says_cases, short_outside, ModuleEnd, unread_module, unfit_module, loaded, loading}
use Rattle.commands.proofs.RunDone.{outside_early, outside_not}
use Rattle.commands.proofs.JudgeDone.{WritesNone, keeps_files}
use Rattle.commands.specs.declared.status.Status.{Status}
use Rattle.commands.specs.declared.status.Status.TheVariants.{Done, Refused, BadModule}

-- ---- no file changes

module_none : (fault : Option ℕ) (code : ModuleOf) → WritesNone (after_module fault list_plan code)
unfolding WritesNone
module_none None code = tt
module_none (Some place) code = tt

disasm_none : (module_name : List ℕ) → WritesNone (disasm_plan module_name)
unfolding WritesNone disasm_plan module_plan
disasm_none module_name = λ bytes. module_none (module_fault bytes) (module_in bytes)

-- ---- how it ends

no_done : IsOutside Done → ⊥
unfolding IsOutside
no_done h = h

no_bad : IsOutside BadModule → ⊥
unfolding IsOutside
no_bad h = h

no_refused : IsOutside Refused → ⊥
unfolding IsOutside
no_refused h = h

module _ (sources : Sources) (module_name : List ℕ) (before now : FilesState) (out_before out_now : SinkState) (result : Status) where
  abbrev Answers : Type 0
  Answers = DisasmAnswers module_name before out_before now out_now result

  outside_answers : now.told ≡ before.told → IsOutside result → Answers
  outside_answers same h = record {
    listed = λ e. absurd (outside_not result Done no_done h e);
    bad_module = λ e. absurd (outside_not result BadModule no_bad h e);
    own = inr (inr (outside_early result h, outside_not result Refused no_refused h));
    files = same;
  }

  disasm_answers : now.told ≡ before.told → ModuleEnd sources module_name list_plan before out_before now out_now result → Answers
  disasm_answers same (unread_module h) = outside_answers same h
  disasm_answers same (unfit_module is h) = record {
    listed = λ e. absurd (cc);
    bad_module = λ e. h;
    own = inr (inl is);
    files = same;
  }
  disasm_answers same (loaded code last is told (inl h)) = outside_answers same (short_outside result h.is)
  disasm_answers same (loaded code last is told (inr (kept, says))) =
      elim (says_cases out_before out_now (listing code.words) Done result says) [
        | inl h ↦ outside_answers same h
        | inr h ↦ record {
          listed = λ e. record { code = code; is_read = is; lines = h.1 };
          bad_module = λ e. absurd (let done : result ≡ Done = h.0 in cc);
          own = inl h.0;
          files = same;
        }
      ]

  disasm_end : Ends sources true (disasm_plan module_name) before out_before now out_now result → Answers
  unfolding disasm_plan
  disasm_end h =
      disasm_answers (keeps_files sources true (disasm_plan module_name) before out_before now out_now result (disasm_none module_name) h)
      (loading sources module_name list_plan before now out_before out_now result h)

pub runs_disasm : (sources : Sources) (words : List (List ℕ)) (before : FilesState) (out_before : SinkState) (now : FilesState) (out_now : SinkState) (result : Status)
    → Runs sources (plan_of words) before out_before now out_now result
    → IfDisasm words (λ module_name. DisasmAnswers module_name before out_before now out_now result)
unfolding plan_of
runs_disasm sources (verb ∷ module_name ∷ []) before out_before now out_now result h = λ is.
    let P : Bool → Type 0 = λ b. Runs sources (cond b (Some (disasm_plan module_name)) None) before out_before now out_now result in
    disasm_end sources module_name before now out_before out_now result (subst P ((bytes_eq-Decides verb (codes "disasm")).1 is) h)
runs_disasm sources [] before out_before now out_now result h = tt
runs_disasm sources (one ∷ []) before out_before now out_now result h = tt
runs_disasm sources (one ∷ two ∷ three ∷ words) before out_before now out_now result h = tt
