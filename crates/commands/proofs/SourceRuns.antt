-- A source that was read and compiled, as steps of a run of its plan.
use Rattle.std.proofs.Common.{◌≡◌, inl, inr, true, ℕ, List, refl}
use Rattle.std.specs.Prelude.{Err, Result}
use Rattle.q_io.specs.FilesMeaning.{FilesState}
use Rattle.q_io.specs.SinkMeaning.{SinkState}
use Rattle.vc4q_module.specs.ModuleBytes.{ModuleOf, IsModule}
use Rattle.promise.specs.declared.refusal.SourceRule.{SourceRule}
use Rattle.promise.specs.declared.refusal.Refusal.{Refusal}
use Rattle.promise.specs.declared.refusal.Refusal.TheVariants.{Rule, Memory}
use Rattle.commands.specs.Plan.{compiled, violated, Plan, HasRead, Ends, Leads}
use Rattle.commands.specs.Compile.{source_limit, source_plan, RefusesSource}
use Rattle.commands.specs.declared.status.Status.{Status}
use Rattle.promise.specs.Language.{Sources}
use Rattle.promise.specs.Faithful.{IsFaithful}

module _ (sources : Sources) (source_name kernel source : List ℕ) (next : ModuleOf → Plan) (before mid : FilesState) (out : SinkState) where
  pub source_compiled : (code : ModuleOf) → HasRead before mid source_name source_limit source → IsModule code → IsFaithful sources.compiled source kernel code
      → Leads sources true (source_plan source_name kernel next) before out (next code) mid out
  unfolding source_plan
  source_compiled code read valid faithful = λ now out_now result ends. inr (inr (source, mid, read, inr (compiled code, (valid, faithful), ends)))

  pub source_refused : (refusal : Refusal) (out_now : SinkState) (result : Status) → HasRead before mid source_name source_limit source
      → ((rule : SourceRule) (at : ℕ) → ◌≡◌ {A = Result ModuleOf Refusal} (Err refusal) (Err (Rule rule at)) → sources.compiled.violates_first source kernel rule at)
      → RefusesSource source refusal out out_now result → Ends sources true (source_plan source_name kernel next) before out mid out_now result
  unfolding source_plan
  source_refused (Rule rule at) out_now result read told says = inr (inr (source, mid, read, inr (violated rule at, told rule at refl, inr (refl, says))))
  source_refused Memory out_now result read told says = inr (inr (source, mid, read, inl (record { may = refl; is = says.1; files = refl; out = says.0 })))
