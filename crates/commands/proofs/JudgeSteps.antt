-- A source that was read and understood, as steps of a run of its plan.
use Rattle.std.proofs.Common.{◌≡◌, inl, inr, true, ℕ, List, refl}
use Rattle.q_io.specs.FilesMeaning.{FilesState}
use Rattle.q_io.specs.SinkMeaning.{SinkState}
use Rattle.promise.specs.declared.refusal.SourceRule.{SourceRule}
use Rattle.promise.specs.declared.refusal.Refusal.{Refusal}
use Rattle.promise.specs.declared.refusal.Refusal.TheVariants.{Rule, Memory}
use Rattle.promise.specs.Kernel.{Meaning}
use Rattle.promise.specs.Language.{Sources}
use Rattle.commands.specs.Plan.{understood, refuted, Plan, HasRead, Ends, Leads}
use Rattle.commands.specs.Compile.{source_limit, RefusesSource}
use Rattle.commands.specs.Judge.{meaning_plan}
use Rattle.commands.specs.declared.status.Status.{Status}

module _ (sources : Sources) (source_name kernel source : List ℕ) (next : List ℕ → Meaning → Plan) (before mid : FilesState) (out : SinkState) (read : HasRead before mid source_name source_limit source) where
  pub source_understood : (meaning : Meaning) → sources.judged.means source kernel meaning → Leads sources true (meaning_plan source_name kernel next) before out (next source meaning) mid out
  unfolding meaning_plan
  source_understood meaning is = λ now out_now result ends. inr (inr (source, mid, read, inr (understood meaning, is, ends)))

  pub source_refuted : (refusal : Refusal) (out_now : SinkState) (result : Status) → ((rule : SourceRule) (at : ℕ) → refusal ≡ Rule rule at → sources.judged.violates_first source kernel rule at)
      → RefusesSource source refusal out out_now result → Ends sources true (meaning_plan source_name kernel next) before out mid out_now result
  unfolding meaning_plan
  source_refuted (Rule rule at) out_now result told says = inr (inr (source, mid, read, inr (refuted rule at, told rule at refl, inr (refl, says))))
  source_refuted Memory out_now result told says = inr (inr (source, mid, read, inl (record { may = refl; is = says.1; files = refl; out = says.0 })))
