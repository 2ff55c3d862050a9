-- What `judge` has done where it ends.
use Rattle.std.proofs.Common.{◌≡◌, inl, inr, ℕ, Bool, true, false, cond, List, [], ◌∷◌, ◌++◌, sym, ap, ◌∙◌, subst}
use Rattle.std.specs.Prelude.{Option, Some, None, option_map, IfSome, bytes_eq, codes, length, ◌≤◌, ⊤}
use Rattle.q_lane.specs.declared.kinds.Kind.{Kind}
use Rattle.q_io.specs.FilesMeaning.{FilesState, Holds}
use Rattle.q_io.specs.SinkMeaning.{SinkState}
use Rattle.launch_file.specs.declared.launch.BufferLine.{BufferLine}
use Rattle.launch_file.specs.Launches.{LaunchOf}
use Rattle.launch_file.specs.LaunchIn.{launch_in}
use Rattle.launch_file.specs.Rules.{first_fault as launch_fault}
use Rattle.launch_file.specs.Fit.{FaultAt, fit_fault}
use Rattle.launch_meaning.specs.declared.verdict.Verdict.{Verdict}
use Rattle.launch_meaning.specs.declared.verdict.Verdict.TheVariants.{Safe, Race, Bounds, Spent}
use Rattle.promise.specs.Kernel.{Meaning}
use Rattle.promise.specs.Language.{Sources}
use Rattle.commands.specs.Plan.{Understanding, IsUnderstanding, understood, refuted, MadeOf, Plan, reads, writes, makes, commits, answers, Ends, status_of}
use Rattle.commands.specs.Lines.{Says}
use Rattle.commands.specs.Buffers.{filled, read_buffer, read_buffers}
use Rattle.commands.specs.Launching.{launch_plan, after_launch, after_fit, fit_plan}
use Rattle.commands.specs.Compile.{source_limit, run_plan}
use Rattle.commands.specs.Refusals.{refused_line}
use Rattle.commands.specs.Judge.{turns_in, verdict_line, answer_to, verdict_plan, judged_plan, after_reading, meaning_plan, judged_launch_plan, judge_plan}
use Rattle.commands.specs.ExecClauses.{AreRead}
use Rattle.commands.specs.CompileClauses.{IsEarly, RefusedSource}
use Rattle.commands.specs.JudgeClauses.{IsUnderstood, HasJudged, RefusedJudgement, IsVerdictStatus, JudgeAnswers}
use Rattle.commands.specs.Commands.{plan_of, are_apart, judge_plan_of, usage_line, Runs, IfJudge}
use Rattle.commands.proofs.LaunchValid.{launch_of_text}
use Rattle.commands.proofs.ExecDone.{IsOutside, says_cases, short_outside, says_outside, buffers_end, FitEnd, unread_launch, unfit_launch, fit_launch, fitting}
use Rattle.commands.proofs.RunDone.{outside_early}
use Rattle.commands.specs.declared.status.Status.{Status}
use Rattle.commands.specs.declared.status.Status.TheVariants.{Done, Memory, Usage, ReadFault, WriteFault, Missing, TooLong, Refused, BadModule, BadLaunch, Broken, Unfinished, NotSafe}

-- ---- no file changes

-- a plan without writes
unfoldable pub WritesNone : Plan → Type 0
WritesNone (reads name limit next) = (bytes : List ℕ) → WritesNone (next bytes)
WritesNone (writes name bytes next) = ⊥
WritesNone (makes wanted next) = (made : MadeOf wanted) → WritesNone (next made)
WritesNone (commits next) = WritesNone next
WritesNone (answers answer line) = ⊤

pub keeps_files : (sources : Sources) (asks : Bool) (plan : Plan) (before : FilesState) (out_before : SinkState) (now : FilesState) (out_now : SinkState) (result : Status)
    → WritesNone plan → Ends sources asks plan before out_before now out_now result → now.told ≡ before.told
unfolding WritesNone
keeps_files sources asks (reads name limit next) before out_before now out_now result none (inl h) = ap (λ f. f.told) h.files
keeps_files sources asks (reads name limit next) before out_before now out_now result none (inr (inl h)) = h.files
keeps_files sources asks (reads name limit next) before out_before now out_now result none (inr (inr h)) =
    keeps_files sources asks (next h.0) h.1 out_before now out_now result (none h.0) h.3 ∙ h.2.files
keeps_files sources asks (writes name bytes next) before out_before now out_now result none h = absurd none
keeps_files sources asks (makes wanted next) before out_before now out_now result none (inl h) = ap (λ f. f.told) h.files
keeps_files sources asks (makes wanted next) before out_before now out_now result none (inr h) = keeps_files sources asks (next h.0) before out_before now out_now result (none h.0) h.2
keeps_files sources asks (commits next) before out_before now out_now result none (inl h) = ap (λ f. f.told) h.files
keeps_files sources asks (commits next) before out_before now out_now result none (inr h) = keeps_files sources false next before out_before now out_now result none h
keeps_files sources asks (answers answer line) before out_before now out_now result none (inl h) = ap (λ f. f.told) h.files
keeps_files sources asks (answers answer line) before out_before now out_now result none (inr h) = ap (λ f. f.told) h.0

buffer_none : (size : ℕ) (from to : Option (List ℕ)) (next : List ℕ → Plan) → ((bytes : List ℕ) → WritesNone (next bytes)) → WritesNone (read_buffer (record { size = size; from = from; to = to }) next)
unfolding WritesNone
buffer_none size None to next h = h (filled size [])
buffer_none size (Some name) to next h = λ bytes. h (filled size bytes)

buffers_none : (lines : List BufferLine) (got : List (List ℕ)) (next : List (List ℕ) → Plan) → ((buffers : List (List ℕ)) → WritesNone (next buffers)) → WritesNone (read_buffers lines got next)
buffers_none [] got next h = h got
buffers_none (line ∷ lines) got next h = buffer_none line.size line.from line.to _ (λ bytes. buffers_none lines (got ++ bytes ∷ []) next h)

judged_none : (source : List ℕ) (meaning : Meaning) (turns : ℕ) (launch : LaunchOf) → WritesNone (judged_plan source meaning turns launch)
unfolding WritesNone judged_plan verdict_plan
judged_none source meaning turns launch = buffers_none launch.buffers [] (verdict_plan source meaning turns launch) (λ buffers verdict. tt)

fit_none : (fault : Option FaultAt) (next : LaunchOf → Plan) (launch : LaunchOf) → WritesNone (next launch) → WritesNone (after_fit fault next launch)
unfolding WritesNone
fit_none None next launch h = h
fit_none (Some fault) next launch h = tt

text_none : (fault : Option (ℕ × ℕ)) (taken : List (List ℕ)) (kinds : List Kind) (next : LaunchOf → Plan) (launch : LaunchOf) → WritesNone (next launch) → WritesNone (after_launch fault taken kinds next launch)
unfolding WritesNone fit_plan
text_none None taken kinds next launch h = fit_none (fit_fault launch kinds taken) next launch h
text_none (Some fault) taken kinds next launch h = tt

reading_none : (source_name launch_name : List ℕ) (turns : ℕ) (source : List ℕ) (made : Understanding) → WritesNone (after_reading source (judged_launch_plan source_name launch_name turns source) made)
unfolding WritesNone judged_launch_plan launch_plan
reading_none source_name launch_name turns source (understood meaning) =
    λ bytes. text_none (launch_fault bytes) (source_name ∷ launch_name ∷ []) meaning.kinds (judged_plan source meaning turns) (launch_in bytes) (judged_none source meaning turns (launch_in bytes))
reading_none source_name launch_name turns source (refuted rule at) = tt

judge_none : (source_name kernel launch_name : List ℕ) (turns : ℕ) → WritesNone (judge_plan source_name kernel launch_name turns)
unfolding WritesNone judge_plan meaning_plan
judge_none source_name kernel launch_name turns = λ source made. reading_none source_name launch_name turns source made

-- ---- how it ends

data JudgeEnd (sources : Sources) (source_name kernel launch_name : List ℕ) (turns : ℕ) (before : FilesState) (out_before : SinkState) (now : FilesState) (out_now : SinkState) (result : Status) : Type 0 where
  outside : IsOutside result → JudgeEnd sources source_name kernel launch_name turns before out_before now out_now result
  unlawful : result ≡ Refused → RefusedSource sources.judged.violates_first source_name kernel before out_before now out_now → JudgeEnd sources source_name kernel launch_name turns before out_before now out_now result
  no_launch : result ≡ BadLaunch → RefusedJudgement sources.judged source_name kernel launch_name before out_before now out_now → JudgeEnd sources source_name kernel launch_name turns before out_before now out_now result
  verdict_told : HasJudged sources.judged source_name kernel launch_name turns before out_before out_now result → JudgeEnd sources source_name kernel launch_name turns before out_before now out_now result

module _ (sources : Sources) (source_name kernel launch_name : List ℕ) (turns : ℕ) (before now : FilesState) (out_before out_now : SinkState) (result : Status) where
  abbrev End : Type 0
  End = JudgeEnd sources source_name kernel launch_name turns before out_before now out_now result

  module _ (source : List ℕ) (meaning : Meaning) (is : IsUnderstood sources.judged source_name kernel before source meaning) where
    verdict_end : (text : List ℕ) (buffers : List (List ℕ)) (last : FilesState) → Holds before launch_name text → launch_fault text ≡ None
        → fit_fault (launch_in text) meaning.kinds (source_name ∷ launch_name ∷ []) ≡ None → AreRead before (launch_in text).buffers buffers
        → Ends sources true (verdict_plan source meaning turns (launch_in text) buffers) last out_before now out_now result → End
    unfolding verdict_plan
    verdict_end text buffers last holds none fit contents (inl h) = outside (short_outside result h.is)
    verdict_end text buffers last holds none fit contents (inr (verdict, is_verdict, inl h)) = outside (short_outside result h.is)
    verdict_end text buffers last holds none fit contents (inr (verdict, is_verdict, inr (kept, says))) =
        elim (says_cases out_before out_now (verdict_line source verdict) (status_of (answer_to verdict)) result says) [
          | inl h ↦ outside h
          | inr h ↦ verdict_told (record {
            source = source;
            meaning = meaning;
            text = text;
            buffers = buffers;
            verdict = verdict;
            understood = is;
            launch_file = holds;
            launch_is = (launch_of_text text none).0;
            spelling = (launch_of_text text none).1;
            no_fault = none;
            fits = fit;
            contents = contents;
            is_verdict = is_verdict;
            status = h.0;
            line = h.1;
          })
        ]

    judged_end : FitEnd sources meaning.kinds (source_name ∷ launch_name ∷ []) launch_name (judged_plan source meaning turns) before out_before now out_now result → End
    unfolding judged_plan
    judged_end (unread_launch h) = outside h
    judged_end (unfit_launch e h) = no_launch e (record { source = source; meaning = meaning; understood = is; launch = h })
    judged_end (fit_launch text last holds none fit same ends) =
        elim (buffers_end sources (launch_in text).buffers [] (verdict_plan source meaning turns (launch_in text)) before last now out_before out_now result same ends) [
          | inl h ↦ outside h
          | inr (buffers, later, told_later, contents, rest) ↦ verdict_end text buffers later holds none fit contents rest
        ]

  reading_end : (source : List ℕ) (mid : FilesState) (made : Understanding) → mid.told ≡ before.told → Holds before source_name source → length source ≤ source_limit
      → IsUnderstanding sources.judged source kernel made
      → Ends sources true (after_reading source (judged_launch_plan source_name launch_name turns source) made) mid out_before now out_now result → End
  unfolding judged_launch_plan
  reading_end source mid (understood meaning) same holds short is ends =
      judged_end source meaning (record { read = holds; short = short; means = is })
      (fitting sources meaning.kinds (source_name ∷ launch_name ∷ []) launch_name (judged_plan source meaning turns) before mid now out_before out_now result same ends)
  reading_end source mid (refuted rule at) same holds short is (inl h) = outside (short_outside result h.is)
  reading_end source mid (refuted rule at) same holds short is (inr (kept, says)) =
      elim (says_cases out_before out_now (refused_line source rule at) Refused result says) [
        | inl h ↦ outside h
        | inr h ↦ unlawful h.0 (record {
          source = source;
          rule = rule;
          at = at;
          read = holds;
          short = short;
          first = is;
          files = ap (λ f. f.told) kept ∙ same;
          line = h.1;
        })
      ]

  judge_end : Ends sources true (judge_plan source_name kernel launch_name turns) before out_before now out_now result → End
  unfolding judge_plan meaning_plan
  judge_end (inl h) = outside (short_outside result h.is)
  judge_end (inr (inl h)) = outside (says_outside out_before out_now _ h.trouble result h.says)
  judge_end (inr (inr (source, mid, read, inl h))) = outside (short_outside result h.is)
  judge_end (inr (inr (source, mid, read, inr (made, is, ends)))) = reading_end source mid made read.files read.holds read.fits is ends

  abbrev Answers : Type 0
  Answers = JudgeAnswers sources.judged source_name kernel launch_name turns before out_before now out_now result

  not_verdict : (other : Status) → result ≡ other → (IsVerdictStatus other → ⊥) → IsVerdictStatus result → ⊥
  not_verdict other e never v = never (subst IsVerdictStatus e v)

  -- the answers of a verdict are no others
  verdict_status : (verdict : Verdict) → IsVerdictStatus (status_of (answer_to verdict))
  verdict_status (Safe all buffers) = tt
  verdict_status (Race buffer byte first second) = tt
  verdict_status (Bounds item at) = tt
  verdict_status (Spent item) = tt

  outside_verdict : (status : Status) → IsOutside status → IsVerdictStatus status → ⊥
  unfolding IsOutside
  outside_verdict Memory h v = v
  outside_verdict ReadFault h v = v
  outside_verdict WriteFault h v = v
  outside_verdict Missing h v = v
  outside_verdict TooLong h v = v
  outside_verdict Usage h v = v
  outside_verdict Done h v = h
  outside_verdict Refused h v = h
  outside_verdict BadModule h v = h
  outside_verdict BadLaunch h v = h
  outside_verdict Broken h v = h
  outside_verdict Unfinished h v = h
  outside_verdict NotSafe h v = h

  outside_no : (other : Status) → (IsOutside other → ⊥) → IsOutside result → result ≡ other → ⊥
  outside_no other never h e = never (subst IsOutside e h)

  no_refused : IsOutside Refused → ⊥
  unfolding IsOutside
  no_refused h = h

  no_bad : IsOutside BadLaunch → ⊥
  unfolding IsOutside
  no_bad h = h

  judge_answers : now.told ≡ before.told → End → Answers
  judge_answers same (outside h) = record {
    judged = λ v. absurd (outside_verdict result h v);
    refused = λ e. absurd (outside_no Refused no_refused h e);
    bad_launch = λ e. absurd (outside_no BadLaunch no_bad h e);
    own = inr (inr (outside_early result h));
    files = same;
  }
  judge_answers same (unlawful is h) = record {
    judged = λ v. absurd (not_verdict Refused is (λ x. x) v);
    refused = λ e. h;
    bad_launch = λ e. absurd (cc);
    own = inr (inr (subst IsEarly (sym is) tt));
    files = same;
  }
  judge_answers same (no_launch is h) = record {
    judged = λ v. absurd (not_verdict BadLaunch is (λ x. x) v);
    refused = λ e. absurd (cc);
    bad_launch = λ e. h;
    own = inr (inl is);
    files = same;
  }
  judge_answers same (verdict_told h) =
      let v : IsVerdictStatus result = subst IsVerdictStatus (sym h.status) (verdict_status h.verdict) in
      record {
        judged = λ w. h;
        refused = λ e. absurd (subst IsVerdictStatus e v);
        bad_launch = λ e. absurd (subst IsVerdictStatus e v);
        own = inl v;
        files = same;
      }

  usage_judge : now ≡ before → Says out_before out_now usage_line Usage result → Answers
  usage_judge same says =
      elim (says_cases out_before out_now usage_line Usage result says) [
        | inl h ↦ judge_answers (ap (λ f. f.told) same) (outside h)
        | inr h ↦ record {
          judged = λ v. absurd (not_verdict Usage h.0 (λ x. x) v);
          refused = λ e. absurd (let usage : result ≡ Usage = h.0 in cc);
          bad_launch = λ e. absurd (let usage : result ≡ Usage = h.0 in cc);
          own = inr (inr (subst IsEarly (sym h.0) tt));
          files = ap (λ f. f.told) same;
        }
      ]

  judge_names : (same : Bool) → Runs sources (cond same None (Some (judge_plan source_name kernel launch_name turns))) before out_before now out_now result → Answers
  judge_names true h = usage_judge h.0 h.1
  judge_names false h =
      judge_answers (keeps_files sources true (judge_plan source_name kernel launch_name turns) before out_before now out_now result (judge_none source_name kernel launch_name turns) h)
      (judge_end h)

judge_words : (sources : Sources) (source_name kernel launch_name : List ℕ) (said : Option ℕ) (before now : FilesState) (out_before out_now : SinkState) (result : Status)
    → Runs sources (cond (bytes_eq source_name launch_name) None (option_map (judge_plan source_name kernel launch_name) said)) before out_before now out_now result
    → IfSome said (λ turns. JudgeAnswers sources.judged source_name kernel launch_name turns before out_before now out_now result)
judge_words sources source_name kernel launch_name None before now out_before out_now result h = tt
judge_words sources source_name kernel launch_name (Some turns) before now out_before out_now result h =
    judge_names sources source_name kernel launch_name turns before now out_before out_now result (bytes_eq source_name launch_name) h

pub runs_judge : (sources : Sources) (words : List (List ℕ)) (before : FilesState) (out_before : SinkState) (now : FilesState) (out_now : SinkState) (result : Status)
    → Runs sources (plan_of words) before out_before now out_now result
    → IfJudge words (λ source_name kernel launch_name turns. JudgeAnswers sources.judged source_name kernel launch_name turns before out_before now out_now result)
unfolding plan_of
runs_judge sources (verb ∷ source_name ∷ kernel ∷ launch_name ∷ word ∷ []) before out_before now out_now result h = λ is.
    let P : List ℕ → Type 0 = λ v.
    Runs sources (cond (bytes_eq v (codes "run")) (cond (are_apart source_name launch_name word) (Some (run_plan source_name kernel launch_name word)) None) (cond (bytes_eq v (codes "judge")) (judge_plan_of source_name kernel launch_name word) None)) before out_before now out_now result in
    judge_words sources source_name kernel launch_name (turns_in word) before now out_before out_now result (subst P is h)
runs_judge sources [] before out_before now out_now result h = tt
runs_judge sources (one ∷ []) before out_before now out_now result h = tt
runs_judge sources (one ∷ two ∷ []) before out_before now out_now result h = tt
runs_judge sources (one ∷ two ∷ three ∷ []) before out_before now out_now result h = tt
runs_judge sources (one ∷ two ∷ three ∷ four ∷ []) before out_before now out_now result h = tt
runs_judge sources (one ∷ two ∷ three ∷ four ∷ five ∷ six ∷ words) before out_before now out_now result h = tt
