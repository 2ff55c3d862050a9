-- A `judge` by a valid launch that fits comes to its verdict, and one of a source that violates a rule is refused.
use Rattle.std.proofs.Common.{◌≡◌, ◌≢◌, ◌⊎◌, inl, inr, ℕ, ◌≤◌, cond, List, [], ◌∷◌, length, refl, sym, ap, ◌∙◌, subst}
use Rattle.std.specs.Prelude.{Option, Some, None, option_map, IfSome, bytes_eq, codes}
use Rattle.q_io.specs.FilesMeaning.{Tree, FilesState}
use Rattle.q_io.specs.SinkMeaning.{SinkState}
use Rattle.launch_file.specs.Launches.{LaunchOf, items_of}
use Rattle.launch_file.specs.LaunchIn.{launch_in}
use Rattle.launch_file.specs.Rules.{first_fault as launch_fault}
use Rattle.launch_file.specs.Fit.{fit_fault}
use Rattle.launch_meaning.specs.declared.verdict.Verdict.{Verdict}
use Rattle.launch_meaning.specs.declared.verdict.Verdict.TheVariants.{Safe, Race, Bounds, Spent}
use Rattle.launch_meaning.specs.LaunchMeaning.{IsVerdict}
use Rattle.launch_meaning.specs.Laws.{SaySame}
use Rattle.launch_meaning.proofs.OneLaws.{one_verdict}
use Rattle.promise.specs.declared.refusal.SourceRule.{SourceRule}
use Rattle.promise.specs.Kernel.{Meaning}
use Rattle.promise.specs.Language.{Sources}
use Rattle.promise.specs.Laws.{MeaningsAreOne}
use Rattle.commands.specs.Plan.{Understanding, IsUnderstanding, understood, refuted, a_meaning, Plan, makes, status_of}
use Rattle.commands.specs.Due.{read, then_due, Made, module_made, meaning_made, verdict_made, due_of, AreMade, AnswersAsMade, IsQuiet}
use Rattle.commands.specs.Launching.{launch_limit}
use Rattle.commands.specs.Compile.{source_limit, run_plan}
use Rattle.commands.specs.Judge.{turns_in, answer_to, verdict_plan, judged_plan, after_reading, meaning_plan, judged_launch_plan, judge_plan}
use Rattle.commands.specs.ExecClauses.{AreRead}
use Rattle.commands.specs.JudgeClauses.{JudgeEnds, JudgeRefuses}
use Rattle.commands.specs.Commands.{plan_of, are_apart, judge_plan_of, due_for, Runs, IfJudge}
use Rattle.commands.proofs.EndsAsDue.{told_at, due_found}
use Rattle.commands.proofs.Clauses.{if_told, runs_quiet}
use Rattle.commands.proofs.Continuing.{onward, past_read, buffers_continue, launch_continues}
use Rattle.commands.proofs.Endings.{is_other}
use Rattle.commands.specs.declared.status.Status.{Status}
use Rattle.commands.specs.declared.status.Status.TheVariants.{Memory, Refused}

-- what is due of a source that is read
meaning_due : (source_name kernel source : List ℕ) (next : List ℕ → Meaning → Plan) (tree : Tree) (all : List Made)
    → tree source_name ≡ Some source → length source ≤ source_limit
    → due_of (meaning_plan source_name kernel next) tree all ≡ then_due (read source_name) (due_of (makes (a_meaning source kernel) (after_reading source (next source))) tree all)
unfolding meaning_plan
meaning_due source_name kernel source next tree all there short =
    due_found source_name source_limit (tree source_name) source (λ bytes. due_of (makes (a_meaning bytes kernel) (after_reading bytes (next bytes))) tree all) there short

-- verdicts that say the same have one answer
same_answer : (v w : Verdict) → SaySame v w → answer_to v ≡ answer_to w
same_answer (Safe all after) (Safe all' after') e = refl
same_answer (Safe all after) (Race buffer byte first second) e = absurd (cc)
same_answer (Safe all after) (Bounds item at) e = absurd (cc)
same_answer (Safe all after) (Spent item) e = absurd (cc)
same_answer (Race buffer byte first second) w e = ap answer_to e
same_answer (Bounds item at) w e = ap answer_to e
same_answer (Spent item) w e = ap answer_to e

-- what is wanted is due, or memory is wanting
abbrev DueOrShort : Status → Status → Type 0
DueOrShort wanted status = (status ≡ wanted) ⊎ (status ≡ Memory)

as_due : (wanted status result : Status) → DueOrShort wanted status → (result ≡ status) ⊎ (result ≡ Memory) → (result ≡ wanted) ⊎ (result ≡ Memory)
as_due wanted status result (inl d) (inl e) = inl (e ∙ d)
as_due wanted status result (inr m) (inl e) = inr (e ∙ m)
as_due wanted status result due (inr e) = inr e

module _ (sources : Sources) (meanings : MeaningsAreOne sources.judged) where
  module _ (source : List ℕ) (meaning : Meaning) (turns : ℕ) (launch : LaunchOf) (buffers : List (List ℕ)) (verdict : Verdict) (is_verdict : IsVerdict (meaning.item launch) (items_of launch.global) buffers turns verdict) (tree : Tree) where
    -- the verdict that is made is the verdict
    verdict_due : (all : List Made) → AreMade sources (due_of (verdict_plan source meaning turns launch buffers) tree all).places
        → DueOrShort (status_of (answer_to verdict)) (due_of (verdict_plan source meaning turns launch buffers) tree all).status
    unfolding verdict_plan
    verdict_due [] made = inr refl
    verdict_due (module_made other ∷ all) made = inr refl
    verdict_due (meaning_made other ∷ all) made = inr refl
    verdict_due (verdict_made other ∷ all) made = inl (ap status_of (same_answer other verdict (one_verdict (meaning.item launch) (items_of launch.global) buffers turns other verdict made.0 is_verdict)))

  module _ (source_name kernel launch_name source text : List ℕ) (meaning : Meaning) (turns : ℕ) (buffers : List (List ℕ)) (verdict : Verdict) (before : FilesState) (tree : Tree) (told : before.told ≡ Some tree) (there : tree source_name ≡ Some source) (short : length source ≤ source_limit) (means : sources.judged.means source kernel meaning) (launch_there : tree launch_name ≡ Some text) (launch_short : length text ≤ launch_limit) (lawful : launch_fault text ≡ None) (fits : fit_fault (launch_in text) meaning.kinds (source_name ∷ launch_name ∷ []) ≡ None) (contents : AreRead before (launch_in text).buffers buffers) (is_verdict : IsVerdict (meaning.item (launch_in text)) (items_of (launch_in text).global) buffers turns verdict) where
    abbrev wanted : Status
    wanted = status_of (answer_to verdict)

    abbrev next : List ℕ → Meaning → Plan
    next = judged_launch_plan source_name launch_name turns

    launch_status : (all : List Made) → AreMade sources (due_of (next source meaning) tree all).places → DueOrShort wanted (due_of (next source meaning) tree all).status
    unfolding judged_launch_plan judged_plan
    launch_status all made =
        let launch : LaunchOf = launch_in text in
        let on = onward sources _ _ _
        (launch_continues sources (source_name ∷ launch_name ∷ []) meaning.kinds launch_name text (judged_plan source meaning turns) tree all launch_there launch_short lawful fits)
        (buffers_continue sources launch.buffers [] buffers (verdict_plan source meaning turns launch) before tree all told contents) in
        subst (DueOrShort wanted) (sym on.status) (verdict_due source meaning turns launch buffers verdict is_verdict tree all (on.made made))

    reading_status : (made : Understanding) (all : List Made) → IsUnderstanding sources.judged source kernel made → AreMade sources (due_of (after_reading source (next source) made) tree all).places
        → DueOrShort wanted (due_of (after_reading source (next source) made) tree all).status
    reading_status (understood other) all is are_made =
        let same : meaning ≡ other = meanings.one source kernel meaning other means is in
        subst (λ m. DueOrShort wanted (due_of (next source m) tree all).status) same (launch_status all (subst (λ m. AreMade sources (due_of (next source m) tree all).places) (sym same) are_made))
    reading_status (refuted rule at) all is are_made = absurd (meanings.none source kernel meaning rule at means is)

    made_status : (all : List Made) → AreMade sources (due_of (makes (a_meaning source kernel) (after_reading source (next source))) tree all).places
        → DueOrShort wanted (due_of (makes (a_meaning source kernel) (after_reading source (next source))) tree all).status
    made_status [] made = inr refl
    made_status (module_made other ∷ all) made = inr refl
    made_status (meaning_made reading ∷ all) made = reading_status reading all made.0 made.1
    made_status (verdict_made other ∷ all) made = inr refl

    judge_status : (result : Status) → AnswersAsMade sources (due_of (judge_plan source_name kernel launch_name turns) tree) result → (result ≡ wanted) ⊎ (result ≡ Memory)
    unfolding judge_plan
    judge_status result (all, made, answer) =
        let on = past_read sources source_name _ _ (meaning_due source_name kernel source next tree all there short) in
        as_due wanted _ result (subst (DueOrShort wanted) (sym on.status) (made_status all (on.made made))) answer

  module _ (source_name kernel source : List ℕ) (rule : SourceRule) (at : ℕ) (first : sources.judged.violates_first source kernel rule at) (next : List ℕ → Meaning → Plan) (tree : Tree) where
    refused_reading : (made : Understanding) (all : List Made) → IsUnderstanding sources.judged source kernel made → (due_of (after_reading source (next source) made) tree all).status ≡ Refused
    refused_reading (understood meaning) all is = absurd (meanings.none source kernel meaning rule at is first)
    refused_reading (refuted other place) all is = refl

    refused_made : (all : List Made) → AreMade sources (due_of (makes (a_meaning source kernel) (after_reading source (next source))) tree all).places
        → DueOrShort Refused (due_of (makes (a_meaning source kernel) (after_reading source (next source))) tree all).status
    refused_made [] made = inr refl
    refused_made (module_made other ∷ all) made = inr refl
    refused_made (meaning_made reading ∷ all) made = inl (refused_reading reading all made.0)
    refused_made (verdict_made other ∷ all) made = inr refl

    source_refused : (result : Status) → tree source_name ≡ Some source → length source ≤ source_limit → AnswersAsMade sources (due_of (meaning_plan source_name kernel next) tree) result
        → (result ≡ Refused) ⊎ (result ≡ Memory)
    source_refused result there short (all, made, answer) =
        let on = past_read sources source_name _ _ (meaning_due source_name kernel source next tree all there short) in
        as_due Refused _ result (subst (DueOrShort Refused) (sym on.status) (refused_made all (on.made made))) answer

-- ---- the words

judge_form : (verb source_name kernel launch_name word : List ℕ) → verb ≡ codes "judge" → source_name ≢ launch_name
    → plan_of (verb ∷ source_name ∷ kernel ∷ launch_name ∷ word ∷ []) ≡ option_map (judge_plan source_name kernel launch_name) (turns_in word)
unfolding plan_of
judge_form verb source_name kernel launch_name word is apart =
    ap (λ v. cond (bytes_eq v (codes "run")) (cond (are_apart source_name launch_name word) (Some (run_plan source_name kernel launch_name word)) None) (cond (bytes_eq v (codes "judge")) (judge_plan_of source_name kernel launch_name word) None)) is
    ∙ ap (λ b. cond b None (option_map (judge_plan source_name kernel launch_name) (turns_in word))) (is_other source_name launch_name apart)

-- what is due of a plan that the words have
of_plan : (sources : Sources) (plan : Option Plan) (said : Option ℕ) (form : ℕ → Plan) (turns : ℕ) (tree : Tree) (result : Status) → plan ≡ option_map form said → said ≡ Some turns
    → AnswersAsMade sources (due_for plan tree) result → AnswersAsMade sources (due_of (form turns) tree) result
of_plan sources plan said form turns tree result is says h =
    subst (λ p. AnswersAsMade sources (due_for p tree) result) (is ∙ ap (option_map form) says) h

ends_words : (sources : Sources) (meanings : MeaningsAreOne sources.judged) (words : List (List ℕ)) (before : FilesState) (tree : Tree) (result : Status) → before.told ≡ Some tree
    → AnswersAsMade sources (due_for (plan_of words) tree) result
    → IfJudge words (λ source_name kernel launch_name turns. JudgeEnds sources.judged source_name kernel launch_name turns tree before result)
ends_words sources meanings (verb ∷ source_name ∷ kernel ∷ launch_name ∷ word ∷ []) before tree result told h = λ is. said_ends (turns_in word) refl is
  where
    said_ends : (said : Option ℕ) → turns_in word ≡ said → verb ≡ codes "judge" → IfSome said (λ turns. JudgeEnds sources.judged source_name kernel launch_name turns tree before result)
    said_ends None says is = tt
    said_ends (Some turns) says is = λ source text meaning buffers verdict apart there short means launch_there launch_short lawful fits contents is_verdict.
        judge_status sources meanings source_name kernel launch_name source text meaning turns buffers verdict before tree told there short means launch_there launch_short lawful fits contents is_verdict result
        (of_plan sources (plan_of (verb ∷ source_name ∷ kernel ∷ launch_name ∷ word ∷ [])) (turns_in word) (judge_plan source_name kernel launch_name) turns tree result (judge_form verb source_name kernel launch_name word is apart) says h)
ends_words sources meanings [] before tree result told h = tt
ends_words sources meanings (one ∷ []) before tree result told h = tt
ends_words sources meanings (one ∷ two ∷ []) before tree result told h = tt
ends_words sources meanings (one ∷ two ∷ three ∷ []) before tree result told h = tt
ends_words sources meanings (one ∷ two ∷ three ∷ four ∷ []) before tree result told h = tt
ends_words sources meanings (one ∷ two ∷ three ∷ four ∷ five ∷ six ∷ words) before tree result told h = tt

refuses_words : (sources : Sources) (meanings : MeaningsAreOne sources.judged) (words : List (List ℕ)) (tree : Tree) (result : Status)
    → AnswersAsMade sources (due_for (plan_of words) tree) result
    → IfJudge words (λ source_name kernel launch_name turns. JudgeRefuses sources.judged source_name kernel launch_name tree result)
unfolding judge_plan
refuses_words sources meanings (verb ∷ source_name ∷ kernel ∷ launch_name ∷ word ∷ []) tree result h = λ is. said_refuses (turns_in word) refl is
  where
    said_refuses : (said : Option ℕ) → turns_in word ≡ said → verb ≡ codes "judge" → IfSome said (λ turns. JudgeRefuses sources.judged source_name kernel launch_name tree result)
    said_refuses None says is = tt
    said_refuses (Some turns) says is = λ source rule at apart there short first.
        source_refused sources meanings source_name kernel source rule at first (judged_launch_plan source_name launch_name turns) tree result there short
        (of_plan sources (plan_of (verb ∷ source_name ∷ kernel ∷ launch_name ∷ word ∷ [])) (turns_in word) (judge_plan source_name kernel launch_name) turns tree result (judge_form verb source_name kernel launch_name word is apart) says h)
refuses_words sources meanings [] tree result h = tt
refuses_words sources meanings (one ∷ []) tree result h = tt
refuses_words sources meanings (one ∷ two ∷ []) tree result h = tt
refuses_words sources meanings (one ∷ two ∷ three ∷ []) tree result h = tt
refuses_words sources meanings (one ∷ two ∷ three ∷ four ∷ []) tree result h = tt
refuses_words sources meanings (one ∷ two ∷ three ∷ four ∷ five ∷ six ∷ words) tree result h = tt

pub runs_judge_ends : (sources : Sources) (meanings : MeaningsAreOne sources.judged) (words : List (List ℕ)) (before : FilesState) (out_before : SinkState) (now : FilesState) (out_now : SinkState) (result : Status)
    → Runs sources (plan_of words) before out_before now out_now result
    → IfSome before.told (λ tree. IsQuiet before out_before now out_now
    → IfJudge words (λ source_name kernel launch_name turns. JudgeEnds sources.judged source_name kernel launch_name turns tree before result))
runs_judge_ends sources meanings words before out_before now out_now result h =
    if_told before.told _ (λ tree told quiet.
    ends_words sources meanings words before tree result told
    (told_at before.told tree (λ t. IsQuiet before out_before now out_now → AnswersAsMade sources (due_for (plan_of words) t) result) told (runs_quiet sources (plan_of words) before out_before now out_now result h) quiet))

pub runs_judge_refuses : (sources : Sources) (meanings : MeaningsAreOne sources.judged) (words : List (List ℕ)) (before : FilesState) (out_before : SinkState) (now : FilesState) (out_now : SinkState) (result : Status)
    → Runs sources (plan_of words) before out_before now out_now result
    → IfSome before.told (λ tree. IsQuiet before out_before now out_now
    → IfJudge words (λ source_name kernel launch_name turns. JudgeRefuses sources.judged source_name kernel launch_name tree result))
runs_judge_refuses sources meanings words before out_before now out_now result h =
    if_told before.told _ (λ tree told quiet.
    refuses_words sources meanings words tree result
    (told_at before.told tree (λ t. IsQuiet before out_before now out_now → AnswersAsMade sources (due_for (plan_of words) t) result) told (runs_quiet sources (plan_of words) before out_before now out_now result h) quiet))
