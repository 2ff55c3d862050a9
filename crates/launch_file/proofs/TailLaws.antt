-- What the lines after the head do to the first fault.
use Rattle.std.proofs.Common.{◌≡◌, ℕ, ◌+◌, ◌*◌, ◌≤◌, ◌<◌, Bool, true, false, cond, List, [], ◌∷◌, ◌++◌, length, Option, Some, None, sym, refl, ap, ◌∙◌, subst, arith, append_assoc, append-nil}
use Rattle.std.specs.Prelude.{is_some}
use Rattle.launch_file.specs.declared.launch.BufferLine.{BufferLine}
use Rattle.launch_file.specs.declared.launch.Arg.{Arg}
use Rattle.launch_file.specs.declared.launch.Schedule.{Schedule}
use Rattle.launch_file.specs.declared.body.Body.{Body}
use Rattle.launch_file.specs.LineText.{Line, line_of}
use Rattle.launch_file.specs.Rules.{least_rule, fault_in, fault_from, is_whole, first_fault}
use Rattle.launch_file.specs.LaunchText.{head_lines, lines_text}
use Rattle.launch_file.specs.LaunchIn.{lines_in}
use Rattle.launch_file.specs.Reading.{Follows, Leads, lines_after, body_lines}
use Rattle.launch_file.specs.HeadReading.{Onward}
use Rattle.launch_file.proofs.BodyLaws.{any_schedule}
use Rattle.launch_file.proofs.LineSteps.{leads_on, no_end}

-- a line that is taken leads on
pub onward : (old new : Body) (rest left : List ℕ) (line : Line) → Follows rest line left → body_lines new ≡ body_lines old ++ line ∷ [] → ((qpus : ℕ) (global local : List ℕ) → least_rule (head_lines qpus global local ++ body_lines old) (Some line) ≡ None) → Onward old rest new left
onward old new rest left line f e none qpus global local bytes l =
    subst (λ (xs : List Line). Leads bytes (head_lines qpus global local ++ xs) left) (sym e) (leads_on bytes (head_lines qpus global local ++ body_lines old) rest left line l f (none qpus global local))

empty : (xs : List ℕ) → length xs ≡ 0 → xs ≡ []
empty [] e = refl
empty (x ∷ xs) e = absurd (omega arith)

-- nothing is left, and the schedule stands
pub whole_end : (lines : List Line) → is_whole lines ≡ true → fault_in lines [] ≡ None
unfolding fault_from
whole_end lines e = rw e refl

no_lines : lines_in [] ≡ []
unfolding lines_in line_of
no_lines = refl

pub ends_whole : (bs : List BufferLine) (xs : List Arg) (o : Option Schedule) (s : Schedule) (left : List ℕ) (qpus : ℕ) (global local bytes : List ℕ) → length left ≡ 0 → o ≡ Some s → Leads bytes (head_lines qpus global local ++ lines_after bs xs o) left → (bytes ≡ lines_text (head_lines qpus global local ++ lines_after bs xs (Some s))) × (first_fault bytes ≡ None) × (lines_in bytes ≡ head_lines qpus global local ++ lines_after bs xs (Some s))
ends_whole bs xs o s left qpus global local bytes e is h =
    let lines = head_lines qpus global local ++ lines_after bs xs (Some s) in
    let l = subst (λ (p : Option Schedule). Leads bytes (head_lines qpus global local ++ lines_after bs xs p) left) is h in
    let none = empty left e in (
      l.text ∙ ap (λ (ys : List ℕ). lines_text lines ++ ys) none ∙ append-nil (lines_text lines),
      l.fault ∙ ap (fault_in lines) none ∙ whole_end lines (any_schedule bs xs (Some s)),
      l.says ∙ ap (λ (ys : List ℕ). lines ++ lines_in ys) none ∙ ap (λ (ls : List Line). lines ++ ls) no_lines ∙ append-nil lines,
    )

-- nothing is left, and the schedule is missing
pub ends_open : (bs : List BufferLine) (xs : List Arg) (o : Option Schedule) (left : List ℕ) (number qpus : ℕ) (global local bytes : List ℕ) → length left ≡ 0 → o ≡ None → number ≡ 4 + length (lines_after bs xs o) → Leads bytes (head_lines qpus global local ++ lines_after bs xs o) left → first_fault bytes ≡ Some (1, number + 1)
ends_open bs xs o left number qpus global local bytes e is n l =
    let lines = head_lines qpus global local ++ lines_after bs xs o in
    let same : length lines ≡ number = omega arith in
    l.fault ∙ ap (fault_in lines) (empty left e) ∙ no_end [] [] refl lines (any_schedule bs xs o ∙ ap is_some is) ∙ ap (λ (k : ℕ). Some (1, k + 1)) same
