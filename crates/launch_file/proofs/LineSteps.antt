-- What the line at the front of the rest of a file does to the first fault.
use Rattle.std.proofs.Common.{◌≡◌, ℕ, ◌+◌, ◌*◌, ◌≤◌, ◌<◌, Bool, true, false, cond, List, [], ◌∷◌, ◌++◌, length, Option, Some, None, sym, refl, ap, ◌∙◌, subst, arith, append_assoc, append-nil}
use Rattle.std.specs.Prelude.{option_map, option_and_then, bytes_eq, eqb, ◌&&◌}
use Rattle.std.specs.List.{slice_split}
use Rattle.launch_file.specs.LineText.{Line, line_of, line_text}
use Rattle.launch_file.specs.Rules.{violates, breaks, least_rule, fault_or, fault_from, fault_in, is_whole, first_fault}
use Rattle.launch_file.specs.LaunchIn.{lines_in, listed}
use Rattle.launch_file.specs.Reading.{Follows, Leads}
use Rattle.launch_file.specs.HeadReading.{Stands, Violates}
use Rattle.launch_file.specs.LaunchText.{ended, lines_text}
use Rattle.std.proofs.lemmas.List.{length-append}
use Rattle.launch_file.proofs.LineLaws.{line_of-some}
use Rattle.launch_file.proofs.Cuts.{some_part}

-- a line that is followed by more
fault_from-cons : (before : List Line) (piece : List ℕ) (pieces : List (List ℕ)) → 1 ≤ length pieces → fault_from before (piece ∷ pieces) ≡ fault_or (least_rule before (line_of piece)) (length before + 1) (option_and_then (λ line. fault_from (before ++ line ∷ []) pieces) (line_of piece))
unfolding fault_from
fault_from-cons before piece [] h = absurd (omega arith)
fault_from-cons before piece (next ∷ pieces) h = refl

neither : (b : Bool) (f : Option (ℕ × ℕ)) → cond (b && false) None f ≡ f
neither true f = refl
neither false f = refl

not_empty : (piece : List ℕ) → 0 < length piece → bytes_eq piece [] ≡ false
not_empty [] h = absurd (omega arith)
not_empty (x ∷ piece) h = refl

-- the line isn't ended, or is missing
pub no_end : (bytes piece : List ℕ) → slice_split (λ byte. eqb byte 10) bytes ≡ piece ∷ [] → (before : List Line) → is_whole before ≡ false → fault_in before bytes ≡ Some (1, length before + 1)
unfolding fault_from
no_end bytes piece e before misses = rw (e, misses) (neither (bytes_eq piece []) _)

pub no_end_after : (bytes piece : List ℕ) → slice_split (λ byte. eqb byte 10) bytes ≡ piece ∷ [] → bytes ≡ piece → (before : List Line) → 0 < length bytes → fault_in before bytes ≡ Some (1, length before + 1)
unfolding fault_from
no_end_after bytes piece e same before some = rw (e, not_empty piece (subst (λ (xs : List ℕ). 0 < length xs) same some)) refl

-- the line is of no form
pub no_form : (bytes piece rest : List ℕ) → slice_split (λ byte. eqb byte 10) bytes ≡ piece ∷ slice_split (λ byte. eqb byte 10) rest → None ≡ line_of piece → (before : List Line) → fault_in before bytes ≡ Some (1, length before + 1)
unfolding least_rule violates
no_form bytes piece rest e none before =
    rw e (fault_from-cons before piece _ (some_part _ rest) ∙ rw (← none) refl)

some_piece : (piece : List ℕ) (line : Line) → line_of piece ≡ Some line → 1 ≤ length piece
unfolding line_of
some_piece [] line e = absurd (cc)
some_piece (x ∷ piece) line e = omega arith

-- a line of a form, and the rest
pub follows : (bytes piece rest : List ℕ) (line : Line) → slice_split (λ byte. eqb byte 10) bytes ≡ piece ∷ slice_split (λ byte. eqb byte 10) rest → bytes ≡ piece ++ 10 ∷ rest → Some line ≡ line_of piece → Follows bytes line rest
unfolding lines_in
follows bytes piece rest line e whole read =
    record {
      text = let said = line_of-some piece line (sym read) in whole ∙ ap (λ (xs : List ℕ). xs ++ 10 ∷ rest) said.0 ∙ sym (append_assoc (line_text line) (10 ∷ []) rest);
      shorter = let some = some_piece piece line (sym read) in rw whole (simp length-append (omega arith));
      proper = (line_of-some piece line (sym read)).1;
      says = rw e (ap (λ (l : Option Line). listed l ++ lines_in rest) (sym read));
      step = λ before. rw e (fault_from-cons before piece _ (some_part _ rest) ∙ rw (← read) refl);
    }

pub lines_text-push : (lines : List Line) (line : Line) → lines_text (lines ++ line ∷ []) ≡ lines_text lines ++ ended line
lines_text-push [] line = append-nil (ended line)
lines_text-push (l ∷ lines) line = ap (λ (xs : List ℕ). ended l ++ xs) (lines_text-push lines line) ∙ sym (append_assoc (ended l) (lines_text lines) (ended line))

-- a line that violates no rule
pub leads_on : (bytes : List ℕ) (lines : List Line) (rest left : List ℕ) (line : Line) → Leads bytes lines rest → Follows rest line left → least_rule lines (Some line) ≡ None → Leads bytes (lines ++ line ∷ []) left
leads_on bytes lines rest left line l f none =
    record {
      text = l.text ∙ ap (λ (xs : List ℕ). lines_text lines ++ xs) f.text ∙ sym (append_assoc (lines_text lines) (ended line) left) ∙ ap (λ (xs : List ℕ). xs ++ left) (sym (lines_text-push lines line));
      fault = l.fault ∙ f.step lines ∙ rw none refl;
      says = l.says ∙ ap (λ (ls : List Line). lines ++ ls) f.says ∙ sym (append_assoc lines (line ∷ []) (lines_in left));
      shorter = let a = l.shorter in let b = f.shorter in simp length-append (omega arith);
    }

-- one that does
pub leads_fault : (bytes : List ℕ) (lines : List Line) (rest left : List ℕ) (line : Line) (rule : ℕ) → Leads bytes lines rest → Follows rest line left → least_rule lines (Some line) ≡ Some rule → first_fault bytes ≡ Some (rule, length lines + 1)
leads_fault bytes lines rest left line rule l f some = l.fault ∙ f.step lines ∙ rw some refl

-- the same, of a line that is said to be another
pub goes_on : (lines : List Line) (rest left : List ℕ) (line said : Line) → Follows rest line left → Stands lines line said → (bytes : List ℕ) → Leads bytes lines rest → Leads bytes (lines ++ said ∷ []) left
goes_on lines rest left line said f s bytes l =
    subst (λ (x : Line). Leads bytes (lines ++ x ∷ []) left) s.0 (leads_on bytes lines rest left line l f s.1)

pub stops : (lines : List Line) (rest left : List ℕ) (line : Line) (rule : ℕ) → Follows rest line left → Violates lines line rule → (bytes : List ℕ) → Leads bytes lines rest → first_fault bytes ≡ Some (rule, length lines + 1)
stops lines rest left line rule f v bytes l = leads_fault bytes lines rest left line rule l f v

-- no line follows
pub lacks : (lines : List Line) (rest : List ℕ) → fault_in lines rest ≡ Some (1, length lines + 1) → (bytes : List ℕ) → Leads bytes lines rest → first_fault bytes ≡ Some (1, length lines + 1)
lacks lines rest e bytes l = l.fault ∙ e

-- before the first line
pub leads_start : (bytes : List ℕ) → Leads bytes [] bytes
unfolding first_fault
leads_start bytes = record { text = refl; fault = refl; says = refl; shorter = omega arith }
