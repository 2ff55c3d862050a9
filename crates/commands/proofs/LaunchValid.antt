-- A launch file without a fault is the text of the launch that its lines say, and that launch is valid.
use Rattle.std.specs.Prelude.{◌≡◌, ℕ, List, [], ◌∷◌, ◌++◌, None, refl}
use Rattle.std.proofs.Common.{ap, sym, ◌∙◌, subst}
use Rattle.launch_file.specs.Launches.{LaunchOf, IsLaunch}
use Rattle.launch_file.specs.LineText.{Line, line_of}
use Rattle.launch_file.specs.LaunchText.{lines_text, launch_lines, launch_text}
use Rattle.launch_file.specs.LaunchIn.{lines_in, launch_from, launch_in}
use Rattle.launch_file.specs.Rules.{first_fault}
use Rattle.launch_file.proofs.LaunchBack.{Clean, follow_text, lines-clean}
use Rattle.launch_file.proofs.LaunchFrom.{launch_from as find_launch}
use Rattle.launch_file.proofs.SaidLaws.{said_again}

no_lines : lines_in [] ≡ []
unfolding lines_in line_of
no_lines = refl

-- the text of clean lines says them
lines_back : (before lines : List Line) → Clean before lines → lines_in (lines_text lines) ≡ lines
lines_back before [] h = no_lines
lines_back before (line ∷ lines) h =
    (follow_text line (lines_text lines) h.0).says ∙ ap (λ (rest : List Line). line ∷ rest) (lines_back (before ++ line ∷ []) lines h.2)

launch_back : (launch : LaunchOf) → IsLaunch launch → launch_in (launch_text launch) ≡ launch
unfolding launch_in launch_text
launch_back launch h = ap launch_from (lines_back [] (launch_lines launch) (lines-clean launch h)) ∙ said_again launch h

pub launch_of_text : (bytes : List ℕ) → first_fault bytes ≡ None → IsLaunch (launch_in bytes) × (bytes ≡ launch_text (launch_in bytes))
launch_of_text bytes none =
    let found = find_launch bytes none in
    let same : launch_in bytes ≡ found.0 = ap launch_in found.2 ∙ launch_back found.0 found.1 in
    (subst IsLaunch (sym same) found.1, found.2 ∙ ap launch_text (sym same))
