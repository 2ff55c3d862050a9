-- Where a plan passes a read, what is due of it is due of the rest.
use Rattle.std.proofs.Common.{◌≡◌, ℕ, ◌≤◌, List, [], ◌∷◌, ◌++◌, length, sym, ap, ◌∙◌, subst, append_assoc, append-nil}
use Rattle.std.specs.Prelude.{Option, Some, None}
use Rattle.q_lane.specs.declared.kinds.Kind.{Kind}
use Rattle.q_io.specs.FilesMeaning.{Tree, FilesState}
use Rattle.launch_file.specs.declared.launch.BufferLine.{BufferLine}
use Rattle.launch_file.specs.Launches.{LaunchOf}
use Rattle.launch_file.specs.LaunchIn.{launch_in}
use Rattle.launch_file.specs.Rules.{first_fault as launch_fault}
use Rattle.launch_file.specs.Fit.{fit_fault}
use Rattle.promise.specs.Language.{Sources}
use Rattle.commands.specs.Plan.{Plan}
use Rattle.commands.specs.Due.{read, Due, then_due, Made, due_of, AreMade}
use Rattle.commands.specs.Buffers.{filled, read_buffer, read_buffers}
use Rattle.commands.specs.Launching.{launch_limit, launch_plan, after_launch, fit_plan, after_fit}
use Rattle.commands.specs.ExecClauses.{IsRead, AreRead}
use Rattle.commands.proofs.EndsAsDue.{told_at, due_found}

module _ (sources : Sources) where
  -- the whole has the status of the rest, and all that is made in the rest is made in the whole
  pub record Continues (whole rest : Due) : Type 0 where
    pub status : whole.status ≡ rest.status
    pub made : AreMade sources whole.places → AreMade sources rest.places

  pub onward : (one two three : Due) → Continues one two → Continues two three → Continues one three
  onward one two three a b = record { status = a.status ∙ b.status; made = λ m. b.made (a.made m) }

  pub as_same : (whole rest : Due) → whole ≡ rest → Continues whole rest
  as_same whole rest e = record { status = ap (λ (d : Due). d.status) e; made = subst (λ (d : Due). AreMade sources d.places) e }

  pub past_read : (name : List ℕ) (whole rest : Due) → whole ≡ then_due (read name) rest → Continues whole rest
  past_read name whole rest e = record { status = ap (λ (d : Due). d.status) e; made = subst (λ (d : Due). AreMade sources d.places) e }

  -- a buffer that is there is read
  buffer_continues : (size : ℕ) (from to : Option (List ℕ)) (bytes : List ℕ) (next : List ℕ → Plan) (files : FilesState) (tree : Tree) (all : List Made)
      → files.told ≡ Some tree → IsRead files (record { size = size; from = from; to = to }) bytes
      → Continues (due_of (read_buffer (record { size = size; from = from; to = to }) next) tree all) (due_of (next bytes) tree all)
  buffer_continues size None to bytes next files tree all told is = as_same _ _ (ap (λ bs. due_of (next bs) tree all) (sym is))
  buffer_continues size (Some name) to bytes next files tree all told (file, holds, few, are, is) =
      let there : tree name ≡ Some file = told_at files.told tree (λ t. t name ≡ Some file) told holds in
      past_read name _ _ (due_found name size (tree name) file (λ bs. due_of (next (filled size bs)) tree all) there few
      ∙ ap (λ bs. then_due (read name) (due_of (next bs) tree all)) (sym is))

  pub buffers_continue : (lines : List BufferLine) (got buffers : List (List ℕ)) (next : List (List ℕ) → Plan) (files : FilesState) (tree : Tree) (all : List Made)
      → files.told ≡ Some tree → AreRead files lines buffers
      → Continues (due_of (read_buffers lines got next) tree all) (due_of (next (got ++ buffers)) tree all)
  buffers_continue [] got [] next files tree all told are = as_same _ _ (ap (λ bs. due_of (next bs) tree all) (sym (append-nil got)))
  buffers_continue [] got (bytes ∷ buffers) next files tree all told are = absurd are
  buffers_continue (line ∷ lines) got [] next files tree all told are = absurd are
  buffers_continue (line ∷ lines) got (bytes ∷ buffers) next files tree all told are =
      onward _ _ _ (buffer_continues line.size line.from line.to bytes (λ bs. read_buffers lines (got ++ bs ∷ []) next) files tree all told are.0)
      (onward _ _ _ (buffers_continue lines (got ++ bytes ∷ []) buffers next files tree all told are.1)
      (as_same _ _ (ap (λ bs. due_of (next bs) tree all) (append_assoc got (bytes ∷ []) buffers))))

  -- a launch that fits is taken further
  pub launch_continues : (taken : List (List ℕ)) (kinds : List Kind) (launch_name text : List ℕ) (next : LaunchOf → Plan) (tree : Tree) (all : List Made)
      → tree launch_name ≡ Some text → length text ≤ launch_limit → launch_fault text ≡ None → fit_fault (launch_in text) kinds taken ≡ None
      → Continues (due_of (launch_plan taken kinds launch_name next) tree all) (due_of (next (launch_in text)) tree all)
  unfolding launch_plan fit_plan
  launch_continues taken kinds launch_name text next tree all there short lawful fits =
      let launch : LaunchOf = launch_in text in
      past_read launch_name _ _
      (due_found launch_name launch_limit (tree launch_name) text (λ bytes. due_of (after_launch (launch_fault bytes) taken kinds next (launch_in bytes)) tree all) there short
      ∙ ap (λ f. then_due (read launch_name) (due_of (after_launch f taken kinds next launch) tree all)) lawful
      ∙ ap (λ f. then_due (read launch_name) (due_of (after_fit f next launch) tree all)) fits)
