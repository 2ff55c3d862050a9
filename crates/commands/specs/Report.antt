-- The report of a run, byte for byte.
use Rattle.std.specs.Prelude.{ℕ, ◌+◌, Bool, true, false, List, [], ◌∷◌, ◌++◌, codes, decimal, flat_map}
use Rattle.std.specs.Int.{to_be_bytes, w32}
use Rattle.hex.specs.Hex.{encode_lower}
use Rattle.vpm_words.specs.declared.state.Rule.{Rule}
use Rattle.vpm_words.specs.declared.state.Rule.TheVariants.{H0, H1, H2, H3, H4, H5, H6, H7, H8, H9, H10, H11, H12, H13, H14, H15, H16}
use Rattle.qpu_machine.specs.declared.state.Stop.{Stop}
use Rattle.qpu_machine.specs.declared.state.Stop.TheVariants.{Going, Finished, Broken}
use Rattle.qpu_machine.specs.declared.state.Counts.{Counts}
use Rattle.qpu_machine.specs.declared.state.QpuView.{QpuView}
use Rattle.qpu_machine.specs.declared.state.Qpu.{Qpu}
use Rattle.qpu_machine.specs.MachineState.{MachineState, stop_of, view_of}

abbrev pub line_end : List ℕ
line_end = 10 ∷ []

abbrev pub rule_text : Rule → List ℕ
rule_text H0 = codes "H0"
rule_text H1 = codes "H1"
rule_text H2 = codes "H2"
rule_text H3 = codes "H3"
rule_text H4 = codes "H4"
rule_text H5 = codes "H5"
rule_text H6 = codes "H6"
rule_text H7 = codes "H7"
rule_text H8 = codes "H8"
rule_text H9 = codes "H9"
rule_text H10 = codes "H10"
rule_text H11 = codes "H11"
rule_text H12 = codes "H12"
rule_text H13 = codes "H13"
rule_text H14 = codes "H14"
rule_text H15 = codes "H15"
rule_text H16 = codes "H16"

unfoldable pub stop_line : Stop → List ℕ
stop_line Going = codes "stop unfinished\n"
stop_line Finished = codes "stop finished\n"
stop_line (Broken rule k place) = codes "stop broken " ++ (rule_text rule ++ (codes " qpu " ++ (decimal k ++ (codes " place " ++ (decimal place ++ line_end)))))

-- the steps are the words done and the elements moved together
unfoldable pub counts_line : Counts → List ℕ
counts_line c =
    codes "steps " ++ (decimal (c.issued + c.moved)
    ++ (codes " issued " ++ (decimal c.issued ++ (codes " moved " ++ (decimal c.moved ++ (codes " loads " ++ (decimal c.loads ++ (codes " stores " ++ (decimal c.stores ++ line_end)))))))))

abbrev pub ended_text : Bool → List ℕ
ended_text true = codes " ended"
ended_text false = codes " running"

unfoldable pub qpu_line : ℕ → QpuView → List ℕ
qpu_line k view =
    codes "qpu " ++ (decimal k ++ (ended_text view.ended ++ (codes " place " ++ (decimal view.place ++ (codes " issued " ++ (decimal view.issued ++ line_end))))))

-- a space and the eight lower-case hexadecimal digits of a word
abbrev pub spaced_word : ℕ → List ℕ
spaced_word word = 32 ∷ encode_lower (to_be_bytes w32 word)

unfoldable pub r0_line : List ℕ → List ℕ
r0_line words = codes "r0" ++ (flat_map spaced_word words ++ line_end)

unfoldable pub qpu_lines : ℕ → QpuView → List ℕ
qpu_lines k view = qpu_line k view ++ r0_line view.r0.words

-- the lines of these QPUs, the first of which has number k
unfoldable pub all_qpu_lines : ℕ → List Qpu → List ℕ
all_qpu_lines k [] = []
all_qpu_lines k (q ∷ qpus) = qpu_lines k (view_of q) ++ all_qpu_lines (k + 1) qpus

unfoldable pub report : MachineState → List ℕ
report s = stop_line (stop_of s) ++ (counts_line s.counts ++ all_qpu_lines 0 s.qpus)
