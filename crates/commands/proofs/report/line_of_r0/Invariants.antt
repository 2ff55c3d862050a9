use Rattle.std.proofs.Common.{◌≡◌, ◌+◌, ◌*◌, ◌++◌, take}
use Rattle.std.specs.Prelude.{codes, flat_map}
use Rattle.arrayvec.specs.ArrayVec.{array_vec_len}
use Rattle.commands.specs.Report.{spaced_word}
use Rattle.commands.proofs.report.line_of_r0.Given as goal

abbrev pub invariant-loop-word : goal.invariant-loop-word
invariant-loop-word l = record {
  items : l.line.items ≡ codes "r0" ++ flat_map spaced_word (take l.word-index l.words);
  len : array_vec_len l.line ≡ 2 + 9 * l.word-index;
}
