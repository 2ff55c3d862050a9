-- Each turn takes an operation out of the window.
use Rattle.std.proofs.Common.{vec_len}
use Rattle.dual_issue.proofs.block.emit_rest.Given as goal

abbrev pub decreases-words : goal.decreases-words
decreases-words l = vec_len l.window
