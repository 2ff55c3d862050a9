use Rattle.std.proofs.Common.{◌∙◌, sym}
use Rattle.clc_proper.proofs.PassesProper.{tree_back}
use Rattle.clc_proper.proofs.ProperPasses.{test_tree}
use Rattle.clc_proper.proofs.program_checks.proper.Goals as goal

pub returns : goal.returns
returns c = (
  (λ h. tree_back c.args.tree.now (sym c.is_tree.ensures ∙ h)),
  (λ h. c.is_tree.ensures ∙ test_tree c.args.tree.now h.0 h.1),
)
