use Rattle.launch_file.proofs.LayoutLaws.{layout_is_good}
use Rattle.launch_file.proofs.laws.law_layout.Goals as goal

pub returns : goal.returns
returns c = layout_is_good
