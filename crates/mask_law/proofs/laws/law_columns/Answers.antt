use Rattle.mask_law.proofs.Columns.{column_left}
use Rattle.mask_law.proofs.laws.law_columns.Goals as goal

pub returns : goal.returns
returns c = λ nu v k e st words h g. column_left nu v k e st words h g
