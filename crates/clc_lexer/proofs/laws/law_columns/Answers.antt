use Rattle.clc_lexer.proofs.Columns.{one_column}
use Rattle.clc_lexer.proofs.laws.law_columns.Goals as goal

pub returns : goal.returns
returns c = one_column
