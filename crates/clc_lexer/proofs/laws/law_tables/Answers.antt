use Rattle.clc_lexer.proofs.NumberRight.{one_number}
use Rattle.clc_lexer.proofs.Sayings.{one_saying}
use Rattle.clc_lexer.proofs.Listed.{mark_listed, word_listed}
use Rattle.clc_lexer.proofs.laws.law_tables.Goals as goal

pub returns : goal.returns
returns c = record { marks = mark_listed; words = word_listed; numbers = one_number; sayings = one_saying }
