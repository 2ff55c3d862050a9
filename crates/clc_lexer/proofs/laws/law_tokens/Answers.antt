use Rattle.clc_lexer.proofs.OnePiece.{one_split}
use Rattle.clc_lexer.proofs.LexedOnce.{lexed_once, tokens_within}
use Rattle.clc_lexer.proofs.laws.law_tokens.Goals as goal

pub returns : goal.returns
returns c = record { splits = one_split; once = lexed_once; within = tokens_within }
