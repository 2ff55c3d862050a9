use Rattle.std.proofs.Common.{Err}
use Rattle.std.proofs.lemmas.Result.{IfOk-weaker}
use Rattle.clc_lexer.specs.SourceText.{IsLexed, HasNoFault}
use Rattle.clc_lexer.specs.declared.token.LexRule.TheVariants.{L1}
use Rattle.clc_lexer.specs.declared.token.LexFault.TheVariants.{Rule}
use Rattle.clc_lexer.proofs.FirstFaults.{lexed_is_lawful, stop_is_first, long_fault, only_answer}
use Rattle.clc_lexer.proofs.lexing.lex.Goals as goal

pub returns-then-source-gt-MOST_BYTES-clause-fault : goal.returns-then-source-gt-MOST_BYTES-clause-fault
returns-then-source-gt-MOST_BYTES-clause-fault c = long_fault c.args.source.now c.if-source-gt-MOST_BYTES.true

pub returns-then-source-gt-MOST_BYTES-clause-refused : goal.returns-then-source-gt-MOST_BYTES-clause-refused
returns-then-source-gt-MOST_BYTES-clause-refused c =
    only_answer c.args.source.now (Err (Rule L1 65536)) tt (long_fault c.args.source.now c.if-source-gt-MOST_BYTES.true)

pub returns-clause-lawful : goal.returns-clause-lawful
returns-clause-lawful c =
    IfOk-weaker c.lex_short.result (λ tokens. IsLexed c.args.source.now tokens.items) (λ tokens. HasNoFault c.args.source.now)
    (λ tokens h. lexed_is_lawful c.args.source.now tokens.items c.if-source-gt-MOST_BYTES.false h) c.lex_short.ensures.tokens

pub returns-clause-fault : goal.returns-clause-fault
returns-clause-fault c rule at h = stop_is_first c.args.source.now rule at c.if-source-gt-MOST_BYTES.false (c.lex_short.ensures.fault rule at h)

pub returns-clause-refused : goal.returns-clause-refused
returns-clause-refused c =
    only_answer c.args.source.now c.lex_short.result (returns-clause-lawful c)
    (λ rule at h. stop_is_first c.args.source.now rule at c.if-source-gt-MOST_BYTES.false (c.lex_short.ensures.fault rule at h))
