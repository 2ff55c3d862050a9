use Rattle.std.proofs.Common.{rules}
use Rattle.launch_file.proofs.Numbers.{decimal-from_other, parsed-decimal, refused-decimal}
use Rattle.launch_file.proofs.words.number_in.Goals as goal

pub returns-clause-number : goal.returns-clause-number
returns-clause-number c =
    rw c.ok.ensures.value (parsed-decimal c.args.text.now c.parse.result (search rules) c.parse.ensures.value.0)

pub returns-clause-none : goal.returns-clause-none
returns-clause-none c =
    rw c.ok.ensures.value (refused-decimal c.args.text.now c.parse.result c.parse.ensures.value.0)

pub returns-then-not-is_plain-clause-none : goal.returns-then-not-is_plain-clause-none
returns-then-not-is_plain-clause-none c = decimal-from_other c.args.text.now (search rules)
