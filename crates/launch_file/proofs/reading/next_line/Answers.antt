use Rattle.std.proofs.Common.{rules, ◌≡◌, Option, Some, None, ◌∙◌, sym, ap, subst}
use Rattle.std.specs.Prelude.{option_map}
use Rattle.launch_file.proofs.LineSteps.{no_end, no_end_after, no_form, follows}
use Rattle.launch_file.proofs.reading.next_line.Goals as goal

pub returns-in_default-clause-none : goal.returns-in_default-clause-none
returns-in_default-clause-none c = no_end c.args.bytes.now c.cut.result.0.now (search rules)

pub returns-in_default-clause-after : goal.returns-in_default-clause-after
returns-in_default-clause-after c = no_end_after c.args.bytes.now c.cut.result.0.now (search rules) (search rules)

pub returns-in_default-read_line-clause-none : goal.returns-in_default-read_line-clause-none
returns-in_default-read_line-clause-none c = λ before _. no_form c.args.bytes.now c.cut.result.0.now c.in-Some.rest.now (search rules) (search rules) before

pub returns-in_default-read_line-clause-after : goal.returns-in_default-read_line-clause-after
returns-in_default-read_line-clause-after c = λ before _. no_form c.args.bytes.now c.cut.result.0.now c.in-Some.rest.now (search rules) (search rules) before

pub returns-clause-line : goal.returns-clause-line
returns-clause-line c = follows c.args.bytes.now c.cut.result.0.now c.in-Some.rest.now _ (search rules) (search rules) (search rules)
