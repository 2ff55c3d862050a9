use Rattle.std.proofs.Common.{rules, ap, sym, ◌∙◌}
use Rattle.vc4q_module.specs.ModuleBytes.{module_bytes, first_fault}
use Rattle.vc4q_module.proofs.Faults.{right_from_none, limits_of, spelling_of, spellings_pass}
use Rattle.vc4q_module.proofs.reading.read.Goals as goal

pub returns-in-Some-clause-no_spelling : goal.returns-in-Some-clause-no_spelling
returns-in-Some-clause-no_spelling c = λ p e m h spelling.
    let found = c.in-Some.ensures in
    let none = ap first_fault spelling ∙ spellings_pass m h in
    cc

pub read_parts-requires-clause-long : goal.read_parts-requires-clause-long
read_parts-requires-clause-long c = (right_from_none c.args.bytes.now (search rules)).long

pub read_parts-requires-clause-parameters : goal.read_parts-requires-clause-parameters
read_parts-requires-clause-parameters c = (right_from_none c.args.bytes.now (search rules)).few_kinds

pub read_parts-requires-clause-exact : goal.read_parts-requires-clause-exact
read_parts-requires-clause-exact c = (right_from_none c.args.bytes.now (search rules)).exact

pub read_parts-requires-clause-limits : goal.read_parts-requires-clause-limits
read_parts-requires-clause-limits c = limits_of c.args.bytes.now (λ i. search rules) (right_from_none c.args.bytes.now (search rules))

pub returns-in-Ok-clause-spelling : goal.returns-in-Ok-clause-spelling
returns-in-Ok-clause-spelling c =
    spelling_of c.args.bytes.now (λ i. search rules) (right_from_none c.args.bytes.now (search rules)) ∙ ap module_bytes (sym c.in-Ok.ensures)
