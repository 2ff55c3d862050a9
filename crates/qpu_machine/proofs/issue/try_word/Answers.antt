use Rattle.qpu_machine.proofs.Tried.{tried_broken}
use Rattle.qpu_machine.proofs.issue.try_word.Goals as goal

pub returns-in-Some-clause-effect : goal.returns-in-Some-clause-effect
returns-in-Some-clause-effect c =
    tried_broken c.args.site.now c.args.instr.now c.args.q.now c.args.shared.now c.args.counts.now c.args.word.now.results
    c.args.word.now.access c.args.word.now.out c.see-seen.result c.remember.result c.number_of.result c.first_broken.result c.in-Some.rule
    c.requires.access c.requires.out c.see-seen.ensures c.remember.ensures c.number_of.ensures c.first_broken.ensures.rule c.in-Some.is
