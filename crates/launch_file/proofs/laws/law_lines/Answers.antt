use Rattle.launch_file.proofs.LineLaws.{line_of-some}
use Rattle.launch_file.proofs.LineBack.{line_of-text}
use Rattle.launch_file.proofs.laws.law_lines.Goals as goal

pub returns-clause-read : goal.returns-clause-read
returns-clause-read c = line_of-text

pub returns-clause-spelled : goal.returns-clause-spelled
returns-clause-spelled c = λ bytes line e. (line_of-some bytes line e).0

pub returns-clause-proper : goal.returns-clause-proper
returns-clause-proper c = λ bytes line e. (line_of-some bytes line e).1
