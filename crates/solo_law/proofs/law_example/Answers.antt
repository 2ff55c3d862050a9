use Rattle.solo_law.proofs.ExampleFit.{example_fits, filled_example_fits, example_stores}
use Rattle.solo_law.proofs.law_example.Goals as goal

pub returns-clause-any : goal.returns-clause-any
returns-clause-any c = λ contents good. example_fits contents good

pub returns-clause-filled : goal.returns-clause-filled
returns-clause-filled c = λ fill. filled_example_fits fill

pub returns-clause-stores : goal.returns-clause-stores
returns-clause-stores c = λ contents good k l found ends. example_stores contents good k l found ends
