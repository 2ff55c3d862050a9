use Rattle.footprint.specs.Marks.{ConflictAt}
use Rattle.footprint.proofs.ConflictLaws.{conflict_more, conflict_writes, conflict_swap, one_least}
use Rattle.footprint.proofs.laws.law_conflicts.Goals as goal

pub returns-clause-bytes : goal.returns-clause-bytes
returns-clause-bytes c = λ f f' g b x same h. conflict_more f f' g b x (λ how u. (same how b x).0 u) h

pub returns-clause-first : goal.returns-clause-first
returns-clause-first c = λ f g p q h k. one_least (ConflictAt f g) p q h k

pub returns-clause-write : goal.returns-clause-write
returns-clause-write c = conflict_writes

pub returns-clause-mutual : goal.returns-clause-mutual
returns-clause-mutual c = conflict_swap
