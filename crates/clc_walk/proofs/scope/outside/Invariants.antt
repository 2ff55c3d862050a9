use Rattle.std.proofs.Common.{◌≡◌, drop}
use Rattle.std.specs.Prelude.{map}
use Rattle.clc_types.specs.Names.{or_else}
use Rattle.clc_types.specs.InternalScope.{seen, known}
use Rattle.clc_walk.proofs.scope.outside.Given as goal

abbrev pub invariant-loop-block : goal.invariant-loop-block
invariant-loop-block l = or_else (known (map (λ b. seen b) (drop l.block-index l.blocks)) l.name) l.best ≡ known (map (λ b. seen b) l.blocks) l.name
