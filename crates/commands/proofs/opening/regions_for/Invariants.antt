use Rattle.std.proofs.Common.{◌≡◌, take, map}
use Rattle.promise.specs.Openings.{region_of}
use Rattle.commands.proofs.opening.regions_for.Given as goal

abbrev pub invariant-loop-place : goal.invariant-loop-place
invariant-loop-place l = l.regions.items ≡ map region_of (take l.place-index l.places)
