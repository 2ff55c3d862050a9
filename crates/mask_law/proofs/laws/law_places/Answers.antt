use Rattle.mask_law.proofs.PlacesWithin.{places_within}
use Rattle.mask_law.proofs.laws.law_places.Goals as goal

pub returns : goal.returns
returns c = places_within
