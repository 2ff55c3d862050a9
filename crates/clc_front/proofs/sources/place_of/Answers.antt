use Rattle.clc_front.proofs.SourceSteps.{place_found, place_past}
use Rattle.clc_front.proofs.sources.place_of.Goals as goal

pub returns-in-Some : goal.returns-in-Some
returns-in-Some c =
    let lookup = c.in-Some.ensures.lookup in
    place_found c.args.source.now c.args.tokens.now c.args.token c.in-Some.token.now lookup.3.0 lookup.1

pub returns-in-None : goal.returns-in-None
returns-in-None c =
    let lookup = c.in-None.ensures.lookup in
    place_past c.args.source.now c.args.tokens.now c.args.token lookup.3
