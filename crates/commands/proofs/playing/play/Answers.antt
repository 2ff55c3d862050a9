use Rattle.std.proofs.Common.{subst, ap}
use Rattle.launch_file.specs.Launches.{IsLaunch}
use Rattle.commands.specs.Plan.{no_sources}
use Rattle.commands.proofs.NameLaws.{text_names_of}
use Rattle.commands.proofs.Clauses.{play_due, play_caused}
use Rattle.commands.proofs.playing.play.Goals as goal

pub returns : goal.returns
returns g c =
    let caused = play_caused no_sources _ _ _ _ _ _ c.play_places.ensures in
    record {
      memory = caused.memory;
      write_fault = caused.write_fault;
      due = play_due no_sources _ _ _ _ _ _ _ _ c.play_places.ensures;
      order = c.play_places.ensures;
    }

pub play_places-requires-clause-names : goal.play_places-requires-clause-names
play_places-requires-clause-names g c = text_names_of c.args.ready.now.launch (subst IsLaunch (ap (λ r. r.launch) c.ready.view_is) c.ready.invariant)
