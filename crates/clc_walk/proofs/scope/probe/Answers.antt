use Rattle.std.proofs.Common.{sym, ap, ◌∙◌}
use Rattle.std.specs.Prelude.{bytes_eq}
use Rattle.std.specs.Option.{option_copied}
use Rattle.clc_walk.proofs.Keys.{lookup_seen}
use Rattle.clc_walk.proofs.scope.probe.Goals as goal

pub returns-in-None : goal.returns-in-None
returns-in-None c = ap option_copied (sym c.in-None.is) ∙ c.get.ensures.value ∙ lookup_seen (λ k. k.items) (bytes_eq c.args.name.now) c.args.block.now.entries

pub returns-in-Some : goal.returns-in-Some
returns-in-Some c = ap option_copied (sym c.in-Some.is) ∙ c.get.ensures.value ∙ lookup_seen (λ k. k.items) (bytes_eq c.args.name.now) c.args.block.now.entries
