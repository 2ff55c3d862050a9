use Rattle.std.proofs.Common.{◌≡◌, ◌++◌, ◌∷◌, [], ap, ◌∙◌}
use Rattle.std.specs.Prelude.{map, bytes_eq}
use Rattle.std.proofs.lemmas.List.{map-append}
use Rattle.indexmap.proofs.CallerLemmas.{insert_entry-new}
use Rattle.clc_walk.proofs.Keys.{lookup_seen}
use Rattle.clc_walk.proofs.declarations.insert.Goals as goal

pub returns : goal.returns
returns c =
    let es = c.args.block.now.entries in
    ap (map (λ e. (e.0.items, e.1))) (c.in_ok-insert.ensures.entries ∙ insert_entry-new _ c.args.block.now c.args.name c.args.named (lookup_seen (λ k. k.items) (bytes_eq c.args.name.items) es ∙ c.requires))
    ∙ map-append (λ e. (e.0.items, e.1)) es ((c.args.name, c.args.named) ∷ [])
