use Rattle.std.proofs.Common.{rules, sym, subst}
use Rattle.std.specs.Prelude.{IsUtf8}
use Rattle.std.proofs.lemmas.Str.{IsUtf8-from_ascii}
use Rattle.commands.proofs.names.text_of.Goals as goal

pub unwrap-requires : goal.unwrap-requires
unwrap-requires c =
    let utf8 : IsUtf8 c.args.name.now = IsUtf8-from_ascii _ c.requires in
    let text : IsUtf8 c.as_bytes.result.now = subst IsUtf8 (sym c.as_bytes.ensures) utf8 in
    search rules
