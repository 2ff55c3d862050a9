use Rattle.std.proofs.Common.{List, sym, subst}
use Rattle.std.specs.List.{insert}
use Rattle.footprint.specs.declared.marks.Mark.{Mark}
use Rattle.footprint.specs.Marks.{Adds}
use Rattle.footprint.proofs.OrderLaws.{adds_inserted}
use Rattle.footprint.proofs.marks.Footprint.add.Goals as goal

pub returns-in_ok-insert-clause-ok : goal.returns-in_ok-insert-clause-ok
returns-in_ok-insert-clause-ok c =
    let mark : Mark = record { how = c.args.how; buffer = c.args.buffer; from = c.args.from; to = c.args.to } in
    let marks = c.self.inside.marks.items in
    let at = c.place_of-at.result in
    subst (λ (new : List Mark). Adds c.args.how c.args.buffer c.args.from c.args.to c.args.self.now new) (sym c.in_ok-insert.ensures.items)
    (subst (λ (old : List Mark). Adds c.args.how c.args.buffer c.args.from c.args.to old (insert marks at mark)) c.self.view_is (adds_inserted marks at mark))
