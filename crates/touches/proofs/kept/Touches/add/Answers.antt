use Rattle.touches.proofs.TellLaws.{tells_added}
use Rattle.touches.proofs.kept.Touches.add.Goals as goal

pub returns : goal.returns
returns c = λ earlier many tells.
    tells_added earlier c.args.ended.now c.args.item c.args.self c.self.inside.rows.items c.touch_all.new.rows.items c.as_slice.result.now
    c.self.view_is c.as_slice.ensures c.in_ok-touch_all.ensures.touched many tells
