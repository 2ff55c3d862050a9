use Rattle.std.proofs.Common.{◌-◌, arith, rules, length, length-drop, drop}
use Rattle.std.proofs.lemmas.List.{take_all}
use Rattle.q_io.proofs.Known.{appends_next}
use Rattle.q_io.proofs.host.write_whole.Goals as goal

pub loop-done-preserved : goal.loop-done-preserved
loop-done-preserved g c =
    let bytes = c.args.bytes.now in
    let done = c.loop-done.done in
    let rest = rw (take_all (length bytes - done) (drop done bytes) (omega (arith, length-drop done bytes))) at c.in-Ok.ensures.bytes in
    record {
      within = search rules;
      written = appends_next _ _ _ _ _ _ c.loop-done.invariant.written rest;
    }
