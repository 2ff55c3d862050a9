use Rattle.std.proofs.Common.{◌+◌, arith, drop, false, sym, subst}
use Rattle.commands.specs.Plan.{no_sources, Plan, Ends}
use Rattle.promise.specs.Faithful.{buffers_of}
use Rattle.commands.specs.Buffers.{write_buffers}
use Rattle.commands.proofs.BufferSteps.{stores_at}
use Rattle.commands.proofs.buffers.store_buffers.Goals as goal

pub returns-in-Err-clause-err : goal.returns-in-Err-clause-err
returns-in-Err-clause-err g c = λ next.
    let i = c.loop-i.i in
    let machine = c.args.machine.now in
    let rest : Plan = write_buffers (drop (i + 1) c.args.lines.now) (drop (i + 1) (buffers_of machine)) next in
    let at = stores_at c.args.lines.now machine i c.index-lines-i.result c.buffer.result.now next (omega arith) c.requires.same c.index-lines-i.is c.buffer.ensures in
    let P : Plan → Type 0 = λ p. Ends no_sources false p (g.F.Files.state c.loop-i.files) (g.S.Sink.state c.loop-i.out) (g.F.Files.state c.store_buffer.new.files) (g.S.Sink.state c.store_buffer.new.out) c.in-Err.status in
    c.loop-i.invariant next _ _ _ (subst P (sym at) (c.in-Err.ensures.err rest))

pub loop-i-preserved : goal.loop-i-preserved
loop-i-preserved g c = λ next now out_now result ends.
    let i = c.loop-i.i in
    let machine = c.args.machine.now in
    let rest : Plan = write_buffers (drop (i + 1) c.args.lines.now) (drop (i + 1) (buffers_of machine)) next in
    let at = stores_at c.args.lines.now machine i c.index-lines-i.result c.buffer.result.now next (omega arith) c.requires.same c.index-lines-i.is c.buffer.ensures in
    let P : Plan → Type 0 = λ p. Ends no_sources false p (g.F.Files.state c.loop-i.files) (g.S.Sink.state c.loop-i.out) now out_now result in
    c.loop-i.invariant next now out_now result (subst P (sym at) (c.in-Ok.ensures.ok rest now out_now result ends))
