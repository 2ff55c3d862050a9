use Rattle.std.proofs.Common.{drop, false}
use Rattle.commands.specs.Plan.{no_sources, Plan, Leads}
use Rattle.promise.specs.Faithful.{buffers_of}
use Rattle.commands.specs.Buffers.{write_buffers}
use Rattle.commands.proofs.buffers.store_buffers.Given as goal

abbrev pub invariant-loop-i : goal.invariant-loop-i
invariant-loop-i g l =
    (next : Plan) → Leads no_sources false (write_buffers l.lines (buffers_of l.machine) next) (g.F.Files.state l.initial.files) (g.S.Sink.state l.initial.out) (write_buffers (drop l.i l.lines) (drop l.i (buffers_of l.machine)) next) (g.F.Files.state l.files) (g.S.Sink.state l.out)
