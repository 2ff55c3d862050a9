use Rattle.std.proofs.Common.{◌≡◌, ℕ, List, [], drop, take, length, map, true}
use Rattle.launch_file.specs.Layout.{buffer_lens}
use Rattle.std.specs.Prelude.{vec_len}
use Rattle.promise.specs.Openings.{AreAllBytes}
use Rattle.commands.specs.Plan.{no_sources, Plan, Leads}
use Rattle.commands.specs.Buffers.{read_buffers}
use Rattle.commands.proofs.buffers.fill_buffers.Given as goal

abbrev pub invariant-loop-line : goal.invariant-loop-line
invariant-loop-line g l = record {
  count : vec_len l.buffers ≡ l.line-index;
  sizes : map length l.buffers.items ≡ buffer_lens (take l.line-index l.lines);
  bytes : AreAllBytes l.buffers.items;
  leads : (next : List (List ℕ) → Plan) → Leads no_sources true (read_buffers l.lines [] next) (g.F.Files.state l.initial.files) (g.S.Sink.state l.initial.out) (read_buffers (drop l.line-index l.lines) l.buffers.items next) (g.F.Files.state l.files) (g.S.Sink.state l.out);
}
