use Rattle.std.proofs.Common.{◌≡◌, ◌<◌, ◌∙◌, length, map, true, ap, rules, sym, subst, ℕ, ◌+◌, List, [], ◌∷◌, ◌++◌, arith, drop}
use Rattle.promise.specs.Openings.{AreAllBytes}
use Rattle.commands.proofs.OpeningLaws.{all_more}
use Rattle.commands.specs.Buffers.{read_buffers}
use Rattle.commands.proofs.Steps.{gives_up, read_buffers_at, one_more_size}
use Rattle.commands.specs.Plan.{no_sources, Plan, Ends}
use Rattle.commands.proofs.buffers.fill_buffers.Goals as goal

pub returns-in-Err-push-clause-err : goal.returns-in-Err-push-clause-err
returns-in-Err-push-clause-err g c = λ next.
    let line = c.line-item.result in
    let rest = λ (bytes : List ℕ). read_buffers (drop (c.loop-line.line-index + 1) c.args.lines.now) (c.loop-line.buffers.items ++ bytes ∷ []) next in
    let at = read_buffers_at c.args.lines.now c.loop-line.line-index line c.loop-line.buffers.items next (omega arith) c.line-item.is in
    c.loop-line.invariant.leads next _ _ _ (rw at (c.in-Ok.ensures.ok rest _ _ _ (gives_up _ _ _ _)))

pub loop-line-preserved : goal.loop-line-preserved
loop-line-preserved g c =
    let lines = c.args.lines.now in
    let i = c.loop-line.line-index in
    let got = c.loop-line.buffers.items in
    let line = c.line-item.result in
    let within : i < length lines = omega arith in
    let grown : c.push.new.self.items ≡ got ++ c.in-Ok.buffer ∷ [] = search rules in
    record {
      count = search rules;
      sizes = ap (map length) grown ∙ one_more_size lines i line got c.in-Ok.buffer within c.line-item.is c.loop-line.invariant.sizes c.in-Ok.ensures.size;
      bytes = subst AreAllBytes (sym grown) (all_more got c.in-Ok.buffer c.loop-line.invariant.bytes c.in-Ok.ensures.bytes);
      leads = λ next now out_now result ends.
          let rest : List ℕ → Plan = λ bytes. read_buffers (drop (i + 1) lines) (got ++ bytes ∷ []) next in
          let at = read_buffers_at lines i line got next within c.line-item.is in
          let P : Plan → Type 0 = λ p. Ends no_sources true p (g.F.Files.state c.loop-line.files) (g.S.Sink.state c.loop-line.out) now out_now result in
          let Q : List (List ℕ) → Type 0 = λ bs. Ends no_sources true (read_buffers (drop (i + 1) lines) bs next) (g.F.Files.state c.fill_buffer.new.files) (g.S.Sink.state c.fill_buffer.new.out) now out_now result in
          c.loop-line.invariant.leads next now out_now result (subst P (sym at) (c.in-Ok.ensures.ok rest now out_now result (subst Q grown ends)));
    }
