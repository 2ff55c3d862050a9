use Rattle.std.proofs.Common.{◌≡◌, refl, arith, ap, sym, ◌∙◌, Some, None, cond, Bool}
use Rattle.launch_file.specs.Fit.{buffer_rule, answer_of}
use Rattle.launch_file.proofs.FitFaults.{moved_past, found_here, none_left, map_rules-at, map_rules-end}
use Rattle.launch_file.proofs.fitting.fit_buffers.Goals as goal

pub returns-then-has_taken_name : goal.returns-then-has_taken_name
returns-then-has_taken_name c =
    let at = map_rules-at (buffer_rule c.args.taken.now) c.args.buffers.now c.loop-buffer.buffer-index c.buffer-item.result c.loop-buffer-test.true c.buffer-item.is in
    let rule : buffer_rule c.args.taken.now c.buffer-item.result ≡ Some 12 = ap (λ (b : Bool). cond b (Some 12) None) (sym c.has_taken_name.ensures ∙ c.if-has_taken_name.true) in
    sym (ap answer_of (found_here _ _ _ _ _ _ at rule c.loop-buffer.invariant.rest))

pub loop-buffer-preserved : goal.loop-buffer-preserved
loop-buffer-preserved c =
    let at = map_rules-at (buffer_rule c.args.taken.now) c.args.buffers.now c.loop-buffer.buffer-index c.buffer-item.result c.loop-buffer-test.true c.buffer-item.is in
    let rule : buffer_rule c.args.taken.now c.buffer-item.result ≡ None = ap (λ (b : Bool). cond b (Some 12) None) (sym c.has_taken_name.ensures ∙ c.if-has_taken_name.false) in
    record {
      line = omega arith;
      rest = moved_past _ _ _ _ _ _ at rule refl c.loop-buffer.invariant.rest;
    }

pub returns : goal.returns
returns c = sym (ap answer_of (none_left _ _ _ (map_rules-end _ c.args.buffers.now c.loop-buffer.buffer-index c.loop-buffer-test.false) c.loop-buffer.invariant.rest))
