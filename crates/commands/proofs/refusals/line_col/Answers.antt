use Rattle.std.proofs.Common.{◌≡◌, ℕ, ◌+◌, ◌==◌, ◌∙◌, true, false, get_or, sym, ap, arith, rules}
use Rattle.commands.proofs.RefusalLaws.{line_first, column_first, line_at, column_at}
use Rattle.commands.proofs.refusals.line_col.Goals.{then-byte-eq10, else-byte-eq10}
use Rattle.commands.proofs.refusals.line_col.Goals as goal

pub loop-byte-init : goal.loop-byte-init
loop-byte-init c = record { line = sym line_first; column = sym column_first; lines = omega arith; columns = omega arith }

pub loop-byte-preserved : goal.loop-byte-preserved
loop-byte-preserved c =
    let before = c.bytes_before-before.result.now in
    let i : ℕ = c.loop-byte.byte-index in
    let was = c.loop-byte.invariant in
    elim c.if-byte-eq10.branch [
      | then-byte-eq10 w ↦
          let is : (get_or before i 0 == 10) ≡ true = search rules in
          let line = line_at before i true (omega arith) is in
          let column = column_at before i true (omega arith) is in
          record {
            line = w.line-is ∙ ap (λ n. n + 1) was.line ∙ sym line;
            column = w.column-is ∙ sym column;
            lines = (let same = w.line-is in let least = was.lines in omega (arith, same, least));
            columns = (let same = w.column-is in omega (arith, same));
          }
      | else-byte-eq10 w ↦
          let is : (get_or before i 0 == 10) ≡ false = search rules in
          let line = line_at before i false (omega arith) is in
          let column = column_at before i false (omega arith) is in
          record {
            line = (let same = w.line-is in let old = was.line in omega (arith, same, old, line));
            column = w.column-is ∙ ap (λ n. n + 1) was.column ∙ sym column;
            lines = (let same = w.line-is in let least = was.lines in omega (arith, same, least));
            columns = (let same = w.column-is in let least = was.columns in omega (arith, same, least));
          }
    ]
