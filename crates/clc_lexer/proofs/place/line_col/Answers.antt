use Rattle.std.proofs.Common.{◌≡◌, ℕ, ◌+◌, List, sym, subst, take}
use Rattle.clc_lexer.proofs.Columns.{Counted, newline_counted, other_counted}
use Rattle.clc_lexer.proofs.place.line_col.Goals as goal
use Rattle.clc_lexer.proofs.place.line_col.Goals.{then-byte-eq10, else-byte-eq10}

moved : (bytes : List ℕ) (i line column l m : ℕ) → line ≡ l → column ≡ m → Counted bytes i l m → Counted bytes i line column
moved bytes i line column l m e f h = subst (λ z. Counted bytes i z column) (sym e) (subst (Counted bytes i l) (sym f) h)

pub loop-byte-preserved : goal.loop-byte-preserved
loop-byte-preserved c =
    let bytes = take c.args.at c.args.source.now in
    let i = c.loop-byte.byte-index in
    let line = c.loop-byte.line in
    let column = c.loop-byte.column in
    elim c.if-byte-eq10.branch [
      | then-byte-eq10 w ↦ moved bytes (i + 1) c.if-byte-eq10.line c.if-byte-eq10.column (line + 1) 1 w.line-is w.column-is (newline_counted bytes i line column c.loop-byte-test.true c.loop-byte.invariant w.if-byte-eq10.true)
      | else-byte-eq10 w ↦ moved bytes (i + 1) c.if-byte-eq10.line c.if-byte-eq10.column line (column + 1) w.line-is w.column-is (other_counted bytes i line column c.loop-byte-test.true c.loop-byte.invariant w.if-byte-eq10.false)
    ]
