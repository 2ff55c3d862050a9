use Rattle.std.proofs.Common.{◌≡◌, ℕ, ◌≤◌, ◌^◌, drop, vec_len}
use Rattle.touches.specs.Touched.{after_marks, byte_of}
use Rattle.touches.proofs.table.touch_all.Given as goal

abbrev pub invariant-loop-mark : goal.invariant-loop-mark
invariant-loop-mark l = record {
  few : vec_len l.rows ≤ 2 ^ 32;
  rest : (buffer byte : ℕ) → after_marks (drop l.mark-index l.marks) l.item buffer byte (byte_of l.rows.items buffer byte)
      ≡ after_marks l.marks l.item buffer byte (byte_of l.fn.rows.items buffer byte);
}
