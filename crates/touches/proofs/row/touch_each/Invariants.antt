use Rattle.std.proofs.Common.{◌≡◌, ℕ, vec_len}
use Rattle.touches.specs.Touched.{byte_in, part_touched}
use Rattle.touches.proofs.row.touch_each.Given as goal

abbrev pub invariant-loop-at : goal.invariant-loop-at
invariant-loop-at l = record {
  len : vec_len l.bytes ≡ vec_len l.fn.bytes;
  touched : (byte : ℕ) → byte_in l.bytes.items byte ≡ part_touched l.mark.from l.at l.item l.mark.how byte (byte_in l.fn.bytes.items byte);
}
