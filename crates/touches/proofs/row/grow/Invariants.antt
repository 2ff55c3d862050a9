use Rattle.std.proofs.Common.{◌≡◌, ℕ, ◌-◌, ◌<◌, ◌^◌, vec_len}
use Rattle.touches.specs.Touched.{byte_in}
use Rattle.touches.proofs.row.grow.Given as goal

abbrev pub invariant-loop-bytes : goal.invariant-loop-bytes
invariant-loop-bytes l = record {
  small : vec_len l.bytes < 2 ^ 32;
  same : (byte : ℕ) → byte_in l.bytes.items byte ≡ byte_in l.fn.bytes.items byte;
}

abbrev pub decreases-loop-bytes : goal.decreases-loop-bytes
decreases-loop-bytes l = l.count - vec_len l.bytes
