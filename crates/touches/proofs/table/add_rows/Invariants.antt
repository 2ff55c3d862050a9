use Rattle.std.proofs.Common.{◌≡◌, ℕ, ◌+◌, ◌-◌, ◌≤◌, ◌^◌, vec_len}
use Rattle.touches.specs.Touched.{byte_of}
use Rattle.touches.proofs.table.add_rows.Given as goal

abbrev pub invariant-loop-alloc : goal.invariant-loop-alloc
invariant-loop-alloc l = record {
  few : vec_len l.rows ≤ 2 ^ 32;
  same : (buffer byte : ℕ) → byte_of l.rows.items buffer byte ≡ byte_of l.fn.rows.items buffer byte;
}

abbrev pub decreases-loop-alloc : goal.decreases-loop-alloc
decreases-loop-alloc l = l.index + 1 - vec_len l.rows
