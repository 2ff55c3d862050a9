-- Calls that fail by their number.
use Rattle.std.proofs.Common.{ℕ, zero, suc, ◌≤◌, Bool, true, false, cond, List, arith}
use Rattle.q_io.specs.InMemory.{is_listed, failed_among}

at_most_one : (b : Bool) → cond b 1 0 ≤ 1
at_most_one true = omega arith
at_most_one false = omega arith

-- no more fail than are made
pub failed_among_le : (fail : List ℕ) (calls : ℕ) → failed_among fail calls ≤ calls
failed_among_le fail zero = omega arith
failed_among_le fail (suc calls) = omega (arith, failed_among_le fail calls, at_most_one (is_listed fail calls))
