use Rattle.std.proofs.Common.{ℕ, ◌-◌, ◌<◌, ◌≤◌, length}
use Rattle.footprint.specs.Order.{IsNoLater, mark_at}
use Rattle.footprint.proofs.order.place_of.Given as goal

abbrev pub invariant-loop-low : goal.invariant-loop-low
invariant-loop-low l = record {
  low_in : l.low ≤ l.high;
  high_in : l.high ≤ length l.marks;
  before : (k : ℕ) → k < l.low → IsNoLater (mark_at l.marks k) l.mark;
  after : (k : ℕ) → l.high ≤ k → k < length l.marks → IsNoLater l.mark (mark_at l.marks k);
}

abbrev pub decreases-loop-low : goal.decreases-loop-low
decreases-loop-low l = l.high - l.low
