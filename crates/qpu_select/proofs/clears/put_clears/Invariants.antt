use Rattle.std.proofs.Common.{◌≡◌, ℕ, List, ◌++◌, take, drop, map}
use Rattle.qpu_select.specs.Clears.{clear, cleared, seen_after, Marks}
use Rattle.qpu_select.proofs.clears.put_clears.Given as goal

abbrev pub invariant-loop-w : goal.invariant-loop-w
invariant-loop-w l =
    (seen : List ℕ) → Marks l.initial.flags.items seen
    → (l.ops.items ++ map clear (cleared (seen_after seen (take l.w-index l.list)) (drop l.w-index l.list)) ≡ l.initial.ops.items ++ map clear (cleared seen l.list))
    × Marks l.flags.items (seen_after seen (take l.w-index l.list))
