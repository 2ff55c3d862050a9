-- The limits of a kernel.
use Rattle.std.specs.Prelude.{◌≡◌, ◌<◌, ◌≤◌, Result, Ok, Err}
use Rattle.clc_counts.specs.declared.tally.Tally.{Tally}
use Rattle.clc_counts.specs.declared.limits.LimitFault.{LimitFault}
use Rattle.clc_counts.specs.declared.limits.LimitFault.TheVariants as f
use Rattle.clc_counts.specs.Counts.{cut}

-- at most 16,384 nodes and 1,024 elements
abbrev pub IsWithin : Tally → Type 0
IsWithin t = (t.nodes ≤ 16384) × (t.elements ≤ 1024)

-- a fault: the nodes, or else the elements of the private arrays, with their number as far as it has 32 bits
abbrev pub Exceeds : Tally → LimitFault → Type 0
Exceeds t (f.N1 count) = (16384 < t.nodes) × (count ≡ cut t.nodes)
Exceeds t (f.N2 count) = (t.nodes ≤ 16384) × (1024 < t.elements) × (count ≡ cut t.elements)
Exceeds t f.Memory = Unit {0}

-- the true counts where they are within the limits, else why they are not
abbrev pub KeepsLimits : Tally → Result Tally LimitFault → Type 0
KeepsLimits t (Ok given) = (given ≡ t) × IsWithin t
KeepsLimits t (Err fault) = Exceeds t fault
