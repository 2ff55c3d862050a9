-- What holds of the solo run besides.
use Rattle.std.specs.Prelude.{◌≡◌, ℕ, ◌<◌, ◌≤◌, List, length}
use Rattle.vpm_words.specs.Access.{Site, Given}
use Rattle.qpu_machine.specs.Reachable.{AreWords, AreBytes, IsQpu, IsShared}
use Rattle.qpu_machine.specs.SoloRun.{Sharing, Solo, AreGiven, solo}

-- a state of the solo run of one of so many QPUs is in range
pub record IsSoloInRange (qpus : ℕ) (g : Site) (size : ℕ) (s : Solo) : Type 0 where
  pub qpu : IsQpu (length g.uniforms) s.qpu
  pub shared : IsShared qpus s.shared
  pub memory : AreBytes s.memory
  pub many : length s.memory ≡ size

-- the solo run keeps it, whatever contents its acquires find
abbrev pub SoloInRange : Type 0
SoloInRange =
    (qpus : ℕ) (x : Sharing) (code : List ℕ) (g : Site) (start : Solo) (vs : List Given)
    → AreWords g.uniforms → qpus ≤ 12 → g.number < qpus → AreGiven (length start.memory) vs
    → IsSoloInRange qpus g (length start.memory) start → IsSoloInRange qpus g (length start.memory) (solo x code g start vs)
