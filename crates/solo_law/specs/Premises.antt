-- What the laws ask of an opening: the run of each QPU alone is clean, and the footprints of no two conflict. It is this project's own.
use Rattle.std.specs.Prelude.{◌≡◌, ◌≢◌, ℕ, ◌/◌, ◌<◌, List, [], length, true, get_or}
use Rattle.std.specs.declared.option.Option.TheVariants.{None}
use Rattle.vpm_words.specs.Access.{Given}
use Rattle.qpu_machine.specs.declared.state.Qpu.{Qpu}
use Rattle.qpu_machine.specs.Planned.{site_of}
use Rattle.qpu_machine.specs.Opening.{opening_qpu, zero_regs}
use Rattle.qpu_machine.specs.MachineState.{MachineState}
use Rattle.qpu_machine.specs.Reachable.{IsInRange}
use Rattle.qpu_machine.specs.SoloRun.{Want, want, Solo, Change, alone, solo, AreGiven, IsClean, Reads, Writes, Changes, Sets, Touches}
use Rattle.solo_law.specs.Sharing.{Shares, of_qpu, AreOperands, Commute}

-- ---- the run of QPU k alone, from a state of the machine

-- QPU k; a number past the last stands for a QPU of zeros, which nothing speaks of
abbrev pub qpu_at : MachineState → ℕ → Qpu
qpu_at w k = get_or w.qpus k (opening_qpu zero_regs)

abbrev pub solo_of : Shares → MachineState → ℕ → List Given → Solo
solo_of x w k contents = solo (of_qpu x k) w.fixed.code (site_of w.fixed k) (alone w (qpu_at w k)) contents

-- what its next word wants
abbrev pub next_of : MachineState → ℕ → Solo → Want
next_of w k s = want w.fixed.code (site_of w.fixed k) s.qpu

-- contents that its acquires may find
abbrev pub AreContentsFor : MachineState → List Given → Type 0
AreContentsFor w contents = AreGiven (length w.memory) contents

abbrev pub IsCleanOf : Shares → MachineState → ℕ → Type 0
IsCleanOf x w k = IsClean (of_qpu x k) w.fixed.code (site_of w.fixed k) (alone w (qpu_at w k))

-- its footprint: the bytes that it reads, that it writes, and that a change section loads or stores
abbrev pub ReadsOf : Shares → MachineState → ℕ → ℕ → Type 0
ReadsOf x w k a = Reads (of_qpu x k) w.fixed.code (site_of w.fixed k) (alone w (qpu_at w k)) a

abbrev pub WritesOf : Shares → MachineState → ℕ → ℕ → Type 0
WritesOf x w k a = Writes (of_qpu x k) w.fixed.code (site_of w.fixed k) (alone w (qpu_at w k)) a

abbrev pub ChangesOf : Shares → MachineState → ℕ → ℕ → Change → Type 0
ChangesOf x w k a c = Changes (of_qpu x k) w.fixed.code (site_of w.fixed k) (alone w (qpu_at w k)) a c

-- it writes or changes the byte
abbrev pub SetsOf : Shares → MachineState → ℕ → ℕ → Type 0
SetsOf x w k a = Sets (of_qpu x k) w.fixed.code (site_of w.fixed k) (alone w (qpu_at w k)) a

-- it reads, writes or changes the byte
abbrev pub TouchesOf : Shares → MachineState → ℕ → ℕ → Type 0
TouchesOf x w k a = Touches (of_qpu x k) w.fixed.code (site_of w.fixed k) (alone w (qpu_at w k)) a

-- ---- an opening, and two QPUs of it

-- nobody owns the mutex, the engines are idle, no restriction is broken, and all is in range, so there are at most twelve QPUs
pub record IsStart (w : MachineState) : Type 0 where
  pub owner : w.shared.owner ≡ None
  pub loads : w.shared.loads ≡ []
  pub stores : w.shared.stores ≡ []
  pub broken : w.broken ≡ None
  pub range : IsInRange w

-- the footprints of QPUs j and k don't conflict, where j's writes and changes are looked at. A byte that both change is one of a shared
-- word, and it doesn't matter which of them changes it first
pub record DontConflict (x : Shares) (w : MachineState) (j k : ℕ) : Type 0 where
  pub writes : (a : ℕ) → WritesOf x w j a → ¬ (TouchesOf x w k a)
  pub changes : (a : ℕ) (c : Change) → ChangesOf x w j a c → ¬ (ReadsOf x w k a)
  pub commute : (a : ℕ) (c d : Change) → ChangesOf x w j a c → ChangesOf x w k a d → Commute c d
  pub shared : (a : ℕ) (c d : Change) → ChangesOf x w j a c → ChangesOf x w k a d → x.is_shared a ≡ true

-- the premises of the laws
pub record Premises (x : Shares) (w : MachineState) : Type 0 where
  pub start : IsStart w
  -- each QPU alone is clean
  pub clean : (k : ℕ) → k < length w.qpus → IsCleanOf x w k
  -- and no two of them conflict
  pub apart : (j k : ℕ) → j < length w.qpus → k < length w.qpus → j ≢ k → DontConflict x w j k
  -- shared words are whole aligned words, and operands of changes are words
  pub whole : (a b : ℕ) → a / 4 ≡ b / 4 → x.is_shared a ≡ x.is_shared b
  pub operands : AreOperands x
