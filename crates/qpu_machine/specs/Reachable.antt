-- What holds in every state that a run reaches: each register and each row of the VPM is sixteen words below 2^32, and each count is in
-- its range.
use Rattle.std.specs.Prelude.{◌≡◌, ℕ, ◌^◌, ◌<◌, ◌≤◌, List, length, get_or, slice_get, true, IfSome}
use Rattle.q_lane.specs.declared.lanes.Lanes.{Lanes}
use Rattle.qpu_rules.specs.declared.recent.Written.{Written}
use Rattle.vpm_words.specs.Piece.{IsTransfer}
use Rattle.vpm_words.specs.Elements.{is_element}
use Rattle.vpm_words.specs.Laws.{IsVpm}
use Rattle.vpm_words.specs.declared.state.Element.{Element}
use Rattle.vpm_words.specs.declared.state.Ports.{Ports}
use Rattle.vpm_words.specs.declared.state.Shared.{Shared}
use Rattle.qpu_machine.specs.declared.plan.Fill.{Fill}
use Rattle.qpu_machine.specs.declared.state.Counts.{Counts}
use Rattle.qpu_machine.specs.declared.state.Flow.{Flow}
use Rattle.qpu_machine.specs.declared.state.Qpu.{Qpu}
use Rattle.qpu_machine.specs.declared.state.Regs.{Regs}
use Rattle.qpu_machine.specs.declared.state.Step.{Step}
use Rattle.qpu_machine.specs.Planned.{Planned, Fixed, IsPlan, LieIn, IsBuilt}
use Rattle.qpu_machine.specs.Operations.{register}
use Rattle.qpu_machine.specs.Opening.{Contents, opening, contents_of}
use Rattle.qpu_machine.specs.MachineState.{MachineState}
use Rattle.qpu_machine.specs.MachineRun.{machine_run}

-- words below 2 ^ 32
abbrev pub AreWords : List ℕ → Type 0
AreWords xs = (i : ℕ) → get_or xs i 0 < 2 ^ 32

-- bytes
abbrev pub AreBytes : List ℕ → Type 0
AreBytes xs = (i : ℕ) → get_or xs i 0 < 256

-- sixteen words
pub record IsVector (xs : List ℕ) : Type 0 where
  pub many : length xs ≡ 16
  pub words : AreWords xs

-- so many registers
pub record AreRegisters (count : ℕ) (file : List (Lanes 16)) : Type 0 where
  pub many : length file ≡ count
  pub each : (x : ℕ) → x < count → IsVector (register file x)

pub record AreRegs (r : Regs) : Type 0 where
  pub a : AreRegisters 32 r.a
  pub b : AreRegisters 32 r.b
  pub acc : AreRegisters 4 r.acc
  pub five : IsVector r.five.words
  pub zero : length r.zero ≡ 16
  pub neg : length r.neg ≡ 16

pub record IsFlow (f : Flow) : Type 0 where
  pub place : f.place < 2 ^ 32
  pub slots : f.slots ≤ 3
  pub target : f.target < 2 ^ 32
  pub ending : f.ending ≤ 2
  pub issued : f.issued < 2 ^ 64

pub record IsWritten (w : Written) : Type 0 where
  pub file_a : IfSome w.file_a (λ x. x < 32)
  pub file_b : IfSome w.file_b (λ x. x < 32)
  pub accs : w.accs < 16

-- the setups of a QPU that has so many uniforms
pub record ArePorts (uniforms : ℕ) (p : Ports) : Type 0 where
  pub taken : p.taken ≤ uniforms
  pub read_row : p.read_row < 64
  pub rows_left : p.rows_left ≤ 16
  pub age : p.age ≤ 3
  pub write_row : IfSome p.write_row (λ row. row < 64)
  pub load : IfSome p.load IsTransfer
  pub store : IfSome p.store IsTransfer

pub record IsQpu (uniforms : ℕ) (q : Qpu) : Type 0 where
  pub regs : AreRegs q.regs
  pub flow : IsFlow q.flow
  pub written : IsWritten q.written
  pub ports : ArePorts uniforms q.ports

-- elements of transfers
abbrev pub AreElements : List Element → Type 0
AreElements es = (i : ℕ) → IfSome (slice_get es i) (λ e. is_element e ≡ true)

-- what so many QPUs share
pub record IsShared (qpus : ℕ) (s : Shared) : Type 0 where
  pub vpm : IsVpm s.vpm
  pub owner : IfSome s.owner (λ k. k < qpus)
  pub loads : AreElements s.loads
  pub stores : AreElements s.stores

pub record AreCounts (c : Counts) : Type 0 where
  pub issued : c.issued < 2 ^ 64
  pub moved : c.moved < 2 ^ 64
  pub loads : c.loads < 2 ^ 64
  pub stores : c.stores < 2 ^ 64

-- what a run never changes, for so many QPUs and a memory of this size
pub record IsFixed (qpus size : ℕ) (g : Fixed) : Type 0 where
  pub built : IsBuilt qpus size g
  pub scratch : LieIn g.scratch size
  pub words : AreWords g.uniforms
  pub per : g.per < 2 ^ 32

-- the state is in range
pub record IsInRange (s : MachineState) : Type 0 where
  pub fixed : IsFixed (length s.qpus) (length s.memory) s.fixed
  pub qpus : (k : ℕ) → IfSome (slice_get s.qpus k) (IsQpu s.fixed.per)
  pub shared : IsShared (length s.qpus) s.shared
  pub counts : AreCounts s.counts
  pub memory : AreBytes s.memory

-- contents of so many QPUs
pub record AreContents (qpus : ℕ) (c : Contents) : Type 0 where
  pub many : length c.regs ≡ qpus
  pub regs : (k : ℕ) → IfSome (slice_get c.regs k) AreRegs
  pub vpm : IsVpm c.vpm

-- an opening is in range, whatever its registers, its VPM and its memory hold
abbrev pub OpeningInRange : Type 0
OpeningInRange =
    (plan : Planned) (contents : Contents) → IsPlan plan → AreContents plan.qpus contents
    → AreWords plan.uniforms → AreBytes plan.memory → IsInRange (opening plan contents)

-- and a run keeps it
abbrev pub RunInRange : Type 0
RunInRange = (steps : List Step) (s : MachineState) → IsInRange s → IsInRange (machine_run steps s)

-- zeros, and the numbers of a seed, are contents in range
abbrev pub FillInRange : Type 0
FillInRange = (fill : Fill) (qpus : ℕ) → AreContents qpus (contents_of fill qpus)
