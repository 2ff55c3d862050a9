-- The state of the whole machine, and whether its run goes on. Registers, flags, VPM, mutex and engines are those of Broadcom's VideoCore IV
-- 3D Architecture Reference Guide; one state of all of them, its counts and its stop are this project's own.
use Rattle.std.specs.Prelude.{ℕ, List, [], Bool, true, false, not, ◌&&◌, get_or}
use Rattle.std.specs.List.{list_all}
use Rattle.std.specs.declared.option.Option.{Option}
use Rattle.std.specs.declared.option.Option.TheVariants.{Some, None}
use Rattle.vpm_words.specs.Access.{is_busy}
use Rattle.vpm_words.specs.declared.state.Shared.{Shared}
use Rattle.qpu_machine.specs.declared.state.Stop.{Stop}
use Rattle.qpu_machine.specs.declared.state.Stop.TheVariants as stop
use Rattle.qpu_machine.specs.declared.state.Qpu.{Qpu}
use Rattle.qpu_machine.specs.declared.state.QpuView.{QpuView}
use Rattle.qpu_machine.specs.declared.state.Counts.{Counts}
use Rattle.qpu_machine.specs.declared.state.Fault.{Fault}
use Rattle.qpu_machine.specs.Planned.{Fixed}

-- the state
pub record MachineState : Type 0 where
  -- the code, the uniforms and the regions
  pub fixed : Fixed
  pub qpus : List Qpu
  -- the VPM, the owner of the mutex, and the elements that each engine has left
  pub shared : Shared
  pub counts : Counts
  -- one list of bytes
  pub memory : List ℕ
  -- the restriction that stopped the run
  pub broken : Option Fault

-- all QPUs have ended
abbrev pub all_ended : List Qpu → Bool
all_ended qpus = list_all (λ q. q.flow.ended) qpus

-- neither engine has an element left
abbrev pub are_idle : Shared → Bool
are_idle s = not (is_busy s.loads) && not (is_busy s.stores)

-- a broken restriction comes first
abbrev pub stop_at : Option Fault → Bool → Stop
stop_at (Some fault) over = stop.Broken fault.rule fault.qpu fault.place
stop_at None true = stop.Finished
stop_at None false = stop.Going

-- whether a run goes on: it stops at a broken restriction, and is finished where all QPUs have ended and no element is left
unfoldable pub stop_of : MachineState → Stop
stop_of s = stop_at s.broken (are_idle s.shared && all_ended s.qpus)

-- a QPU from outside
abbrev pub view_of : Qpu → QpuView
view_of q = record { ended = q.flow.ended; place = q.flow.place; issued = q.flow.issued; r0 = get_or q.regs.acc 0 (record { words = [] }) }
