-- The opening state of a machine: registers, accumulators, r5, flags and the VPM may hold anything. It is this project's own, and so are the
-- two contents that the code makes.
use Rattle.std.specs.Prelude.{ℕ, ◌+◌, ◌*◌, ◌/◌, ◌%◌, ◌^◌, List, [], replicate, map, Bool, false, ◌==◌}
use Rattle.std.specs.List.{range_with_len}
use Rattle.std.specs.declared.option.Option.TheVariants.{None}
use Rattle.q_lane.specs.declared.lanes.Lanes.{Lanes}
use Rattle.q_lane.specs.Vectors.{lanes}
use Rattle.qpu_rules.specs.declared.recent.Written.{Written}
use Rattle.vpm_words.specs.Access.{no_setups}
use Rattle.vpm_words.specs.declared.state.Shared.{Shared}
use Rattle.qpu_machine.specs.declared.state.Qpu.{Qpu}
use Rattle.qpu_machine.specs.declared.state.Regs.{Regs}
use Rattle.qpu_machine.specs.declared.state.Counts.{Counts}
use Rattle.qpu_machine.specs.declared.plan.Fill.{Fill}
use Rattle.qpu_machine.specs.declared.plan.Fill.TheVariants.{Zero, Seed}
use Rattle.qpu_machine.specs.Planned.{Planned, Fixed}
use Rattle.qpu_machine.specs.MachineState.{MachineState}
use Rattle.qpu_machine.specs.Schedules.{draw}

-- nothing was written yet
abbrev pub none_written : Written
none_written = record { file_a = None; file_b = None; accs = 0; five = false }

-- a QPU that has done nothing, with these registers: its place is 0 and it has no setup
unfoldable pub opening_qpu : Regs → Qpu
opening_qpu regs =
    record {
      regs = regs;
      flow = record { place = 0; ended = false; slots = 0; target = 0; ending = 0; issued = 0 };
      written = none_written;
      ports = no_setups;
    }

-- this VPM, a free mutex and idle engines
unfoldable pub opening_shared : List (List ℕ) → Shared
opening_shared vpm = record { vpm = vpm; owner = None; loads = []; stores = [] }

-- what a run of this plan never changes
abbrev pub fixed_of : Planned → Fixed
fixed_of plan = record { code = plan.words; uniforms = plan.uniforms; per = plan.per; buffers = plan.buffers; scratch = plan.scratch }

-- nothing was done
abbrev pub zero_counts : Counts
zero_counts = record { issued = 0; moved = 0; loads = 0; stores = 0 }

-- what the registers of each QPU and the VPM open with
pub record Contents : Type 0 where
  pub regs : List Regs
  pub vpm : List (List ℕ)

-- the opening of a plan with these contents, one QPU for each of the registers, in their order
unfoldable pub opening : Planned → Contents → MachineState
opening plan contents =
    record {
      fixed = fixed_of plan;
      qpus = map opening_qpu contents.regs;
      shared = opening_shared contents.vpm;
      counts = zero_counts;
      memory = plan.memory;
      broken = None;
    }

-- ---- two contents that the code makes

-- sixteen zeros
abbrev pub zeros : Lanes 16
zeros = record { words = replicate 16 0 }

-- all registers, accumulators and flags zero
unfoldable pub zero_regs : Regs
zero_regs =
    record {
      a = replicate 32 zeros;
      b = replicate 32 zeros;
      acc = replicate 4 zeros;
      five = zeros;
      zero = replicate 16 false;
      neg = replicate 16 false;
    }

-- sixteen words that a seed gives, from number n on
abbrev pub drawn_lanes : ℕ → ℕ → Lanes 16
drawn_lanes seed n = record { words = lanes 16 (λ i. draw seed (n + i)) }

-- so many registers, sixteen words each
abbrev pub drawn_file : ℕ → ℕ → ℕ → List (Lanes 16)
drawn_file seed n count = map (λ r. drawn_lanes seed (n + 16 * r)) (range_with_len 0 count)

-- sixteen flags in one word, element i's in bit i
abbrev pub flags_in : ℕ → List Bool
flags_in word = lanes 16 (λ i. word / 2 ^ i % 2 == 1)

-- how many numbers one QPU takes: 32 registers of each file, four accumulators and r5, of sixteen words each, and two words of flags
abbrev pub numbers_each : ℕ
numbers_each = 1106

-- file A, file B, r0 to r3 and r5 from number n on, element by element, and then one word each for the flags Z and N
unfoldable pub drawn_regs : ℕ → ℕ → Regs
drawn_regs seed n =
    record {
      a = drawn_file seed n 32;
      b = drawn_file seed (n + 512) 32;
      acc = drawn_file seed (n + 1024) 4;
      five = drawn_lanes seed (n + 1088);
      zero = flags_in (draw seed (n + 1104));
      neg = flags_in (draw seed (n + 1105));
    }

-- the VPM from number n on, row by row
unfoldable pub drawn_vpm : ℕ → ℕ → List (List ℕ)
drawn_vpm seed n = map (λ y. lanes 16 (λ i. draw seed (n + 16 * y + i))) (range_with_len 0 64)

-- what so many QPUs and the VPM open with: zeros, or the numbers of a seed, QPU by QPU, and then the VPM
abbrev pub contents_of : Fill → ℕ → Contents
contents_of Zero qpus = record { regs = replicate qpus zero_regs; vpm = replicate 64 (replicate 16 0) }
contents_of (Seed seed) qpus =
    record {
      regs = map (λ k. drawn_regs seed (numbers_each * k)) (range_with_len 0 qpus);
      vpm = drawn_vpm seed (numbers_each * qpus);
    }
