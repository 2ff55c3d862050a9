-- Where a launch's buffers and scratches lie in the memory. The memory begins at address 0. The order of the regions, the gaps and the first
-- address are this project's own.
use Rattle.std.specs.Prelude.{◌≡◌, ℕ, ◌+◌, ◌*◌, ◌/◌, ◌≤◌, List, [], ◌∷◌, map, replicate}
use Rattle.launch_file.specs.declared.launch.BufferLine.{BufferLine}
use Rattle.launch_file.specs.declared.places.Region2.{Region2}
use Rattle.launch_file.specs.Launches.{LaunchOf}

-- the places of a launch's regions: buffers in order, the scratches of QPU 0, 1 and so on, and how many bytes the memory has
pub record PlacesOf : Type 0 where
  pub buffers : List Region2
  pub scratch : List Region2
  pub size : ℕ

-- where the first region stands
abbrev pub first_start : ℕ
first_start = 65536

-- where the region after one stands: 64 bytes behind its end, rounded up to a multiple of 64
abbrev pub next_start : ℕ → ℕ → ℕ
next_start start len = (start + len + 64 + 63) / 64 * 64

-- regions of these lengths, the first at this start
unfoldable pub regions : ℕ → List ℕ → List Region2
regions start [] = []
regions start (len ∷ lens) = record { start = start; len = len } ∷ regions (next_start start len) lens

-- where the region after those would stand
unfoldable pub start_after : ℕ → List ℕ → ℕ
start_after start [] = start
start_after start (len ∷ lens) = start_after (next_start start len) lens

-- how many bytes each buffer has
abbrev pub buffer_lens : List BufferLine → List ℕ
buffer_lens buffers = map (λ buffer. buffer.size) buffers

-- a row of the VPM has 64 bytes
abbrev pub scratch_lens : ℕ → ℕ → List ℕ
scratch_lens qpus rows = replicate qpus (64 * rows)

-- where the first scratch stands
abbrev pub scratch_start : LaunchOf → ℕ
scratch_start launch = start_after first_start (buffer_lens launch.buffers)

-- the places of a launch whose QPUs have scratches of so many rows: the buffers and then the scratches, up to where a further region would stand
unfoldable pub layout_of : LaunchOf → ℕ → PlacesOf
layout_of launch rows =
    record {
      buffers = regions first_start (buffer_lens launch.buffers);
      scratch = regions (scratch_start launch) (scratch_lens launch.qpus rows);
      size = start_after (scratch_start launch) (scratch_lens launch.qpus rows);
    }

-- the most rows that a scratch has
abbrev pub most_rows : ℕ
most_rows = 262144

-- these are the places of the launch, for some number of rows
abbrev pub ArePlaces : LaunchOf → PlacesOf → Type 0
ArePlaces launch places = (rows : ℕ) × (rows ≤ most_rows) × (places ≡ layout_of launch rows)
