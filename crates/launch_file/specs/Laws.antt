-- Laws of the layout, of the fit and of the uniforms.
use Rattle.std.specs.Prelude.{◌≡◌, ◌↔◌, ℕ, ◌+◌, ◌%◌, ◌^◌, ◌<◌, ◌≤◌, ◌≤ℤ◌, ◌++◌, List, map, length, slice_get, Contains, IfSome, None}
use Rattle.std.specs.List.{All, AllPairs}
use Rattle.q_lane.specs.declared.kinds.Kind.{Kind}
use Rattle.q_lane.specs.declared.kinds.Kind.TheVariants.{Value as Number, Pointer}
use Rattle.launch_file.specs.declared.launch.Arg.{Arg}
use Rattle.launch_file.specs.declared.launch.Arg.TheVariants.{Value, Buffer}
use Rattle.launch_file.specs.declared.places.Region2.{Region2}
use Rattle.launch_file.specs.Launches.{LaunchOf, IsLaunch}
use Rattle.launch_file.specs.Layout.{PlacesOf, first_start, buffer_lens, scratch_lens, most_rows, layout_of}
use Rattle.launch_file.specs.Fit.{least, greatest, fit_fault}
use Rattle.launch_file.specs.Uniforms.{uniforms_of, uniform_count}

-- how many bytes each region has
abbrev pub lens_of : List Region2 → List ℕ
lens_of regions = map (λ region. region.len) regions

-- good places of a launch, for scratches of so many rows
pub record ArePlaced (launch : LaunchOf) (rows : ℕ) (places : PlacesOf) : Type 0 where
  -- there is one region for each buffer and for each QPU, of its length
  pub buffers : lens_of places.buffers ≡ buffer_lens launch.buffers
  pub scratch : lens_of places.scratch ≡ scratch_lens launch.qpus rows
  -- 64 bytes or more lie between any two
  pub apart : AllPairs (λ one later. one.start + one.len + 64 ≤ later.start) (places.buffers ++ places.scratch)
  pub aligned : All (λ region. region.start % 64 ≡ 0) (places.buffers ++ places.scratch)
  pub above : All (λ region. first_start ≤ region.start) (places.buffers ++ places.scratch)
  pub inside : All (λ region. region.start + region.len ≤ places.size) (places.buffers ++ places.scratch)
  pub small : places.size < 2 ^ 32

abbrev pub LayoutIsGood : Type 0
LayoutIsGood = (launch : LaunchOf) (rows : ℕ) → IsLaunch launch → rows ≤ most_rows → ArePlaced launch rows (layout_of launch rows)

-- what a parameter takes: a number of its type, or a buffer
abbrev pub Suits : Arg → Kind → Type 0
Suits (Value number) (Number scalar) = (least scalar ≤ℤ number) × (number ≤ℤ greatest scalar)
Suits (Value number) Pointer = ⊥
Suits (Buffer i) (Number scalar) = ⊥
Suits (Buffer i) Pointer = Unit {0}

-- a launch that fits parameters of these kinds and a command that names these files
pub record Fits (launch : LaunchOf) (kinds : List Kind) (taken : List (List ℕ)) : Type 0 where
  pub count : length launch.args ≡ length kinds
  pub args : (i : ℕ) → IfSome (slice_get launch.args i) (λ arg. IfSome (slice_get kinds i) (Suits arg))
  pub names : (i : ℕ) → IfSome (slice_get launch.buffers i) (λ buffer. IfSome buffer.to (λ name. Contains taken name → ⊥))

-- no fault is found just where the launch fits
abbrev pub NoFaultIsFit : Type 0
NoFaultIsFit = (launch : LaunchOf) (kinds : List Kind) (taken : List (List ℕ)) → (fit_fault launch kinds taken ≡ None) ↔ Fits launch kinds taken

-- a launch that fits has as many uniforms as its parameters take
abbrev pub UniformsAreCounted : Type 0
UniformsAreCounted = (launch : LaunchOf) (kinds : List Kind) (taken : List (List ℕ)) (places : PlacesOf) (qpu : ℕ) → IsLaunch launch → Fits launch kinds taken
    → length (uniforms_of launch places qpu) ≡ uniform_count kinds
