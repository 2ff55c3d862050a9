-- What is tested of an opening before a machine is begun with it.
use Rattle.std.specs.Prelude.{◌≡◌, ℕ, ◌+◌, ◌*◌, ◌^◌, ◌<◌, ◌≤◌, ◌⊎◌, length}
use Rattle.vpm_words.specs.declared.state.Region.{Region}
use Rattle.machine_rows.specs.declared.openings.Places.{Places}
use Rattle.machine_rows.specs.declared.openings.Opening.{Opening}

-- no byte lies in both
abbrev pub AreClear : Region → Region → Type 0
AreClear one other = (one.len ≡ 0) ⊎ (other.len ≡ 0) ⊎ (one.start + one.len ≤ other.start) ⊎ (other.start + other.len ≤ one.start)

-- the region lies in a memory of so many bytes
abbrev pub LiesIn : ℕ → Region → Type 0
LiesIn size region = region.start + region.len ≤ size

-- the buffers lie in a memory of so many bytes, and apart
pub record ArePlaced (size : ℕ) (places : Places) : Type 0 where
  pub first : LiesIn size places.first
  pub second : LiesIn size places.second
  pub third : LiesIn size places.third
  pub first_second : AreClear places.first places.second
  pub first_third : AreClear places.first places.third
  pub second_third : AreClear places.second places.third

-- so many QPUs can be begun with the opening
pub record IsReady (opening : Opening) (qpus : ℕ) : Type 0 where
  pub some : 1 ≤ qpus
  pub few : qpus ≤ 12
  pub per : opening.per < 2 ^ 32
  pub uniforms : length opening.uniforms.items ≡ qpus * opening.per
  pub code : 1 ≤ length opening.code.items
  pub short : length opening.code.items ≤ 2 ^ 24
  pub memory : length opening.memory.items < 2 ^ 32
  pub placed : ArePlaced (length opening.memory.items) opening.places
