-- What a machine is begun with, and what of it a run never changes. The memory is one list of bytes; that code and uniforms lie outside it is
-- this project's own.
use Rattle.std.specs.Prelude.{◌≡◌, ℕ, List, ◌++◌, ◌+◌, ◌*◌, ◌^◌, ◌<◌, ◌≤◌, length, get_or, slice_get, slice_range, IfSome}
use Rattle.vpm_words.specs.Access.{Site}
use Rattle.vpm_words.specs.declared.state.Region.{Region}

-- a plan
pub record Planned : Type 0 where
  -- the code, which all QPUs run from word 0 on
  pub words : List ℕ
  pub qpus : ℕ
  -- how many uniforms each QPU has; those of QPU 0 come first
  pub per : ℕ
  pub uniforms : List ℕ
  pub memory : List ℕ
  pub buffers : List Region
  -- one for each QPU
  pub scratch : List Region

-- what of a plan a run never changes
pub record Fixed : Type 0 where
  pub code : List ℕ
  pub uniforms : List ℕ
  pub per : ℕ
  pub buffers : List Region
  pub scratch : List Region

-- the byte at this address lies in the region
abbrev pub Covers : ℕ → Region → Type 0
Covers address region = (region.start ≤ address) × (address < region.start + region.len)

-- each region lies in a memory of so many bytes
abbrev pub LieIn : List Region → ℕ → Type 0
LieIn regions size = (i : ℕ) → IfSome (slice_get regions i) (λ region. region.start + region.len ≤ size)

-- no byte lies in two regions; an empty region covers none
abbrev pub AreApart : List Region → Type 0
AreApart regions =
    (address i j : ℕ) → IfSome (slice_get regions i) (λ one. IfSome (slice_get regions j) (λ other. Covers address one → Covers address other → i ≡ j))

-- a plan that a machine may be begun with: for each QPU its uniforms and one scratch region, and regions that are disjoint and lie in the memory. A VideoCore IV has up to twelve QPUs
pub record IsPlan (plan : Planned) : Type 0 where
  pub some : 1 ≤ plan.qpus
  pub few : plan.qpus ≤ 12
  pub per : plan.per < 2 ^ 32
  pub uniforms : length plan.uniforms ≡ plan.qpus * plan.per
  pub scratch : length plan.scratch ≡ plan.qpus
  pub code : 1 ≤ length plan.words
  pub short : length plan.words ≤ 2 ^ 24
  pub memory : length plan.memory < 2 ^ 32
  pub buffers_within : LieIn plan.buffers (length plan.memory)
  pub scratch_within : LieIn plan.scratch (length plan.memory)
  pub apart : AreApart (plan.buffers ++ plan.scratch)

-- the bytes of a region
abbrev pub bytes_of : List ℕ → Region → List ℕ
bytes_of memory region = slice_range memory region.start (region.start + region.len)

abbrev pub no_region : Region
no_region = record { start = 0; len = 0 }

-- QPU k's number, its uniforms, the buffers, and its own scratch
unfoldable pub site_of : Fixed → ℕ → Site
site_of g k =
    record {
      number = k;
      uniforms = slice_range g.uniforms (k * g.per) (k * g.per + g.per);
      buffers = g.buffers;
      scratch = get_or g.scratch k no_region;
    }

-- each of so many QPUs has its uniforms and its scratch
pub record HasSites (qpus : ℕ) (g : Fixed) : Type 0 where
  pub uniforms : length g.uniforms ≡ qpus * g.per
  pub scratch : length g.scratch ≡ qpus

-- what so many QPUs and a memory of this size go with: a VideoCore IV has up to twelve QPUs
pub record IsBuilt (qpus size : ℕ) (g : Fixed) : Type 0 where
  pub few : qpus ≤ 12
  pub buffers : LieIn g.buffers size
  pub sites : HasSites qpus g
