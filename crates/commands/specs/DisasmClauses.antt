-- What `disasm` has done where it ends with an answer of its own, and where it comes to its end.
use Rattle.std.specs.Prelude.{◌≡◌, ◌≢◌, ◌⊎◌, ◌≤◌, ℕ, List, length, Option, Some, None}
use Rattle.q_io.specs.FilesMeaning.{Tree, FilesState}
use Rattle.q_io.specs.SinkMeaning.{SinkState, Gains}
use Rattle.vc4q_module.specs.ModuleBytes.{ModuleOf, first_fault as module_fault}
use Rattle.commands.specs.Loading.{module_limit}
use Rattle.commands.specs.Disasm.{listing}
use Rattle.commands.specs.ExecClauses.{IsReadModule, RefusedModule}
use Rattle.commands.specs.CompileClauses.{IsEarly}
use Rattle.commands.specs.declared.status.Status.{Status}
use Rattle.commands.specs.declared.status.Status.TheVariants.{Done, Memory, Refused, BadModule}

-- The module that was read was listed, a line for each of its words.
pub record Listed (module_name : List ℕ) (before : FilesState) (out_before out_now : SinkState) : Type 0 where
  pub code : ModuleOf
  pub is_read : IsReadModule module_name before code
  pub lines : Gains out_before out_now (listing code.words)

-- What each answer of the program's own says of a `disasm`. No file changes.
pub record DisasmAnswers (module_name : List ℕ) (before : FilesState) (out_before : SinkState) (now : FilesState) (out_now : SinkState) (result : Status) : Type 0 where
  pub listed : result ≡ Done → Listed module_name before out_before out_now
  pub bad_module : result ≡ BadModule → RefusedModule module_name before out_before now out_now
  pub own : (result ≡ Done) ⊎ ((result ≡ BadModule) ⊎ (IsEarly result × (result ≢ Refused)))
  pub files : now.told ≡ before.told

-- the answer of a file whose first failing test has this place, or none
abbrev pub disasm_status : Option ℕ → Status
disasm_status None = Done
disasm_status (Some place) = BadModule

-- A `disasm` of a file comes to its end, or wants memory: it lists a module, and refuses another file.
abbrev pub DisasmEnds : (module_name : List ℕ) → Tree → Status → Type 0
DisasmEnds module_name tree result =
    (bytes : List ℕ) → tree module_name ≡ Some bytes → length bytes ≤ module_limit
    → (result ≡ disasm_status (module_fault bytes)) ⊎ (result ≡ Memory)
