-- Laws of the bytes of modules.
use Rattle.std.specs.Prelude.{◌≡◌, ℕ, ◌+◌, ◌*◌, ◌<◌, ◌≤◌, List, All, length, take, None}
use Rattle.byteorder.specs.Endian.{little_number}
use Rattle.vc4q_module.specs.ModuleBytes.{ModuleOf, IsModule, module_bytes, first_fault, le32, le64}

-- no two modules in the limits have the same bytes
abbrev pub OneSpelling : Type 0
OneSpelling = (m n : ModuleOf) → IsModule m → IsModule n → module_bytes m ≡ module_bytes n → m ≡ n

-- a module's bytes have no fault
abbrev pub SpellingsPass : Type 0
SpellingsPass = (m : ModuleOf) → IsModule m → first_fault (module_bytes m) ≡ None

-- bytes without a fault are those of a module in the limits
abbrev pub PassingSpells : Type 0
PassingSpells =
    (bytes : List ℕ) → All (λ b. b < 256) bytes → first_fault bytes ≡ None
    → (m : ModuleOf) × (IsModule m × (bytes ≡ module_bytes m))

-- a module has so many bytes
abbrev pub SpellingLength : Type 0
SpellingLength = (m : ModuleOf) → IsModule m → length (module_bytes m) ≡ 40 + 8 * length m.words

-- four and eight bytes are those of the number that stands in them
abbrev pub FourBack : Type 0
FourBack = (bytes : List ℕ) → 4 ≤ length bytes → All (λ b. b < 256) bytes → le32 (little_number 4 bytes) ≡ take 4 bytes

abbrev pub EightBack : Type 0
EightBack = (bytes : List ℕ) → 8 ≤ length bytes → All (λ b. b < 256) bytes → le64 (little_number 8 bytes) ≡ take 8 bytes
