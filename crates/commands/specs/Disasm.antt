-- The command `disasm`: its places.
use Rattle.std.specs.Prelude.{ℕ, List, [], ◌∷◌, ◌++◌, codes}
use Rattle.vc4q_module.specs.ModuleBytes.{ModuleOf}
use Rattle.qpu_disasm.specs.Listing.{text}
use Rattle.commands.specs.Plan.{Plan, answers, done}
use Rattle.commands.specs.Loading.{module_plan}

-- the line of a word
abbrev pub word_line : ℕ → List ℕ
word_line word = text word ++ codes "\n"

-- a line for each of these words in their order
unfoldable pub listing : List ℕ → List ℕ
listing [] = []
listing (word ∷ words) = word_line word ++ listing words

-- the words of the module are listed
abbrev pub list_plan : ModuleOf → Plan
list_plan code = answers done (listing code.words)

unfoldable pub disasm_plan : (module_name : List ℕ) → Plan
disasm_plan module_name = module_plan module_name list_plan
