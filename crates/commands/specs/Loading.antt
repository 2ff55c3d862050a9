-- How a command reads its module.
use Rattle.std.specs.Prelude.{◌≡◌, ℕ, List, ◌++◌, Option, Some, None, codes, decimal, ⊤}
use Rattle.q_io.specs.SinkMeaning.{SinkState}
use Rattle.vc4q_module.specs.declared.fault.ModFault.{ModFault}
use Rattle.vc4q_module.specs.declared.fault.ModFault.TheVariants.{At, Memory as ModuleMemory}
use Rattle.vc4q_module.specs.ModuleBytes.{ModuleOf, module_in, first_fault as module_fault}
use Rattle.commands.specs.Plan.{Plan, reads, answers, bad_module}
use Rattle.commands.specs.Lines.{Says}
use Rattle.commands.specs.declared.status.Status.{Status}
use Rattle.commands.specs.declared.status.Status.TheVariants.{Memory, BadModule}

-- 40 bytes, and 2 ^ 24 words of 8
abbrev pub module_limit : ℕ
module_limit = 134217768

-- the line of a module whose first failing test has this place
unfoldable pub module_line : ℕ → List ℕ
module_line place = codes "bad module " ++ (decimal place ++ codes "\n")

-- the bytes are those of a module, which is taken further, or the first failing test has this place
abbrev pub after_module : Option ℕ → (ModuleOf → Plan) → ModuleOf → Plan
after_module (Some place) next code = answers bad_module (module_line place)
after_module None next code = next code

-- from the read of the module on
unfoldable pub module_plan : (module_name : List ℕ) → (ModuleOf → Plan) → Plan
module_plan module_name next = reads module_name module_limit (λ bytes. after_module (module_fault bytes) next (module_in bytes))

-- a file that is no module is refused by its line, and where memory is wanting nothing is written
abbrev pub RefusesModule : ModFault → SinkState → SinkState → Status → Type 0
RefusesModule (At place) before now result = Says before now (module_line place) BadModule result
RefusesModule ModuleMemory before now result = (now ≡ before) × (result ≡ Memory)

-- a module isn't read because of the fault that it has, or for want of memory
abbrev pub IsModuleFault : Option ℕ → ModFault → Type 0
IsModuleFault there (At place) = there ≡ Some place
IsModuleFault there ModuleMemory = ⊤
