-- Steps of the read of a module, each a test of what was read.
use Rattle.std.proofs.Common.{◌≡◌, inr, ℕ, true, List, refl, sym, ap, ◌∙◌, subst}
use Rattle.vc4q_module.proofs.ModuleLaws.{module_in-bytes}
use Rattle.std.specs.Prelude.{Option, Some, None}
use Rattle.q_io.specs.FilesMeaning.{FilesState}
use Rattle.q_io.specs.SinkMeaning.{SinkState}
use Rattle.vc4q_module.specs.declared.fault.ModFault.{ModFault}
use Rattle.vc4q_module.specs.declared.fault.ModFault.TheVariants.{At, Memory as ModuleMemory}
use Rattle.vc4q_module.specs.ModuleBytes.{ModuleOf, IsModule, module_bytes, module_in, first_fault as module_fault}
use Rattle.commands.specs.Plan.{Plan, HasRead, Ends, Leads}
use Rattle.commands.specs.Loading.{module_limit, after_module, module_plan, RefusesModule, IsModuleFault}
use Rattle.commands.proofs.Steps.{gives_up}
use Rattle.commands.specs.declared.status.Status.{Status}
use Rattle.commands.specs.declared.status.Status.TheVariants.{Memory}
use Rattle.promise.specs.Language.{Sources}

-- a run that was short of memory and wrote nothing is an end of any plan
pub short : (sources : Sources) (plan : Plan) (files : FilesState) (out out_now : SinkState) (result : Status) → (out_now ≡ out) × (result ≡ Memory) → Ends sources true plan files out files out_now result
short sources plan files out out_now result h =
    subst (λ o. Ends sources true plan files out files o result) (sym h.0) (subst (λ s. Ends sources true plan files out files out s) (sym h.1) (gives_up sources plan files out))

refused_module : (sources : Sources) (there : Option ℕ) (next : ModuleOf → Plan) (code : ModuleOf) (fault : ModFault) (files : FilesState) (out out_now : SinkState) (result : Status)
    → IsModuleFault there fault → RefusesModule fault out out_now result
    → Ends sources true (after_module there next code) files out files out_now result
refused_module sources there next code (At place) files out out_now result is says =
    subst (λ f. Ends sources true (after_module f next code) files out files out_now result) (sym is) (inr (refl, says))
refused_module sources there next code ModuleMemory files out out_now result is says = short sources (after_module there next code) files out out_now result says

pub module_fault_is : (bytes : List ℕ) (fault : ModFault) → ((place : ℕ) → fault ≡ At place → module_fault bytes ≡ Some place) → IsModuleFault (module_fault bytes) fault
module_fault_is bytes (At place) h = h place refl
module_fault_is bytes ModuleMemory h = tt

-- a module that has these bytes is the one that stands in them
pub module_read : (bytes : List ℕ) (code : ModuleOf) → IsModule code → bytes ≡ module_bytes code → code ≡ module_in bytes
module_read bytes code is spelled = sym (ap module_in spelled ∙ module_in-bytes code is)

module _ (sources : Sources) (module_name bytes : List ℕ) (next : ModuleOf → Plan) (before mid : FilesState) (out : SinkState) (read : HasRead before mid module_name module_limit bytes) where
  -- the file is no module
  pub module_refused : (fault : ModFault) (out_now : SinkState) (result : Status) → IsModuleFault (module_fault bytes) fault → RefusesModule fault out out_now result
      → Ends sources true (module_plan module_name next) before out mid out_now result
  unfolding module_plan
  module_refused fault out_now result is says =
      inr (inr (bytes, mid, read, refused_module sources (module_fault bytes) next (module_in bytes) fault mid out out_now result is says))

  -- the file is a module
  pub module_loads : (code : ModuleOf) → module_fault bytes ≡ None → code ≡ module_in bytes → Leads sources true (module_plan module_name next) before out (next code) mid out
  unfolding module_plan
  module_loads code none is = λ now out_now result ends.
      let known : Ends sources true (next (module_in bytes)) mid out now out_now result = subst (λ m. Ends sources true (next m) mid out now out_now result) is ends in
      inr (inr (bytes, mid, read, subst (λ f. Ends sources true (after_module f next (module_in bytes)) mid out now out_now result) (sym none) known))
