-- Modules that are faithful to no kernel: what the definition of faithfulness rules out. The words are those of Broadcom's VideoCore IV 3D
-- Architecture Reference Guide; the choice of them is this project's own.
use Rattle.std.specs.Prelude.{◌≡◌, ℕ, List, [], ◌∷◌}
use Rattle.vc4q_module.specs.ModuleBytes.{ModuleOf}
use Rattle.promise.specs.Kernel.{Kernel, idle_kernel}
use Rattle.promise.specs.Language.{Language}
use Rattle.promise.specs.Faithful.{IsFaithful}

-- the module of these words, without parameters
abbrev pub bare : List ℕ → ModuleOf
bare words = record { rows = 0; kinds = []; words = words }

-- a branch to itself, F0F809E7 FFFFFFE0, and three words that do nothing in its slots
unfoldable pub endless_loop : List ℕ
endless_loop = 17363639255364009952 ∷ 1152932392359325696 ∷ 1152932392359325696 ∷ 1152932392359325696 ∷ []

-- words that do nothing, and no program end
unfoldable pub no_program_end : List ℕ
no_program_end = 1152932392359325696 ∷ 1152932392359325696 ∷ 1152932392359325696 ∷ []

-- a program end that is the last word, so that the two words after it aren't there
unfoldable pub end_in_the_last_word : List ℕ
end_in_the_last_word = 1152932392359325696 ∷ 1152932392359325696 ∷ 3458775401573019648 ∷ []

-- none of the three is faithful to any kernel of a source
pub record WrongModules (l : Language) : Type 0 where
  pub never_ends : (source name : List ℕ) → ¬ (IsFaithful l source name (bare endless_loop))
  pub runs_out : (source name : List ℕ) → ¬ (IsFaithful l source name (bare no_program_end))
  pub cut_short : (source name : List ℕ) → ¬ (IsFaithful l source name (bare end_in_the_last_word))

-- all kernels of the language's sources do nothing
abbrev pub OnlyIdle : Language → Type 0
OnlyIdle l = (source name : List ℕ) (k : Kernel) → l.has_kernel source name k → k ≡ idle_kernel
