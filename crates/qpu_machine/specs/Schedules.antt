-- The schedules that the program runs, as lists of steps; all of them are this project's own.
use Rattle.std.specs.Prelude.{ℕ, zero, suc, ◌+◌, ◌*◌, ◌/◌, ◌%◌, ◌^◌, List, [], ◌∷◌, ◌++◌, map, if◌then◌else◌, nat_lt, ◌==◌}
use Rattle.std.specs.List.{range_with_len}
use Rattle.qpu_machine.specs.declared.state.Step.{Step}
use Rattle.qpu_machine.specs.declared.state.Step.TheVariants.{Issue, Load, Store}

-- ---- rounds

-- an issue of each QPU in order, and a move of each engine's first element
unfoldable pub round : ℕ → List Step
round qpus = map Issue (range_with_len 0 qpus) ++ Load 0 ∷ Store 0 ∷ []

-- so many rounds
unfoldable pub rounds_of : ℕ → ℕ → List Step
rounds_of zero qpus = []
rounds_of (suc rounds) qpus = round qpus ++ rounds_of rounds qpus

-- ---- numbers from a seed

-- the generator's next state: Knuth's multiplier of MMIX, modulo 2 ^ 64
unfoldable pub next_seed : ℕ → ℕ
next_seed x = (6364136223846793005 * x + 1442695040888963407) % 2 ^ 64

-- its state after so many
unfoldable pub seed_after : ℕ → ℕ → ℕ
seed_after x zero = x
seed_after x (suc n) = seed_after (next_seed x) n

-- a state gives its upper 32 bits
abbrev pub drawn : ℕ → ℕ
drawn x = x / 2 ^ 32

-- number n of those that a seed gives
abbrev pub draw : ℕ → ℕ → ℕ
draw seed n = drawn (seed_after seed (n + 1))

-- the step of a drawn number: of q QPUs and two engines one, and of an engine's elements one
unfoldable pub step_at : ℕ → ℕ → Step
step_at qpus h =
    if nat_lt (h % (qpus + 2)) qpus then Issue (h % (qpus + 2))
    else (if h % (qpus + 2) == qpus then Load (h / 64) else Store (h / 64))

-- so many steps
unfoldable pub seeded_of : ℕ → ℕ → ℕ → List Step
seeded_of seed zero qpus = []
seeded_of seed (suc steps) qpus = step_at qpus (drawn (next_seed seed)) ∷ seeded_of (next_seed seed) steps qpus

-- ---- the bytes of a file

-- the step of a byte: an issue by its low four bits, or a move of an engine's element by its high four
unfoldable pub byte_step : ℕ → Step
byte_step b =
    if nat_lt (b % 16) 12 then Issue (b % 16)
    else (if nat_lt (b % 16) 14 then Load (b / 16) else Store (b / 16))

-- so many times over
unfoldable pub listed_of : List ℕ → ℕ → List Step
listed_of bytes zero = []
listed_of bytes (suc times) = map byte_step bytes ++ listed_of bytes times
