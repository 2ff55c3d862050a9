-- The uniforms that a QPU begins with.
use Rattle.std.specs.Prelude.{ℕ, ◌+◌, ◌/◌, List, ◌∷◌, ◌++◌, map, get_or, sum_by}
use Rattle.q_lane.specs.declared.kinds.Kind.{Kind}
use Rattle.q_lane.specs.declared.kinds.Kind.TheVariants.{Value as Number, Pointer}
use Rattle.q_lane.specs.Numbers.{word_of}
use Rattle.launch_file.specs.declared.launch.Arg.{Arg}
use Rattle.launch_file.specs.declared.launch.Arg.TheVariants.{Value, Buffer}
use Rattle.launch_file.specs.declared.places.Region2.{Region2}
use Rattle.launch_file.specs.Launches.{LaunchOf, items_of}
use Rattle.launch_file.specs.Layout.{PlacesOf}

-- a batch is sixteen items, and the last one what is left
abbrev pub batches : LaunchOf → ℕ
batches launch = (items_of launch.global + 15) / 16

abbrev pub no_region : Region2
no_region = record { start = 0; len = 0 }

-- where region i stands
abbrev pub address : List Region2 → ℕ → ℕ
address regions i = (get_or regions i no_region).start

-- the word of an argument: the number modulo 2^32, or the address of the buffer
unfoldable pub arg_word : List Region2 → Arg → ℕ
arg_word buffers (Value number) = word_of number
arg_word buffers (Buffer i) = address buffers i

-- what stands before the arguments: the scratch's address, the QPU's number, how many QPUs, batches and items there are, the work dimension, and
-- three global and three local sizes
unfoldable pub work_words : LaunchOf → PlacesOf → ℕ → List ℕ
work_words launch places k =
    address places.scratch k ∷ k ∷ launch.qpus ∷ batches launch ∷ items_of launch.global ∷ launch.dims ∷ (launch.global ++ launch.local)

-- the uniforms of QPU k
unfoldable pub uniforms_of : LaunchOf → PlacesOf → ℕ → List ℕ
uniforms_of launch places k = work_words launch places k ++ map (arg_word places.buffers) launch.args

-- how many uniforms a parameter takes
abbrev pub width : Kind → ℕ
width (Number t) = 1
width Pointer = 1

-- how many uniforms a QPU has for parameters of these kinds
abbrev pub uniform_count : List Kind → ℕ
uniform_count kinds = 12 + sum_by width kinds
