-- What a kernel is to those who launch it. It is this project's own.
use Rattle.std.specs.Prelude.{ℕ, if◌then◌else◌, nat_lt, List, []}
use Rattle.q_lane.specs.declared.kinds.Kind.{Kind}
use Rattle.launch_file.specs.Launches.{LaunchOf}
use Rattle.launch_meaning.specs.declared.ends.ItemEnd.TheVariants.{Ends, Spent}
use Rattle.launch_meaning.specs.LaunchMeaning.{Item}

-- what a kernel means: the kinds of its parameters in their order, and its items in a launch
pub record Meaning : Type 0 where
  pub kinds : List Kind
  pub item : LaunchOf → Item

-- a kernel that is compiled: how many nodes its source has, besides
pub record Kernel : Type 0 where
  pub kinds : List Kind
  pub nodes : ℕ
  pub item : LaunchOf → Item

-- What the kernels of the forms come to that are compiled today. An item whose body is a block without statements: the block begins, which takes one turn, and the buffers stay as they were
unfoldable pub idle_item : LaunchOf → Item
idle_item launch id buffers turns =
    if nat_lt turns 1 then Spent else Ends (record { buffers = buffers; marks = []; turns = 1 })

-- a kernel without parameters that does nothing: its block is its one node
abbrev pub idle_kernel : Kernel
idle_kernel = record { kinds = []; nodes = 1; item = idle_item }
