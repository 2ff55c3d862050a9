-- What a work-item may ask of its launch (OpenCL C 1.2, 6.12.1). For a dimension above 2 an id is 0, and a size or a count is 1.
use Rattle.std.specs.Prelude.{ℕ, ◌*◌, ◌/◌, ◌%◌, List, [], ◌∷◌, get_or}
use Rattle.q_functions.specs.declared.functions.WorkFunction.{WorkFunction}
use Rattle.q_functions.specs.declared.functions.WorkFunction.TheVariants.{WorkDim, GlobalId, GlobalSize, LocalId, LocalSize, GroupId, NumGroups}
use Rattle.q_functions.specs.declared.work.Work.{Work}

-- the item of this flat id, which is g0 + G0 * (g1 + G1 * g2) where it has the ids g and the launch the sizes G
abbrev pub work_of : (dims : ℕ) (global local : List ℕ) → (flat : ℕ) → Work
work_of dims global local flat =
    record {
      dims = dims;
      global = global;
      local = local;
      id = flat % get_or global 0 1 ∷ flat / get_or global 0 1 % get_or global 1 1 ∷ flat / (get_or global 0 1 * get_or global 1 1) ∷ [];
    }

abbrev pub global_id : Work → ℕ → ℕ
global_id w d = get_or w.id d 0

abbrev pub global_size : Work → ℕ → ℕ
global_size w d = get_or w.global d 1

abbrev pub local_size : Work → ℕ → ℕ
local_size w d = get_or w.local d 1

-- the id in the group, and the group; global sizes are multiples of local ones
abbrev pub local_id : Work → ℕ → ℕ
local_id w d = global_id w d % local_size w d

abbrev pub group_id : Work → ℕ → ℕ
group_id w d = global_id w d / local_size w d

abbrev pub num_groups : Work → ℕ → ℕ
num_groups w d = global_size w d / local_size w d

-- what a function gives for a dimension; get_work_dim looks at none
unfoldable pub work_function : WorkFunction → Work → ℕ → ℕ
work_function WorkDim w d = w.dims
work_function GlobalId w d = global_id w d
work_function GlobalSize w d = global_size w d
work_function LocalId w d = local_id w d
work_function LocalSize w d = local_size w d
work_function GroupId w d = group_id w d
work_function NumGroups w d = num_groups w d
