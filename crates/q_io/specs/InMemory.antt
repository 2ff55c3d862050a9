-- What the objects in memory stand for.
use Rattle.std.specs.List.{list_any}
use Rattle.std.specs.Prelude.{◌≡◌, ℕ, zero, suc, ◌+◌, ◌-◌, ◌^◌, ◌<◌, ◌==◌, min, if◌then◌else◌, Bool, IsTrue, List, [], Option, Some, IsSomeAnd, option_map, Vec}
use Rattle.std.specs.declared.alloc.Global.{Global}
use Rattle.std.specs.Ordering.{nat_cmp}
use Rattle.std.specs.Cmp.Lexicographic.{slice_cmp}
use Rattle.std.specs.BTreeMap.{BTreeMap, get}
use Rattle.q_io.specs.FilesMeaning.{Tree, FilesState}
use Rattle.q_io.specs.SinkMeaning.{SinkState}

-- the files of a map from names to bytes
abbrev pub tree_of : BTreeMap (List ℕ) (Vec ℕ Global) → Tree
tree_of files = λ name. option_map (λ bytes. bytes.items) (get (slice_cmp nat_cmp) files name)

-- the files are told, and this is what the name has: a content, or no file
abbrev pub Tells : FilesState → List ℕ → Option (List ℕ) → Type 0
Tells state name content = IsSomeAnd state.told (λ tree. tree name ≡ content)

-- the state of an object that no call has used
abbrev pub fresh_files : Tree → FilesState
fresh_files tree = record { told = Some tree; read_faults = 0; write_faults = 0; misses = 0; over_long = 0; shortages = 0 }

abbrev pub fresh_sink : SinkState
fresh_sink = record { told = Some []; faults = 0; shortages = 0 }

-- no files of this type ever count a fault
abbrev pub FilesNeverFail : {X : Type 0} → (X → FilesState) → Type 0
FilesNeverFail {X} state = (files : X) → ((state files).read_faults ≡ 0) × ((state files).write_faults ≡ 0)

-- no sink of this type ever counts a fault
abbrev pub SinkNeverFails : {X : Type 0} → (X → SinkState) → Type 0
SinkNeverFails {X} state = (sink : X) → (state sink).faults ≡ 0

-- whether a number is listed
abbrev pub is_listed : List ℕ → ℕ → Bool
is_listed fail number = list_any (λ listed. listed == number) fail

-- the call of this number fails: it is listed, and calls can still be counted
abbrev pub Fails : List ℕ → ℕ → Type 0
Fails fail number = IsTrue (is_listed fail number) × (number < 2 ^ 64 - 1)

-- how many different listed numbers are below the number of calls
abbrev pub failed_among : List ℕ → ℕ → ℕ
failed_among fail zero = 0
failed_among fail (suc calls) = failed_among fail calls + (if is_listed fail calls then 1 else 0)

-- the number of calls after one more: it stands still where a counter of 64 bits ends
abbrev pub one_more_call : ℕ → ℕ
one_more_call calls = min (calls + 1) (2 ^ 64 - 1)

-- the same state, with one more fault at a read
abbrev pub with_read_fault : FilesState → FilesState
with_read_fault state = record state { read_faults = state.read_faults + 1 }

-- the same state, with one more fault at a write
abbrev pub with_write_fault : FilesState → FilesState
with_write_fault state = record state { write_faults = state.write_faults + 1 }

-- the same state, with one more fault
abbrev pub with_sink_fault : SinkState → SinkState
with_sink_fault state = record state { faults = state.faults + 1 }
