-- What a `MemFiles` means.
use Rattle.std.specs.Prelude.{ℕ, List, Some}
use Rattle.q_io.specs.declared.memory.MemFiles.{MemFiles}
use Rattle.q_io.specs.FilesMeaning.{FilesState}
use Rattle.q_io.specs.InMemory.{tree_of}

-- the numbers of the calls that fail
abbrev pub fail_of : MemFiles → List ℕ
fail_of files = files.failing.fail.items

-- how many calls of read and write there were
abbrev pub calls_of : MemFiles → ℕ
calls_of files = files.failing.calls

-- the files and the counts: the faults of reads and writes are its own, and the rest is that of the files inside
abbrev pub state_of : MemFiles → FilesState
state_of files = record {
  told = Some (tree_of files.inner.files);
  read_faults = files.read_faults;
  write_faults = files.write_faults;
  misses = files.inner.misses;
  over_long = files.inner.over_long;
  shortages = files.inner.shortages;
}
