-- The lines that the program writes, and what becomes of the status where one can't be written.
use Rattle.std.specs.Prelude.{◌≡◌, ℕ, List, [], ◌++◌, codes}
use Rattle.q_io.specs.SinkMeaning.{SinkState, SinkCountsStay, PutsAll}
use Rattle.q_io.specs.declared.Put.{Put}
use Rattle.q_io.specs.declared.Put.TheVariants.{Done as WasPut, Failed as PutFailed, Memory as PutShort}
use Rattle.commands.specs.declared.status.Status.{Status}
use Rattle.commands.specs.declared.status.Status.TheVariants.{Memory, ReadFault, WriteFault, Missing, TooLong}
use Rattle.commands.specs.declared.places.Trouble.{Trouble}
use Rattle.commands.specs.declared.places.Trouble.TheVariants.{Missing as IsMissing, TooLong as IsTooLong, ReadFault as IsReadFault, WriteFault as IsWriteFault, Memory as IsMemory}

-- the line of a trouble with a file
abbrev pub trouble_line : Trouble → List ℕ → List ℕ
trouble_line IsMissing name = codes "missing " ++ (name ++ codes "\n")
trouble_line IsTooLong name = codes "too long " ++ (name ++ codes "\n")
trouble_line IsReadFault name = codes "read fault " ++ (name ++ codes "\n")
trouble_line IsWriteFault name = codes "write fault " ++ (name ++ codes "\n")
trouble_line IsMemory name = []

abbrev pub trouble_status : Trouble → Status
trouble_status IsMissing = Missing
trouble_status IsTooLong = TooLong
trouble_status IsReadFault = ReadFault
trouble_status IsWriteFault = WriteFault
trouble_status IsMemory = Memory

-- the status after its line was put, or wasn't
abbrev pub status_after : Put → Status → Status
status_after WasPut status = status
status_after PutFailed status = WriteFault
status_after PutShort status = Memory

-- The line was put, and the result is the status. Or a part of it was, and the result is the sink's trouble.
pub record Says (before now : SinkState) (line : List ℕ) (status result : Status) : Type 0 where
  pub counts : SinkCountsStay before now
  pub put : Put
  pub taken : PutsAll before now line put
  pub is : result ≡ status_after put status

-- A trouble with a file was said by its line. Of want of memory nothing is said.
abbrev pub SaysTrouble : SinkState → SinkState → Trouble → List ℕ → Status → Type 0
SaysTrouble before now IsMissing name result = Says before now (trouble_line IsMissing name) Missing result
SaysTrouble before now IsTooLong name result = Says before now (trouble_line IsTooLong name) TooLong result
SaysTrouble before now IsReadFault name result = Says before now (trouble_line IsReadFault name) ReadFault result
SaysTrouble before now IsWriteFault name result = Says before now (trouble_line IsWriteFault name) WriteFault result
SaysTrouble before now IsMemory name result = (now ≡ before) × (result ≡ Memory)
