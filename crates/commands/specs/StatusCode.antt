-- The numbers of the statuses.
use Rattle.std.specs.Prelude.{ℕ}
use Rattle.commands.specs.declared.status.Status.{Status}
use Rattle.commands.specs.declared.status.Status.TheVariants.{Done, Memory, Usage, ReadFault, WriteFault, Missing, TooLong, Refused, BadModule, BadLaunch, Broken, Unfinished, NotSafe}

-- the number of a status
abbrev pub code_of : Status → ℕ
code_of Done = 0
code_of Memory = 1
code_of Usage = 2
code_of ReadFault = 3
code_of WriteFault = 4
code_of Missing = 5
code_of TooLong = 6
code_of Refused = 7
code_of BadModule = 8
code_of BadLaunch = 9
code_of Broken = 10
code_of Unfinished = 11
code_of NotSafe = 12
