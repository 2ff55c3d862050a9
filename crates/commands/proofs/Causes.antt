-- The cause that each status needs.
use Rattle.std.specs.Prelude.{◌≡◌, ◌⊎◌, Bool, true, ⊤}
use Rattle.q_io.specs.Rose.{Rose}
use Rattle.q_io.specs.FilesMeaning.{FilesState}
use Rattle.q_io.specs.SinkMeaning.{SinkState}
use Rattle.commands.specs.declared.status.Status.{Status}
use Rattle.commands.specs.declared.status.Status.TheVariants.{Done, Memory, Usage, ReadFault, WriteFault, Missing, TooLong, Refused, BadModule, BadLaunch, Broken, Unfinished, NotSafe}

-- the counts that rose where a run of a plan ends with a status. Want of memory needs none while memory may be asked for, and then it wrote nothing
abbrev pub EndCause : Bool → FilesState → SinkState → FilesState → SinkState → Status → Type 0
EndCause asks before out_before now out_now Memory = ((asks ≡ true) × (out_now ≡ out_before)) ⊎ (Rose before.shortages now.shortages ⊎ Rose out_before.shortages out_now.shortages)
EndCause asks before out_before now out_now ReadFault = Rose before.read_faults now.read_faults
EndCause asks before out_before now out_now WriteFault = Rose before.write_faults now.write_faults ⊎ Rose out_before.faults out_now.faults
EndCause asks before out_before now out_now Missing = Rose before.misses now.misses
EndCause asks before out_before now out_now TooLong = Rose before.over_long now.over_long
EndCause asks before out_before now out_now Usage = ⊥
EndCause asks before out_before now out_now Done = ⊤
EndCause asks before out_before now out_now Refused = ⊤
EndCause asks before out_before now out_now BadModule = ⊤
EndCause asks before out_before now out_now BadLaunch = ⊤
EndCause asks before out_before now out_now Broken = ⊤
EndCause asks before out_before now out_now Unfinished = ⊤
EndCause asks before out_before now out_now NotSafe = ⊤
