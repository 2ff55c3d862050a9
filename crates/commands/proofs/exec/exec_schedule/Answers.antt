use Rattle.commands.proofs.NameLaws.{text_file}
use Rattle.commands.proofs.exec.exec_schedule.Goals as goal

pub fill_schedule-requires : goal.fill_schedule-requires
fill_schedule-requires g c = text_file c.launch.inside.schedule c.launch.invariant.schedule
