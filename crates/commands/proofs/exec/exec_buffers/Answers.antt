use Rattle.std.proofs.Common.{subst, sym}
use Rattle.std.specs.Prelude.{All}
use Rattle.commands.specs.Buffers.{HasTextNames}
use Rattle.commands.proofs.NameLaws.{text_names}
use Rattle.commands.proofs.exec.exec_buffers.Goals as goal

pub fill_buffers-requires : goal.fill_buffers-requires
fill_buffers-requires g c = subst (All HasTextNames) (sym c.deref.ensures.value) (text_names _ c.launch.invariant.buffers)
