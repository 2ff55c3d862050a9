use Rattle.std.proofs.Common.{◌≡◌, length, map, subst, sym}
use Rattle.launch_file.specs.Layout.{buffer_lens}
use Rattle.std.specs.Prelude.{All}
use Rattle.launch_meaning.specs.Small.{AreSmall}
use Rattle.commands.specs.Buffers.{HasTextNames}
use Rattle.commands.proofs.NameLaws.{text_names}
use Rattle.commands.proofs.SmallBuffers.{are_small}
use Rattle.commands.proofs.judging.judge_launch.Goals as goal

pub fill_buffers-requires : goal.fill_buffers-requires
fill_buffers-requires g c = subst (All HasTextNames) (sym c.deref.ensures.value) (text_names _ c.launch.invariant.buffers)

pub judge_buffers-requires : goal.judge_buffers-requires
judge_buffers-requires g c = subst AreSmall (sym c.deref-in-Ok.ensures.value) (are_small c.launch.inside.buffers.items _ c.launch.invariant.buffers (subst (λ lines. map length c.in-Ok.buffers.items ≡ buffer_lens lines) c.deref.ensures.value c.in-Ok.ensures.sizes))
