use Rattle.std.proofs.Common.{rules, ap, sym, ◌∙◌}
use Rattle.launch_file.specs.LaunchText.{launch_text, lines_text}
use Rattle.launch_file.specs.LaunchIn.{launch_in, launch_from}
use Rattle.launch_file.proofs.SaidLaws.{said_again}
use Rattle.launch_file.specs.Views.{sizes_view}
use Rattle.launch_file.proofs.reading.read_launch.Goals as goal

pub returns-clause-text : goal.returns-clause-text
unfolding launch_text
returns-clause-text c =
    let h = c.in_ok-head.head in
    let ends = c.in_ok-tail.ensures.ends h.qpus (sizes_view h.global) (sizes_view h.local) c.args.bytes.now c.in_ok-head.ensures.leads in
    ends.0 ∙ ap lines_text (sym c.launch_of.ensures.lines)

pub returns-clause-clean : goal.returns-clause-clean
returns-clause-clean c =
    let h = c.in_ok-head.head in
    (c.in_ok-tail.ensures.ends h.qpus (sizes_view h.global) (sizes_view h.local) c.args.bytes.now c.in_ok-head.ensures.leads).1

pub returns-clause-launch : goal.returns-clause-launch
unfolding launch_in
returns-clause-launch c =
    let h = c.in_ok-head.head in
    let ends = c.in_ok-tail.ensures.ends h.qpus (sizes_view h.global) (sizes_view h.local) c.args.bytes.now c.in_ok-head.ensures.leads in
    sym (ap launch_from (ends.2 ∙ sym c.launch_of.ensures.lines) ∙ said_again c.launch_of.result c.launch_of.ensures.valid)
