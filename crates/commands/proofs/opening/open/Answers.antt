use Rattle.std.proofs.Common.{subst, sym, ◌∙◌, ◌≡◌, replicate}
use Rattle.launch_file.specs.Launches.{IsLaunch}
use Rattle.qpu_machine.specs.Planned.{IsPlan}
use Rattle.promise.specs.Openings.{plan_for}
use Rattle.promise.proofs.OpeningLaws.{is_planned}
use Rattle.commands.specs.Openings.{empty_scratch, zero_setting}
use Rattle.commands.proofs.OpeningLaws.{zero_is_setting, opened_for}
use Rattle.commands.proofs.Steps.{if_ok_map}
use Rattle.commands.proofs.opening.open.Goals as goal

pub begin-requires : goal.begin-requires
begin-requires c =
    let code = c.args.module in
    let launch = c.args.launch.now in
    let buffers = c.args.buffers.now in
    let is : c.in_ok-plan.plan ≡ plan_for code launch buffers (replicate launch.qpus (empty_scratch code.rows)) = c.in_ok-plan.ensures in
    let valid : IsLaunch launch = subst IsLaunch c.launch.view_is c.launch.invariant in
    subst IsPlan (sym is) (is_planned code (zero_setting code launch buffers) c.requires.code (zero_is_setting code launch buffers valid c.requires.fits c.requires.sizes c.requires.bytes)).plan

pub returns : goal.returns
returns c =
    let is : c.in_ok-plan.plan ≡ plan_for c.args.module c.args.launch.now c.args.buffers.now (replicate c.args.launch.now.qpus (empty_scratch c.args.module.rows)) = c.in_ok-plan.ensures in
    if_ok_map c.begin.result _ _ (λ machine e. e ∙ opened_for c.in_ok-plan.plan c.args.module c.args.launch.now c.args.buffers.now is) c.begin.ensures
