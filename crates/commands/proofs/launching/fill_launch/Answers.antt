use Rattle.std.proofs.Common.{◌≡◌, rules, ap, sym, subst, arith, length, true, []}
use Rattle.std.specs.Prelude.{None}
use Rattle.launch_file.specs.LaunchText.{launch_text}
use Rattle.launch_file.specs.LaunchIn.{launch_in}
use Rattle.launch_file.specs.Rules.{first_fault}
use Rattle.launch_file.specs.Laws.{Fits}
use Rattle.launch_file.proofs.FitLaws.{no_fault_is_fit}
use Rattle.launch_file.specs.Launches.{LaunchOf}
use Rattle.commands.specs.Plan.{HasRead, Leads, no_sources}
use Rattle.commands.specs.Launching.{launch_limit, launch_plan, IsLaunchFault}
use Rattle.commands.proofs.LaunchSteps.{few_args, launch_fault_is, launch_refused, launch_read, launch_fits}
use Rattle.commands.proofs.OpeningLaws.{fits_alone}
use Rattle.commands.proofs.Steps.{if_ok_map, if_err_map}
use Rattle.commands.proofs.launching.fill_launch.Goals as goal

pub fitting-requires : goal.fitting-requires
fitting-requires g c =
    let bytes = c.in-Ok.bytes.items in
    let before = g.F.Files.state c.args.files.now in
    let now = g.F.Files.state c.read_place.new.files in
    let read : HasRead before now c.args.launch_name.now launch_limit bytes = search rules in
    let spelled : bytes ≡ launch_text c.in-Ok-read_launch.launch = subst (λ b. b ≡ launch_text c.in-Ok-read_launch.launch) c.deref.ensures.value c.in-Ok-read_launch.ensures.text in
    let long = few_args c.in-Ok-read_launch.launch in
    let same : length bytes ≡ length (launch_text c.in-Ok-read_launch.launch) = ap length spelled in
    omega (arith, long, same, read.fits)

pub returns-in-Ok-read_launch-clause-fits : goal.returns-in-Ok-read_launch-clause-fits
returns-in-Ok-read_launch-clause-fits g c =
    let kinds = c.args.kinds.now in
    let taken = c.args.taken.now in
    if_ok_map c.fitting.result _ _
    (λ it is. subst (λ l. Fits l kinds []) (sym is.0) (fits_alone _ kinds taken ((no_fault_is_fit _ kinds taken).0 is.1)))
    c.fitting.ensures.ok

pub returns-in-Ok-read_launch-clause-ok : goal.returns-in-Ok-read_launch-clause-ok
returns-in-Ok-read_launch-clause-ok g c =
    let bytes = c.in-Ok.bytes.items in
    let before = g.F.Files.state c.args.files.now in
    let now = g.F.Files.state c.read_place.new.files in
    let kinds = c.args.kinds.now in
    let taken = c.args.taken.now in
    let out = g.S.Sink.state c.args.out.now in
    let launch = c.in-Ok-read_launch.launch in
    let read : HasRead before now c.args.launch_name.now launch_limit bytes = search rules in
    let none : first_fault bytes ≡ None = subst (λ b. first_fault b ≡ None) c.deref.ensures.value c.in-Ok-read_launch.ensures.clean in
    let known : launch ≡ launch_in bytes = subst (λ b. launch ≡ launch_in b) c.deref.ensures.value c.in-Ok-read_launch.ensures.launch in
    if_ok_map c.fitting.result _ _
    (λ it is next.
    let Go : LaunchOf → Type 0 = λ l. Leads no_sources true (launch_plan taken kinds c.args.launch_name.now next) before out (next l) now (g.S.Sink.state c.fitting.new.out) in
    subst Go (sym is.0) (launch_fits no_sources taken kinds c.args.launch_name.now bytes next before now out read launch (g.S.Sink.state c.fitting.new.out) none known is.1 is.2))
    c.fitting.ensures.ok

pub returns-in-Ok-read_launch-clause-err : goal.returns-in-Ok-read_launch-clause-err
returns-in-Ok-read_launch-clause-err g c =
    let bytes = c.in-Ok.bytes.items in
    let before = g.F.Files.state c.args.files.now in
    let now = g.F.Files.state c.read_place.new.files in
    let kinds = c.args.kinds.now in
    let taken = c.args.taken.now in
    let out = g.S.Sink.state c.args.out.now in
    let launch = c.in-Ok-read_launch.launch in
    let read : HasRead before now c.args.launch_name.now launch_limit bytes = search rules in
    let none : first_fault bytes ≡ None = subst (λ b. first_fault b ≡ None) c.deref.ensures.value c.in-Ok-read_launch.ensures.clean in
    let known : launch ≡ launch_in bytes = subst (λ b. launch ≡ launch_in b) c.deref.ensures.value c.in-Ok-read_launch.ensures.launch in
    if_err_map c.fitting.result _ _
    (λ status ends next.
    launch_read no_sources taken kinds c.args.launch_name.now bytes next before now out read launch now (g.S.Sink.state c.fitting.new.out) status none known (ends now next))
    c.fitting.ensures.err

pub returns-clause-err : goal.returns-clause-err
returns-clause-err g c = λ next.
    let bytes = c.in-Ok.bytes.items in
    let before = g.F.Files.state c.args.files.now in
    let now = g.F.Files.state c.read_place.new.files in
    let read : HasRead before now c.args.launch_name.now launch_limit bytes = search rules in
    let fault : IsLaunchFault (first_fault bytes) c.in-Err-read_launch.fault =
    subst (λ b. IsLaunchFault (first_fault b) c.in-Err-read_launch.fault) c.deref.ensures.value (launch_fault_is c.deref.result.now c.in-Err-read_launch.fault c.in-Err-read_launch.ensures.fault) in
    launch_refused no_sources c.args.taken.now c.args.kinds.now c.args.launch_name.now bytes next before now (g.S.Sink.state c.args.out.now) read c.in-Err-read_launch.fault _ _ fault c.refuse_launch.ensures
