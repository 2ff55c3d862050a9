-- Steps of the read of a launch, each a test of what was read.
use Rattle.std.proofs.Common.{◌≡◌, inr, ℕ, ◌≤◌, true, List, [], ◌∷◌, ◌++◌, length, take, map, refl, sym, subst, arith}
use Rattle.std.proofs.lemmas.List.{length-append, length-map}
use Rattle.std.specs.Prelude.{Option, Some, None, Result, Ok, Err}
use Rattle.q_lane.specs.declared.kinds.Kind.{Kind}
use Rattle.q_io.specs.FilesMeaning.{FilesState}
use Rattle.q_io.specs.SinkMeaning.{SinkState}
use Rattle.launch_file.specs.LineText.{Line, line_text}
use Rattle.launch_file.specs.LaunchText.{launch_text, launch_lines, lines_text, ended, head_lines, buffer_line, arg_line, schedule_line}
use Rattle.launch_file.specs.LaunchIn.{launch_in}
use Rattle.launch_file.specs.Reading.{IsFirst}
use Rattle.launch_file.specs.Rules.{first_fault as launch_fault}
use Rattle.launch_file.specs.Launches.{LaunchOf}
use Rattle.launch_file.specs.Fit.{FaultAt, fit_fault, answer_of}
use Rattle.launch_file.specs.declared.launch.LaunchFault.{LaunchFault}
use Rattle.launch_file.specs.declared.launch.LaunchFault.TheVariants.{Rule, Memory as LaunchMemory}
use Rattle.commands.specs.Plan.{Plan, HasRead, Ends, Leads}
use Rattle.commands.specs.Launching.{launch_limit, after_launch, after_fit, fit_plan, launch_plan, RefusesLaunch, IsLaunchFault}
use Rattle.commands.proofs.LoadSteps.{short}
use Rattle.commands.specs.declared.status.Status.{Status}
use Rattle.promise.specs.Language.{Sources}

err_same : (r s : Result (Unit {0}) LaunchFault) (a b : LaunchFault) → r ≡ Err a → s ≡ Err b → r ≡ s → a ≡ b
err_same r s a b e f same = cc

-- a launch that doesn't fit
refused_fit : (sources : Sources) (there : Option FaultAt) (next : LaunchOf → Plan) (launch : LaunchOf) (fault : LaunchFault) (files : FilesState) (out out_now : SinkState) (result : Status)
    → answer_of there ≡ Err fault → RefusesLaunch fault out out_now result
    → Ends sources true (after_fit there next launch) files out files out_now result
refused_fit sources None next launch fault files out out_now result is says = absurd (cc)
refused_fit sources (Some f) next launch fault files out out_now result is says =
    let same : fault ≡ Rule f.rule f.line = err_same (answer_of (Some f)) (answer_of (Some f)) fault (Rule f.rule f.line) is refl refl in
    let told : RefusesLaunch (Rule f.rule f.line) out out_now result = subst (λ g. RefusesLaunch g out out_now result) same says in
    inr (refl, told)

pub unfit : (sources : Sources) (taken : List (List ℕ)) (kinds : List Kind) (next : LaunchOf → Plan) (launch : LaunchOf) (fault : LaunchFault) (files : FilesState) (out out_now : SinkState) (result : Status)
    → answer_of (fit_fault launch kinds taken) ≡ Err fault → RefusesLaunch fault out out_now result
    → Ends sources true (fit_plan taken kinds next launch) files out files out_now result
unfolding fit_plan
unfit sources taken kinds next launch fault files out out_now result is says = refused_fit sources (fit_fault launch kinds taken) next launch fault files out out_now result is says

pub no_fault : (there : Option FaultAt) → answer_of there ≡ Ok tt → there ≡ None
no_fault None e = refl
no_fault (Some fault) e = absurd (cc)

pub launch_fault_is : (bytes : List ℕ) (fault : LaunchFault) → IsFirst bytes fault → IsLaunchFault (launch_fault bytes) fault
launch_fault_is bytes (Rule rule line) h = h
launch_fault_is bytes LaunchMemory h = tt

refused_text : (sources : Sources) (there : Option (ℕ × ℕ)) (taken : List (List ℕ)) (kinds : List Kind) (next : LaunchOf → Plan) (launch : LaunchOf) (fault : LaunchFault) (files : FilesState) (out out_now : SinkState) (result : Status)
    → IsLaunchFault there fault → RefusesLaunch fault out out_now result
    → Ends sources true (after_launch there taken kinds next launch) files out files out_now result
refused_text sources there taken kinds next launch (Rule rule line) files out out_now result is says =
    subst (λ f. Ends sources true (after_launch f taken kinds next launch) files out files out_now result) (sym is) (inr (refl, says))
refused_text sources there taken kinds next launch LaunchMemory files out out_now result is says = short sources (after_launch there taken kinds next launch) files out out_now result says

module _ (sources : Sources) (taken : List (List ℕ)) (kinds : List Kind) (launch_name bytes : List ℕ) (next : LaunchOf → Plan) (before mid : FilesState) (out : SinkState) (read : HasRead before mid launch_name launch_limit bytes) where
  -- the file is no launch
  pub launch_refused : (fault : LaunchFault) (out_now : SinkState) (result : Status) → IsLaunchFault (launch_fault bytes) fault → RefusesLaunch fault out out_now result
      → Ends sources true (launch_plan taken kinds launch_name next) before out mid out_now result
  unfolding launch_plan
  launch_refused fault out_now result is says =
      inr (inr (bytes, mid, read, refused_text sources (launch_fault bytes) taken kinds next (launch_in bytes) fault mid out out_now result is says))

  -- a launch was read, and what becomes of it is an end of the plan
  pub launch_read : (launch : LaunchOf) (now : FilesState) (out_now : SinkState) (result : Status) → launch_fault bytes ≡ None → launch ≡ launch_in bytes
      → Ends sources true (fit_plan taken kinds next launch) mid out now out_now result
      → Ends sources true (launch_plan taken kinds launch_name next) before out now out_now result
  unfolding launch_plan
  launch_read launch now out_now result none is ends =
      let read_on : Ends sources true (after_launch None taken kinds next (launch_in bytes)) mid out now out_now result = subst (λ l. Ends sources true (fit_plan taken kinds next l) mid out now out_now result) is ends in
      inr (inr (bytes, mid, read, subst (λ f. Ends sources true (after_launch f taken kinds next (launch_in bytes)) mid out now out_now result) (sym none) read_on))

  -- a launch was read that fits
  pub launch_fits : (launch : LaunchOf) (out_now : SinkState) → launch_fault bytes ≡ None → launch ≡ launch_in bytes → fit_fault launch kinds taken ≡ None → out_now ≡ out
      → Leads sources true (launch_plan taken kinds launch_name next) before out (next launch) mid out_now
  unfolding fit_plan
  launch_fits launch out_now none is fits same = λ now last result ends.
      let from_here : Ends sources true (next launch) mid out now last result = subst (λ o. Ends sources true (next launch) mid o now last result) same ends in
      launch_read launch now last result none is (subst (λ f. Ends sources true (after_fit f next launch) mid out now last result) (sym fits) from_here)

lines_long : (lines : List Line) → length lines ≤ length (lines_text lines)
lines_long [] = omega arith
lines_long (line ∷ lines) =
    let rest = lines_long lines in
    let one = length-append (line_text line) (10 ∷ []) in
    let both = length-append (ended line) (lines_text lines) in
    omega (arith, rest, one, both)

-- a launch has fewer arguments than its text has bytes
pub few_args : (launch : LaunchOf) → length launch.args ≤ length (launch_text launch)
unfolding launch_text launch_lines
few_args launch =
    let head : List Line = head_lines launch.qpus (take launch.dims launch.global) (take launch.dims launch.local) in
    let buffers : List Line = map buffer_line launch.buffers in
    let args : List Line = map arg_line launch.args in
    let last : List Line = schedule_line launch.schedule ∷ [] in
    let count = length-map launch.args arg_line in
    let whole = length-append head (buffers ++ (args ++ last)) in
    let middle = length-append buffers (args ++ last) in
    let end = length-append args last in
    let long = lines_long (head ++ (buffers ++ (args ++ last))) in
    omega (arith, count, whole, middle, end, long)
