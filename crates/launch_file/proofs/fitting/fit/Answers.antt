use Rattle.std.proofs.Common.{◌≡◌, ◌+◌, ◌∙◌, sym, ap, rules, arith, Err, length}
use Rattle.launch_file.specs.Launches.{LaunchOf}
use Rattle.launch_file.proofs.FitFaults.{bad_buffers, bad_args, bad_count, all_fit}
use Rattle.launch_file.proofs.fitting.fit.Goals as goal

pub returns-in_err-fit_buffers : goal.returns-in_err-fit_buffers
returns-in_err-fit_buffers c =
    let launch = c.args.launch.now in
    let buffers : c.deref.result.now ≡ launch.buffers = c.deref.ensures.value ∙ ap (λ (l : LaunchOf). l.buffers) c.launch.view_is in
    let is : c.from_residual.result ≡ Err c.in_err-fit_buffers.field-0.0 = search rules in
    is ∙ bad_buffers launch c.args.kinds.now c.args.taken.now _ _ buffers c.in_err-fit_buffers.ensures

pub returns-in_err-fit_args : goal.returns-in_err-fit_args
returns-in_err-fit_args c =
    let launch = c.args.launch.now in
    let buffers : c.deref.result.now ≡ launch.buffers = c.deref.ensures.value ∙ ap (λ (l : LaunchOf). l.buffers) c.launch.view_is in
    let args : c.deref-2.result.now ≡ launch.args = c.deref-2.ensures.value ∙ ap (λ (l : LaunchOf). l.args) c.launch.view_is in
    let start : 5 + c.len.result ≡ 5 + length launch.buffers = ap (λ n. 5 + n) (c.len.ensures ∙ sym c.deref.ensures.len ∙ ap length buffers) in
    let is : c.from_residual-in_err-fit_args.result ≡ Err c.in_err-fit_args.field-0.0 = search rules in
    is ∙ bad_args launch c.args.kinds.now c.args.taken.now _ _ _ _ _ buffers args start c.in_ok-fit_buffers.ensures c.in_err-fit_args.ensures

pub returns-then-len-kinds : goal.returns-then-len-kinds
returns-then-len-kinds c =
    let launch = c.args.launch.now in
    let buffers : c.deref.result.now ≡ launch.buffers = c.deref.ensures.value ∙ ap (λ (l : LaunchOf). l.buffers) c.launch.view_is in
    let args : c.deref-2.result.now ≡ launch.args = c.deref-2.ensures.value ∙ ap (λ (l : LaunchOf). l.args) c.launch.view_is in
    let start : 5 + c.len.result ≡ 5 + length launch.buffers = ap (λ n. 5 + n) (c.len.ensures ∙ sym c.deref.ensures.len ∙ ap length buffers) in
    let count : length launch.args ≡ length c.args.kinds.now = sym (ap length args) ∙ c.deref-2.ensures.len ∙ sym c.len-2.ensures ∙ c.if-len-kinds.true in
    all_fit launch c.args.kinds.now c.args.taken.now _ _ _ _ _ buffers args start c.in_ok-fit_buffers.ensures c.in_ok-fit_args.ensures count

pub returns : goal.returns
returns c =
    let launch = c.args.launch.now in
    let buffers : c.deref.result.now ≡ launch.buffers = c.deref.ensures.value ∙ ap (λ (l : LaunchOf). l.buffers) c.launch.view_is in
    let args : c.deref-2.result.now ≡ launch.args = c.deref-2.ensures.value ∙ ap (λ (l : LaunchOf). l.args) c.launch.view_is in
    let start : 5 + c.len.result ≡ 5 + length launch.buffers = ap (λ n. 5 + n) (c.len.ensures ∙ sym c.deref.ensures.len ∙ ap length buffers) in
    let many : c.len-2.result ≡ length launch.args = c.len-2.ensures ∙ sym c.deref-2.ensures.len ∙ ap length args in
    let again : c.len-3.result ≡ length launch.args = c.len-3.ensures ∙ sym c.deref-2.ensures.len ∙ ap length args in
    let line : 5 + c.len.result + c.len-3.result ≡ 5 + length launch.buffers + length launch.args = omega arith in
    bad_count launch c.args.kinds.now c.args.taken.now _ _ _ _ _ _ buffers args start c.in_ok-fit_buffers.ensures c.in_ok-fit_args.ensures
    (λ e. c.if-len-kinds.false (many ∙ e)) line
