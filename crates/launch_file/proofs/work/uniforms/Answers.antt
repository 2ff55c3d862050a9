use Rattle.std.proofs.Common.{◌≡◌, arith, length, sym, ap, ◌∙◌}
use Rattle.launch_file.specs.Launches.{LaunchOf}
use Rattle.launch_file.specs.Layout.{PlacesOf}
use Rattle.launch_file.proofs.Counts.{places-buffers, places-scratch, arg-fine}
use Rattle.launch_file.proofs.work.uniforms.Goals as goal

pub words_of_work-requires : goal.words_of_work-requires
words_of_work-requires c = omega (arith, places-scratch c.args.launch.now c.args.places.now c.requires.places)

pub word_of_arg-requires : goal.word_of_arg-requires
word_of_arg-requires c =
    let launch = c.args.launch.now in
    let places = c.args.places.now in
    let args : c.deref-arg-items.result.now ≡ launch.args = c.deref-arg-items.ensures.value ∙ ap (λ (l : LaunchOf). l.args) c.launch.view_is in
    let count : length c.deref.result.now ≡ length launch.buffers =
    ap length (c.deref.ensures.value ∙ ap (λ (p : PlacesOf). p.buffers) c.places.view_is) ∙ places-buffers launch places c.requires.places
    in
    let same : length launch.buffers ≡ length c.launch.inside.buffers.items = ap (λ (l : LaunchOf). length l.buffers) (sym c.launch.view_is) in
    rw c.deref-arg-items.ensures.value (arg-fine _ _ _ c.loop-arg.arg-index _ c.launch.invariant.args (rw c.deref-arg-items.ensures.value at c.loop-arg-test.true) (count ∙ same))
