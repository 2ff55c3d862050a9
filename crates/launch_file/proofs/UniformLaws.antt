-- How many uniforms there are.
use Rattle.std.proofs.Common.{◌≡◌, ℕ, ◌+◌, List, [], ◌∷◌, length, map, refl, arith, ◌∙◌, length-append}
use Rattle.std.specs.List.{fold}
use Rattle.std.proofs.lemmas.List.{length-map}
use Rattle.q_lane.specs.declared.kinds.Kind.{Kind}
use Rattle.q_lane.specs.declared.kinds.Kind.TheVariants.{Value as Number, Pointer}
use Rattle.launch_file.specs.Uniforms.{arg_word, work_words, uniforms_of, width}
use Rattle.launch_file.specs.Laws.{UniformsAreCounted}

-- each parameter takes one
width-one : (kind : Kind) → width kind ≡ 1
width-one (Number scalar) = refl
width-one Pointer = refl

widths-from : (n : ℕ) (kinds : List Kind) → fold (λ a kind. a + width kind) n kinds ≡ n + length kinds
widths-from n [] = omega arith
widths-from n (kind ∷ kinds) = widths-from (n + width kind) kinds ∙ omega (arith, width-one kind)

pub uniforms_are_counted : UniformsAreCounted
unfolding uniforms_of work_words
uniforms_are_counted launch kinds taken places qpu valid fits =
    let global = valid.global.three in
    let local = valid.local.three in
    let count = fits.count in
    let sizes = length-append launch.global launch.local in
    let all = length-append (work_words launch places qpu) (map (arg_word places.buffers) launch.args) in
    let args = length-map launch.args (arg_word places.buffers) in
    let widths = widths-from 0 kinds in
    all ∙ omega arith
