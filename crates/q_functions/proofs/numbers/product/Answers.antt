use Rattle.std.proofs.Common.{◌^◌, lit<, refl}
use Rattle.std.specs.Prelude.{◌*ℤ◌}
use mir.Syntax.{w128}
use Rattle.std.proofs.lemmas.Int.{fits_signed_mul, to_z-of_z}
use Rattle.q_functions.proofs.numbers.product.Goals as goal

pub returns : goal.returns
returns c =
    let s = fits_signed_mul w128 c.args.a c.args.b (2 ^ 32) (2 ^ 32) c.requires.first c.requires.second (lit< tt) in
    rw (to_z-of_z w128 c.args.a c.ranges.a, to_z-of_z w128 c.args.b c.ranges.b, to_z-of_z w128 (c.args.a *ℤ c.args.b) s) refl
