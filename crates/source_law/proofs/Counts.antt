-- A launch that fits has an argument for each parameter.
use Rattle.std.proofs.Common.{◌≡◌, ℕ, ◌≤◌, Bool, true, false, List, length, take, refl, arith}
use Rattle.std.specs.Prelude.{not, ◌&&◌, nat_lt}
use Rattle.std.proofs.lemmas.Bool.Decides.{nat_tests}
use Rattle.std.proofs.lemmas.List.{length-take-le, length-map}
use Rattle.clc_types.specs.declared.typed.Var.{Var}
use Rattle.clc_inline.specs.declared.body.TStmt.{TStmt}
use Rattle.clc_inline.specs.Named.{is_named, is_statement}
use Rattle.ir_build.specs.Build.{kind_of, kinds_of}

first_of : (a b : Bool) → (not a && b) ≡ true → a ≡ false
first_of true b h = absurd (cc)
first_of false b h = refl

at_most : (n p : ℕ) → nat_lt n p ≡ false → p ≤ n
at_most n p h = grind (arith, nat_tests)

pub enough : (vars : List Var) (params : ℕ) (body : TStmt) (n : ℕ) → is_named vars params body ≡ true → n ≡ length (kinds_of vars params) → params ≤ n
enough vars params body n h e =
    let le = at_most (length vars) params (first_of (nat_lt (length vars) params) (is_statement (length vars) false body) h) in
    let m = length-map (take params vars) kind_of in
    let k = length-take-le params vars le in
    omega (arith, e, m, k)
