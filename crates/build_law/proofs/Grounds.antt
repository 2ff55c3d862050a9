-- A launch's world is one that the law of a body asks for.
use Rattle.std.proofs.Common.{◌≡◌, ℕ, zero, suc, ◌+◌, ◌≤◌, true, false, List, [], ◌∷◌, map, get_or, refl, sym, ap, subst, arith, le-leb, Bool, true≢false}
use Rattle.std.specs.Prelude.{◌&&◌, ◌||◌, nat_le}
use Rattle.std.proofs.lemmas.Bool.{and_from}
use Rattle.launch_file.specs.declared.places.Region2.{Region2}
use Rattle.launch_file.specs.Launches.{LaunchOf}
use Rattle.launch_file.specs.Uniforms.{address}
use Rattle.clc_types.specs.declared.typed.Var.{Var}
use Rattle.item_meaning.specs.StatementMeanings.{var_at}
use Rattle.item_ir.specs.Memory.{lies}
use Rattle.ir_build.specs.Build.{array_length}
use Rattle.build_law.specs.Keeps.{Laid}
use Rattle.build_law.specs.Law.{ground}
use Rattle.build_law.specs.Launched.{AreApart, len_at, region_of, world_of}

or_here : (a b : Bool) → a ≡ true → (a || b) ≡ true
or_here true b h = refl
or_here false b h = absurd (true≢false (sym h))

or_there : (a b : Bool) → b ≡ true → (a || b) ≡ true
or_there true b h = refl
or_there false b h = h

-- bytes of a buffer lie in its region
lies_there : (places : List Region2) (k o n : ℕ) → 1 ≤ n → o + n ≤ len_at places k → lies (map region_of places) (address places k + o) n ≡ true
lies_there [] k o n some le = absurd (omega (arith, some, le))
lies_there (r ∷ places) zero o n some le =
    or_here (nat_le r.start (r.start + o) && nat_le (r.start + o + n) (r.start + r.len)) _ (and_from _ _ (le-leb r.start (r.start + o) (omega arith)) (le-leb (r.start + o + n) (r.start + r.len) (omega (arith, le))))
lies_there (r ∷ places) (suc k) o n some le = or_there (nat_le r.start (address places k + o) && nat_le (address places k + o + n) (r.start + r.len)) _ (lies_there places k o n some le)

array_there : (vars : List Var) (u : ℕ) → array_length (var_at vars u) ≤ get_or (map array_length vars) u 0
array_there [] u = omega arith
array_there (x ∷ vars) zero = omega arith
array_there (x ∷ vars) (suc u) = array_there vars u

pub is_laid : (launch : LaunchOf) (places : List Region2) (vars : List Var) (lens : List ℕ) (id : ℕ) → lens ≡ map array_length vars → AreApart places
    → Laid (ground (world_of launch places lens id) (address places) (len_at places) vars)
is_laid launch places vars lens id e a =
    record {
      aligned = a.aligned;
      below = a.below;
      apart = λ k l i j p q same. (a.apart k l i j p q same, let z = ap (address places) (a.apart k l i j p q same) in omega (arith, z, same));
      allowed = lies_there places;
      arrays = λ u. subst (λ z. array_length (var_at vars u) ≤ get_or z u 0) (sym e) (array_there vars u);
    }
