-- A function whose heading has no fault has a new name.
use Rattle.std.proofs.Common.{◌≡◌, ℕ, Bool, true, false, List, [], ◌∷◌, ◌++◌, Option, Some, None, refl, sym, ap, ◌∙◌, Result, Ok, Err}
use Rattle.std.specs.Prelude.{is_some, ◌&&◌}
use Rattle.clc_tree.specs.declared.functions.Function.{Function}
use Rattle.clc_types.specs.declared.type_rule.TypeRule.TheVariants.{S2, S8}
use Rattle.clc_types.specs.declared.forms.Named.{Named}
use Rattle.clc_types.specs.declared.scope.State.{State}
use Rattle.clc_types.specs.Judged.{violations}
use Rattle.clc_types.specs.Words.{name_of, is_kernel}
use Rattle.clc_types.specs.Names.{or_else, builtin_named, builtin_of}
use Rattle.clc_types.specs.InternalScope.{found, known}
use Rattle.clc_types.specs.Programs.{result_of}
use Rattle.clc_types.specs.InternalWalk.{Right, guarded, bump}
use Rattle.clc_types.specs.InternalSteps.{View, reach, knows_in, Stands, view_of}
use Rattle.clc_types.specs.InternalWalks.{heading_in}
use Rattle.clc_types.proofs.Scopes.{known_last}

none_first : (a b c : Option Named) → or_else (or_else a b) c ≡ None → a ≡ None
none_first (Some x) b c h = absurd (cc)
none_first None b c h = refl

tested : (v : View) (o : Option Named) (k : Bool) (u : Unit {0}) (new : State)
    → Stands (reach v (guarded (violations v.at ((S2, is_some o) ∷ (S8, k) ∷ [])) (Right tt (bump v.at 1)))) (Ok u) new → (o ≡ None) × (v.inner ≡ (view_of new).inner)
tested v (Some x) k u new h = absurd h
tested v None true u new h = absurd h
tested v None false u new h = (refl, ap (λ w. w.inner) h.1)

pub heading_free : (f : Function) (v : View) (u : Unit {0}) (new : State) → Stands (heading_in f v) (Ok u) new → found (view_of new).inner (name_of f.name) ≡ None
unfolding heading_in
heading_free f v u new h =
    let x = name_of f.name in
    let b = builtin_named (builtin_of x) in
    let r = tested v ((knows_in v).look x) (is_kernel f.lead && is_some (result_of f.returns)) u new h in
    ap (λ e. found e x) (sym r.1) ∙ none_first (found v.inner x) (known v.outer x) b (ap (λ k. or_else k b) (sym (known_last v.outer v.inner x)) ∙ r.0)
