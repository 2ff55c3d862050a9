use Rattle.std.proofs.Common.{◌≡◌, ◌∷◌, ◌++◌, [], refl, sym, ap, ◌∙◌}
use Rattle.std.specs.Prelude.{map, List, ℕ}
use Rattle.clc_types.specs.InternalScope.{Entries, seen}
use Rattle.clc_types.specs.InternalSteps.{front, last_of, left, view_of, View}
use Rattle.clc_types.proofs.Scopes.{pop_front, pop_last}
use Rattle.clc_walk.proofs.state.leave.Goals as goal

pub returns-in-Some : goal.returns-in-Some
unfolding left
returns-in-Some c =
    let s = c.args.state.now in
    let e = c.in-Some.ensures in
    let a = pop_front (λ b. seen b) c.pop.new.self c.in-Some.inner ∙ ap (λ l. front (map (λ b. seen b) l)) (sym e) in
    let b = pop_last (λ b. seen b) c.pop.new.self c.in-Some.inner (seen s.scope.inner) ∙ ap (λ l. last_of (map (λ b. seen b) l) (seen s.scope.inner)) (sym e) in
    let made : List Entries → Entries → View = λ x y. record { outer = x; inner = y; home = s.scope.home; vars = s.vars; at = s.at } in
    ap (λ x. made x (seen c.in-Some.inner)) a ∙ ap (λ y. made (front (view_of s).outer) y) b

pub returns-in-None : goal.returns-in-None
unfolding left
returns-in-None c =
    let s = c.args.state.now in
    let made : List Entries → Entries → View = λ x y. record { outer = x; inner = y; home = s.scope.home; vars = s.vars; at = s.at } in
    ap (λ z. made (map (λ b. seen b) z) (seen s.scope.inner)) c.in-None.ensures.1 ∙ sym (ap (λ z. made (front (map (λ b. seen b) z)) (last_of (map (λ b. seen b) z) (seen s.scope.inner))) c.in-None.ensures.0)
