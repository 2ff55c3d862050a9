-- A look-up by what a key is seen as.
use Rattle.std.proofs.Common.{◌≡◌, Bool, cond, List, [], ◌∷◌, Some, refl, ap}
use Rattle.std.specs.Prelude.{map}
use Rattle.std.specs.Map.{lookup}

pub lookup_seen : {K L X : Type 0} (f : K → L) (p : L → Bool) (es : List (K × X)) → lookup (λ k. p (f k)) es ≡ lookup p (map (λ e. (f e.0, e.1)) es)
lookup_seen f p [] = refl
lookup_seen f p (e ∷ es) = ap (λ z. cond (p (f e.0)) (Some e.1) z) (lookup_seen f p es)
