-- The variables of a call.
use Rattle.std.proofs.Common.{◌≡◌, ℕ, zero, suc, ◌+◌, ◌-◌, ◌<◌, ◌≤◌, min, List, [], ◌∷◌, ◌++◌, length, drop, take, get_or, replicate, append_assoc, refl, sym, ap, ◌∙◌, subst, arith}
use Rattle.std.proofs.lemmas.List.{append-nil, at_drop_all}
use Rattle.clc_types.specs.declared.typed.Var.{Var}
use Rattle.item_meaning.specs.declared.values.Value.{Value}
use Rattle.item_meaning.specs.Operators.{converted}
use Rattle.item_meaning.specs.StatementMeanings.{type_of}
use Rattle.item_meaning.specs.ItemMeaning.{as_params}

no_arguments : (ps : List Var) → as_params ps [] ≡ []
no_arguments [] = refl
no_arguments (p ∷ ps) = refl

pub params_end : (ps : List Var) (xs : List Value) (i : ℕ) → min (length ps) (length xs) ≤ i → as_params (drop i ps) (drop i xs) ≡ []
params_end [] xs zero h = refl
params_end [] xs (suc i) h = refl
params_end (p ∷ ps) [] zero h = refl
params_end (p ∷ ps) [] (suc i) h = no_arguments (drop i ps)
params_end (p ∷ ps) (x ∷ xs) zero h = absurd (omega arith)
params_end (p ∷ ps) (x ∷ xs) (suc i) h = params_end ps xs i (omega arith)

pub params_more : (ps : List Var) (xs : List Value) (i : ℕ) (p : Var) (x : Value) → i < length ps → i < length xs → p ≡ get_or ps i p → x ≡ get_or xs i x
    → as_params (drop i ps) (drop i xs) ≡ converted (type_of p) x ∷ as_params (drop (suc i) ps) (drop (suc i) xs)
params_more [] xs i p x h g e f = absurd (omega arith)
params_more (q ∷ ps) [] i p x h g e f = absurd (omega arith)
params_more (q ∷ ps) (y ∷ xs) zero p x h g e f = ap (λ z. converted (type_of z) y ∷ as_params ps xs) (sym e) ∙ ap (λ z. converted (type_of p) z ∷ as_params ps xs) (sym f)
params_more (q ∷ ps) (y ∷ xs) (suc i) p x h g e f = params_more ps xs i p x (omega arith) (omega arith) e f

pub replicate-push : {A : Type 0} (n : ℕ) (x : A) → replicate n x ++ x ∷ [] ≡ replicate (suc n) x
replicate-push zero x = refl
replicate-push (suc n) x = ap (λ xs. x ∷ xs) (replicate-push n x)
