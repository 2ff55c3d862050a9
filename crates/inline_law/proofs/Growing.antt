-- Variables are added behind those that there are.
use Rattle.std.proofs.Common.{◌≡◌, ℕ, ◌≤◌, Bool, true, false, List, [], ◌∷◌, ◌++◌, length, length-append, refl, sym, ap, ◌∙◌, subst, arith}
use Rattle.std.specs.Prelude.{◌&&◌}
use Rattle.clc_lexer.specs.declared.marks.Mark.{Mark}
use Rattle.clc_types.specs.declared.typed.Var.{Var}
use Rattle.clc_inline.specs.declared.body.TExpr.{TExpr}
use Rattle.clc_inline.specs.Inlining.{Makes, just, mapped, two, listed, operands}
use Rattle.item_meaning.specs.ItemState.{State, Run, Goes, Bounds, Spent}
use Rattle.item_meaning.specs.NodeMeanings.{Part}
use Rattle.inline_law.proofs.Frames.{Both, Follows}

pub and_left : (a b : Bool) → (a && b) ≡ true → a ≡ true
and_left true b h = refl
and_left false b h = h

pub and_right : (a b : Bool) → (a && b) ≡ true → b ≡ true
and_right true b h = h
and_right false true h = refl
and_right false false h = h

abbrev pub Begins : List Var → List Var → Type 0
Begins V W = (more : List Var) × (W ≡ V ++ more)

pub append_none : {A : Type 0} (xs : List A) → xs ++ [] ≡ xs
append_none [] = refl
append_none (x ∷ xs) = ap (λ z. x ∷ z) (append_none xs)

pub append_both : {A : Type 0} (xs ys zs : List A) → (xs ++ ys) ++ zs ≡ xs ++ (ys ++ zs)
append_both [] ys zs = refl
append_both (x ∷ xs) ys zs = ap (λ z. x ∷ z) (append_both xs ys zs)

pub begins_same : (V : List Var) → Begins V V
begins_same V = ([], sym (append_none V))

pub begins_more : (V W : List Var) → Begins V (V ++ W)
begins_more V W = (W, refl)

pub begins_then : (U V W : List Var) → Begins U V → Begins V W → Begins U W
begins_then U V W h i = (h.0 ++ i.0, i.1 ∙ ap (λ z. z ++ i.0) h.1 ∙ append_both U h.0 i.0)

pub roomy : (k : ℕ) (V W : List Var) → k ≤ length V → Begins V W → k ≤ length W
roomy k V W le h = let e = ap length h.1 in let l = length-append V h.0 in omega (arith, le, e, l)

abbrev pub Grows : {A : Type 0} → Makes A → Type 0
Grows M = (V : List Var) → Begins V (M V).vars

pub grows_two : {A B C : Type 0} (f : A → B → C) (M : Makes A) (N : Makes B) → Grows M → Grows N → Grows (λ V. two f (M V) N)
grows_two f M N g h V = begins_then V (M V).vars (N (M V).vars).vars (g V) (h (M V).vars)

-- ---- lists, made one after the other

abbrev pub each_made : {A : Type 0} → List (Makes A) → Makes (List A)
each_made [] V = just [] V
each_made (x ∷ xs) V = record { made = (x V).made ∷ (each_made xs (x V).vars).made; vars = (each_made xs (x V).vars).vars }

same_made : {A : Type 0} (x y : A) (V : List Var) → x ≡ y → just x V ≡ just y V
same_made x y V e = ap (λ z. just z V) e

listed_behind : {A : Type 0} (done : List A) (xs : List (Makes A)) (V : List Var) → listed done xs V ≡ mapped (λ l. done ++ l) (each_made xs V)
listed_behind done [] V = same_made done (done ++ []) V (sym (append_none done))
listed_behind done (x ∷ xs) V =
    listed_behind (done ++ (x V).made ∷ []) xs (x V).vars
    ∙ same_made ((done ++ (x V).made ∷ []) ++ (each_made xs (x V).vars).made) (done ++ (x V).made ∷ (each_made xs (x V).vars).made) (each_made xs (x V).vars).vars (append_both done ((x V).made ∷ []) (each_made xs (x V).vars).made)

pub listed_each : {A : Type 0} (xs : List (Makes A)) → listed [] xs ≡ each_made xs
listed_each xs = λ i V. listed_behind [] xs V i

abbrev pub each_operand : List (Mark × Makes TExpr) → Makes (List (Mark × TExpr))
each_operand [] V = just [] V
each_operand (x ∷ xs) V = record { made = (x.0, (x.1 V).made) ∷ (each_operand xs (x.1 V).vars).made; vars = (each_operand xs (x.1 V).vars).vars }

operands_behind : (done : List (Mark × TExpr)) (xs : List (Mark × Makes TExpr)) (V : List Var) → operands done xs V ≡ mapped (λ l. done ++ l) (each_operand xs V)
operands_behind done [] V = same_made done (done ++ []) V (sym (append_none done))
operands_behind done (x ∷ xs) V =
    let one : Mark × TExpr = (x.0, (x.1 V).made) in
    operands_behind (done ++ one ∷ []) xs (x.1 V).vars
    ∙ same_made ((done ++ one ∷ []) ++ (each_operand xs (x.1 V).vars).made) (done ++ one ∷ (each_operand xs (x.1 V).vars).made) (each_operand xs (x.1 V).vars).vars (append_both done (one ∷ []) (each_operand xs (x.1 V).vars).made)

pub operands_each : (xs : List (Mark × Makes TExpr)) → operands [] xs ≡ each_operand xs
operands_each xs = λ i V. operands_behind [] xs V i

-- ---- the relation at equal parts

module _ (n base skip whole : ℕ) where
  pub both_by : {A B : Type 0} (R : A → B → Type 0) (p p2 : Part A) (q q2 : Part B) → p ≡ p2 → q ≡ q2 → Both n base skip whole R p2 q2 → Both n base skip whole R p q
  both_by R p p2 q q2 e f h = subst (λ z. Both n base skip whole R z q) (sym e) (subst (λ z. Both n base skip whole R p2 z) (sym f) h)

  weak : {A B : Type 0} (R Q : A → B → Type 0) (t : State) (p : Run A) (q : Run B) → ((a : A) (c : B) → R a c → Q a c) → Follows n base skip whole R t p q → Follows n base skip whole Q t p q
  weak R Q t (Goes a s) (Goes c u) i h = (i a c h.0, h.1, h.2)
  weak R Q t (Goes a s) (Bounds q) i h = h
  weak R Q t (Goes a s) Spent i h = h
  weak R Q t (Bounds p) (Goes c u) i h = h
  weak R Q t (Bounds p) (Bounds q) i h = h
  weak R Q t (Bounds p) Spent i h = h
  weak R Q t Spent (Goes c u) i h = h
  weak R Q t Spent (Bounds q) i h = h
  weak R Q t Spent Spent i h = h

  pub weaker : {A B : Type 0} (R Q : A → B → Type 0) (p : Part A) (q : Part B) → ((a : A) (c : B) → R a c → Q a c) → Both n base skip whole R p q → Both n base skip whole Q p q
  weaker R Q p q i h s t r = weak R Q t (p s) (q t) i (h s t r)
