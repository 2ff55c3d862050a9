-- Parameters and what is passed to them, one by one.
use Rattle.std.proofs.Common.{◌≡◌, ℕ, zero, suc, ◌+◌, ◌-◌, ◌≤◌, ◌<◌, min, List, [], ◌∷◌, ◌++◌, length, drop, refl, sym, ap, ◌∙◌, append_assoc, arith}
use Rattle.clc_types.specs.declared.typed.Var.{Var}
use Rattle.item_ir.specs.declared.form.Val.{Val}
use Rattle.item_ir.specs.declared.form.Def.TheVariants as d
use Rattle.item_ir.specs.declared.form.Stmt.TheVariants.{Let, Set}
use Rattle.item_ir.specs.declared.form.Stmt.{Stmt}
use Rattle.ir_build.specs.declared.pieces.Piece.{Piece}
use Rattle.ir_build.specs.Adds.{Adds}
use Rattle.ir_build.specs.Code.{v, one, nothing, pass_code}
use Rattle.ir_build.specs.Build.{params_code}

none_passed : (vars : List Var) (ps : List ℕ) (k : ℕ) → pass_code vars ps [] k ≡ nothing k
none_passed vars [] k = refl
none_passed vars (p ∷ ps) k = refl

pub pass_end : (vars : List Var) (ps : List ℕ) (xs : List Val) (i k : ℕ) → min (length ps) (length xs) ≤ i → pass_code vars (drop i ps) (drop i xs) k ≡ nothing k
pass_end vars [] xs zero k h = refl
pass_end vars [] xs (suc i) k h = refl
pass_end vars (p ∷ ps) [] zero k h = refl
pass_end vars (p ∷ ps) [] (suc i) k h = none_passed vars (drop i ps) k
pass_end vars (p ∷ ps) (x ∷ xs) zero k h = absurd (omega arith)
pass_end vars (p ∷ ps) (x ∷ xs) (suc i) k h = pass_end vars ps xs i k (omega arith)

pub params_more : (n i k : ℕ) → i < n → params_code (n - i) i k ≡ Let (v k) (d.Param i) ∷ Set i (v k) ∷ params_code (n - suc i) (suc i) (suc k)
params_more n i k h =
    let e : n - i ≡ suc (n - suc i) = omega (arith, h) in
    ap (λ m. params_code m i k) e

-- one parameter more is stored
pub param_stored : (n i k : ℕ) (p : Piece) (o a z : List Stmt) → i < n → Adds o a p (one k (d.Param i)) → z ≡ a ++ Set i p.val ∷ []
    → z ++ params_code (n - (i + 1)) (i + 1) p.next ≡ o ++ params_code (n - i) i k
param_stored n i k p o a z lt h g =
    let e : i + 1 ≡ suc i = omega arith in
    let rest : List Stmt = params_code (n - suc i) (suc i) (suc k) in
    let q : z ≡ (o ++ Let (v k) (d.Param i) ∷ []) ++ Set i (v k) ∷ [] = g ∙ (λ j. h.0 j ++ Set i (v (h.1 j)) ∷ []) in
    (λ j. q j ++ params_code (n - e j) (e j) (h.2 j))
    ∙ append_assoc (o ++ Let (v k) (d.Param i) ∷ []) (Set i (v k) ∷ []) rest
    ∙ append_assoc o (Let (v k) (d.Param i) ∷ []) (Set i (v k) ∷ rest)
    ∙ ap (λ (l : List Stmt). o ++ l) (sym (params_more n i k lt))
