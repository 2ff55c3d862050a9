-- The parameters of a kernel and of its body are of the same kinds.
use Rattle.std.proofs.Common.{◌≡◌, ℕ, zero, suc, ◌≤◌, List, [], ◌∷◌, ◌++◌, Option, Some, None, length, map, take, refl, sym, ap, ◌∙◌, arith}
use Rattle.std.specs.Prelude.{slice_get}
use Rattle.q_lane.specs.declared.kinds.Kind.{Kind}
use Rattle.clc_types.specs.declared.typed.Var.{Var}
use Rattle.clc_types.specs.declared.typed.Var.TheVariants as var
use Rattle.clc_types.specs.declared.typed.TFunction.{TFunction}
use Rattle.clc_front.specs.Kinds as front
use Rattle.ir_build.specs.Build.{kind_of, kinds_of}

same_kind : (v : Var) → kind_of v ≡ front.kind_of v
same_kind (var.Value s) = refl
same_kind (var.Pointer e c) = refl
same_kind (var.Array e n) = refl

same_kinds : (vs : List Var) → map kind_of vs ≡ map front.kind_of vs
same_kinds [] = refl
same_kinds (v ∷ vs) = λ i. same_kind v i ∷ same_kinds vs i

first_ones : (n : ℕ) (vs more : List Var) → n ≤ length vs → take n (vs ++ more) ≡ take n vs
first_ones zero vs more le = refl
first_ones (suc n) [] more le = absurd (omega (arith, le))
first_ones (suc n) (v ∷ vs) more le = ap (λ z. v ∷ z) (first_ones n vs more (omega (arith, le)))

at_number : (fs : List TFunction) (k : ℕ) (f : TFunction) → slice_get fs k ≡ Some f → front.kinds_at fs k ≡ front.kinds_of f
at_number [] k f h = absurd (cc)
at_number (g ∷ fs) zero f h = ap (λ (o : Option TFunction). kinds_in o) h
  where
    kinds_in : Option TFunction → List Kind
    kinds_in None = []
    kinds_in (Some g) = front.kinds_of g
at_number (g ∷ fs) (suc k) f h = at_number fs k f h

pub kinds_are_those : (fs : List TFunction) (k : ℕ) (f : TFunction) (vars : List Var) (params : ℕ) (more : List Var) → slice_get fs k ≡ Some f → params ≡ f.params → f.params ≤ length f.vars → vars ≡ f.vars ++ more
    → kinds_of vars params ≡ front.kinds_at fs k
kinds_are_those fs k f vars params more found p le v =
    (λ i. map kind_of (take (p i) (v i))) ∙ ap (map kind_of) (first_ones f.params f.vars more le) ∙ same_kinds (take f.params f.vars) ∙ sym (at_number fs k f found)
