-- Parameters and kernels, one after another.
use Rattle.std.proofs.Common.{◌≡◌, ℕ, suc, ◌+◌, ◌<◌, Bool, true, List, [], ◌∷◌, ◌++◌, Option, Some, None, refl, sym, ap, ◌∙◌, arith, length, drop, get_or, append_assoc}
use Rattle.std.proofs.lemmas.List.{length-map}
use Rattle.std.proofs.Math.Seq.{drop-cons}
use Rattle.std.specs.Prelude.{map, bytes_eq, if◌then◌else◌, ◌&&◌}
use Rattle.clc_tree.specs.declared.functions.ParamStep.{ParamStep}
use Rattle.clc_types.specs.declared.typed.TFunction.{TFunction}
use Rattle.clc_types.specs.Programs.{param_shape, kernel_of}

pub item_at : {A : Type 0} (l : List A) (i : ℕ) (x : A) → x ≡ get_or l i x → i < length l → drop i l ≡ x ∷ drop (i + 1) l
item_at l i x e h = drop-cons l i x h ∙ (let n : suc i ≡ i + 1 = omega arith in ap (λ j. get_or l i x ∷ drop j l) n) ∙ ap (λ y. y ∷ drop (i + 1) l) (sym e)

pub one_more : {A B : Type 0} (f : A → B) (done : List B) (l : List A) (i : ℕ) (x : A) → x ≡ get_or l i x → i < length l
    → (done ++ f x ∷ []) ++ map f (drop (i + 1) l) ≡ done ++ map f (drop i l)
one_more f done l i x e h = append_assoc done (f x ∷ []) (map f (drop (i + 1) l)) ∙ ap (λ z. done ++ map f z) (sym (item_at l i x e h))

pub kernel_here : (fs : List TFunction) (n : ℕ) (f : TFunction) (x : List ℕ) → f ≡ get_or fs n f → n < length fs → f.kernel ≡ true → bytes_eq f.name x ≡ true
    → Some n ≡ kernel_of n (drop n fs) x
kernel_here fs n f x e h k b =
    sym (ap (λ z. kernel_of n z x) (item_at fs n f e h)
    ∙ ap (λ z. if z && bytes_eq f.name x then Some n else kernel_of (suc n) (drop (n + 1) fs) x) k
    ∙ ap (λ z. if z then Some n else kernel_of (suc n) (drop (n + 1) fs) x) b)
