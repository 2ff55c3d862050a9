-- What is known of the parts of an option that is there.
use Rattle.std.proofs.Common.{◌≡◌, Bool, true, false, cond, Option, Some, None, refl, subst}
use Rattle.std.specs.Prelude.{option_map}
use Rattle.std.proofs.lemmas.Option.{same_Some, none-some}

pub said : {B : Type 0} (P : B → Type 0) (x : B) → P x → (l : B) → Some x ≡ Some l → P l
said P x p l e = subst P (same_Some x l e) p

pub nothing : {B : Type 0} (P : B → Type 0) (l : B) → None ≡ Some l → P l
nothing P l e = absurd (none-some l e)

pub mapped : {A B : Type 0} (P : B → Type 0) (f : A → B) (o : Option A) → ((n : A) → o ≡ Some n → P (f n)) → (l : B) → option_map f o ≡ Some l → P l
mapped P f (Some n) h l e = said P (f n) (h n refl) l e
mapped P f None h l e = absurd (none-some l e)

pub pick : {B : Type 0} (P : B → Type 0) (b : Bool) (x y : Option B) → (b ≡ true → (l : B) → x ≡ Some l → P l) → ((l : B) → y ≡ Some l → P l) → (l : B) → cond b x y ≡ Some l → P l
pick P true x y this other l e = this refl l e
pick P false x y this other l e = other l e
