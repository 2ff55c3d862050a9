-- What is in force, where the declarations so far stand before the others.
use Rattle.std.proofs.Common.{◌≡◌, ℕ, suc, ◌+◌, ◌<◌, ◌≤◌, ◌^◌, Bool, true, false, List, [], ◌∷◌, ◌++◌, Option, Some, None, ◌⊎◌, inl, inr, refl, sym, ap, ◌∙◌, subst, arith, length, lt-ltb, le-ltb, le-leb, ne_eqb, eq-eqb, add-zero, length-append, is_some, add-suc}
use Rattle.std.specs.Prelude.{map, bytes_eq, nat_eq, nat_lt, nat_le, ◌&&◌, if◌then◌else◌, cond}
use Rattle.std.specs.Map.{lookup}
use Rattle.clc_types.specs.declared.forms.Shape.{Shape}
use Rattle.clc_types.specs.declared.forms.Named.{Named}
use Rattle.clc_types.specs.declared.forms.Named.TheVariants as nm
use Rattle.clc_types.specs.Names.{or_else}
use Rattle.clc_types.specs.InternalScope.{Entries, found, known}
use Rattle.clc_types.specs.Blocks.{Decl, is_visible, last_visible, is_again, earlier}
use Rattle.clc_types.proofs.Scopes.{or_none}

-- none of these is visible at a token
abbrev pub Hidden : ℕ → List ℕ → List Decl → Type 0
Hidden q x [] = Unit {0}
Hidden q x (d ∷ ds) = (is_visible d q x ≡ false) × Hidden q x ds

hidden_none : (n q : ℕ) (x : List ℕ) (ds : List Decl) → Hidden q x ds → last_visible n ds q x ≡ None
hidden_none n q x [] h = refl
hidden_none n q x (d ∷ ds) h = ap (λ o. or_else o (if is_visible d q x then Some (nm.Variable n d.shape) else None)) (hidden_none (suc n) q x ds h.1) ∙ ap (λ b. if b then Some (nm.Variable n d.shape) else None) h.0

pub hidden_after : (n q : ℕ) (x : List ℕ) (ds es : List Decl) → Hidden q x es → last_visible n (ds ++ es) q x ≡ last_visible n ds q x
hidden_after n q x [] es h = hidden_none n q x es h
hidden_after n q x (d ∷ ds) es h = ap (λ o. or_else o (if is_visible d q x then Some (nm.Variable n d.shape) else None)) (hidden_after (suc n) q x ds es h)

-- all stand at a token or later
abbrev pub Later : ℕ → List Decl → Type 0
Later p [] = Unit {0}
Later p (d ∷ ds) = (p ≤ d.place) × Later p ds

pub later_lower : (p q : ℕ) (ds : List Decl) → p ≤ q → Later q ds → Later p ds
later_lower p q [] h i = tt
later_lower p q (d ∷ ds) h i = let a = i.0 in (omega (arith, h, a), later_lower p q ds h i.1)

pub later_append : (p : ℕ) (ds es : List Decl) → Later p ds → Later p es → Later p (ds ++ es)
later_append p [] es h i = i
later_append p (d ∷ ds) es h i = (h.0, later_append p ds es h.1 i)

and_false : (a b : Bool) → b ≡ false → (a && b) ≡ false
and_false true b e = e
and_false false b e = refl

pub later_hidden : (p q : ℕ) (x : List ℕ) (ds : List Decl) → q ≤ p → Later p ds → Hidden q x ds
later_hidden p q x [] h i = tt
later_hidden p q x (d ∷ ds) h i =
    let a = i.0 in
    let e : nat_lt d.place q ≡ false = le-ltb d.place q (omega (arith, h, a)) in
    (and_false (bytes_eq x d.name) _ (ap (λ b. b && (nat_le d.from q && nat_lt q d.upto)) e), later_hidden p q x ds h i.1)

-- all end before a token
abbrev pub Ended : ℕ → List Decl → Type 0
Ended p [] = Unit {0}
Ended p (d ∷ ds) = (d.upto ≤ p) × Ended p ds

pub ended_append : (p : ℕ) (ds es : List Decl) → Ended p ds → Ended p es → Ended p (ds ++ es)
ended_append p [] es h i = i
ended_append p (d ∷ ds) es h i = (h.0, ended_append p ds es h.1 i)

pub ended_upper : (p q : ℕ) (ds : List Decl) → p ≤ q → Ended p ds → Ended q ds
ended_upper p q [] h i = tt
ended_upper p q (d ∷ ds) h i = let a = i.0 in (omega (arith, h, a), ended_upper p q ds h i.1)

pub ended_hidden : (p q : ℕ) (x : List ℕ) (ds : List Decl) → p ≤ q → Ended p ds → Hidden q x ds
ended_hidden p q x [] h i = tt
ended_hidden p q x (d ∷ ds) h i =
    let a = i.0 in
    let e : nat_lt q d.upto ≡ false = le-ltb q d.upto (omega (arith, h, a)) in
    (and_false (bytes_eq x d.name) _ (and_false (nat_lt d.place q) _ (and_false (nat_le d.from q) _ e)), ended_hidden p q x ds h i.1)

-- all belong to blocks that begin at a token or later
abbrev pub Inner : ℕ → List Decl → Type 0
Inner p [] = Unit {0}
Inner p (d ∷ ds) = (p ≤ d.from) × Inner p ds

pub inner_append : (p : ℕ) (ds es : List Decl) → Inner p ds → Inner p es → Inner p (ds ++ es)
inner_append p [] es h i = i
inner_append p (d ∷ ds) es h i = (h.0, inner_append p ds es h.1 i)

pub inner_lower : (p q : ℕ) (ds : List Decl) → p ≤ q → Inner q ds → Inner p ds
inner_lower p q [] h i = tt
inner_lower p q (d ∷ ds) h i = let a = i.0 in (omega (arith, h, a), inner_lower p q ds h i.1)

-- none of these is the name's in that block, before a token
abbrev Apart : ℕ → ℕ → List ℕ → List Decl → Type 0
Apart from q x [] = Unit {0}
Apart from q x (d ∷ ds) = ((bytes_eq x d.name && (nat_eq d.from from && nat_lt d.place q)) ≡ false) × Apart from q x ds

apart_none : (from q : ℕ) (x : List ℕ) (ds : List Decl) → Apart from q x ds → is_again ds from q x ≡ false
apart_none from q x [] h = refl
apart_none from q x (d ∷ ds) h = ap (λ b. if b then true else is_again ds from q x) h.0 ∙ apart_none from q x ds h.1

pub apart_after : (from q : ℕ) (x : List ℕ) (ds es : List Decl) → Apart from q x es → is_again (ds ++ es) from q x ≡ is_again ds from q x
apart_after from q x [] es h = apart_none from q x es h
apart_after from q x (d ∷ ds) es h = ap (λ b. if bytes_eq x d.name && (nat_eq d.from from && nat_lt d.place q) then true else b) (apart_after from q x ds es h)

pub later_apart : (p from q : ℕ) (x : List ℕ) (ds : List Decl) → q ≤ p → Later p ds → Apart from q x ds
later_apart p from q x [] h i = tt
later_apart p from q x (d ∷ ds) h i =
    let a = i.0 in
    (and_false (bytes_eq x d.name) _ (and_false (nat_eq d.from from) _ (le-ltb d.place q (omega (arith, h, a)))), later_apart p from q x ds h i.1)

pub inner_apart : (p from q : ℕ) (x : List ℕ) (ds : List Decl) → from < p → Inner p ds → Apart from q x ds
inner_apart p from q x [] h i = tt
inner_apart p from q x (d ∷ ds) h i =
    let a = i.0 in
    let e : nat_eq d.from from ≡ false = ne_eqb d.from from (λ z. omega (arith, h, a, z)) in
    (and_false (bytes_eq x d.name) _ (ap (λ b. b && nat_lt d.place q) e), inner_apart p from q x ds h i.1)

-- all stand before a token, in blocks that begin before it
abbrev pub Sooner : ℕ → List Decl → Type 0
Sooner p [] = Unit {0}
Sooner p (d ∷ ds) = (d.place < p) × (d.from < p) × Sooner p ds

pub sooner_upper : (p q : ℕ) (ds : List Decl) → p ≤ q → Sooner p ds → Sooner q ds
sooner_upper p q [] h i = tt
sooner_upper p q (d ∷ ds) h i = let a = i.0 in let b = i.1 in (omega (arith, h, a), omega (arith, h, b), sooner_upper p q ds h i.2)

pub sooner_append : (p : ℕ) (ds es : List Decl) → Sooner p ds → Sooner p es → Sooner p (ds ++ es)
sooner_append p [] es h i = i
sooner_append p (d ∷ ds) es h i = (h.0, h.1, sooner_append p ds es h.2 i)

-- a block that begins here has none of these
pub sooner_apart : (p q : ℕ) (x : List ℕ) (ds : List Decl) → Sooner p ds → Apart p q x ds
sooner_apart p q x [] i = tt
sooner_apart p q x (d ∷ ds) i =
    let b = i.1 in
    let e : nat_eq d.from p ≡ false = ne_eqb d.from p (λ z. omega (arith, b, z)) in
    (and_false (bytes_eq x d.name) _ (ap (λ c. c && nat_lt d.place q) e), sooner_apart p q x ds i.2)

pub fresh_block : (p q : ℕ) (x : List ℕ) (ds : List Decl) → Sooner p ds → is_again ds p q x ≡ false
fresh_block p q x ds h = apart_none p q x ds (sooner_apart p q x ds h)

-- a declaration's number is how many stand before it
later_earlier : (q : ℕ) (ds : List Decl) → Later q ds → earlier ds q ≡ 0
later_earlier q [] h = refl
later_earlier q (d ∷ ds) h = ap (λ b. if b then suc (earlier ds q) else earlier ds q) (le-ltb d.place q h.0) ∙ later_earlier q ds h.1

pub earlier_is : (q : ℕ) (ds es : List Decl) → Sooner q ds → Later q es → earlier (ds ++ es) q ≡ length ds
earlier_is q [] es h i = later_earlier q es i
earlier_is q (d ∷ ds) es h i = ap (λ b. if b then suc (earlier (ds ++ es) q) else earlier (ds ++ es) q) (lt-ltb d.place q h.0) ∙ ap suc (earlier_is q ds es h.2 i)

-- one more declaration
pub last_push : (n q : ℕ) (x : List ℕ) (ds : List Decl) (d : Decl) → last_visible n (ds ++ d ∷ []) q x ≡ or_else (if is_visible d q x then Some (nm.Variable (n + length ds) d.shape) else None) (last_visible n ds q x)
last_push n q x [] d = sym (or_none _ ∙ ap (λ m. if is_visible d q x then Some (nm.Variable m d.shape) else None) (add-zero n))
last_push n q x (e ∷ ds) d =
    ap (λ o. or_else o (if is_visible e q x then Some (nm.Variable n e.shape) else None)) (last_push (suc n) q x ds d)
    ∙ assoc (if is_visible d q x then Some (nm.Variable (suc n + length ds) d.shape) else None) (last_visible (suc n) ds q x) (if is_visible e q x then Some (nm.Variable n e.shape) else None)
    ∙ ap (λ m. or_else (if is_visible d q x then Some (nm.Variable m d.shape) else None) (last_visible n (e ∷ ds) q x)) (let z : suc n + length ds ≡ n + suc (length ds) = omega arith in z)
  where
    assoc : (a b c : Option Named) → or_else (or_else a b) c ≡ or_else a (or_else b c)
    assoc (Some x) b c = refl
    assoc None b c = refl

pub again_push : (from q : ℕ) (x : List ℕ) (ds : List Decl) (d : Decl) → is_again (ds ++ d ∷ []) from q x ≡ (if is_again ds from q x then true else (bytes_eq x d.name && (nat_eq d.from from && nat_lt d.place q)))
again_push from q x [] d = one (bytes_eq x d.name && (nat_eq d.from from && nat_lt d.place q))
  where
    one : (b : Bool) → (if b then true else false) ≡ b
    one true = refl
    one false = refl
again_push from q x (e ∷ ds) d = over (bytes_eq x e.name && (nat_eq e.from from && nat_lt e.place q)) (again_push from q x ds d)
  where
    over : (b : Bool) → is_again (ds ++ d ∷ []) from q x ≡ (if is_again ds from q x then true else (bytes_eq x d.name && (nat_eq d.from from && nat_lt d.place q)))
        → (if b then true else is_again (ds ++ d ∷ []) from q x) ≡ (if (if b then true else is_again ds from q x) then true else (bytes_eq x d.name && (nat_eq d.from from && nat_lt d.place q)))
    over true h = refl
    over false h = h

-- one more entry
pub found_push : (es : Entries) (y x : List ℕ) (n : Named) → found (es ++ (y, n) ∷ []) x ≡ or_else (found es x) (if bytes_eq x y then Some n else None)
found_push [] y x n = refl
found_push (e ∷ es) y x n = over (bytes_eq x e.0) (found_push es y x n)
  where
    over : (b : Bool) → found (es ++ (y, n) ∷ []) x ≡ or_else (found es x) (if bytes_eq x y then Some n else None)
        → (if b then Some e.1 else found (es ++ (y, n) ∷ []) x) ≡ or_else (if b then Some e.1 else found es x) (if bytes_eq x y then Some n else None)
    over true h = refl
    over false h = h
