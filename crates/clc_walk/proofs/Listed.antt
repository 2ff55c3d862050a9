-- Lists of statements that several parts make, one after another.
use Rattle.std.proofs.Common.{◌≡◌, ℕ, Bool, List, [], ◌∷◌, ◌++◌, refl, sym, ap, ◌∙◌, subst, append_assoc, append-nil, Result, Ok, Err}
use Rattle.std.specs.Result.{IsErrAnd}
use Rattle.clc_types.specs.declared.typed.TypeFault.{TypeFault}
use Rattle.clc_types.specs.declared.typed.TypeFault.TheVariants.{Rule, Memory}
use Rattle.clc_types.specs.declared.scope.State.{State}
use Rattle.clc_types.specs.InternalSteps.{View, Stepped, Goes, Stops, and_then, PieceWalk, seq, made, opened, listed, ending, past, skipped, entered, left, Stands, view_of}

-- what is listed after a list is what is listed alone, after it
pub after_list : {A : Type 0} (done d : List A) (ws : List (PieceWalk (List A))) (l : Bool) (v : View)
    → and_then (listed d ws l v) (λ y u. Goes (done ++ y) u) ≡ listed (done ++ d) ws l v
after_list done d [] l v = refl
after_list {A = A} done d (w ∷ ws) l v = by (λ y u. after_list done (d ++ y) ws l u) (w l v)
  where
    by : ((y : List A) (u : View) → and_then (listed (d ++ y) ws l u) (λ y u. Goes (done ++ y) u) ≡ listed (done ++ (d ++ y)) ws l u) → (s : Stepped (List A))
        → and_then (and_then s (λ y u. listed (d ++ y) ws l u)) (λ y u. Goes (done ++ y) u) ≡ and_then s (λ y u. listed ((done ++ d) ++ y) ws l u)
    by h (Goes y u) = h y u ∙ ap (λ z. listed z ws l u) (sym (append_assoc done d y))
    by h (Stops f) = refl

-- the first part, and then the others
pub first_then : {A : Type 0} (done : List A) (w : PieceWalk (List A)) (ws : List (PieceWalk (List A))) (l : Bool) (v : View)
    → listed done (w ∷ ws) l v ≡ and_then (listed done (w ∷ []) l v) (λ xs u. listed xs ws l u)
first_then {A = A} done w ws l v = by (w l v)
  where
    by : (s : Stepped (List A)) → and_then s (λ y u. listed (done ++ y) ws l u) ≡ and_then (and_then s (λ y u. Goes (done ++ y) u)) (λ xs u. listed xs ws l u)
    by (Goes y u) = refl
    by (Stops f) = refl

-- a declaration: the first variable, the others, and its last token
pub values_walk : {A : Type 0} (done : List A) (w : PieceWalk (List A)) (ws : List (PieceWalk (List A))) (n : ℕ) (l : Bool) (v : View)
    → and_then (ending (past n (listed [] (w ∷ ws))) 1 l v) (λ y u. Goes (done ++ y) u)
    ≡ and_then (listed done (w ∷ []) l (skipped n v)) (λ xs u. and_then (listed xs ws l u) (λ ys s. Goes ys (skipped 1 s)))
values_walk {A = A} done w ws n l v =
    turn (listed [] (w ∷ ws) l (skipped n v))
    ∙ ap (λ s. and_then s (λ ys u. Goes ys (skipped 1 u))) (after_list done [] (w ∷ ws) l (skipped n v) ∙ ap (λ z. listed z (w ∷ ws) l (skipped n v)) (append-nil done) ∙ first_then done w ws l (skipped n v))
    ∙ over (listed done (w ∷ []) l (skipped n v))
  where
    turn : (s : Stepped (List A)) → and_then (and_then s (λ x u. Goes x (skipped 1 u))) (λ y u. Goes (done ++ y) u) ≡ and_then (and_then s (λ y u. Goes (done ++ y) u)) (λ ys u. Goes ys (skipped 1 u))
    turn (Goes y u) = refl
    turn (Stops f) = refl

    over : (s : Stepped (List A)) → and_then (and_then s (λ xs u. listed xs ws l u)) (λ ys u. Goes ys (skipped 1 u)) ≡ and_then s (λ xs u. and_then (listed xs ws l u) (λ ys s. Goes ys (skipped 1 s)))
    over (Goes y u) = refl
    over (Stops f) = refl

-- ---- steps that fail or go on

pub stands_memory : {A : Type 0} (s : Stepped A) (new : State) → Stands s (Err Memory) new
stands_memory (Goes a v) new = tt
stands_memory (Stops f) new = tt

pub stands_stop : {A B : Type 0} (s : Stepped A) (go : A → View → Stepped B) (e : TypeFault) (new : State) → Stands s (Err e) new → Stands (and_then s go) (Err e) new
stands_stop (Goes a v) go Memory new h = stands_memory (go a v) new
stands_stop (Goes a v) go (Rule r t) new h = absurd h
stands_stop (Stops f) go e new h = h

pub stands_go : {A B : Type 0} (s : Stepped A) (go : A → View → Stepped B) (a : A) (mid : State) (r : Result B TypeFault) (new : State)
    → Stands s (Ok a) mid → Stands (go a (view_of mid)) r new → Stands (and_then s go) r new
stands_go (Goes b v) go a mid r new h i = subst (λ z. Stands (go z v) r new) (sym h.0) (subst (λ z. Stands (go a z) r new) (sym h.1) i)
stands_go (Stops f) go a mid r new h i = absurd h

-- what a `?` hands on
pub handed : {A : Type 0} (s : Stepped A) (r : Result A TypeFault) (e : TypeFault) (new : State) → IsErrAnd r (λ y. y ≡ e) → Stands s (Err e) new → Stands s r new
handed s (Ok a) e new x h = absurd x
handed s (Err y) e new x h = subst (λ z. Stands s (Err z) new) (sym x) h

-- ---- a declaration of values

abbrev pub values : {A : Type 0} (done : List A) (w : PieceWalk (List A)) (ws : List (PieceWalk (List A))) (n : ℕ) (l : Bool) (v : View) → Stepped (List A)
values done w ws n l v = and_then (ending (past n (listed [] (w ∷ ws))) 1 l v) (λ y u. Goes (done ++ y) u)

pub values_stop : {A : Type 0} (done : List A) (w : PieceWalk (List A)) (ws : List (PieceWalk (List A))) (n : ℕ) (l : Bool) (v : View) (e : TypeFault) (new : State)
    → Stands (listed done (w ∷ []) l (skipped n v)) (Err e) new → Stands (values done w ws n l v) (Err e) new
values_stop done w ws n l v e new h =
    subst (λ s. Stands s (Err e) new) (sym (values_walk done w ws n l v)) (stands_stop (listed done (w ∷ []) l (skipped n v)) (λ xs u. and_then (listed xs ws l u) (λ ys s. Goes ys (skipped 1 s))) e new h)

pub values_later : {A : Type 0} (done : List A) (w : PieceWalk (List A)) (ws : List (PieceWalk (List A))) (n : ℕ) (l : Bool) (v : View) (xs : List A) (mid : State) (e : TypeFault) (new : State)
    → Stands (listed done (w ∷ []) l (skipped n v)) (Ok xs) mid → Stands (listed xs ws l (view_of mid)) (Err e) new → Stands (values done w ws n l v) (Err e) new
values_later done w ws n l v xs mid e new h i =
    subst (λ s. Stands s (Err e) new) (sym (values_walk done w ws n l v))
    (stands_go (listed done (w ∷ []) l (skipped n v)) (λ xs u. and_then (listed xs ws l u) (λ ys s. Goes ys (skipped 1 s))) xs mid (Err e) new h
    (stands_stop (listed xs ws l (view_of mid)) (λ ys s. Goes ys (skipped 1 s)) e new i))

pub values_done : {A : Type 0} (done : List A) (w : PieceWalk (List A)) (ws : List (PieceWalk (List A))) (n : ℕ) (l : Bool) (v : View) (xs : List A) (mid : State) (ys : List A) (late new : State)
    → Stands (listed done (w ∷ []) l (skipped n v)) (Ok xs) mid → Stands (listed xs ws l (view_of mid)) (Ok ys) late → view_of new ≡ skipped 1 (view_of late) → Stands (values done w ws n l v) (Ok ys) new
values_done done w ws n l v xs mid ys late new h i j =
    subst (λ s. Stands s (Ok ys) new) (sym (values_walk done w ws n l v))
    (stands_go (listed done (w ∷ []) l (skipped n v)) (λ xs u. and_then (listed xs ws l u) (λ ys s. Goes ys (skipped 1 s))) xs mid (Ok ys) new h
    (stands_go (listed xs ws l (view_of mid)) (λ ys s. Goes ys (skipped 1 s)) ys late (Ok ys) new i (refl, sym j)))

-- ---- parts in turn

pub alone : {A : Type 0} (w : PieceWalk (List A)) (l : Bool) (v : View) → listed [] (w ∷ []) l v ≡ w l v
alone {A = A} w l v = by (w l v)
  where
    by : (s : Stepped (List A)) → and_then s (λ y u. Goes ([] ++ y) u) ≡ s
    by (Goes y u) = refl
    by (Stops f) = refl

pub seq_stop : {A B : Type 0} (w : PieceWalk A) (z : PieceWalk B) (l : Bool) (v : View) (a : A) (mid : State) (e : TypeFault) (new : State)
    → Stands (w l v) (Ok a) mid → Stands (z l (view_of mid)) (Err e) new → Stands (seq w z l v) (Err e) new
seq_stop w z l v a mid e new h i = stands_go (w l v) (λ x u. and_then (z l u) (λ y s. Goes (x, y) s)) a mid (Err e) new h (stands_stop (z l (view_of mid)) (λ y s. Goes (a, y) s) e new i)

pub seq_stops : {A B : Type 0} (w : PieceWalk A) (z : PieceWalk B) (l : Bool) (v : View) (e : TypeFault) (new : State) → Stands (w l v) (Err e) new → Stands (seq w z l v) (Err e) new
seq_stops w z l v e new h = stands_stop (w l v) (λ x u. and_then (z l u) (λ y s. Goes (x, y) s)) e new h

pub opened_stops : {A B : Type 0} (f : A → B) (w : PieceWalk A) (n : ℕ) (l : Bool) (v : View) (e : TypeFault) (new : State)
    → Stands (w l (skipped n (entered v))) (Err e) new → Stands (opened n (made f w) l v) (Err e) new
opened_stops f w n l v e new h =
    stands_stop (made f w l (skipped n (entered v))) (λ x u. Goes x (left u)) e new (stands_stop (w l (skipped n (entered v))) (λ x u. Goes (f x) u) e new h)
