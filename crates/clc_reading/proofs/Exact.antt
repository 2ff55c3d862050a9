-- What a reader owes to a language, and that each way to build a reader pays it.
use Rattle.std.proofs.Common.{◌⊎◌, inl, inr, ◌≡◌, ℕ, zero, suc, ◌<◌, ◌≤◌, Bool, true, false, cond, List, [], ◌∷◌, ◌++◌, Option, Some, None, refl, sym, ap, ◌∙◌, subst, arith, length, length-append, append_assoc, append-nil}
use Rattle.clc_reading.specs.Reading.{Reason, Wrong, Deep, Outcome, Got, Stops, Reader, and_then, ◌>>=◌, pure, taken, one, sees, pick, turns, many, deny, Spelling, tokens_of, deeper, below, AllBelow, Language}

abbrev pub first : {T : Type 0} → List T → Option T
first [] = None
first (x ∷ xs) = Some x

-- the outcome of reading a, spelled ms, before rest
abbrev pub settle : {T A : Type 0} → ℕ → A → Spelling T → List T → Outcome T A
settle n a [] rest = Got a rest
settle n a (m ∷ ms) rest = cond (below m.1 n) (settle n a ms rest) (Stops Deep (m.0 ∷ (tokens_of ms ++ rest)))

-- the token at which reading stops for depth is one of the value that is being read
abbrev pub Cause : {T : Type 0} → ℕ → Reason → List T → Spelling T → Type 0
Cause n Wrong left more = Unit {0}
Cause n Deep [] more = ⊥
Cause n Deep (x ∷ left) [] = ⊥
Cause n Deep (x ∷ left) (m ∷ more) = (x ≡ m.0) × (below m.1 n ≡ false)

pub record Read {T A : Type 0} (n : ℕ) (p : Reader T A) (L : Language T A) (ts : List T) (a : A) (rest : List T) : Type 0 where
  pub spelling : Spelling T
  pub spells : L.spells a spelling
  pub split : ts ≡ tokens_of spelling ++ rest
  pub flat : AllBelow n spelling
  pub again : (rest' : List T) → first rest' ≡ first rest → p (tokens_of spelling ++ rest') ≡ Got a rest'

pub record Partial {T A : Type 0} (n : ℕ) (p : Reader T A) (L : Language T A) (ts : List T) (why : Reason) (left : List T) : Type 0 where
  pub value : A
  pub done : Spelling T
  pub more : Spelling T
  pub spells : L.spells value (done ++ more)
  pub split : ts ≡ tokens_of done ++ left
  pub flat : AllBelow n done
  pub cause : Cause n why left more
  pub again : (left' : List T) → first left' ≡ first left → p (tokens_of done ++ left') ≡ Stops why left'

pub record Exact {T A : Type 0} (n : ℕ) (p : Reader T A) (L : Language T A) : Type 0 where
  pub got : (ts : List T) (a : A) (rest : List T) → p ts ≡ Got a rest → Read n p L ts a rest
  pub stops : (ts : List T) (why : Reason) (left : List T) → p ts ≡ Stops why left → Partial n p L ts why left
  pub complete : (a : A) (ms : Spelling T) (rest : List T) → L.spells a ms → L.halts a rest → p (tokens_of ms ++ rest) ≡ settle n a ms rest
  pub sample : A
  pub sample_spelling : Spelling T
  pub sample_spells : L.spells sample sample_spelling

-- ---- lists

pub tokens_of-append : {T : Type 0} (m k : Spelling T) → tokens_of (m ++ k) ≡ tokens_of m ++ tokens_of k
tokens_of-append [] k = refl
tokens_of-append (x ∷ m) k = ap (λ r. x.0 ∷ r) (tokens_of-append m k)

pub tokens_of_split : {T : Type 0} (m k : Spelling T) (r : List T) → tokens_of (m ++ k) ++ r ≡ tokens_of m ++ (tokens_of k ++ r)
tokens_of_split m k r = rw tokens_of-append (append_assoc (tokens_of m) (tokens_of k) r)

pub AllBelow-append : {T : Type 0} (n : ℕ) (m k : Spelling T) → AllBelow n m → AllBelow n k → AllBelow n (m ++ k)
AllBelow-append n [] k h g = g
AllBelow-append n (x ∷ m) k h g = (h.0, AllBelow-append n m k h.1 g)

pub first-append : {T : Type 0} (m : List T) (r r' : List T) → first r' ≡ first r → first (m ++ r') ≡ first (m ++ r)
first-append [] r r' h = h
first-append (x ∷ m) r r' h = refl

pub Cause-append : {T : Type 0} (n : ℕ) (why : Reason) (left : List T) (m k : Spelling T) → Cause n why left m → Cause n why left (m ++ k)
Cause-append n Wrong left m k h = tt
Cause-append n Deep [] m k h = absurd h
Cause-append n Deep (x ∷ left) [] k h = absurd h
Cause-append n Deep (x ∷ left) (y ∷ m) k h = h

pub stop_is : {T A R : Type 0} (w : Reason) (l : List T) (why : Reason) (left : List T) → ◌≡◌ {A = Outcome T R} (Stops w l) (Stops why left) → ◌≡◌ {A = Outcome T A} (Stops w l) (Stops why left)
stop_is w l why left h = let e : w ≡ why = cc in let k : l ≡ left = cc in cc

-- ---- one after the other

abbrev pub then_lang : {T A R : Type 0} → Language T A → (A → Language T R) → Language T R
then_lang {T} {A} {R} L M = record {
  spells = λ r ms. (a : A) × (m : Spelling T) × (k : Spelling T) × L.spells a m × (M a).spells r k × (ms ≡ m ++ k);
  halts = λ r rest. (a : A) → (M a).halts r rest;
}

module _ {T A R : Type 0} (n : ℕ) (p : Reader T A) (f : A → Reader T R) (L : Language T A) (M : A → Language T R)
    (P : Exact n p L) (Q : (a : A) → Exact n (f a) (M a))
    (fits : (a : A) (r : R) (k : Spelling T) (rest : List T) → (M a).spells r k → (M a).halts r rest → L.halts a (tokens_of k ++ rest)) where
  then_got_at : (ts : List T) (r : R) (rest : List T) (o : Outcome T A) → p ts ≡ o → and_then o f ≡ Got r rest → Read n (p >>= f) (then_lang L M) ts r rest
  then_got_at ts r rest (Stops why left) e h = absurd (cc)
  then_got_at ts r rest (Got a mid) e h =
      let x = P.got ts a mid e in
      let y = (Q a).got mid r rest h in
      record {
        spelling = x.spelling ++ y.spelling;
        spells = (a, x.spelling, y.spelling, x.spells, y.spells, refl);
        split = rw tokens_of_split (x.split ∙ ap (λ z. tokens_of x.spelling ++ z) y.split);
        flat = AllBelow-append n x.spelling y.spelling x.flat y.flat;
        again = λ rest' same.
            let e1 : first (tokens_of y.spelling ++ rest') ≡ first mid = first-append (tokens_of y.spelling) rest rest' same ∙ ap first (sym y.split) in
            ap (λ z. and_then (p z) f) (tokens_of_split x.spelling y.spelling rest')
            ∙ ap (λ z. and_then z f) (x.again (tokens_of y.spelling ++ rest') e1)
            ∙ y.again rest' same;
      }

  then_stops_at : (ts : List T) (why : Reason) (left : List T) (o : Outcome T A) → p ts ≡ o → and_then o f ≡ Stops why left → Partial n (p >>= f) (then_lang L M) ts why left
  then_stops_at ts why left (Stops w l) e h =
      let same_stop : ◌≡◌ {A = Outcome T A} (Stops w l) (Stops why left) = stop_is {R = R} w l why left h in
      let x = P.stops ts why left (e ∙ same_stop) in
      let q = Q x.value in
      record {
        value = q.sample;
        done = x.done;
        more = x.more ++ q.sample_spelling;
        spells = (x.value, x.done ++ x.more, q.sample_spelling, x.spells, q.sample_spells, sym (append_assoc x.done x.more q.sample_spelling));
        split = x.split;
        flat = x.flat;
        cause = Cause-append n why left x.more q.sample_spelling x.cause;
        again = λ left' same. ap (λ z. and_then z f) (x.again left' same);
      }
  then_stops_at ts why left (Got a mid) e h =
      let x = P.got ts a mid e in
      let y = (Q a).stops mid why left h in
      record {
        value = y.value;
        done = x.spelling ++ y.done;
        more = y.more;
        spells = (a, x.spelling, y.done ++ y.more, x.spells, y.spells, append_assoc x.spelling y.done y.more);
        split = rw tokens_of_split (x.split ∙ ap (λ z. tokens_of x.spelling ++ z) y.split);
        flat = AllBelow-append n x.spelling y.done x.flat y.flat;
        cause = y.cause;
        again = λ left' same.
            let e1 : first (tokens_of y.done ++ left') ≡ first mid = first-append (tokens_of y.done) left left' same ∙ ap first (sym y.split) in
            ap (λ z. and_then (p z) f) (tokens_of_split x.spelling y.done left')
            ∙ ap (λ z. and_then z f) (x.again (tokens_of y.done ++ left') e1)
            ∙ y.again left' same;
      }

  then_settles_at : (a : A) (r : R) (x : T × ℕ) (m k : Spelling T) (rest : List T) (b : Bool)
      → and_then (settle n a m (tokens_of k ++ rest)) f ≡ settle n r (m ++ k) rest
      → and_then (cond b (settle n a m (tokens_of k ++ rest)) (Stops Deep (x.0 ∷ (tokens_of m ++ (tokens_of k ++ rest))))) f ≡ cond b (settle n r (m ++ k) rest) (Stops Deep (x.0 ∷ (tokens_of (m ++ k) ++ rest)))
  then_settles_at a r x m k rest true ih = ih
  then_settles_at a r x m k rest false ih = ap (λ z. Stops Deep (x.0 ∷ z)) (sym (tokens_of_split m k rest))

  then_settles : (a : A) (r : R) (m k : Spelling T) (rest : List T) → f a (tokens_of k ++ rest) ≡ settle n r k rest
      → and_then (settle n a m (tokens_of k ++ rest)) f ≡ settle n r (m ++ k) rest
  then_settles a r [] k rest h = h
  then_settles a r (x ∷ m) k rest h = then_settles_at a r x m k rest (below x.1 n) (then_settles a r m k rest h)

  then_complete : (r : R) (ms : Spelling T) (rest : List T) → (then_lang L M).spells r ms → (then_lang L M).halts r rest → (p >>= f) (tokens_of ms ++ rest) ≡ settle n r ms rest
  then_complete r ms rest s h =
      let a = s.0 in let m = s.1 in let k = s.2 in
      let e1 : tokens_of ms ++ rest ≡ tokens_of m ++ (tokens_of k ++ rest) = ap (λ z. tokens_of z ++ rest) s.5 ∙ tokens_of_split m k rest in
      ap (λ z. and_then (p z) f) e1
      ∙ ap (λ z. and_then z f) (P.complete a m (tokens_of k ++ rest) s.3 (fits a r k rest s.4 (h a)))
      ∙ then_settles a r m k rest ((Q a).complete r k rest s.4 (h a))
      ∙ ap (λ z. settle n r z rest) (sym s.5)

  pub then_exact : Exact n (p >>= f) (then_lang L M)
  then_exact = record {
    got = λ ts r rest h. then_got_at ts r rest (p ts) refl h;
    stops = λ ts why left h. then_stops_at ts why left (p ts) refl h;
    complete = then_complete;
    sample = (Q P.sample).sample;
    sample_spelling = P.sample_spelling ++ (Q P.sample).sample_spelling;
    sample_spells = (P.sample, P.sample_spelling, (Q P.sample).sample_spelling, P.sample_spells, (Q P.sample).sample_spells, refl);
  }

-- ---- nothing

abbrev pub pure_lang : {T A : Type 0} → A → Language T A
pure_lang {T} {A} a = record { spells = λ r ms. (r ≡ a) × (ms ≡ []); halts = λ r rest. Unit {0} }

pub pure_exact : {T A : Type 0} (n : ℕ) (a : A) → Exact {T = T} n (pure a) (pure_lang a)
pure_exact {T} {A} n a = record {
  got = λ ts r rest h. record { spelling = []; spells = (cc, refl); split = cc; flat = tt; again = λ rest' same. cc };
  stops = λ ts why left h. absurd (cc);
  complete = λ r ms rest s h. ap (λ z. Got a (tokens_of z ++ rest)) s.1 ∙ ap (λ z. Got z rest) (sym s.0) ∙ ap (λ z. settle n r z rest) (sym s.1);
  sample = a;
  sample_spelling = [];
  sample_spells = (refl, refl);
}

-- ---- the same language, said otherwise

pub same_lang : {T A : Type 0} (n : ℕ) (p : Reader T A) (L M : Language T A) → Exact n p L
    → ((a : A) (ms : Spelling T) → L.spells a ms → M.spells a ms)
    → ((a : A) (ms : Spelling T) → M.spells a ms → L.spells a ms)
    → ((a : A) (rest : List T) → M.halts a rest → L.halts a rest) → Exact n p M
same_lang n p L M P to from halts = record {
  got = λ ts a rest h. let x = P.got ts a rest h in record { spelling = x.spelling; spells = to a x.spelling x.spells; split = x.split; flat = x.flat; again = x.again };
  stops = λ ts why left h. let x = P.stops ts why left h in
      record { value = x.value; done = x.done; more = x.more; spells = to x.value (x.done ++ x.more) x.spells; split = x.split; flat = x.flat; cause = x.cause; again = x.again };
  complete = λ a ms rest s h. P.complete a ms rest (from a ms s) (halts a rest h);
  sample = P.sample;
  sample_spelling = P.sample_spelling;
  sample_spells = to P.sample P.sample_spelling P.sample_spells;
}

-- ---- one of two, by the next token

pub sees_first : {T : Type 0} (f : T → Bool) (a b : List T) → first a ≡ first b → sees f a ≡ sees f b
sees_first f [] [] h = refl
sees_first f [] (y ∷ b) h = absurd (cc)
sees_first f (x ∷ a) [] h = absurd (cc)
sees_first f (x ∷ a) (y ∷ b) h = let same : x ≡ y = cc in ap f same

-- the second only where the text begins with no token of the kind
abbrev pub pick_lang : {T A : Type 0} → (T → Bool) → Language T A → Language T A → Language T A
pick_lang f L M = record { spells = λ a ms. L.spells a ms ⊎ (M.spells a ms × (sees f (tokens_of ms) ≡ false)); halts = λ a rest. L.halts a rest × M.halts a rest }

pub sees-append : {T : Type 0} (f : T → Bool) (m : Spelling T) (r : List T) → sees f (tokens_of m ++ r) ≡ false → sees f (tokens_of m) ≡ false
sees-append f [] r h = refl
sees-append f (x ∷ m) r h = h

pub cond_true : {A : Type 0} (x y : A) (b : Bool) → b ≡ true → cond b x y ≡ x
cond_true x y b e = ap (λ v. cond v x y) e

pub cond_false : {A : Type 0} (x y : A) (b : Bool) → b ≡ false → cond b x y ≡ y
cond_false x y b e = ap (λ v. cond v x y) e

module _ {T A : Type 0} (n : ℕ) (f : T → Bool) (p q : Reader T A) (L M : Language T A) (P : Exact n p L) (Q : Exact n q M)
    (yes : (a : A) (ms : Spelling T) (rest : List T) → L.spells a ms → sees f (tokens_of ms ++ rest) ≡ true)
    (none : (a : A) (rest : List T) → M.spells a [] → M.halts a rest → sees f rest ≡ false) where
  pick_got_at : (ts : List T) (a : A) (rest : List T) (b : Bool) → sees f ts ≡ b → cond b (p ts) (q ts) ≡ Got a rest → Read n (pick f p q) (pick_lang f L M) ts a rest
  pick_got_at ts a rest true e h =
      let x = P.got ts a rest h in
      record {
        spelling = x.spelling;
        spells = inl x.spells;
        split = x.split;
        flat = x.flat;
        again = λ rest' s.
            cond_true _ _ (sees f (tokens_of x.spelling ++ rest')) (sees_first f _ _ (first-append (tokens_of x.spelling) rest rest' s ∙ ap first (sym x.split)) ∙ e)
            ∙ x.again rest' s;
      }
  pick_got_at ts a rest false e h =
      let x = Q.got ts a rest h in
      record {
        spelling = x.spelling;
        spells = inr (x.spells, sees-append f x.spelling rest (ap (sees f) (sym x.split) ∙ e));
        split = x.split;
        flat = x.flat;
        again = λ rest' s.
            cond_false _ _ (sees f (tokens_of x.spelling ++ rest')) (sees_first f _ _ (first-append (tokens_of x.spelling) rest rest' s ∙ ap first (sym x.split)) ∙ e)
            ∙ x.again rest' s;
      }

  pick_stops_by_at : (ts : List T) (why : Reason) (left : List T) → sees f ts ≡ false → (value : A) (done more : Spelling T) → M.spells value (done ++ more) → ts ≡ tokens_of done ++ left → AllBelow n done → Cause n why left more
      → ((left' : List T) → first left' ≡ first left → pick f p q (tokens_of done ++ left') ≡ Stops why left') → Partial n (pick f p q) (pick_lang f L M) ts why left
  pick_stops_by_at ts why left e value (x ∷ done) more s is flat cause again =
      record { value = value; done = x ∷ done; more = more; spells = inr (s, ap (sees f) (sym is) ∙ e); split = is; flat = flat; cause = cause; again = again }
  pick_stops_by_at ts Wrong left e value [] more s is flat cause again =
      record { value = P.sample; done = []; more = P.sample_spelling; spells = inl P.sample_spells; split = is; flat = tt; cause = tt; again = again }
  pick_stops_by_at ts Deep [] e value [] more s is flat cause again = absurd cause
  pick_stops_by_at ts Deep (y ∷ left) e value [] [] s is flat cause again = absurd cause
  pick_stops_by_at ts Deep (y ∷ left) e value [] (x ∷ more) s is flat cause again =
      record { value = value; done = []; more = x ∷ more; spells = inr (s, ap f (sym cause.0) ∙ ap (sees f) (sym is) ∙ e); split = is; flat = tt; cause = cause; again = again }

  pick_stops_by : (ts : List T) (why : Reason) (left : List T) → sees f ts ≡ false → Partial n q M ts why left → Partial n (pick f p q) (pick_lang f L M) ts why left
  pick_stops_by ts why left e x =
      pick_stops_by_at ts why left e x.value x.done x.more x.spells x.split x.flat x.cause
      (λ left' s.
      cond_false _ _ (sees f (tokens_of x.done ++ left')) (sees_first f _ _ (first-append (tokens_of x.done) left left' s ∙ ap first (sym x.split)) ∙ e)
      ∙ x.again left' s)

  pick_stops_at : (ts : List T) (why : Reason) (left : List T) (b : Bool) → sees f ts ≡ b → cond b (p ts) (q ts) ≡ Stops why left → Partial n (pick f p q) (pick_lang f L M) ts why left
  pick_stops_at ts why left true e h =
      let x = P.stops ts why left h in
      record {
        value = x.value;
        done = x.done;
        more = x.more;
        spells = inl x.spells;
        split = x.split;
        flat = x.flat;
        cause = x.cause;
        again = λ left' s.
            cond_true _ _ (sees f (tokens_of x.done ++ left')) (sees_first f _ _ (first-append (tokens_of x.done) left left' s ∙ ap first (sym x.split)) ∙ e)
            ∙ x.again left' s;
      }
  pick_stops_at ts why left false e h = pick_stops_by ts why left e (Q.stops ts why left h)

  pick_sees : (a : A) (ms : Spelling T) (rest : List T) → M.spells a ms → sees f (tokens_of ms) ≡ false → M.halts a rest → sees f (tokens_of ms ++ rest) ≡ false
  pick_sees a [] rest s e h = none a rest s h
  pick_sees a (x ∷ ms) rest s e h = e

  pick_complete : (a : A) (ms : Spelling T) (rest : List T) → L.spells a ms ⊎ (M.spells a ms × (sees f (tokens_of ms) ≡ false)) → L.halts a rest × M.halts a rest → pick f p q (tokens_of ms ++ rest) ≡ settle n a ms rest
  pick_complete a ms rest (inl s) h = cond_true _ _ (sees f (tokens_of ms ++ rest)) (yes a ms rest s) ∙ P.complete a ms rest s h.0
  pick_complete a ms rest (inr s) h = cond_false _ _ (sees f (tokens_of ms ++ rest)) (pick_sees a ms rest s.0 s.1 h.1) ∙ Q.complete a ms rest s.0 h.1

  pub pick_exact : Exact n (pick f p q) (pick_lang f L M)
  pick_exact = record {
    got = λ ts a rest h. pick_got_at ts a rest (sees f ts) refl h;
    stops = λ ts why left h. pick_stops_at ts why left (sees f ts) refl h;
    complete = pick_complete;
    sample = P.sample;
    sample_spelling = P.sample_spelling;
    sample_spells = inl P.sample_spells;
  }

-- ---- one level deeper

abbrev pub deep_lang : {T A : Type 0} → Language T A → Language T A
deep_lang {T} {A} L = record { spells = λ a ms. (k : Spelling T) × L.spells a k × (ms ≡ deeper k); halts = L.halts }

pub tokens_of-deeper : {T : Type 0} (ms : Spelling T) → tokens_of (deeper ms) ≡ tokens_of ms
tokens_of-deeper [] = refl
tokens_of-deeper (m ∷ ms) = ap (λ z. m.0 ∷ z) (tokens_of-deeper ms)

pub deeper-append : {T : Type 0} (m k : Spelling T) → deeper (m ++ k) ≡ deeper m ++ deeper k
deeper-append [] k = refl
deeper-append (x ∷ m) k = ap (λ z. (x.0, suc x.1) ∷ z) (deeper-append m k)

pub AllBelow-deeper : {T : Type 0} (n : ℕ) (ms : Spelling T) → AllBelow n ms → AllBelow (suc n) (deeper ms)
AllBelow-deeper n [] h = tt
AllBelow-deeper n (m ∷ ms) h = (h.0, AllBelow-deeper n ms h.1)

pub Cause-deeper : {T : Type 0} (n : ℕ) (why : Reason) (left : List T) (ms : Spelling T) → Cause n why left ms → Cause (suc n) why left (deeper ms)
Cause-deeper n Wrong left ms h = tt
Cause-deeper n Deep [] ms h = absurd h
Cause-deeper n Deep (x ∷ left) [] h = absurd h
Cause-deeper n Deep (x ∷ left) (m ∷ ms) h = h

settle-deeper_at : {T A : Type 0} (n : ℕ) (a : A) (m : T × ℕ) (ms : Spelling T) (rest : List T) (b : Bool) → settle n a ms rest ≡ settle (suc n) a (deeper ms) rest
    → cond b (settle n a ms rest) (Stops Deep (m.0 ∷ (tokens_of ms ++ rest))) ≡ cond b (settle (suc n) a (deeper ms) rest) (Stops Deep (m.0 ∷ (tokens_of (deeper ms) ++ rest)))
settle-deeper_at n a m ms rest true h = h
settle-deeper_at n a m ms rest false h = ap (λ z. Stops Deep (m.0 ∷ (z ++ rest))) (sym (tokens_of-deeper ms))

pub settle-deeper : {T A : Type 0} (n : ℕ) (a : A) (ms : Spelling T) (rest : List T) → settle n a ms rest ≡ settle (suc n) a (deeper ms) rest
settle-deeper n a [] rest = refl
settle-deeper n a (m ∷ ms) rest = settle-deeper_at n a m ms rest (below m.1 n) (settle-deeper n a ms rest)

pub deep_exact : {T A : Type 0} (n : ℕ) (p : Reader T A) (L : Language T A) → Exact n p L → Exact (suc n) p (deep_lang L)
deep_exact {T} {A} n p L P = record {
  got = λ ts a rest h. let x = P.got ts a rest h in
      record {
        spelling = deeper x.spelling;
        spells = (x.spelling, x.spells, refl);
        split = x.split ∙ ap (λ z. z ++ rest) (sym (tokens_of-deeper x.spelling));
        flat = AllBelow-deeper n x.spelling x.flat;
        again = λ rest' s. ap (λ z. p (z ++ rest')) (tokens_of-deeper x.spelling) ∙ x.again rest' s;
      };
  stops = λ ts why left h. let x = P.stops ts why left h in
      record {
        value = x.value;
        done = deeper x.done;
        more = deeper x.more;
        spells = (x.done ++ x.more, x.spells, sym (deeper-append x.done x.more));
        split = x.split ∙ ap (λ z. z ++ left) (sym (tokens_of-deeper x.done));
        flat = AllBelow-deeper n x.done x.flat;
        cause = Cause-deeper n why left x.more x.cause;
        again = λ left' s. ap (λ z. p (z ++ left')) (tokens_of-deeper x.done) ∙ x.again left' s;
      };
  complete = λ a ms rest s h.
      ap (λ z. p (tokens_of z ++ rest)) s.2 ∙ ap (λ z. p (z ++ rest)) (tokens_of-deeper s.0) ∙ P.complete a s.0 rest s.1 h
      ∙ settle-deeper n a s.0 rest ∙ ap (λ z. settle (suc n) a z rest) (sym s.2);
  sample = P.sample;
  sample_spelling = deeper P.sample_spelling;
  sample_spells = (P.sample_spelling, P.sample_spells, refl);
}

-- where no level is left

-- Values begin with a token of the kind, and each such token begins one.
pub record Begins {T A : Type 0} (f : T → Bool) (L : Language T A) : Type 0 where
  pub only : (a : A) (ms : Spelling T) → L.spells a ms → (m : T × ℕ) × (more : Spelling T) × (ms ≡ m ∷ more) × (f m.0 ≡ true)
  pub each : (x : T) → f x ≡ true → (a : A) × (e : ℕ) × (more : Spelling T) × L.spells a ((x, e) ∷ more)
  pub token : T
  pub is : f token ≡ true

module _ {T A : Type 0} (f : T → Bool) (L : Language T A) (B : Begins f L) where
  deny_stops : (x : T) (xs : List T) → f x ≡ true → deny {A = A} f (x ∷ xs) ≡ Stops Deep (x ∷ xs)
  deny_stops x xs e = cond_true _ _ (f x) e

  deny_wrong : (x : T) (xs : List T) → f x ≡ false → deny {A = A} f (x ∷ xs) ≡ Stops Wrong (x ∷ xs)
  deny_wrong x xs e = cond_false _ _ (f x) e

  deny_got_at : (x : T) (xs : List T) (a : A) (rest : List T) (b : Bool) → cond b (Stops Deep (x ∷ xs)) (Stops Wrong (x ∷ xs)) ≡ Got a rest → ⊥
  deny_got_at x xs a rest true h = cc
  deny_got_at x xs a rest false h = cc

  deny_got : (ts : List T) (a : A) (rest : List T) → deny f ts ≡ Got a rest → ⊥
  deny_got [] a rest h = cc
  deny_got (x ∷ xs) a rest h = deny_got_at x xs a rest (f x) h

  deny_again : (left left' : List T) (b : Bool) → first left' ≡ first left → sees f left ≡ b → deny {A = A} f left' ≡ cond b (Stops Deep left') (Stops Wrong left')
  deny_again [] [] true s e = absurd (cc)
  deny_again [] [] false s e = refl
  deny_again [] (y ∷ l) b s e = absurd (cc)
  deny_again (x ∷ l) [] b s e = absurd (cc)
  deny_again (x ∷ l) (y ∷ l') b s e = let same : y ≡ x = cc in ap (λ v. cond v (Stops Deep (y ∷ l')) (Stops Wrong (y ∷ l'))) (ap f same ∙ e)

  deny_partial : (left : List T) (b : Bool) → sees f left ≡ b → (why : Reason) → cond b Deep Wrong ≡ why → Partial zero (deny {A = A} f) L left why left
  deny_partial left true e Wrong h = absurd (cc)
  deny_partial left false e Deep h = absurd (cc)
  deny_partial [] true e Deep h = absurd (cc)
  deny_partial (x ∷ l) true e Deep h =
      let v = B.each x e in
      record {
        value = v.0;
        done = [];
        more = (x, v.1) ∷ v.2;
        spells = v.3;
        split = refl;
        flat = tt;
        cause = (refl, refl);
        again = λ left' s. deny_again (x ∷ l) left' true s e;
      }
  deny_partial left false e Wrong h =
      let v = B.each B.token B.is in
      record {
        value = v.0;
        done = [];
        more = (B.token, v.1) ∷ v.2;
        spells = v.3;
        split = refl;
        flat = tt;
        cause = tt;
        again = λ left' s. deny_again left left' false s e;
      }

  deny_is : (ts : List T) (b : Bool) → sees f ts ≡ b → deny {A = A} f ts ≡ Stops (cond b Deep Wrong) ts
  deny_is [] true e = absurd (cc)
  deny_is [] false e = refl
  deny_is (x ∷ xs) true e = deny_stops x xs e
  deny_is (x ∷ xs) false e = deny_wrong x xs e

  deny_stopped : (ts : List T) (why : Reason) (left : List T) (b : Bool) → sees f ts ≡ b → deny {A = A} f ts ≡ Stops why left → Partial zero (deny {A = A} f) L ts why left
  deny_stopped ts why left b e h =
      let both : ◌≡◌ {A = Outcome T A} (Stops (cond b Deep Wrong) ts) (Stops why left) = sym (deny_is ts b e) ∙ h in
      let same : ts ≡ left = cc in
      let same_why : cond b Deep Wrong ≡ why = cc in
      subst (λ l. Partial zero (deny {A = A} f) L ts why l) same (deny_partial ts b e why same_why)

  deny_complete : (a : A) (ms : Spelling T) (rest : List T) → L.spells a ms → deny f (tokens_of ms ++ rest) ≡ settle zero a ms rest
  deny_complete a ms rest s =
      let v = B.only a ms s in
      ap (λ z. deny f (tokens_of z ++ rest)) v.2 ∙ deny_stops v.0.0 (tokens_of v.1 ++ rest) v.3 ∙ ap (λ z. settle zero a z rest) (sym v.2)

  pub deny_exact : Exact zero (deny f) L
  deny_exact = record {
    got = λ ts a rest h. absurd (deny_got ts a rest h);
    stops = λ ts why left h. deny_stopped ts why left (sees f ts) refl h;
    complete = λ a ms rest s h. deny_complete a ms rest s;
    sample = (B.each B.token B.is).0;
    sample_spelling = (B.token, (B.each B.token B.is).1) ∷ (B.each B.token B.is).2;
    sample_spells = (B.each B.token B.is).3;
  }

-- ---- one token

abbrev pub one_lang : {T : Type 0} → (T → Bool) → Language T T
one_lang {T} f = record { spells = λ x ms. (f x ≡ true) × (ms ≡ (x, 0) ∷ []); halts = λ x rest. Unit {0} }

module _ {T : Type 0} (f : T → Bool) where
  taken_got_at : (n : ℕ) (x : T) (xs : List T) (y : T) (rest : List T) (b : Bool) → f x ≡ b → cond b (Got x xs) (Stops Wrong (x ∷ xs)) ≡ Got y rest → Read (suc n) (taken f) (one_lang f) (x ∷ xs) y rest
  taken_got_at n x xs y rest false e h = absurd (cc)
  taken_got_at n x xs y rest true e h =
      let same : x ≡ y = cc in
      let same_rest : xs ≡ rest = cc in
      record {
        spelling = (y, 0) ∷ [];
        spells = (ap f (sym same) ∙ e, refl);
        split = cc;
        flat = (refl, tt);
        again = λ rest' s. ap (λ b. cond b (Got y rest') (Stops Wrong (y ∷ rest'))) (ap f (sym same) ∙ e);
      }

  taken_got : (n : ℕ) (ts : List T) (y : T) (rest : List T) → taken f ts ≡ Got y rest → Read (suc n) (taken f) (one_lang f) ts y rest
  taken_got n [] y rest h = absurd (cc)
  taken_got n (x ∷ xs) y rest h = taken_got_at n x xs y rest (f x) refl h

  taken_again : (left left' : List T) → first left' ≡ first left → sees f left ≡ false → taken f left' ≡ Stops Wrong left'
  taken_again [] [] s e = refl
  taken_again [] (y ∷ r) s e = absurd (cc)
  taken_again (x ∷ l) [] s e = absurd (cc)
  taken_again (x ∷ l) (y ∷ r) s e = let same : y ≡ x = cc in ap (λ b. cond b (Got y r) (Stops Wrong (y ∷ r))) (ap f same ∙ e)

  module _ (e0 : T) (is : f e0 ≡ true) where
    taken_wrong : (n : ℕ) (ts : List T) (left : List T) → ts ≡ left → sees f ts ≡ false → Partial (suc n) (taken f) (one_lang f) ts Wrong left
    taken_wrong n ts left same e =
        record {
          value = e0;
          done = [];
          more = (e0, 0) ∷ [];
          spells = (is, refl);
          split = same;
          flat = tt;
          cause = tt;
          again = λ left' s. taken_again left left' s (ap (sees f) (sym same) ∙ e);
        }

    taken_stops_at : (n : ℕ) (x : T) (xs : List T) (why : Reason) (left : List T) (b : Bool) → f x ≡ b → cond b (Got x xs) (Stops Wrong (x ∷ xs)) ≡ Stops why left → Partial (suc n) (taken f) (one_lang f) (x ∷ xs) why left
    taken_stops_at n x xs Deep left false e h = absurd (cc)
    taken_stops_at n x xs Wrong left false e h = taken_wrong n (x ∷ xs) left (cc) e
    taken_stops_at n x xs why left true e h = absurd (cc)

    taken_stops : (n : ℕ) (ts : List T) (why : Reason) (left : List T) → taken f ts ≡ Stops why left → Partial (suc n) (taken f) (one_lang f) ts why left
    taken_stops n [] Deep left h = absurd (cc)
    taken_stops n [] Wrong left h = taken_wrong n [] left (cc) refl
    taken_stops n (x ∷ xs) why left h = taken_stops_at n x xs why left (f x) refl h

    pub taken_exact : (n : ℕ) → Exact (suc n) (taken f) (one_lang f)
    taken_exact n = record {
      got = taken_got n;
      stops = taken_stops n;
      complete = λ x ms rest s h. ap (λ z. taken f (tokens_of z ++ rest)) s.1 ∙ cond_true _ _ (f x) s.0 ∙ ap (λ z. settle (suc n) x z rest) (sym s.1);
      sample = e0;
      sample_spelling = (e0, 0) ∷ [];
      sample_spells = (is, refl);
    }

    pub one_exact : (n : ℕ) → Exact n (one n f) (one_lang f)
    one_exact zero = deny_exact f (one_lang f) (record {
      only = λ x ms s. ((x, 0), [], s.1, s.0);
      each = λ x h. (x, 0, [], (h, refl));
      token = e0;
      is = is;
    })
    one_exact (suc n) = taken_exact n

-- ---- while the next token is of a kind

abbrev pub AllSpelled : {T A : Type 0} → Language T A → List A → Spelling T → Type 0
AllSpelled L [] ms = ms ≡ []
AllSpelled {T} L (a ∷ more) ms = (m : Spelling T) × (k : Spelling T) × L.spells a m × AllSpelled L more k × (ms ≡ m ++ k)

abbrev pub many_lang : {T A : Type 0} → (T → Bool) → Language T A → Language T (List A)
many_lang {T} {A} f L = record { spells = AllSpelled L; halts = λ all rest. (sees f rest ≡ false) × ((a : A) → L.halts a rest) }

module _ {T A : Type 0} (n : ℕ) (f : T → Bool) (p : Reader T A) (L : Language T A) (P : Exact n p L)
    (starts : (a : A) (ms : Spelling T) → L.spells a ms → (m : T × ℕ) × (more : Spelling T) × (ms ≡ m ∷ more) × (f m.0 ≡ true))
    (fits : (a : A) (x : T) (xs : List T) → f x ≡ true → L.halts a (x ∷ xs)) where
  pub consumes : (ts : List T) (a : A) (mid : List T) → p ts ≡ Got a mid → length mid < length ts
  consumes ts a mid h =
      let x = P.got ts a mid h in
      let v = starts a x.spelling x.spells in
      let e : length ts ≡ length (tokens_of (v.0 ∷ v.1) ++ mid) = ap length x.split ∙ ap (λ z. length (tokens_of z ++ mid)) v.2 in
      omega (arith, e, length-append (tokens_of v.1) mid)

  after : ℕ → A → Reader T (List A)
  after k a = turns k f p >>= λ more. pure (a ∷ more)

  turns_same_at : (k j : ℕ) (ts : List T) (o : Outcome T A) → p ts ≡ o
      → ((mid : List T) → length mid < length ts → turns k f p mid ≡ turns j f p mid)
      → and_then o (λ a. turns k f p >>= λ more. pure (a ∷ more)) ≡ and_then o (λ a. turns j f p >>= λ more. pure (a ∷ more))
  turns_same_at k j ts (Stops why left) e same = refl
  turns_same_at k j ts (Got a mid) e same = ap (λ o. and_then o (λ more. pure (a ∷ more))) (same mid (consumes ts a mid e))

  turns_same : (k j : ℕ) (ts : List T) → length ts ≤ k → length ts ≤ j → turns k f p ts ≡ turns j f p ts
  turns_same zero zero ts h g = refl
  turns_same zero (suc j) [] h g = refl
  turns_same zero (suc j) (x ∷ xs) h g = absurd (omega arith)
  turns_same (suc k) zero [] h g = refl
  turns_same (suc k) zero (x ∷ xs) h g = absurd (omega arith)
  turns_same (suc k) (suc j) ts h g =
      ap (λ o. cond (sees f ts) o (Got [] ts))
      (turns_same_at k j ts (p ts) refl (λ mid lt. turns_same k j mid (omega arith) (omega arith)))

  many_next_at : (ts : List T) (o : Outcome T A) → p ts ≡ o
      → and_then o (λ a. turns (length ts) f p >>= λ more. pure (a ∷ more)) ≡ and_then o (λ a. many f p >>= λ more. pure (a ∷ more))
  many_next_at ts (Stops why left) e = refl
  many_next_at ts (Got a mid) e =
      let lt = consumes ts a mid e in
      ap (λ o. and_then o (λ more. pure (a ∷ more))) (turns_same (length ts) (length mid) mid (omega arith) (omega arith))

  -- one turn
  pub many_is : (ts : List T) → many f p ts ≡ cond (sees f ts) (and_then (p ts) (λ a. many f p >>= λ more. pure (a ∷ more))) (Got [] ts)
  many_is ts =
      turns_same (length ts) (suc (length ts)) ts (omega arith) (omega arith)
      ∙ ap (λ o. cond (sees f ts) o (Got [] ts)) (many_next_at ts (p ts) refl)

  many_none : (ts : List T) → sees f ts ≡ false → many f p ts ≡ Got [] ts
  many_none ts e = many_is ts ∙ cond_false _ _ (sees f ts) e

  many_more : (ts : List T) → sees f ts ≡ true → many f p ts ≡ and_then (p ts) (λ a. many f p >>= λ more. pure (a ∷ more))
  many_more ts e = many_is ts ∙ cond_true _ _ (sees f ts) e

  ManyRead : List T → List A → List T → Type 0
  ManyRead ts all rest = Read n (many f p) (many_lang f L) ts all rest

  many_got_step : (ts : List T) (a : A) (mid : List T) (more : List A) (rest : List T) → sees f ts ≡ true → p ts ≡ Got a mid → Read n (many f p) (many_lang f L) mid more rest → Read n (many f p) (many_lang f L) ts (a ∷ more) rest
  many_got_step ts a mid more rest e h y =
      let x = P.got ts a mid h in
      record {
        spelling = x.spelling ++ y.spelling;
        spells = (x.spelling, y.spelling, x.spells, y.spells, refl);
        split = rw tokens_of_split (x.split ∙ ap (λ z. tokens_of x.spelling ++ z) y.split);
        flat = AllBelow-append n x.spelling y.spelling x.flat y.flat;
        again = λ rest' s.
            let e1 : first (tokens_of y.spelling ++ rest') ≡ first mid = first-append (tokens_of y.spelling) rest rest' s ∙ ap first (sym y.split) in
            let here = first-append (tokens_of x.spelling) mid (tokens_of y.spelling ++ rest') e1 ∙ ap first (sym x.split) in
            ap (many f p) (tokens_of_split x.spelling y.spelling rest')
            ∙ many_more (tokens_of x.spelling ++ (tokens_of y.spelling ++ rest')) (sees_first f _ _ here ∙ e)
            ∙ ap (λ z. and_then z (λ a. many f p >>= λ more. pure (a ∷ more))) (x.again (tokens_of y.spelling ++ rest') e1)
            ∙ ap (λ z. and_then z (λ more. pure (a ∷ more))) (y.again rest' s);
      }

  many_got_after : (ts : List T) (all : List A) (rest : List T) (a : A) (mid : List T) (o : Outcome T (List A)) → sees f ts ≡ true → p ts ≡ Got a mid → many f p mid ≡ o
      → ((more : List A) (rest : List T) → many f p mid ≡ Got more rest → Read n (many f p) (many_lang f L) mid more rest)
      → and_then o (λ more. pure (a ∷ more)) ≡ Got all rest → Read n (many f p) (many_lang f L) ts all rest
  many_got_after ts all rest a mid (Stops why left) e h g ih k = absurd (cc)
  many_got_after ts all rest a mid (Got more r) e h g ih k =
      let same : a ∷ more ≡ all = cc in
      let same_rest : r ≡ rest = cc in
      subst (λ z. Read n (many f p) (many_lang f L) ts z rest) same (many_got_step ts a mid more rest e h (ih more rest (g ∙ ap (Got more) same_rest)))

  many_got_at : (ts : List T) (all : List A) (rest : List T) (o : Outcome T A) → sees f ts ≡ true → p ts ≡ o
      → ((mid : List T) → length mid < length ts → (more : List A) (rest : List T) → many f p mid ≡ Got more rest → Read n (many f p) (many_lang f L) mid more rest)
      → and_then o (λ a. many f p >>= λ more. pure (a ∷ more)) ≡ Got all rest → Read n (many f p) (many_lang f L) ts all rest
  many_got_at ts all rest (Stops why left) e h ih k = absurd (cc)
  many_got_at ts all rest (Got a mid) e h ih k = many_got_after ts all rest a mid (many f p mid) e h refl (ih mid (consumes ts a mid h)) k

  many_got_none : (ts : List T) (all : List A) (rest : List T) → sees f ts ≡ false → Got [] ts ≡ Got all rest → Read n (many f p) (many_lang f L) ts all rest
  many_got_none ts all rest e h =
      let same : [] ≡ all = cc in
      let same_rest : ts ≡ rest = cc in
      record {
        spelling = [];
        spells = subst (λ z. AllSpelled L z []) same refl;
        split = same_rest;
        flat = tt;
        again = λ rest' s. many_none rest' (sees_first f rest' ts (s ∙ ap first (sym same_rest)) ∙ e) ∙ ap (λ z. Got z rest') same;
      }

  many_got_test : (ts : List T) (all : List A) (rest : List T) (b : Bool) → sees f ts ≡ b
      → ((mid : List T) → length mid < length ts → (more : List A) (rest : List T) → many f p mid ≡ Got more rest → Read n (many f p) (many_lang f L) mid more rest)
      → many f p ts ≡ Got all rest → Read n (many f p) (many_lang f L) ts all rest
  many_got_test ts all rest true e ih h = many_got_at ts all rest (p ts) e refl ih (sym (many_more ts e) ∙ h)
  many_got_test ts all rest false e ih h = many_got_none ts all rest e (sym (many_none ts e) ∙ h)

  many_got : (k : ℕ) (ts : List T) (all : List A) (rest : List T) → length ts ≤ k → many f p ts ≡ Got all rest → Read n (many f p) (many_lang f L) ts all rest
  many_got zero ts all rest le h = many_got_test ts all rest (sees f ts) refl (λ mid lt. absurd (omega arith)) h
  many_got (suc k) ts all rest le h = many_got_test ts all rest (sees f ts) refl (λ mid lt more r g. many_got k mid more r (omega arith) g) h

  many_stops_after : (ts : List T) (why : Reason) (left : List T) (a : A) (mid : List T) (o : Outcome T (List A)) → sees f ts ≡ true → p ts ≡ Got a mid → many f p mid ≡ o
      → (many f p mid ≡ Stops why left → Partial n (many f p) (many_lang f L) mid why left)
      → and_then o (λ more. pure (a ∷ more)) ≡ Stops why left → Partial n (many f p) (many_lang f L) ts why left
  many_stops_after ts why left a mid (Got more r) e h g ih k = absurd (cc)
  many_stops_after ts why left a mid (Stops w l) e h g ih k =
      let x = P.got ts a mid h in
      let y = ih (g ∙ k) in
      record {
        value = a ∷ y.value;
        done = x.spelling ++ y.done;
        more = y.more;
        spells = (x.spelling, y.done ++ y.more, x.spells, y.spells, append_assoc x.spelling y.done y.more);
        split = rw tokens_of_split (x.split ∙ ap (λ z. tokens_of x.spelling ++ z) y.split);
        flat = AllBelow-append n x.spelling y.done x.flat y.flat;
        cause = y.cause;
        again = λ left' s.
            let e1 : first (tokens_of y.done ++ left') ≡ first mid = first-append (tokens_of y.done) left left' s ∙ ap first (sym y.split) in
            let here = first-append (tokens_of x.spelling) mid (tokens_of y.done ++ left') e1 ∙ ap first (sym x.split) in
            ap (many f p) (tokens_of_split x.spelling y.done left')
            ∙ many_more (tokens_of x.spelling ++ (tokens_of y.done ++ left')) (sees_first f _ _ here ∙ e)
            ∙ ap (λ z. and_then z (λ a. many f p >>= λ more. pure (a ∷ more))) (x.again (tokens_of y.done ++ left') e1)
            ∙ ap (λ z. and_then z (λ more. pure (a ∷ more))) (y.again left' s);
      }

  many_stops_at : (ts : List T) (why : Reason) (left : List T) (o : Outcome T A) → sees f ts ≡ true → p ts ≡ o
      → ((mid : List T) → length mid < length ts → many f p mid ≡ Stops why left → Partial n (many f p) (many_lang f L) mid why left)
      → and_then o (λ a. many f p >>= λ more. pure (a ∷ more)) ≡ Stops why left → Partial n (many f p) (many_lang f L) ts why left
  many_stops_at ts why left (Got a mid) e h ih k = many_stops_after ts why left a mid (many f p mid) e h refl (ih mid (consumes ts a mid h)) k
  many_stops_at ts why left (Stops w l) e h ih k =
      let same : ◌≡◌ {A = Outcome T A} (Stops w l) (Stops why left) = stop_is {R = List A} w l why left k in
      let x = P.stops ts why left (h ∙ same) in
      record {
        value = x.value ∷ [];
        done = x.done;
        more = x.more;
        spells = (x.done ++ x.more, [], x.spells, refl, sym (append-nil (x.done ++ x.more)));
        split = x.split;
        flat = x.flat;
        cause = x.cause;
        again = λ left' s.
            let here = first-append (tokens_of x.done) left left' s ∙ ap first (sym x.split) in
            many_more (tokens_of x.done ++ left') (sees_first f _ _ here ∙ e)
            ∙ ap (λ z. and_then z (λ a. many f p >>= λ more. pure (a ∷ more))) (x.again left' s);
      }

  many_stops_test : (ts : List T) (why : Reason) (left : List T) (b : Bool) → sees f ts ≡ b
      → ((mid : List T) → length mid < length ts → many f p mid ≡ Stops why left → Partial n (many f p) (many_lang f L) mid why left)
      → many f p ts ≡ Stops why left → Partial n (many f p) (many_lang f L) ts why left
  many_stops_test ts why left true e ih h = many_stops_at ts why left (p ts) e refl ih (sym (many_more ts e) ∙ h)
  many_stops_test ts why left false e ih h = let bad : ◌≡◌ {A = Outcome T (List A)} (Got [] ts) (Stops why left) = sym (many_none ts e) ∙ h in absurd (cc)

  many_stops : (k : ℕ) (ts : List T) (why : Reason) (left : List T) → length ts ≤ k → many f p ts ≡ Stops why left → Partial n (many f p) (many_lang f L) ts why left
  many_stops zero ts why left le h = many_stops_test ts why left (sees f ts) refl (λ mid lt. absurd (omega arith)) h
  many_stops (suc k) ts why left le h = many_stops_test ts why left (sees f ts) refl (λ mid lt g. many_stops k mid why left (omega arith) g) h

  many_settles_at : (a : A) (more : List A) (x : T × ℕ) (m k : Spelling T) (rest : List T) (b : Bool)
      → and_then (settle n a m (tokens_of k ++ rest)) (λ a. many f p >>= λ more. pure (a ∷ more)) ≡ settle n (a ∷ more) (m ++ k) rest
      → and_then (cond b (settle n a m (tokens_of k ++ rest)) (Stops Deep (x.0 ∷ (tokens_of m ++ (tokens_of k ++ rest))))) (λ a. many f p >>= λ more. pure (a ∷ more)) ≡ cond b (settle n (a ∷ more) (m ++ k) rest) (Stops Deep (x.0 ∷ (tokens_of (m ++ k) ++ rest)))
  many_settles_at a more x m k rest true h = h
  many_settles_at a more x m k rest false h = ap (λ z. Stops Deep (x.0 ∷ z)) (sym (tokens_of_split m k rest))

  many_settles_end_at : (a : A) (more : List A) (x : T × ℕ) (k : Spelling T) (rest : List T) (b : Bool)
      → and_then (settle n more k rest) (λ more. pure (a ∷ more)) ≡ settle n (a ∷ more) k rest
      → and_then (cond b (settle n more k rest) (Stops Deep (x.0 ∷ (tokens_of k ++ rest)))) (λ more. pure (a ∷ more)) ≡ cond b (settle n (a ∷ more) k rest) (Stops Deep (x.0 ∷ (tokens_of k ++ rest)))
  many_settles_end_at a more x k rest true h = h
  many_settles_end_at a more x k rest false h = refl

  many_settles_end : (a : A) (more : List A) (k : Spelling T) (rest : List T) → and_then (settle n more k rest) (λ more. pure (a ∷ more)) ≡ settle n (a ∷ more) k rest
  many_settles_end a more [] rest = refl
  many_settles_end a more (x ∷ k) rest = many_settles_end_at a more x k rest (below x.1 n) (many_settles_end a more k rest)

  many_settles : (a : A) (more : List A) (m k : Spelling T) (rest : List T) → many f p (tokens_of k ++ rest) ≡ settle n more k rest
      → and_then (settle n a m (tokens_of k ++ rest)) (λ a. many f p >>= λ more. pure (a ∷ more)) ≡ settle n (a ∷ more) (m ++ k) rest
  many_settles a more [] k rest h = ap (λ z. and_then z (λ more. pure (a ∷ more))) h ∙ many_settles_end a more k rest
  many_settles a more (x ∷ m) k rest h = many_settles_at a more x m k rest (below x.1 n) (many_settles a more m k rest h)

  many_halts : (a : A) (all : List A) (k : Spelling T) (rest : List T) → AllSpelled L all k → ((a : A) → L.halts a rest) → L.halts a (tokens_of k ++ rest)
  many_halts a [] k rest s h = subst (λ z. L.halts a (tokens_of z ++ rest)) (sym s) (h a)
  many_halts a (b ∷ more) k rest s h =
      let v = starts b s.0 s.2 in
      let e : tokens_of k ++ rest ≡ v.0.0 ∷ (tokens_of (v.1 ++ s.1) ++ rest) = ap (λ z. tokens_of z ++ rest) s.4 ∙ ap (λ z. tokens_of (z ++ s.1) ++ rest) v.2 in
      subst (λ z. L.halts a z) (sym e) (fits a v.0.0 (tokens_of (v.1 ++ s.1) ++ rest) v.3)

  many_sees : (a : A) (m : Spelling T) (r : List T) → L.spells a m → sees f (tokens_of m ++ r) ≡ true
  many_sees a m r s = let v = starts a m s in ap (λ z. sees f (tokens_of z ++ r)) v.2 ∙ v.3

  many_complete : (all : List A) (ms : Spelling T) (rest : List T) → AllSpelled L all ms → (sees f rest ≡ false) × ((a : A) → L.halts a rest) → many f p (tokens_of ms ++ rest) ≡ settle n all ms rest
  many_complete [] ms rest s h = ap (λ z. many f p (tokens_of z ++ rest)) s ∙ many_none rest h.0 ∙ ap (λ z. settle n [] z rest) (sym s)
  many_complete (a ∷ more) ms rest s h =
      let m = s.0 in let k = s.1 in
      ap (λ z. many f p (tokens_of z ++ rest)) s.4
      ∙ ap (many f p) (tokens_of_split m k rest)
      ∙ many_more (tokens_of m ++ (tokens_of k ++ rest)) (many_sees a m (tokens_of k ++ rest) s.2)
      ∙ ap (λ z. and_then z (λ a. many f p >>= λ more. pure (a ∷ more))) (P.complete a m (tokens_of k ++ rest) s.2 (many_halts a more k rest s.3 h.1))
      ∙ many_settles a more m k rest (many_complete more k rest s.3 h)
      ∙ ap (λ z. settle n (a ∷ more) z rest) (sym s.4)

  pub many_exact : Exact n (many f p) (many_lang f L)
  many_exact = record {
    got = λ ts all rest h. many_got (length ts) ts all rest (omega arith) h;
    stops = λ ts why left h. many_stops (length ts) ts why left (omega arith) h;
    complete = many_complete;
    sample = [];
    sample_spelling = [];
    sample_spells = refl;
  }

-- ---- the same with what the premises show left out

pub seq : {T A R : Type 0} {n : ℕ} {p : Reader T A} {f : A → Reader T R} {L : Language T A} {M : A → Language T R}
    → Exact n p L → ((a : A) → Exact n (f a) (M a))
    → ((a : A) (r : R) (k : Spelling T) (rest : List T) → (M a).spells r k → (M a).halts r rest → L.halts a (tokens_of k ++ rest))
    → Exact n (p >>= f) (then_lang L M)
seq {T} {A} {R} {n} {p} {f} {L} {M} P Q fits = then_exact n p f L M P Q fits

pub branch : {T A : Type 0} {n : ℕ} {p q : Reader T A} {L M : Language T A} (f : T → Bool)
    → Exact n p L → Exact n q M
    → ((a : A) (ms : Spelling T) (rest : List T) → L.spells a ms → sees f (tokens_of ms ++ rest) ≡ true)
    → ((a : A) (rest : List T) → M.spells a [] → M.halts a rest → sees f rest ≡ false)
    → Exact n (pick f p q) (pick_lang f L M)
branch {T} {A} {n} {p} {q} {L} {M} f P Q begins none = pick_exact n f p q L M P Q begins none

pub loop : {T A : Type 0} {n : ℕ} {p : Reader T A} {L : Language T A} (f : T → Bool)
    → Exact n p L
    → ((a : A) (ms : Spelling T) → L.spells a ms → (m : T × ℕ) × (more : Spelling T) × (ms ≡ m ∷ more) × (f m.0 ≡ true))
    → ((a : A) (x : T) (xs : List T) → f x ≡ true → L.halts a (x ∷ xs))
    → Exact n (many f p) (many_lang f L)
loop {T} {A} {n} {p} {L} f P starts fits = many_exact n f p L P starts fits

pub as_lang : {T A : Type 0} {n : ℕ} {p : Reader T A} {L : Language T A} (M : Language T A) → Exact n p L
    → ((a : A) (ms : Spelling T) → L.spells a ms → M.spells a ms)
    → ((a : A) (ms : Spelling T) → M.spells a ms → L.spells a ms)
    → ((a : A) (rest : List T) → M.halts a rest → L.halts a rest) → Exact n p M
as_lang {T} {A} {n} {p} {L} M P to from halts = same_lang n p L M P to from halts

-- ---- for a loop in code: what was found so far, before what is still to be read

abbrev pub prepend : {T A : Type 0} → List A → Outcome T (List A) → Outcome T (List A)
prepend found o = and_then o (λ more. pure (found ++ more))

pub record LoopLaws {T A : Type 0} (f : T → Bool) (p : Reader T A) : Type 0 where
  pub begins : (ts : List T) → many f p ts ≡ prepend [] (many f p ts)
  pub done : (o : Outcome T (List A)) (found : List A) (ts : List T) → o ≡ prepend found (many f p ts) → sees f ts ≡ false → o ≡ Got found ts
  pub more : (o : Outcome T (List A)) (found : List A) (ts : List T) (a : A) (mid : List T) → o ≡ prepend found (many f p ts) → sees f ts ≡ true → p ts ≡ Got a mid → o ≡ prepend (found ++ a ∷ []) (many f p mid)
  pub stops : (o : Outcome T (List A)) (found : List A) (ts : List T) (why : Reason) (left : List T) → o ≡ prepend found (many f p ts) → sees f ts ≡ true → p ts ≡ Stops why left → o ≡ Stops why left
  pub falls : (ts : List T) (a : A) (mid : List T) → p ts ≡ Got a mid → length mid < length ts

prepend_nil : {T A : Type 0} (o : Outcome T (List A)) → o ≡ prepend [] o
prepend_nil (Got a rest) = refl
prepend_nil (Stops why left) = refl

prepend_more : {T A : Type 0} (found : List A) (a : A) (o : Outcome T (List A)) → prepend found (and_then o (λ more. pure (a ∷ more))) ≡ prepend (found ++ a ∷ []) o
prepend_more found a (Got more rest) = ap (λ z. Got z rest) (sym (append_assoc found (a ∷ []) more))
prepend_more found a (Stops why left) = refl

pub loop_laws : {T A : Type 0} {n : ℕ} {p : Reader T A} {L : Language T A} (f : T → Bool)
    → Exact n p L
    → ((a : A) (ms : Spelling T) → L.spells a ms → (m : T × ℕ) × (more : Spelling T) × (ms ≡ m ∷ more) × (f m.0 ≡ true))
    → ((a : A) (x : T) (xs : List T) → f x ≡ true → L.halts a (x ∷ xs))
    → LoopLaws f p
loop_laws {T} {A} {n} {p} {L} f P starts fits = record {
  begins = λ ts. prepend_nil (many f p ts);
  done = λ o found ts h e. h ∙ ap (prepend found) (many_is n f p L P starts fits ts ∙ cond_false _ _ (sees f ts) e) ∙ ap (λ z. Got z ts) (append-nil found);
  more = λ o found ts a mid h e g.
      h ∙ ap (prepend found) (many_is n f p L P starts fits ts ∙ cond_true _ _ (sees f ts) e ∙ ap (λ z. and_then z (λ a. many f p >>= λ more. pure (a ∷ more))) g)
      ∙ prepend_more found a (many f p mid);
  stops = λ o found ts why left h e g.
      h ∙ ap (prepend found) (many_is n f p L P starts fits ts ∙ cond_true _ _ (sees f ts) e ∙ ap (λ z. and_then z (λ a. many f p >>= λ more. pure (a ∷ more))) g);
  falls = λ ts a mid g. consumes n f p L P starts fits ts a mid g;
}
