-- A called function's own frame, and the same variables among all others where a scope begins.
use Rattle.std.proofs.Common.{◌≡◌, ℕ, zero, suc, ◌+◌, ◌-◌, ◌<◌, ◌≤◌, ◌≢◌, ◌⊎◌, inl, inr, Bool, true, false, List, [], ◌∷◌, ◌++◌, length, length-append, refl, sym, ap, ◌∙◌, subst, arith}
use Rattle.std.specs.Prelude.{slice_index_or, slice_set, ◌==◌, eqb, replicate, take}
use Rattle.std.proofs.lemmas.Bool.{eqb-true, eqb-false}
use Rattle.std.proofs.lemmas.List.{get_or-set_same, get_or-set_other, get_or-take, length-take-le, length-replicate}
use Rattle.std.proofs.Math.ListN.{length-set}
use Rattle.clc_types.specs.declared.typed.Var.{Var}
use Rattle.clc_types.specs.declared.typed.Var.TheVariants as var
use Rattle.clc_types.specs.declared.typed.TFunction.{TFunction}
use Rattle.clc_types.specs.WellTyped.{counts}
use Rattle.clc_inline.specs.Inlining.{numbers}
use Rattle.item_meaning.specs.declared.values.Value.{Value}
use Rattle.item_meaning.specs.declared.values.Value.TheVariants.{Null}
use Rattle.item_meaning.specs.ItemState.{State}
use Rattle.item_meaning.specs.Operators.{converted}
use Rattle.item_meaning.specs.StatementMeanings.{var_at, type_of}
use Rattle.item_meaning.specs.ItemMeaning.{as_params, frame, entered}
use Rattle.body_meaning.specs.BodyMeaning.{emptied, passed}
use Rattle.inline_law.proofs.Frames.{Framed, Kept}
use Rattle.inline_law.proofs.Growing.{and_left, and_right}
use Rattle.inline_law.proofs.Stmts.{shifted}

bool_cases : (b : Bool) → (b ≡ true) ⊎ (b ≡ false)
bool_cases true = inl refl
bool_cases false = inr refl

-- ---- emptied places of a list

abbrev wiped : {A : Type 0} → A → List ℕ → List A → List A
wiped d [] xs = xs
wiped d (v ∷ vs) xs = wiped d vs (slice_set xs v d)

emptied_is : (l : List ℕ) (s : State) → emptied l s ≡ record s { vars = wiped Null l s.vars; arrays = wiped [] l s.arrays }
emptied_is [] s = refl
emptied_is (v ∷ vs) s = emptied_is vs (record s { vars = slice_set s.vars v Null; arrays = slice_set s.arrays v [] })

default_at : {A : Type 0} (xs : List A) (v : ℕ) (d : A) → slice_index_or (slice_set xs v d) v d ≡ d
default_at [] v d = refl
default_at (x ∷ xs) zero d = refl
default_at (x ∷ xs) (suc v) d = default_at xs v d

default_stays : {A : Type 0} (xs : List A) (v j : ℕ) (d : A) → slice_index_or xs j d ≡ d → slice_index_or (slice_set xs v d) j d ≡ d
default_stays xs v j d h =
    elim (bool_cases (j == v)) [
      | inl t ↦ let e : j ≡ v = eqb-true j v t in subst (λ z. slice_index_or (slice_set xs v d) z d ≡ d) (sym e) (default_at xs v d)
      | inr t ↦ let ne : j ≢ v = eqb-false j v t in get_or-set_other xs v j d d ne ∙ h
    ]

wiped_stays : {A : Type 0} (d : A) (l : List ℕ) (xs : List A) (j : ℕ) → slice_index_or xs j d ≡ d → slice_index_or (wiped d l xs) j d ≡ d
wiped_stays d [] xs j h = h
wiped_stays d (v ∷ vs) xs j h = wiped_stays d vs (slice_set xs v d) j (default_stays xs v j d h)

wiped_many : {A : Type 0} (d : A) (l : List ℕ) (xs : List A) → length (wiped d l xs) ≡ length xs
wiped_many d [] xs = refl
wiped_many d (v ∷ vs) xs = wiped_many d vs (slice_set xs v d) ∙ length-set xs v d

wiped_below : {A : Type 0} (d : A) (base : ℕ) (l : List ℕ) (xs : List A) (j : ℕ) → j < base → slice_index_or (wiped d (shifted base l) xs) j d ≡ slice_index_or xs j d
wiped_below d base [] xs j lt = refl
wiped_below d base (v ∷ vs) xs j lt = wiped_below d base vs (slice_set xs (base + v) d) j lt ∙ (let ne : j ≢ base + v = omega (arith, lt) in get_or-set_other xs (base + v) j d d ne)

wiped_in : {A : Type 0} (d : A) (base : ℕ) (l : List ℕ) (p m : ℕ) (xs : List A) (u : ℕ) → counts p m l ≡ true → p ≤ u → u < m → slice_index_or (wiped d (shifted base l) xs) (base + u) d ≡ d
wiped_in d base [] p m xs u c le lt = let e = eqb-true p m c in absurd (omega (arith, e, le, lt))
wiped_in d base (v ∷ vs) p m xs u c le lt =
    elim (bool_cases (u == v)) [
      | inl t ↦
          let e : u ≡ v = eqb-true u v t in
          wiped_stays d (shifted base vs) (slice_set xs (base + v) d) (base + u) (subst (λ z. slice_index_or (slice_set xs (base + v) d) (base + z) d ≡ d) (sym e) (default_at xs (base + v) d))
      | inr t ↦
          let ne : u ≢ v = eqb-false u v t in
          let same : v ≡ p = eqb-true v p (and_left (eqb v p) (counts (suc p) m vs) c) in
          let ne2 : u ≢ p = λ e. ne (e ∙ sym same) in
          wiped_in d base vs (suc p) m (slice_set xs (base + v) d) u (and_right (eqb v p) (counts (suc p) m vs) c) (omega (arith, le, ne2)) lt
    ]

-- ---- arguments

module _ (total : List Var) where
  abbrev filled : List ℕ → List Value → List Value → List Value
  filled [] xs l = l
  filled (p ∷ ps) [] l = l
  filled (p ∷ ps) (x ∷ xs) l = filled ps xs (slice_set l p (converted (type_of (var_at total p)) x))

  passed_is : (ps : List ℕ) (xs : List Value) (s : State) → passed total ps xs s ≡ record s { vars = filled ps xs s.vars }
  passed_is [] xs s = refl
  passed_is (p ∷ ps) [] s = refl
  passed_is (p ∷ ps) (x ∷ xs) s = passed_is ps xs (record s { vars = slice_set s.vars p (converted (type_of (var_at total p)) x) })

  filled_many : (ps : List ℕ) (xs l : List Value) → length (filled ps xs l) ≡ length l
  filled_many [] xs l = refl
  filled_many (p ∷ ps) [] l = refl
  filled_many (p ∷ ps) (x ∷ xs) l = filled_many ps xs (slice_set l p (converted (type_of (var_at total p)) x)) ∙ length-set l p (converted (type_of (var_at total p)) x)

  filled_below : (k from : ℕ) (xs l : List Value) (j : ℕ) → j < from → slice_index_or (filled (numbers from k) xs l) j Null ≡ slice_index_or l j Null
  filled_below zero from xs l j lt = refl
  filled_below (suc k) from [] l j lt = refl
  filled_below (suc k) from (x ∷ xs) l j lt =
      filled_below k (suc from) xs (slice_set l from (converted (type_of (var_at total from)) x)) j (omega (arith, lt))
      ∙ (let ne : j ≢ from = omega (arith, lt) in get_or-set_other l from j (converted (type_of (var_at total from)) x) Null ne)

  filled_above : (k from : ℕ) (xs l : List Value) (j : ℕ) → from + k ≤ j → slice_index_or (filled (numbers from k) xs l) j Null ≡ slice_index_or l j Null
  filled_above zero from xs l j le = refl
  filled_above (suc k) from [] l j le = refl
  filled_above (suc k) from (x ∷ xs) l j le =
      filled_above k (suc from) xs (slice_set l from (converted (type_of (var_at total from)) x)) j (omega (arith, le))
      ∙ (let ne : j ≢ from = omega (arith, le) in get_or-set_other l from j (converted (type_of (var_at total from)) x) Null ne)

  filled_at : (k from : ℕ) (xs l : List Value) (u : ℕ) → u < k → length xs ≡ k → from + k ≤ length l
      → slice_index_or (filled (numbers from k) xs l) (from + u) Null ≡ converted (type_of (var_at total (from + u))) (slice_index_or xs u Null)
  filled_at zero from xs l u lt e room = absurd (omega (arith, lt))
  filled_at (suc k) from [] l u lt e room = absurd (let z = e in omega (arith, z))
  filled_at (suc k) from (x ∷ xs) l zero lt e room =
      let same : from ≡ from + 0 = omega arith in
      subst (λ z. slice_index_or (filled (numbers from (suc k)) (x ∷ xs) l) z Null ≡ converted (type_of (var_at total z)) x) same
      (filled_below k (suc from) xs (slice_set l from (converted (type_of (var_at total from)) x)) from (omega arith) ∙ get_or-set_same l from (converted (type_of (var_at total from)) x) Null (omega (arith, room)))
  filled_at (suc k) from (x ∷ xs) l (suc u) lt e room =
      let same : suc from + u ≡ from + suc u = omega arith in
      let many = length-set l from (converted (type_of (var_at total from)) x) in
      subst (λ z. slice_index_or (filled (numbers from (suc k)) (x ∷ xs) l) z Null ≡ converted (type_of (var_at total z)) (slice_index_or xs u Null)) same
      (filled_at k (suc from) xs (slice_set l from (converted (type_of (var_at total from)) x)) u (omega (arith, lt)) (omega (arith, e)) (omega (arith, room, many)))

-- ---- a frame

pub none_else : {A : Type 0} (m : ℕ) (u : ℕ) (d : A) → slice_index_or (replicate m d) u d ≡ d
none_else zero u d = refl
none_else (suc m) zero d = refl
none_else (suc m) (suc u) d = none_else m u d

abbrev pub dull : Var
dull = var.Value Rattle.q_lane.specs.declared.kinds.Scalar.TheVariants.Int

param_at : (ps : List Var) (xs rest : List Value) (u : ℕ) → length ps ≤ length xs → u < length ps → slice_index_or (as_params ps xs ++ rest) u Null ≡ converted (type_of (slice_index_or ps u dull)) (slice_index_or xs u Null)
param_at [] xs rest u e lt = absurd (omega (arith, lt))
param_at (p ∷ ps) [] rest u e lt = absurd (omega (arith, e))
param_at (p ∷ ps) (x ∷ xs) rest zero e lt = refl
param_at (p ∷ ps) (x ∷ xs) rest (suc u) e lt = param_at ps xs rest u (omega (arith, e)) (omega (arith, lt))

other_at : (ps : List Var) (xs : List Value) (m u : ℕ) → length ps ≤ u → slice_index_or (as_params ps xs ++ replicate m Null) u Null ≡ Null
other_at [] xs m u le = none_else m u Null
other_at (p ∷ ps) [] m u le = none_else m u Null
other_at (p ∷ ps) (x ∷ xs) m zero le = absurd (omega (arith, le))
other_at (p ∷ ps) (x ∷ xs) m (suc u) le = other_at ps xs m u (omega (arith, le))

params_many : (ps : List Var) (xs : List Value) → length ps ≤ length xs → length (as_params ps xs) ≡ length ps
params_many [] xs e = refl
params_many (p ∷ ps) [] e = absurd (omega (arith, e))
params_many (p ∷ ps) (x ∷ xs) e = ap suc (params_many ps xs (omega (arith, e)))

pub le_cases : (a b : ℕ) → (a < b) ⊎ (b ≤ a)
le_cases zero zero = inr (omega arith)
le_cases zero (suc b) = inl (omega arith)
le_cases (suc a) zero = inr (omega arith)
le_cases (suc a) (suc b) =
    elim (le_cases a b) [
      | inl h ↦ inl (omega (arith, h))
      | inr h ↦ inr (omega (arith, h))
    ]

pub frame_param : (vars : List Var) (p : ℕ) (xs rest : List Value) (u : ℕ) → p ≤ length vars → p ≤ length xs → u < p → slice_index_or (as_params (take p vars) xs ++ rest) u Null ≡ converted (type_of (var_at vars u)) (slice_index_or xs u Null)
frame_param vars p xs rest u le e lt =
    let k = length-take-le p vars le in
    param_at (take p vars) xs rest u (omega (arith, k, e)) (omega (arith, k, lt)) ∙ ap (λ z. converted (type_of z) (slice_index_or xs u Null)) (get_or-take p vars u dull lt)

pub frame_other : (vars : List Var) (p : ℕ) (xs : List Value) (m u : ℕ) → p ≤ length vars → p ≤ u → slice_index_or (as_params (take p vars) xs ++ replicate m Null) u Null ≡ Null
frame_other vars p xs m u le lt = let k = length-take-le p vars le in other_at (take p vars) xs m u (omega (arith, k, lt))

pub frame_many : (vars : List Var) (p : ℕ) (xs : List Value) → p ≤ length vars → p ≤ length xs → length (as_params (take p vars) xs ++ replicate (length vars - p) Null) ≡ length vars
frame_many vars p xs le e =
    let k = length-take-le p vars le in
    let a = length-append (as_params (take p vars) xs) (replicate (length vars - p) Null) in
    let b = params_many (take p vars) xs (omega (arith, k, e)) in
    let c = length-replicate (length vars - p) Null in
    omega (arith, a, b, c, k, le)

module _ (g : TFunction) (total : List Var) (base : ℕ) (D : List ℕ) (le : g.params ≤ length g.vars) (c : counts g.params (length g.vars) D ≡ true)
    (same : (u : ℕ) → u < length g.vars → var_at total (base + u) ≡ var_at g.vars u) (room : base + length g.vars ≤ length total) where
  abbrev pub begun : List Value → State → State
  begun xs t = passed total (numbers base g.params) xs (emptied (shifted base D) t)

  abbrev begins_so : List Value → State → State
  begins_so xs t = record t { vars = filled total (numbers base g.params) xs (wiped Null (shifted base D) t.vars); arrays = wiped [] (shifted base D) t.arrays }

  begun_is : (xs : List Value) (t : State) → begun xs t ≡ begins_so xs t
  begun_is xs t =
      ap (passed total (numbers base g.params) xs) (emptied_is (shifted base D) t)
      ∙ passed_is total (numbers base g.params) xs (record t { vars = wiped Null (shifted base D) t.vars; arrays = wiped [] (shifted base D) t.arrays })

  vars_at : (xs : List Value) (t : State) (u : ℕ) → u < length g.vars → length xs ≡ g.params → length t.vars ≡ length total
      → slice_index_or (frame g xs) u Null ≡ slice_index_or (filled total (numbers base g.params) xs (wiped Null (shifted base D) t.vars)) (base + u) Null
  vars_at xs t u lt e all =
      let many = wiped_many Null (shifted base D) t.vars in
      elim (le_cases u g.params) [
        | inl h ↦
            frame_param g.vars g.params xs (replicate (length g.vars - g.params) Null) u le (omega (arith, e)) h
            ∙ ap (λ z. converted (type_of z) (slice_index_or xs u Null)) (sym (same u lt))
            ∙ sym (filled_at total g.params base xs (wiped Null (shifted base D) t.vars) u h e (omega (arith, many, all, room, le)))
        | inr h ↦
            frame_other g.vars g.params xs (length g.vars - g.params) u le h
            ∙ sym (filled_above total g.params base xs (wiped Null (shifted base D) t.vars) (base + u) (omega (arith, h)) ∙ wiped_in Null base D g.params (length g.vars) t.vars u c h lt)
      ]

  begins_framed : (xs : List Value) (s t : State) → length xs ≡ g.params → length t.vars ≡ length total → length t.arrays ≡ length total → s.buffers ≡ t.buffers → s.marks ≡ t.marks → s.left ≡ t.left
      → Framed (length g.vars) base g.params (length total) (entered g xs s) (begins_so xs t)
  begins_framed xs s t e all all_arrays b m l =
      let f = filled_many total (numbers base g.params) xs (wiped Null (shifted base D) t.vars) in
      let w = wiped_many Null (shifted base D) t.vars in
      let a = wiped_many [] (shifted base D) t.arrays in
      record {
        vars = λ u lt. vars_at xs t u lt e all;
        arrays = λ u low lt. none_else (length g.vars) u [] ∙ sym (wiped_in [] base D g.params (length g.vars) t.arrays u c low lt);
        own = frame_many g.vars g.params xs le (omega (arith, e));
        own_arrays = length-replicate (length g.vars) [];
        room = omega (arith, f, w, all, room);
        room_arrays = omega (arith, a, all_arrays, room);
        all = f ∙ w ∙ all;
        all_arrays = a ∙ all_arrays;
        buffers = b;
        marks = m;
        left = l;
      }

  begins_kept : (xs : List Value) (t : State) → Kept (length g.vars) base g.params (length total) t (begins_so xs t)
  begins_kept xs t =
      record {
        vars = λ j lt. filled_below total g.params base xs (wiped Null (shifted base D) t.vars) j lt ∙ wiped_below Null base D t.vars j lt;
        arrays = λ j lt. wiped_below [] base D t.arrays j lt;
        many = filled_many total (numbers base g.params) xs (wiped Null (shifted base D) t.vars) ∙ wiped_many Null (shifted base D) t.vars;
        many_arrays = wiped_many [] (shifted base D) t.arrays;
      }

  pub begun_framed : (xs : List Value) (s t : State) → length xs ≡ g.params → length t.vars ≡ length total → length t.arrays ≡ length total → s.buffers ≡ t.buffers → s.marks ≡ t.marks → s.left ≡ t.left
      → Framed (length g.vars) base g.params (length total) (entered g xs s) (begun xs t)
  begun_framed xs s t e all all_arrays b m l = subst (λ z. Framed (length g.vars) base g.params (length total) (entered g xs s) z) (sym (begun_is xs t)) (begins_framed xs s t e all all_arrays b m l)

  pub begun_kept : (xs : List Value) (t : State) → Kept (length g.vars) base g.params (length total) t (begun xs t)
  begun_kept xs t = subst (λ z. Kept (length g.vars) base g.params (length total) t z) (sym (begun_is xs t)) (begins_kept xs t)
