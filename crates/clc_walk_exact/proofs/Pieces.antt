-- Pieces: what is judged by looking through all declarations is what the walk meets with its open blocks.
use Rattle.std.proofs.Common.{◌≡◌, ℕ, suc, ◌+◌, ◌<◌, ◌≤◌, ◌^◌, Bool, true, false, List, [], ◌∷◌, ◌++◌, Option, Some, None, ◌⊎◌, inl, inr, refl, sym, ap, ◌∙◌, subst, arith, length, append-nil, append_assoc, length-append, is_some, lt-ltb, le-leb, eq-eqb}
use Rattle.std.specs.Prelude.{map, bytes_eq, nat_eq, nat_lt, nat_le, ◌&&◌, if◌then◌else◌, not, min}
use Rattle.std.proofs.lemmas.List.{map-append, length-map}
use Rattle.std.proofs.lemmas.Slice.Eq.{bytes_eq-Decides}
use Rattle.clc_lexer.specs.declared.token.Token.{Token}
use Rattle.clc_types.specs.declared.type_rule.TypeRule.TheVariants.{S2}
use Rattle.clc_types.specs.declared.typed.Var.{Var}
use Rattle.clc_types.specs.declared.forms.Fault.{Fault}
use Rattle.clc_types.specs.declared.forms.Shape.{Shape}
use Rattle.clc_types.specs.declared.forms.Home.{Home}
use Rattle.clc_types.specs.declared.forms.Named.{Named}
use Rattle.clc_types.specs.declared.forms.Named.TheVariants as nm
use Rattle.clc_types.specs.Judged.{Judged, Fine, Faulty, both, next, unless, violations, faults_of, Context, Part, IsLeast}
use Rattle.clc_types.specs.Words.{name_of}
use Rattle.clc_types.specs.Rules.{var_of}
use Rattle.clc_types.specs.Names.{or_else, outermost, builtin_named, builtin_of}
use Rattle.clc_types.specs.InternalScope.{Entries, Known, found, known, look_in}
use Rattle.clc_types.specs.Blocks.{Decl, Around, Piece, is_visible, last_visible, is_again, earlier, nothing, quiet, past, ending, seq, made, maybe, listed, opened, looping, declared}
use Rattle.clc_types.specs.Programs.{in_force}
use Rattle.clc_types.specs.InternalWalk.{Walked, Right, Wrong, Walk, guarded, bump}
use Rattle.clc_types.specs.InternalSteps.{View, Stepped, Goes, Stops, and_then, reach, PieceWalk, knows_in, number, skipped, entered, left, front, last_of, with_var, declare_in, declared_in, nothing as walk_nothing, past as walk_past, ending as walk_ending, seq as walk_seq, made as walk_made, maybe as walk_maybe, listed as walk_listed, opened as walk_opened, looping as walk_looping, declared as walk_declared}
use Rattle.clc_types.proofs.Scopes.{known_last, or_none, or_assoc, front_is, last_is}
use Rattle.clc_walk_exact.proofs.Least.{Inside, Same, inside_none, wider, inside_unless, inside_next, inside_both, first_least, least_left, inside_violations}
use Rattle.clc_walk_exact.proofs.Needs.{sound_at}
use Rattle.clc_walk_exact.proofs.Agree.{Fair, Agreed, bump_is, context}
use Rattle.clc_walk_exact.proofs.Force.{Hidden, hidden_after, Later, later_lower, later_append, later_hidden, Ended, ended_append, ended_upper, ended_hidden, Inner, inner_append, inner_lower, apart_after, later_apart, inner_apart, Sooner, sooner_upper, sooner_append, fresh_block, earlier_is, last_push, again_push, found_push}

abbrev pub at_token : View → ℕ → View
at_token v p = record { outer = v.outer; inner = v.inner; home = v.home; vars = v.vars; at = p }

abbrev pub Met : {A : Type 0} → Judged A → Stepped A → (View → Type 0) → Type 0
Met (Fine a) (Goes b u) Q = (a ≡ b) × Q u
Met (Fine a) (Stops g) Q = ⊥
Met (Faulty f fs) (Goes b u) Q = ⊥
Met (Faulty f fs) (Stops g) Q = IsLeast g (f ∷ fs)

pub reach_met : {A : Type 0} (v : View) (hi : ℕ) (j : Judged A) (w : Walked A) → Same hi j w → Met j (reach v w) (λ u. u ≡ at_token v hi)
reach_met v hi (Fine a) (Right b q) h = (h.0, ap (at_token v) h.1)
reach_met v hi (Fine a) (Wrong g) h = absurd h
reach_met v hi (Faulty f fs) (Right b q) h = absurd h
reach_met v hi (Faulty f fs) (Wrong g) h = h

pub met_next : {A B : Type 0} (j : Judged A) (w : Stepped A) (go : A → Judged B) (z : A → View → Stepped B) (Q R : View → Type 0)
    → Met j w Q → ((a : A) (u : View) → Q u → Met (go a) (z a u) R) → Met (next j go) (and_then w z) R
met_next (Fine a) (Goes b u) go z Q R h i = subst (λ x. Met (go a) (z x u) R) h.0 (i a u h.1)
met_next (Fine a) (Stops g) go z Q R h i = absurd h
met_next (Faulty f fs) (Goes b u) go z Q R h i = absurd h
met_next (Faulty f fs) (Stops g) go z Q R h i = h

pub met_weak : {A : Type 0} (j : Judged A) (w : Stepped A) (Q R : View → Type 0) → ((u : View) → Q u → R u) → Met j w Q → Met j w R
met_weak (Fine a) (Goes b u) Q R h i = (i.0, h u i.1)
met_weak (Fine a) (Stops g) Q R h i = i
met_weak (Faulty f fs) (Goes b u) Q R h i = i
met_weak (Faulty f fs) (Stops g) Q R h i = i

pub met_made : {A B : Type 0} (f : A → B) (j : Judged A) (w : Stepped A) (Q : View → Type 0) → Met j w Q → Met (next j (λ x. Fine (f x))) (and_then w (λ x u. Goes (f x) u)) Q
met_made f (Fine a) (Goes b u) Q h = (ap f h.0, h.1)
met_made f (Fine a) (Stops g) Q h = absurd h
met_made f (Faulty e es) (Goes b u) Q h = absurd h
met_made f (Faulty e es) (Stops g) Q h = h

-- the walk goes on by a step that always succeeds
pub met_on : {A : Type 0} (g : View → View) (j : Judged A) (w : Stepped A) (Q R : View → Type 0) → ((u : View) → Q u → R (g u)) → Met j w Q → Met j (and_then w (λ x u. Goes x (g u))) R
met_on g (Fine a) (Goes b u) Q R h i = (i.0, h u i.1)
met_on g (Fine a) (Stops f) Q R h i = i
met_on g (Faulty e es) (Goes b u) Q R h i = i
met_on g (Faulty e es) (Stops f) Q R h i = i

-- a part, and then another: the faults of the first come first
pub met_both : {A B : Type 0} (lo mid hi : ℕ) (j : Judged A) (w : Stepped A) (k : Judged B) (z : View → Stepped B) (Q R : View → Type 0)
    → Inside lo mid (faults_of j) → Inside mid hi (faults_of k) → Met j w Q → ((u : View) → Q u → Met k (z u) R)
    → Met (both j k) (and_then w (λ x u. and_then (z u) (λ y s. Goes (x, y) s))) R
met_both {B = B} lo mid hi (Fine a) (Goes b u) k z Q R i0 i1 h i = subst (λ x. Met (both (Fine a) k) (and_then (z u) (λ y s. Goes (x, y) s)) R) h.0 (second k (z u) (i u h.1))
  where
    second : (k : Judged B) (s : Stepped B) → Met k s R → Met (both (Fine a) k) (and_then s (λ y t. Goes (a, y) t)) R
    second (Fine c) (Goes d t) m = (ap (λ y. (a, y)) m.0, m.1)
    second (Fine c) (Stops g) m = absurd m
    second (Faulty f fs) (Goes d t) m = absurd m
    second (Faulty f fs) (Stops g) m = m
met_both lo mid hi (Fine a) (Stops g) k z Q R i0 i1 h i = absurd h
met_both lo mid hi (Faulty f fs) (Goes b u) k z Q R i0 i1 h i = absurd h
met_both lo mid hi (Faulty f fs) (Stops g) (Fine c) z Q R i0 i1 h i = h
met_both lo mid hi (Faulty f fs) (Stops g) (Faulty x xs) z Q R i0 i1 h i = least_left g lo mid hi (f ∷ fs) (x ∷ xs) i0 i1 h

pub skipped_is : (n : ℕ) (v : View) → v.at + n < 2 ^ 32 → skipped n v ≡ at_token v (v.at + n)
unfolding skipped
skipped_is n v h = ap (at_token v) (bump_is v.at n h)

-- the declarations of a part: where they stand, and in which blocks
pub record Spread (from upto p hi : ℕ) (ds : List Decl) : Type 0 where
  pub later : Later p ds
  pub sooner : Sooner hi ds
  pub ended : Ended upto ds
  pub inner : Inner from ds
  pub few : p + length ds ≤ hi

pub spread_none : (from upto p hi : ℕ) → p ≤ hi → Spread from upto p hi []
spread_none from upto p hi h = record { later = tt; sooner = tt; ended = tt; inner = tt; few = omega (arith, h) }

pub spread_append : (from upto p mid hi : ℕ) (ds es : List Decl) → p ≤ mid → mid ≤ hi → Spread from upto p mid ds → Spread from upto mid hi es → Spread from upto p hi (ds ++ es)
spread_append from upto p mid hi ds es a b x y =
    let f = x.few in
    let g = y.few in
    record {
      later = later_append p ds es x.later (later_lower p mid es a y.later);
      sooner = sooner_append hi ds es (sooner_upper mid hi ds b x.sooner) y.sooner;
      ended = ended_append upto ds es x.ended y.ended;
      inner = inner_append from ds es x.inner y.inner;
      few = let n = length-append ds es in omega (arith, f, g, n);
    }

pub spread_wider : (from upto p hi p' hi' : ℕ) (ds : List Decl) → p' ≤ p → hi ≤ hi' → Spread from upto p hi ds → Spread from upto p' hi' ds
spread_wider from upto p hi p' hi' ds a b x =
    let f = x.few in
    record { later = later_lower p' p ds a x.later; sooner = sooner_upper hi hi' ds b x.sooner; ended = x.ended; inner = x.inner; few = omega (arith, f, a, b) }

-- those of an inner block
spread_out : (from upto p hi a b hi' : ℕ) (ds : List Decl) → from ≤ p → hi ≤ upto → p ≤ a → b ≤ hi' → Spread p hi a b ds → Spread from upto p hi' ds
spread_out from upto p hi a b hi' ds h i j k s = let f = s.few in record {
  later = later_lower p a ds j s.later;
  sooner = sooner_upper b hi' ds k s.sooner;
  ended = ended_upper hi upto ds i s.ended;
  inner = inner_lower from p ds h s.inner;
  few = omega (arith, f, j, k);
}

pub next_is : {A : Type 0} (j : Judged A) → next j (λ a. Fine a) ≡ j
next_is (Fine a) = refl
next_is (Faulty f fs) = refl

module _ (fs : List (List ℕ)) (home : Home) (all : List Decl) where
  abbrev pub names : Context
  names = record { look = in_force all fs; home = home }

  abbrev pub c : Around
  c = record { names = names; all = all }

  -- the declarations so far, and what the walk has of them
  pub record Rel (done : List Decl) (from upto : ℕ) (v : View) : Type 0 where
    pub force : (q : ℕ) → v.at ≤ q → q < upto → (x : List ℕ) → look_in (v.outer ++ v.inner ∷ []) x ≡ or_else (last_visible 0 done q x) (outermost fs x)
    pub vars : v.vars ≡ map (λ d. var_of d.shape) done
    pub again : (q : ℕ) → v.at ≤ q → (x : List ℕ) → is_some (found v.inner x) ≡ is_again done from q x
    pub sooner : Sooner v.at done
    pub few : length done ≤ v.at
    pub starts : from < v.at
    pub within : v.home ≡ home

  pub moved : (done : List Decl) (from upto : ℕ) (v : View) (p : ℕ) → v.at ≤ p → Rel done from upto v → Rel done from upto (at_token v p)
  moved done from upto v p h r = let f = r.few in let s = r.starts in record {
    force = λ q a b x. r.force q (omega (arith, h, a)) b x;
    vars = r.vars;
    again = λ q a x. r.again q (omega (arith, h, a)) x;
    sooner = sooner_upper v.at p done h r.sooner;
    few = omega (arith, f, h);
    starts = omega (arith, s, h);
    within = r.within;
  }

  pub agreed : (done rest : List Decl) (from upto : ℕ) (v : View) (p hi : ℕ) → Rel done from upto v → all ≡ done ++ rest → v.at ≤ p → hi ≤ upto → hi < 2 ^ 32 → Later hi rest
      → Agreed (in_force all fs) (knows_in v) p hi
  agreed done rest from upto v p hi r e a b f l = record {
    fits = f;
    same = λ q d h x.
        ap (λ z. or_else (last_visible 0 z q x) (outermost fs x)) e
        ∙ ap (λ z. or_else z (outermost fs x)) (hidden_after 0 q x done rest (later_hidden hi q x rest (omega (arith, h)) l))
        ∙ sym (r.force q (omega (arith, a, d)) (omega (arith, h, b)) x);
  }

  pub record After (done ds : List Decl) (from upto : ℕ) (v : View) (hi : ℕ) (u : View) : Type 0 where
    pub rel : Rel (done ++ ds) from upto u
    pub outer : u.outer ≡ v.outer
    pub at : u.at ≡ hi

  pub record Stood {A : Type 0} (s : Piece A) (w : PieceWalk A) : Type 0 where
    pub spread : (from upto p : ℕ) → from < p → p + s.tokens ≤ upto → Spread from upto p (p + s.tokens) (s.decls from upto p)
    pub inside : (l : Bool) (from p : ℕ) → Inside p (p + s.tokens) (faults_of (s.at c l from p))
    pub met : (l : Bool) (from upto : ℕ) (done rest : List Decl) (v : View) → all ≡ done ++ (s.decls from upto v.at ++ rest) → Later (v.at + s.tokens) rest → Rel done from upto v → v.at + s.tokens ≤ upto → upto < 2 ^ 32
        → Met (s.at c l from v.at) (w l v) (After done (s.decls from upto v.at) from upto v (v.at + s.tokens))

  -- a part without declarations
  pub unmoved : (done : List Decl) (from upto : ℕ) (v u : View) (hi : ℕ) → u ≡ at_token v hi → v.at ≤ hi → Rel done from upto v → After done [] from upto v hi u
  unmoved done from upto v u hi e h r = subst (After done [] from upto v hi) (sym e) (record {
    rel = subst (λ ds. Rel ds from upto (at_token v hi)) (sym (append-nil done)) (moved done from upto v hi h r);
    outer = refl;
    at = refl;
  })

  pub nothing_stood : {A : Type 0} (a : A) → Stood (nothing a) (walk_nothing a)
  nothing_stood a = record {
    spread = λ from upto p h b. spread_none from upto p _ (omega arith);
    inside = λ l from p. inside_none p _;
    met = λ l from upto done rest v e la r b f. (refl, unmoved done from upto v v (v.at + 0) (ap (at_token v) (let z : v.at ≡ v.at + 0 = omega arith in z)) (omega arith) r);
  }

  pub quiet_stood : {A : Type 0} (a : Part A) (w : Known → Walk A) → ((k : Known) → Fair (in_force all fs) k a (w k)) → Stood (quiet a) (λ l v. reach v (w (knows_in v) v.at))
  quiet_stood {A} a w g = record {
    spread = λ from upto p h b. spread_none from upto p _ (omega arith);
    inside = λ l from p. (g (record { look = λ x. None; home = home })).inside p;
    met = λ l from upto done rest v e la r b f.
        let hi = v.at + a.tokens in
        let ag = agreed done rest from upto v v.at hi r e (omega arith) b (omega (arith, b, f)) la in
        let same : Same hi (a.at names v.at) (w (knows_in v) v.at)
        = subst (λ z. Same hi (a.at (let k : Context = record { look = in_force all fs; home = z } in k) v.at) (w (knows_in v) v.at)) r.within ((g (knows_in v)).same v.at ag) in
        met_weak (a.at names v.at) (reach v (w (knows_in v) v.at)) (λ u. u ≡ at_token v hi) (After done [] from upto v hi)
        (λ u q. unmoved done from upto v u hi q (omega arith) r) (reach_met v hi (a.at names v.at) (w (knows_in v) v.at) same);
  }

  after_at : (done ds : List Decl) (from upto : ℕ) (v v' : View) (hi hi' : ℕ) (u : View) → v'.outer ≡ v.outer → hi ≡ hi' → After done ds from upto v' hi u → After done ds from upto v hi' u
  after_at done ds from upto v v' hi hi' u o e k = record { rel = k.rel; outer = k.outer ∙ o; at = k.at ∙ e }

  pub past_stood : {A : Type 0} (n : ℕ) (s : Piece A) (w : PieceWalk A) → Stood s w → Stood (past n s) (walk_past n w)
  past_stood n s w g = record {
    spread = λ from upto p a b. spread_wider from upto (p + n) (p + n + s.tokens) p (p + (n + s.tokens)) _ (omega arith) (omega arith) (g.spread from upto (p + n) (omega (arith, a)) (omega (arith, b)));
    inside = λ l from p. wider (p + n) (p + n + s.tokens) p (p + (n + s.tokens)) _ (omega arith) (omega arith) (g.inside l from (p + n));
    met = λ l from upto done rest v e la r b f.
        let q = v.at + n in
        let hi = v.at + (n + s.tokens) in
        let eh : q + s.tokens ≡ hi = omega arith in
        let v1 = at_token v q in
        subst (λ z. Met (s.at c l from q) (w l z) (After done (s.decls from upto q) from upto v hi)) (sym (skipped_is n v (omega (arith, b, f))))
        (met_weak (s.at c l from q) (w l v1) (After done (s.decls from upto q) from upto v1 (q + s.tokens)) (After done (s.decls from upto q) from upto v hi)
        (λ u k. after_at done (s.decls from upto q) from upto v v1 (q + s.tokens) hi u refl eh k)
        (g.met l from upto done rest v1 e (subst (λ z. Later z rest) (sym eh) la) (moved done from upto v q (omega arith) r) (omega (arith, b)) f));
  }

  -- some tokens after it
  ended_by : (done ds : List Decl) (from upto : ℕ) (v : View) (mid n hi : ℕ) (u : View) → mid + n ≡ hi → hi < 2 ^ 32 → After done ds from upto v mid u → After done ds from upto v hi (skipped n u)
  ended_by done ds from upto v mid n hi u e f k =
      let a = k.at in
      let to : skipped n u ≡ at_token u hi = skipped_is n u (omega (arith, a, e, f)) ∙ ap (at_token u) (let z : u.at + n ≡ hi = omega (arith, a, e) in z) in
      subst (After done ds from upto v hi) (sym to) (record { rel = moved (done ++ ds) from upto u hi (omega (arith, a, e)) k.rel; outer = k.outer; at = refl })

  pub ending_stood : {A : Type 0} (s : Piece A) (w : PieceWalk A) (n : ℕ) → Stood s w → Stood (ending s n) (walk_ending w n)
  ending_stood s w n g = record {
    spread = λ from upto p a b. spread_wider from upto p (p + s.tokens) p (p + (s.tokens + n)) _ (omega arith) (omega arith) (g.spread from upto p a (omega (arith, b)));
    inside = λ l from p. wider p (p + s.tokens) p (p + (s.tokens + n)) _ (omega arith) (omega arith) (g.inside l from p);
    met = λ l from upto done rest v e la r b f.
        let mid = v.at + s.tokens in
        let hi = v.at + (s.tokens + n) in
        met_on (skipped n) (s.at c l from v.at) (w l v) (After done (s.decls from upto v.at) from upto v mid) (After done (s.decls from upto v.at) from upto v hi)
        (λ u k. ended_by done (s.decls from upto v.at) from upto v mid n hi u (omega arith) (omega (arith, b, f)) k)
        (g.met l from upto done rest v e (later_lower mid hi rest (omega arith) la) r (omega (arith, b)) f);
  }

  pub made_stood : {A B : Type 0} (h : A → B) (s : Piece A) (w : PieceWalk A) → Stood s w → Stood (made h s) (walk_made h w)
  made_stood h s w g = record {
    spread = g.spread;
    inside = λ l from p. inside_next p (p + s.tokens) (s.at c l from p) (λ x. Fine (h x)) (g.inside l from p) (λ x e. inside_none p (p + s.tokens));
    met = λ l from upto done rest v e la r b f. met_made h (s.at c l from v.at) (w l v) (After done (s.decls from upto v.at) from upto v (v.at + s.tokens)) (g.met l from upto done rest v e la r b f);
  }

  pub seq_stood : {A B : Type 0} (s : Piece A) (t : Piece B) (w : PieceWalk A) (z : PieceWalk B) → Stood s w → Stood t z → Stood (seq s t) (walk_seq w z)
  seq_stood s t w z g h = record {
    spread = λ from upto p a b.
        let m = p + s.tokens in
        spread_append from upto p m (p + (s.tokens + t.tokens)) _ _ (omega arith) (omega arith) (g.spread from upto p a (omega (arith, b)))
        (spread_wider from upto m (m + t.tokens) m (p + (s.tokens + t.tokens)) _ (omega arith) (omega arith) (h.spread from upto m (omega (arith, a)) (omega (arith, b))));
    inside = λ l from p.
        let m = p + s.tokens in
        let hi = p + (s.tokens + t.tokens) in
        inside_both p hi (s.at c l from p) (t.at c l from m) (wider p m p hi _ (omega arith) (omega arith) (g.inside l from p)) (wider m (m + t.tokens) p hi _ (omega arith) (omega arith) (h.inside l from m));
    met = λ l from upto done rest v e la r b f.
        let m = v.at + s.tokens in
        let hi = v.at + (s.tokens + t.tokens) in
        let d1 = s.decls from upto v.at in
        let d2 = t.decls from upto m in
        let st = r.starts in
        let sp = h.spread from upto m (omega (arith, st)) (omega (arith, b)) in
        let e1 : all ≡ done ++ (d1 ++ (d2 ++ rest)) = e ∙ ap (λ y. done ++ y) (append_assoc d1 d2 rest) in
        let e2 : all ≡ (done ++ d1) ++ (d2 ++ rest) = e1 ∙ sym (append_assoc done d1 (d2 ++ rest)) in
        met_both v.at m (m + t.tokens) (s.at c l from v.at) (w l v) (t.at c l from m) (z l) (After done d1 from upto v m) (After done (d1 ++ d2) from upto v hi)
        (g.inside l from v.at) (h.inside l from m)
        (g.met l from upto done (d2 ++ rest) v e1 (later_append m d2 rest sp.later (later_lower m hi rest (omega arith) la)) r (omega (arith, b)) f)
        (λ u k.
        let a = k.at in
        let S : ℕ → Type 0 = λ y. Met (t.at c l from y) (z l u) (After (done ++ d1) (t.decls from upto y) from upto u (y + t.tokens)) in
        let P : ℕ → Type 0 = λ y. all ≡ (done ++ d1) ++ (t.decls from upto y ++ rest) in
        met_weak (t.at c l from m) (z l u) (After (done ++ d1) d2 from upto u (m + t.tokens)) (After done (d1 ++ d2) from upto v hi)
        (λ x y. record { rel = subst (λ ds. Rel ds from upto x) (append_assoc done d1 d2) y.rel; outer = y.outer ∙ k.outer; at = y.at ∙ omega arith })
        (subst S a (h.met l from upto (done ++ d1) rest u (subst P (sym a) e2) (later_lower (u.at + t.tokens) hi rest (omega (arith, a)) la) k.rel (omega (arith, a, b)) f)));
  }

  pub looping_stood : {A : Type 0} (s : Piece A) (w : PieceWalk A) → Stood s w → Stood (looping s) (walk_looping w)
  looping_stood s w g = record { spread = g.spread; inside = λ l from p. g.inside true from p; met = λ l from upto done rest v e la r b f. g.met true from upto done rest v e la r b f }

  -- lists
  abbrev pub Stoods : {A : Type 0} → List (Piece A) → List (PieceWalk A) → Type 0
  Stoods [] [] = Unit {0}
  Stoods [] (w ∷ ws) = ⊥
  Stoods (x ∷ xs) [] = ⊥
  Stoods (x ∷ xs) (w ∷ ws) = Stood x w × Stoods xs ws

  pub stood_as : {A : Type 0} (s : Piece A) (w z : PieceWalk A) → ((l : Bool) (v : View) → w l v ≡ z l v) → Stood s w → Stood s z
  stood_as s w z e g = record {
    spread = g.spread;
    inside = g.inside;
    met = λ l from upto done rest v eq la r b f. subst (λ y. Met (s.at c l from v.at) y (After done (s.decls from upto v.at) from upto v (v.at + s.tokens))) (e l v) (g.met l from upto done rest v eq la r b f);
  }

  -- the list walked with what was done before is the list walked from nothing, behind it
  abbrev plain_listed : {A : Type 0} → List (PieceWalk (List A)) → PieceWalk (List A)
  plain_listed [] = walk_nothing []
  plain_listed (w ∷ ws) = walk_made (λ y. y.0 ++ y.1) (walk_seq w (plain_listed ws))

  abbrev behind : {A : Type 0} → List A → Stepped (List A) → Stepped (List A)
  behind done s = and_then s (λ y u. Goes (done ++ y) u)

  listed_behind : {A : Type 0} (ws : List (PieceWalk (List A))) (done : List A) (l : Bool) (v : View) → behind done (plain_listed ws l v) ≡ walk_listed done ws l v
  listed_behind [] done l v = ap (λ z. Goes z v) (append-nil done)
  listed_behind {A} (w ∷ ws) done l v = by (w l v) (λ y u. listed_behind ws (done ++ y) l u)
    where
      over : (y : List A) (u : View) (s : Stepped (List A)) → behind done (and_then (and_then {B = List A × List A} s (λ z t. Goes (y, z) t)) (λ x t. Goes (x.0 ++ x.1) t)) ≡ behind (done ++ y) s
      over y u (Goes z t) = ap (λ o. Goes o t) (sym (append_assoc done y z))
      over y u (Stops f) = refl

      by : (s : Stepped (List A)) → ((y : List A) (u : View) → behind (done ++ y) (plain_listed ws l u) ≡ walk_listed (done ++ y) ws l u)
          → behind done (and_then (and_then {B = List A × List A} s (λ x u. and_then (plain_listed ws l u) (λ y t. Goes (x, y) t))) (λ x t. Goes (x.0 ++ x.1) t)) ≡ and_then s (λ y u. walk_listed (done ++ y) ws l u)
      by (Goes y u) h = over y u (plain_listed ws l u) ∙ h y u
      by (Stops f) h = refl

  plain_listed_stood : {A : Type 0} (xs : List (Piece (List A))) (ws : List (PieceWalk (List A))) → Stoods xs ws → Stood (listed xs) (plain_listed ws)
  plain_listed_stood [] [] g = nothing_stood []
  plain_listed_stood [] (w ∷ ws) g = absurd g
  plain_listed_stood (x ∷ xs) [] g = absurd g
  plain_listed_stood (x ∷ xs) (w ∷ ws) g = made_stood (λ y. y.0 ++ y.1) (seq x (listed xs)) (walk_seq w (plain_listed ws)) (seq_stood x (listed xs) w (plain_listed ws) g.0 (plain_listed_stood xs ws g.1))

  pub listed_stood : {A : Type 0} (xs : List (Piece (List A))) (ws : List (PieceWalk (List A))) → Stoods xs ws → Stood (listed xs) (walk_listed [] ws)
  listed_stood {A} xs ws g = stood_as (listed xs) (plain_listed ws) (walk_listed [] ws) (λ l v. same (plain_listed ws l v) ∙ listed_behind ws [] l v) (plain_listed_stood xs ws g)
    where
      same : (s : Stepped (List A)) → s ≡ behind [] s
      same (Goes y u) = refl
      same (Stops f) = refl

  abbrev pub StoodOption : {A : Type 0} → Option (Piece A) → Option (PieceWalk A) → Type 0
  StoodOption None None = Unit {0}
  StoodOption None (Some w) = ⊥
  StoodOption (Some s) None = ⊥
  StoodOption (Some s) (Some w) = Stood s w

  pub maybe_stood : {A : Type 0} (s : Option (Piece A)) (w : Option (PieceWalk A)) → StoodOption s w → Stood (maybe s) (walk_maybe w)
  maybe_stood None None g = nothing_stood None
  maybe_stood None (Some w) g = absurd g
  maybe_stood (Some s) None g = absurd g
  maybe_stood (Some s) (Some w) g = made_stood (λ x. Some x) s w g

  -- a block is opened, and left
  opened_rel : (done : List Decl) (from upto hi p : ℕ) (v : View) → Rel done from upto v → v.at < p → hi ≤ upto → Rel done v.at hi (record { outer = v.outer ++ v.inner ∷ []; inner = []; home = v.home; vars = v.vars; at = p })
  opened_rel done from upto hi p v r h b = let f = r.few in record {
    force = λ q a e x. ap (λ z. or_else z (builtin_named (builtin_of x))) (known_last (v.outer ++ v.inner ∷ []) [] x) ∙ r.force q (omega (arith, h, a)) (omega (arith, b, e)) x;
    vars = r.vars;
    again = λ q a x. sym (fresh_block v.at q x done r.sooner);
    sooner = sooner_upper v.at p done (omega (arith, h)) r.sooner;
    few = omega (arith, f, h);
    starts = h;
    within = r.within;
  }

  left_rel : (done ds : List Decl) (from upto hi : ℕ) (v u : View) → Rel done from upto v → v.at < u.at → u.at ≡ hi → Spread v.at hi (v.at + 1) hi ds → Rel (done ++ ds) v.at hi u → u.outer ≡ v.outer ++ v.inner ∷ [] → After done ds from upto v hi (left u)
  unfolding left
  left_rel done ds from upto hi v u r h e sp ru o =
      let w : View = record { outer = v.outer; inner = v.inner; home = u.home; vars = u.vars; at = u.at } in
      let st = r.starts in
      let rel : Rel (done ++ ds) from upto w = record {
        force = λ q a b x. r.force q (omega (arith, h, a)) b x ∙ ap (λ z. or_else z (outermost fs x)) (sym (hidden_after 0 q x done ds (ended_hidden hi q x ds (omega (arith, a, e)) sp.ended)));
        vars = ru.vars;
        again = λ q a x. r.again q (omega (arith, h, a)) x ∙ sym (apart_after from q x done ds (inner_apart v.at from q x ds st sp.inner));
        sooner = ru.sooner;
        few = ru.few;
        starts = omega (arith, st, h);
        within = ru.within;
      } in
      let to : left u ≡ w = ap (λ z. let y : View = record { outer = front z; inner = last_of z u.inner; home = u.home; vars = u.vars; at = u.at } in y) o
      ∙ ap (λ z. let y : View = record { outer = z; inner = last_of (v.outer ++ v.inner ∷ []) u.inner; home = u.home; vars = u.vars; at = u.at } in y) (front_is v.outer v.inner)
      ∙ ap (λ z. let y : View = record { outer = v.outer; inner = z; home = u.home; vars = u.vars; at = u.at } in y) (last_is v.outer v.inner u.inner) in
      subst (After done ds from upto v hi) (sym to) (record { rel = rel; outer = refl; at = e })

  pub opened_stood : {A : Type 0} (n : ℕ) (s : Piece A) (w : PieceWalk A) → 0 < n → Stood s w → Stood (opened n s) (walk_opened n w)
  unfolding entered
  opened_stood n s w pos g = record {
    spread = λ from upto p a b.
        let hi = p + (n + s.tokens) in
        spread_out from upto p hi (p + n) (p + n + s.tokens) hi _ (omega (arith, a)) b (omega arith) (omega arith) (g.spread p hi (p + n) (omega (arith, pos)) (omega arith));
    inside = λ l from p. wider (p + n) (p + n + s.tokens) p (p + (n + s.tokens)) _ (omega arith) (omega arith) (g.inside l p (p + n));
    met = λ l from upto done rest v e la r b f.
        let p = v.at in
        let q = p + n in
        let hi = p + (n + s.tokens) in
        let eh : q + s.tokens ≡ hi = omega arith in
        let ds = s.decls p hi q in
        let v1 : View = record { outer = v.outer ++ v.inner ∷ []; inner = []; home = v.home; vars = v.vars; at = q } in
        let e1 : skipped n (entered v) ≡ v1 = skipped_is n (entered v) (omega (arith, b, f)) in
        let r1 = opened_rel done from upto hi q v r (omega (arith, pos)) b in
        let sp = spread_wider p hi q (q + s.tokens) (p + 1) hi ds (omega (arith, pos)) (omega arith) (g.spread p hi q (omega (arith, pos)) (omega arith)) in
        subst (λ z. Met (s.at c l p q) (and_then (w l z) (λ x u. Goes x (left u))) (After done ds from upto v hi)) (sym e1)
        (met_on left (s.at c l p q) (w l v1) (After done ds p hi v1 (q + s.tokens)) (After done ds from upto v hi)
        (λ u k. let a = k.at in left_rel done ds from upto hi v u r (omega (arith, a, pos)) (a ∙ eh) sp k.rel k.outer)
        (g.met l p hi done rest v1 e (later_lower (q + s.tokens) hi rest (omega arith) la) r1 (omega arith) (omega (arith, b, f))));
  }

  -- a new variable
  some_or : (a : Option Named) (b : Bool) (m : Named) → is_some (or_else a (if b then Some m else None)) ≡ (if is_some a then true else b)
  some_or (Some x) b m = refl
  some_or None true m = refl
  some_or None false m = refl

  none_of : (a : Option Named) → is_some a ≡ false → a ≡ None
  none_of (Some x) e = absurd (cc)
  none_of None e = refl

  and_true : (b : Bool) → (b && true) ≡ b
  and_true true = refl
  and_true false = refl

  seen : (d : Decl) (q : ℕ) (y : List ℕ) → d.place < q → d.from ≤ q → q < d.upto → is_visible d q y ≡ bytes_eq y d.name
  seen d q y a b e =
      ap (λ z. bytes_eq y d.name && (z && (nat_le d.from q && nat_lt q d.upto))) (lt-ltb d.place q a)
      ∙ ap (λ z. bytes_eq y d.name && (z && nat_lt q d.upto)) (le-leb d.from q b)
      ∙ ap (λ z. bytes_eq y d.name && z) (lt-ltb q d.upto e)
      ∙ and_true (bytes_eq y d.name)

  in_block : (d : Decl) (q : ℕ) (y : List ℕ) → d.place < q → (bytes_eq y d.name && (nat_eq d.from d.from && nat_lt d.place q)) ≡ bytes_eq y d.name
  in_block d q y a =
      ap (λ z. bytes_eq y d.name && (z && nat_lt d.place q)) (eq-eqb d.from d.from refl)
      ∙ ap (λ z. bytes_eq y d.name && z) (lt-ltb d.place q a)
      ∙ and_true (bytes_eq y d.name)

  -- the two sides at a name, by whether it is the new one
  two_sides : (b : Bool) (a k l g : Option Named) (m m' : Named) → (b ≡ true → a ≡ None) → m ≡ m' → or_else a k ≡ or_else l g
      → or_else (or_else a (if b then Some m else None)) k ≡ or_else (or_else (if b then Some m' else None) l) g
  two_sides true a k l g m m' h e i = ap (λ z. or_else (or_else z (Some m)) k) (h refl) ∙ ap Some e
  two_sides false a k l g m m' h e i = ap (λ z. or_else z k) (or_none a) ∙ i

  number_is : (done : List Decl) (from upto : ℕ) (v : View) → Rel done from upto v → v.at < 2 ^ 32 → number (length v.vars) ≡ length done
  number_is done from upto v r f =
      let e : length v.vars ≡ length done = ap length r.vars ∙ length-map done (λ d. var_of d.shape) in
      let g = r.few in
      ap number e ∙ (let z : number (length done) ≡ length done = omega (arith, g, f) in z)

  declared_rel : (done : List Decl) (from upto : ℕ) (v : View) (x : List ℕ) (s : Shape) → Rel done from upto v → v.at + 1 < 2 ^ 32 → is_some (found v.inner x) ≡ false
      → Rel (done ++ record { name = x; place = v.at; from = from; upto = upto; shape = s } ∷ []) from upto (with_var v x s)
  declared_rel done from upto v x s r f free =
      let d : Decl = record { name = x; place = v.at; from = from; upto = upto; shape = s } in
      let m = nm.Variable (number (length v.vars)) s in
      let e : bump v.at 1 ≡ v.at + 1 = bump_is v.at 1 f in
      let st = r.starts in
      let fw = r.few in
      let outside = λ (y : List ℕ). or_else (known v.outer y) (builtin_named (builtin_of y)) in
      record {
        force = λ q a b y.
            let a1 : v.at < q = omega (arith, a, e) in
            ap (λ z. or_else z (builtin_named (builtin_of y))) (known_last v.outer (v.inner ++ (x, m) ∷ []) y)
            ∙ or_assoc (found (v.inner ++ (x, m) ∷ []) y) (known v.outer y) (builtin_named (builtin_of y))
            ∙ ap (λ z. or_else z (outside y)) (found_push v.inner x y m)
            ∙ two_sides (bytes_eq y x) (found v.inner y) (outside y) (last_visible 0 done q y) (outermost fs y) m (nm.Variable (0 + length done) s)
            (λ i. ap (found v.inner) ((bytes_eq-Decides y x).0 i) ∙ none_of (found v.inner x) free)
            (ap (λ z. nm.Variable z s) (number_is done from upto v r (omega (arith, f)) ∙ omega arith))
            (sym (ap (λ z. or_else z (builtin_named (builtin_of y))) (known_last v.outer v.inner y) ∙ or_assoc (found v.inner y) (known v.outer y) (builtin_named (builtin_of y))) ∙ r.force q (omega (arith, a1)) b y)
            ∙ ap (λ z. or_else (or_else (if z then Some (nm.Variable (0 + length done) s) else None) (last_visible 0 done q y)) (outermost fs y)) (sym (seen d q y a1 (omega (arith, a1, st)) b))
            ∙ ap (λ z. or_else z (outermost fs y)) (sym (last_push 0 q y done d));
        vars = ap (λ z. z ++ var_of s ∷ []) r.vars ∙ sym (map-append (λ d. var_of d.shape) done (d ∷ []));
        again = λ q a y.
            let a1 : v.at < q = omega (arith, a, e) in
            ap is_some (found_push v.inner x y m) ∙ some_or (found v.inner y) (bytes_eq y x) m
            ∙ ap (λ z. if z then true else bytes_eq y x) (r.again q (omega (arith, a1)) y)
            ∙ ap (λ z. if is_again done from q y then true else z) (sym (in_block d q y a1))
            ∙ sym (again_push from q y done d);
        sooner = sooner_append (bump v.at 1) done (d ∷ []) (sooner_upper v.at (bump v.at 1) done (omega (arith, e)) r.sooner) (omega (arith, e), omega (arith, e, st), tt);
        few = let n = length-append done (d ∷ []) in omega (arith, n, e, fw);
        starts = omega (arith, e, st);
        within = r.within;
      }

  declare_met : (n : ℕ) (b : Bool) (v : View) (x : List ℕ) (s : Shape) → n ≡ number (length v.vars)
      → Met (unless (violations v.at ((S2, b) ∷ [])) n) (declare_in b v x s) (λ u. (u ≡ with_var v x s) × (b ≡ false))
  declare_met n true v x s i = first_least _ [] (tt, tt)
  declare_met n false v x s i = (i, (refl, refl))

  pub declared_stood : (s : Shape) (t : Token) → Stood (declared s t) (walk_declared s t)
  unfolding declared_in
  declared_stood s t = record {
    spread = λ from upto p a b. record { later = (omega arith, tt); sooner = (omega arith, omega (arith, a), tt); ended = (omega arith, tt); inner = (omega arith, tt); few = omega arith };
    inside = λ l from p. inside_unless p (p + 1) _ _ (inside_violations p ((S2, is_again all from p (name_of t)) ∷ []));
    met = λ l from upto done rest v e la r b f.
        let p = v.at in
        let x = name_of t in
        let d : Decl = record { name = x; place = p; from = from; upto = upto; shape = s } in
        let ld : Later p (d ∷ rest) = (omega arith, later_lower p (p + 1) rest (omega arith) la) in
        let again : is_again all from p x ≡ is_some (found v.inner x) = ap (λ z. is_again z from p x) e ∙ apart_after from p x done (d ∷ rest) (later_apart p from p x (d ∷ rest) (omega arith) ld) ∙ sym (r.again p (omega arith) x) in
        let count : earlier all p ≡ number (length v.vars) = ap (λ z. earlier z p) e ∙ earlier_is p done (d ∷ rest) r.sooner ld ∙ sym (number_is done from upto v r (omega (arith, b, f))) in
        let free = is_some (found v.inner x) in
        met_weak (unless (violations p ((S2, is_again all from p x) ∷ [])) (earlier all p)) (declare_in free v x s) (λ u. (u ≡ with_var v x s) × (free ≡ false)) (After done (d ∷ []) from upto v (p + 1))
        (λ u h. subst (After done (d ∷ []) from upto v (p + 1)) (sym h.0) (record { rel = declared_rel done from upto v x s r (omega (arith, b, f)) h.1; outer = refl; at = bump_is p 1 (omega (arith, b, f)) }))
        (subst (λ z. Met (unless (violations p ((S2, z) ∷ [])) (earlier all p)) (declare_in free v x s) (λ u. (u ≡ with_var v x s) × (free ≡ false))) (sym again) (declare_met (earlier all p) free v x s count));
  }
