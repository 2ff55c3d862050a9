-- What a part is judged to be is what the walk meets: parts with one, two and three operands.
use Rattle.std.proofs.Common.{◌≡◌, ℕ, suc, ◌+◌, ◌<◌, ◌≤◌, ◌^◌, Bool, true, false, List, [], ◌∷◌, ◌++◌, Option, Some, None, refl, sym, ap, ◌∙◌, subst, arith}
use Rattle.clc_types.specs.declared.forms.Fault.{Fault}
use Rattle.clc_types.specs.declared.forms.Named.{Named}
use Rattle.clc_types.specs.declared.forms.Home.{Home}
use Rattle.clc_types.specs.Judged.{Judged, Fine, Faulty, both, next, unless, faults_of, Part, IsLeast, Context, none, one, two}
use Rattle.clc_types.specs.InternalScope.{Known}
use Rattle.clc_types.specs.InternalWalk.{Walked, Right, Wrong, Walk, after, guarded, bump}
use Rattle.clc_walk_exact.proofs.Least.{Inside, Same, inside_none, wider, guard_same, after_assoc, next_same, two_same, inside_unless, inside_next, inside_both, both_fine, next_fine}
use Rattle.clc_walk_exact.proofs.Needs.{Sound, sound_none}

pub bump_is : (p k : ℕ) → p + k < 2 ^ 32 → bump p k ≡ p + k
bump_is p k h = omega (arith, h)

pub same_at : {A : Type 0} (mid hi : ℕ) (j : Judged A) (w : Walked A) → mid ≡ hi → Same mid j w → Same hi j w
same_at mid hi j w e h = subst (λ z. Same z j w) e h

module _ (look : ℕ → List ℕ → Option Named) (k : Known) where
  abbrev pub context : Context
  context = record { look = look; home = k.home }

  -- between these tokens, what is looked up is what is known
  pub record Agreed (lo hi : ℕ) : Type 0 where
    pub fits : hi < 2 ^ 32
    pub same : (q : ℕ) → lo ≤ q → q < hi → (x : List ℕ) → look q x ≡ k.look x

  pub part : (lo hi lo' hi' : ℕ) → lo ≤ lo' → hi' ≤ hi → Agreed lo hi → Agreed lo' hi'
  part lo hi lo' hi' a b h = let f = h.fits in record { fits = omega (arith, f, b); same = λ q c d. h.same q (omega (arith, a, c)) (omega (arith, b, d)) }

  pub record Fair {A : Type 0} (b : Part A) (w : Walk A) : Type 0 where
    pub inside : (p : ℕ) → Inside p (p + b.tokens) (faults_of (b.at context p))
    pub same : (p : ℕ) → Agreed p (p + b.tokens) → Same (p + b.tokens) (b.at context p) (w p)

  -- it has some token, too
  pub record Good {A : Type 0} (b : Part A) (w : Walk A) : Type 0 where
    pub some : 0 < b.tokens
    pub fair : Fair b w

  pub good_as : {A : Type 0} (b : Part A) (w z : Walk A) → ((p : ℕ) → w p ≡ z p) → Good b w → Good b z
  good_as b w z e g = record { some = g.some; fair = record { inside = g.fair.inside; same = λ p a. subst (λ y. Same (p + b.tokens) (b.at context p) y) (e p) (g.fair.same p a) } }

  pub right_end : {A : Type 0} (b : Part A) (w : Walk A) → Good b w → Good b (λ p. after (w p) (λ x q. Right x q))
  right_end b w g = good_as b w (λ p. after (w p) (λ x q. Right x q)) (λ p. same (w p)) g
    where
      same : {A : Type 0} (w : Walked A) → w ≡ after w (λ x q. Right x q)
      same (Right a q) = refl
      same (Wrong f) = refl

  pub one_good : {A B : Type 0} (before last : ℕ) (a : Part A) (w : Walk A) (needs : ℕ → ℕ → A → List Fault) (form : A → B) (begin : ℕ → ℕ) (end : ℕ → ℕ → A → ℕ → Walked B)
      → Good a w
      → ((p q : ℕ) (x : A) → p ≤ q → Sound p (q + 1) (needs p q x))
      → ((p : ℕ) → p + before < 2 ^ 32 → begin p ≡ p + before)
      → ((p q : ℕ) (x : A) (r : ℕ) → r + last < 2 ^ 32 → end p q x r ≡ guarded (needs p q x) (Right (form x) (r + last)))
      → Good (one before a last needs form) (λ p. after (w (begin p)) (λ x q. end p (begin p) x q))
  one_good before last a w needs form begin end g snd bg en = record {
    some = let s = g.some in omega (arith, s);
    fair = record {
      inside = λ p.
          let s = g.some in
          let hi = p + (before + a.tokens + last) in
          let q = p + before in
          inside_next p hi (a.at context q) _ (wider q (q + a.tokens) p hi _ (omega arith) (omega arith) (g.fair.inside q))
          (λ x e. inside_unless p hi (needs p q x) (form x) (wider p (q + 1) p hi _ (omega arith) (omega (arith, s)) (snd p q x (omega arith)).inside));
      same = λ p ag.
          let hi = p + (before + a.tokens + last) in
          let q = p + before in
          let mid = q + a.tokens in
          let f = ag.fits in
          let e1 : begin p ≡ q = bg p (omega (arith, f)) in
          let e2 : mid + last ≡ hi = omega arith in
          subst (λ z. Same hi (next (a.at context q) (λ x. unless (needs p q x) (form x))) (after (w z) (λ x r. end p z x r))) (sym e1)
          (next_same mid hi (a.at context q) (w q) (λ x. unless (needs p q x) (form x)) (λ x r. end p q x r) (g.fair.same q (part p hi q mid (omega arith) (omega arith) ag))
          (λ x i. subst (λ z. Same hi (unless (needs p q x) (form x)) z) (sym (en p q x mid (omega (arith, f))))
          (subst (λ z. Same hi (unless (needs p q x) (form x)) (guarded (needs p q x) (Right (form x) z))) (sym e2) (guard_same hi (needs p q x) (form x) (snd p q x (omega arith)).sorted))));
    };
  }

  pub two_good : {A B C : Type 0} (between last : ℕ) (a : Part A) (v : Walk A) (b : Part B) (w : Walk B) (needs : ℕ → A → ℕ → B → List Fault) (form : A → ℕ → B → C) (end : ℕ → A → ℕ → B → ℕ → Walked C)
      → Good a v → Good b w
      → ((p : ℕ) (x : A) (y : B) → a.at context p ≡ Fine x → p < p + a.tokens + between → Sound p (p + a.tokens + between + 1) (needs p x (p + a.tokens + between) y))
      → ((p q : ℕ) (x : A) (y : B) (r : ℕ) → r + last < 2 ^ 32 → end p x q y r ≡ guarded (needs p x q y) (Right (form x q y) (r + last)))
      → Good (two a between b last needs form) (λ p. after (v p) (λ x q. after (w (bump q between)) (λ y r. end p x (bump q between) y r)))
  two_good between last a v b w needs form end g h snd en = record {
    some = let s = g.some in omega (arith, s);
    fair = record {
      inside = λ p.
          let s = g.some in
          let t = h.some in
          let hi = p + (a.tokens + between + b.tokens + last) in
          let q = p + a.tokens + between in
          inside_next p hi (both (a.at context p) (b.at context q)) _
          (inside_both p hi (a.at context p) (b.at context q) (wider p (p + a.tokens) p hi _ (omega arith) (omega arith) (g.fair.inside p)) (wider q (q + b.tokens) p hi _ (omega arith) (omega arith) (h.fair.inside q)))
          (λ x e. inside_unless p hi (needs p x.0 q x.1) (form x.0 q x.1) (wider p (q + 1) p hi _ (omega arith) (omega (arith, t)) (snd p x.0 x.1 (both_fine (a.at context p) (b.at context q) x e).0 (omega (arith, s))).inside));
      same = λ p ag.
          let s = g.some in
          let hi = p + (a.tokens + between + b.tokens + last) in
          let mid = p + a.tokens in
          let q = mid + between in
          let fin = q + b.tokens in
          let f = ag.fits in
          let e1 : bump mid between ≡ q = bump_is mid between (omega (arith, f)) in
          let e2 : fin + last ≡ hi = omega arith in
          two_same p mid q fin hi (a.at context p) (v p) (b.at context q) (λ x r. w (bump r between)) (λ x. unless (needs p x.0 q x.1) (form x.0 q x.1)) (λ x r y u. end p x (bump r between) y u)
          (g.fair.inside p) (omega arith) (h.fair.inside q) (g.fair.same p (part p hi p mid (omega arith) (omega arith) ag))
          (λ x. subst (λ z. Same fin (b.at context q) (w z)) (sym e1) (h.fair.same q (part p hi q fin (omega arith) (omega arith) ag)))
          (λ x y i j. subst (λ z. Same hi (unless (needs p x q y) (form x q y)) (end p x z y fin)) (sym e1)
          (subst (λ z. Same hi (unless (needs p x q y) (form x q y)) z) (sym (en p q x y fin (omega (arith, f))))
          (subst (λ z. Same hi (unless (needs p x q y) (form x q y)) (guarded (needs p x q y) (Right (form x q y) z))) (sym e2) (guard_same hi (needs p x q y) (form x q y) (snd p x y i (omega (arith, s))).sorted))));
    };
  }
