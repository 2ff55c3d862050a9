-- How far marks reach, as one more is passed, and what that says of conflicts.
use Rattle.std.proofs.Common.{arith, ◌≡◌, ℕ, ◌<◌, ◌≤◌, max, true, false, eqb, ltb, List, [], ◌∷◌, ◌++◌, refl, sym, ap, ◌∙◌, subst, inl, inr, ⊎_elim}
use Rattle.std.specs.Prelude.{◌⊎◌, Contains}
use Rattle.std.proofs.lemmas.Bool.{cond_both, cases_Bool, and_parts, and_cases, or_cases, or_parts, eqb-true, eqb-false, ltb-true, ltb-false}
use Rattle.std.proofs.lemmas.List.Elements.{Contains-append_left, Contains-push, Contains-push_cases}
use Rattle.footprint.specs.Marks.{ConflictAt}
use Rattle.footprint.specs.Order.{IsNoLater}
use Rattle.footprint.specs.Reaches.{further, reach_with, meets_use, meets}
use Rattle.footprint.specs.declared.marks.Mark.{Mark}
use Rattle.footprint.specs.declared.marks.Use.{Use}
use Rattle.footprint.specs.declared.marks.Use.TheVariants.{Read, Write}
use Rattle.footprint.specs.declared.reach.Reach.{Reach}
use Rattle.footprint.proofs.ConflictLaws.{in_one}

-- a mark of this use, in this buffer, that ends here
pub record Ends (marks : List Mark) (how : Use) (buffer to : ℕ) : Type 0 where
  pub mark : Mark
  pub there : Contains marks mark
  pub use_is : mark.how ≡ how
  pub buffer_is : mark.buffer ≡ buffer
  pub to_is : mark.to ≡ to

-- what is kept of the marks that were passed
pub record IsReach (marks : List Mark) (r : Reach) : Type 0 where
  pub buffers : (m : Mark) → Contains marks m → m.buffer ≤ r.buffer
  pub buffer_there : (r.buffer ≡ 0) ⊎ ((m : Mark) × Contains marks m × (m.buffer ≡ r.buffer))
  pub reads : (m : Mark) → Contains marks m → m.buffer ≡ r.buffer → m.how ≡ Read → m.to ≤ r.read_to
  pub writes : (m : Mark) → Contains marks m → m.buffer ≡ r.buffer → m.how ≡ Write → m.to ≤ r.write_to
  pub read_there : (r.read_to ≡ 0) ⊎ Ends marks Read r.buffer r.read_to
  pub write_there : (r.write_to ≡ 0) ⊎ Ends marks Write r.buffer r.write_to

none_there : (m : Mark) → Contains [] m → ⊥
none_there m c = let l : c.0 < 0 = c.1 in omega arith

pub reach_none : IsReach [] (record { buffer = 0; read_to = 0; write_to = 0 })
reach_none = record {
  buffers = λ m c. absurd (none_there m c);
  buffer_there = inl refl;
  reads = λ m c e f. absurd (none_there m c);
  writes = λ m c e f. absurd (none_there m c);
  read_there = inl refl;
  write_there = inl refl;
}

still_ends : (marks : List Mark) (m : Mark) (how : Use) (buffer to : ℕ) → Ends marks how buffer to → Ends (marks ++ m ∷ []) how buffer to
still_ends marks m how buffer to e = record {
  mark = e.mark;
  there = Contains-append_left marks (m ∷ []) e.mark e.there;
  use_is = e.use_is;
  buffer_is = e.buffer_is;
  to_is = e.to_is;
}

ends_here : (marks : List Mark) (m : Mark) → Ends (marks ++ m ∷ []) m.how m.buffer m.to
ends_here marks m = record { mark = m; there = Contains-push marks m; use_is = refl; buffer_is = refl; to_is = refl }

max_left : (a b : ℕ) → a ≤ max a b
max_left a b = omega arith

max_right : (a b : ℕ) → b ≤ max a b
max_right a b = omega arith

max_is : (a b : ℕ) → (max a b ≡ a) ⊎ (max a b ≡ b)
max_is a b = grind arith

read_not_write : Read ≡ Write → ⊥
read_not_write e = cc

read_or_write : (how : Use) → (how ≡ Read) ⊎ (how ≡ Write)
read_or_write Read = inl refl
read_or_write Write = inr refl

module _ (marks : List Mark) (how : Use) where
  -- the greatest end so far, with one more
  max_ends : (b t e : ℕ) (m : Mark) → m.buffer ≡ b → m.how ≡ how → m.to ≡ e → (t ≡ 0) ⊎ Ends marks how b t → (max t e ≡ 0) ⊎ Ends (marks ++ m ∷ []) how b (max t e)
  max_ends b t e m p q s h = ⊎_elim
      (λ (k : max t e ≡ t). ⊎_elim
      (λ (z : t ≡ 0). inl (k ∙ z))
      (λ x. inr (subst (λ (n : ℕ). Ends (marks ++ m ∷ []) how b n) (sym k) (still_ends marks m how b t x)))
      h)
      (λ (k : max t e ≡ e). inr (record { mark = m; there = Contains-push marks m; use_is = q; buffer_is = p; to_is = s ∙ sym k }))
      (max_is t e)

-- a mark more in the buffer that they reach
further_same : (marks : List Mark) (r : Reach) (m : Mark) → IsReach marks r → r.buffer ≡ m.buffer → (how : Use) → m.how ≡ how → IsReach (marks ++ m ∷ []) (further r how m.to)
further_same marks r m h e Read is = record {
  buffers = λ n c. ⊎_elim (λ d. h.buffers n d) (λ (q : m ≡ n). let s : m.buffer ≡ n.buffer = ap (λ (k : Mark). k.buffer) q in let z : n.buffer ≤ r.buffer = omega arith in z) (Contains-push_cases marks m n c);
  buffer_there = inr (m, Contains-push marks m, sym e);
  reads = λ n c p q. ⊎_elim
      (λ d. let l : n.to ≤ r.read_to = h.reads n d p q in let k = max_left r.read_to m.to in let z : n.to ≤ max r.read_to m.to = omega (arith, k) in z)
      (λ (s : m ≡ n). let t : m.to ≡ n.to = ap (λ (k : Mark). k.to) s in let k = max_right r.read_to m.to in let z : n.to ≤ max r.read_to m.to = omega (arith, k) in z)
      (Contains-push_cases marks m n c);
  writes = λ n c p q. ⊎_elim
      (λ d. h.writes n d p q)
      (λ (s : m ≡ n). absurd (read_not_write (sym is ∙ (ap (λ (k : Mark). k.how) s ∙ q))))
      (Contains-push_cases marks m n c);
  read_there = max_ends marks Read r.buffer r.read_to m.to m (sym e) is refl h.read_there;
  write_there = ⊎_elim (λ z. inl z) (λ x. inr (still_ends marks m Write r.buffer r.write_to x)) h.write_there;
}
further_same marks r m h e Write is = record {
  buffers = λ n c. ⊎_elim (λ d. h.buffers n d) (λ (q : m ≡ n). let s : m.buffer ≡ n.buffer = ap (λ (k : Mark). k.buffer) q in let z : n.buffer ≤ r.buffer = omega arith in z) (Contains-push_cases marks m n c);
  buffer_there = inr (m, Contains-push marks m, sym e);
  reads = λ n c p q. ⊎_elim
      (λ d. h.reads n d p q)
      (λ (s : m ≡ n). absurd (read_not_write (sym q ∙ (ap (λ (k : Mark). k.how) (sym s) ∙ is))))
      (Contains-push_cases marks m n c);
  writes = λ n c p q. ⊎_elim
      (λ d. let l : n.to ≤ r.write_to = h.writes n d p q in let k = max_left r.write_to m.to in let z : n.to ≤ max r.write_to m.to = omega (arith, k) in z)
      (λ (s : m ≡ n). let t : m.to ≡ n.to = ap (λ (k : Mark). k.to) s in let k = max_right r.write_to m.to in let z : n.to ≤ max r.write_to m.to = omega (arith, k) in z)
      (Contains-push_cases marks m n c);
  read_there = ⊎_elim (λ z. inl z) (λ x. inr (still_ends marks m Read r.buffer r.read_to x)) h.read_there;
  write_there = max_ends marks Write r.buffer r.write_to m.to m (sym e) is refl h.write_there;
}

-- no mark that was passed has a later buffer
no_later_buffer : (m n : Mark) → IsNoLater m n → m.buffer ≤ n.buffer
no_later_buffer m n h = ⊎_elim (λ (l : m.buffer < n.buffer). omega arith) (λ p. let e : m.buffer ≡ n.buffer = p.0 in let z : m.buffer ≤ n.buffer = omega arith in z) h

reached_before : (marks : List Mark) (r : Reach) (m : Mark) → IsReach marks r → ((n : Mark) → Contains marks n → IsNoLater n m) → r.buffer ≤ m.buffer
reached_before marks r m h l = ⊎_elim
    (λ (e : r.buffer ≡ 0). omega arith)
    (λ x. let k = no_later_buffer x.0 m (l x.0 x.1) in let e : x.0.buffer ≡ r.buffer = x.2 in let z : r.buffer ≤ m.buffer = omega (arith, k) in z)
    h.buffer_there

-- where the next mark has another buffer, they reach no byte of it
fresh : (marks : List Mark) (r : Reach) (m : Mark) → IsReach marks r → ((n : Mark) → Contains marks n → IsNoLater n m) → (r.buffer ≡ m.buffer → ⊥)
    → (n : Mark) → Contains marks n → n.buffer ≡ m.buffer → ⊥
fresh marks r m h l d n c e =
    let before : r.buffer ≤ m.buffer = reached_before marks r m h l in
    let here : n.buffer ≤ r.buffer = h.buffers n c in
    d (omega arith)

reset : (marks : List Mark) (r : Reach) (m : Mark) → IsReach marks r → ((n : Mark) → Contains marks n → IsNoLater n m) → (r.buffer ≡ m.buffer → ⊥)
    → (how : Use) → m.how ≡ how → IsReach (marks ++ m ∷ []) (further (record { buffer = m.buffer; read_to = 0; write_to = 0 }) how m.to)
reset marks r m h l d Read is = record {
  buffers = λ n c. ⊎_elim (λ x. no_later_buffer n m (l n x)) (λ (q : m ≡ n). let s : m.buffer ≡ n.buffer = ap (λ (k : Mark). k.buffer) q in let z : n.buffer ≤ m.buffer = omega arith in z) (Contains-push_cases marks m n c);
  buffer_there = inr (m, Contains-push marks m, refl);
  reads = λ n c p q. ⊎_elim
      (λ x. absurd (fresh marks r m h l d n x p))
      (λ (s : m ≡ n). let t : m.to ≡ n.to = ap (λ (k : Mark). k.to) s in let z : n.to ≤ max 0 m.to = omega arith in z)
      (Contains-push_cases marks m n c);
  writes = λ n c p q. ⊎_elim
      (λ x. absurd (fresh marks r m h l d n x p))
      (λ (s : m ≡ n). absurd (read_not_write (sym is ∙ (ap (λ (k : Mark). k.how) s ∙ q))))
      (Contains-push_cases marks m n c);
  read_there = max_ends marks Read m.buffer 0 m.to m refl is refl (inl refl);
  write_there = inl refl;
}
reset marks r m h l d Write is = record {
  buffers = λ n c. ⊎_elim (λ x. no_later_buffer n m (l n x)) (λ (q : m ≡ n). let s : m.buffer ≡ n.buffer = ap (λ (k : Mark). k.buffer) q in let z : n.buffer ≤ m.buffer = omega arith in z) (Contains-push_cases marks m n c);
  buffer_there = inr (m, Contains-push marks m, refl);
  reads = λ n c p q. ⊎_elim
      (λ x. absurd (fresh marks r m h l d n x p))
      (λ (s : m ≡ n). absurd (read_not_write (sym q ∙ (ap (λ (k : Mark). k.how) (sym s) ∙ is))))
      (Contains-push_cases marks m n c);
  writes = λ n c p q. ⊎_elim
      (λ x. absurd (fresh marks r m h l d n x p))
      (λ (s : m ≡ n). let t : m.to ≡ n.to = ap (λ (k : Mark). k.to) s in let z : n.to ≤ max 0 m.to = omega arith in z)
      (Contains-push_cases marks m n c);
  read_there = inl refl;
  write_there = max_ends marks Write m.buffer 0 m.to m refl is refl (inl refl);
}

pub reach_more : (marks : List Mark) (r : Reach) (m : Mark) → IsReach marks r → ((n : Mark) → Contains marks n → IsNoLater n m) → IsReach (marks ++ m ∷ []) (reach_with r m)
reach_more marks r m h l =
    cond_both (eqb r.buffer m.buffer) r (record { buffer = m.buffer; read_to = 0; write_to = 0 }) (λ (s : Reach). IsReach (marks ++ m ∷ []) (further s m.how m.to))
    (λ e. further_same marks r m h (eqb-true r.buffer m.buffer e) m.how refl)
    (λ e. reset marks r m h l (eqb-false r.buffer m.buffer e) m.how refl)

-- where the test holds, a mark that was passed has the first byte of the next, and one of them writes
pub record Meets (marks : List Mark) (m : Mark) : Type 0 where
  pub other : Mark
  pub there : Contains marks other
  pub buffer : m.buffer ≡ other.buffer
  pub to : m.from < other.to
  pub one_writes : (m.how ≡ Write) ⊎ (other.how ≡ Write)

by_write : (marks : List Mark) (r : Reach) (m : Mark) → IsReach marks r → r.buffer ≡ m.buffer → m.from < r.write_to → Meets marks m
by_write marks r m h e l = ⊎_elim
    (λ (z : r.write_to ≡ 0). absurd (omega arith))
    (λ x. let t : x.mark.to ≡ r.write_to = x.to_is in record { other = x.mark; there = x.there; buffer = sym (x.buffer_is ∙ e); to = omega arith; one_writes = inr x.use_is })
    h.write_there

by_read : (marks : List Mark) (r : Reach) (m : Mark) → IsReach marks r → r.buffer ≡ m.buffer → m.how ≡ Write → m.from < r.read_to → Meets marks m
by_read marks r m h e w l = ⊎_elim
    (λ (z : r.read_to ≡ 0). absurd (omega arith))
    (λ x. let t : x.mark.to ≡ r.read_to = x.to_is in record { other = x.mark; there = x.there; buffer = sym (x.buffer_is ∙ e); to = omega arith; one_writes = inl w })
    h.read_there

meets_by : (marks : List Mark) (r : Reach) (m : Mark) → IsReach marks r → r.buffer ≡ m.buffer → (how : Use) → m.how ≡ how → meets_use r how m.from ≡ true → Meets marks m
meets_by marks r m h e Read is t = by_write marks r m h e (ltb-true m.from r.write_to t)
meets_by marks r m h e Write is t = ⊎_elim
    (λ u. by_write marks r m h e (ltb-true m.from r.write_to u))
    (λ u. by_read marks r m h e is (ltb-true m.from r.read_to u))
    (or_cases (ltb m.from r.write_to) (ltb m.from r.read_to) t)

pub meets_true : (marks : List Mark) (r : Reach) (m : Mark) → IsReach marks r → meets r m ≡ true → Meets marks m
meets_true marks r m h t =
    let p = and_parts (eqb r.buffer m.buffer) (meets_use r m.how m.from) t in
    meets_by marks r m h (eqb-true r.buffer m.buffer p.0) m.how refl p.1

-- and where it doesn't, none conflicts with it anywhere
apart_by : (marks : List Mark) (r : Reach) (m : Mark) → IsReach marks r → r.buffer ≡ m.buffer → (how : Use) → m.how ≡ how → meets_use r how m.from ≡ false
    → (n : Mark) → Contains marks n → n.buffer ≡ m.buffer → m.from < n.to → (m.how ≡ Write) ⊎ (n.how ≡ Write) → ⊥
apart_by marks r m h e Read is t n c f l w =
    let low : r.write_to ≤ m.from = ltb-false m.from r.write_to t in
    let write : n.how ≡ Write = ⊎_elim (λ (u : m.how ≡ Write). absurd (read_not_write (sym is ∙ u))) (λ u. u) w in
    let high : n.to ≤ r.write_to = h.writes n c (f ∙ sym e) write in
    omega arith
apart_by marks r m h e Write is t n c f l w =
    let p = or_parts (ltb m.from r.write_to) (ltb m.from r.read_to) t in
    let low : r.write_to ≤ m.from = ltb-false m.from r.write_to p.0 in
    let low_read : r.read_to ≤ m.from = ltb-false m.from r.read_to p.1 in
    ⊎_elim
    (λ (u : n.how ≡ Read). let high : n.to ≤ r.read_to = h.reads n c (f ∙ sym e) u in let z : ⊥ = omega arith in z)
    (λ (u : n.how ≡ Write). let high : n.to ≤ r.write_to = h.writes n c (f ∙ sym e) u in let z : ⊥ = omega arith in z)
    (read_or_write n.how)

pub meets_false : (marks : List Mark) (r : Reach) (m : Mark) → IsReach marks r → ((n : Mark) → Contains marks n → IsNoLater n m) → meets r m ≡ false
    → (b x : ℕ) → ConflictAt (m ∷ []) marks b x → ⊥
meets_false marks r m h l t b x k =
    let here = in_one m k.0 b x k.2 in
    let there = k.3 in
    let n = there.0 in
    let from : m.from ≤ x = here.2 in
    let to : x < n.to = there.2.3 in
    let same : n.buffer ≡ m.buffer = sym there.2.1 ∙ here.1 in
    let writes : (m.how ≡ Write) ⊎ (n.how ≡ Write) = ⊎_elim (λ (e : k.0 ≡ Write). inl (sym here.0 ∙ e)) (λ (e : k.1 ≡ Write). inr (sym there.2.0 ∙ e)) k.4 in
    ⊎_elim
    (λ (e : eqb r.buffer m.buffer ≡ false). fresh marks r m h l (eqb-false r.buffer m.buffer e) n there.1 same)
    (λ (e : meets_use r m.how m.from ≡ false). ⊎_elim
    (λ (d : eqb r.buffer m.buffer ≡ true). apart_by marks r m h (eqb-true r.buffer m.buffer d) m.how refl e n there.1 same (omega arith) writes)
    (λ (d : eqb r.buffer m.buffer ≡ false). fresh marks r m h l (eqb-false r.buffer m.buffer d) n there.1 same)
    (cases_Bool (eqb r.buffer m.buffer)))
    (and_cases (eqb r.buffer m.buffer) (meets_use r m.how m.from) t)
