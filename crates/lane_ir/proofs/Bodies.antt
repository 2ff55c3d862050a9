-- A pass that changes definitions alone keeps what a body does.
use Rattle.std.proofs.Common.{◌≡◌, ℕ, zero, suc, ◌+◌, ◌*◌, ◌^◌, ◌<◌, ◌≤◌, Bool, true, false, List, [], ◌∷◌, ◌++◌, refl, ap, arith}
use Rattle.std.specs.Prelude.{◌==◌, ◌&&◌, nat_lt, if◌then◌else◌}
use Rattle.std.proofs.lemmas.Bool.{and_parts, ltb-true}
use Rattle.q_lane.specs.declared.kinds.Scalar.{Scalar}
use Rattle.item_ir.specs.declared.form.Def.{Def}
use Rattle.item_ir.specs.Memory.{with_at, element_at, with_element}
use Rattle.q_functions.specs.NumberFunctions.{bytes_of}
use Rattle.lane_ir.specs.Weights.{test_done}
use Rattle.lane_ir.specs.LaneMeaning.{World, State, Run, Ends, and_then, each, chosen, where_on, if_allowed, is_allowed, any_on, count_on, allowed, starts, noted, with_lane, costs, loads, stores, takes, sets, clears, rounds, run, run_row, run_all}
use Rattle.lane_ir.specs.Valid.{Counts, is_val, is_def, is_stmt, is_row, is_body}
use Rattle.lane_ir.specs.Kept.{IsWorld, Met, EndsAs, rewritten, rewritten_row, rewritten_all, DefsKept, BodiesKept}
use Rattle.lane_ir.specs.declared.form.LaneStmt.{LaneStmt, Row_of-LaneStmt, end_of-LaneStmt, more_of-LaneStmt}
use Rattle.lane_ir.specs.declared.form.LaneStmt.TheVariants.{Let, Put, Load, Store, GetElement, PutElement, Clear, WhileAny, WhileAny'}
use Rattle.lane_ir.proofs.Steps.{run-append, run-WhileAny, run-one, as_run, bind, each_kept, where_kept, allowed_kept, branch_kept, row_below, table_below, chosen_below, if_below}
use Rattle.q_lane.proofs.WordLaws.{narrowed-below}

-- the states stay alike where both count the same more
costs_kept : (k x : ℕ) (s t : State) → Met k s t → Met k (costs x s) (costs x t)
costs_kept k x s t m = record {
  same = record { vals = m.same.vals; vars = m.same.vars; arrays = m.same.arrays; mem = m.same.mem; log = m.same.log; transfers = m.same.transfers; steps = omega (arith, m.same.steps) };
  words = record { vals = m.words.vals; vars = m.words.vars; arrays = m.words.arrays };
}

starts_kept : (k x : ℕ) (s t : State) → Met k s t → Met k (starts x s) (starts x t)
starts_kept k x s t m = record {
  same = record { vals = m.same.vals; vars = m.same.vars; arrays = m.same.arrays; mem = m.same.mem; log = m.same.log; transfers = ap (λ y. y + x) m.same.transfers; steps = m.same.steps };
  words = record { vals = m.words.vals; vars = m.words.vars; arrays = m.words.arrays };
}

lane_kept : (k v l x : ℕ) (s t : State) → v < k → x < 2 ^ 32 → Met k s t → Met k (with_lane v l x s) (with_lane v l x t)
lane_kept k v l x s t h b m = record {
  same = record {
    vals = λ u g. λ i. if u == v then with_at (m.same.vals v h i) l x else m.same.vals u g i;
    vars = m.same.vars;
    arrays = m.same.arrays;
    mem = m.same.mem;
    log = m.same.log;
    transfers = m.same.transfers;
    steps = m.same.steps;
  };
  words = record {
    vals = λ u j g. row_below (u == v) (with_at (s.vals v) l x) (s.vals u) j (if_below (j == l) x (s.vals v j) b (m.words.vals v j h)) (m.words.vals u j g);
    vars = m.words.vars;
    arrays = m.words.arrays;
  };
}

noted_kept : (k l : ℕ) (b : Bool) (y : Scalar) (a : ℕ) (s t : State) → Met k s t → Met k (noted l b y a s) (noted l b y a t)
noted_kept k l b y a s t m = record {
  same = record { vals = m.same.vals; vars = m.same.vars; arrays = m.same.arrays; mem = m.same.mem; log = ap (λ z. record { lane = l; writes = b; address = a; len = bytes_of y } ∷ z) m.same.log; transfers = m.same.transfers; steps = m.same.steps };
  words = record { vals = m.words.vals; vars = m.words.vars; arrays = m.words.arrays };
}

module _ (w : World) (k : ℕ) where
  load_at : (y : Scalar) (d l a : ℕ) (s t : State) → d < k → Met k s t → EndsAs k (if_allowed (is_allowed w y a) (Ends (noted l false y a (with_lane d l (element_at s.mem y a) s)))) (if_allowed (is_allowed w y a) (Ends (noted l false y a (with_lane d l (element_at t.mem y a) t))))
  load_at y d l a s t h m =
      allowed_kept k (is_allowed w y a) _ _ (as_run k (Ends (noted l false y a (with_lane d l (element_at s.mem y a) s))) (Ends (noted l false y a (with_lane d l (element_at t.mem y a) t))) (Ends (noted l false y a (with_lane d l (element_at s.mem y a) t)))
      (ap (λ z. Ends (noted l false y a (with_lane d l (element_at z y a) t))) m.same.mem)
      (noted l false y a (with_lane d l (element_at s.mem y a) t), refl, noted_kept k l false y a _ _ (lane_kept k d l (element_at s.mem y a) s t h (narrowed-below y _) m)))

  loads_kept : (y : Scalar) (d a l : ℕ) (s t : State) → d < k → a < k → Met k s t → EndsAs k (loads w y d a l s) (loads w y d a l t)
  loads_kept y d a l s t h g m =
      as_run k (loads w y d a l s) (loads w y d a l t) (if_allowed (is_allowed w y (s.vals a l)) (Ends (noted l false y (s.vals a l) (with_lane d l (element_at t.mem y (s.vals a l)) t))))
      (ap (λ (z : ℕ → ℕ). if_allowed (is_allowed w y (z l)) (Ends (noted l false y (z l) (with_lane d l (element_at t.mem y (z l)) t)))) (m.same.vals a g))
      (load_at y d l (s.vals a l) s t h m)

  mem_kept : (y : Scalar) (a x : ℕ) (s t : State) → Met k s t → Met k (record s { mem = with_element s.mem y a x }) (record t { mem = with_element t.mem y a x })
  mem_kept y a x s t m = record {
    same = record { vals = m.same.vals; vars = m.same.vars; arrays = m.same.arrays; mem = ap (λ z. with_element z y a x) m.same.mem; log = m.same.log; transfers = m.same.transfers; steps = m.same.steps };
    words = record { vals = m.words.vals; vars = m.words.vars; arrays = m.words.arrays };
  }

  stores_kept : (y : Scalar) (a x l : ℕ) (s t : State) → a < k → x < k → Met k s t → EndsAs k (stores w y a x l s) (stores w y a x l t)
  stores_kept y a x l s t h g m =
      as_run k (stores w y a x l s) (stores w y a x l t) (if_allowed (is_allowed w y (s.vals a l)) (Ends (noted l true y (s.vals a l) (record t { mem = with_element t.mem y (s.vals a l) (s.vals x l) }))))
      (λ i. if_allowed (is_allowed w y (m.same.vals a h i l)) (Ends (noted l true y (m.same.vals a h i l) (record t { mem = with_element t.mem y (m.same.vals a h i l) (m.same.vals x g i l) }))))
      (allowed_kept k (is_allowed w y (s.vals a l)) _ _ (noted l true y (s.vals a l) (record t { mem = with_element t.mem y (s.vals a l) (s.vals x l) }), refl, noted_kept k l true y (s.vals a l) _ _ (mem_kept y (s.vals a l) (s.vals x l) s t m)))

  take_at : (d l e r : ℕ) (s t : State) → d < k → Met k s t → EndsAs k (Ends (with_lane d l (s.arrays r e l) s)) (Ends (with_lane d l (t.arrays r e l) t))
  take_at d l e r s t h m =
      as_run k (Ends (with_lane d l (s.arrays r e l) s)) (Ends (with_lane d l (t.arrays r e l) t)) (Ends (with_lane d l (s.arrays r e l) t)) (λ i. Ends (with_lane d l (m.same.arrays i r e l) t))
      (with_lane d l (s.arrays r e l) t, refl, lane_kept k d l (s.arrays r e l) s t h (m.words.arrays r e l) m)

  takes_kept : (r d j l : ℕ) (s t : State) → d < k → j < k → Met k s t → EndsAs k (takes w r d j l s) (takes w r d j l t)
  takes_kept r d j l s t h g m =
      as_run k (takes w r d j l s) (takes w r d j l t) (if_allowed (nat_lt (s.vals j l) (w.lens r)) (Ends (with_lane d l (t.arrays r (s.vals j l) l) t)))
      (λ i. if_allowed (nat_lt (m.same.vals j g i l) (w.lens r)) (Ends (with_lane d l (t.arrays r (m.same.vals j g i l) l) t)))
      (allowed_kept k (nat_lt (s.vals j l) (w.lens r)) _ _ (take_at d l (s.vals j l) r s t h m))

  arrays_kept : (a b : ℕ → ℕ → ℕ → ℕ) (s t : State) → b ≡ a → ((r e l : ℕ) → a r e l < 2 ^ 32) → Met k s t → Met k (record s { arrays = a }) (record t { arrays = b })
  arrays_kept a b s t e h m = record {
    same = record { vals = m.same.vals; vars = m.same.vars; arrays = e; mem = m.same.mem; log = m.same.log; transfers = m.same.transfers; steps = m.same.steps };
    words = record { vals = m.words.vals; vars = m.words.vars; arrays = h };
  }

  sets_kept : (r j x l : ℕ) (s t : State) → j < k → x < k → Met k s t → EndsAs k (sets w r j x l s) (sets w r j x l t)
  sets_kept r j x l s t h g m =
      as_run k (sets w r j x l s) (sets w r j x l t)
      (if_allowed (nat_lt (s.vals j l) (w.lens r)) (Ends (record t { arrays = with_at t.arrays r (with_at (t.arrays r) (s.vals j l) (with_at (t.arrays r (s.vals j l)) l (s.vals x l))) })))
      (λ i. if_allowed (nat_lt (m.same.vals j h i l) (w.lens r)) (Ends (record t { arrays = with_at t.arrays r (with_at (t.arrays r) (m.same.vals j h i l) (with_at (t.arrays r (m.same.vals j h i l)) l (m.same.vals x g i l))) })))
      (allowed_kept k (nat_lt (s.vals j l) (w.lens r)) _ _ (
        record t { arrays = with_at t.arrays r (with_at (t.arrays r) (s.vals j l) (with_at (t.arrays r (s.vals j l)) l (s.vals x l))) },
        refl,
        arrays_kept (with_at s.arrays r (with_at (s.arrays r) (s.vals j l) (with_at (s.arrays r (s.vals j l)) l (s.vals x l)))) _ s t
            (λ i. with_at (m.same.arrays i) r (with_at (m.same.arrays i r) (s.vals j l) (with_at (m.same.arrays i r (s.vals j l)) l (s.vals x l))))
            (λ q e y. table_below (q == r) (with_at (s.arrays r) (s.vals j l) (with_at (s.arrays r (s.vals j l)) l (s.vals x l))) (s.arrays q) e y
            (row_below (e == s.vals j l) (with_at (s.arrays r (s.vals j l)) l (s.vals x l)) (s.arrays r e) y
            (if_below (y == l) (s.vals x l) (s.arrays r (s.vals j l) y) (m.words.vals x l g) (m.words.arrays r (s.vals j l) y)) (m.words.arrays r e y))
            (m.words.arrays q e y)) m,
      ))

  clears_kept : (r l : ℕ) (s t : State) → Met k s t → EndsAs k (clears r l s) (clears r l t)
  clears_kept r l s t m = (
    record t { arrays = with_at t.arrays r (λ e. with_at (t.arrays r e) l 0) },
    refl,
    arrays_kept (with_at s.arrays r (λ e. with_at (s.arrays r e) l 0)) _ s t
        (λ i. with_at (m.same.arrays i) r (λ e. with_at (m.same.arrays i r e) l 0))
        (λ q e y. table_below (q == r) (λ z. with_at (s.arrays r z) l 0) (s.arrays q) e y (if_below (y == l) 0 (s.arrays r e y) (omega arith) (m.words.arrays r e y)) (m.words.arrays q e y)) m,
  )

  put_kept : (v x g : ℕ) (s t : State) → x < k → g < k → Met k s t
      → Met k (record s { vars = with_at s.vars v (λ l. chosen (s.vals g l) (s.vals x l) (s.vars v l)); steps = s.steps + 1 }) (record t { vars = with_at t.vars v (λ l. chosen (t.vals g l) (t.vals x l) (t.vars v l)); steps = t.steps + 1 })
  put_kept v x g s t h q m = record {
    same = record {
      vals = m.same.vals;
      vars = λ i. with_at (m.same.vars i) v (λ l. chosen (m.same.vals g q i l) (m.same.vals x h i l) (m.same.vars i v l));
      arrays = m.same.arrays;
      mem = m.same.mem;
      log = m.same.log;
      transfers = m.same.transfers;
      steps = omega (arith, m.same.steps);
    };
    words = record {
      vals = m.words.vals;
      vars = λ u l. row_below (u == v) (λ y. chosen (s.vals g y) (s.vals x y) (s.vars v y)) (s.vars u) l (chosen_below (s.vals g l) (s.vals x l) (s.vars v l) (m.words.vals x l h) (m.words.vars v l)) (m.words.vars u l);
      arrays = m.words.arrays;
    };
  }

  -- each masked lane, after the transfers are counted
  lanes_kept : (n g : ℕ) (f : ℕ → State → Run) (a : ℕ) (x y : ℕ) (s t : State) → g < k → y ≡ x → ((l : ℕ) (p q : State) → Met k p q → EndsAs k (f l p) (f l q)) → Met k s t
      → EndsAs k (each n (λ l. where_on (s.vals g l) (f l)) (starts x s)) (each n (λ l. where_on (t.vals g l) (f l)) (starts y t))
  lanes_kept n g f a x y s t h e go m =
      as_run k (each n (λ l. where_on (s.vals g l) (f l)) (starts x s)) (each n (λ l. where_on (t.vals g l) (f l)) (starts y t)) (each n (λ l. where_on (s.vals g l) (f l)) (starts x t))
      (λ i. each n (λ l. where_on (m.same.vals g h i l) (f l)) (starts (e i) t))
      (each_kept k n (λ l. where_on (s.vals g l) (f l)) (λ l. where_on (s.vals g l) (f l)) (λ l p q r. where_kept k (s.vals g l) (f l) (f l) p q r (go l p q r)) (starts x s) (starts x t) (starts_kept k x s t m))

  -- a loop
  loop_kept : (n : ℕ) (f g : State → Run) (a : ℕ) (p q : State → Run) (i j : ℕ) (s t : State) → a < k → i ≤ j
      → ((s t : State) → Met k s t → EndsAs k (f s) (g t)) → ((s t : State) → Met k s t → EndsAs k (p s) (q t)) → Met k s t → EndsAs k (rounds n i f a p s) (rounds n j g a q t)
  loop_kept n f g a p q zero j s t h e hf hp m = tt
  loop_kept n f g a p q (suc i) zero s t h e hf hp m = absurd (omega (arith, e))
  loop_kept n f g a p q (suc i) (suc j) s t h e hf hp m =
      bind k (f s) (g t) (λ x. if any_on n (x.vals a) then and_then (p (costs test_done x)) (rounds n i f a p) else Ends (costs test_done x)) (λ x. if any_on n (x.vals a) then and_then (q (costs test_done x)) (rounds n j g a q) else Ends (costs test_done x)) (hf s t m)
      (λ x y r. as_run k (if any_on n (x.vals a) then and_then (p (costs test_done x)) (rounds n i f a p) else Ends (costs test_done x))
      (if any_on n (y.vals a) then and_then (q (costs test_done y)) (rounds n j g a q) else Ends (costs test_done y))
      (if any_on n (x.vals a) then and_then (q (costs test_done y)) (rounds n j g a q) else Ends (costs test_done y))
      (ap (λ z. if any_on n z then and_then (q (costs test_done y)) (rounds n j g a q) else Ends (costs test_done y)) (r.same.vals a h))
      (branch_kept k (any_on n (x.vals a)) _ _ _ _
      (bind k (p (costs test_done x)) (q (costs test_done y)) (rounds n i f a p) (rounds n j g a q) (hp (costs test_done x) (costs test_done y) (costs_kept k test_done x y r))
      (λ x' y' r'. loop_kept n f g a p q i j x' y' h (omega (arith, e)) hf hp r'))
      (costs test_done y, refl, costs_kept k test_done x y r)))

module _ (f : ℕ → Def → List LaneStmt) (c : Counts) (w : World) (n i j : ℕ) (less : i ≤ j) (defs : DefsKept f c w n j) where
  one : (a : LaneStmt) (r : Run) (t : State) → EndsAs c.vals r (run w n j a t) → EndsAs c.vals r (run_all w n j (a ∷ []) t)
  one a r t h = as_run c.vals r (run_all w n j (a ∷ []) t) (run w n j a t) (run-one w n j a t) h

  joined : (r : Run) (go : State → Run) (a b : List LaneStmt) (t : State) → EndsAs c.vals r (run_all w n j a t) → ((p q : State) → Met c.vals p q → EndsAs c.vals (go p) (run_all w n j b q)) → EndsAs c.vals (and_then r go) (run_all w n j (a ++ b) t)
  joined r go a b t h next = as_run c.vals (and_then r go) (run_all w n j (a ++ b) t) (and_then (run_all w n j a t) (run_all w n j b)) (run-append w n j a b t) (bind c.vals r (run_all w n j a t) go (run_all w n j b) h next)

  mutual
    stmt_kept : (a : LaneStmt) (s t : State) → is_stmt c a ≡ true → Met c.vals s t → EndsAs c.vals (run w n i a s) (run_all w n j (rewritten f a) t)
    stmt_kept (Let v d) s t h m = let p = and_parts (is_val c v) (is_def c d) h in defs v.0 d s t (ltb-true v.0 c.vals p.0) p.1 m
    stmt_kept (Put v x g) s t h m =
        let p = and_parts (nat_lt v c.vars) (is_val c x && is_val c g) h in
        let q = and_parts (is_val c x) (is_val c g) p.1 in
        one (Put v x g) (run w n i (Put v x g) s) t (
          record t { vars = with_at t.vars v (λ l. chosen (t.vals g.0 l) (t.vals x.0 l) (t.vars v l)); steps = t.steps + 1 },
          refl,
          put_kept w c.vals v x.0 g.0 s t (ltb-true x.0 c.vals q.0) (ltb-true g.0 c.vals q.1) m,
        )
    stmt_kept (Load y d a g) s t h m =
        let p = and_parts (is_val c d) (is_val c a && is_val c g) h in
        let q = and_parts (is_val c a) (is_val c g) p.1 in
        let hd : d.0 < c.vals = ltb-true d.0 c.vals p.0 in
        let ha : a.0 < c.vals = ltb-true a.0 c.vals q.0 in
        let hg : g.0 < c.vals = ltb-true g.0 c.vals q.1 in
        one (Load y d a g) (run w n i (Load y d a g) s) t
        (lanes_kept w c.vals n g.0 (loads w y d.0 a.0) a.0 (allowed n y (s.vals g.0) (s.vals a.0)) (allowed n y (t.vals g.0) (t.vals a.0)) s t hg (λ z. allowed n y (m.same.vals g.0 hg z) (m.same.vals a.0 ha z))
        (λ l x z r. loads_kept w c.vals y d.0 a.0 l x z hd ha r) m)
    stmt_kept (Store y a x g) s t h m =
        let p = and_parts (is_val c a) (is_val c x && is_val c g) h in
        let q = and_parts (is_val c x) (is_val c g) p.1 in
        let ha : a.0 < c.vals = ltb-true a.0 c.vals p.0 in
        let hx : x.0 < c.vals = ltb-true x.0 c.vals q.0 in
        let hg : g.0 < c.vals = ltb-true g.0 c.vals q.1 in
        one (Store y a x g) (run w n i (Store y a x g) s) t
        (lanes_kept w c.vals n g.0 (stores w y a.0 x.0) a.0 (allowed n y (s.vals g.0) (s.vals a.0)) (allowed n y (t.vals g.0) (t.vals a.0)) s t hg (λ z. allowed n y (m.same.vals g.0 hg z) (m.same.vals a.0 ha z))
        (λ l u z r. stores_kept w c.vals y a.0 x.0 l u z ha hx r) m)
    stmt_kept (GetElement r d e g) s t h m =
        let p0 = and_parts (nat_lt r c.arrays) (is_val c d && (is_val c e && is_val c g)) h in
        let p = and_parts (is_val c d) (is_val c e && is_val c g) p0.1 in
        let q = and_parts (is_val c e) (is_val c g) p.1 in
        let hd : d.0 < c.vals = ltb-true d.0 c.vals p.0 in
        let he : e.0 < c.vals = ltb-true e.0 c.vals q.0 in
        let hg : g.0 < c.vals = ltb-true g.0 c.vals q.1 in
        one (GetElement r d e g) (run w n i (GetElement r d e g) s) t
        (lanes_kept w c.vals n g.0 (takes w r d.0 e.0) e.0 (count_on n (s.vals g.0)) (count_on n (t.vals g.0)) s t hg (λ z. count_on n (m.same.vals g.0 hg z))
        (λ l u z o. takes_kept w c.vals r d.0 e.0 l u z hd he o) m)
    stmt_kept (PutElement r e x g) s t h m =
        let p0 = and_parts (nat_lt r c.arrays) (is_val c e && (is_val c x && is_val c g)) h in
        let p = and_parts (is_val c e) (is_val c x && is_val c g) p0.1 in
        let q = and_parts (is_val c x) (is_val c g) p.1 in
        let he : e.0 < c.vals = ltb-true e.0 c.vals p.0 in
        let hx : x.0 < c.vals = ltb-true x.0 c.vals q.0 in
        let hg : g.0 < c.vals = ltb-true g.0 c.vals q.1 in
        one (PutElement r e x g) (run w n i (PutElement r e x g) s) t
        (lanes_kept w c.vals n g.0 (sets w r e.0 x.0) e.0 (count_on n (s.vals g.0)) (count_on n (t.vals g.0)) s t hg (λ z. count_on n (m.same.vals g.0 hg z))
        (λ l u z o. sets_kept w c.vals r e.0 x.0 l u z he hx o) m)
    stmt_kept (Clear r g) s t h m =
        let p = and_parts (nat_lt r c.arrays) (is_val c g) h in
        let hg : g.0 < c.vals = ltb-true g.0 c.vals p.1 in
        one (Clear r g) (run w n i (Clear r g) s) t
        (lanes_kept w c.vals n g.0 (clears r) g.0 (count_on n (s.vals g.0) * w.lens r) (count_on n (t.vals g.0) * w.lens r) s t hg (λ z. count_on n (m.same.vals g.0 hg z) * w.lens r)
        (λ l u z o. clears_kept w c.vals r l u z o) m)
    stmt_kept (WhileAny' u head g b body) s t h m =
        let p = and_parts (is_val c g) (is_row c head && is_row c body) h in
        let q = and_parts (is_row c head) (is_row c body) p.1 in
        one (WhileAny (rewritten_row f head) g (rewritten_row f body)) (rounds n i (run_row w n i head) g.0 (run_row w n i body) s) t
        (as_run c.vals (rounds n i (run_row w n i head) g.0 (run_row w n i body) s) (run w n j (WhileAny (rewritten_row f head) g (rewritten_row f body)) t)
        (rounds n j (run_all w n j (rewritten_row f head)) g.0 (run_all w n j (rewritten_row f body)) t) (run-WhileAny w n j (rewritten_row f head) g (rewritten_row f body) t)
        (loop_kept w c.vals n (run_row w n i head) (run_all w n j (rewritten_row f head)) g.0 (run_row w n i body) (run_all w n j (rewritten_row f body)) i j s t (ltb-true g.0 c.vals p.0) less
        (λ x y r. row_kept head x y q.0 r) (λ x y r. row_kept body x y q.1 r) m))

    row_kept : {u : _} (r : Row_of-LaneStmt u) (s t : State) → is_row c r ≡ true → Met c.vals s t → EndsAs c.vals (run_row w n i r s) (run_all w n j (rewritten_row f r) t)
    row_kept end_of-LaneStmt s t h m = (t, refl, m)
    row_kept (more_of-LaneStmt a rest) s t h m =
        let p = and_parts (is_stmt c a) (is_row c rest) h in
        joined (run w n i a s) (run_row w n i rest) (rewritten f a) (rewritten_row f rest) t (stmt_kept a s t p.0 m) (λ x y r. row_kept rest x y p.1 r)

  body_kept : (l : List LaneStmt) (s t : State) → is_body c l ≡ true → Met c.vals s t → EndsAs c.vals (run_all w n i l s) (run_all w n j (rewritten_all f l) t)
  body_kept [] s t h m = (t, refl, m)
  body_kept (a ∷ rest) s t h m =
      let p = and_parts (is_stmt c a) (is_body c rest) h in
      joined (run w n i a s) (run_all w n i rest) (rewritten f a) (rewritten_all f rest) t (stmt_kept a s t p.0 m) (λ x y r. body_kept rest x y p.1 r)

pub bodies : (f : ℕ → Def → List LaneStmt) (c : Counts) (w : World) (n least : ℕ) → IsWorld w → ((i : ℕ) → least ≤ i → DefsKept f c w n i) → BodiesKept f c w n least
bodies f c w n least o defs i j body s t less enough h m = body_kept f c w n i j less (defs j enough) body s t h m
